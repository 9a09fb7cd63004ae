-- Texts of settings and of groups behind one another.
use Rattle.std.specs.Prelude.{ℕ, ◌≡◌, refl, true, false, List, [], ◌∷◌, ◌++◌}
use Rattle.std.proofs.Common.{ap, sym, ◌∙◌, true≢false, append_assoc, append-nil}
use Rattle.std.proofs.lemmas.Bool.{false≢true}
use Rattle.text.specs.Words.{word}
use Rattle.text.specs.declared.Dialect.TheVariants as D
use Rattle.lines.specs.Lines.{Line, setting}
use Rattle.lines.specs.Rendering.{render, rendered}
use Rattle.records.specs.Record.{Join}
use Rattle.written.specs.Written.{WrittenRow, row_lines, headed_lines, hidden_rows, secret_rows, ipv4_rows, ipv6_rows, file_text}
use Rattle.written.specs.Texts.{rows_text, group_text, some_row}

rendered_append : (a b : List Line) → rendered D.Iwd (a ++ b) ≡ rendered D.Iwd a ++ rendered D.Iwd b
rendered_append [] b = refl
rendered_append (l ∷ a) b =
    ap (λ (t : List ℕ). render D.Iwd l ++ 10 ∷ t) (rendered_append a b)
    ∙ sym (append_assoc (render D.Iwd l) (10 ∷ rendered D.Iwd a) (rendered D.Iwd b))

pub row_lines_append : (a b : List WrittenRow) → row_lines (a ++ b) ≡ row_lines a ++ row_lines b
row_lines_append [] b = refl
row_lines_append (r ∷ a) b = ap (λ (t : List Line). setting r.0 r.1 ∷ t) (row_lines_append a b)

pub rows_append : (a b : List WrittenRow) → rows_text (a ++ b) ≡ rows_text a ++ rows_text b
unfolding rows_text
rows_append a b = ap (rendered D.Iwd) (row_lines_append a b) ∙ rendered_append (row_lines a) (row_lines b)

-- a group with a setting: its header, and then its settings
pub group_text_lem : (n : List ℕ) (rs : List WrittenRow) → some_row rs ≡ true →
    group_text n rs ≡ (91 ∷ (n ++ 93 ∷ 10 ∷ [])) ++ rows_text rs
unfolding rows_text group_text
group_text_lem n [] e = absurd (false≢true e)
group_text_lem n (r ∷ rs) e = ap (λ (t : List ℕ). 91 ∷ t) (append_assoc n (93 ∷ []) (10 ∷ rendered D.Iwd (row_lines (r ∷ rs))) ∙ sym (append_assoc n (93 ∷ 10 ∷ []) (rendered D.Iwd (row_lines (r ∷ rs)))))

pub group_none : (n : List ℕ) (rs : List WrittenRow) → some_row rs ≡ false → group_text n rs ≡ []
unfolding group_text
group_none n [] e = refl
group_none n (r ∷ rs) e = absurd (true≢false e)

-- the file is the text of its four groups
pub file_groups : (j : Join) →
    file_text j ≡ group_text (word "Settings") (hidden_rows j.hidden) ++ group_text (word "Security") (secret_rows j.credential) ++ group_text (word "IPv4") (ipv4_rows j.ipv4 j.servers j.domain) ++ group_text (word "IPv6") (ipv6_rows j.ipv6)
unfolding file_text group_text
file_groups j =
    let a = headed_lines (word "Settings") (hidden_rows j.hidden) in
    let b = headed_lines (word "Security") (secret_rows j.credential) in
    let c = headed_lines (word "IPv4") (ipv4_rows j.ipv4 j.servers j.domain) in
    let d = headed_lines (word "IPv6") (ipv6_rows j.ipv6) in
    rendered_append a (b ++ (c ++ (d ++ [])))
    ∙ ap (λ (t : List ℕ). rendered D.Iwd a ++ t) (rendered_append b (c ++ (d ++ [])) ∙ ap (λ (t : List ℕ). rendered D.Iwd b ++ t) (rendered_append c (d ++ []) ∙ ap (λ (t : List ℕ). rendered D.Iwd c ++ t) (ap (rendered D.Iwd) (append-nil d))))
    ∙ simp append_assoc
