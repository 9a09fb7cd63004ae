-- What is written reads back: a line as that line, and lines as those lines.
use Rattle.std.specs.Prelude.{ℕ, ◌≡◌, refl, true, false, List, [], ◌∷◌, ◌++◌, map}
use Rattle.std.proofs.Common.{ap, ap₂, ◌∙◌, true≢false}
use Rattle.text.specs.Bytes.{in_line, is_blank, is_header_byte, is_key_byte}
use Rattle.text.specs.Parts.{all, after, empty, lines}
use Rattle.text.specs.Laws.{all_cons, all_append, all_other, pass_other, front_append, after_append, lines_append}
use Rattle.text.specs.declared.Dialect.{Dialect}
use Rattle.text.specs.declared.Dialect.TheVariants.{Iwd, ConnMan}
use Rattle.lines.specs.Lines.{Line, blank, comment, header, setting, broken, extends, bracket_of, equal_of, setting_of, line_of}
use Rattle.lines.specs.Rendering.{equals, render, rendered, HeaderText, SettingText, WritableLine, WritableLines}

-- ---- a header

extends_append : (d : Dialect) (n r : List ℕ) → empty n ≡ false → extends d (n ++ r) ≡ extends d n
extends_append ConnMan n r h = refl
extends_append Iwd [] r h = absurd (true≢false h)
extends_append Iwd (x ∷ n) r h = refl

header_render : (d : Dialect) (n : List ℕ) → HeaderText d n → line_of d (render d (header n)) ≡ header n
unfolding line_of bracket_of
header_render d n w =
    rw (extends_append d n (93 ∷ []) w.some, w.plain, front_append is_header_byte n 93 [] w.bytes refl, after_append is_header_byte n 93 [] w.bytes refl, w.some)

-- ---- a setting

-- bytes that are in no key
pub no_key : (d : Dialect) →
    (is_key_byte d 32 ≡ false) × (is_key_byte d 9 ≡ false) × (is_key_byte d 35 ≡ false) × (is_key_byte d 91 ≡ false) × (is_key_byte d 61 ≡ false) × (is_key_byte d 10 ≡ false)
unfolding is_key_byte
no_key Iwd = (refl, refl, refl, refl, refl, refl)
no_key ConnMan = (refl, refl, refl, refl, refl, refl)

key_body : (d : Dialect) (k r : List ℕ) → empty k ≡ false → all (is_key_byte d) k ≡ true →
    line_of d (k ++ r) ≡ setting_of d (k ++ r)
unfolding line_of
key_body d [] r e h = absurd (true≢false e)
key_body d (x ∷ k) r e h =
    let p : is_key_byte d x ≡ true = (all_cons (is_key_byte d) x k h).0 in
    rw (pass_other (is_key_byte d) 32 (no_key d).0 x p, pass_other (is_key_byte d) 9 (no_key d).1 x p, pass_other (is_key_byte d) 35 (no_key d).2 x p, pass_other (is_key_byte d) 91 (no_key d).3 x p)

key_equal : (d : Dialect) (k : List ℕ) (y : ℕ) (r : List ℕ) → all (is_key_byte d) k ≡ true → is_key_byte d y ≡ false →
    setting_of d (k ++ y ∷ r) ≡ equal_of d k (after is_blank (y ∷ r))
unfolding setting_of
key_equal d k y r h n =
    ap₂ (equal_of d) (front_append (is_key_byte d) k y r h n) (ap (after is_blank) (after_append (is_key_byte d) k y r h n))

setting_render : (d : Dialect) (k v : List ℕ) → SettingText d k v → line_of d (render d (setting k v)) ≡ setting k v
setting_render Iwd k v w =
    key_body Iwd k (61 ∷ v) w.some w.bytes ∙ key_equal Iwd k 61 v w.bytes (no_key Iwd).4
    ∙ rw (w.some, w.start)
setting_render ConnMan k v w =
    key_body ConnMan k (32 ∷ 61 ∷ 32 ∷ v) w.some w.bytes
    ∙ key_equal ConnMan k 32 (61 ∷ 32 ∷ v) w.bytes (no_key ConnMan).0 ∙ rw (w.some, w.start, w.end)

-- ---- a line

pub line_render : (d : Dialect) (l : Line) → WritableLine d l → line_of d (render d l) ≡ l
unfolding line_of
line_render d blank w = refl
line_render d comment w = refl
line_render d (header n) w = header_render d n w
line_render d (setting k v) w = setting_render d k v w
line_render d (broken b) w = absurd w

equals_line : (d : Dialect) → all in_line (equals d) ≡ true
equals_line Iwd = refl
equals_line ConnMan = refl

pub render_line : (d : Dialect) (l : Line) → WritableLine d l → all in_line (render d l) ≡ true
render_line d blank w = refl
render_line d comment w = refl
render_line d (header n) w = all_append in_line n (93 ∷ []) (all_other is_header_byte 10 refl n w.bytes) refl
render_line d (setting k v) w =
    all_append in_line k (equals d ++ v) (all_other (is_key_byte d) 10 (no_key d).5 k w.bytes) (all_append in_line (equals d) v (equals_line d) w.line)
render_line d (broken b) w = absurd w

-- ---- lines

pub lines_rendered : (d : Dialect) (ls : List Line) → WritableLines d ls → lines (rendered d ls) ≡ map (render d) ls
lines_rendered d [] w = refl
lines_rendered d (l ∷ ls) w =
    lines_append (render d l) (rendered d ls) (render_line d l w.0)
    ∙ ap (λ (r : List (List ℕ)). render d l ∷ r) (lines_rendered d ls w.1)

map_render : (d : Dialect) (ls : List Line) → WritableLines d ls → map (line_of d) (map (render d) ls) ≡ ls
map_render d [] w = refl
map_render d (l ∷ ls) w = ap₂ ◌∷◌ (line_render d l w.0) (map_render d ls w.1)

pub lines_back : (d : Dialect) (ls : List Line) → WritableLines d ls → map (line_of d) (lines (rendered d ls)) ≡ ls
lines_back d ls w = ap (map (line_of d)) (lines_rendered d ls w) ∙ map_render d ls w
