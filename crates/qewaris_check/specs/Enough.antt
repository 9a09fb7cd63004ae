-- Why a long name line is answered by its form.
use Rattle.std.specs.Prelude.{ℕ, ◌-◌, ◌<◌, ◌≡◌, refl, Bool, true, false, cond, not, List, [], length, Option, None, Some}
use Rattle.std.proofs.Common.{ap, sym, ◌∙◌, arith, le-ltb, length-drop}
use Rattle.text.specs.Bytes.{is_alphanumeric}
use Rattle.text.specs.Parts.{front, after, lead, empty}
use Rattle.text.specs.Words.{word, same}
use Rattle.text.specs.Laws.{and_true, same_eq}
use Rattle.text.specs.declared.Dialect.{Dialect}
use Rattle.text.specs.declared.Dialect.TheVariants.{Iwd, ConnMan}
use Rattle.names.specs.Names.{Network, network_of, name_max, connman_name}
use Rattle.names.specs.Laws.{file_name_network, network_bytes, file_name_short}
use Rattle.names.specs.Dialects.{dialect_of}
use Rattle.rules.specs.Reading.{reading, name_in}
use Rattle.intake.specs.declared.Form.TheVariants.{Empty}
use Rattle.intake.specs.Forms.{form_from}
use Rattle.intake.specs.Laws.{form_connman}
use Rattle.intake.specs.Enough.{reading_name}
use Rattle.qewaris_check.specs.Answers.{long_answer}

-- a bad name is bad in either dialect
reading_unnamed : (d g : Dialect) (a b file : List ℕ) → name_in d a ≡ None → name_in g b ≡ None →
    reading d a file ≡ reading g b file
unfolding reading
reading_unnamed d g a b file e q = rw (e, q)

-- no good iwd name is longer than `name_max`
long_unnamed : (f : List ℕ) → name_max < length f → network_of f ≡ None
long_unnamed f l = go (network_of f) refl
  where
    go : (o : Option Network) → network_of f ≡ o → o ≡ None
    go None e = refl
    go (Some x) e = absurd (omega (arith, l, ap length (file_name_network f e), file_name_short x.name x.suffix (network_bytes f e).high))

-- a ConnMan name ends in `.config`
connman_ends : (f : List ℕ) → connman_name f ≡ true → dialect_of f ≡ ConnMan
connman_ends f e =
    let rest : after is_alphanumeric f ≡ word ".config" = same_eq (after is_alphanumeric f) (word ".config") (and_true (not (empty (front is_alphanumeric f))) (same (after is_alphanumeric f) (word ".config")) e).1 in
    let seven : length f - lead is_alphanumeric f ≡ 7 = sym (length-drop (lead is_alphanumeric f) f) ∙ ap length rest in
    let place : length f - 7 ≡ lead is_alphanumeric f = omega (arith, seven) in
    rw (le-ltb (length f) 7 (omega (arith, seven)), place, rest)

no_name : name_in Iwd [] ≡ None
unfolding network_of
no_name = refl

pub long_answer_lem : (f file : List ℕ) → name_max < length f → long_answer (form_from Empty f) file ≡ reading (dialect_of f) f file
long_answer_lem f file l = ap (λ (b : Bool). cond b (reading ConnMan (word "a.config") file) (reading Iwd [] file)) (form_connman f) ∙ go (connman_name f) refl
  where
    other : connman_name f ≡ false → (d : Dialect) → reading Iwd [] file ≡ reading d f file
    other e Iwd = reading_unnamed Iwd Iwd [] f file no_name (rw (long_unnamed f l))
    other e ConnMan = reading_unnamed Iwd ConnMan [] f file no_name (rw e)

    go : (b : Bool) → connman_name f ≡ b →
        cond b (reading ConnMan (word "a.config") file) (reading Iwd [] file) ≡ reading (dialect_of f) f file
    go true e = reading_name ConnMan (word "a.config") f file (rw e) ∙ ap (λ (d : Dialect). reading d f file) (sym (connman_ends f e))
    go false e = other e (dialect_of f)
