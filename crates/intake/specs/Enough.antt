-- Why the kept part of the input is enough.
use Rattle.std.specs.Prelude.{ℕ, ◌<◌, ◌≡◌, refl, Bool, true, false, List, [], ◌∷◌, leb, length, take, drop, Option}
use Rattle.std.proofs.Common.{ap, sym, ◌∙◌, arith, leb-true, leb-false, length-take, take_all}
use Rattle.text.specs.Bytes.{in_line}
use Rattle.text.specs.Parts.{all, front, after}
use Rattle.text.specs.Options.{and_then}
use Rattle.text.specs.OptionLaws.{unsized}
use Rattle.text.specs.Laws.{all_cons, front_append, after_append}
use Rattle.text.specs.declared.Dialect.{Dialect}
use Rattle.addresses.specs.Addresses.{decimal_value}
use Rattle.rules.specs.Reading.{reading, name_in}
use Rattle.rules.proofs.Acceptance.{reading_large}
use Rattle.intake.specs.Number.{or_zero, service_number}
use Rattle.intake.specs.Input.{Parted, first_line, behind_line}

-- ---- the number

-- four bytes of a number line already count as 0, whatever follows
pub number_long : (s : List ℕ) → 3 < length s → service_number s ≡ 0
number_long s h = ap (λ (o : Option (List ℕ)). or_zero (and_then o (decimal_value 0))) (unsized 1 3 s (λ z. omega (arith, z.most)))

pub number_front : (s : List ℕ) (m : ℕ) → 3 < m → service_number (take m s) ≡ service_number s
number_front s m h = go (leb (length s) m) refl
  where
    go : (b : Bool) → leb (length s) m ≡ b → service_number (take m s) ≡ service_number s
    go true e = ap service_number (take_all m s (leb-true (length s) m e))
    go false e =
        let k : m < length s = leb-false (length s) m e in
        number_long (take m s) (omega (arith, length-take m s)) ∙ sym (number_long s (omega arith))

-- ---- the file

-- 16,385 bytes of a file already earn 1, whatever follows
pub reading_front : (d : Dialect) (name file : List ℕ) (m : ℕ) → 16384 < m →
    reading d name (take m file) ≡ reading d name file
reading_front d name file m h = go (leb (length file) m) refl
  where
    go : (b : Bool) → leb (length file) m ≡ b → reading d name (take m file) ≡ reading d name file
    go true e = ap (reading d name) (take_all m file (leb-true (length file) m e))
    go false e =
        let k : m < length file = leb-false (length file) m e in
        reading_large d name (take m file) (omega (arith, length-take m file)) ∙ sym (reading_large d name file (omega arith))

-- ---- the name

-- a name counts by what it says
pub reading_name : (d : Dialect) (a b file : List ℕ) → name_in d a ≡ name_in d b → reading d a file ≡ reading d b file
unfolding reading
reading_name d a b file e = rw e

-- ---- the lines in front

pub front_all : (l : List ℕ) → all in_line l ≡ true → front in_line l ≡ l
front_all [] h = refl
front_all (x ∷ l) h =
    rw (all_cons in_line x l h).0 (ap (λ (t : List ℕ). x ∷ t) (front_all l (all_cons in_line x l h).1))

pub after_all : (l : List ℕ) → all in_line l ≡ true → after in_line l ≡ []
after_all [] h = refl
after_all (x ∷ l) h = rw (all_cons in_line x l h).0 (after_all l (all_cons in_line x l h).1)

module _ {i line rest : List ℕ} where
  pub parted_first : (e : Bool) → Parted i e line rest → line ≡ first_line i
  parted_first true p = sym (ap first_line p.is ∙ front_append in_line line 10 rest p.within refl)
  parted_first false p = sym (ap first_line p.is ∙ front_all line p.within)

  pub parted_behind : (e : Bool) → Parted i e line rest → rest ≡ behind_line i
  parted_behind true p = sym (ap behind_line p.is ∙ ap (drop 1) (after_append in_line line 10 rest p.within refl))
  parted_behind false p = p.none refl ∙ sym (ap behind_line p.is ∙ ap (drop 1) (after_all line p.within))
