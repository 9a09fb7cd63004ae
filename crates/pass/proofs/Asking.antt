-- What is answered of a file that was read, and of a service of it: where the answer is good, the table of places keeps the settings.
use Prim.Native.Nat.{ℕ, ◌≤◌}
use native.Mathlib.Omega.{arith}
use mathlib.Core.Path.{◌≡◌, ap, sym, ◌∙◌, subst}
use mathlib.Core.Bool.{false}
use mathlib.Core.List.{List}
use Rattle.std.specs.Prelude.{Some, Ok}
use Rattle.text.specs.declared.Dialect.{Dialect}
use Rattle.text.specs.declared.Dialect.TheVariants.{ConnMan}
use Rattle.rules.specs.Tables.{group_of}
use Rattle.rules.specs.Sections.{Entry, Section, serves, entries_in}
use Rattle.rules.specs.Reading.{sections_of, reading}
use Rattle.rules.specs.Asking.{service_at, asked, asked_of}
use Rattle.rules.specs.ListedValues.{group_name}
use Rattle.rules.specs.GoodAnswers.{asked_reading, asked_service}
use Rattle.rules.specs.declared.Group.{Group}
use Rattle.rules.specs.declared.Group.TheVariants.{Service}
use Rattle.places.specs.History.{base}
use Rattle.places.specs.Holds.{RowKeeps}
use Rattle.places.proofs.GroupRows.{group_row}
use Rattle.places.proofs.Values.{numbered_service, numbered_row}
use Rattle.pass.specs.Pass.{Found, ReadsFile}
use Rattle.rules.specs.Answering.{Answer, Reading}

-- ---- the rows after a reading

pub found_group : {d : Dialect} {file y : List ℕ} → Found d file y → (g : Group) → group_of d (group_name g) ≡ Some g → serves g ≡ false → RowKeeps d file y (base g 0) g (entries_in (group_name g) (sections_of d file))
found_group {d} {file} {y} f g q v = subst (λ (gs : List Section). RowKeeps d file y (base g 0) g (entries_in (group_name g) gs)) f.all (group_row f.kept g q v)

pub found_service : {file y : List ℕ} → Found ConnMan file y → (w : ℕ) → (1 ≤ w) × (w ≤ 8) → RowKeeps ConnMan file y (base Service w) Service (service_at w (sections_of ConnMan file))
found_service {file} {y} f w few = subst (λ (es : List Entry). RowKeeps ConnMan file y (base Service w) Service es) (numbered_service w f.groups ∙ ap (service_at w) f.all) (numbered_row f.kept w few)

-- ---- the answers

module _ {d : Dialect} {name file : List ℕ} {y : List ℕ} {r : Reading} (h : ReadsFile d name file y r) {a : Answer} where
  pub file_found : a ≡ asked r → a ≡ Ok tt → Found d file y
  file_found e g = h.found (asked_reading r (sym e ∙ g)).1.1

  module _ (w : ℕ) (e : a ≡ asked_of w r) where
    pub service_found : a ≡ Ok tt → Found d file y
    service_found g = h.found (asked_service w r (sym e ∙ g)).is

    pub service_answer_lem : {b : Answer} → a ≡ b → asked_of w (reading d name file) ≡ b
    service_answer_lem g = ap (asked_of w) (sym h.is) ∙ sym e ∙ g

    -- the number of a service that is answered
    pub service_few : a ≡ Ok tt → (1 ≤ w) × (w ≤ 8)
    service_few g = let s = asked_service w r (sym e ∙ g) in (s.low, omega (arith, s.high, h.few s.is))
