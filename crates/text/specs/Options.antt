-- A reading that may be broken: `None`, or `Some` of what was read.
use Rattle.std.specs.Prelude.{ℕ, ◌≤◌, Bool, true, false, cond, List, [], ◌∷◌, ◌++◌, length, Option, None, Some}
use Rattle.text.specs.Bytes.{between}
-- whether something was read; what is read, as something else; the first of two readings that is not broken
pub use Rattle.std.specs.Option.{is_some, option_map as mapped, option_or as or_else}

-- one more in front of a list that is read
abbrev pub prepend : {A : Type 0} → A → Option (List A) → Option (List A)
prepend x None = None
prepend x (Some t) = Some (x ∷ t)

-- what was read, in front of a list that is read
abbrev pub glue : {A : Type 0} → List A → Option (List A) → Option (List A)
glue t None = None
glue t (Some u) = Some (t ++ u)

-- what is read, and then read on
abbrev pub and_then : {A B : Type 0} → Option A → (A → Option B) → Option B
and_then None f = None
and_then (Some a) f = f a

-- only where the test holds
abbrev pub only : {A : Type 0} → Bool → Option A → Option A
only true o = o
only false o = None

-- a list of low to high elements: the one rule for lengths, cited wherever a length is asked
abbrev pub sized : {A : Type 0} → ℕ → ℕ → Option (List A) → Option (List A)
sized low high None = None
sized low high (Some t) = cond (between low high (length t)) (Some t) None

-- every text of a list read; none if one is broken
abbrev pub each : {A : Type 0} → (List ℕ → Option A) → List (List ℕ) → Option (List A)
each f [] = Some []
each f (p ∷ ps) = and_then (f p) (λ a. prepend a (each f ps))

-- the text that was read, empty where it is broken
abbrev pub or_empty : {A : Type 0} → Option (List A) → List A
or_empty None = []
or_empty (Some t) = t

-- read whole, and at most n long
abbrev pub ReadsUpTo : ℕ → Option (List ℕ) → Type 0
ReadsUpTo n None = ⊥
ReadsUpTo n (Some t) = length t ≤ n
