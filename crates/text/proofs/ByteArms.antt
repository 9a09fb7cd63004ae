-- The arms of the table of bytes: one test over an arm's keys, and one over all 256 for what is in no arm, each computed, and the laws
-- that turn such a test into what the entry of a byte is.
use mathlib.Core.Path.{◌≡◌, refl, ap, ◌∙◌}
use mathlib.Core.Bool.{Bool, true, false, ◌||◌}
use mathlib.Core.List.{List, [], ◌∷◌, ◌++◌}
use mathlib.Core.Logic.{inl, inr}
use Prim.Native.Nat.{ℕ, zero, suc, ◌+◌, ◌<◌}
use lib.Bits.{bit_xor}
use lib.Dec.{eqb}
use borrow.Author.Tests.{eqb-true}
use mir.Val.{has_key}
use types.Run.{OneOf, hit}
use Rattle.text.specs.ByteTable.{entry_of}
use Rattle.text.specs.Parts.{all}
use Rattle.text.specs.Laws.{and_true, below, below_at}

-- ---- the keys of the arms: a byte with its highest bit turned

abbrev turned : ℕ → ℕ
turned x = bit_xor x 128

-- every second number from a on, n of them
abbrev stepped : ℕ → ℕ → List ℕ
stepped a zero = []
stepped a (suc n) = a ∷ stepped (a + 2) n

-- the keys of each arm, in the order of the code
abbrev table : List (List ℕ)
table =
    (stepped 137 1)
    ∷ (stepped 160 1)
    ∷ (stepped 223 1)
    ∷ (stepped 173 1)
    ∷ (stepped 174 1)
    ∷ (stepped 176 5)
    ∷ (stepped 177 5)
    ∷ (stepped 194 3 ++ stepped 226 3)
    ∷ (stepped 193 3 ++ stepped 225 3)
    ∷ (stepped 200 10)
    ∷ (stepped 199 10)
    ∷ (stepped 232 10)
    ∷ (stepped 231 10)
    ∷ (stepped 128 5 ++ stepped 162 6)
    ∷ (stepped 129 4 ++ stepped 161 6)
    ∷ (stepped 138 11)
    ∷ (stepped 139 11)
    ∷ (stepped 186 4 ++ stepped 220 3 ++ stepped 252 2)
    ∷ (stepped 175 1 ++ stepped 187 3 ++ stepped 219 2 ++ stepped 251 3)
    ∷ (stepped 0 17)
    ∷ (stepped 1 17)
    ∷ (stepped 34 17)
    ∷ (stepped 35 17)
    ∷ (stepped 68 17)
    ∷ (stepped 69 17)
    ∷ (stepped 102 13)
    ∷ (stepped 103 12)
    ∷ []

abbrev nth : List (List ℕ) → ℕ → List ℕ
nth [] n = []
nth (ks ∷ kss) zero = ks
nth (ks ∷ kss) (suc n) = nth kss n

abbrev pub arm : ℕ → List ℕ
arm = nth table

-- the arms, the last first
abbrev reversed : List (List ℕ) → List (List ℕ) → List (List ℕ)
reversed [] kss = kss
reversed (ks ∷ rest) kss = reversed rest (ks ∷ kss)

abbrev arms : List (List ℕ)
arms = reversed table []

-- ---- in an arm

-- the entry of the byte of a key is v
abbrev holds : ℕ → ℕ → Bool
holds v k = eqb v (entry_of (turned k))

returned : below (λ (x : ℕ). eqb (turned (turned x)) x) 256 ≡ true
returned = refl

entry_held : (v x : ℕ) → x < 256 → holds v (turned x) ≡ true → v ≡ entry_of x
entry_held v x l h =
    eqb-true v (entry_of (turned (turned x))) h
    ∙ ap entry_of (eqb-true (turned (turned x)) x (below_at (λ (y : ℕ). eqb (turned (turned y)) y) 256 returned x l))

among : (f : ℕ → Bool) (ks : List ℕ) (k : ℕ) → all f ks ≡ true → OneOf ks k → f k ≡ true
among f [] k t h = absurd h
among f (x ∷ []) k t h = ap f h ∙ (and_true (f x) true t).0
among f (x ∷ y ∷ ks) k t (inl h) = ap f h ∙ (and_true (f x) (all f (y ∷ ks)) t).0
among f (x ∷ y ∷ ks) k t (inr h) = among f (y ∷ ks) k (and_true (f x) (all f (y ∷ ks)) t).1 h

pub entry_in : (v : ℕ) (ks : List ℕ) → all (holds v) ks ≡ true → (x : ℕ) → x < 256 → OneOf ks (turned x) → v ≡ entry_of x
entry_in v ks t x l h = entry_held v x l (among (holds v) ks (turned x) t h)

-- ---- in no arm

abbrev Missed : Type 0 → List (List ℕ) → ℕ → Type 0
Missed N [] k = N
Missed N (ks ∷ kss) k = Missed N kss k × (OneOf ks k → ⊥)

abbrev keyed : List (List ℕ) → ℕ → Bool
keyed [] k = false
keyed (ks ∷ kss) k = has_key ks k || keyed kss k

unless : (N : Type 0) (kss : List (List ℕ)) (k : ℕ) → Missed N kss k → (b : Bool) → (keyed kss k || b) ≡ true → b ≡ true
unless N [] k m b e = e
unless N (ks ∷ kss) k m b e = unless N kss k m.0 b (go (has_key ks k) refl)
  where
    go : (t : Bool) → has_key ks k ≡ t → (keyed kss k || b) ≡ true
    go true q = absurd (m.1 (hit ks k (rw q tt)))
    go false q = rw q at e

each_keyed : below (λ (x : ℕ). keyed arms (turned x) || holds 0 (turned x)) 256 ≡ true
unfolding entry_of
each_keyed = refl

pub entry_out : (N : Type 0) (x : ℕ) → x < 256 → Missed N arms (turned x) → 0 ≡ entry_of x
entry_out N x l m =
    entry_held 0 x l
    (unless N arms (turned x) m (holds 0 (turned x))
    (below_at (λ (y : ℕ). keyed arms (turned y) || holds 0 (turned y)) 256 each_keyed x l))
