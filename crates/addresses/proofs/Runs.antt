-- The bytes from a place on that pass a test, their pieces, and what a reader that hands back its end has read of them.
use Rattle.std.proofs.Common.{◌≡◌, ℕ, ◌+◌, ◌<◌, Bool, true, false, ◌&&◌, eqb, List, [], ◌∷◌, length, get_or, sym, refl, ap, ◌∙◌, arith}
use Rattle.std.specs.Prelude.{Option, None, Some}
use Rattle.text.specs.Bytes.{other}
use Rattle.text.specs.Parts.{front, after, onto, part, pieces}
use Rattle.text.specs.Laws.{view_end, view_more}
use Rattle.text.specs.Scans.{Stop}
use Rattle.text.proofs.ScanLaws.{scan_stop, scan_end, stop_front}
use Rattle.addresses.specs.Fields.{Includes, run, ReadAt}

-- the bytes that pass from index i on, by the first of them
module _ (p : ℕ → Bool) (s : List ℕ) (i : ℕ) where
  pub run_more : i < length s → p (get_or s i 0) ≡ true → run p s i ≡ get_or s i 0 ∷ run p s (i + 1)
  run_more l e = rw (view_more s i l, e)

  pub run_stop : i < length s → p (get_or s i 0) ≡ false → run p s i ≡ []
  run_stop l e = rw (view_more s i l, e)

  pub run_end_lem : i ≡ length s → run p s i ≡ []
  run_end_lem e = rw (view_end s i e)

-- ---- what was read from a place

-- the bytes from at on that pass p end at e, and f reads a of them
pub record Whole {A : Type 0} (f : List ℕ → Option A) (p : ℕ → Bool) (s : List ℕ) (at e : ℕ) (a : A) : Type 0 where
  pub stop : Stop p s at e
  pub value : f (run p s at) ≡ Some a

module _ {A : Type 0} {f : List ℕ → Option A} {s : List ℕ} {at e : ℕ} {a : A} where
  pub whole_part : {p : ℕ → Bool} → Whole f p s at e a → f (part at e s) ≡ Some a
  whole_part h = ap f (sym (stop_front h.stop)) ∙ h.value

  module _ {q : ℕ → Bool} (h : ReadAt f q s at e a) (p : ℕ → Bool) (w : Includes p q) where
    pub read_end : e ≡ length s → Whole f p s at e a
    read_end l = record { stop = scan_end (h.scan p w) (omega (arith, l)); value = h.is p w ∙ rw (run_end_lem p s e l) }

    module _ (l : e ≡ length s → ⊥) where
      pub read_before : e < length s
      read_before = let n = h.scan p w in omega (arith, n.within, l)

      pub read_followed : p (get_or s e 0) ≡ true → f (run p s at) ≡ None
      read_followed c = h.is p w ∙ rw (run_more p s e read_before c)

      pub read_stop : p (get_or s e 0) ≡ false → Whole f p s at e a
      read_stop c = record { stop = scan_stop (h.scan p w) read_before c; value = h.is p w ∙ rw (run_stop p s e read_before c) }

-- ---- the pieces between the bytes d of what passes q

module _ (d : ℕ) where
  -- the pieces behind the first: what follows it is empty or starts with a byte d
  abbrev pub behind : List ℕ → List (List ℕ)
  behind [] = []
  behind (x ∷ t) = pieces d t

  -- a byte of a piece
  abbrev pub apart : (ℕ → Bool) → ℕ → Bool
  apart q x = q x && other d x

  pub pieces_front : (q : ℕ → Bool) (l : List ℕ) →
      pieces d (front q l) ≡ front (apart q) l ∷ behind (front q (after (apart q) l))
  pieces_front q [] = refl
  pieces_front q (x ∷ l) = go (q x) refl (eqb x d) refl (pieces_front q l)
    where
      go : (b : Bool) → q x ≡ b → (c : Bool) → eqb x d ≡ c →
          pieces d (front q l) ≡ front (apart q) l ∷ behind (front q (after (apart q) l)) →
          pieces d (front q (x ∷ l)) ≡ front (apart q) (x ∷ l) ∷ behind (front q (after (apart q) (x ∷ l)))
      go false e c k h = rw e (rw e)
      go true e true k h = rw (e, k) (rw e)
      go true e false k h = rw (e, k) (ap (onto x) h)

abbrev pub every : ℕ → Bool
every x = true

pub front_every : (l : List ℕ) → front every l ≡ l
front_every [] = refl
front_every (x ∷ l) = ap (λ (t : List ℕ). x ∷ t) (front_every l)

pub pieces_first : (d : ℕ) (t : List ℕ) → pieces d t ≡ front (other d) t ∷ behind d (after (other d) t)
pieces_first d t = ap (pieces d) (sym (front_every t)) ∙ pieces_front d every t ∙ rw (front_every (after (other d) t))
