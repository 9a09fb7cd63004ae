-- The address that starts at a place: what `address_at` keeps, and one law for each of its returns and of `read_address`.
use Rattle.std.proofs.Common.{◌≡◌, ℕ, ◌+◌, ◌<◌, ◌≤◌, Bool, true, false, eqb, List, [], length, get_or, drop, set, replicate, sym, refl, ap, ◌∙◌, append-nil, arith, ne_eqb, eqb-true}
use Rattle.std.specs.Prelude.{None, Some}
use borrow.Author.Tests.{eqb-false}
use Rattle.text.specs.Bytes.{is_digit}
use Rattle.text.specs.Parts.{empty, pieces}
use Rattle.text.specs.Options.{only}
use Rattle.text.specs.Laws.{under, pass_other, pieces_some}
use Rattle.text.specs.Scans.{Scan}
use Rattle.text.proofs.ScanLaws.{scan_none, scan_turn, scan_on, stop_after}
use Rattle.put.proofs.Gathering.{Gathered, gathered_first, gathered_turn, gathered_broken, gathered_end, gathered_full}
use Rattle.addresses.specs.Addresses.{octet, address}
use Rattle.addresses.specs.Fields.{Includes, run, ReadAt, NoneAt, is_address_byte}
use Rattle.addresses.proofs.Runs.{run_more, run_stop, run_end_lem, Whole, read_end, read_before, read_followed, read_stop, behind, apart, pieces_front, every, front_every}

abbrev NoAddress : List ℕ → ℕ → Type 0
NoAddress = NoneAt address is_address_byte

-- digits pass with the bytes of an address, and with those of them that are no dots
module _ {q : ℕ → Bool} (w : Includes q is_address_byte) where
  digits : Includes q is_digit
  digits x k = w x (rw k)

  undotted : Includes (apart 46 q) is_digit
  undotted x k = rw (digits x k, pass_other is_digit 46 refl x k)

-- as far as bytes pass q, n numbers are read and stand in x, and those from index at on are still to be read
pub record Octets (s x : List ℕ) (from at n : ℕ) : Type 0 where
  pub within : at ≤ length s
  pub few : n ≤ 3
  pub scan : (q : ℕ → Bool) → Includes q is_address_byte → Scan q s from at
  pub gathered : (q : ℕ → Bool) → Includes q is_address_byte →
      Gathered octet 0 (pieces 46 (run q s from)) (pieces 46 (run q s at)) x n

pub octets_first : {s : List ℕ} {from : ℕ} → from ≤ length s → Octets s (replicate 4 0) from from 0
octets_first l = record { within = l; few = omega arith; scan = λ q w. scan_none l; gathered = λ q w. gathered_first }

module _ {s x : List ℕ} {from at n : ℕ} (h : Octets s x from at n) where
  broken : (q : ℕ → Bool) → Includes q is_address_byte → octet (run (apart 46 q) s at) ≡ None → address (run q s from) ≡ None
  unfolding address
  broken q w k = gathered_broken (h.gathered q w) 4 (pieces_front 46 q (drop at s)) k

  pub octets_broken : NoneAt octet is_digit s at → NoAddress s from
  octets_broken o = record { is_none = λ q w. broken q w (o.is_none (apart 46 q) (undotted w)) }

  module _ {z v : ℕ} (o : ReadAt octet is_digit s at z v) where
    -- one number more is read, and the pieces qs are left
    abbrev Turned : (ℕ → Bool) → List (List ℕ) → Type 0
    Turned q qs = Gathered octet 0 (pieces 46 (run q s from)) qs (set x n v) (n + 1)

    -- the byte behind it
    abbrev next : ℕ
    next = get_or s z 0

    module _ (q : ℕ → Bool) (w : Includes q is_address_byte) where
      onward : Scan q s from z
      onward = scan_on (h.scan q w) (o.scan q (digits w))

      turned : {l : List ℕ} → Whole octet (apart 46 q) s at z v → run q s z ≡ l → Turned q (behind 46 l)
      turned t k =
          gathered_turn (h.gathered q w) (pieces_front 46 q (drop at s) ∙ rw (stop_after t.stop, k)) t.value
          (omega (arith, h.few))

      -- none are left
      short : Turned q [] → n < 3 → address (run q s from) ≡ None
      unfolding address
      short g k = gathered_end g 4 refl ∙ rw (under {x = n + 1} 4 4 (omega arith))

      whole : Turned q [] → 3 ≤ n → address (run q s from) ≡ Some (set x 3 v)
      unfolding address
      whole g k =
          let e : n ≡ 3 = omega (arith, h.few) in
          let w : n + 1 ≡ 4 = omega (arith, e) in
          let y : set x n v ≡ g.done = g.array ∙ rw w (append-nil g.done) in
          gathered_end g 4 refl ∙ rw (w, ← y, e)

    -- up to the end of s
    module _ (l : z ≡ length s) where
      ended : (q : ℕ → Bool) → Includes q is_address_byte → Turned q []
      ended q w = turned q w (read_end o (apart 46 q) (undotted w) l) (run_end_lem q s z l)

      pub octets_short : n < 3 → NoAddress s from
      octets_short k = record { is_none = λ q w. short q w (ended q w) k }

    -- up to a byte: one that does not pass, a dot, or another
    module _ (l : z ≡ length s → ⊥) where
      pub octets_before : z < length s
      octets_before = read_before o is_digit (λ x e. e) l

      module _ (q : ℕ → Bool) (w : Includes q is_address_byte) where
        stopped : q next ≡ false → Turned q []
        stopped c = turned q w (read_stop o (apart 46 q) (undotted w) l (rw c)) (run_stop q s z octets_before c)

        dotted : next ≡ 46 → Turned q (pieces 46 (run q s (z + 1)))
        dotted c =
            turned q w (read_stop o (apart 46 q) (undotted w) l (rw (c, w 46 refl)))
            (run_more q s z octets_before (rw c (w 46 refl)))

        followed : q next ≡ true → (next ≡ 46 → ⊥) → address (run q s from) ≡ None
        followed e c = broken q w (read_followed o (apart 46 q) (undotted w) l (rw (e, ne_eqb next 46 c)))

      pub octets_apart : (next ≡ 46 → ⊥) → n < 3 → NoAddress s from
      octets_apart c k = record { is_none = λ q w. go q w (q next) refl }
        where
          go : (q : ℕ → Bool) → Includes q is_address_byte → (t : Bool) → q next ≡ t → address (run q s from) ≡ None
          go q w true e = followed q w e c
          go q w false e = short q w (stopped q w e) k

      pub octets_turn : next ≡ 46 → n < 3 → Octets s (set x n v) from (z + 1) (n + 1)
      octets_turn c k =
          record {
            within = omega (arith, octets_before);
            few = omega arith;
            scan = λ q w. scan_turn (onward q w) octets_before (rw c (w 46 refl));
            gathered = λ q w. dotted q w c;
          }

    -- what is found where all four are read
    abbrev Found : (ℕ → Bool) → Type 0
    Found q = address (run q s from) ≡ only (empty (run q s z)) (Some (set x 3 v))

    module _ (k : 3 ≤ n) (q : ℕ → Bool) (w : Includes q is_address_byte) where
      at_end : z ≡ length s → Found q
      at_end l = whole q w (ended l q w) k ∙ rw (run_end_lem q s z l)

      module _ (l : z ≡ length s → ⊥) where
        behind_four : (t : Bool) → eqb next 46 ≡ t → q next ≡ true → address (run q s from) ≡ None
        unfolding address
        behind_four true c e = gathered_full (dotted l q w (eqb-true _ _ c)) 4 (omega arith) (pieces_some 46 (run q s (z + 1)))
        behind_four false c e = followed l q w e (eqb-false _ _ c)

        at_byte : (t : Bool) → q next ≡ t → Found q
        at_byte true e = rw (run_more q s z (octets_before l) e) (behind_four (eqb next 46) refl e)
        at_byte false e = whole q w (stopped l q w e) k ∙ rw (run_stop q s z (octets_before l) e)

      found : (t : Bool) → eqb z (length s) ≡ t → Found q
      found true e = at_end (eqb-true _ _ e)
      found false e = at_byte (eqb-false _ _ e) (q next) refl

    pub octets_found : 3 ≤ n → ReadAt address is_address_byte s from z (set x 3 v)
    octets_found k = record { scan = onward; is = λ q w. found k q w (eqb z (length s)) refl }

-- ---- the whole text: the returns of `read_address`

module _ (s : List ℕ) where
  text : address s ≡ address (run every s 0)
  text = ap address (sym (front_every s))

  pub address_none : NoneAt address is_address_byte s 0 → None ≡ address s
  address_none h = sym (text ∙ h.is_none every (λ x e. refl))

  module _ {e : ℕ} {a : List ℕ} (h : ReadAt address is_address_byte s 0 e a) where
    pub address_followed : (e ≡ length s → ⊥) → None ≡ address s
    address_followed l = sym (text ∙ read_followed h every (λ x e. refl) l refl)

    pub address_whole : e ≡ length s → Some a ≡ address s
    address_whole l = sym (text ∙ (read_end h every (λ x e. refl) l).value)
