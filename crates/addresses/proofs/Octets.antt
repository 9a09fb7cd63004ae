-- A digit, and the number of an address that starts at a place: a law for each return of `digit_at` and `read_octet`.
use Rattle.std.proofs.Common.{◌≡◌, ℕ, ◌+◌, ◌-◌, ◌*◌, ◌%◌, ◌<◌, ◌≤◌, Bool, true, false, cond, not, eqb, ltb, leb, List, [], ◌∷◌, length, get_or, sym, refl, ap, ◌∙◌, subst, arith, drop_of_length-le, ltb-false, ltb-true, ne_eqb, eqb-true, le-leb, leb-false, leb-true}
use mathlib.Core.Bool.{false≢true}
use Rattle.std.specs.Prelude.{None, Some}
use borrow.Author.Tests.{eqb-false}
use Rattle.text.specs.Bytes.{is_digit}
use Rattle.text.specs.Parts.{empty}
use Rattle.text.specs.Options.{only}
use Rattle.text.specs.Laws.{inside, under, over, pass_other}
use Rattle.text.specs.Scans.{Scan}
use Rattle.text.proofs.ScanLaws.{scan_none, scan_turn}
use Rattle.addresses.specs.Addresses.{decimal_value, up_to, number, octet}
use Rattle.addresses.specs.Fields.{Digit, NoDigit, Includes, run, ReadAt, NoneAt}
use Rattle.addresses.proofs.Reading.{value_big}
use Rattle.addresses.proofs.Runs.{run_more, run_stop}

-- ---- a digit

pub digit_end : {s : List ℕ} {i : ℕ} → i ≡ length s → NoDigit s i
digit_end e = record { is_not = λ l. absurd (omega (arith, e)) }

module _ {s : List ℕ} {i r : ℕ} (w : r < 256) (e : (r + 48) % 256 ≡ get_or s i 0) where
  pub digit_byte : i < length s → r ≤ 9 → Digit s i r
  digit_byte l k = record { within = l; small = k; is = omega (arith, e) }

  pub digit_other : 9 < r → NoDigit s i
  digit_other k = record { is_not = λ l. go (leb r 207) refl }
    where
      go : (t : Bool) → leb r 207 ≡ t → is_digit (get_or s i 0) ≡ false
      go true q = over {x = get_or s i 0} 48 57 (omega (arith, e, leb-true r 207 q))
      go false q = under {x = get_or s i 0} 48 57 (omega (arith, e, leb-false r 207 q))

module _ {s : List ℕ} {i : ℕ} (p : ℕ → Bool) (w : Includes p is_digit) where
  module _ {d : ℕ} (h : Digit s i d) where
    digit_passes : p (get_or s i 0) ≡ true
    digit_passes = w (get_or s i 0) (rw h.is (inside {x = 48 + d} 48 57 (omega arith) (omega (arith, h.small))))

    digit_next : (j : ℕ) → i + 1 ≡ j → run p s i ≡ (48 + d) ∷ run p s j
    digit_next j e = run_more p s i h.within digit_passes ∙ rw (h.is, e)

    digit_scan : {at : ℕ} → Scan p s at i → (j : ℕ) → i + 1 ≡ j → Scan p s at j
    digit_scan {at} t j e = subst (Scan p s at) e (scan_turn t h.within digit_passes)

  digit_none : NoDigit s i → is_digit (get_or (run p s i) 0 0) ≡ false
  digit_none h = go (ltb i (length s)) refl
    where
      byte : (l : i < length s) (t : Bool) → p (get_or s i 0) ≡ t → is_digit (get_or (run p s i) 0 0) ≡ false
      byte l true e = rw (run_more p s i l e) (h.is_not l)
      byte l false e = rw (run_stop p s i l e)

      go : (t : Bool) → ltb i (length s) ≡ t → is_digit (get_or (run p s i) 0 0) ≡ false
      go true e = byte (ltb-true i (length s) e) (p (get_or s i 0)) refl
      go false e = rw (drop_of_length-le s (ltb-false i (length s) e))

-- ---- a number of an address

abbrev NoOctet : List ℕ → ℕ → Type 0
NoOctet = NoneAt octet is_digit

abbrev IsOctet : List ℕ → ℕ → ℕ → ℕ → Type 0
IsOctet = ReadAt octet is_digit

-- the number that digits write, and no more of them behind, or too many
module _ (v : ℕ) where
  value_digit : (d : ℕ) (t : List ℕ) → d ≤ 9 → decimal_value v ((48 + d) ∷ t) ≡ decimal_value (v * 10 + d) t
  unfolding decimal_value
  value_digit d t h =
      let w : v * 10 + (48 + d - 48) ≡ v * 10 + d = omega arith in
      rw (inside {x = 48 + d} 48 57 (omega arith) (omega arith), w)

  value_end : (t : List ℕ) → v ≤ 255 → (is_digit (get_or t 0 0) ≡ true → 26 ≤ v) → up_to 255 (decimal_value v t) ≡ only (empty t) (Some v)
  unfolding decimal_value
  value_end [] h g = rw (le-leb v 255 h)
  value_end (c ∷ t) h g = go (is_digit c) refl
    where
      go : (b : Bool) → is_digit c ≡ b → up_to 255 (cond b (decimal_value (v * 10 + (c - 48)) t) None) ≡ None
      go true e = value_big 255 t (v * 10 + (c - 48)) (omega (arith, g e))
      go false e = refl

octet_other : (t : List ℕ) → is_digit (get_or t 0 0) ≡ false → octet t ≡ None
unfolding number decimal_value
octet_other [] e = refl
octet_other (c ∷ t) e = rw (pass_other (λ (x : ℕ). not (is_digit x)) 48 refl c (ap not e), e)

octet_zero : (t : List ℕ) → octet (48 ∷ t) ≡ only (empty t) (Some 0)
unfolding number
octet_zero t = refl

octet_digit : (d : ℕ) (t : List ℕ) → d ≤ 9 → (d ≡ 0 → ⊥) → octet ((48 + d) ∷ t) ≡ up_to 255 (decimal_value d t)
unfolding number
octet_digit d t h z =
    let n : (48 + d ≡ 48 → ⊥) = λ e. z (omega (arith, e)) in
    let w : 0 * 10 + d ≡ d = omega arith in
    rw (ne_eqb (48 + d) 48 n) (ap (up_to 255) (value_digit 0 d t h ∙ ap (λ (x : ℕ). decimal_value x t) w))

-- one law for each return of `read_octet`
pub octet_none : {s : List ℕ} {at : ℕ} → NoDigit s at → NoOctet s at
octet_none {s} {at} n = record { is_none = λ p w. octet_other (run p s at) (digit_none p w n) }

module _ {s : List ℕ} {at a : ℕ} (da : Digit s at a) where
  module _ (p : ℕ → Bool) (w : Includes p is_digit) where
    first : run p s at ≡ (48 + a) ∷ run p s (at + 1)
    first = digit_next p w da (at + 1) refl

    behind_first : Scan p s at (at + 1)
    behind_first = digit_scan p w da (scan_none (omega (arith, da.within))) (at + 1) refl

    one : (a ≡ 0 → ⊥) → octet (run p s at) ≡ up_to 255 (decimal_value a (run p s (at + 1)))
    one z = ap octet first ∙ octet_digit a (run p s (at + 1)) da.small z

    zero : a ≡ 0 → octet (run p s at) ≡ only (empty (run p s (at + 1))) (Some 0)
    zero z = ap octet (first ∙ rw z) ∙ octet_zero (run p s (at + 1))

  pub octet_one : NoDigit s (at + 1) → IsOctet s at (at + 1) a
  octet_one n = record { scan = behind_first; is = λ p w. go p w (eqb a 0) refl }
    where
      go : (p : ℕ → Bool) (w : Includes p is_digit) (t : Bool) → eqb a 0 ≡ t →
          octet (run p s at) ≡ only (empty (run p s (at + 1))) (Some a)
      go p w true e = zero p w (eqb-true a 0 e) ∙ ap (λ (x : ℕ). only (empty (run p s (at + 1))) (Some x)) (sym (eqb-true a 0 e))
      go p w false e = one p w (eqb-false a 0 e) ∙ value_end a (run p s (at + 1)) (omega (arith, da.small)) (λ v. absurd (false≢true (sym (digit_none p w n) ∙ v)))

  module _ {b : ℕ} (db : Digit s (at + 1) b) where
    second : (p : ℕ → Bool) → Includes p is_digit → run p s (at + 1) ≡ (48 + b) ∷ run p s (at + 2)
    second p w = digit_next p w db (at + 2) (omega arith)

    pub octet_led : a ≡ 0 → NoOctet s at
    octet_led z = record { is_none = λ p w. zero p w z ∙ rw (second p w) }

    module _ (z : a ≡ 0 → ⊥) where
      module _ (p : ℕ → Bool) (w : Includes p is_digit) where
        behind_second : Scan p s at (at + 2)
        behind_second = digit_scan p w db (behind_first p w) (at + 2) (omega arith)

        two : octet (run p s at) ≡ up_to 255 (decimal_value (a * 10 + b) (run p s (at + 2)))
        two = one p w z ∙ ap (up_to 255) (ap (decimal_value a) (second p w) ∙ value_digit a b (run p s (at + 2)) db.small)

      pub octet_two : NoDigit s (at + 2) → IsOctet s at (at + 2) (a * 10 + b)
      octet_two n =
          record {
            scan = behind_second;
            is = λ p w. two p w ∙ value_end (a * 10 + b) (run p s (at + 2)) (omega (arith, da.small, db.small)) (λ v. absurd (false≢true (sym (digit_none p w n) ∙ v)));
          }

      module _ {c : ℕ} (dc : Digit s (at + 2) c) where
        abbrev all_three : ℕ
        all_three = (a * 10 + b) * 10 + c

        three : (p : ℕ → Bool) → Includes p is_digit →
            octet (run p s at) ≡ up_to 255 (decimal_value all_three (run p s (at + 3)))
        three p w =
            let third : run p s (at + 2) ≡ (48 + c) ∷ run p s (at + 3) = digit_next p w dc (at + 3) (omega arith) in
            two p w ∙ ap (up_to 255) (ap (decimal_value (a * 10 + b)) third ∙ value_digit (a * 10 + b) c (run p s (at + 3)) dc.small)

        pub octet_big : 255 < all_three → NoOctet s at
        octet_big k = record { is_none = λ p w. three p w ∙ value_big 255 (run p s (at + 3)) all_three k }

        pub octet_three : all_three ≤ 255 → IsOctet s at (at + 3) all_three
        octet_three k =
            record {
              scan = λ p w. digit_scan p w dc (behind_second p w) (at + 3) (omega arith);
              is = λ p w. three p w ∙ value_end all_three (run p s (at + 3)) k (λ v. omega (arith, z));
            }
