-- Laws of scans: a run goes on byte by byte or block by block to its end, and its end bounds a part, a line or a piece.
use mathlib.Core.Path.{◌≡◌, refl, ap, ap₂, ◌∙◌, sym, subst, fun_ext}
use mathlib.Core.Logic.{◌≢◌}
use mathlib.Core.Bool.{Bool, true, false, cond}
use mathlib.Core.List.{List, [], ◌∷◌}
use Prim.Native.Nat.{ℕ, zero, suc, ◌+◌, ◌-◌, ◌≤◌, ◌<◌}
use native.Mathlib.Omega.{arith}
use borrow.Author.Tests.{eqb-true, eqb-false}
use lib.Dec.{eqb}
use lib.ListN.{length, take, drop, get_or, length-drop}
use lib.Seq.{drop-cons, drop-drop}
use Rattle.text.specs.Bytes.{in_line, other}
use Rattle.text.specs.Parts.{lead, front, after, all, part, lines, pieces}
use Rattle.text.specs.Laws.{lead_more, lead_stop, lead_end, lead_whole, lead_part, lines_front, pieces_whole, pieces_more}
use Rattle.text.specs.Scans.{Stop, Scan}

-- ---- a run that goes on: none passed yet, one byte more, a block more, and its ends

module _ {p : ℕ → Bool} {s : List ℕ} {from : ℕ} where
  pub scan_none : from ≤ length s → Scan p s from from
  scan_none l = record { within = l; rest = refl }

  module _ {i : ℕ} (h : Scan p s from i) where
    pub scan_turn : i < length s → p (get_or s i 0) ≡ true → Scan p s from (i + 1)
    scan_turn l e = record { within = omega arith; rest = omega (arith, lead_more p s i l e, h.rest) }

    pub scan_stop : i < length s → p (get_or s i 0) ≡ false → Stop p s from i
    scan_stop l e = record { is = omega (arith, lead_stop p s i l e, h.rest); within = h.within }

    pub scan_end : length s ≤ i → Stop p s from i
    scan_end l = record { is = omega (arith, lead_end p s i l, h.rest); within = h.within }

    pub scan_on : {e : ℕ} → Scan p s i e → Scan p s from e
    scan_on t = record { within = t.within; rest = t.rest ∙ h.rest }

    pub scan_then : {e : ℕ} → Stop p s i e → Stop p s from e
    scan_then t = record { is = t.is ∙ h.rest; within = t.within }

-- two tests alike at every byte stop a run alike
pub stop_as : {p q : ℕ → Bool} {s : List ℕ} {from r : ℕ} → ((x : ℕ) → p x ≡ q x) → Stop p s from r → Stop q s from r
stop_as {s = s} {from = from} {r = r} e h = subst (λ (f : ℕ → Bool). Stop f s from r) (fun_ext e) h

-- ---- a run that goes on from k to e: so does what starts between, each byte passes, and so the run of a weaker test goes on

module _ {p : ℕ → Bool} {s : List ℕ} {k e : ℕ} (t : Scan p s k e) where
  reach : (n j : ℕ) → j ≡ k + n → j ≤ e → j + lead p (drop j s) ≡ e + lead p (drop e s)
  reach zero j w l = subst (λ (x : ℕ). x + lead p (drop x s) ≡ e + lead p (drop e s)) (let v : k ≡ j = omega (arith, w) in v) (sym t.rest)
  reach (suc n) j w l = go (p (get_or s (j - 1) 0)) refl (reach n (j - 1) (omega (arith, w)) (omega arith))
    where
      m : j - 1 < length s
      m = omega (arith, w, t.within)

      v : j - 1 + 1 ≡ j
      v = omega (arith, w)

      go : (b : Bool) → p (get_or s (j - 1) 0) ≡ b → j - 1 + lead p (drop (j - 1) s) ≡ e + lead p (drop e s) → j + lead p (drop j s) ≡ e + lead p (drop e s)
      go true q h = subst (λ (x : ℕ). x + lead p (drop x s) ≡ e + lead p (drop e s)) v (omega (arith, lead_more p s (j - 1) m q, h))
      go false q h = absurd (omega (arith, lead_stop p s (j - 1) m q, h, w))

  pub scan_within : {i : ℕ} → k ≤ i → i ≤ e → Scan p s i e
  scan_within {i} l m = record { within = t.within; rest = sym (reach (i - k) i (omega arith) m) }

  -- and where it goes on to the end of the text
  pub scan_last : e ≡ length s → {i : ℕ} → k ≤ i → i ≤ length s → Scan p s i (length s)
  scan_last w {i} l m = subst (λ (x : ℕ). Scan p s i x) w (scan_within l (omega (arith, w)))

  scan_byte : (i : ℕ) → k ≤ i → i < e → p (get_or s i 0) ≡ true
  scan_byte i l m = go (p (get_or s i 0)) refl
    where
      n : i < length s
      n = omega (arith, t.within)

      go : (b : Bool) → p (get_or s i 0) ≡ b → b ≡ true
      go true q = refl
      go false q = absurd (omega (arith, lead_stop p s i n q, reach (i - k) i (omega arith) (omega arith)))

  module _ {q : ℕ → Bool} (f : (x : ℕ) → p x ≡ true → q x ≡ true) where
    so_far : (n : ℕ) → k + n ≤ e → Scan q s k (k + n)
    so_far zero l = subst (λ (x : ℕ). Scan q s k x) (let v : k ≡ k + 0 = omega arith in v) (scan_none (omega (arith, t.within)))
    so_far (suc n) l =
        subst (λ (x : ℕ). Scan q s k x) (let v : k + n + 1 ≡ k + suc n = omega arith in v)
        (scan_turn (so_far n (omega arith)) (omega (arith, t.within)) (f _ (scan_byte (k + n) (omega arith) (omega arith))))

    pub scan_as : k ≤ e → Scan q s k e
    scan_as l = subst (λ (x : ℕ). Scan q s k x) (let v : k + (e - k) ≡ e = omega arith in v) (so_far (e - k) (omega arith))

-- the byte behind a run does not pass
after_fails : (p : ℕ → Bool) (v : List ℕ) {c : ℕ} {r : List ℕ} → after p v ≡ c ∷ r → p c ≡ false
after_fails p [] e = absurd (omega (arith, ap length e))
after_fails p (x ∷ v) {c} {r} e = go (p x) refl (λ f. after_fails p v f) e
  where
    go : (b : Bool) → p x ≡ b → (after p v ≡ c ∷ r → p c ≡ false) → drop (cond b (suc (lead p v)) 0) (x ∷ v) ≡ c ∷ r → p c ≡ false
    go true q k f = k f
    go false q k f = subst (λ (y : ℕ). p y ≡ false) (ap (λ (l : List ℕ). get_or l 0 0) f) q

-- ---- a run that has ended: its part, what comes after it, and whether it was all there is

module _ {p : ℕ → Bool} {s : List ℕ} {a e : ℕ} (h : Stop p s a e) where
  pub stop_low : a ≤ e
  stop_low = omega (arith, h.is)

  stop_lead : lead p (drop a s) ≡ e - a
  stop_lead = omega (arith, h.is)

  pub stop_front : front p (drop a s) ≡ part a e s
  stop_front = ap (λ (n : ℕ). take n (drop a s)) stop_lead

  pub stop_after : after p (drop a s) ≡ drop e s
  stop_after = drop-drop (lead p (drop a s)) a s ∙ ap (λ (n : ℕ). drop n s) (sym h.is)

  pub stop_byte : e < length s → p (get_or s e 0) ≡ false
  stop_byte l = after_fails p (drop a s) (stop_after ∙ drop-cons s e 0 l)

  pub stop_all : e ≡ length s → all p (drop a s) ≡ true
  stop_all k = lead_whole p (drop a s) (simp length-drop (omega (arith, stop_lead)))

  pub stop_some : (e ≡ length s → ⊥) → all p (drop a s) ≡ false
  stop_some k = lead_part p (drop a s) (simp length-drop (omega (arith, stop_lead, h.within, k')))
    where
      k' : e ≢ length s
      k' = k

pub all_run : {p : ℕ → Bool} {s : List ℕ} {e : ℕ} → Stop p s 0 e → eqb e (length s) ≡ all p s
all_run {p} {s} {e} h = go (eqb e (length s)) refl
  where
    go : (t : Bool) → eqb e (length s) ≡ t → t ≡ all p s
    go true q = sym (stop_all h (eqb-true e (length s) q))
    go false q = sym (stop_some h (eqb-false e (length s) q))

-- ---- the lines and the pieces from index i on, by the end e of the first

pub lines_at : {s : List ℕ} {i e : ℕ} → i < length s → Stop in_line s i e → lines (drop i s) ≡ part i e s ∷ lines (drop (e + 1) s)
lines_at {s} {i} {e} h t =
    let n : i + suc (lead in_line (drop i s)) ≡ e + 1 = omega (arith, t.is) in
    lines_front (drop i s) (simp length-drop (omega arith))
    ∙ ap₂ (λ (a b : List ℕ). a ∷ lines b) (stop_front t) (drop-drop (suc (lead in_line (drop i s))) i s ∙ ap (λ (k : ℕ). drop k s) n)

module _ (d : ℕ) {s : List ℕ} {i e : ℕ} (h : Stop (other d) s i e) where
  pub pieces_end : e ≡ length s → pieces d (drop i s) ≡ part i e s ∷ []
  pieces_end k = pieces_whole d (drop i s) (simp length-drop (omega (arith, h.is))) ∙ ap (λ (p : List ℕ). p ∷ []) (stop_front h)

  pub pieces_at : (e ≡ length s → ⊥) → pieces d (drop i s) ≡ part i e s ∷ pieces d (drop (e + 1) s)
  pieces_at k =
      let l : lead (other d) (drop i s) < length (drop i s) = simp length-drop (omega (arith, h.is, h.within, k)) in
      let n : i + suc (lead (other d) (drop i s)) ≡ e + 1 = omega (arith, h.is) in
      pieces_more d (drop i s) l
      ∙ ap₂ (λ (a b : List ℕ). a ∷ pieces d b) (stop_front h) (drop-drop (suc (lead (other d) (drop i s))) i s ∙ ap (λ (k : ℕ). drop k s) n)
