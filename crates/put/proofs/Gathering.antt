-- Texts read one after another into the front of an array of four: what the loops keep, a turn, and their ends.
use mathlib.Core.Path.{◌≡◌, refl, ap, sym, ◌∙◌}
use mathlib.Core.Bool.{Bool, true, false}
use mathlib.Core.List.{List, [], ◌∷◌, ◌++◌, append-nil}
use Rattle.std.specs.Prelude.{Option, None, Some}
use Prim.Native.Nat.{ℕ, suc, ◌+◌, ◌-◌, ◌≤◌, ◌<◌}
use native.Mathlib.Omega.{arith}
use lib.ListN.{length, set, replicate, length-append}
use lib.Seq.{set_at, append_snoc}
use Rattle.text.specs.Bytes.{between}
use Rattle.text.specs.Options.{prepend, glue, and_then, only, sized, each}
use Rattle.text.specs.Laws.{over}
use Rattle.text.specs.OptionLaws.{IfSome, glue_cons, glue_nil, glue_prepend}

module _ {A : Type 0} where
  -- texts in front of others
  pub each_read_append : (f : List ℕ → Option A) (ps qs : List (List ℕ)) → each f (ps ++ qs) ≡ and_then (each f ps) (λ l. glue l (each f qs))
  each_read_append f [] qs = sym (glue_nil (each f qs))
  each_read_append f (p ∷ ps) qs = rw (each_read_append f ps qs) (go (f p) (each f ps) (each f qs))
    where
      go : (o : Option A) (r t : Option (List A)) → and_then o (λ a. prepend a (and_then r (λ l. glue l t))) ≡ and_then (and_then o (λ a. prepend a r)) (λ l. glue l t)
      go None r t = refl
      go (Some a) None t = refl
      go (Some a) (Some l) t = glue_cons a l t

  -- as many are read as there are texts
  each_counts : (f : List ℕ → Option A) (ps : List (List ℕ)) → IfSome (λ l. length l ≡ length ps) (each f ps)
  each_counts f [] = refl
  each_counts f (p ∷ ps) = go (f p) (each f ps) (each_counts f ps)
    where
      go : (o : Option A) (r : Option (List A)) → IfSome (λ (l : List A). length l ≡ length ps) r → IfSome (λ (l : List A). length l ≡ suc (length ps)) (and_then o (λ a. prepend a r))
      go None r h = tt
      go (Some a) None h = tt
      go (Some a) (Some l) h = ap suc h

  pub sized_each : (low high : ℕ) (f : List ℕ → Option A) (ps : List (List ℕ)) → sized low high (each f ps) ≡ only (between low high (length ps)) (each f ps)
  sized_each low high f ps = go (each f ps) (each_counts f ps) (between low high (length ps)) refl
    where
      go : (o : Option (List A)) → IfSome (λ (l : List A). length l ≡ length ps) o → (t : Bool) → between low high (length ps) ≡ t → sized low high o ≡ only t o
      go None h true e = refl
      go None h false e = refl
      go (Some l) h true e = rw (h, e)
      go (Some l) h false e = rw (h, e)

-- n of the texts ps are read and stand in x, with d behind them up to four, and the texts qs are left
pub record Gathered {A : Type 0} (f : List ℕ → Option A) (d : A) (ps qs : List (List ℕ)) (x : List A) (n : ℕ) : Type 0 where
  pub done : List A
  pub rest : each f ps ≡ glue done (each f qs)
  pub long : length done ≡ n
  pub count : length ps ≡ n + length qs
  pub array : x ≡ done ++ replicate (4 - n) d

module _ {A : Type 0} {f : List ℕ → Option A} {d : A} {ps : List (List ℕ)} where
  pub gathered_first : Gathered f d ps ps (replicate 4 d) 0
  gathered_first = record { done = []; rest = sym (glue_nil (each f ps)); long = refl; count = omega arith; array = refl }

  module _ {qs : List (List ℕ)} {x : List A} {n : ℕ} (h : Gathered f d ps qs x n) (low : ℕ) where
    -- four are read, and more are left
    pub gathered_full : 4 ≤ n → 1 ≤ length qs → sized low 4 (each f ps) ≡ None
    gathered_full k l = sized_each low 4 f ps ∙ rw (over {x = length ps} low 4 (omega (arith, h.count)))

    -- none are left
    pub gathered_end : qs ≡ [] → sized low 4 (each f ps) ≡ only (between low 4 n) (Some h.done)
    gathered_end e =
        let k : length ps ≡ n = omega (arith, h.count, ap length e) in
        sized_each low 4 f ps ∙ rw (k, h.rest, e) (ap (λ l. only (between low 4 n) (Some l)) (append-nil h.done))

    module _ {p : List ℕ} {rs : List (List ℕ)} (e : qs ≡ p ∷ rs) where
      pub gathered_broken : f p ≡ None → sized low 4 (each f ps) ≡ None
      gathered_broken k = let w : each f ps ≡ None = h.rest ∙ rw (e, k) in ap (sized low 4) w

  module _ {qs : List (List ℕ)} {x : List A} {n : ℕ} (h : Gathered f d ps qs x n) where
    pub gathered_turn : {p : List ℕ} {rs : List (List ℕ)} → qs ≡ p ∷ rs → {a : A} → f p ≡ Some a → n < 4 → Gathered f d ps rs (set x n a) (n + 1)
    gathered_turn {p} {rs} e {a} k l =
        let m : 4 - n ≡ suc (4 - (n + 1)) = omega arith in
        let y : x ≡ h.done ++ d ∷ replicate (4 - (n + 1)) d = h.array ∙ rw m in
        record {
          done = h.done ++ (a ∷ []);
          rest = h.rest ∙ rw (e, k) (glue_prepend h.done a (each f rs));
          long = length-append h.done (a ∷ []) ∙ omega (arith, h.long);
          count = omega (arith, h.count, ap length e);
          array = ap (λ (l : List A). set l n a) y ∙ set_at h.done d (replicate (4 - (n + 1)) d) a n h.long ∙ sym (append_snoc h.done a (replicate (4 - (n + 1)) d));
        }
