-- Three texts, written one behind the other where the whole has room.
use Prim.Native.Nat.{ℕ}
use mathlib.Core.Path.{◌≡◌, sym, subst}
use mathlib.Core.List.{List, ◌++◌}
use Rattle.put.specs.Put.{Wrote}
use Rattle.put.specs.Laws.{then}

pub record Three (w t u v : List ℕ) : Type 0 where
  pub is : w ≡ t ++ u ++ v

pub three_wrote : {w t u v o x y z : List ℕ} {a b c r : ℕ} → Three w t u v → Wrote t a o x b → Wrote u b x y c → Wrote v c y z r → Wrote w a o z r
three_wrote {o = o} {z = z} {a = a} {r = r} h f g k = subst (λ (l : List ℕ). Wrote l a o z r) (sym h.is) (then (then f g) k)
