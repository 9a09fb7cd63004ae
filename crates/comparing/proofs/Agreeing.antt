-- A part that differs, and one that does not, against the conjunction of it and the rest.
use mathlib.Core.Path.{◌≡◌}
use mathlib.Core.Bool.{Bool, true, false, ◌&&◌}

module _ {x : Bool} (y : Bool) where
  pub differs : x ≡ false → false ≡ (x && y)
  differs e = rw e

  pub agrees : x ≡ true → {r : Bool} → r ≡ y → r ≡ (x && y)
  agrees e k = rw e k
