-- Whether a name is a service's, one law for each return.
use mathlib.Core.Path.{◌≡◌, ap, ◌∙◌}
use mathlib.Core.Bool.{Bool, true, false, and-false}
use mathlib.Core.List.{List}
use Prim.Native.Nat.{ℕ, ◌-◌, ◌≤◌, ◌<◌}
use native.Mathlib.Omega.{arith}
use lib.ListN.{length, take, drop, length-drop}
use lib.Seq.{take_all}
use Rattle.text.specs.Bytes.{between, is_identifier}
use Rattle.text.specs.Parts.{all}
use Rattle.text.specs.Words.{word, same}
use Rattle.text.specs.Laws.{inside, under, over}
use Rattle.rules.specs.Tables.{is_service}

module _ (n : List ℕ) where
  outside : between 1 32 (length (drop 8 n)) ≡ false → false ≡ is_service n
  unfolding is_service
  outside e = rw (e, and-false (same (take 8 n) (word "service_")))

  pub service_short : length n < 9 → false ≡ is_service n
  service_short h = outside (under {x = length (drop 8 n)} 1 32 (simp length-drop (omega arith)))

  pub service_long : 40 < length n → false ≡ is_service n
  service_long h = outside (over {x = length (drop 8 n)} 1 32 (simp length-drop (omega arith)))

  module _ {x : Bool} (p : x ≡ same (take 8 n) (word "service_")) where
    pub service_other : x ≡ false → false ≡ is_service n
    unfolding is_service
    service_other e = rw (← p, e)

    pub service_name_lem : x ≡ true → 9 ≤ length n → length n ≤ 40 → {y : Bool} → y ≡ all is_identifier (take (length n - 8) (drop 8 n)) → y ≡ is_service n
    unfolding is_service
    service_name_lem e h g q =
        let r : take (length n - 8) (drop 8 n) ≡ drop 8 n = take_all (length n - 8) (drop 8 n) (simp length-drop (omega arith)) in
        rw (← p, e, inside {x = length (drop 8 n)} 1 32 (simp length-drop (omega arith)) (simp length-drop (omega arith))) (q ∙ ap (all is_identifier) r)
