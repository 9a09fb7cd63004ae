-- The dialect that a name asks for: one law for each return of `dialect_of`.
use mathlib.Core.Path.{◌≡◌, ap, sym, ◌∙◌}
use mathlib.Core.Bool.{Bool, true, false}
use mathlib.Core.List.{List}
use Prim.Native.Nat.{ℕ, ◌-◌, ◌<◌, ◌≤◌}
use native.Mathlib.Nat.{le_refl}
use borrow.Author.Tests.{lt-ltb, le-ltb}
use lib.ListN.{length, take, drop, length-drop}
use lib.Seq.{take_all}
use Rattle.text.specs.Words.{word, same}
use Rattle.text.specs.declared.Dialect.TheVariants.{Iwd, ConnMan}
use Rattle.names.specs.Dialects.{dialect_of}

module _ (f : List ℕ) where
  pub dialect_short : length f < 7 → Iwd ≡ dialect_of f
  dialect_short l = rw (lt-ltb (length f) 7 l)

  module _ (l : 7 ≤ length f) {x : Bool} (p : x ≡ same (take (length f - (length f - 7)) (drop (length f - 7) f)) (word ".config")) where
    ending : same (drop (length f - 7) f) (word ".config") ≡ x
    ending = ap (λ (w : List ℕ). same w (word ".config")) (sym (take_all (length f - (length f - 7)) (drop (length f - 7) f) (simp length-drop (le_refl _)))) ∙ sym p

    pub dialect_connman : x ≡ true → ConnMan ≡ dialect_of f
    dialect_connman e = rw (le-ltb (length f) 7 l, ending ∙ e)

    pub dialect_iwd : x ≡ false → Iwd ≡ dialect_of f
    dialect_iwd e = rw (le-ltb (length f) 7 l, ending ∙ e)
