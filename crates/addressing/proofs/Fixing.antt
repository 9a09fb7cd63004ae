-- A fixed address in ConnMan's text: one law for each return of a family's readers, by what they read of an address and of a length.
use mathlib.Core.Path.{◌≡◌, refl, ap, ◌∙◌}
use mathlib.Core.Bool.{false, true≢false}
use mathlib.Core.List.{List, [], ◌∷◌}
use Rattle.std.specs.Prelude.{Option, None, Some}
use Prim.Native.Nat.{ℕ, ◌+◌, ◌≤◌}
use native.Mathlib.Omega.{arith}
use lib.ListN.{length, drop}
use Rattle.text.specs.Bytes.{other}
use Rattle.text.specs.Parts.{after, part, pieces}
use Rattle.text.specs.Options.{is_some, and_then}
use Rattle.text.specs.Laws.{pieces_some}
use Rattle.text.specs.Scans.{Stop}
use Rattle.text.proofs.ScanLaws.{stop_front, pieces_end, pieces_at}
use Rattle.addresses.proofs.Runs.{behind, pieces_first}
use Rattle.addressing.specs.Addressing.{Addressing, static}
use Rattle.addressing.specs.Settings.{fixed}

-- ---- with a gateway, from what was read without it

abbrev plainly : Option (List ℕ) → Option ℕ → Option Addressing
plainly o p = and_then o (λ x. and_then p (λ n. Some (static x n None)))

abbrev routed : Option (List ℕ) → Option ℕ → Option (List ℕ) → Option Addressing
routed o p q = and_then o (λ x. and_then p (λ n. and_then q (λ y. Some (static x n (Some y)))))

bad : (o : Option (List ℕ)) (p : Option ℕ) (q : Option (List ℕ)) → is_some (plainly o p) ≡ false → routed o p q ≡ None
bad None p q k = refl
bad (Some a) None q k = refl
bad (Some a) (Some n) q k = absurd (true≢false k)

module _ (read : List ℕ → Option (List ℕ)) (size : List ℕ → Option ℕ) where
  -- with no address or no length there is none, whatever stands behind
  fixed_bad : (a m : List ℕ) (ps : List (List ℕ)) → fixed read size (a ∷ m ∷ []) ≡ None → fixed read size (a ∷ m ∷ ps) ≡ None
  fixed_bad a m [] k = k
  fixed_bad a m (g ∷ []) k = bad (read a) (size m) (read g) (ap is_some k)
  fixed_bad a m (g ∷ h ∷ t) k = refl

  -- ---- the pieces between slashes

  module _ {s : List ℕ} {a : ℕ} (ha : Stop (other 47) s 0 a) where
    pub one_piece : a ≡ length s → fixed read size (pieces 47 s) ≡ None
    one_piece e = ap (fixed read size) (pieces_end 47 ha e)

    module _ (na : a ≡ length s → ⊥) {b : ℕ} (hb : Stop (other 47) s (a + 1) b) where
      pub two_pieces : b ≡ length s → fixed read size (pieces 47 s) ≡ fixed read size (part 0 a s ∷ part (a + 1) b s ∷ [])
      two_pieces e = ap (fixed read size) (pieces_at 47 ha na ∙ ap (λ (x : List (List ℕ)). part 0 a s ∷ x) (pieces_end 47 hb e))

      pub pieces_bad : fixed read size (part 0 a s ∷ part (a + 1) b s ∷ []) ≡ None → fixed read size (pieces 47 s) ≡ None
      pieces_bad k =
          rw (pieces_at 47 ha na, pieces_first 47 (drop (a + 1) s), stop_front hb)
          (fixed_bad (part 0 a s) (part (a + 1) b s) (behind 47 (after (other 47) (drop (a + 1) s))) k)

      module _ (nb : b ≡ length s → ⊥) {c : ℕ} (hc : Stop (other 47) s (b + 1) c) where
        pub three_pieces : c ≡ length s →
            fixed read size (pieces 47 s) ≡ fixed read size (part 0 a s ∷ part (a + 1) b s ∷ part (b + 1) c s ∷ [])
        three_pieces e = ap (fixed read size) (pieces_at 47 ha na ∙ ap (λ (x : List (List ℕ)). part 0 a s ∷ x) (pieces_at 47 hb nb ∙ ap (λ (x : List (List ℕ)). part (a + 1) b s ∷ x) (pieces_end 47 hc e)))

        pub more_pieces : (c ≡ length s → ⊥) → fixed read size (pieces 47 s) ≡ None
        more_pieces nc =
            ap (fixed read size) (pieces_at 47 ha na ∙ ap (λ (x : List (List ℕ)). part 0 a s ∷ x) (pieces_at 47 hb nb ∙ ap (λ (x : List (List ℕ)). part (a + 1) b s ∷ x) (pieces_at 47 hc nc)))
            ∙ go (pieces 47 (drop (c + 1) s)) (pieces_some 47 (drop (c + 1) s))
          where
            go : (ps : List (List ℕ)) → 1 ≤ length ps → fixed read size (part 0 a s ∷ part (a + 1) b s ∷ part (b + 1) c s ∷ ps) ≡ None
            go [] h = absurd (omega arith)
            go (p ∷ ps) h = refl
