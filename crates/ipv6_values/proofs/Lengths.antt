-- ConnMan's IPv6 and iwd's Address: one law for each return of their readers.
use mathlib.Core.Path.{◌≡◌, refl, ap, sym, ◌∙◌}
use mathlib.Core.List.{List, [], ◌∷◌}
use Rattle.std.specs.Prelude.{Option, None, Some}
use Rattle.std.proofs.lemmas.Option.{same_Some, none-some}
use Prim.Native.Nat.{ℕ, ◌+◌, ◌-◌, ◌≤◌}
use native.Mathlib.Omega.{arith}
use lib.ListN.{length, take, drop}
use lib.Seq.{take_all}
use Rattle.text.specs.Bytes.{other}
use Rattle.text.specs.Options.{and_then, mapped}
use Rattle.text.specs.Parts.{part, pieces}
use Rattle.text.specs.Laws.{pieces_some}
use Rattle.text.specs.Scans.{Stop}
use Rattle.text.proofs.ScanLaws.{pieces_end, pieces_at}
use Rattle.addresses.specs.Addresses.{prefix_length_of}
use Rattle.addressing.specs.Addressing.{Addressing, static}
use Rattle.addressing.specs.Settings.{fixed}
use Rattle.addressing.proofs.Fixing.{pieces_bad, two_pieces, three_pieces}
use Rattle.ipv6.specs.Ipv6.{ipv6}
use Rattle.ipv6_values.specs.Ipv6Values as Values
use Rattle.ipv6_values.specs.Ipv6Values.{address_length, with_length}
use Rattle.ipv6_values.specs.Layout.{with_length_laid}
use Rattle.ipv6_values.specs.declared.WithLength.{WithLength}

-- ---- an address and its length: none, or both of them

abbrev sized : Option (List ℕ) → Option ℕ → Option Values.WithLength
sized o p = and_then o (λ x. mapped (λ n. record { address = x; length = n }) p)

abbrev plain : Option (List ℕ) → Option ℕ → Option Addressing
plain o p = and_then o (λ x. and_then p (λ n. Some (static x n None)))

sized_none : (o : Option (List ℕ)) (p : Option ℕ) → None ≡ mapped with_length_laid (sized o p) → plain o p ≡ None
sized_none None p e = refl
sized_none (Some x) None e = refl
sized_none (Some x) (Some n) e = absurd (none-some _ e)

sized_some : (o : Option (List ℕ)) (p : Option ℕ) {w : WithLength} → Some w ≡ mapped with_length_laid (sized o p) →
    (o ≡ Some w.address) × (p ≡ Some w.length)
sized_some None p {w} e = absurd (none-some w (sym e))
sized_some (Some y) None {w} e = absurd (none-some w (sym e))
sized_some (Some y) (Some m) {w} e =
    let q = sym (same_Some {A = WithLength} w (record { address = y; length = m }) e) in
    (ap (λ (w : WithLength). Some w.address) q, ap (λ (w : WithLength). Some w.length) q)

-- the piece in front, as the code lends it
front_part : (a : ℕ) (s : List ℕ) → part 0 a s ≡ take a s
front_part a s = let e : a - 0 ≡ a = omega arith in rw e

-- ---- ConnMan's: what is read of the pieces between slashes

abbrev Says : List ℕ → Option Addressing → Type 0
Says s o = fixed ipv6 (prefix_length_of 128) (pieces 47 s) ≡ o

module _ {s : List ℕ} {a : ℕ} (ha : Stop (other 47) s 0 a) (na : a ≡ length s → ⊥) {b : ℕ} (hb : Stop (other 47) s (a + 1) b) where
  pub parts_unsized : None ≡ mapped with_length_laid (address_length (take a s ∷ part (a + 1) b s ∷ [])) → Says s None
  parts_unsized e = pieces_bad ipv6 (prefix_length_of 128) ha na hb (rw (front_part a s) (sized_none _ _ e))

  module _ {w : WithLength} (h : Some w ≡ mapped with_length_laid (address_length (take a s ∷ part (a + 1) b s ∷ []))) where
    read : (ipv6 (take a s) ≡ Some w.address) × (prefix_length_of 128 (part (a + 1) b s) ≡ Some w.length)
    read = sized_some _ _ h

    pub parts_static : b ≡ length s → Says s (Some (static w.address w.length None))
    parts_static l = two_pieces ipv6 (prefix_length_of 128) ha na hb l ∙ rw (front_part a s, read.0, read.1)

    module _ (nb : b ≡ length s → ⊥) {c : ℕ} (hc : Stop (other 47) s (b + 1) c) (l : c ≡ length s) where
      pub parts_unrouted : ipv6 (part (b + 1) c s) ≡ None → Says s None
      parts_unrouted k = three_pieces ipv6 (prefix_length_of 128) ha na hb nb hc l ∙ rw (front_part a s, read.0, read.1, k)

      pub parts_routed : {y : List ℕ} → ipv6 (part (b + 1) c s) ≡ Some y → Says s (Some (static w.address w.length (Some y)))
      parts_routed k = three_pieces ipv6 (prefix_length_of 128) ha na hb nb hc l ∙ rw (front_part a s, read.0, read.1, k)

-- ---- iwd's: the pieces between slashes

module _ {s : List ℕ} {a : ℕ} (ha : Stop (other 47) s 0 a) where
  with_one : a ≡ length s → address_length (pieces 47 s) ≡ address_length (s ∷ [])
  with_one e =
      let all : part 0 a s ≡ s = front_part a s ∙ take_all a s (omega (arith, e)) in
      ap address_length (pieces_end 47 ha e ∙ ap (λ (x : List ℕ). x ∷ []) all)

  module _ (e : a ≡ length s) where
    pub single_none : ipv6 s ≡ None → with_length s ≡ None
    unfolding with_length
    single_none k = with_one e ∙ rw k

    pub single_some : {x : List ℕ} → ipv6 s ≡ Some x → with_length s ≡ Some (record { address = x; length = 128 })
    unfolding with_length
    single_some k = with_one e ∙ rw k

  module _ (na : a ≡ length s → ⊥) {b : ℕ} (hb : Stop (other 47) s (a + 1) b) where
    pub with_two : b ≡ length s → with_length s ≡ address_length (take a s ∷ part (a + 1) b s ∷ [])
    unfolding with_length
    with_two e = rw (pieces_at 47 ha na, front_part a s, pieces_end 47 hb e)

    pub with_more : (b ≡ length s → ⊥) → with_length s ≡ None
    unfolding with_length
    with_more nb =
        ap address_length (pieces_at 47 ha na ∙ ap (λ (x : List (List ℕ)). part 0 a s ∷ x) (pieces_at 47 hb nb))
        ∙ go (pieces 47 (drop (b + 1) s)) (pieces_some 47 (drop (b + 1) s))
      where
        go : (ps : List (List ℕ)) → 1 ≤ length ps → address_length (part 0 a s ∷ part (a + 1) b s ∷ ps) ≡ None
        go [] h = absurd (omega arith)
        go (p ∷ ps) h = refl
