-- ConnMan's IPv4: one law for each return of its readers.
use mathlib.Core.Path.{◌≡◌, refl, ap, sym, ◌∙◌}
use mathlib.Core.Bool.{not}
use mathlib.Core.List.{List, [], ◌∷◌}
use Rattle.std.specs.Prelude.{Option, None, Some}
use Prim.Native.Nat.{ℕ, ◌+◌, ◌<◌}
use lib.ListN.{length, drop, get_or}
use Rattle.text.specs.Bytes.{other}
use Rattle.text.specs.Parts.{after, part, pieces}
use Rattle.text.specs.Laws.{is_other, not_other, pass_other}
use Rattle.text.specs.Pieces.{Pieces, last, next}
use Rattle.text.specs.PieceLaws.{pieces_are}
use Rattle.text.specs.Scans.{Stop}
use Rattle.text.proofs.ScanLaws.{stop_front, pieces_at}
use Rattle.addresses.specs.Addresses.{address}
use Rattle.addresses.specs.Fields.{Includes, run, ReadAt, NoneAt, is_address_byte}
use Rattle.addresses.proofs.Runs.{Whole, whole_part, read_end, read_before, read_followed, read_stop, behind, every, front_every, pieces_first}
use Rattle.addressing.specs.Addressing.{Addressing, static}
use Rattle.addressing.specs.Settings.{fixed}
use Rattle.addressing.proofs.Fixing.{one_piece, two_pieces, three_pieces}
use Rattle.connman_ipv4.specs.ConnmanIpv4.{mask_or_length}

-- ---- what is refused before the pieces are counted

no_address_lem : (a : List ℕ) (ps : List (List ℕ)) → address a ≡ None → fixed address mask_or_length (a ∷ ps) ≡ None
no_address_lem a [] e = refl
no_address_lem a (m ∷ []) e = rw e
no_address_lem a (m ∷ g ∷ []) e = rw e
no_address_lem a (m ∷ g ∷ h ∷ t) e = refl

module _ (a m : List ℕ) {x : List ℕ} (k : address a ≡ Some x) where
  no_length : (ps : List (List ℕ)) → mask_or_length m ≡ None → fixed address mask_or_length (a ∷ m ∷ ps) ≡ None
  no_length [] e = rw (k, e)
  no_length (g ∷ []) e = rw (k, e)
  no_length (g ∷ h ∷ t) e = refl

  -- of a text that is no address, or has a slash
  no_gateway : {n : ℕ} → mask_or_length m ≡ Some n → {t : List ℕ} {ps : List (List ℕ)} → Pieces 47 t ps →
      address t ≡ None → fixed address mask_or_length (a ∷ m ∷ ps) ≡ None
  no_gateway w (last h) e = rw (k, w, e)
  no_gateway w (next h (last l)) e = refl
  no_gateway w (next h (next l t)) e = refl

-- ---- an address, its length and perhaps a gateway: one law for each return of `read_parts`

-- o is what the text s says
abbrev Says : List ℕ → Option Addressing → Type 0
Says s o = fixed address mask_or_length (pieces 47 s) ≡ o

-- a byte of an address is no slash
unslashed : Includes (other 47) is_address_byte
unslashed x e = ap not (pass_other is_address_byte 47 refl x e)

module _ (s : List ℕ) where
  unread : address (run (other 47) s 0) ≡ None → Says s None
  unread k = rw (pieces_first 47 s) (no_address_lem _ (behind 47 (after (other 47) s)) k)

  pub parts_unread : NoneAt address is_address_byte s 0 → Says s None
  parts_unread h = unread (h.is_none (other 47) unslashed)

module _ {s : List ℕ} {a : ℕ} {x : List ℕ} (ha : ReadAt address is_address_byte s 0 a x) where
  pub parts_alone : a ≡ length s → Says s None
  parts_alone l = one_piece address mask_or_length (read_end ha (other 47) unslashed l).stop l

  module _ (la : a ≡ length s → ⊥) where
    pub parts_before : a < length s
    parts_before = read_before ha (other 47) unslashed la

    pub parts_apart : (get_or s a 0 ≡ 47 → ⊥) → Says s None
    parts_apart c = unread s (read_followed ha (other 47) unslashed la (is_other (get_or s a 0) 47 c))

    module _ (c : get_or s a 0 ≡ 47) {e : ℕ} (he : Stop (other 47) s (a + 1) e) where
      whole : Whole address (other 47) s 0 a x
      whole = read_stop ha (other 47) unslashed la (not_other (get_or s a 0) 47 c)

      pub parts_unsized : mask_or_length (part (a + 1) e s) ≡ None → Says s None
      parts_unsized k =
          rw (pieces_at 47 whole.stop la, pieces_first 47 (drop (a + 1) s), stop_front he)
          (no_length _ _ (whole_part whole) (behind 47 (after (other 47) (drop (a + 1) s))) k)

      -- with a length
      module _ {n : ℕ} (hn : mask_or_length (part (a + 1) e s) ≡ Some n) where
        pub parts_static : e ≡ length s → Says s (Some (static x n None))
        parts_static l =
            two_pieces address mask_or_length whole.stop la he l ∙ rw (whole_part whole, hn)

        -- and with a gateway
        module _ (le : e ≡ length s → ⊥) where
          unrouted : address (run every s (e + 1)) ≡ None → Says s None
          unrouted k =
              rw (pieces_at 47 whole.stop la, pieces_at 47 he le)
              (no_gateway _ _ (whole_part whole) hn (pieces_are 47 (drop (e + 1) s))
              (ap address (sym (front_every _)) ∙ k))

          pub parts_unrouted : NoneAt address is_address_byte s (e + 1) → Says s None
          parts_unrouted h = unrouted (h.is_none every (λ x w. refl))

          module _ {g : ℕ} {y : List ℕ} (hg : ReadAt address is_address_byte s (e + 1) g y) where
            pub parts_followed : (g ≡ length s → ⊥) → Says s None
            parts_followed l = unrouted (read_followed hg every (λ x w. refl) l refl)

            pub parts_routed : g ≡ length s → Says s (Some (static x n (Some y)))
            parts_routed l =
                let t = read_end hg (other 47) unslashed l in
                three_pieces address mask_or_length whole.stop la he le t.stop l
                ∙ rw (whole_part whole, hn, whole_part t)
