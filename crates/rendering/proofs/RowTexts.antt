-- The text of each part's settings: one line where the part is given, and nothing where it is not.
use Prim.Native.Nat.{ℕ, zero, suc, ◌+◌}
use native.Mathlib.Omega.{arith}
use mathlib.Core.Path.{◌≡◌, refl, ap, ◌∙◌}
use mathlib.Core.Bool.{Bool, true}
use mathlib.Core.List.{List, [], ◌∷◌, ◌++◌}
use lib.ListN.{length, take, length-append}
use Rattle.text.specs.Words.{word}
use Rattle.addresses.specs.Addresses.{dotted, mask_bytes, listed}
use Rattle.addresses.specs.declared.Separator.TheVariants.{Spaces}
use Rattle.addressing.specs.declared.Numbers.{Numbers}
use Rattle.addressing.specs.Addressing.{gateway_if}
use Rattle.rendering.proofs.Three.{Three}
use Rattle.written.specs.Written.{WrittenRow, gateway_rows, server_rows}
use Rattle.written.specs.RecordParts.{static_rows}
use Rattle.written.specs.Texts.{rows_text}
use Rattle.written.proofs.TextLaws.{rows_append}
use Rattle.rendering.proofs.ExactSizes.{line_size}

module _ (text : List ℕ → List ℕ) (a : List ℕ) where
  pub gateway_text : {h : Bool} → h ≡ true →
      rows_text (gateway_rows text (gateway_if h a)) ≡ word "Gateway=" ++ text a ++ 10 ∷ []
  unfolding rows_text
  gateway_text e = rw e

-- an address as a line with its key in front
abbrev pub address_line : List ℕ → List ℕ → List ℕ
address_line k a = k ++ dotted a ++ 10 ∷ []

-- the lines of a static IPv4, m being its mask
pub static_text : (i : Numbers 4) {m : List ℕ} → m ≡ mask_bytes i.length → Three (rows_text (static_rows i)) (address_line (word "Address=") i.address) (address_line (word "Netmask=") m) (rows_text (gateway_rows dotted (gateway_if i.has_gateway i.gateway)))
unfolding rows_text
static_text i {m} e =
    let own : WrittenRow = (word "Address", dotted i.address) in
    let mask : WrittenRow = (word "Netmask", dotted (mask_bytes i.length)) in
    let last : List WrittenRow = gateway_rows dotted (gateway_if i.has_gateway i.gateway) in
    rw e (record { is = rows_append (own ∷ mask ∷ []) last ∙ ap (λ (t : List ℕ). t ++ rows_text last) (rows_append (own ∷ []) (mask ∷ [])) })

pub static_size : (i : Numbers 4) {m : List ℕ} → m ≡ mask_bytes i.length → length (rows_text (static_rows i)) ≡ 18 + length (dotted i.address) + length (dotted m) + length (rows_text (gateway_rows dotted (gateway_if i.has_gateway i.gateway)))
static_size i {m} e =
    let own = address_line (word "Address=") i.address in
    let mask = address_line (word "Netmask=") m in
    let last = rows_text (gateway_rows dotted (gateway_if i.has_gateway i.gateway)) in
    ap length (static_text i e).is ∙ length-append (own ++ mask) last ∙ omega (arith, length-append own mask, line_size (word "Address=") (dotted i.address), line_size (word "Netmask=") (dotted m))

module _ (l : List (List ℕ)) where
  pub servers_text : (n : ℕ) → (n ≡ 0 → ⊥) → length l ≡ 4 → rows_text (server_rows (take n l)) ≡ word "DNS=" ++ listed Spaces (take n l) ++ 10 ∷ []
  unfolding rows_text
  servers_text zero h e = absurd (h refl)
  servers_text (suc n) h e = go l e
    where
      go : (m : List (List ℕ)) → length m ≡ 4 → rows_text (server_rows (take (suc n) m)) ≡ word "DNS=" ++ listed Spaces (take (suc n) m) ++ 10 ∷ []
      go [] k = absurd (omega (arith, k))
      go (x ∷ m) k = refl
