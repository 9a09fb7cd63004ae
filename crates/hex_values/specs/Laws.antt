-- How long a key and a network name in hex are once they are read, and that a key that is written reads back.
use Rattle.std.specs.Prelude.{ℕ, ◌≤◌, ◌≡◌, refl, true, List, length, Some}
use Rattle.std.proofs.Common.{arith}
use Rattle.text.specs.Bytes.{is_byte}
use Rattle.text.specs.Parts.{all}
use Rattle.text.specs.OptionLaws.{is_sized, sized_then}
use Rattle.hex_digits.specs.Hex.{unhex, hex}
use Rattle.hex_digits.specs.Laws.{unhex_length, unhex_bytes, unhex_hex, hex_length}
use Rattle.hex_values.specs.HexValues.{pre_shared_key_of, ssid}

pub pre_shared_key_size : (v : List ℕ) {k : List ℕ} → pre_shared_key_of v ≡ Some k → (length k ≡ 32) × (all is_byte k ≡ true)
unfolding pre_shared_key_of
pre_shared_key_size v {k} e =
    let h = sized_then 64 64 unhex v e in
    (omega (arith, h.0, unhex_length v h.1), unhex_bytes v h.1)

pub ssid_size : (v : List ℕ) {s : List ℕ} → ssid v ≡ Some s → (1 ≤ length s) × (length s ≤ 32) × (all is_byte s ≡ true)
unfolding ssid
ssid_size v {s} e =
    let h = sized_then 2 64 unhex v e in
    (omega (arith, h.0, unhex_length v h.1), omega (arith, h.0, unhex_length v h.1), unhex_bytes v h.1)

pub pre_shared_key_hex : (k : List ℕ) → length k ≡ 32 → all is_byte k ≡ true → pre_shared_key_of (hex k) ≡ Some k
unfolding pre_shared_key_of
pre_shared_key_hex k n b =
    let l = hex_length k in
    rw (is_sized 64 64 (Some (hex k)) (record { least = omega arith; most = omega arith }) refl, unhex_hex k b)
