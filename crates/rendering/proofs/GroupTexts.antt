-- The text of each group: its header and its settings, and nothing where it has none.
use Prim.Native.Nat.{ℕ, ◌+◌}
use native.Mathlib.Omega.{arith}
use mathlib.Core.Path.{◌≡◌, refl, ap, sym, ◌∙◌, subst}
use mathlib.Core.Bool.{true}
use mathlib.Core.List.{List, [], ◌∷◌, ◌++◌}
use Rattle.std.specs.Prelude.{Option}
use lib.ListN.{length, length-append}
use Rattle.text.specs.Words.{word}
use Rattle.put.specs.Put.{Wrote}
use Rattle.put.specs.Laws.{then}
use Rattle.hex_digits.specs.Hex.{hex}
use Rattle.addresses.specs.Addresses.{decimal}
use Rattle.addressing.specs.Addressing.{Addressing, static}
use Rattle.ipv6.specs.Ipv6.{canonical}
use Rattle.records.specs.Record.{secret_of, joined}
use Rattle.records.specs.declared.JoinRecord.{JoinRecord}
use Rattle.records.specs.declared.Credential.{Credential}
use Rattle.records.specs.declared.Credential.TheVariants as C
use Rattle.written.specs.Written.{WrittenRow, hidden_rows, secret_rows, gateway_rows, number_rows, server_rows, domain_rows, ipv4_rows, lengthened, ipv6_rows, file_text}
use Rattle.written.specs.Texts.{rows_text, group_text, some_row}
use Rattle.written.proofs.TextLaws.{rows_append, group_text_lem, file_groups}
use Rattle.rendering.proofs.ExactSizes.{line_size}
use Rattle.rendering.proofs.Three.{Three}
use Rattle.rendering.proofs.Four.{Four}

module _ (p k : List ℕ) {c : Credential} where
  pub security_key : c ≡ C.Key → group_text (word "Security") (secret_rows (secret_of c p k)) ≡ word "[Security]\nPreSharedKey=" ++ hex k ++ 10 ∷ []
  unfolding group_text
  security_key e = rw e

-- the IPv6 group of a static one: its header and its address, and then its gateway
abbrev pub ipv6_front : List ℕ → ℕ → List ℕ
ipv6_front a n = word "[IPv6]\nAddress=" ++ lengthened a n ++ 10 ∷ []

module _ (a : List ℕ) (n : ℕ) (g : Option (List ℕ)) where
  pub ipv6_text : group_text (word "IPv6") (ipv6_rows (static a n g)) ≡ ipv6_front a n ++ rows_text (gateway_rows canonical g)
  unfolding rows_text
  ipv6_text =
      group_text_lem (word "IPv6") (ipv6_rows (static a n g)) refl
      ∙ ap (λ (t : List ℕ). word "[IPv6]\n" ++ t) (rows_append ((word "Address", lengthened a n) ∷ []) (gateway_rows canonical g))

  pub ipv6_size : length (group_text (word "IPv6") (ipv6_rows (static a n g))) ≡ 17 + length (canonical a) + length (decimal n) + length (rows_text (gateway_rows canonical g))
  ipv6_size =
      ap length ipv6_text
      ∙ length-append (ipv6_front a n) (rows_text (gateway_rows canonical g))
      ∙ omega (arith, line_size (word "[IPv6]\nAddress=") (lengthened a n), length-append (canonical a) (47 ∷ decimal n))

  pub ipv6_wrote : {o x y : List ℕ} {p r : ℕ} → Wrote (ipv6_front a n) 0 o x p → Wrote (rows_text (gateway_rows canonical g)) p x y r →
      Wrote (group_text (word "IPv6") (ipv6_rows (static a n g))) 0 o y r
  ipv6_wrote {o} {x} {y} {p} {r} f k = subst (λ (t : List ℕ). Wrote t 0 o y r) (sym ipv6_text) (then f k)

-- the settings of the IPv4 group, and the group
pub ipv4_rows_lem : (i : Addressing) (l : List (List ℕ)) (d : List ℕ) → Three (rows_text (ipv4_rows i l d)) (rows_text (number_rows i)) (rows_text (server_rows l)) (rows_text (domain_rows d))
ipv4_rows_lem i l d = record { is = rows_append (number_rows i ++ server_rows l) (domain_rows d) ∙ ap (λ (t : List ℕ). t ++ rows_text (domain_rows d)) (rows_append (number_rows i) (server_rows l)) }

pub ipv4_wrote : (rs : List WrittenRow) → some_row rs ≡ true → {o x y : List ℕ} {a r : ℕ} → Wrote (word "[IPv4]\n") 0 o x a →
    Wrote (rows_text rs) a x y r → Wrote (group_text (word "IPv4") rs) 0 o y r
ipv4_wrote rs e {o} {x} {y} {a} {r} f g = subst (λ (t : List ℕ). Wrote t 0 o y r) (sym (group_text_lem (word "IPv4") rs e)) (then f g)

-- the file: its four groups
pub file_four : (r : JoinRecord) (s : List (List ℕ)) → Four (file_text (joined r s)) (group_text (word "Settings") (hidden_rows r.hidden)) (group_text (word "Security") (secret_rows (joined r s).credential)) (group_text (word "IPv4") (ipv4_rows (joined r s).ipv4 (joined r s).servers (joined r s).domain)) (group_text (word "IPv6") (ipv6_rows (joined r s).ipv6))
file_four r s = record { is = file_groups (joined r s) }
