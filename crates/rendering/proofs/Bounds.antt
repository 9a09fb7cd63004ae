-- How long the settings and groups of a record can be whose counts lie in their arrays: the table of greatest lengths, in numbers.
use Prim.Native.Nat.{ℕ, zero, suc, ◌≤◌}
use native.Mathlib.Omega.{arith}
use mathlib.Core.Path.{◌≡◌}
use mathlib.Core.Bool.{Bool}
use mathlib.Core.List.{List, [], ◌∷◌}
use Rattle.std.specs.Prelude.{Option}
use lib.ListN.{length, take}
use Rattle.text.specs.Words.{word}
use Rattle.addresses.specs.Addresses.{dotted}
use Rattle.addressing.specs.Addressing.{Addressing, gateway_if}
use Rattle.ipv6.specs.Ipv6.{canonical}
use Rattle.records.specs.Record.{joined}
use Rattle.records.specs.declared.JoinRecord.{JoinRecord}
use Rattle.written.specs.Written.{WrittenRow, row_lines, headed_lines, hidden_rows, secret_rows, gateway_rows, number_rows, server_rows, domain_rows, ipv4_rows, ipv6_rows}
use Rattle.written.specs.GreatestLengths.{LineRoom, settings_room, security_room, number_room, server_room, domain_room, ipv4_room, ipv6_room, total, Under}
use Rattle.written.proofs.LengthLaws.{under_total, hidden_under, secret_under, ipv4_gateway_under, ipv6_gateway_under, numbers_under, servers_under, domain_under, ipv4_under, ipv6_under}
use Rattle.written.specs.RecordParts.{CountsWithin}
use Rattle.written.specs.Texts.{rows_text, group_text}

rows_short : (rs : List WrittenRow) (t : List LineRoom) → Under (row_lines rs) t → length (rows_text rs) ≤ total t
unfolding rows_text
rows_short rs t u = under_total (row_lines rs) t u

group_short : (n : List ℕ) (rs : List WrittenRow) (t : List LineRoom) → Under (headed_lines n rs) t → length (group_text n rs) ≤ total t
unfolding group_text
group_short n rs t u = under_total (headed_lines n rs) t u

pub gateway_short : (g : Option (List ℕ)) → length (rows_text (gateway_rows dotted g)) ≤ 24
gateway_short g = rows_short (gateway_rows dotted g) ((word "Gateway=", 15) ∷ []) (ipv4_gateway_under g)

pub ipv6_gateway_short : (h : Bool) (g : List ℕ) → length g ≡ 16 → length (rows_text (gateway_rows canonical (gateway_if h g))) ≤ 48
ipv6_gateway_short h g e = rows_short (gateway_rows canonical (gateway_if h g)) ((word "Gateway=", 39) ∷ []) (ipv6_gateway_under h g e)

pub numbers_short : (i : Addressing) → length (rows_text (number_rows i)) ≤ 72
numbers_short i = rows_short (number_rows i) number_room (numbers_under i)

pub servers_short : (l : List (List ℕ)) → length l ≤ 4 → length (rows_text (server_rows l)) ≤ 68
servers_short l h = rows_short (server_rows l) server_room (servers_under l h)

pub domain_short : (d : List ℕ) → length d ≤ 253 → length (rows_text (domain_rows d)) ≤ 518
domain_short d h = rows_short (domain_rows d) domain_room (domain_under d h)

pub take_short : {A : Type 0} (n : ℕ) (l : List A) → length (take n l) ≤ n
take_short zero l = omega arith
take_short (suc n) [] = omega arith
take_short (suc n) (x ∷ l) = omega (arith, take_short n l)

pub record GroupsShort (r : JoinRecord) (s : List (List ℕ)) : Type 0 where
  pub settings : length (group_text (word "Settings") (hidden_rows r.hidden)) ≤ 23
  pub security : length (group_text (word "Security") (secret_rows (joined r s).credential)) ≤ 149
  pub ipv4 : length (group_text (word "IPv4") (ipv4_rows (joined r s).ipv4 (joined r s).servers (joined r s).domain)) ≤ 665
  pub ipv6 : length (group_text (word "IPv6") (ipv6_rows (joined r s).ipv6)) ≤ 107

pub groups_short : (r : JoinRecord) (s : List (List ℕ)) → CountsWithin r → length r.key ≡ 32 → length r.ipv6_address ≡ 16 → length r.ipv6_gateway ≡ 16 → GroupsShort r s
groups_short r s w k a g =
    let p = take r.passphrase_len r.passphrase in
    let l = take r.server_count s in
    let d = take r.domain_len r.domain in
    record {
      settings = group_short (word "Settings") (hidden_rows r.hidden) settings_room (hidden_under r.hidden);
      security =
          group_short (word "Security") (secret_rows (joined r s).credential) security_room
          (secret_under r.credential p r.key (omega (arith, take_short r.passphrase_len r.passphrase, w.passphrase)) k);
      ipv4 =
          group_short (word "IPv4") (ipv4_rows (joined r s).ipv4 l d) ipv4_room
          (ipv4_under (joined r s).ipv4 l d (omega (arith, take_short r.server_count s, w.servers)) (omega (arith, take_short r.domain_len r.domain, w.domain)));
      ipv6 =
          group_short (word "IPv6") (ipv6_rows (joined r s).ipv6) ipv6_room
          (ipv6_under r.ipv6 r.ipv6_address r.ipv6_length r.has_ipv6_gateway r.ipv6_gateway a g);
    }
