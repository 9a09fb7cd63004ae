-- How long a line, a group and the file are.
use Prim.Native.Nat.{ℕ, ◌+◌}
use native.Mathlib.Omega.{arith}
use mathlib.Core.Path.{◌≡◌, ap, ◌∙◌}
use mathlib.Core.Bool.{true}
use mathlib.Core.List.{List, [], ◌∷◌, ◌++◌}
use lib.ListN.{length, length-append}
use Rattle.text.specs.Words.{word}
use Rattle.addressing.specs.Addressing.{Addressing}
use Rattle.records.specs.Record.{Join}
use Rattle.written.specs.Written.{WrittenRow, hidden_rows, secret_rows, number_rows, server_rows, domain_rows, ipv4_rows, ipv6_rows, file_text}
use Rattle.written.specs.Texts.{rows_text, group_text, some_row}
use Rattle.written.proofs.TextLaws.{rows_append, group_text_lem, file_groups}

-- a line: what stands in front of its value, the value, and byte 10
pub line_size : (k v : List ℕ) → length (k ++ v ++ 10 ∷ []) ≡ length k + (length v + 1)
line_size k v = length-append (k ++ v) (10 ∷ []) ∙ omega (arith, length-append k v)

-- a group with a setting: its header has three bytes more than its name
pub group_size : (n : List ℕ) (rs : List WrittenRow) → some_row rs ≡ true → length (group_text n rs) ≡ 3 + length n + length (rows_text rs)
group_size n rs e = ap length (group_text_lem n rs e) ∙ length-append (91 ∷ (n ++ 93 ∷ 10 ∷ [])) (rows_text rs) ∙ omega (arith, length-append n (93 ∷ 10 ∷ []))

pub ipv4_rows_size : (i : Addressing) (l : List (List ℕ)) (d : List ℕ) → length (rows_text (ipv4_rows i l d)) ≡ length (rows_text (number_rows i)) + length (rows_text (server_rows l)) + length (rows_text (domain_rows d))
ipv4_rows_size i l d =
    ap length (rows_append (number_rows i ++ server_rows l) (domain_rows d))
    ∙ length-append (rows_text (number_rows i ++ server_rows l)) (rows_text (domain_rows d))
    ∙ omega (arith, ap length (rows_append (number_rows i) (server_rows l)), length-append (rows_text (number_rows i)) (rows_text (server_rows l)))

pub file_size : (j : Join) → length (file_text j) ≡ length (group_text (word "Settings") (hidden_rows j.hidden)) + length (group_text (word "Security") (secret_rows j.credential)) + length (group_text (word "IPv4") (ipv4_rows j.ipv4 j.servers j.domain)) + length (group_text (word "IPv6") (ipv6_rows j.ipv6))
file_size j =
    let a = group_text (word "Settings") (hidden_rows j.hidden) in
    let b = group_text (word "Security") (secret_rows j.credential) in
    let c = group_text (word "IPv4") (ipv4_rows j.ipv4 j.servers j.domain) in
    let d = group_text (word "IPv6") (ipv6_rows j.ipv6) in
    ap length (file_groups j) ∙ length-append (a ++ b ++ c) d ∙ omega (arith, length-append (a ++ b) c, length-append a b)
