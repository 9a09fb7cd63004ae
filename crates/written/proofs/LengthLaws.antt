-- The lines of a written file stand under the table of greatest lengths, so no file is longer than they come to.
use Rattle.std.specs.Prelude.{ℕ, ◌+◌, ◌≤◌, ◌≡◌, refl, Bool, true, false, List, [], ◌∷◌, ◌++◌, length, replicate, Option, None, Some}
use Rattle.std.proofs.Common.{arith, sym, subst, inl, inr, length-append}
use Rattle.text.specs.OptionLaws.{IfSome}
use Rattle.text.specs.Words.{word}
use Rattle.text.specs.declared.Dialect.TheVariants.{Iwd}
use Rattle.escapes.specs.Laws.{escape_length}
use Rattle.hex_digits.specs.Laws.{hex_length}
use Rattle.addresses.specs.Addresses.{decimal, dotted, mask_bytes}
use Rattle.addresses.specs.Laws.{bytes_length}
use Rattle.addresses.specs.Sizes.{decimal_short, dotted_short, listed_short}
use Rattle.addresses.specs.declared.Separator.TheVariants.{Spaces}
use Rattle.addressing.specs.Addressing.{Addressing, auto, off, static, gateway_if, addressing_in}
use Rattle.addressing.specs.declared.Method.{Method}
use Rattle.addressing.specs.declared.Method.TheVariants as M
use Rattle.ipv6.specs.Ipv6.{canonical}
use Rattle.ipv6.specs.Written.{canonical_short}
use Rattle.lines.specs.Lines.{Line}
use Rattle.lines.specs.Rendering.{render, rendered}
use Rattle.names.specs.Names.{name_max}
use Rattle.names.specs.Laws.{file_name_short}
use Rattle.records.specs.Record.{Secret, no_secret, passphrase, key, Join, secret_of}
use Rattle.records.specs.Formed.{GoodSecret, GoodIpv6, WellFormed}
use Rattle.records.specs.declared.Credential.{Credential}
use Rattle.records.specs.declared.Credential.TheVariants as C
use Rattle.written.specs.Written.{WrittenRow, row_lines, headed_lines, block_lines, hidden_rows, secret_rows, gateway_rows, number_rows, server_rows, domain_rows, ipv4_rows, ipv6_rows, blocks_of, suffix_for, name_text, file_text}
use Rattle.written.specs.GreatestLengths.{LineRoom, total, Under, address_max, ipv6_max, file_room, file_max}
use Rattle.written.specs.GreatestLengths.{settings_room, security_room, number_room, server_room, domain_room, ipv4_room, ipv6_room}
use Rattle.written.proofs.TextLaws.{row_lines_append}

-- ---- lines under a table

pub under_total : (ls : List Line) (t : List LineRoom) → Under ls t → length (rendered Iwd ls) ≤ total t
under_total [] t u = omega arith
under_total (l ∷ ls) [] u = absurd u
under_total (l ∷ ls) (x ∷ t) (inl h) =
    omega (arith, length-append (render Iwd l) (10 ∷ rendered Iwd ls), h.0, under_total ls t h.1)
under_total (l ∷ ls) (x ∷ t) (inr h) = omega (arith, under_total (l ∷ ls) t h)

under_more : (s : List LineRoom) (ls : List Line) (t : List LineRoom) → Under ls t → Under ls (s ++ t)
under_more s [] t u = tt
under_more [] (l ∷ ls) t u = u
under_more (x ∷ s) (l ∷ ls) t u = inr (under_more s (l ∷ ls) t u)

under_append : (a : List Line) (s : List LineRoom) (b : List Line) (t : List LineRoom) → Under a s → Under b t →
    Under (a ++ b) (s ++ t)
under_append [] s b t u v = under_more s b t v
under_append (l ∷ a) [] b t u v = absurd u
under_append (l ∷ a) (x ∷ s) b t (inl h) v = inl (h.0, under_append a s b t h.1 v)
under_append (l ∷ a) (x ∷ s) b t (inr h) v = inr (under_append (l ∷ a) s b t h v)

-- a group, whose header stands under the first row
under_headed : (n : List ℕ) (rs : List WrittenRow) (m : List ℕ) (t : List LineRoom) → length n + 2 ≤ length m →
    Under (row_lines rs) t → Under (headed_lines n rs) ((m, 0) ∷ t)
under_headed n [] m t h u = tt
under_headed n (r ∷ rs) m t h u = inl (omega (arith, length-append n (93 ∷ []), h), u)

under_rows : (a b : List WrittenRow) (s t : List LineRoom) → Under (row_lines a) s → Under (row_lines b) t →
    Under (row_lines (a ++ b)) (s ++ t)
under_rows a b s t u v =
    subst (λ (ls : List Line). Under ls (s ++ t)) (sym (row_lines_append a b)) (under_append (row_lines a) s (row_lines b) t u v)

-- ---- the lines of each part of a record

pub hidden_under : (h : Bool) → Under (headed_lines (word "Settings") (hidden_rows h)) settings_room
hidden_under false = tt
hidden_under true = inl (omega arith, inl (omega arith, tt))

-- by the places of a credential: a passphrase p, and a key k
pub secret_under : (c : Credential) (p k : List ℕ) → length p ≤ 63 → length k ≡ 32 →
    Under (headed_lines (word "Security") (secret_rows (secret_of c p k))) security_room
secret_under C.None p k h g = tt
secret_under C.Passphrase p k h g = inl (omega arith, inl (omega (arith, escape_length p, h), tt))
secret_under C.Key p k h g = inl (omega arith, inl (omega (arith, hex_length k, g), tt))

-- whose text has at most so many bytes
pub gateway_under : (text : List ℕ → List ℕ) (most : ℕ) (g : Option (List ℕ)) → IfSome (λ x. length (text x) ≤ most) g →
    Under (row_lines (gateway_rows text g)) ((word "Gateway=", most) ∷ [])
gateway_under text most None h = tt
gateway_under text most (Some g) h = inl (omega (arith, h), tt)

pub ipv4_gateway_under : (g : Option (List ℕ)) →
    Under (row_lines (gateway_rows dotted g)) ((word "Gateway=", address_max) ∷ [])
ipv4_gateway_under None = tt
ipv4_gateway_under (Some g) = gateway_under dotted address_max (Some g) (dotted_short g)

-- by its places: an address g has sixteen bytes
pub ipv6_gateway_under : (h : Bool) (g : List ℕ) → length g ≡ 16 →
    Under (row_lines (gateway_rows canonical (gateway_if h g))) ((word "Gateway=", ipv6_max) ∷ [])
ipv6_gateway_under false g e = tt
ipv6_gateway_under true g e = gateway_under canonical ipv6_max (Some g) (canonical_short g e)

pub numbers_under : (i : Addressing) → Under (row_lines (number_rows i)) number_room
numbers_under auto = tt
numbers_under off = tt
numbers_under (static a n g) =
    inl (omega (arith, dotted_short a), inl (omega (arith, dotted_short (mask_bytes n)), ipv4_gateway_under g))

pub servers_under : (l : List (List ℕ)) → length l ≤ 4 → Under (row_lines (server_rows l)) server_room
servers_under [] h = tt
servers_under (a ∷ l) h = inl (omega (arith, listed_short Spaces (a ∷ l), h), tt)

pub domain_under : (d : List ℕ) → length d ≤ 253 → Under (row_lines (domain_rows d)) domain_room
domain_under [] h = tt
domain_under (c ∷ d) h = inl (omega (arith, escape_length (c ∷ d), h), tt)

pub ipv4_under : (i : Addressing) (l : List (List ℕ)) (d : List ℕ) → length l ≤ 4 → length d ≤ 253 →
    Under (headed_lines (word "IPv4") (ipv4_rows i l d)) ipv4_room
ipv4_under i l d h k =
    under_headed (word "IPv4") (ipv4_rows i l d) (word "[IPv4]") (number_room ++ server_room ++ domain_room) (omega arith)
    (under_rows (number_rows i ++ server_rows l) (domain_rows d) (number_room ++ server_room) domain_room
    (under_rows (number_rows i) (server_rows l) number_room server_room (numbers_under i) (servers_under l h))
    (domain_under d k))

-- by the places of an IPv6: its address a and a gateway g have sixteen bytes
pub ipv6_under : (m : Method) (a : List ℕ) (n : ℕ) (h : Bool) (g : List ℕ) → length a ≡ 16 → length g ≡ 16 →
    Under (headed_lines (word "IPv6") (ipv6_rows (addressing_in m a n h g))) ipv6_room
ipv6_under M.Auto a n h g e f = tt
ipv6_under M.Off a n h g e f = inl (omega arith, inl (omega arith, tt))
ipv6_under M.Static a n h g e f =
    inl (omega arith, inl (omega (arith, length-append (canonical a) (47 ∷ decimal n), canonical_short a e, decimal_short n), ipv6_gateway_under h g f))

-- ---- the file and its name

good_secret_under : (s : Secret) → GoodSecret s → Under (headed_lines (word "Security") (secret_rows s)) security_room
good_secret_under no_secret g = tt
good_secret_under (passphrase p) g = secret_under C.Passphrase p (replicate 32 0) g.high refl
good_secret_under (key k) g = secret_under C.Key [] k (omega arith) g.long

good_ipv6_under : (i : Addressing) → GoodIpv6 i → Under (headed_lines (word "IPv6") (ipv6_rows i)) ipv6_room
good_ipv6_under auto g = tt
good_ipv6_under off g = ipv6_under M.Off (replicate 16 0) 0 false (replicate 16 0) refl refl
good_ipv6_under (static a n None) g =
    ipv6_under M.Static a n false (replicate 16 0) (bytes_length 16 a g.address) refl
good_ipv6_under (static a n (Some y)) g =
    ipv6_under M.Static a n true y (bytes_length 16 a g.address) (bytes_length 16 y g.gateway)

pub file_under : (j : Join) → WellFormed j → Under (block_lines (blocks_of j)) file_room
file_under j w =
    let a = headed_lines (word "Settings") (hidden_rows j.hidden) in
    let b = headed_lines (word "Security") (secret_rows j.credential) in
    let c = headed_lines (word "IPv4") (ipv4_rows j.ipv4 j.servers j.domain) in
    let d = headed_lines (word "IPv6") (ipv6_rows j.ipv6) in
    under_append a settings_room (b ++ (c ++ (d ++ []))) (security_room ++ (ipv4_room ++ (ipv6_room ++ []))) (hidden_under j.hidden)
    (under_append b security_room (c ++ (d ++ [])) (ipv4_room ++ (ipv6_room ++ [])) (good_secret_under j.credential w.credential)
    (under_append c ipv4_room (d ++ []) (ipv6_room ++ []) (ipv4_under j.ipv4 j.servers j.domain w.servers.high w.domain.high)
    (under_append d ipv6_room [] [] (good_ipv6_under j.ipv6 w.ipv6) tt)))

pub file_short : (j : Join) → WellFormed j → length (file_text j) ≤ file_max
unfolding file_text
file_short j w = under_total (block_lines (blocks_of j)) file_room (file_under j w)

pub name_short : (j : Join) → WellFormed j → length (name_text j) ≤ name_max
unfolding name_text
name_short j w = file_name_short j.name (suffix_for j.credential) w.name.high

-- ---- what the figures are

pub file_max_lem : file_max ≡ 944
file_max_lem = refl

pub name_max_lem : name_max ≡ 70
name_max_lem = refl
