-- The groups that are written of a well-formed record are good, and each key has in them the value that was written for it.
use Rattle.std.specs.Prelude.{ℕ, ◌≡◌, refl, Bool, true, false, List, [], ◌∷◌, ◌++◌, Option, None, Some}
use Rattle.std.proofs.Common.{◌∙◌}
use Rattle.text.specs.Words.{word, same}
use Rattle.text.specs.OptionLaws.{IfSome}
use Rattle.text.specs.declared.Dialect.{Dialect}
use Rattle.text.specs.declared.Dialect.TheVariants.{Iwd}
use Rattle.addresses.specs.Addresses.{is_bytes, dotted}
use Rattle.ipv6.specs.Ipv6.{canonical}
use Rattle.addressing.specs.Addressing.{Addressing, auto, off, static}
use Rattle.rules.specs.Tables.{group_of}
use Rattle.rules.specs.declared.Group.{Group}
use Rattle.rules.specs.declared.Group.TheVariants as G
use Rattle.records.specs.Record.{Secret, no_secret, passphrase, key, Join}
use Rattle.records.specs.Formed.{GoodSecret, GoodIpv4, GoodIpv6, GoodServers, GoodDomain, WellFormed}
use Rattle.written.specs.Written.{WrittenRow, hidden_rows, secret_rows, gateway_rows, number_rows, server_rows, domain_rows, ipv4_rows, ipv6_rows, blocks_of}
use Rattle.round_trip.specs.Blocks.{row_value, GoodRow, GoodRows, keys_apart, GoodBlock, GoodBlocks, names_apart}
use Rattle.round_trip.specs.RowLookups.{value_behind, value_before}
use Rattle.round_trip.specs.RowValues.{hidden_row, enabled_row, passphrase_row, key_row, address_row, gateway_row, netmask_row, ipv6_address_row, ipv6_gateway_row, servers_row, domain_row}

-- ---- good settings

good_rows_append : (d : Dialect) (g : Group) (a b : List WrittenRow) → GoodRows d g a → GoodRows d g b →
    GoodRows d g (a ++ b)
good_rows_append d g [] b v w = w
good_rows_append d g (r ∷ a) b v w = (v.0, good_rows_append d g a b v.1 w)

hidden_good : (b : Bool) → GoodRows Iwd G.Settings (hidden_rows b)
hidden_good false = tt
hidden_good true = (hidden_row, tt)

secret_good : (c : Secret) → GoodSecret c → GoodRows Iwd G.Security (secret_rows c)
secret_good no_secret w = tt
secret_good (passphrase p) w = (passphrase_row p w, tt)
secret_good (key k) w = (key_row k w, tt)

-- a gateway, in the text of its family
gateway_good : (d : Group) (width : ℕ) (text : List ℕ → List ℕ) →
    ((x : List ℕ) → is_bytes width x ≡ true → GoodRow Iwd d (word "Gateway", text x)) → (g : Option (List ℕ)) →
    IfSome (λ x. is_bytes width x ≡ true) g → GoodRows Iwd d (gateway_rows text g)
gateway_good d width text f None w = tt
gateway_good d width text f (Some g) w = (f g w, tt)

number_good : (i : Addressing) → GoodIpv4 i → GoodRows Iwd G.Ipv4 (number_rows i)
number_good auto w = tt
number_good off w = tt
number_good (static a n g) w = (address_row a w.address, (netmask_row n w.low w.high, gateway_good G.Ipv4 4 dotted gateway_row g w.gateway))

server_good : (l : List (List ℕ)) → GoodServers l → GoodRows Iwd G.Ipv4 (server_rows l)
server_good [] w = tt
server_good (a ∷ l) w = (servers_row a l w, tt)

domain_good : (d : List ℕ) → GoodDomain d → GoodRows Iwd G.Ipv4 (domain_rows d)
domain_good [] w = tt
domain_good (c ∷ d) w = (domain_row c d w, tt)

ipv4_good : (i : Addressing) (l : List (List ℕ)) (d : List ℕ) → GoodIpv4 i → GoodServers l → GoodDomain d →
    GoodRows Iwd G.Ipv4 (ipv4_rows i l d)
ipv4_good i l d u v w = good_rows_append Iwd G.Ipv4 (number_rows i ++ server_rows l) (domain_rows d) (good_rows_append Iwd G.Ipv4 (number_rows i) (server_rows l) (number_good i u) (server_good l v)) (domain_good d w)

ipv6_good : (i : Addressing) → GoodIpv6 i → GoodRows Iwd G.Ipv6 (ipv6_rows i)
ipv6_good auto w = tt
ipv6_good off w = (enabled_row, tt)
ipv6_good (static a n g) w = (ipv6_address_row a n w.address w.low w.high, gateway_good G.Ipv6 16 canonical ipv6_gateway_row g w.gateway)

-- ---- no key twice

hidden_apart : (b : Bool) → keys_apart [] (hidden_rows b) ≡ true
hidden_apart false = refl
hidden_apart true = refl

secret_apart : (c : Secret) → keys_apart [] (secret_rows c) ≡ true
secret_apart no_secret = refl
secret_apart (passphrase p) = refl
secret_apart (key k) = refl

-- behind settings with neither key
behind_apart : (done : List WrittenRow) → row_value (word "DNS") done ≡ None →
    row_value (word "DomainName") done ≡ None → (l : List (List ℕ)) (d : List ℕ) →
    keys_apart done (server_rows l ++ domain_rows d) ≡ true
behind_apart done p q [] [] = refl
behind_apart done p q [] (c ∷ d) = rw q
behind_apart done p q (a ∷ l) [] = rw p
behind_apart done p q (a ∷ l) (c ∷ d) = rw (p, value_before (word "DomainName") done (server_rows (a ∷ l)) refl, q)

ipv4_apart : (i : Addressing) (l : List (List ℕ)) (d : List ℕ) → keys_apart [] (ipv4_rows i l d) ≡ true
ipv4_apart auto l d = behind_apart [] refl refl l d
ipv4_apart off l d = behind_apart [] refl refl l d
ipv4_apart (static a n None) l d = behind_apart (number_rows (static a n None)) refl refl l d
ipv4_apart (static a n (Some g)) l d = behind_apart (number_rows (static a n (Some g))) refl refl l d

ipv6_apart : (i : Addressing) → keys_apart [] (ipv6_rows i) ≡ true
ipv6_apart auto = refl
ipv6_apart off = refl
ipv6_apart (static a n None) = refl
ipv6_apart (static a n (Some g)) = refl

-- ---- good groups

pub blocks_good : (j : Join) → WellFormed j → GoodBlocks Iwd (blocks_of j)
unfolding group_of
blocks_good j w = (settings, (security, (ipv4, (ipv6, tt))))
  where
    settings : GoodBlock Iwd (record { name = word "Settings"; rows = hidden_rows j.hidden })
    settings = record { group = G.Settings; named = refl; plain = refl; header = record { some = refl; bytes = refl; plain = refl }; rows = hidden_good j.hidden; apart = hidden_apart j.hidden }

    security : GoodBlock Iwd (record { name = word "Security"; rows = secret_rows j.credential })
    security = record { group = G.Security; named = refl; plain = refl; header = record { some = refl; bytes = refl; plain = refl }; rows = secret_good j.credential w.credential; apart = secret_apart j.credential }

    ipv4 : GoodBlock Iwd (record { name = word "IPv4"; rows = ipv4_rows j.ipv4 j.servers j.domain })
    ipv4 = record { group = G.Ipv4; named = refl; plain = refl; header = record { some = refl; bytes = refl; plain = refl }; rows = ipv4_good j.ipv4 j.servers j.domain w.ipv4 w.servers w.domain; apart = ipv4_apart j.ipv4 j.servers j.domain }

    ipv6 : GoodBlock Iwd (record { name = word "IPv6"; rows = ipv6_rows j.ipv6 })
    ipv6 = record { group = G.Ipv6; named = refl; plain = refl; header = record { some = refl; bytes = refl; plain = refl }; rows = ipv6_good j.ipv6 w.ipv6; apart = ipv6_apart j.ipv6 }

pub names_apart_lem : (j : Join) → names_apart (blocks_of j) ≡ true
names_apart_lem j = refl

-- ---- what each key of the group IPv4 has: the values of one of its parts

no_number : (k : List ℕ) → same k (word "Address") ≡ false → same k (word "Netmask") ≡ false →
    same k (word "Gateway") ≡ false → (i : Addressing) → row_value k (number_rows i) ≡ None
no_number k p q r auto = refl
no_number k p q r off = refl
no_number k p q r (static a n None) = rw (p, q)
no_number k p q r (static a n (Some g)) = rw (p, q, r)

no_server : (k : List ℕ) → same k (word "DNS") ≡ false → (l : List (List ℕ)) → row_value k (server_rows l) ≡ None
no_server k p [] = refl
no_server k p (a ∷ l) = rw p

no_domain : (k : List ℕ) → same k (word "DomainName") ≡ false → (d : List ℕ) → row_value k (domain_rows d) ≡ None
no_domain k p [] = refl
no_domain k p (c ∷ d) = rw p

module _ (i : Addressing) (l : List (List ℕ)) (d : List ℕ) where
  pub number_value : (k : List ℕ) → same k (word "DNS") ≡ false → same k (word "DomainName") ≡ false →
      row_value k (ipv4_rows i l d) ≡ row_value k (number_rows i)
  number_value k p q = value_before k (number_rows i ++ server_rows l) (domain_rows d) (no_domain k q d) ∙ value_before k (number_rows i) (server_rows l) (no_server k p l)

  pub server_value : row_value (word "DNS") (ipv4_rows i l d) ≡ row_value (word "DNS") (server_rows l)
  server_value = value_before (word "DNS") (number_rows i ++ server_rows l) (domain_rows d) (no_domain (word "DNS") refl d) ∙ value_behind (word "DNS") (number_rows i) (server_rows l) (no_number (word "DNS") refl refl refl i)

  pub domain_value : row_value (word "DomainName") (ipv4_rows i l d) ≡ row_value (word "DomainName") (domain_rows d)
  domain_value = value_behind (word "DomainName") (number_rows i ++ server_rows l) (domain_rows d) (value_before (word "DomainName") (number_rows i) (server_rows l) (no_server (word "DomainName") refl l) ∙ no_number (word "DomainName") refl refl refl i)
