-- Worked cases: structs that hold a well-formed record, and structs that hold none.
use Rattle.std.specs.Prelude.{◌≡◌, refl, Bool, true, false, List, [], ◌∷◌, map, ℕ, replicate, None, Some}
use Rattle.text.specs.Parts.{padded}
use Rattle.text.specs.Words.{word}
use Rattle.utf8.specs.Utf8.{follow, utf8_from, text}
use Rattle.addresses.specs.Addresses.{no_address, rows}
use Rattle.addressing.specs.Addressing.{off, static}
use Rattle.addressing.specs.declared.Method.{Method}
use Rattle.addressing.specs.declared.Method.TheVariants.{Auto, Off, Static}
use Rattle.records.specs.Record.{passphrase, Join, laid, laid_servers}
use Rattle.records.specs.Formed.{formed}
use Rattle.records.specs.declared.Credential.{Credential}
use Rattle.records.specs.declared.Credential.TheVariants.{Passphrase, Key}
use Rattle.records.specs.declared.JoinRecord.{JoinRecord}

-- a struct by its parts: a name, a credential, an IPv4, a count of servers, a domain, an IPv6
abbrev Name : Type 0
Name = ℕ × List ℕ

abbrev Login : Type 0
Login = Credential × ℕ × List ℕ × List ℕ

abbrev Numbers : Type 0
Numbers = Method × List ℕ × ℕ × Bool × List ℕ

abbrev struct_with : Name → Login → Numbers → ℕ → Name → Numbers → JoinRecord
struct_with n c i k d v =
    record {
      name_len = n.0;
      name = n.1;
      credential = c.0;
      passphrase_len = c.1;
      passphrase = c.2;
      key = c.3;
      hidden = false;
      ipv4 = i.0;
      address = i.1;
      length = i.2;
      has_gateway = i.3;
      gateway = i.4;
      server_count = k;
      domain_len = d.0;
      domain = d.1;
      ipv6 = v.0;
      ipv6_address = v.1;
      ipv6_length = v.2;
      has_ipv6_gateway = v.3;
      ipv6_gateway = v.4;
    }

abbrev no_ipv6 : List ℕ
no_ipv6 = replicate 16 0

abbrev struct : Name → Login → Numbers → ℕ → Name → JoinRecord
struct n c i k d = struct_with n c i k d (Auto, no_ipv6, 0, false, no_ipv6)

abbrev desk : Name
desk = (4, padded 32 (word "Desk"))

abbrev keyless : Login
keyless = (Credential.None, 0, replicate 63 0, replicate 32 0)

abbrev secret : ℕ → List ℕ → Login
secret n p = (Passphrase, n, padded 63 p, replicate 32 0)

abbrev dhcp : Numbers
dhcp = (Auto, no_address, 0, false, no_address)

abbrev till : List ℕ
till = 10 ∷ 20 ∷ 0 ∷ 14 ∷ []

abbrev router : List ℕ
router = 10 ∷ 20 ∷ 0 ∷ 1 ∷ []

abbrev absent : Name
absent = (0, replicate 253 0)

abbrev no_servers : List (List ℕ)
no_servers = rows None

-- document 01's worked service, which is also the record of the iwd file that it becomes; by request 2026-02 its passphrase has a tab
abbrev pub worked : Join
worked =
    record {
      name = word "Desk 4";
      credential = passphrase (word "low\tide 88");
      hidden = true;
      ipv4 = static till 24 (Some router);
      servers = (10 ∷ 20 ∷ 0 ∷ 2 ∷ []) ∷ (10 ∷ 20 ∷ 0 ∷ 3 ∷ []) ∷ [];
      domain = [];
      ipv6 = off;
    }

abbrev Case : Type 0
Case = JoinRecord × List (List ℕ) × Bool

-- the zero record's name is empty
abbrev names : List Case
names =
    (struct (0, replicate 32 0) keyless dhcp 0 absent, no_servers, false)
    ∷ (struct desk keyless dhcp 0 absent, no_servers, true)
    ∷ (struct (4, padded 32 (word "Desk4")) keyless dhcp 0 absent, no_servers, false)
    ∷ (struct (32, replicate 32 255) keyless dhcp 0 absent, no_servers, true)
    ∷ (struct (33, replicate 32 255) keyless dhcp 0 absent, no_servers, false)
    ∷ (laid worked, laid_servers worked, true)
    ∷ []

abbrev credentials : List Case
credentials =
    (struct desk (secret 7 (word "1234567")) dhcp 0 absent, no_servers, false)
    ∷ (struct desk (secret 8 (word "12345678")) dhcp 0 absent, no_servers, true)
    ∷ (struct desk (secret 8 (word "123456789")) dhcp 0 absent, no_servers, false)
    ∷ (struct desk (secret 9 (word "12345678")) dhcp 0 absent, no_servers, false)
    ∷ (struct desk (secret 9 (word "1234\n678\r")) dhcp 0 absent, no_servers, true)
    ∷ (struct desk (secret 63 (replicate 63 97)) dhcp 0 absent, no_servers, true)
    ∷ (struct desk (secret 64 (replicate 63 97)) dhcp 0 absent, no_servers, false)
    ∷ (struct desk (Credential.None, 8, padded 63 (word "12345678"), replicate 32 0) dhcp 0 absent, no_servers, false)
    ∷ (struct desk (Credential.None, 0, replicate 63 0, replicate 32 1) dhcp 0 absent, no_servers, false)
    ∷ (struct desk (Key, 0, replicate 63 0, replicate 32 1) dhcp 0 absent, no_servers, true)
    ∷ (struct desk (Key, 0, replicate 63 0, replicate 32 0) dhcp 0 absent, no_servers, true)
    ∷ (struct desk (Key, 0, padded 63 (word "1"), replicate 32 1) dhcp 0 absent, no_servers, false)
    ∷ []

abbrev numbers : List Case
numbers =
    (struct desk keyless (Off, no_address, 0, false, no_address) 0 absent, no_servers, true)
    ∷ (struct desk keyless (Off, till, 0, false, no_address) 0 absent, no_servers, false)
    ∷ (struct desk keyless (Auto, no_address, 24, false, no_address) 0 absent, no_servers, false)
    ∷ (struct desk keyless (Auto, no_address, 0, true, no_address) 0 absent, no_servers, false)
    ∷ (struct desk keyless (Static, till, 24, false, no_address) 0 absent, no_servers, true)
    ∷ (struct desk keyless (Static, till, 24, true, router) 0 absent, no_servers, true)
    ∷ (struct desk keyless (Static, till, 24, false, router) 0 absent, no_servers, false)
    ∷ (struct desk keyless (Static, no_address, 1, true, no_address) 0 absent, no_servers, true)
    ∷ (struct desk keyless (Static, till, 0, true, router) 0 absent, no_servers, false)
    ∷ (struct desk keyless (Static, till, 33, true, router) 0 absent, no_servers, false)
    ∷ []

abbrev others : List Case
others =
    (struct desk keyless dhcp 1 absent, rows (Some (till ∷ [])), true)
    ∷ (struct desk keyless dhcp 0 absent, rows (Some (till ∷ [])), false)
    ∷ (struct desk keyless dhcp 4 absent, replicate 4 till, true)
    ∷ (struct desk keyless dhcp 5 absent, replicate 4 till, false)
    ∷ (struct desk keyless dhcp 0 (4, padded 253 (word "shop")), no_servers, true)
    ∷ (struct desk keyless dhcp 0 (5, padded 253 (word "shop")), no_servers, false)
    ∷ (struct desk keyless dhcp 0 (2, padded 253 (195 ∷ 40 ∷ [])), no_servers, false)
    ∷ (struct desk keyless dhcp 0 (253, replicate 253 97), no_servers, true)
    ∷ (struct desk keyless dhcp 0 (254, replicate 253 97), no_servers, false)
    ∷ []

-- 2001:db8::14, and 2001:db8::1
abbrev pub till6 : List ℕ
till6 = 32 ∷ 1 ∷ 13 ∷ 184 ∷ 0 ∷ 0 ∷ 0 ∷ 0 ∷ 0 ∷ 0 ∷ 0 ∷ 0 ∷ 0 ∷ 0 ∷ 0 ∷ 20 ∷ []

abbrev pub router6 : List ℕ
router6 = 32 ∷ 1 ∷ 13 ∷ 184 ∷ 0 ∷ 0 ∷ 0 ∷ 0 ∷ 0 ∷ 0 ∷ 0 ∷ 0 ∷ 0 ∷ 0 ∷ 0 ∷ 1 ∷ []

-- request 2026-03: the static case of IPv6, "1 to 128"
abbrev numbers6 : List Case
numbers6 =
    (struct_with desk keyless dhcp 0 absent (Off, no_ipv6, 0, false, no_ipv6), no_servers, true)
    ∷ (struct_with desk keyless dhcp 0 absent (Off, till6, 0, false, no_ipv6), no_servers, false)
    ∷ (struct_with desk keyless dhcp 0 absent (Auto, no_ipv6, 64, false, no_ipv6), no_servers, false)
    ∷ (struct_with desk keyless dhcp 0 absent (Auto, no_ipv6, 0, true, no_ipv6), no_servers, false)
    ∷ (struct_with desk keyless dhcp 0 absent (Auto, no_ipv6, 0, false, router6), no_servers, false)
    ∷ (struct_with desk keyless dhcp 0 absent (Static, till6, 64, false, no_ipv6), no_servers, true)
    ∷ (struct_with desk keyless dhcp 0 absent (Static, till6, 64, true, router6), no_servers, true)
    ∷ (struct_with desk keyless dhcp 0 absent (Static, till6, 64, false, router6), no_servers, false)
    ∷ (struct_with desk keyless dhcp 0 absent (Static, no_ipv6, 1, true, no_ipv6), no_servers, true)
    ∷ (struct_with desk keyless dhcp 0 absent (Static, till6, 128, true, router6), no_servers, true)
    ∷ (struct_with desk keyless dhcp 0 absent (Static, till6, 0, true, router6), no_servers, false)
    ∷ (struct_with desk keyless dhcp 0 absent (Static, till6, 129, true, router6), no_servers, false)
    ∷ []

abbrev of : Case → Bool
of c = formed c.0 c.1

abbrev answer : Case → Bool
answer c = c.2

pub of_names : map of names ≡ map answer names
unfolding formed text utf8_from follow
of_names = refl

pub of_credentials : map of credentials ≡ map answer credentials
unfolding formed text utf8_from follow
of_credentials = refl

pub of_numbers : map of numbers ≡ map answer numbers
unfolding formed text utf8_from follow
of_numbers = refl

pub of_others : map of others ≡ map answer others
unfolding formed text utf8_from follow
of_others = refl

pub of_numbers6 : map of numbers6 ≡ map answer numbers6
unfolding formed text utf8_from follow
of_numbers6 = refl
