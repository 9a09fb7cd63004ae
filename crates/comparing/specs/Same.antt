-- Whether two join records are the same: "Two records are equal when they agree in every place, unused ones included."
use Rattle.std.specs.Prelude.{ℕ, Bool, true, false, cond, not, ◌&&◌, List, [], ◌∷◌, eqb}
use Rattle.text.specs.Words.{same}
use Rattle.addressing.specs.declared.Method.{Method}
use Rattle.addressing.specs.declared.Method.TheVariants as M
use Rattle.records.specs.declared.Credential.{Credential}
use Rattle.records.specs.declared.Credential.TheVariants as C
use Rattle.records.specs.declared.JoinRecord.{JoinRecord}

-- ---- flags, and cases of an enum by their numbers

abbrev pub same_flag : Bool → Bool → Bool
same_flag a b = cond a b (not b)

abbrev pub credential_case : Credential → ℕ
credential_case C.None = 0
credential_case C.Passphrase = 1
credential_case C.Key = 2

abbrev pub method_case : Method → ℕ
method_case M.Auto = 0
method_case M.Off = 1
method_case M.Static = 2

-- ---- records, in parts

abbrev pub same_name : JoinRecord → JoinRecord → Bool
same_name a b = eqb a.name_len b.name_len && same a.name b.name

abbrev pub same_credential : JoinRecord → JoinRecord → Bool
same_credential a b =
    eqb (credential_case a.credential) (credential_case b.credential)
    && (eqb a.passphrase_len b.passphrase_len
    && (same a.passphrase b.passphrase && same a.key b.key))

-- a method, the length beside it, and whether there is a gateway
abbrev pub same_method : Method → ℕ → Bool → Method → ℕ → Bool → Bool
same_method m n h o k i = eqb (method_case m) (method_case o) && (eqb n k && same_flag h i)

abbrev pub same_ipv4 : JoinRecord → JoinRecord → Bool
same_ipv4 a b =
    same_method a.ipv4 a.length a.has_gateway b.ipv4 b.length b.has_gateway
    && (same a.address b.address && same a.gateway b.gateway)

abbrev pub same_ipv6 : JoinRecord → JoinRecord → Bool
same_ipv6 a b =
    same_method a.ipv6 a.ipv6_length a.has_ipv6_gateway b.ipv6 b.ipv6_length b.has_ipv6_gateway
    && (same a.ipv6_address b.ipv6_address && same a.ipv6_gateway b.ipv6_gateway)

abbrev pub same_domain : JoinRecord → JoinRecord → Bool
same_domain a b = eqb a.domain_len b.domain_len && same a.domain b.domain

abbrev pub same_choices : JoinRecord → JoinRecord → Bool
same_choices a b = eqb a.server_count b.server_count && same_flag a.hidden b.hidden

unfoldable pub same_record : JoinRecord → JoinRecord → Bool
same_record a b =
    same_name a b && (same_credential a b && (same_ipv4 a b && (same_ipv6 a b && (same_domain a b && same_choices a b))))

-- the servers, which stand beside a record
abbrev pub same_servers : List (List ℕ) → List (List ℕ) → Bool
same_servers [] [] = true
same_servers [] (b ∷ t) = false
same_servers (a ∷ s) [] = false
same_servers (a ∷ s) (b ∷ t) = same a b && same_servers s t
