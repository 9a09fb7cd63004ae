-- The rules over an iwd file as a whole, by the slots of its groups' rows in the table of places.
use Rattle.std.specs.Prelude.{ℕ, Bool, false, not, ◌&&◌, List, eqb, Option}
use Rattle.names.specs.declared.Suffix.{Suffix}
use Rattle.rules.specs.Groups.{is_open, secret_by, addressless_by, unpaired_by, file_lacks_by, file_clashes_by, lack_or_clash}
use Rattle.rules.specs.declared.Refusal.{Refusal}
use Rattle.rules.specs.declared.Group.TheVariants.{Security, Ipv4, Ipv6}
use Rattle.places.specs.History.{base}
use Rattle.places.specs.Holds.{flag_code}
use Rattle.places.specs.KeySlots.{key_slot, row_has}
use Rattle.places.specs.declared.KeyName.TheVariants as N

-- which keys the rows of Security, of IPv4 and of IPv6 have, and whether Enabled is false there
abbrev pub security_has : List ℕ → List ℕ → Bool
security_has x = row_has x (base Security 0) Security

abbrev pub ipv4_has : List ℕ → List ℕ → Bool
ipv4_has x = row_has x (base Ipv4 0) Ipv4

abbrev pub ipv6_has : List ℕ → List ℕ → Bool
ipv6_has x = row_has x (base Ipv6 0) Ipv6

abbrev pub slots_disabled : List ℕ → Bool
slots_disabled x = eqb (key_slot x (base Ipv6 0) N.Enabled).code (flag_code false)

-- ---- the rules, as rules `Groups` says them, over what those rows have

abbrev pub slots_secret : List ℕ → Bool
slots_secret x = secret_by (security_has x)

abbrev pub slots_secretless : Suffix → List ℕ → Bool
slots_secretless s x = not (is_open s) && not (slots_secret x)

abbrev pub slots_addressless : List ℕ → Bool
slots_addressless x = addressless_by (ipv4_has x)

abbrev pub slots_unpaired : List ℕ → Bool
slots_unpaired x = unpaired_by (ipv6_has x)

abbrev pub slots_file_lacks : Suffix → List ℕ → Bool
slots_file_lacks s x = file_lacks_by s (security_has x) (ipv4_has x) (ipv6_has x)

abbrev pub slots_file_clashes : Suffix → List ℕ → Bool
slots_file_clashes s x = file_clashes_by s (security_has x) (ipv6_has x) (slots_disabled x)

unfoldable pub slots_file : Suffix → List ℕ → Option Refusal
slots_file s x = lack_or_clash (slots_file_lacks s x) (slots_file_clashes s x)
