-- The rules over a service, by the slots of its row in the table of places.
use Rattle.std.specs.Prelude.{ℕ, zero, suc, ◌+◌, ◌*◌, Bool, List, Option, None}
use Rattle.text.specs.Options.{or_else}
use Rattle.rules.specs.Groups.{nameless_by, keyless_by, lacks_by, wireless_by, clashes_by, lack_or_clash}
use Rattle.rules.specs.Faults.{fault_at}
use Rattle.rules.specs.declared.Fault.{Fault}
use Rattle.rules.specs.declared.Group.TheVariants.{Service}
use Rattle.rules.specs.declared.Refusal.{Refusal}
use Rattle.places.specs.Store.{row_length, slot}
use Rattle.places.specs.KeySlots.{row_has, slot_is}
use Rattle.places.specs.declared.KeyName.TheVariants as N

-- ---- the rules, as rules `Groups` says them, over what the row of a service has

abbrev pub slots_nameless : List ℕ → ℕ → Bool
slots_nameless x b = nameless_by (row_has x b Service) (slot_is x b N.Type)

abbrev pub slots_keyless : List ℕ → ℕ → Bool
slots_keyless x b = keyless_by (row_has x b Service) (slot_is x b N.Security)

abbrev pub slots_lack : List ℕ → ℕ → Bool
slots_lack x b = lacks_by (row_has x b Service) (slot_is x b N.Type) (slot_is x b N.Security)

abbrev pub slots_wireless : List ℕ → ℕ → Bool
slots_wireless x b = wireless_by (row_has x b Service)

abbrev pub slots_clash : List ℕ → ℕ → Bool
slots_clash x b = clashes_by (row_has x b Service) (slot_is x b N.Type) (slot_is x b N.Security)

unfoldable pub slots_rule : List ℕ → ℕ → Option Refusal
slots_rule x b = lack_or_clash (slots_lack x b) (slots_clash x b)

-- the fault of the service whose row starts at b, and the first fault of the first n services
abbrev pub slots_fault_at : List ℕ → ℕ → Option Fault
slots_fault_at x b = fault_at (slot b x).line (slots_rule x b)

abbrev pub slots_fault : List ℕ → ℕ → Option Fault
slots_fault x zero = None
slots_fault x (suc n) = or_else (slots_fault x n) (slots_fault_at x (row_length + row_length * n))
