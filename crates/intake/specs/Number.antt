-- The number of a service, from its line.
use Rattle.std.specs.Prelude.{ℕ, List, Option, None, Some}
use Rattle.text.specs.Options.{and_then, sized}
use Rattle.addresses.specs.Addresses.{decimal_value}

-- what was read, or 0
abbrev pub or_zero : Option ℕ → ℕ
or_zero None = 0
or_zero (Some v) = v

-- "anything but 1 to 3 decimal digits counts as 0"
abbrev pub service_number : List ℕ → ℕ
service_number s = or_zero (and_then (sized 1 3 (Some s)) (decimal_value 0))
