-- How a network gets its addresses in the code's type, whose addresses have so many bytes: "Places not in use are zero".
use Rattle.std.specs.Prelude.{ℕ}
use Rattle.addressing.specs.Addressing.{Addressing, method_of, address_of, length_of, has_gateway_of, gateway_of}
use Rattle.addressing.specs.declared.Numbers.{Numbers}

abbrev pub numbers_laid : (width : ℕ) → Addressing → Numbers width
numbers_laid width i =
    record {
      method = method_of i;
      address = address_of width i;
      length = length_of i;
      has_gateway = has_gateway_of i;
      gateway = gateway_of width i;
    }
