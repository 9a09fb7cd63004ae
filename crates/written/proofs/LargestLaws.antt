-- The two largest records reach the greatest lengths, so no smaller ones would do.
use Rattle.std.specs.Prelude.{◌-◌, refl}
use Rattle.std.proofs.Common.{arith}
use Rattle.text.specs.Bytes.{is_plain}
use Rattle.utf8.specs.Utf8.{follow, utf8_from, text}
use Rattle.escapes.specs.Escapes.{escape_from}
use Rattle.hex_digits.specs.Hex.{hex}
use Rattle.addresses.specs.Addresses.{decimal, dotted, mask_bytes}
use Rattle.ipv6.specs.Ipv6.{group_digits, longest, canonical}
use Rattle.names.specs.Names.{NetworkName, stem, name_max}
use Rattle.records.specs.Formed.{WellFormed}
use Rattle.written.specs.Written.{name_text, file_text}
use Rattle.written.specs.GreatestLengths.{file_max}
use Rattle.written.specs.Largest.{longest_network, largest_file, largest_name, Takes}

network_good : NetworkName longest_network
network_good = record { low = omega arith; high = omega arith; bytes = refl }

file_good : WellFormed largest_file
unfolding text utf8_from follow
file_good =
    record {
      name = network_good;
      credential = record { low = omega arith; high = omega arith; text = refl };
      ipv4 = record { address = refl; low = omega arith; high = omega arith; gateway = refl };
      servers = record { high = omega arith; addresses = refl };
      domain = record { high = omega arith; text = refl };
      ipv6 = record { address = refl; low = omega arith; high = omega arith; gateway = refl };
    }

name_good : WellFormed largest_name
unfolding text utf8_from follow
name_good =
    record {
      name = network_good;
      credential = tt;
      ipv4 = tt;
      servers = record { high = omega arith; addresses = refl };
      domain = record { high = omega arith; text = refl };
      ipv6 = tt;
    }

-- the name is one byte shorter than another can be
pub largest_file_lem : Takes largest_file (name_max - 1) file_max
unfolding name_text file_text stem is_plain hex escape_from dotted decimal mask_bytes group_digits longest canonical
largest_file_lem = record { good = file_good; placed = refl; name = refl; file = refl }

pub largest_name_lem : Takes largest_name name_max 0
unfolding name_text file_text stem is_plain hex
largest_name_lem = record { good = name_good; placed = refl; name = refl; file = refl }
