-- An address with its length, laid out in the code's type.
use Rattle.ipv6_values.specs.Ipv6Values as Values
use Rattle.ipv6_values.specs.declared.WithLength.{WithLength}

abbrev pub with_length_laid : Values.WithLength → WithLength
with_length_laid w = record { address = w.address; length = w.length }
