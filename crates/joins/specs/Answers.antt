-- The code's answers: the parts of a join record laid out in the code's types, zero where there is nothing.
use Rattle.std.specs.Prelude.{ℕ, Bool, cond, List, [], replicate, Option, None, Some}
use Rattle.put.specs.Texts.{bounded}
use Rattle.put.specs.declared.Bounded.{Bounded}
use Rattle.addressing.specs.Addressing.{auto, static}
use Rattle.addressing.specs.Numbers.{numbers_laid}
use Rattle.addressing.specs.declared.Numbers.{Numbers}
use Rattle.ipv6_values.specs.declared.WithLength.{WithLength as Prefixed}
use Rattle.records.specs.Record.{Secret, credential_of, passphrase_of, key_of}
use Rattle.records.specs.declared.Credential.TheVariants as C
use Rattle.joins.specs.declared.Login.{Login}

abbrev pub login_answer : Secret → Login
login_answer s = record { credential = credential_of s; passphrase = bounded 63 (passphrase_of s); key = key_of s }

-- the same by what was read of a passphrase and a key
abbrev pub login_read : Option (Bounded 63) → Option (List ℕ) → Login
login_read (Some p) k = record { credential = C.Passphrase; passphrase = p; key = replicate 32 0 }
login_read None (Some k) = record { credential = C.Key; passphrase = bounded 63 []; key = k }
login_read None None = record { credential = C.None; passphrase = bounded 63 []; key = replicate 32 0 }

-- the IPv6 of an iwd file by what was read of an address with its length, and of a gateway
abbrev pub ipv6_read : Option Prefixed → Option (List ℕ) → Numbers 16
ipv6_read None g = numbers_laid 16 auto
ipv6_read (Some a) g = numbers_laid 16 (static a.address a.length g)

-- the line for which a service has no record
abbrev pub hindrance : Bool → ℕ → Bool → ℕ → Option ℕ
hindrance a l b m = cond a (Some l) (cond b (Some m) None)
