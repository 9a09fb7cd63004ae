-- Worked cases: document 01's file, of 167 bytes by request 2026-02, records whose file is empty or begins a string with a blank, and
-- the IPv6 of request 2026-03.
use Rattle.std.specs.Prelude.{ℕ, ◌≡◌, refl, true, false, List, [], ◌∷◌, ◌++◌, map, length, replicate, None, Some}
use Rattle.text.specs.Bytes.{is_plain}
use Rattle.text.specs.Words.{word}
use Rattle.text.specs.Worked.{desk}
use Rattle.escapes.specs.Escapes.{escape_from}
use Rattle.hex_digits.specs.Hex.{hex_digit}
use Rattle.addresses.specs.Addresses.{decimal, dotted, mask_bytes}
use Rattle.addressing.specs.Addressing.{Addressing, auto, off, static}
use Rattle.ipv6.specs.Ipv6.{group_digits, longest, canonical}
use Rattle.names.specs.Names.{stem}
use Rattle.records.specs.Record.{no_secret, passphrase, Join}
use Rattle.records.specs.Cases.{worked}
use Rattle.written.specs.Written.{file_text, name_text, has_place}
use Rattle.written.specs.Largest.{plainly}

pub worked_name : name_text worked ≡ word "Desk 4.psk"
unfolding name_text stem is_plain
worked_name = refl

pub worked_file : file_text worked ≡ word desk
unfolding file_text escape_from dotted decimal mask_bytes
worked_file = refl

pub worked_length : length (file_text worked) ≡ 167
unfolding file_text escape_from dotted decimal mask_bytes
worked_length = refl

-- "An open record that is all defaults writes 0 bytes"
pub open_file : file_text (plainly (word "Desk") no_secret []) ≡ []
unfolding file_text
open_file = refl

pub open_name : name_text (plainly (word "Desk") no_secret []) ≡ word "Desk.open"
unfolding name_text stem is_plain
open_name = refl

-- a leading tab and a leading space are escaped, blanks behind stay
pub blank_file : file_text (plainly (word "Desk") (passphrase (word "\tsecret \t")) (word " a\nb\rc ")) ≡ word "[Security]\nPassphrase=\\tsecret \t\n[IPv4]\nDomainName=\\sa\\nb\\rc \n"
unfolding file_text escape_from
blank_file = refl

-- a network with an IPv4 and an IPv6, all else by default
abbrev addressed : Addressing → Addressing → Join
addressed i v = record { name = word "Desk"; credential = no_secret; hidden = false; ipv4 = i; servers = []; domain = []; ipv6 = v }

-- 2001:db8:: and a byte
abbrev shop : ℕ → List ℕ
shop n = 32 ∷ 1 ∷ 13 ∷ 184 ∷ replicate 11 0 ++ n ∷ []

-- "RFC 5952's form"; "Address is written always with its length, then Gateway"
pub ipv6_file : file_text (addressed auto (static (shop 20) 64 (Some (shop 1)))) ≡ word "[IPv6]\nAddress=2001:db8::14/64\nGateway=2001:db8::1\n"
unfolding file_text decimal hex_digit group_digits longest canonical
ipv6_file = refl

-- a length of 128 too
pub ipv6_length_file : file_text (addressed auto (static (shop 0) 128 (Some (replicate 15 0 ++ 1 ∷ [])))) ≡ word "[IPv6]\nAddress=2001:db8::/128\nGateway=::1\n"
unfolding file_text decimal hex_digit group_digits longest canonical
ipv6_length_file = refl

pub ipv6_off_file : file_text (addressed auto off) ≡ word "[IPv6]\nEnabled=false\n"
unfolding file_text
ipv6_off_file = refl

-- "IPv4 off, or static without gateway" has no place, and of IPv6 "static without gateway"
pub places : map has_place
    (addressed auto auto
    ∷ addressed off auto
    ∷ addressed auto off
    ∷ addressed (static (10 ∷ 20 ∷ 0 ∷ 14 ∷ []) 24 None) auto
    ∷ addressed auto (static (shop 20) 64 None)
    ∷ addressed auto (static (shop 20) 64 (Some (shop 1)))
    ∷ [])
    ≡ true ∷ false ∷ true ∷ false ∷ false ∷ true ∷ []
places = refl
