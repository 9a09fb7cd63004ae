-- Worked cases: a file name, and what it gives.
use Rattle.std.specs.Prelude.{◌≡◌, refl, Bool, true, false, List, [], ◌∷◌, map, ℕ, replicate, Option, None}
use Prim.Native.String.{String}
use Rattle.text.specs.Bytes.{is_plain}
use Rattle.text.specs.Words.{word}
use Rattle.hex_digits.specs.Hex.{nibble, unhex, hex_digit, hex}
use Rattle.names.specs.declared.Suffix.TheVariants.{Open, Psk}
use Rattle.names.specs.Names.{stem, name_of, Network, network, network_of, file_name, connman_name}

-- Caf and the bytes c3 a9: "else `=` and lower-case hex of the name"
abbrev cafe : List ℕ
cafe = 0x43 ∷ 0x61 ∷ 0x66 ∷ 0xc3 ∷ 0xa9 ∷ []

pub cafe_file_name : file_name cafe Psk ≡ word "=436166c3a9.psk"
unfolding is_plain stem hex hex_digit
cafe_file_name = refl

abbrev iwd_names : List (String × Option Network)
iwd_names =
    -- "the network name as it stands"; it may be only spaces
    ("Desk 4.psk", network Psk (word "Desk 4"))
    ∷ (" .open", network Open (word " "))
    ∷ ("Caf%.psk", None)
    -- "else `=` and lower-case hex of the name": upper case, an odd count
    ∷ ("=436166c3a9.psk", network Psk cafe)
    ∷ ("=436166C3A9.psk", None)
    ∷ ("=436166c3a.psk", None)
    -- "Hex of a name that could stand plainly is refused": Desk
    ∷ ("=4465736b.psk", None)
    -- "1 to 32 bytes", counted after decoding
    ∷ (".psk", None)
    ∷ ("=.psk", None)
    ∷ ("abcdefghijklmnopqrstuvwxyz012345.psk", network Psk (word "abcdefghijklmnopqrstuvwxyz012345"))
    ∷ ("abcdefghijklmnopqrstuvwxyz0123456.psk", None)
    ∷ ("=c3c3c3c3c3c3c3c3c3c3c3c3c3c3c3c3c3c3c3c3c3c3c3c3c3c3c3c3c3c3c3c3.open", network Open (replicate 32 0xc3))
    ∷ ("=c3c3c3c3c3c3c3c3c3c3c3c3c3c3c3c3c3c3c3c3c3c3c3c3c3c3c3c3c3c3c3c3c3.open", None)
    -- "a stem and `.open` or `.psk`": another suffix, two dots, no dot
    ∷ ("Desk 4.PSK", None)
    ∷ ("Desk 4.8021x", None)
    ∷ ("Desk.4.psk", None)
    ∷ ("Desk 4", None)
    ∷ []

-- "one or more letters or digits, then `.config`"
abbrev connman_names : List (String × Bool)
connman_names =
    ("shop1.config", true)
    ∷ ("1.config", true)
    ∷ (".config", false)
    ∷ ("shop 1.config", false)
    ∷ ("shop1.config2", false)
    ∷ ("shop1.Config", false)
    ∷ ("shop1", false)
    ∷ []

pub iwd_names_lem : map (λ (c : String × Option Network). network_of (word c.0)) iwd_names ≡ map (λ (c : String × Option Network). c.1) iwd_names
unfolding is_plain name_of network_of unhex nibble
iwd_names_lem = refl

pub connman_names_lem : map (λ (c : String × Bool). connman_name (word c.0)) connman_names ≡ map (λ (c : String × Bool). c.1) connman_names
connman_names_lem = refl
