-- File names: "iwd: a stem and `.open` or `.psk`"; "ConnMan: one or more letters or digits, then `.config`".
use Rattle.std.specs.Prelude.{ℕ, ◌+◌, ◌*◌, ◌≤◌, ◌≡◌, Bool, true, cond, not, ◌&&◌, List, [], ◌∷◌, ◌++◌, eqb, length, Option, None, Some}
use Rattle.text.specs.Bytes.{is_byte, other, is_alphanumeric, is_plain, is_lower_hex}
use Rattle.text.specs.Parts.{all, front, after, empty}
use Rattle.text.specs.Words.{word, same, named}
use Rattle.text.specs.Options.{and_then, only, sized}
use Rattle.put.specs.Texts.{bounded}
use Rattle.hex_digits.specs.Hex.{unhex, hex}
use Rattle.names.specs.declared.Suffix.{Suffix}
use Rattle.names.specs.declared.Suffix.TheVariants.{Open, Psk}
use Rattle.names.specs.declared.IwdName.{IwdName}

-- "A network name of 1 to 32 bytes"
pub record NetworkName (n : List ℕ) : Type 0 where
  pub low : 1 ≤ length n
  pub high : length n ≤ 32
  pub bytes : all is_byte n ≡ true

-- "The stem is the network name as it stands if every byte is a letter, digit, space, `_` or `-`; else `=` and lower-case hex of the name."
unfoldable pub stem : List ℕ → List ℕ
stem n = cond (all is_plain n) n (61 ∷ hex n)

-- "Hex of a name that could stand plainly is refused"
abbrev pub unplain : List ℕ → Option (List ℕ)
unplain n = only (not (all is_plain n)) (Some n)

abbrev pub hex_name : List ℕ → Option (List ℕ)
hex_name h = only (all is_lower_hex h) (and_then (unhex h) unplain)

-- the network name that a stem gives; the bytes are counted after decoding
unfoldable pub name_of : List ℕ → Option (List ℕ)
name_of [] = None
name_of (c ∷ s) = sized 1 32 (cond (eqb c 61) (hex_name s) (only (all is_plain (c ∷ s)) (Some (c ∷ s))))

-- "`.open` or `.psk`"
abbrev pub suffix_of : Suffix → List ℕ
suffix_of Open = word ".open"
suffix_of Psk = word ".psk"

abbrev pub suffixes : List (List ℕ × Suffix)
suffixes = (suffix_of Open, Open) ∷ (suffix_of Psk, Psk) ∷ []

-- what an iwd file name gives: the network's name, and the kind of its file
pub record Network : Type 0 where
  pub name : List ℕ
  pub suffix : Suffix

abbrev pub network : Suffix → List ℕ → Option Network
network k n = Some (record { name = n; suffix = k })

-- a stem has no dot, so a file name is split at its first
unfoldable pub network_of : List ℕ → Option Network
network_of f = and_then (named (after (other 46) f) suffixes) (λ k. and_then (name_of (front (other 46) f)) (network k))

-- "a stem and `.open` or `.psk`": "one network and kind has one file name" (`one_file_name` of Laws)
abbrev pub file_name : List ℕ → Suffix → List ℕ
file_name n k = stem n ++ suffix_of k

-- the greatest length of a file name: `=`, two digits for each of 32 bytes, and the longer suffix
abbrev pub name_max : ℕ
name_max = length (word "=") + 2 * 32 + length (suffix_of Open)

-- "one or more letters or digits, then `.config`"
abbrev pub connman_name : List ℕ → Bool
connman_name f = not (empty (front is_alphanumeric f)) && same (after is_alphanumeric f) (word ".config")

-- a network in the code's type
abbrev pub network_laid : Network → IwdName
network_laid x = record { suffix = x.suffix; name = bounded 32 x.name }
