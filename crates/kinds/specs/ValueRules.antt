-- "Settings and their kinds": what a value of each kind is and gives, and which text is whole, said of the bytes.
-- `ValueRuleLaws` shows that `typed`, `value_text` and `string_broken` keep to it.
use Rattle.std.specs.Prelude.{ℕ, ◌≡◌, Bool, true, List}
use Rattle.text.specs.Bytes.{other}
use Rattle.text.specs.Parts.{all}
use Rattle.text.specs.Relations.{Sized}
use Rattle.text.specs.declared.Dialect.{Dialect}
use Rattle.utf8.specs.WellFormed.{WellFormedUtf8}
use Rattle.escapes.specs.StringRules.{Unescaped}
use Rattle.addresses.specs.AddressRules.{AddressIs, MaskIs, AddressesIs}
use Rattle.addresses.specs.declared.Separator.{Separator}
use Rattle.named_words.specs.WordRules.{Means, flag_rows, word_rows}
use Rattle.named_words.specs.declared.Word.{Word}
use Rattle.named_words.specs.declared.WordList.{WordList}
use Rattle.addressing.specs.Addressing.{Addressing}
use Rattle.ipv6.specs.Ipv6Rules.{Ipv6Is}
use Rattle.connman_ipv4.specs.Ipv4Rules.{Ipv4Is}
use Rattle.ipv6_values.specs.Ipv6Values.{WithLength}
use Rattle.ipv6_values.specs.Ipv6ValueRules.{ConnmanIpv6Is, WithLengthIs}
use Rattle.hex_values.specs.HexValueRules.{MacIs, PreSharedKeyIs, SsidIs}
use Rattle.entry_lists.specs.EntryRules.{EntriesAre}
use Rattle.kinds.specs.Typed as T
use Rattle.kinds.specs.Typed.{Typed}
use Rattle.kinds.specs.declared.Kind.{Kind}
use Rattle.kinds.specs.declared.Kind.TheVariants as K

-- ---- strings

-- a string of low to high bytes: "Every string's length counts its bytes after unescaping."
pub record TextIs (low high : ℕ) (v bytes : List ℕ) : Type 0 where
  pub is : Unescaped v bytes
  pub size : Sized low high bytes

-- ---- a value of each kind, and the typed value that it gives

pub data ValueIs (d : Dialect) : Kind → List ℕ → Typed → Type 0 where
  flag : {v : List ℕ} {b : Bool} → Means (flag_rows d) v b → ValueIs d K.Flag v (T.flag b)
  named : {l : WordList} {v : List ℕ} {w : Word} → Means (word_rows l) v w → ValueIs d (K.Named l) v (T.word w)
  address : {v a : List ℕ} → AddressIs v a → ValueIs d K.Address v (T.address a)
  netmask : {v : List ℕ} {n : ℕ} → MaskIs v n → ValueIs d K.Netmask v (T.mask_length n)
  ipv4 : {v : List ℕ} {i : Addressing} → Ipv4Is v i → ValueIs d K.Ipv4 v (T.addressing i)
  ipv6 : {v : List ℕ} {i : Addressing} → ConnmanIpv6Is v i → ValueIs d K.Ipv6 v (T.addressing i)
  ipv6_address_of : {v a : List ℕ} → Ipv6Is v a → ValueIs d K.Ipv6Address v (T.address a)
  ipv6_with_length : {v : List ℕ} {w : WithLength} → WithLengthIs v w → ValueIs d K.Ipv6WithLength v (T.with_length w)
  addresses : {sep : Separator} {v : List ℕ} {l : List (List ℕ)}
      → AddressesIs sep v l → ValueIs d (K.Addresses sep) v (T.addresses l)
  entries : {v : List ℕ} {l : List (List ℕ)} → EntriesAre v l → ValueIs d K.Entries v (T.entries l)
  mac : {v bytes : List ℕ} → MacIs v bytes → ValueIs d K.Mac v (T.bytes bytes)
  pre_shared_key_of : {v bytes : List ℕ} → PreSharedKeyIs v bytes → ValueIs d K.PreSharedKey v (T.bytes bytes)
  ssid : {v bytes : List ℕ} → SsidIs v bytes → ValueIs d K.Ssid v (T.bytes bytes)
  -- "Passphrase (string, 8 to 63 bytes after unescaping)"
  passphrase : {v bytes : List ℕ} → TextIs 8 63 v bytes → ValueIs d K.Passphrase v (T.bytes bytes)
  text : {low high : ℕ} {v bytes : List ℕ} → TextIs low high v bytes → ValueIs d (K.Text low high) v (T.bytes bytes)

-- ---- whole text

-- the kinds whose values are strings: "Only strings are unescaped."
abbrev pub IsString : Kind → Type 0
IsString K.Flag = ⊥
IsString (K.Named l) = ⊥
IsString K.Address = ⊥
IsString K.Netmask = ⊥
IsString K.Ipv4 = ⊥
IsString K.Ipv6 = ⊥
IsString K.Ipv6Address = ⊥
IsString K.Ipv6WithLength = ⊥
IsString (K.Addresses sep) = ⊥
IsString K.Entries = ⊥
IsString K.Mac = ⊥
IsString K.PreSharedKey = ⊥
IsString K.Ssid = ⊥
IsString K.Passphrase = Unit
IsString (K.Text low high) = Unit

-- "Value text is broken (11) if it is not UTF-8, holds byte 0 or byte 13, or, for an iwd string, has a backslash not
-- beginning one of the five escapes.", and by request 2026-02 for a ConnMan string too: text that is not broken
pub record WholeText (kind : Kind) (v : List ℕ) : Type 0 where
  pub encoded : WellFormedUtf8 v
  pub no_zero : all (other 0) v ≡ true
  pub no_return : all (other 13) v ≡ true
  pub escapes : IsString kind → (bytes : List ℕ) × Unescaped v bytes
