-- What a value is once it is read by its kind, and how a value is judged: refusal 11 before refusal 12.
use Rattle.std.specs.Prelude.{ℕ, Bool, false, cond, not, List, Option, None, Some}
use Rattle.text.specs.Options.{is_some, mapped}
use Rattle.text.specs.declared.Dialect.{Dialect}
use Rattle.utf8.specs.Utf8.{value_text}
use Rattle.escapes.specs.Escapes.{unescape}
use Rattle.addresses.specs.Addresses as A
use Rattle.named_words.specs.NamedWords as NamedWords
use Rattle.ipv6.specs.Ipv6 as Ipv6
use Rattle.connman_ipv4.specs.ConnmanIpv4 as ConnmanIpv4
use Rattle.ipv6_values.specs.Ipv6Values as Ipv6Values
use Rattle.hex_values.specs.HexValues as HexValues
use Rattle.entry_lists.specs.EntryLists as EntryLists
use Rattle.kinds.specs.Kinds as K
use Rattle.addressing.specs.Addressing.{Addressing}
use Rattle.ipv6_values.specs.Ipv6Values.{WithLength}
use Rattle.named_words.specs.declared.Word.{Word}
use Rattle.kinds.specs.declared.Kind.{Kind}
use Rattle.kinds.specs.declared.Kind.TheVariants.{Flag, Named, Address, Netmask, Ipv4, Ipv6, Ipv6Address, Ipv6WithLength, Addresses, Entries, Mac, PreSharedKey, Ssid, Passphrase, Text}

-- a typed value
pub data Typed : Type 0 where
  flag : Bool → Typed
  mask_length : ℕ → Typed
  word : Word → Typed
  address : List ℕ → Typed
  addresses : List (List ℕ) → Typed
  entries : List (List ℕ) → Typed
  addressing : Addressing → Typed
  with_length : WithLength → Typed
  bytes : List ℕ → Typed

-- the value by its kind, none where it breaks it
unfoldable pub typed : Dialect → Kind → List ℕ → Option Typed
typed d Flag v = mapped flag (NamedWords.flag d v)
typed d (Named w) v = mapped word (NamedWords.word_of w v)
typed d Address v = mapped address (A.address v)
typed d Netmask v = mapped mask_length (A.netmask v)
typed d Ipv4 v = mapped addressing (ConnmanIpv4.ipv4 v)
typed d Ipv6 v = mapped addressing (Ipv6Values.connman_ipv6 v)
typed d Ipv6Address v = mapped address (Ipv6.ipv6 v)
typed d Ipv6WithLength v = mapped with_length (Ipv6Values.with_length v)
typed d (Addresses sep) v = mapped addresses (A.addresses sep v)
typed d Entries v = mapped entries (EntryLists.entries v)
typed d Mac v = mapped bytes (HexValues.mac v)
typed d PreSharedKey v = mapped bytes (HexValues.pre_shared_key_of v)
typed d Ssid v = mapped bytes (HexValues.ssid v)
typed d Passphrase v = mapped bytes (K.passphrase v)
typed d (Text low high) v = mapped bytes (K.string low high v)

-- "Only strings are unescaped."
abbrev pub escapes_broken : List ℕ → Bool
escapes_broken v = not (is_some (unescape v))

abbrev pub string_broken : Kind → List ℕ → Bool
string_broken Flag v = false
string_broken (Named w) v = false
string_broken Address v = false
string_broken Netmask v = false
string_broken Ipv4 v = false
string_broken Ipv6 v = false
string_broken Ipv6Address v = false
string_broken Ipv6WithLength v = false
string_broken (Addresses sep) v = false
string_broken Entries v = false
string_broken Mac v = false
string_broken PreSharedKey v = false
string_broken Ssid v = false
string_broken Passphrase v = escapes_broken v
string_broken (Text low high) v = escapes_broken v

-- a value is good, its text is broken, or it breaks its kind
pub data Judged : Type 0 where
  good : Typed → Judged
  broken_text : Judged
  broken_kind : Judged

abbrev pub by_kind : Option Typed → Judged
by_kind None = broken_kind
by_kind (Some t) = good t

-- by its kind, where its text is good so far
unfoldable pub kind_judged : Dialect → Kind → List ℕ → Judged
kind_judged d k v = cond (string_broken k v) broken_text (by_kind (typed d k v))

-- "Value text is broken (11) if it is not UTF-8, holds byte 0 or byte 13, or, for an iwd string, has a backslash not beginning one of the
-- five escapes." Request 2026-02 says the same of ConnMan's strings: "a bad escape there is 11."
unfoldable pub judged : Dialect → Kind → List ℕ → Judged
judged d k v = cond (value_text v) (kind_judged d k v) broken_text
