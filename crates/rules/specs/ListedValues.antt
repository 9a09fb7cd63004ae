-- The value of a setting: what the kind that is listed for its key, in its group, reads from it. Which kind that is
-- stands in the table of keys alone, and which dialect's it is follows from the group: whoever asks for a value names a
-- group and a key, and no kind.
use Rattle.std.specs.Prelude.{ℕ, Bool, List, [], Option, None, Some}
use Rattle.text.specs.Words.{word}
use Rattle.text.specs.declared.Dialect.{Dialect}
use Rattle.text.specs.declared.Dialect.TheVariants.{Iwd, ConnMan}
use Rattle.addresses.specs.Addresses as A
use Rattle.named_words.specs.NamedWords as NamedWords
use Rattle.ipv6.specs.Ipv6 as IPv6
use Rattle.connman_ipv4.specs.ConnmanIpv4 as ConnmanIpv4
use Rattle.ipv6_values.specs.Ipv6Values as Ipv6Values
use Rattle.hex_values.specs.HexValues as HexValues
use Rattle.entry_lists.specs.EntryLists as EntryLists
use Rattle.kinds.specs.Kinds as K
use Rattle.addressing.specs.Addressing.{Addressing}
use Rattle.named_words.specs.declared.Word.{Word}
use Rattle.kinds.specs.declared.Kind.{Kind}
use Rattle.kinds.specs.declared.Kind.TheVariants as Kind
use Rattle.rules.specs.Tables.{kind_of}
use Rattle.rules.specs.Sections.{Entry}
use Rattle.rules.specs.Asking.{read_as}
use Rattle.rules.specs.declared.Group.{Group}
use Rattle.rules.specs.declared.Group.TheVariants.{Settings, Security, Ipv4, Ipv6, Global, Service}

-- what a value of each kind is: a yes/no, a word, a mask's length, an address, alone or with its length, a list, numbers of a network, or
-- bytes
abbrev pub KindValue : Kind → Type 0
KindValue Kind.Flag = Bool
KindValue (Kind.Named w) = Word
KindValue Kind.Address = List ℕ
KindValue Kind.Netmask = ℕ
KindValue Kind.Ipv4 = Addressing
KindValue Kind.Ipv6 = Addressing
KindValue Kind.Ipv6Address = List ℕ
KindValue Kind.Ipv6WithLength = Ipv6Values.WithLength
KindValue (Kind.Addresses sep) = List (List ℕ)
KindValue Kind.Entries = List (List ℕ)
KindValue Kind.Mac = List ℕ
KindValue Kind.PreSharedKey = List ℕ
KindValue Kind.Ssid = List ℕ
KindValue Kind.Passphrase = List ℕ
KindValue (Kind.Text low high) = List ℕ

-- what each kind reads; none where the value breaks it
abbrev pub valued : Dialect → (k : Kind) → List ℕ → Option (KindValue k)
valued d Kind.Flag = NamedWords.flag d
valued d (Kind.Named w) = NamedWords.word_of w
valued d Kind.Address = A.address
valued d Kind.Netmask = A.netmask
valued d Kind.Ipv4 = ConnmanIpv4.ipv4
valued d Kind.Ipv6 = Ipv6Values.connman_ipv6
valued d Kind.Ipv6Address = IPv6.ipv6
valued d Kind.Ipv6WithLength = Ipv6Values.with_length
valued d (Kind.Addresses sep) = A.addresses sep
valued d Kind.Entries = EntryLists.entries
valued d Kind.Mac = HexValues.mac
valued d Kind.PreSharedKey = HexValues.pre_shared_key_of
valued d Kind.Ssid = HexValues.ssid
valued d Kind.Passphrase = K.passphrase
valued d (Kind.Text low high) = K.string low high

-- "iwd groups: Settings .. Security .. IPv4 .. IPv6 ..", "ConnMan groups: `global` .. `service_` .."
abbrev pub group_dialect : Group → Dialect
group_dialect Settings = Iwd
group_dialect Security = Iwd
group_dialect Ipv4 = Iwd
group_dialect Ipv6 = Iwd
group_dialect Global = ConnMan
group_dialect Service = ConnMan

-- of a key that is not listed there is no value at all
abbrev pub ValueOf : Option Kind → Type 0
ValueOf None = ⊥
ValueOf (Some k) = KindValue k

abbrev pub read_by : Dialect → (o : Option Kind) → Option Entry → Option (ValueOf o)
read_by d None e = None
read_by d (Some k) e = read_as (valued d k) e

-- the value of key k, at giving the settings of a group g by their keys: none where that one is absent
abbrev pub value_of : (g : Group) → (List ℕ → Option Entry) → (k : List ℕ) → Option (ValueOf (kind_of g k))
value_of g at k = read_by (group_dialect g) (kind_of g k) (at k)

-- a group that is no service has one name
abbrev pub group_name : Group → List ℕ
group_name Settings = word "Settings"
group_name Security = word "Security"
group_name Ipv4 = word "IPv4"
group_name Ipv6 = word "IPv6"
group_name Global = word "global"
group_name Service = []

-- the value of key k in group g, at giving the settings of a file by their groups' names and their keys
abbrev pub group_value : (g : Group) → (List ℕ → List ℕ → Option Entry) → (k : List ℕ)
    → Option (ValueOf (kind_of g k))
group_value g at k = value_of g (at (group_name g)) k
