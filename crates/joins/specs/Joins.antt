-- The join record of an iwd file and of a ConnMan service, as document 01 says it under "The join record". A value is
-- asked for by its group and key; which kind reads it stands in the table of keys.
use Rattle.std.specs.Prelude.{ℕ, Bool, true, false, cond, ◌||◌, List, [], replicate, Option, None, Some, Ok, Err}
use Rattle.text.specs.Words.{word}
use Rattle.text.specs.Options.{only, or_else, or_empty}
use Rattle.text.specs.declared.Dialect.TheVariants as D
use Rattle.addresses.specs.Addresses.{no_address}
use Rattle.addressing.specs.Addressing.{Addressing, auto, off, static, or_auto}
use Rattle.ipv6_values.specs.Ipv6Values.{WithLength}
use Rattle.addressing.specs.declared.Method.TheVariants as M
use Rattle.named_words.specs.declared.Word.{Word}
use Rattle.named_words.specs.declared.Word.TheVariants as W
use Rattle.names.specs.Names.{Network, network_of}
use Rattle.rules.specs.Tables.{keys_of}
use Rattle.rules.specs.Sections.{Entry, entry_of}
use Rattle.rules.specs.WordNumbers.{is_word}
use Rattle.rules.specs.Asking.{iwd_entry, service_at, entry_line, asked, asked_of}
use Rattle.rules.specs.ListedValues.{value_of, group_value}
use Rattle.rules.specs.declared.Group.TheVariants as G
use Rattle.rules.specs.Reading.{sections_of, reading}
use Rattle.rules.specs.declared.Refusal.{Refusal}
use Rattle.rules.specs.declared.Refusal.TheVariants.{NoPlace}
use Rattle.records.specs.Record.{Secret, no_secret, passphrase, key, Join, laid, laid_servers}
use Rattle.records.specs.declared.Credential.TheVariants as C
use Rattle.records.specs.declared.JoinRecord.{JoinRecord}
use Rattle.joins.specs.declared.RecordAnswer.{RecordAnswer}
use Rattle.rules.specs.Answering.{Answer, refused_at}

-- ---- what an absent value means

-- "a Passphrase wins over a PreSharedKey"
abbrev pub secret_from : Option (List ℕ) → Option (List ℕ) → Secret
secret_from (Some p) k = passphrase p
secret_from None (Some k) = key k
secret_from None None = no_secret

-- "Netmask absent means 24"
abbrev pub length_or24 : Option ℕ → ℕ
length_or24 None = 24
length_or24 (Some n) = n

-- "no Address means dhcp"
abbrev pub static_or_dhcp : Option (List ℕ) → Option ℕ → Option (List ℕ) → Addressing
static_or_dhcp None m g = auto
static_or_dhcp (Some a) m g = static a (length_or24 m) g

-- "Hidden absent means false", in both
abbrev pub or_false : Option Bool → Bool
or_false None = false
or_false (Some b) = b

-- "iwd's group gains Address (length 128 if left off) and Gateway" (2026-03): no Address means auto
abbrev pub static_or_auto : Option WithLength → Option (List ℕ) → Addressing
static_or_auto None g = auto
static_or_auto (Some x) g = static x.address x.length g

-- "Enabled absent or true means auto (house)", or by request 2026-03 what the Address says; false means off
abbrev pub unless_off : Option Bool → Addressing → Addressing
unless_off None i = i
unless_off (Some true) i = i
unless_off (Some false) i = off

-- "SSID, if present, is the name and Name is ignored"
abbrev pub name_from : Option (List ℕ) → Option (List ℕ) → List ℕ
name_from (Some s) n = s
name_from None n = or_empty n

-- ---- the record of an iwd file, at giving the setting with a key in the group with a name

unfoldable abbrev pub iwd_secret : (List ℕ → Option Entry) → Secret
unfolding keys_of
iwd_secret at = let value = value_of G.Security at in secret_from (value (word "Passphrase")) (value (word "PreSharedKey"))

unfoldable abbrev pub iwd_ipv4 : (List ℕ → Option Entry) → Addressing
unfolding keys_of
iwd_ipv4 at =
    let value = value_of G.Ipv4 at in
    static_or_dhcp (value (word "Address")) (value (word "Netmask")) (value (word "Gateway"))

unfoldable abbrev pub iwd_ipv6 : (List ℕ → Option Entry) → Addressing
unfolding keys_of
iwd_ipv6 at =
    let value = value_of G.Ipv6 at in
    unless_off (value (word "Enabled")) (static_or_auto (value (word "Address")) (value (word "Gateway")))

-- "iwd: the name from the file name; a Passphrase wins over a PreSharedKey; Netmask absent means 24; no Address means
-- dhcp; Enabled absent or true means auto (house); Hidden absent means false."
unfoldable abbrev pub iwd_join : List ℕ → (List ℕ → List ℕ → Option Entry) → Join
unfolding keys_of
iwd_join name at =
    record {
      name = name;
      credential = iwd_secret (at (word "Security"));
      hidden = or_false (group_value G.Settings at (word "Hidden"));
      ipv4 = iwd_ipv4 (at (word "IPv4"));
      servers = or_empty (group_value G.Ipv4 at (word "DNS"));
      domain = or_empty (group_value G.Ipv4 at (word "DomainName"));
      ipv6 = iwd_ipv6 (at (word "IPv6"));
    }

-- ---- the record of a ConnMan service, at giving the setting with a key

-- "ConnMan: SSID, if present, is the name and Name is ignored, though its line is still judged; Security absent means
-- psk with a Passphrase, none without; IPv4 absent is dhcp, IPv6 absent auto, Hidden absent false.": the credential is
-- the Passphrase, if there is one. Security psk has one (14), Security none has none (15), the others have no record.
unfoldable abbrev pub service_join : (List ℕ → Option Entry) → Join
unfolding keys_of
service_join at =
    let value = value_of G.Service at in
    record {
      name = name_from (value (word "SSID")) (value (word "Name"));
      credential = secret_from (value (word "Passphrase")) None;
      hidden = or_false (value (word "Hidden"));
      ipv4 = or_auto (value (word "IPv4"));
      servers = or_empty (value (word "Nameservers"));
      domain = or_empty (value (word "Domain"));
      ipv6 = or_auto (value (word "IPv6"));
    }

-- "Asking the record of an ethernet, wep or ieee8021x service is 16": the Type or Security line that causes it
unfoldable abbrev pub wired : (List ℕ → Option Entry) → Bool
unfolding keys_of
wired at = is_word W.Ethernet (value_of G.Service at (word "Type"))

abbrev pub foreign_security : Option Word → Bool
foreign_security o = is_word W.Wep o || is_word W.Ieee8021x o

unfoldable abbrev pub foreign : (List ℕ → Option Entry) → Bool
unfolding keys_of
foreign at = foreign_security (value_of G.Service at (word "Security"))

abbrev pub no_record : (List ℕ → Option Entry) → Option ℕ
no_record at =
    or_else (only (wired at) (Some (entry_line (at (word "Type"))))) (only (foreign at) (Some (entry_line (at (word "Security")))))

-- "A service needs a key when its credential is not none."
abbrev pub secret_given : Secret → Bool
secret_given no_secret = false
secret_given (passphrase p) = true
secret_given (key k) = true

abbrev pub needs_key : Join → Bool
needs_key j = secret_given j.credential

-- ---- the answers

-- a join record, or the refusal and its line
pub data Joined : Type 0 where
  joined : Join → Joined
  refused : Refusal → ℕ → Joined

-- the name that the file name gives
abbrev pub network_name : Option Network → List ℕ
network_name None = []
network_name (Some x) = x.name

abbrev pub joined_if_good : Answer → Joined → Joined
joined_if_good (Ok u) j = j
joined_if_good (Err f) j = refused f.refusal f.line

abbrev pub or_no_place : Option ℕ → Join → Joined
or_no_place None j = joined j
or_no_place (Some l) j = refused NoPlace l

-- of an iwd file under its name
abbrev pub iwd_joined : List ℕ → List ℕ → Joined
iwd_joined name file =
    joined_if_good (asked (reading D.Iwd name file)) (joined (iwd_join (network_name (network_of name)) (iwd_entry (sections_of D.Iwd file))))

-- of service w of a ConnMan file: 16 "asked after 18"
abbrev pub service_setting : ℕ → List ℕ → List ℕ → Option Entry
service_setting w file k = entry_of k (service_at w (sections_of D.ConnMan file))

abbrev pub service_joined : List ℕ → List ℕ → ℕ → Joined
service_joined name file w =
    joined_if_good (asked_of w (reading D.ConnMan name file)) (or_no_place (no_record (service_setting w file)) (service_join (service_setting w file)))

-- ---- the answers as the code gives them

-- all zeros; zero of an enum is its case 0
abbrev pub zero_record : JoinRecord
zero_record =
    record {
      name_len = 0;
      name = replicate 32 0;
      credential = C.None;
      passphrase_len = 0;
      passphrase = replicate 63 0;
      key = replicate 32 0;
      hidden = false;
      ipv4 = M.Auto;
      address = no_address;
      length = 0;
      has_gateway = false;
      gateway = no_address;
      server_count = 0;
      domain_len = 0;
      domain = replicate 253 0;
      ipv6 = M.Auto;
      ipv6_address = replicate 16 0;
      ipv6_length = 0;
      has_ipv6_gateway = false;
      ipv6_gateway = replicate 16 0;
    }

-- "Every answer but 0 leaves all lent buffers unchanged and all other result fields zero."
abbrev pub record_answer : Joined → RecordAnswer
record_answer (joined j) = record { answer = Ok tt; «record» = laid j }
record_answer (refused r l) = record { answer = refused_at r l; «record» = zero_record }

abbrev pub servers_after : Joined → List (List ℕ) → List (List ℕ)
servers_after (joined j) old = laid_servers j
servers_after (refused r l) old = old

unfoldable pub iwd_record : List ℕ → List ℕ → RecordAnswer
iwd_record name file = record_answer (iwd_joined name file)

unfoldable pub iwd_record_servers : List ℕ → List ℕ → List (List ℕ) → List (List ℕ)
iwd_record_servers name file old = servers_after (iwd_joined name file) old

unfoldable pub service_record : List ℕ → List ℕ → ℕ → RecordAnswer
service_record name file w = record_answer (service_joined name file w)

unfoldable pub service_record_servers : List ℕ → List ℕ → ℕ → List (List ℕ) → List (List ℕ)
service_record_servers name file w old = servers_after (service_joined name file w) old
