-- What the table of places must say before a record is read from it.
use Rattle.std.specs.Prelude.{ℕ, Bool, ◌||◌, List, length, Option, None}
use Rattle.text.specs.Options.{or_empty}
use Rattle.text.specs.declared.Dialect.TheVariants.{Iwd}
use Rattle.put.specs.Texts.{bounded}
use Rattle.put.specs.declared.Bounded.{Bounded}
use Rattle.addresses.specs.Addresses.{address, addresses}
use Rattle.addresses.specs.declared.Separator.{Separator}
use Rattle.addressing.specs.Addressing.{Addressing, or_auto}
use Rattle.addressing.specs.Numbers.{numbers_laid}
use Rattle.connman_ipv4.specs.ConnmanIpv4.{ipv4}
use Rattle.addressing.specs.declared.Numbers.{Numbers}
use Rattle.hex_values.specs.HexValues.{pre_shared_key_of, ssid}
use Rattle.kinds.specs.Kinds.{string, passphrase}
use Rattle.ipv6.specs.Ipv6.{ipv6}
use Rattle.ipv6_values.specs.Ipv6Values.{connman_ipv6, with_length}
use Rattle.named_words.specs.declared.Word.TheVariants as W
use Rattle.rules.specs.Sections.{entries_in}
use Rattle.rules.specs.Asking.{iwd_entry}
use Rattle.names.specs.Names.{network_of}
use Rattle.rules.specs.Reading.{sections_of}
use Rattle.rules.specs.declared.Group.TheVariants as G
use Rattle.places.specs.History.{base}
use Rattle.places.specs.KeySlots.{RowInTable, key_slot, slot_is, bytes_of}
use Rattle.places.specs.declared.KeyName.{KeyName}
use Rattle.places.specs.declared.KeyName.TheVariants as N
use Rattle.values.specs.Rows.{FourRows}
use Rattle.values.specs.Codes.{choice_by, mask_by}
use Rattle.records.specs.Record.{Join}
use Rattle.records.specs.declared.JoinRecord.{JoinRecord}
use Rattle.joins.specs.Joins.{secret_from, static_or_dhcp, static_or_auto, unless_off, name_from, iwd_join, network_name}
use Rattle.joins.specs.Answers.{login_answer, hindrance}
use Rattle.joins.specs.declared.Login.{Login}

-- the rows of iwd's groups, which lie in the table to the last, keep the settings of the file
pub record IwdFileRows (file x : List ℕ) : Type 0 where
  pub table : RowInTable x (base G.Ipv6 0)
  pub rows : FourRows file x (λ n. entries_in n (sections_of Iwd file))

-- ---- the parts of a record, by the row from b on

abbrev pub iwd_login_at : List ℕ → List ℕ → ℕ → Login
iwd_login_at file x b =
    login_answer (secret_from (passphrase (bytes_of file x b N.IwdPassphrase)) (pre_shared_key_of (bytes_of file x b N.PreSharedKey)))

abbrev pub service_login_at : List ℕ → List ℕ → ℕ → Login
service_login_at file x b = login_answer (secret_from (passphrase (bytes_of file x b N.Passphrase)) None)

abbrev pub service_name_at : List ℕ → List ℕ → ℕ → Bounded 32
service_name_at file x b =
    bounded 32 (name_from (ssid (bytes_of file x b N.Ssid)) (string 1 32 (bytes_of file x b N.Name)))

abbrev pub iwd_numbers_at : List ℕ → List ℕ → ℕ → Numbers 4
iwd_numbers_at file x b =
    numbers_laid 4 (static_or_dhcp (address (bytes_of file x b N.Address)) (mask_by (key_slot x b N.Netmask).code)
    (address (bytes_of file x b N.Gateway)))

abbrev pub domain_at : List ℕ → List ℕ → ℕ → KeyName → Bounded 253
domain_at file x b k = bounded 253 (or_empty (string 1 253 (bytes_of file x b k)))

abbrev pub service_ipv4_at : List ℕ → List ℕ → ℕ → Numbers 4
service_ipv4_at file x b = numbers_laid 4 (or_auto (ipv4 (bytes_of file x b N.Ipv4)))

abbrev pub service_ipv6_at : List ℕ → List ℕ → ℕ → Numbers 16
service_ipv6_at file x b = numbers_laid 16 (or_auto (connman_ipv6 (bytes_of file x b N.Ipv6)))

abbrev pub server_count_at : Separator → List ℕ → List ℕ → ℕ → KeyName → ℕ
server_count_at sep file x b k = length (or_empty (addresses sep (bytes_of file x b k)))

-- a yes/no by its code
abbrev pub yes_at : List ℕ → ℕ → KeyName → Option Bool
yes_at x b k = choice_by (key_slot x b k).code

abbrev pub fixed_ipv6_at : List ℕ → List ℕ → ℕ → Addressing
fixed_ipv6_at file x b =
    static_or_auto (with_length (bytes_of file x b N.Ipv6Address)) (ipv6 (bytes_of file x b N.Ipv6Gateway))

abbrev pub iwd_ipv6_at : List ℕ → List ℕ → ℕ → Numbers 16
iwd_ipv6_at file x b = numbers_laid 16 (unless_off (yes_at x b N.Enabled) (fixed_ipv6_at file x b))

-- the words of a service
abbrev pub foreign_at : List ℕ → ℕ → Bool
foreign_at x b = slot_is x b N.Security W.Wep || slot_is x b N.Security W.Ieee8021x

abbrev pub hindrance_at : List ℕ → ℕ → Option ℕ
hindrance_at x b =
    hindrance (slot_is x b N.Type W.Ethernet) (key_slot x b N.Type).line (foreign_at x b) (key_slot x b N.Security).line

-- ---- a record

-- of an iwd file that is accepted
abbrev pub iwd_file_join : List ℕ → List ℕ → Join
iwd_file_join name file = iwd_join (network_name (network_of name)) (iwd_entry (sections_of Iwd file))

-- a record from its parts
abbrev pub assembled : Bounded 32 → Login → Bool → Numbers 4 → ℕ → Bounded 253 → Numbers 16 → JoinRecord
assembled name login hidden ipv4 servers domain ipv6 =
    record {
      name_len = name.len;
      name = name.bytes;
      credential = login.credential;
      passphrase_len = login.passphrase.len;
      passphrase = login.passphrase.bytes;
      key = login.key;
      hidden = hidden;
      ipv4 = ipv4.method;
      address = ipv4.address;
      length = ipv4.length;
      has_gateway = ipv4.has_gateway;
      gateway = ipv4.gateway;
      server_count = servers;
      domain_len = domain.len;
      domain = domain.bytes;
      ipv6 = ipv6.method;
      ipv6_address = ipv6.address;
      ipv6_length = ipv6.length;
      has_ipv6_gateway = ipv6.has_gateway;
      ipv6_gateway = ipv6.gateway;
    }
