-- Demand 2's values, field by field: of an accepted file a typed setting is absent exactly when its key is not given. What
-- it is otherwise, its definition says: the value that the kind listed for its key gives (rules `GivenValues`).
use Rattle.std.specs.Prelude.{ℕ, zero, suc, ◌≡◌, Bool, true, false, List, Option, unwrap_or}
use Rattle.std.specs.Option.{is_some, option_map_or}
use Rattle.entry_lists.specs.declared.Entries.{Entries}
use Rattle.text.specs.Words.{word}
use Rattle.rules.specs.Sections.{Entry, Section, given}
use Rattle.rules.specs.Groups.{has}
use Rattle.settings.specs.declared.IwdSettings.{IwdSettings}
use Rattle.settings.specs.declared.ServiceSettings.{ServiceSettings}

-- a mask's length, the count of a list, and the line of a string: none is 0 where it is given
abbrev pub nonzero : ℕ → Bool
nonzero zero = false
nonzero (suc n) = true

-- of a list of entries
abbrev pub entry_count : Option Entries → ℕ
entry_count o = option_map_or (λ e. e.count) o 0

-- the settings s of an iwd file whose groups are gs
pub record IwdGiven (gs : List Section) (s : IwdSettings) : Type 0 where
  pub auto_connect_lem : is_some s.general.auto_connect ≡ has (word "Settings") (word "AutoConnect") gs
  pub hidden : is_some s.general.hidden ≡ has (word "Settings") (word "Hidden") gs
  pub always_randomize : is_some s.general.always_randomize_address
      ≡ has (word "Settings") (word "AlwaysRandomizeAddress") gs
  pub address_override_lem : is_some s.general.address_override ≡ has (word "Settings") (word "AddressOverride") gs
  pub passphrase : nonzero s.security.passphrase ≡ has (word "Security") (word "Passphrase") gs
  pub pre_shared_key_lem : is_some s.security.pre_shared_key ≡ has (word "Security") (word "PreSharedKey") gs
  pub address : is_some s.ipv4.address ≡ has (word "IPv4") (word "Address") gs
  pub gateway : is_some s.ipv4.gateway ≡ has (word "IPv4") (word "Gateway") gs
  pub broadcast : is_some s.ipv4.broadcast ≡ has (word "IPv4") (word "Broadcast") gs
  pub netmask : is_some s.ipv4.netmask ≡ has (word "IPv4") (word "Netmask") gs
  pub netmask_length_lem : nonzero (unwrap_or s.ipv4.netmask 0) ≡ has (word "IPv4") (word "Netmask") gs
  pub dns : nonzero s.ipv4.dns ≡ has (word "IPv4") (word "DNS") gs
  pub domain_name_lem : nonzero s.ipv4.domain_name ≡ has (word "IPv4") (word "DomainName") gs
  pub send_hostname_lem : is_some s.ipv4.send_hostname ≡ has (word "IPv4") (word "SendHostname") gs
  pub enabled : is_some s.ipv6.enabled ≡ has (word "IPv6") (word "Enabled") gs
  pub ipv6_address_lem : is_some s.ipv6.address ≡ has (word "IPv6") (word "Address") gs
  pub ipv6_gateway_lem : is_some s.ipv6.gateway ≡ has (word "IPv6") (word "Gateway") gs

-- the settings s of a service whose settings in the file are es
pub record ServiceGiven (es : List Entry) (s : ServiceSettings) : Type 0 where
  pub service_type_lem : is_some s.network.service_type ≡ given (word "Type") es
  pub name : nonzero s.network.name ≡ given (word "Name") es
  pub ssid : is_some s.network.ssid ≡ given (word "SSID") es
  pub passphrase : nonzero s.network.passphrase ≡ given (word "Passphrase") es
  pub security : is_some s.network.security ≡ given (word "Security") es
  pub hidden : is_some s.network.hidden ≡ given (word "Hidden") es
  pub ipv4 : is_some s.addresses.ipv4 ≡ given (word "IPv4") es
  pub ipv6 : is_some s.addresses.ipv6 ≡ given (word "IPv6") es
  pub privacy : is_some s.addresses.privacy ≡ given (word "IPv6.Privacy") es
  pub mac : is_some s.addresses.mac ≡ given (word "MAC") es
  pub nameservers : nonzero s.addresses.nameservers ≡ given (word "Nameservers") es
  pub search_domains_lem : is_some s.addresses.search_domains ≡ given (word "SearchDomains") es
  pub search_domains_count : nonzero (entry_count s.addresses.search_domains) ≡ given (word "SearchDomains") es
  pub timeservers : is_some s.addresses.timeservers ≡ given (word "Timeservers") es
  pub timeservers_count : nonzero (entry_count s.addresses.timeservers) ≡ given (word "Timeservers") es
  pub domain : nonzero s.addresses.domain ≡ given (word "Domain") es
