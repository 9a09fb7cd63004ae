-- The typed settings in the C boundary's structs: an absent one is not given, code 0, and zeros.
use Rattle.std.specs.Prelude.{ℕ, ◌-◌, Bool, true, false, List, map, replicate, Option, None, Some, is_some, unwrap_or}
use Rattle.text.specs.declared.Place.{Place}
use Rattle.put.specs.declared.Bounded.{Bounded}
use Rattle.addressing.specs.Addressing.{auto}
use Rattle.addressing.specs.Numbers.{numbers_laid}
use Rattle.addressing.specs.declared.Numbers.{Numbers}
use Rattle.ipv6_values.specs.declared.WithLength.{WithLength}
use Rattle.named_words.specs.declared.Word.{Word}
use Rattle.entry_lists.specs.Places.{no_place}
use Rattle.entry_lists.specs.declared.Entries.{Entries}
use Rattle.rules.specs.Numbers.{answer_number, answer_line}
use Rattle.settings.specs.declared.GeneralSettings.{GeneralSettings}
use Rattle.settings.specs.declared.SecuritySettings.{SecuritySettings}
use Rattle.settings.specs.declared.Ipv4Settings.{Ipv4Settings}
use Rattle.settings.specs.declared.Ipv6Settings.{Ipv6Settings}
use Rattle.settings.specs.declared.NetworkSettings.{NetworkSettings}
use Rattle.settings.specs.declared.AddressSettings.{AddressSettings}
use Rattle.settings.specs.declared.IwdAnswer.{IwdAnswer}
use Rattle.settings.specs.declared.ServiceAnswer.{ServiceAnswer}
use Rattle.codes.specs.Codes.{bit_of, word_code, given_method_code}
use Rattle.record_layout.specs.Records.{sixteen}
use Rattle.boundary.specs.declared.CGeneral.{CGeneral}
use Rattle.boundary.specs.declared.CSecurity.{CSecurity}
use Rattle.boundary.specs.declared.CIpv4.{CIpv4}
use Rattle.boundary.specs.declared.CIpv6.{CIpv6}
use Rattle.boundary.specs.declared.CIwdSettings.{CIwdSettings}
use Rattle.boundary.specs.declared.CEntries.{CEntries}
use Rattle.boundary.specs.declared.CNetwork.{CNetwork}
use Rattle.boundary.specs.declared.CAddresses.{CAddresses}
use Rattle.boundary.specs.declared.CServiceSettings.{CServiceSettings}

-- ---- what may be absent

abbrev pub choice_code : Option Bool → ℕ
choice_code None = 0
choice_code (Some false) = 1
choice_code (Some true) = 2

abbrev pub chosen_code : Option Word → ℕ
chosen_code None = 0
chosen_code (Some w) = word_code w

abbrev pub given : {A : Type 0} → Option A → ℕ
given o = bit_of (is_some o)

-- so many bytes
abbrev pub bytes_or0 : ℕ → Option (List ℕ) → List ℕ
bytes_or0 width o = unwrap_or o (replicate width 0)

abbrev pub with_length_or0 : Option WithLength → WithLength
with_length_or0 o = unwrap_or o (record { address = replicate 16 0; length = 0 })

abbrev pub text_or0 : (most : ℕ) → Option (Bounded most) → Bounded most
text_or0 most o = unwrap_or o (record { len = 0; bytes = replicate most 0 })

abbrev pub numbers_or0 : (width : ℕ) → Option (Numbers width) → Numbers width
numbers_or0 width o = unwrap_or o (numbers_laid width auto)

abbrev pub entries_or0 : Option Entries → Entries
entries_or0 o = unwrap_or o (record { count = 0; places = replicate 4 no_place })

-- ---- an iwd file, by its groups

abbrev pub general_at : GeneralSettings → CGeneral
general_at s =
    record {
      auto_connect = choice_code s.auto_connect;
      hidden = choice_code s.hidden;
      always_randomize_address = choice_code s.always_randomize_address;
      has_address_override = given s.address_override;
      address_override = bytes_or0 6 s.address_override;
    }

abbrev pub security_at : SecuritySettings → CSecurity
security_at s =
    record {
      passphrase_line = s.passphrase;
      has_pre_shared_key = given s.pre_shared_key;
      pre_shared_key = bytes_or0 32 s.pre_shared_key;
      reserved = replicate 7 0;
    }

abbrev pub ipv4_at : Ipv4Settings → List (List ℕ) → CIpv4
ipv4_at s servers =
    record {
      domain_name_line = s.domain_name;
      dns_count = s.dns;
      dns = sixteen servers;
      has_address = given s.address;
      address = bytes_or0 4 s.address;
      has_gateway = given s.gateway;
      gateway = bytes_or0 4 s.gateway;
      has_broadcast = given s.broadcast;
      broadcast = bytes_or0 4 s.broadcast;
      netmask_length = unwrap_or s.netmask 0;
      send_hostname = choice_code s.send_hostname;
      reserved = replicate 7 0;
    }

abbrev pub ipv6_at : Ipv6Settings → CIpv6
ipv6_at s =
    record {
      enabled = choice_code s.enabled;
      has_address = given s.address;
      address = (with_length_or0 s.address).address;
      prefix_length = (with_length_or0 s.address).length;
      has_gateway = given s.gateway;
      gateway = bytes_or0 16 s.gateway;
    }

abbrev pub iwd_settings_at : IwdAnswer → List (List ℕ) → CIwdSettings
iwd_settings_at a servers =
    record {
      line = answer_line a.answer;
      number = answer_number a.answer;
      general = general_at a.settings.general;
      ipv6 = ipv6_at a.settings.ipv6;
      reserved = replicate 1 0;
      security = security_at a.settings.security;
      ipv4 = ipv4_at a.settings.ipv4 servers;
    }

-- ---- a ConnMan service

-- from its start to its end
abbrev pub place_length : Place → ℕ
place_length p = p.end - p.start

abbrev pub entries_at : Option Entries → CEntries
entries_at o =
    let e = entries_or0 o in
    record { count = e.count; start = map (λ p. p.start) e.places; length = map place_length e.places }

abbrev pub network_at : NetworkSettings → CNetwork
network_at s =
    record {
      name_line = s.name;
      passphrase_line = s.passphrase;
      ssid_len = (text_or0 32 s.ssid).len;
      ssid = (text_or0 32 s.ssid).bytes;
      service_type = chosen_code s.service_type;
      security = chosen_code s.security;
      hidden = choice_code s.hidden;
      reserved = replicate 5 0;
    }

abbrev pub addresses_at : AddressSettings → List (List ℕ) → CAddresses
addresses_at s servers =
    let ipv4 = numbers_or0 4 s.ipv4 in
    let ipv6 = numbers_or0 16 s.ipv6 in
    record {
      domain_line = s.domain;
      search_domains = entries_at s.search_domains;
      timeservers = entries_at s.timeservers;
      nameserver_count = s.nameservers;
      nameservers = sixteen servers;
      ipv4 = given_method_code (is_some s.ipv4) ipv4.method;
      address = ipv4.address;
      prefix_length = ipv4.length;
      has_gateway = bit_of ipv4.has_gateway;
      gateway = ipv4.gateway;
      ipv6 = given_method_code (is_some s.ipv6) ipv6.method;
      ipv6_address = ipv6.address;
      ipv6_prefix_length = ipv6.length;
      has_ipv6_gateway = bit_of ipv6.has_gateway;
      ipv6_gateway = ipv6.gateway;
      privacy = chosen_code s.privacy;
      has_mac = given s.mac;
      mac = bytes_or0 6 s.mac;
      reserved = replicate 2 0;
    }

abbrev pub service_settings_at : ServiceAnswer → List (List ℕ) → CServiceSettings
service_settings_at a servers =
    record {
      line = answer_line a.answer;
      number = answer_number a.answer;
      reserved = replicate 7 0;
      network = network_at a.settings.network;
      addresses = addresses_at a.settings.addresses servers;
    }
