-- The typed settings, as document 01 lists them under "Settings and their kinds": every key with its value, or absent. A
-- value is asked for by its group and key; which kind reads it stands in the table of keys.
use Rattle.std.specs.Prelude.{ℕ, List, length, Option}
use Rattle.text.specs.Words.{word}
use Rattle.text.specs.Options.{mapped, or_empty}
use Rattle.addresses.specs.Addresses.{rows}
use Rattle.addressing.specs.Numbers.{numbers_laid}
use Rattle.ipv6_values.specs.Layout.{with_length_laid}
use Rattle.put.specs.Texts.{bounded}
use Rattle.entry_lists.specs.Places.{entries_laid}
use Rattle.rules.specs.Tables.{keys_of}
use Rattle.rules.specs.Sections.{Entry}
use Rattle.rules.specs.Asking.{entry_line, entry_start}
use Rattle.rules.specs.ListedValues.{value_of, group_value}
use Rattle.rules.specs.declared.Group.TheVariants.{Settings, Security, Ipv4, Ipv6, Service}
use Rattle.settings.specs.declared.GeneralSettings.{GeneralSettings}
use Rattle.settings.specs.declared.SecuritySettings.{SecuritySettings}
use Rattle.settings.specs.declared.Ipv4Settings.{Ipv4Settings}
use Rattle.settings.specs.declared.Ipv6Settings.{Ipv6Settings}
use Rattle.settings.specs.declared.IwdSettings.{IwdSettings}
use Rattle.settings.specs.declared.NetworkSettings.{NetworkSettings}
use Rattle.settings.specs.declared.AddressSettings.{AddressSettings}
use Rattle.settings.specs.declared.ServiceSettings.{ServiceSettings}

-- ---- iwd: at gives the setting with a key, of one group

-- "Settings: AutoConnect, Hidden, AlwaysRandomizeAddress (bool), AddressOverride (MAC)"
unfoldable abbrev pub general_settings_of : (List ℕ → Option Entry) → GeneralSettings
unfolding keys_of
general_settings_of at =
    let value = value_of Settings at in
    record {
      auto_connect = value (word "AutoConnect");
      hidden = value (word "Hidden");
      always_randomize_address = value (word "AlwaysRandomizeAddress");
      address_override = value (word "AddressOverride");
    }

-- "Security: Passphrase (string ..), PreSharedKey (64 hex digits)"
unfoldable abbrev pub security_settings_of : (List ℕ → Option Entry) → SecuritySettings
unfolding keys_of
security_settings_of at =
    let value = value_of Security at in
    record {
      passphrase = entry_line (at (word "Passphrase"));
      pre_shared_key = value (word "PreSharedKey");
    }

-- "IPv4: Address, Gateway, Broadcast (address), Netmask (mask), DNS (1 to 4 addresses ..), DomainName (string ..),
-- SendHostname (bool)"
unfoldable abbrev pub ipv4_settings_of : (List ℕ → Option Entry) → Ipv4Settings
unfolding keys_of
ipv4_settings_of at =
    let value = value_of Ipv4 at in
    record {
      address = value (word "Address");
      gateway = value (word "Gateway");
      broadcast = value (word "Broadcast");
      netmask = value (word "Netmask");
      dns = length (or_empty (value (word "DNS")));
      domain_name = entry_line (at (word "DomainName"));
      send_hostname = value (word "SendHostname");
    }

-- "IPv6: Enabled (bool)", and by request 2026-03 "Address (length 128 if left off) and Gateway"
unfoldable abbrev pub ipv6_settings_of : (List ℕ → Option Entry) → Ipv6Settings
unfolding keys_of
ipv6_settings_of at =
    let value = value_of Ipv6 at in
    record {
      enabled = value (word "Enabled");
      address = mapped with_length_laid (value (word "Address"));
      gateway = value (word "Gateway");
    }

-- the settings of an iwd file, at giving the setting with a key in the group with a name
abbrev pub iwd_settings : (List ℕ → List ℕ → Option Entry) → IwdSettings
iwd_settings at =
    record {
      general = general_settings_of (at (word "Settings"));
      security = security_settings_of (at (word "Security"));
      ipv4 = ipv4_settings_of (at (word "IPv4"));
      ipv6 = ipv6_settings_of (at (word "IPv6"));
    }

unfoldable abbrev pub iwd_servers : (List ℕ → List ℕ → Option Entry) → List (List ℕ)
unfolding keys_of
iwd_servers at = rows (group_value Ipv4 at (word "DNS"))

-- ---- a ConnMan service: at gives the setting with a key

-- "Type (wifi, ethernet)", "Name (string, 1 to 32), SSID (2 to 64 hex digits ..), Passphrase (string, 8 to 63),
-- Security (psk, ieee8021x, none, wep), Hidden (bool)"
unfoldable abbrev pub network_settings_of : (List ℕ → Option Entry) → NetworkSettings
unfolding keys_of
network_settings_of at =
    let value = value_of Service at in
    record {
      service_type = value (word "Type");
      name = entry_line (at (word "Name"));
      ssid = mapped (bounded 32) (value (word "SSID"));
      passphrase = entry_line (at (word "Passphrase"));
      security = value (word "Security");
      hidden = value (word "Hidden");
    }

-- "IPv4, IPv6 (off, auto)", which by request 2026-03 "gains address/length with an optional gateway", "IPv6.Privacy (..), MAC,
-- Nameservers (1 to 4 addresses ..), SearchDomains and Timeservers (1 to 4 entries ..), Domain (string, 1 to 253)"
unfoldable abbrev pub address_settings_of : (List ℕ → Option Entry) → AddressSettings
unfolding keys_of
address_settings_of at =
    let value = value_of Service at in
    record {
      ipv4 = mapped (numbers_laid 4) (value (word "IPv4"));
      ipv6 = mapped (numbers_laid 16) (value (word "IPv6"));
      privacy = value (word "IPv6.Privacy");
      mac = value (word "MAC");
      nameservers = length (or_empty (value (word "Nameservers")));
      search_domains = mapped (entries_laid (entry_start (at (word "SearchDomains")))) (value (word "SearchDomains"));
      timeservers = mapped (entries_laid (entry_start (at (word "Timeservers")))) (value (word "Timeservers"));
      domain = entry_line (at (word "Domain"));
    }

abbrev pub service_settings : (List ℕ → Option Entry) → ServiceSettings
service_settings at = record { network = network_settings_of at; addresses = address_settings_of at }

unfoldable abbrev pub service_servers : (List ℕ → Option Entry) → List (List ℕ)
unfolding keys_of
service_servers at = rows (value_of Service at (word "Nameservers"))
