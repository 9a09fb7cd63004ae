-- The settings that a refusal gives are absent or 0: `Asked` says that every setting is absent, and this what that comes to.
use Rattle.std.specs.Prelude.{◌≡◌, refl, None}
use Rattle.rules.specs.Tables.{keys_of}
use Rattle.settings.specs.Settings.{iwd_settings, service_settings}
use Rattle.settings.specs.declared.IwdSettings.{IwdSettings}
use Rattle.settings.specs.declared.ServiceSettings.{ServiceSettings}

-- "Every answer but 0 leaves .. all other result fields zero."
abbrev pub zero_iwd_settings : IwdSettings
zero_iwd_settings =
    record {
      general =
          record { auto_connect = None; hidden = None; always_randomize_address = None; address_override = None };
      security = record { passphrase = 0; pre_shared_key = None };
      ipv4 =
          record {
            address = None;
            gateway = None;
            broadcast = None;
            netmask = None;
            dns = 0;
            domain_name = 0;
            send_hostname = None;
          };
      ipv6 = record { enabled = None; address = None; gateway = None };
    }

abbrev pub zero_service_settings : ServiceSettings
zero_service_settings =
    record {
      network =
          record { service_type = None; name = 0; ssid = None; passphrase = 0; security = None; hidden = None };
      addresses =
          record {
            ipv4 = None;
            ipv6 = None;
            privacy = None;
            mac = None;
            nameservers = 0;
            search_domains = None;
            timeservers = None;
            domain = 0;
          };
    }

pub iwd_absent_zero : iwd_settings (λ n k. None) ≡ zero_iwd_settings
unfolding keys_of
iwd_absent_zero = refl

pub service_absent_zero : service_settings (λ k. None) ≡ zero_service_settings
unfolding keys_of
service_absent_zero = refl
