-- Answers with a number n and a line l whose every other byte is zero.
use Rattle.std.specs.Prelude.{ℕ, replicate}
use Rattle.record_layout.specs.declared.CRecord.{CRecord}
use Rattle.boundary.specs.declared.CReading.{CReading}
use Rattle.boundary.specs.declared.CText.{CText}
use Rattle.boundary.specs.declared.CWritten.{CWritten}
use Rattle.boundary.specs.declared.CRecordAnswer.{CRecordAnswer}
use Rattle.boundary.specs.declared.CEntries.{CEntries}
use Rattle.boundary.specs.declared.CIwdSettings.{CIwdSettings}
use Rattle.boundary.specs.declared.CServiceSettings.{CServiceSettings}

abbrev pub zero_reading : ℕ → ℕ → CReading
zero_reading n l = record { line = l; settings = 0; services = 0; number = n; reserved = replicate 7 0 }

abbrev pub zero_text : ℕ → ℕ → CText
zero_text n l = record { line = l; start = 0; length = 0; number = n; reserved = replicate 7 0 }

abbrev pub zero_written : ℕ → ℕ → CWritten
zero_written n l = record { line = l; name_len = 0; file_len = 0; number = n; reserved = replicate 7 0 }

abbrev zero_crecord : CRecord
zero_crecord =
    record {
      name_len = 0;
      name = replicate 32 0;
      credential = 0;
      passphrase_len = 0;
      passphrase = replicate 63 0;
      key = replicate 32 0;
      hidden = 0;
      ipv4 = 0;
      address = replicate 4 0;
      prefix_length = 0;
      has_gateway = 0;
      gateway = replicate 4 0;
      server_count = 0;
      servers = replicate 16 0;
      domain_len = 0;
      domain = replicate 253 0;
      ipv6 = 0;
      ipv6_address = replicate 16 0;
      ipv6_prefix_length = 0;
      has_ipv6_gateway = 0;
      ipv6_gateway = replicate 16 0;
    }

abbrev pub zero_answer : ℕ → ℕ → CRecordAnswer
zero_answer n l = record { line = l; number = n; «record» = zero_crecord; reserved = replicate 7 0 }

abbrev pub zero_iwd : ℕ → ℕ → CIwdSettings
zero_iwd n l =
    record {
      line = l;
      number = n;
      general =
          record {
            auto_connect = 0;
            hidden = 0;
            always_randomize_address = 0;
            has_address_override = 0;
            address_override = replicate 6 0;
          };
      ipv6 =
          record {
            enabled = 0;
            has_address = 0;
            address = replicate 16 0;
            prefix_length = 0;
            has_gateway = 0;
            gateway = replicate 16 0;
          };
      reserved = replicate 1 0;
      security =
          record {
            passphrase_line = 0;
            has_pre_shared_key = 0;
            pre_shared_key = replicate 32 0;
            reserved = replicate 7 0;
          };
      ipv4 =
          record {
            domain_name_line = 0;
            dns_count = 0;
            dns = replicate 16 0;
            has_address = 0;
            address = replicate 4 0;
            has_gateway = 0;
            gateway = replicate 4 0;
            has_broadcast = 0;
            broadcast = replicate 4 0;
            netmask_length = 0;
            send_hostname = 0;
            reserved = replicate 7 0;
          };
    }

abbrev zero_centries : CEntries
zero_centries = record { count = 0; start = replicate 4 0; length = replicate 4 0 }

abbrev pub zero_service : ℕ → ℕ → CServiceSettings
zero_service n l =
    record {
      line = l;
      number = n;
      reserved = replicate 7 0;
      network =
          record {
            name_line = 0;
            passphrase_line = 0;
            ssid_len = 0;
            ssid = replicate 32 0;
            service_type = 0;
            security = 0;
            hidden = 0;
            reserved = replicate 5 0;
          };
      addresses =
          record {
            domain_line = 0;
            search_domains = zero_centries;
            timeservers = zero_centries;
            nameserver_count = 0;
            nameservers = replicate 16 0;
            ipv4 = 0;
            address = replicate 4 0;
            prefix_length = 0;
            has_gateway = 0;
            gateway = replicate 4 0;
            ipv6 = 0;
            ipv6_address = replicate 16 0;
            ipv6_prefix_length = 0;
            has_ipv6_gateway = 0;
            ipv6_gateway = replicate 16 0;
            privacy = 0;
            has_mac = 0;
            mac = replicate 6 0;
            reserved = replicate 2 0;
          };
    }
