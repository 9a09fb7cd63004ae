-- What a row keeps, typed: one law for each function over a row.
use Prim.Native.Nat.{ℕ}
use mathlib.Core.Path.{◌≡◌, ap, ap₂, ◌∙◌}
use mathlib.Core.Bool.{Bool}
use mathlib.Core.List.{List}
use Rattle.std.specs.Prelude.{Option}
use lib.ListN.{length}
use Rattle.text.specs.Options.{mapped, or_empty}
use Rattle.text.specs.Words.{word}
use Rattle.text.specs.declared.Dialect.TheVariants.{Iwd, ConnMan}
use Rattle.addresses.specs.Addresses.{address, addresses}
use Rattle.addresses.specs.declared.Separator.TheVariants.{Spaces, Comma}
use Rattle.ipv6.specs.Ipv6.{ipv6}
use Rattle.connman_ipv4.specs.ConnmanIpv4.{ipv4}
use Rattle.ipv6_values.specs.Ipv6Values.{connman_ipv6, with_length}
use Rattle.ipv6_values.specs.Layout.{with_length_laid}
use Rattle.hex_values.specs.HexValues.{mac, ssid, pre_shared_key_of}
use Rattle.entry_lists.specs.EntryLists.{entries}
use Rattle.entry_lists.specs.Places.{entries_laid}
use Rattle.addressing.specs.Numbers.{numbers_laid}
use Rattle.addressing.specs.declared.Numbers.{Numbers}
use Rattle.put.specs.Texts.{bounded}
use Rattle.put.specs.declared.Bounded.{Bounded}
use Rattle.named_words.specs.declared.Word.{Word}
use Rattle.named_words.specs.declared.WordList.TheVariants as L
use Rattle.entry_lists.specs.declared.Entries.{Entries}
use Rattle.ipv6_values.specs.declared.WithLength.{WithLength}
use Rattle.rules.specs.Tables.{keys_of}
use Rattle.rules.specs.Sections.{entry_of}
use Rattle.rules.specs.declared.Group.TheVariants as G
use Rattle.places.specs.History.{base}
use Rattle.places.specs.KeySlots.{key_slot, bytes_of}
use Rattle.places.specs.declared.KeyName.TheVariants as N
use Rattle.places.proofs.RowKeys.{row_key}
use Rattle.values.specs.Codes.{choice_by, chosen_by, mask_by}
use Rattle.values.specs.Rows.{RowGives}
use Rattle.values.proofs.KeptValues.{address_none, addresses_none, ipv4_none, ipv6_none, connman_ipv6_none, with_length_none, entries_none, mac_none, key_none, ssid_none, row_read, row_line, row_start, word_by_lem, flag_by, row_mask}
use Rattle.settings.specs.Settings.{general_settings_of, security_settings_of, ipv4_settings_of, ipv6_settings_of, network_settings_of, address_settings_of}

-- ---- iwd's groups

module _ {file x : List ℕ} where
  pub general_typed : {a b c : Option Bool} {m : Option (List ℕ)} → a ≡ choice_by (key_slot x (base G.Settings 0) N.AutoConnect).code → b ≡ choice_by (key_slot x (base G.Settings 0) N.IwdHidden).code → c ≡ choice_by (key_slot x (base G.Settings 0) N.AlwaysRandomizeAddress).code → m ≡ mac (bytes_of file x (base G.Settings 0) N.AddressOverride) → RowGives Iwd file x (base G.Settings 0) G.Settings general_settings_of (record { auto_connect = a; hidden = b; always_randomize_address = c; address_override = m })
  unfolding keys_of
  general_typed p q r s =
      record {
        is = λ es h.
            rw (
              p ∙ flag_by Iwd file (key_slot x (base G.Settings 0) N.AutoConnect) (entry_of (word "AutoConnect") es) (row_key N.AutoConnect h),
              q ∙ flag_by Iwd file (key_slot x (base G.Settings 0) N.IwdHidden) (entry_of (word "Hidden") es) (row_key N.IwdHidden h),
              r ∙ flag_by Iwd file (key_slot x (base G.Settings 0) N.AlwaysRandomizeAddress) (entry_of (word "AlwaysRandomizeAddress") es) (row_key N.AlwaysRandomizeAddress h),
              s ∙ row_read N.AddressOverride h mac mac_none,
            );
      }

  pub security_typed : {l : ℕ} {k : Option (List ℕ)} → l ≡ (key_slot x (base G.Security 0) N.IwdPassphrase).line → k ≡ pre_shared_key_of (bytes_of file x (base G.Security 0) N.PreSharedKey) → RowGives Iwd file x (base G.Security 0) G.Security security_settings_of (record { passphrase = l; pre_shared_key = k })
  unfolding keys_of
  security_typed p q = record { is = λ es h. rw (p ∙ row_line N.IwdPassphrase h, q ∙ row_read N.PreSharedKey h pre_shared_key_of key_none) }

  pub ipv4_typed : {a b c : Option (List ℕ)} {m : Option ℕ} {n l : ℕ} {s : Option Bool} → a ≡ address (bytes_of file x (base G.Ipv4 0) N.Address) → b ≡ address (bytes_of file x (base G.Ipv4 0) N.Gateway) → c ≡ address (bytes_of file x (base G.Ipv4 0) N.Broadcast) → m ≡ mask_by (key_slot x (base G.Ipv4 0) N.Netmask).code → n ≡ length (or_empty (addresses Spaces (bytes_of file x (base G.Ipv4 0) N.Dns))) → l ≡ (key_slot x (base G.Ipv4 0) N.DomainName).line → s ≡ choice_by (key_slot x (base G.Ipv4 0) N.SendHostname).code → RowGives Iwd file x (base G.Ipv4 0) G.Ipv4 ipv4_settings_of (record { address = a; gateway = b; broadcast = c; netmask = m; dns = n; domain_name = l; send_hostname = s })
  unfolding keys_of
  ipv4_typed p q r s t u v =
      record {
        is = λ es h.
            rw (
              p ∙ row_read N.Address h address address_none,
              q ∙ row_read N.Gateway h address address_none,
              r ∙ row_read N.Broadcast h address address_none,
              s ∙ row_mask h,
              t ∙ ap (λ (o : Option (List (List ℕ))). length (or_empty o)) (row_read N.Dns h (addresses Spaces) (addresses_none Spaces)),
              u ∙ row_line N.DomainName h,
              v ∙ flag_by Iwd file (key_slot x (base G.Ipv4 0) N.SendHostname) (entry_of (word "SendHostname") es) (row_key N.SendHostname h),
            );
      }

  pub ipv6_typed : {e : Option Bool} {a : Option WithLength} {g : Option (List ℕ)} → e ≡ choice_by (key_slot x (base G.Ipv6 0) N.Enabled).code → a ≡ mapped with_length_laid (with_length (bytes_of file x (base G.Ipv6 0) N.Ipv6Address)) → g ≡ ipv6 (bytes_of file x (base G.Ipv6 0) N.Ipv6Gateway) → RowGives Iwd file x (base G.Ipv6 0) G.Ipv6 ipv6_settings_of (record { enabled = e; address = a; gateway = g })
  unfolding keys_of
  ipv6_typed p q r =
      record {
        is = λ es h.
            rw (
              p ∙ flag_by Iwd file (key_slot x (base G.Ipv6 0) N.Enabled) (entry_of (word "Enabled") es) (row_key N.Enabled h),
              q ∙ ap (mapped with_length_laid) (row_read N.Ipv6Address h with_length with_length_none),
              r ∙ row_read N.Ipv6Gateway h ipv6 ipv6_none,
            );
      }

-- ---- a service

module _ {file x : List ℕ} {b : ℕ} where
  pub network_typed : {t : Option Word} {n : ℕ} {s : Option (Bounded 32)} {p : ℕ} {c : Option Word} {d : Option Bool} → t ≡ chosen_by (key_slot x b N.Type).code → n ≡ (key_slot x b N.Name).line → s ≡ mapped (bounded 32) (ssid (bytes_of file x b N.Ssid)) → p ≡ (key_slot x b N.Passphrase).line → c ≡ chosen_by (key_slot x b N.Security).code → d ≡ choice_by (key_slot x b N.Hidden).code → RowGives ConnMan file x b G.Service network_settings_of (record { service_type = t; name = n; ssid = s; passphrase = p; security = c; hidden = d })
  unfolding keys_of
  network_typed p q r s t u =
      record {
        is = λ es h.
            rw (
              p ∙ word_by_lem ConnMan L.ServiceType file (key_slot x b N.Type) (entry_of (word "Type") es) (row_key N.Type h),
              q ∙ row_line N.Name h,
              r ∙ ap (mapped (bounded 32)) (row_read N.Ssid h ssid ssid_none),
              s ∙ row_line N.Passphrase h,
              t ∙ word_by_lem ConnMan L.Security file (key_slot x b N.Security) (entry_of (word "Security") es) (row_key N.Security h),
              u ∙ flag_by ConnMan file (key_slot x b N.Hidden) (entry_of (word "Hidden") es) (row_key N.Hidden h),
            );
      }

  pub address_typed : {a : Option (Numbers 4)} {c : Option (Numbers 16)} {e : Option Word} {m : Option (List ℕ)} {n : ℕ} {s t : Option Entries} {l : ℕ} → a ≡ mapped (numbers_laid 4) (ipv4 (bytes_of file x b N.Ipv4)) → c ≡ mapped (numbers_laid 16) (connman_ipv6 (bytes_of file x b N.Ipv6)) → e ≡ chosen_by (key_slot x b N.Privacy).code → m ≡ mac (bytes_of file x b N.Mac) → n ≡ length (or_empty (addresses Comma (bytes_of file x b N.Nameservers))) → s ≡ mapped (entries_laid (key_slot x b N.SearchDomains).start) (entries (bytes_of file x b N.SearchDomains)) → t ≡ mapped (entries_laid (key_slot x b N.Timeservers).start) (entries (bytes_of file x b N.Timeservers)) → l ≡ (key_slot x b N.Domain).line → RowGives ConnMan file x b G.Service address_settings_of (record { ipv4 = a; ipv6 = c; privacy = e; mac = m; nameservers = n; search_domains = s; timeservers = t; domain = l })
  unfolding keys_of
  address_typed p q r s t u v w =
      record {
        is = λ es h.
            rw (
              p ∙ ap (mapped (numbers_laid 4)) (row_read N.Ipv4 h ipv4 ipv4_none),
              q ∙ ap (mapped (numbers_laid 16)) (row_read N.Ipv6 h connman_ipv6 connman_ipv6_none),
              r ∙ word_by_lem ConnMan L.Privacy file (key_slot x b N.Privacy) (entry_of (word "IPv6.Privacy") es) (row_key N.Privacy h),
              s ∙ row_read N.Mac h mac mac_none,
              t ∙ ap (λ (o : Option (List (List ℕ))). length (or_empty o)) (row_read N.Nameservers h (addresses Comma) (addresses_none Comma)),
              u ∙ ap₂ (λ (n : ℕ) (o : Option (List (List ℕ))). mapped (entries_laid n) o) (row_start N.SearchDomains h) (row_read N.SearchDomains h entries entries_none),
              v ∙ ap₂ (λ (n : ℕ) (o : Option (List (List ℕ))). mapped (entries_laid n) o) (row_start N.Timeservers h) (row_read N.Timeservers h entries entries_none),
              w ∙ row_line N.Domain h,
            );
      }
