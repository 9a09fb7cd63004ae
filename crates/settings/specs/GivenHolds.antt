-- What `Given` says holds: one law for each shape of value, and rules `GivenValues` for every key.
use Rattle.std.specs.Prelude.{ℕ, zero, suc, ◌≤◌, ◌≡◌, true, List, length, Option, None, Some, unwrap_or, Ok}
use Rattle.std.proofs.Common.{arith, ap, ◌∙◌}
use Rattle.std.proofs.Math.Path.{refl}
use Rattle.text.specs.Laws.{between_low}
use Rattle.text.specs.Options.{is_some, mapped, or_empty, each}
use Rattle.text.specs.OptionLaws.{IfSome, sized_some}
use Rattle.text.specs.Parts.{pieces}
use Rattle.text.specs.Words.{word}
use Rattle.text.specs.declared.Dialect.TheVariants.{Iwd, ConnMan}
use Rattle.addresses.specs.Addresses.{netmask, addresses}
use Rattle.addresses.specs.declared.Separator.{Separator}
use Rattle.addresses.specs.declared.Separator.TheVariants.{Spaces, Comma}
use Rattle.addressing.specs.Numbers.{numbers_laid}
use Rattle.ipv6_values.specs.Layout.{with_length_laid}
use Rattle.put.specs.Texts.{bounded}
use Rattle.entry_lists.specs.EntryLists.{entry, entries}
use Rattle.entry_lists.specs.Places.{entries_laid}
use Rattle.addresses.specs.Laws.{addresses_good}
use Rattle.addresses.specs.MaskRuleLaws.{netmask_good}
use Rattle.rules.specs.Tables.{group_of, keys_of}
use Rattle.rules.specs.Sections.{Entry, given, entry_of, entries_in}
use Rattle.rules.specs.Groups.{has}
use Rattle.rules.specs.Reading.{sections_of, reading}
use Rattle.rules.specs.Asking.{iwd_entry, service_at, read_as, entry_line, entry_start, asked, asked_of}
use Rattle.rules.specs.ListedValues.{group_name, value_of, group_value}
use Rattle.rules.proofs.GivenValues.{read_holds, entry_given, group_given, service_given}
use Rattle.rules.proofs.EntryLines.{group_line, service_line}
use Rattle.rules.specs.GoodAnswers.{asked_reading, asked_service}
use Rattle.rules.specs.declared.Group.{Group}
use Rattle.rules.specs.declared.Group.TheVariants.{Settings, Security, Ipv4, Ipv6, Service}
use Rattle.settings.specs.Asked.{iwd_answered, service_answered}
use Rattle.settings.specs.Given.{nonzero, entry_count, IwdGiven, ServiceGiven}

-- ---- each shape of value

mapped_given : {A B : Type 0} (f : A → B) (o : Option A) → is_some (mapped f o) ≡ is_some o
mapped_given f None = refl
mapped_given f (Some a) = refl

-- a number that is not 0
positive : (n : ℕ) → 1 ≤ n → nonzero n ≡ true
positive zero h = absurd (omega (arith, h))
positive (suc n) h = refl

length_given : (o : Option ℕ) → IfSome (λ n. 1 ≤ n) o → nonzero (unwrap_or o 0) ≡ is_some o
length_given None h = refl
length_given (Some n) h = positive n h

count_given : {A : Type 0} (o : Option (List A)) → IfSome (λ l. 1 ≤ length l) o →
    nonzero (length (or_empty o)) ≡ is_some o
count_given None h = refl
count_given (Some l) h = positive (length l) h

line_given_lem : (o : Option Entry) → IfSome (λ e. 1 ≤ e.line) o → nonzero (entry_line o) ≡ is_some o
line_given_lem None h = refl
line_given_lem (Some e) h = positive e.line h

netmask_given : (o : Option Entry) → nonzero (unwrap_or (read_as netmask o) 0) ≡ is_some (read_as netmask o)
netmask_given o =
    length_given (read_as netmask o) (read_holds (λ (n : ℕ). 1 ≤ n) netmask o (λ e q n r. (netmask_good e.value r).0))

addresses_given : (sep : Separator) (o : Option Entry) →
    nonzero (length (or_empty (read_as (addresses sep) o))) ≡ is_some (read_as (addresses sep) o)
addresses_given sep o =
    count_given (read_as (addresses sep) o) (read_holds (λ (l : List (List ℕ)). 1 ≤ length l) (addresses sep) o (λ e q l r. (addresses_good sep e.value r).0))

entries_low : (v : List ℕ) {l : List (List ℕ)} → entries v ≡ Some l → 1 ≤ length l
unfolding entries
entries_low v {l} e = between_low {x = length l} 1 4 (sized_some 1 4 (each entry (pieces 44 v)) e).0

-- the count of a list is its length
count_laid : (b : ℕ) (o : Option (List (List ℕ))) → entry_count (mapped (entries_laid b) o) ≡ length (or_empty o)
count_laid b None = refl
count_laid b (Some l) = refl

entries_given : (b : ℕ) (o : Option Entry) → nonzero (entry_count (mapped (entries_laid b) (read_as entries o))) ≡ is_some (read_as entries o)
entries_given b o =
    ap nonzero (count_laid b (read_as entries o))
    ∙ count_given (read_as entries o) (read_holds (λ (l : List (List ℕ)). 1 ≤ length l) entries o (λ e q l r. entries_low e.value r))

-- ---- an iwd file

module _ (name file : List ℕ) (a : asked (reading Iwd name file) ≡ Ok tt) where
  at : List ℕ → List ℕ → Option Entry
  at = iwd_entry (sections_of Iwd file)

  value_given : (g : Group) → group_of Iwd (group_name g) ≡ Some g → (key : List ℕ) →
      is_some (group_value g (iwd_entry (sections_of Iwd file)) key) ≡ has (group_name g) key (sections_of Iwd file)
  value_given g q key = group_given Iwd name file (asked_reading (reading Iwd name file) a).1.1 (group_name g) q key

  string_given : (group key : List ℕ) →
      nonzero (entry_line (iwd_entry (sections_of Iwd file) group key)) ≡ has group key (sections_of Iwd file)
  string_given group key =
      line_given_lem (iwd_entry (sections_of Iwd file) group key) (group_line Iwd file group key)
      ∙ entry_given key (entries_in group (sections_of Iwd file))

  pub iwd_settings_given : IwdGiven (sections_of Iwd file) (iwd_answered name file).settings
  unfolding group_of keys_of at
  iwd_settings_given =
      rw a
      (record {
        auto_connect_lem = value_given Settings refl (word "AutoConnect");
        hidden = value_given Settings refl (word "Hidden");
        always_randomize = value_given Settings refl (word "AlwaysRandomizeAddress");
        address_override_lem = value_given Settings refl (word "AddressOverride");
        passphrase = string_given (word "Security") (word "Passphrase");
        pre_shared_key_lem = value_given Security refl (word "PreSharedKey");
        address = value_given Ipv4 refl (word "Address");
        gateway = value_given Ipv4 refl (word "Gateway");
        broadcast = value_given Ipv4 refl (word "Broadcast");
        netmask = value_given Ipv4 refl (word "Netmask");
        netmask_length_lem = netmask_given (at (word "IPv4") (word "Netmask")) ∙ value_given Ipv4 refl (word "Netmask");
        dns = addresses_given Spaces (at (word "IPv4") (word "DNS")) ∙ value_given Ipv4 refl (word "DNS");
        domain_name_lem = string_given (word "IPv4") (word "DomainName");
        send_hostname_lem = value_given Ipv4 refl (word "SendHostname");
        enabled = value_given Ipv6 refl (word "Enabled");
        ipv6_address_lem = mapped_given with_length_laid (group_value Ipv6 at (word "Address")) ∙ value_given Ipv6 refl (word "Address");
        ipv6_gateway_lem = value_given Ipv6 refl (word "Gateway");
      })

-- ---- a service

module _ (name file : List ℕ) (w : ℕ) (a : asked_of w (reading ConnMan name file) ≡ Ok tt) where
  of : List ℕ → Option Entry
  of k = entry_of k (service_at w (sections_of ConnMan file))

  key_value_given : (key : List ℕ) →
      is_some (value_of Service (λ k. entry_of k (service_at w (sections_of ConnMan file))) key) ≡ given key (service_at w (sections_of ConnMan file))
  key_value_given key = service_given name file (asked_service w (reading ConnMan name file) a).is w key

  key_string_given : (key : List ℕ) →
      nonzero (entry_line (entry_of key (service_at w (sections_of ConnMan file)))) ≡ given key (service_at w (sections_of ConnMan file))
  key_string_given key =
      line_given_lem (entry_of key (service_at w (sections_of ConnMan file))) (service_line ConnMan file w key)
      ∙ entry_given key (service_at w (sections_of ConnMan file))

  pub service_settings_given : ServiceGiven (service_at w (sections_of ConnMan file)) (service_answered name file w).settings
  unfolding keys_of of
  service_settings_given =
      rw a
      (record {
        service_type_lem = key_value_given (word "Type");
        name = key_string_given (word "Name");
        ssid = mapped_given (bounded 32) (value_of Service of (word "SSID")) ∙ key_value_given (word "SSID");
        passphrase = key_string_given (word "Passphrase");
        security = key_value_given (word "Security");
        hidden = key_value_given (word "Hidden");
        ipv4 = mapped_given (numbers_laid 4) (value_of Service of (word "IPv4")) ∙ key_value_given (word "IPv4");
        ipv6 = mapped_given (numbers_laid 16) (value_of Service of (word "IPv6")) ∙ key_value_given (word "IPv6");
        privacy = key_value_given (word "IPv6.Privacy");
        mac = key_value_given (word "MAC");
        nameservers = addresses_given Comma (of (word "Nameservers")) ∙ key_value_given (word "Nameservers");
        search_domains_lem = mapped_given (entries_laid (entry_start (of (word "SearchDomains")))) (value_of Service of (word "SearchDomains")) ∙ key_value_given (word "SearchDomains");
        search_domains_count = entries_given (entry_start (of (word "SearchDomains"))) (of (word "SearchDomains")) ∙ key_value_given (word "SearchDomains");
        timeservers = mapped_given (entries_laid (entry_start (of (word "Timeservers")))) (value_of Service of (word "Timeservers")) ∙ key_value_given (word "Timeservers");
        timeservers_count = entries_given (entry_start (of (word "Timeservers"))) (of (word "Timeservers")) ∙ key_value_given (word "Timeservers");
        domain = key_string_given (word "Domain");
      })
