-- Every join record that is answered is well-formed: of an iwd file, and of a ConnMan service.
use Rattle.std.specs.Prelude.{ℕ, ◌≤◌, ◌≡◌, Bool, true, false, cond, not, ◌&&◌, ◌||◌, List, Option, None, Some}
use Rattle.std.proofs.Common.{arith, ap, sym, ◌∙◌, subst, true≢false}
use Rattle.std.proofs.Math.Path.{refl}
use Rattle.std.proofs.lemmas.Option.{none-some}
use Rattle.text.specs.Words.{word, same}
use Rattle.text.specs.Options.{is_some, and_then, mapped, or_else, only, or_empty}
use Rattle.text.specs.OptionLaws.{IfSome, sized_some}
use Rattle.text.specs.declared.Dialect.TheVariants as D
use Rattle.utf8.specs.Utf8.{utf8_from, text, value_text}
use Rattle.escapes.specs.Escapes.{unescape}
use Rattle.addresses.specs.Addresses.{address, is_address, netmask, addresses}
use Rattle.addresses.specs.declared.Separator.{Separator}
use Rattle.addresses.specs.declared.Separator.TheVariants.{Spaces, Comma}
use Rattle.hex_values.specs.HexValues as HexValues
use Rattle.kinds.specs.Kinds as K
use Rattle.named_words.specs.NamedWords.{flag, word_of}
use Rattle.connman_ipv4.specs.ConnmanIpv4.{ipv4}
use Rattle.addressing.specs.Addressing.{Addressing, Good, or_auto}
use Rattle.ipv6.specs.Ipv6.{ipv6, is_ipv6}
use Rattle.ipv6.specs.Laws.{ipv6_bytes}
use Rattle.ipv6_values.specs.Ipv6Values.{connman_ipv6, WithLength, with_length}
use Rattle.ipv6_values.specs.Laws.{GoodWithLength, connman_ipv6_good, with_length_good}
use Rattle.hex_values.specs.HexValues.{ssid}
use Rattle.kinds.specs.Kinds.{string}
use Rattle.kinds.specs.Typed as T
use Rattle.kinds.specs.Typed.{typed}
use Rattle.addresses.specs.Laws.{address_bytes_lem, addresses_good}
use Rattle.utf8.specs.ByteLaws.{text_bytes}
use Rattle.escapes.specs.TextLaws.{unescape_text}
use Rattle.addresses.specs.MaskRuleLaws.{netmask_good}
use Rattle.connman_ipv4.specs.Laws.{ipv4_good}
use Rattle.hex_values.specs.Laws.{pre_shared_key_size, ssid_size}
use Rattle.kinds.proofs.ValueRuleLaws.{string_size}
use Rattle.kinds.specs.declared.Kind.TheVariants as Kind
use Rattle.named_words.specs.declared.Word.{Word}
use Rattle.named_words.specs.declared.Word.TheVariants as W
use Rattle.named_words.specs.declared.WordList.TheVariants as L
use Rattle.names.specs.Names.{NetworkName, Network, network_of}
use Rattle.names.specs.Laws.{network_bytes}
use Rattle.rules.specs.Tables.{group_of, keys_of}
use Rattle.rules.specs.Sections.{Entry, given, entry_of}
use Rattle.rules.specs.WordNumbers.{is_word}
use Rattle.rules.specs.Groups.{type_is, security_is, lacks}
use Rattle.rules.specs.Reading.{Name, iwd_name, sections_of, reading}
use Rattle.rules.specs.Asking.{iwd_entry, service_at, read_as, entry_line, asked}
use Rattle.rules.proofs.Acceptance.{accepted_obeys}
use Rattle.rules.specs.GoodAnswers.{asked_reading}
use Rattle.rules.proofs.GoodValues.{GoodValue, group_value_lem, service_value}
use Rattle.rules.proofs.GivenValues.{read_holds, entry_given}
use Rattle.records.specs.Record.{Join}
use Rattle.records.specs.Formed.{GoodPassphrase, GoodKey, GoodSecret, GoodIpv4, GoodIpv6, GoodServers, GoodDomain, WellFormed}
use Rattle.joins.specs.Joins.{joined, secret_from, static_or_dhcp, static_or_auto, unless_off, name_from, iwd_ipv6, iwd_join, service_join, wired, foreign, no_record, network_name, iwd_joined, service_setting, service_joined}
use Rattle.joins.specs.Joining.{or_false_lem, joined_good, service_joining}
use Rattle.rules.specs.Answering.{accepted_with}

-- ---- what is read from a setting

string_of : (low high : ℕ) (v : List ℕ) {t : List ℕ} → string low high v ≡ Some t →
    unescape v ≡ Some t
unfolding string
string_of low high v e = (sized_some low high (unescape v) e).1

good_passphrase : (v : List ℕ) {p : List ℕ} → value_text v ≡ true → K.passphrase v ≡ Some p →
    GoodPassphrase p
good_passphrase v h e =
    let s = string_size 8 63 v e in
    record { low = s.0; high = s.1; text = unescape_text v h (string_of 8 63 v e) }

good_key : (v : List ℕ) {k : List ℕ} → HexValues.pre_shared_key_of v ≡ Some k → GoodKey k
good_key v e = let s = pre_shared_key_size v e in record { long = s.0; bytes = s.1 }

good_domain : (v : List ℕ) {t : List ℕ} → value_text v ≡ true → string 1 253 v ≡ Some t → GoodDomain t
good_domain v h e = record { high = (string_size 1 253 v e).1; text = unescape_text v h (string_of 1 253 v e) }

-- ---- the parts of a record, of what is read

secret_formed : (p k : Option (List ℕ)) → IfSome GoodPassphrase p → IfSome GoodKey k → GoodSecret (secret_from p k)
secret_formed (Some p) k g h = g
secret_formed None (Some k) g h = h
secret_formed None None g h = tt

static_formed : (a : Option (List ℕ)) (m : Option ℕ) (g : Option (List ℕ)) → IfSome (λ x. is_address x ≡ true) a →
    IfSome (λ n. (1 ≤ n) × (n ≤ 32)) m → IfSome (λ x. is_address x ≡ true) g → GoodIpv4 (static_or_dhcp a m g)
static_formed None m g x y z = tt
static_formed (Some a) None g x y z = record { address = x; low = omega arith; high = omega arith; gateway = z }
static_formed (Some a) (Some n) g x y z = record { address = x; low = y.0; high = y.1; gateway = z }

servers_formed_lem : (o : Option (List (List ℕ))) → IfSome GoodServers o → GoodServers (or_empty o)
servers_formed_lem None h = record { high = omega arith; addresses = refl }
servers_formed_lem (Some l) h = h

good_servers : (sep : Separator) (at : Option Entry) → GoodServers (or_empty (read_as (addresses sep) at))
good_servers sep at =
    servers_formed_lem (read_as (addresses sep) at) (read_holds GoodServers (addresses sep) at (λ e q x r. let h = addresses_good sep e.value r in record { high = h.1; addresses = h.2 }))

domain_formed_lem : (o : Option (List ℕ)) → IfSome GoodDomain o → GoodDomain (or_empty o)
unfolding text utf8_from
domain_formed_lem None h = record { high = omega arith; text = refl }
domain_formed_lem (Some d) h = h

-- a passphrase and a domain of either format, their text being whole
module _ (o : Option Entry) (whole : (e : Entry) → o ≡ Some e → value_text e.value ≡ true) where
  read_passphrase : IfSome GoodPassphrase (read_as K.passphrase o)
  read_passphrase = read_holds GoodPassphrase K.passphrase o (λ e q x r. good_passphrase e.value (whole e q) r)

  read_domain : GoodDomain (or_empty (read_as (string 1 253) o))
  read_domain =
      domain_formed_lem (read_as (string 1 253) o)
      (read_holds GoodDomain (string 1 253) o (λ e q x r. good_domain e.value (whole e q) r))

-- ---- an iwd file

network_formed : (name : List ℕ) (o : Option Network) → network_of name ≡ o → {k : Name} →
    mapped (λ x. iwd_name x.suffix) o ≡ Some k → NetworkName (network_name o)
network_formed name None q {k} e = absurd (none-some k e)
network_formed name (Some x) q e = network_bytes name q

-- of an accepted file
module _ (name file : List ℕ) {n m : ℕ} (a : reading D.Iwd name file ≡ accepted_with n m) where
  iwd_secret_formed : GoodSecret (iwd_join (network_name (network_of name)) (iwd_entry (sections_of D.Iwd file))).credential
  unfolding group_of keys_of
  iwd_secret_formed =
      let at = iwd_entry (sections_of D.Iwd file) (word "Security") in
      secret_formed (read_as K.passphrase (at (word "Passphrase"))) (read_as HexValues.pre_shared_key_of (at (word "PreSharedKey")))
      (read_passphrase (at (word "Passphrase")) (λ e q. (group_value_lem D.Iwd name file a (word "Security") (word "Passphrase") refl refl q).text))
      (read_holds GoodKey HexValues.pre_shared_key_of (at (word "PreSharedKey")) (λ e q x r. good_key e.value r))

  iwd_domain_formed : GoodDomain (iwd_join (network_name (network_of name)) (iwd_entry (sections_of D.Iwd file))).domain
  unfolding group_of keys_of
  iwd_domain_formed =
      read_domain (iwd_entry (sections_of D.Iwd file) (word "IPv4") (word "DomainName"))
      (λ e q. (group_value_lem D.Iwd name file a (word "IPv4") (word "DomainName") refl refl q).text)

address_formed : (at : Option Entry) → IfSome (λ x. is_address x ≡ true) (read_as address at)
address_formed at = read_holds (λ (x : List ℕ). is_address x ≡ true) address at (λ e q x r. address_bytes_lem e.value r)

iwd_ipv4_formed : (at : List ℕ → Option Entry) →
    GoodIpv4 (static_or_dhcp (read_as address (at (word "Address"))) (read_as netmask (at (word "Netmask"))) (read_as address (at (word "Gateway"))))
iwd_ipv4_formed at =
    static_formed (read_as address (at (word "Address"))) (read_as netmask (at (word "Netmask"))) (read_as address (at (word "Gateway")))
    (address_formed (at (word "Address")))
    (read_holds (λ (n : ℕ). (1 ≤ n) × (n ≤ 32)) netmask (at (word "Netmask")) (λ e q x r. netmask_good e.value r))
    (address_formed (at (word "Gateway")))

unless_off_formed : (o : Option Bool) (i : Addressing) → GoodIpv6 i → GoodIpv6 (unless_off o i)
unless_off_formed None i h = h
unless_off_formed (Some true) i h = h
unless_off_formed (Some false) i h = tt

fixed_formed : (a : Option WithLength) (g : Option (List ℕ)) → IfSome GoodWithLength a → IfSome (λ x. is_ipv6 x ≡ true) g →
    GoodIpv6 (static_or_auto a g)
fixed_formed None g x y = tt
fixed_formed (Some a) g x y = record { address = x.address; low = x.low; high = x.high; gateway = y }

iwd_ipv6_formed : (at : List ℕ → Option Entry) → GoodIpv6 (iwd_ipv6 at)
unfolding keys_of
iwd_ipv6_formed at =
    unless_off_formed (read_as (flag D.Iwd) (at (word "Enabled"))) (static_or_auto (read_as with_length (at (word "Address"))) (read_as ipv6 (at (word "Gateway"))))
    (fixed_formed (read_as with_length (at (word "Address"))) (read_as ipv6 (at (word "Gateway")))
    (read_holds GoodWithLength with_length (at (word "Address")) (λ e q x r. with_length_good e.value r))
    (read_holds (λ (x : List ℕ). is_ipv6 x ≡ true) ipv6 (at (word "Gateway")) (λ e q x r. ipv6_bytes e.value x r)))

pub iwd_formed : (name file : List ℕ) {j : Join} → iwd_joined name file ≡ joined j → WellFormed j
unfolding keys_of
iwd_formed name file a =
    let h = joined_good (asked (reading D.Iwd name file)) None (iwd_join (network_name (network_of name)) (iwd_entry (sections_of D.Iwd file))) a in
    let r = (asked_reading (reading D.Iwd name file) h.0).1.1 in
    subst WellFormed h.1 (
    record {
      name = network_formed name (network_of name) refl (accepted_obeys D.Iwd name file r).named;
      credential = iwd_secret_formed name file r;
      ipv4 = iwd_ipv4_formed (iwd_entry (sections_of D.Iwd file) (word "IPv4"));
      servers = good_servers Spaces (iwd_entry (sections_of D.Iwd file) (word "IPv4") (word "DNS"));
      domain = iwd_domain_formed name file r;
      ipv6 = iwd_ipv6_formed (iwd_entry (sections_of D.Iwd file) (word "IPv6"));
    }
    )

-- ---- a service of a ConnMan file: what its group has

mapped_some : {A B : Type 0} (f : A → B) (o : Option A) {b : B} → mapped f o ≡ Some b → (a : A) × (o ≡ Some a)
mapped_some f None {b} e = absurd (none-some b e)
mapped_some f (Some a) e = (a, refl)

-- a key without a setting is not given
not_given : (k : List ℕ) (es : List Entry) → entry_of k es ≡ None → given k es ≡ false
not_given k es e = sym (entry_given k es) ∙ ap is_some e

-- a service that is not ethernet is wifi
wifi_word : (v : List ℕ) {w : Word} → word_of L.ServiceType v ≡ Some w → is_word W.Ethernet (Some w) ≡ false →
    is_word W.Wifi (Some w) ≡ true
unfolding word_of
wifi_word v {w} e h = go (same v (word "wifi")) (same v (word "ethernet")) e
  where
    go : (b c : Bool) → cond b (Some W.Wifi) (cond c (Some W.Ethernet) None) ≡ Some w → is_word W.Wifi (Some w) ≡ true
    go true c e = sym (ap (is_word W.Wifi) e)
    go false true e = absurd (true≢false (ap (is_word W.Ethernet) e ∙ h))
    go false false e = absurd (none-some w e)

-- so it has a name: of a group that lacks nothing, with a Type that is read
has_name : (es : List Entry) → lacks es ≡ false →
    ((e : Entry) → entry_of (word "Type") es ≡ Some e → (w : Word) × (word_of L.ServiceType e.value ≡ Some w)) →
    wired (λ k. entry_of k es) ≡ false → entry_of (word "SSID") es ≡ None → entry_of (word "Name") es ≡ None → ⊥
unfolding keys_of
has_name es h t r s n = go (entry_of (word "Type") es) refl
  where
    parts : (not (given (word "Type") es) ≡ false) × ((type_is W.Wifi es && not (given (word "Name") es || given (word "SSID") es)) || (security_is W.Psk es && not (given (word "Passphrase") es)) ≡ false)
    parts =
        or_false_lem (not (given (word "Type") es)) ((type_is W.Wifi es && not (given (word "Name") es || given (word "SSID") es)) || (security_is W.Psk es && not (given (word "Passphrase") es))) h

    unnamed : type_is W.Wifi es && not (given (word "Name") es || given (word "SSID") es) ≡ false
    unnamed =
        (or_false_lem (type_is W.Wifi es && not (given (word "Name") es || given (word "SSID") es)) (security_is W.Psk es && not (given (word "Passphrase") es)) parts.1).0

    go : (o : Option Entry) → entry_of (word "Type") es ≡ o → ⊥
    go None q = true≢false (sym (ap not (not_given (word "Type") es q)) ∙ parts.0)
    go (Some e) q =
        let w = t e q in
        let v : is_word W.Wifi (Some w.0) ≡ true = wifi_word e.value w.1 (sym (ap (λ (o : Option Entry). is_word W.Ethernet (read_as (word_of L.ServiceType) o)) q ∙ ap (is_word W.Ethernet) w.1) ∙ r) in
        let y : type_is W.Wifi es ≡ true = ap (λ (o : Option Entry). is_word W.Wifi (and_then o (λ x. word_of L.ServiceType x.value))) q ∙ ap (is_word W.Wifi) w.1 ∙ v in
        let z : (given (word "Name") es || given (word "SSID") es) ≡ false = ap (λ (b : Bool). b || given (word "SSID") es) (not_given (word "Name") es n) ∙ not_given (word "SSID") es s in
        true≢false (sym (ap (λ (b : Bool). b && not (given (word "Name") es || given (word "SSID") es)) y ∙ ap not z) ∙ unnamed)

-- ---- the name of a service

ssid_name : (v : List ℕ) {s : List ℕ} → ssid v ≡ Some s → NetworkName s
ssid_name v e = let h = ssid_size v e in record { low = h.0; high = h.1; bytes = h.2 }

text_name : (v : List ℕ) {t : List ℕ} → value_text v ≡ true → string 1 32 v ≡ Some t → NetworkName t
text_name v {t} h e =
    let s = string_size 1 32 v e in
    record { low = s.0; high = s.1; bytes = text_bytes t (unescape_text v h (string_of 1 32 v e)) }

reads_ssid : (v : List ℕ) → GoodValue D.ConnMan Kind.Ssid v → (s : List ℕ) × (ssid v ≡ Some s)
unfolding typed
reads_ssid v g = mapped_some T.bytes (ssid v) g.reads

reads_name : (v : List ℕ) → GoodValue D.ConnMan (Kind.Text 1 32) v → (s : List ℕ) × (string 1 32 v ≡ Some s)
unfolding typed
reads_name v g = mapped_some T.bytes (string 1 32 v) g.reads

reads_type : (v : List ℕ) → GoodValue D.ConnMan (Kind.Named L.ServiceType) v →
    (w : Word) × (word_of L.ServiceType v ≡ Some w)
unfolding typed
reads_type v g = mapped_some T.word (word_of L.ServiceType v) g.reads

name_formed : (s n : Option Entry) → ((e : Entry) → s ≡ Some e → GoodValue D.ConnMan Kind.Ssid e.value) →
    ((e : Entry) → n ≡ Some e → GoodValue D.ConnMan (Kind.Text 1 32) e.value) → (s ≡ None → n ≡ None → ⊥) →
    NetworkName (name_from (read_as ssid s) (read_as (string 1 32) n))
name_formed (Some e) n f g h =
    let r = reads_ssid e.value (f e refl) in
    subst (λ (o : Option (List ℕ)). NetworkName (name_from o (read_as (string 1 32) n))) (sym r.1) (ssid_name e.value r.1)
name_formed None (Some e) f g h =
    let r = reads_name e.value (g e refl) in
    subst (λ (o : Option (List ℕ)). NetworkName (name_from None o)) (sym r.1) (text_name e.value (g e refl).text r.1)
name_formed None None f g h = absurd (h refl refl)

-- ---- the other parts

or_auto_formed : (width most : ℕ) (o : Option Addressing) → IfSome (Good width most) o → Good width most (or_auto o)
or_auto_formed width most None h = tt
or_auto_formed width most (Some i) h = h

service_ipv4_formed : (at : Option Entry) → GoodIpv4 (or_auto (read_as ipv4 at))
service_ipv4_formed at =
    or_auto_formed 4 32 (read_as ipv4 at) (read_holds GoodIpv4 ipv4 at (λ e q x r. ipv4_good e.value r))

service_ipv6_formed : (at : Option Entry) → GoodIpv6 (or_auto (read_as connman_ipv6 at))
service_ipv6_formed at =
    or_auto_formed 16 128 (read_as connman_ipv6 at) (read_holds GoodIpv6 connman_ipv6 at (λ e q x r. connman_ipv6_good e.value r))

-- of service w of an accepted file
module _ (name file : List ℕ) (w : ℕ) {n m : ℕ} (a : reading D.ConnMan name file ≡ accepted_with n m) where
  service_secret_formed : GoodSecret (service_join (service_setting w file)).credential
  unfolding keys_of
  service_secret_formed =
      secret_formed (read_as K.passphrase (service_setting w file (word "Passphrase"))) None
      (read_passphrase (service_setting w file (word "Passphrase")) (λ e q. (service_value D.ConnMan name file a w (word "Passphrase") refl q).text))
      tt

  service_domain_formed : GoodDomain (service_join (service_setting w file)).domain
  unfolding keys_of
  service_domain_formed =
      read_domain (service_setting w file (word "Domain"))
      (λ e q. (service_value D.ConnMan name file a w (word "Domain") refl q).text)

  service_name_formed : lacks (service_at w (sections_of D.ConnMan file)) ≡ false →
      wired (service_setting w file) ≡ false →
      NetworkName (service_join (service_setting w file)).name
  unfolding keys_of
  service_name_formed l r =
      name_formed (service_setting w file (word "SSID")) (service_setting w file (word "Name"))
      (λ e q. service_value D.ConnMan name file a w (word "SSID") refl q)
      (λ e q. service_value D.ConnMan name file a w (word "Name") refl q)
      (λ s t. has_name (service_at w (sections_of D.ConnMan file)) l (λ e q. reads_type e.value (service_value D.ConnMan name file a w (word "Type") refl q)) r s t)

-- ---- the service that is asked for

-- "Asking the record of an ethernet .. service is 16"
record_unwired : (at : List ℕ → Option Entry) → no_record at ≡ None → wired at ≡ false
record_unwired at e = go (wired at) e
  where
    go : (b : Bool) →
        or_else (only b (Some (entry_line (at (word "Type"))))) (only (foreign at) (Some (entry_line (at (word "Security"))))) ≡ None →
        b ≡ false
    go true e = absurd (none-some (entry_line (at (word "Type"))) (sym e))
    go false e = refl

pub service_formed : (name file : List ℕ) (w : ℕ) {j : Join} → service_joined name file w ≡ joined j → WellFormed j
unfolding keys_of
service_formed name file w a =
    let h = service_joining name file w a in
    subst WellFormed h.is (
    record {
      name = service_name_formed name file w h.accepted h.obeys.lacking (record_unwired (service_setting w file) h.record_given);
      credential = service_secret_formed name file w h.accepted;
      ipv4 = service_ipv4_formed (service_setting w file (word "IPv4"));
      servers = good_servers Comma (service_setting w file (word "Nameservers"));
      domain = service_domain_formed name file w h.accepted;
      ipv6 = service_ipv6_formed (service_setting w file (word "IPv6"));
    }
    )
