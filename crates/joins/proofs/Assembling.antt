-- A record from its parts is the record of the file or the service, by the rows that keep its settings.
use Prim.Native.Nat.{ℕ}
use native.Mathlib.Omega.{arith}
use mathlib.Core.Path.{◌≡◌, refl, ap, ap₂, ◌∙◌}
use mathlib.Core.Bool.{Bool}
use mathlib.Core.List.{List, []}
use Rattle.std.specs.Prelude.{Option, None}
use lib.ListN.{length}
use Rattle.text.specs.Options.{or_empty}
use Rattle.text.specs.declared.Dialect.TheVariants.{Iwd, ConnMan}
use Rattle.put.specs.Texts.{bounded}
use Rattle.put.specs.declared.Bounded.{Bounded}
use Rattle.escapes.specs.Escapes.{unescape_from}
use Rattle.addresses.specs.Addresses.{address, addresses}
use Rattle.addresses.specs.declared.Separator.TheVariants.{Spaces, Comma}
use Rattle.addressing.specs.Addressing.{Addressing, or_auto}
use Rattle.addressing.specs.Numbers.{numbers_laid}
use Rattle.addressing.specs.declared.Numbers.{Numbers}
use Rattle.connman_ipv4.specs.ConnmanIpv4.{ipv4}
use Rattle.hex_values.specs.HexValues.{ssid, pre_shared_key_of}
use Rattle.kinds.specs.Kinds.{string, passphrase}
use Rattle.ipv6.specs.Ipv6.{ipv6}
use Rattle.ipv6_values.specs.Ipv6Values.{connman_ipv6, WithLength, with_length}
use Rattle.names.specs.Names.{network_of}
use Rattle.rules.specs.Tables.{keys_of}
use Rattle.rules.specs.declared.Group.TheVariants as G
use Rattle.places.specs.History.{base}
use Rattle.places.specs.declared.KeyName.TheVariants as N
use Rattle.values.specs.Rows.{RowOf, RowGives, IwdRows}
use Rattle.values.proofs.KeptValues.{address_none, addresses_none, ipv4_none, ipv6_none, with_length_none, connman_ipv6_none, key_none, ssid_none, row_read, row_flag, row_mask, row_of}
use Rattle.records.specs.Record.{laid}
use Rattle.records.specs.declared.JoinRecord.{JoinRecord}
use Rattle.joins.specs.Joins.{secret_from, or_false, name_from, static_or_dhcp, static_or_auto, unless_off, service_join, network_name}
use Rattle.joins.specs.Answers.{login_answer}
use Rattle.joins.specs.Places.{IwdFileRows, iwd_file_join, iwd_login_at, service_login_at, service_name_at, iwd_numbers_at, domain_at, server_count_at, yes_at, iwd_ipv6_at, service_ipv4_at, service_ipv6_at, assembled}
use Rattle.joins.specs.declared.Login.{Login}

-- ---- no string reads as one from no bytes

string_none : (high : ℕ) → string 1 high [] ≡ None
unfolding string unescape_from
string_none high = refl

phrase_none : passphrase [] ≡ None
unfolding string unescape_from
phrase_none = refl

-- ---- rows

module _ {file x : List ℕ} (h : IwdFileRows file x) where
  kept : IwdRows file x
  kept = record { long = h.table.long; settings = _; rows = h.rows }

  pub general_row : RowOf Iwd file x (base G.Settings 0) G.Settings
  general_row = row_of kept (omega arith) G.Settings h.rows.general

  pub security_row : RowOf Iwd file x (base G.Security 0) G.Security
  security_row = row_of kept (omega arith) G.Security h.rows.security

  pub ipv4_row : RowOf Iwd file x (base G.Ipv4 0) G.Ipv4
  ipv4_row = row_of kept (omega arith) G.Ipv4 h.rows.ipv4

  pub ipv6_row : RowOf Iwd file x (base G.Ipv6 0) G.Ipv6
  ipv6_row = row_of kept (omega arith) G.Ipv6 h.rows.ipv6

-- ---- an iwd file

module _ (name : List ℕ) {file x : List ℕ} (h : IwdFileRows file x) where
  pub iwd_joined_lem : {n : Bounded 32} {login : Login} {hidden : Bool} {numbers : Numbers 4} {count : ℕ} {domain : Bounded 253} {i : Numbers 16} {r : JoinRecord} →
      n ≡ bounded 32 (network_name (network_of name)) → login ≡ iwd_login_at file x (base G.Security 0) →
      hidden ≡ or_false (yes_at x (base G.Settings 0) N.IwdHidden) → numbers ≡ iwd_numbers_at file x (base G.Ipv4 0) →
      count ≡ server_count_at Spaces file x (base G.Ipv4 0) N.Dns → domain ≡ domain_at file x (base G.Ipv4 0) N.DomainName →
      i ≡ iwd_ipv6_at file x (base G.Ipv6 0) → r ≡ assembled n login hidden numbers count domain i → r ≡ laid (iwd_file_join name file)
  unfolding keys_of
  iwd_joined_lem p q s t u v w e =
      e
      ∙ rw (
        p,
        q ∙ ap₂ (λ (a b : Option (List ℕ)). login_answer (secret_from a b)) (row_read N.IwdPassphrase h.rows.security passphrase phrase_none) (row_read N.PreSharedKey h.rows.security pre_shared_key_of key_none),
        s ∙ ap or_false (row_flag N.IwdHidden h.rows.general refl),
        t,
        row_read N.Address h.rows.ipv4 address address_none,
        row_read N.Gateway h.rows.ipv4 address address_none,
        row_mask h.rows.ipv4,
        u ∙ ap (λ (o : Option (List (List ℕ))). length (or_empty o)) (row_read N.Dns h.rows.ipv4 (addresses Spaces) (addresses_none Spaces)),
        v ∙ ap (λ (o : Option (List ℕ)). bounded 253 (or_empty o)) (row_read N.DomainName h.rows.ipv4 (string 1 253) (string_none 253)),
        w,
        row_flag N.Enabled h.rows.ipv6 refl,
        row_read N.Ipv6Address h.rows.ipv6 with_length with_length_none,
        row_read N.Ipv6Gateway h.rows.ipv6 ipv6 ipv6_none,
      )

-- ---- a service

module _ {file x : List ℕ} {b : ℕ} where
  pub service_joined_lem : {n : Bounded 32} {login : Login} {hidden : Bool} {numbers : Numbers 4} {count : ℕ} {domain : Bounded 253} {i : Numbers 16} {r : JoinRecord} →
      n ≡ service_name_at file x b → login ≡ service_login_at file x b → hidden ≡ or_false (yes_at x b N.Hidden) →
      numbers ≡ service_ipv4_at file x b → count ≡ server_count_at Comma file x b N.Nameservers →
      domain ≡ domain_at file x b N.Domain → i ≡ service_ipv6_at file x b →
      r ≡ assembled n login hidden numbers count domain i → RowGives ConnMan file x b G.Service (λ at. laid (service_join at)) r
  unfolding keys_of
  service_joined_lem p q s t u v w e =
      record {
        is = λ es h.
            e
            ∙ rw (
              p ∙ ap₂ (λ (a c : Option (List ℕ)). bounded 32 (name_from a c)) (row_read N.Ssid h ssid ssid_none) (row_read N.Name h (string 1 32) (string_none 32)),
              q ∙ ap (λ (o : Option (List ℕ)). login_answer (secret_from o None)) (row_read N.Passphrase h passphrase phrase_none),
              s ∙ ap or_false (row_flag N.Hidden h refl),
              t ∙ ap (λ (o : Option Addressing). numbers_laid 4 (or_auto o)) (row_read N.Ipv4 h ipv4 ipv4_none),
              u ∙ ap (λ (o : Option (List (List ℕ))). length (or_empty o)) (row_read N.Nameservers h (addresses Comma) (addresses_none Comma)),
              v ∙ ap (λ (o : Option (List ℕ)). bounded 253 (or_empty o)) (row_read N.Domain h (string 1 253) (string_none 253)),
              w ∙ ap (λ (o : Option Addressing). numbers_laid 16 (or_auto o)) (row_read N.Ipv6 h connman_ipv6 connman_ipv6_none),
            );
      }
