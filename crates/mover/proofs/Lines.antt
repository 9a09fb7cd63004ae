-- The lines that have no place in iwd, by the keys of a service's row: one law for each return.
use Rattle.std.specs.Prelude.{ℕ, ◌≡◌, refl, Bool, true, false, not, List, ◌++◌, is_some, Option, None, Some}
use Rattle.std.specs.Bool.{then_some}
use Rattle.std.proofs.Common.{ap, ap₂, sym, ◌∙◌, append_assoc}
use Rattle.text.specs.Words.{word}
use Rattle.text.specs.declared.Dialect.TheVariants.{ConnMan}
use Rattle.named_words.specs.NamedWords.{word_of}
use Rattle.connman_ipv4.specs.ConnmanIpv4.{ipv4}
use Rattle.addressing.specs.Addressing.{Addressing, method_of, address_of, length_of, has_gateway_of, gateway_of, addressing_in, or_auto}
use Rattle.addressing.specs.Numbers.{numbers_laid}
use Rattle.addressing.specs.declared.Method.{Method}
use Rattle.addressing.specs.declared.Numbers.{Numbers}
use Rattle.ipv6_values.specs.Ipv6Values.{connman_ipv6}
use Rattle.records.specs.PartLaws.{addressing_joined}
use Rattle.named_words.specs.declared.Word.TheVariants as W
use Rattle.named_words.specs.declared.WordList.TheVariants as L
use Rattle.rules.specs.Tables.{keys_of}
use Rattle.rules.specs.Sections.{Entry, entry_of}
use Rattle.rules.specs.WordNumbers.{is_word}
use Rattle.rules.specs.Asking.{read_as}
use Rattle.rules.specs.declared.Group.TheVariants as G
use Rattle.places.specs.Keys.{key_group, key_word as name_of, key_kind}
use Rattle.places.specs.Holds.{SlotKeeps, RowKeeps}
use Rattle.places.specs.KeySlots.{key_slot, slot_is}
use Rattle.places.specs.declared.KeyName.{KeyName}
use Rattle.places.specs.declared.KeyName.TheVariants as N
use Rattle.places.proofs.RowKeys.{row_key, taken_given}
use Rattle.places.proofs.RowLaws.{given_entry}
use Rattle.values.specs.Rows.{RowGives}
use Rattle.values.proofs.KeptValues.{ipv4_none, connman_ipv6_none, row_read, row_word}
use Rattle.written.specs.Written.{ipv4_placed, ipv6_placed}
use Rattle.written.specs.RecordParts.{PlacedBy}
use Rattle.joins.specs.Joins.{wired, foreign_security, foreign, service_join}
use Rattle.joins.specs.Places.{foreign_at, service_ipv4_at, service_ipv6_at}
use Rattle.joins.proofs.Choosing.{row_foreign}
use Rattle.mover.specs.Moves.{line_if, line_given, unplaced, earliest}
use Rattle.mover.specs.Places.{earlier_of, slot_line, given_slots, given_lines, ipv6_lines, ipv4_lines}

-- ---- lines

-- one in front of others
front_line : (b : Bool) (e : Option Entry) (ls : List ℕ) → earliest (line_if b e ++ ls) ≡ earlier_of (earliest (line_if b e)) (earliest ls)
front_line true e ls = refl
front_line false e ls = refl

given_front : (e : Option Entry) (ls : List ℕ) → earliest (line_given e ++ ls) ≡ earlier_of (earliest (line_given e)) (earliest ls)
given_front None ls = refl
given_front (Some x) ls = refl

-- ---- a setting by its key

module _ {file x : List ℕ} {b : ℕ} (k : KeyName) {es : List Entry} (h : RowKeeps ConnMan file x b (key_group k) es) where
  -- where a test of it holds, and where not
  row_where : (test : Option Entry → Bool) → test None ≡ false → {t : Bool} → t ≡ test (entry_of (name_of k) es) → {r : Option ℕ} → r ≡ then_some t (key_slot x b k).line → r ≡ earliest (line_if (test (entry_of (name_of k) es)) (entry_of (name_of k) es))
  row_where test z e p = p ∙ ap (λ (u : Bool). then_some u (key_slot x b k).line) e ∙ go (entry_of (name_of k) es) (row_key k h)
    where
      go : (o : Option Entry) → SlotKeeps ConnMan (Some (key_kind k)) file (key_slot x b k) o → then_some (test o) (key_slot x b k).line ≡ earliest (line_if (test o) o)
      go None q = rw z
      go (Some e) q = pick (test (Some e))
        where
          pick : (u : Bool) → then_some u (key_slot x b k).line ≡ earliest (line_if u (Some e))
          pick true = ap Some q.line
          pick false = refl

  row_given : slot_line x b k ≡ earliest (line_given (entry_of (name_of k) es))
  row_given = row_where is_some refl (taken_given k h ∙ given_entry (name_of k) es) refl

-- ---- the tests

abbrev wired_by : Option Entry → Bool
wired_by o = is_word W.Ethernet (read_as (word_of L.ServiceType) o)

abbrev foreign_by : Option Entry → Bool
foreign_by o = foreign_security (read_as (word_of L.Security) o)

-- whether iwd has a place, place saying so, for what a family's reader gives, by what is read of it
abbrev lost_by : (Addressing → Bool) → (List ℕ → Option Addressing) → Option Entry → Bool
lost_by place read o = not (place (or_auto (read_as read o)))

placed_read : (place : Addressing → Bool) (o : Option Addressing) {m : Method} {h p : Bool} → m ≡ method_of (or_auto o) → h ≡ has_gateway_of (or_auto o) → PlacedBy place m h p → p ≡ place (or_auto o)
placed_read place o e f b =
    b.is (address_of 0 (or_auto o)) (length_of (or_auto o)) (gateway_of 0 (or_auto o))
    ∙ ap₂ (λ (m : Method) (h : Bool). place (addressing_in m (address_of 0 (or_auto o)) (length_of (or_auto o)) h (gateway_of 0 (or_auto o)))) e f
    ∙ ap place (addressing_joined 0 (or_auto o))

module _ {file x : List ℕ} {b : ℕ} {es : List Entry} (h : RowKeeps ConnMan file x b G.Service es) where
  ipv4_lost : {i : Numbers 4} {p : Bool} → i ≡ service_ipv4_at file x b → PlacedBy ipv4_placed i.method i.has_gateway p → not p ≡ lost_by ipv4_placed ipv4 (entry_of (word "IPv4") es)
  unfolding keys_of
  ipv4_lost q t =
      let o = q ∙ ap (λ (o : Option Addressing). numbers_laid 4 (or_auto o)) (row_read N.Ipv4 h ipv4 ipv4_none) in
      ap not (placed_read ipv4_placed (read_as ipv4 (entry_of (word "IPv4") es)) (ap (λ (v : Numbers 4). v.method) o) (ap (λ (v : Numbers 4). v.has_gateway) o) t)

  ipv6_lost : {i : Numbers 16} {p : Bool} → i ≡ service_ipv6_at file x b → PlacedBy ipv6_placed i.method i.has_gateway p → not p ≡ lost_by ipv6_placed connman_ipv6 (entry_of (word "IPv6") es)
  unfolding keys_of
  ipv6_lost q t =
      let o = q ∙ ap (λ (o : Option Addressing). numbers_laid 16 (or_auto o)) (row_read N.Ipv6 h connman_ipv6 connman_ipv6_none) in
      ap not (placed_read ipv6_placed (read_as connman_ipv6 (entry_of (word "IPv6") es)) (ap (λ (v : Numbers 16). v.method) o) (ap (λ (v : Numbers 16). v.has_gateway) o) t)

-- ---- all lines

-- the earlier of a line and of what is earliest behind it
then_earlier : {a b r o p : Option ℕ} → r ≡ earlier_of a b → a ≡ o → b ≡ p → r ≡ earlier_of o p
then_earlier e q t = e ∙ ap₂ earlier_of q t

-- the lists of the list, each in front of all behind it
nested : (a b c d e f g k : List ℕ) → a ++ b ++ c ++ d ++ e ++ f ++ g ++ k ≡ a ++ (b ++ (c ++ (d ++ (e ++ (f ++ (g ++ k))))))
nested a b c d e f g k = simp append_assoc

abbrev security_lines : (List ℕ → Option Entry) → List ℕ
security_lines at = line_if (foreign at) (at (word "Security")) ++ ipv4_lines at

unplaced_nested : (at : List ℕ → Option Entry) → line_if (wired at) (at (word "Type")) ++ security_lines at ≡ unplaced at
unplaced_nested at = sym (nested (line_if (wired at) (at (word "Type"))) (line_if (foreign at) (at (word "Security"))) (line_if (not (ipv4_placed (service_join at).ipv4)) (at (word "IPv4"))) (line_if (not (ipv6_placed (service_join at).ipv6)) (at (word "IPv6"))) (line_given (at (word "MAC"))) (line_given (at (word "IPv6.Privacy"))) (line_given (at (word "SearchDomains"))) (line_given (at (word "Timeservers"))))

module _ {file x : List ℕ} {b : ℕ} {es : List Entry} (h : RowKeeps ConnMan file x b G.Service es) where
  row_others : {g : Option ℕ} → g ≡ given_slots x b → g ≡ earliest (given_lines (λ k. entry_of k es))
  unfolding keys_of
  row_others a =
      let late = line_given (entry_of (word "SearchDomains") es) ++ line_given (entry_of (word "Timeservers") es) in
      a
      ∙ ap₂ earlier_of (row_given N.Mac h) (ap₂ earlier_of (row_given N.Privacy h) (ap₂ earlier_of (row_given N.SearchDomains h) (row_given N.Timeservers h) ∙ sym (given_front (entry_of (word "SearchDomains") es) (line_given (entry_of (word "Timeservers") es)))) ∙ sym (given_front (entry_of (word "IPv6.Privacy") es) late))
      ∙ sym (given_front (entry_of (word "MAC") es) (line_given (entry_of (word "IPv6.Privacy") es) ++ late))

  row_ipv6 : {g p m : Option ℕ} {i : Numbers 16} {u : Bool} → g ≡ given_slots x b → i ≡ service_ipv6_at file x b → PlacedBy ipv6_placed i.method i.has_gateway u → p ≡ then_some (not u) (key_slot x b N.Ipv6).line → m ≡ earlier_of p g → m ≡ earliest (ipv6_lines (λ k. entry_of k es))
  unfolding keys_of
  row_ipv6 a q t l e = then_earlier e (row_where N.Ipv6 h (lost_by ipv6_placed connman_ipv6) refl (ipv6_lost h q t) l) (row_others a) ∙ sym (front_line (lost_by ipv6_placed connman_ipv6 (entry_of (word "IPv6") es)) (entry_of (word "IPv6") es) (given_lines (λ k. entry_of k es)))

  row_ipv4 : {m p n : Option ℕ} {i : Numbers 4} {u : Bool} → m ≡ earliest (ipv6_lines (λ k. entry_of k es)) → i ≡ service_ipv4_at file x b → PlacedBy ipv4_placed i.method i.has_gateway u → p ≡ then_some (not u) (key_slot x b N.Ipv4).line → n ≡ earlier_of p m → n ≡ earliest (ipv4_lines (λ k. entry_of k es))
  unfolding keys_of
  row_ipv4 a q t l e = then_earlier e (row_where N.Ipv4 h (lost_by ipv4_placed ipv4) refl (ipv4_lost h q t) l) a ∙ sym (front_line (lost_by ipv4_placed ipv4 (entry_of (word "IPv4") es)) (entry_of (word "IPv4") es) (ipv6_lines (λ k. entry_of k es)))

  row_security : {m s n : Option ℕ} {t : Bool} → m ≡ earliest (ipv4_lines (λ k. entry_of k es)) → t ≡ foreign_at x b → s ≡ then_some t (key_slot x b N.Security).line → n ≡ earlier_of s m → n ≡ earliest (security_lines (λ k. entry_of k es))
  unfolding keys_of
  row_security a t l e = then_earlier e (row_where N.Security h foreign_by refl (t ∙ row_foreign h) l) a ∙ sym (front_line (foreign (λ k. entry_of k es)) (entry_of (word "Security") es) (ipv4_lines (λ k. entry_of k es)))

  row_unplaced : {n t r : Option ℕ} {w : Bool} → n ≡ earliest (security_lines (λ k. entry_of k es)) → w ≡ slot_is x b N.Type W.Ethernet → t ≡ then_some w (key_slot x b N.Type).line → r ≡ earlier_of t n → r ≡ earliest (unplaced (λ k. entry_of k es))
  unfolding keys_of
  row_unplaced a t l e = then_earlier e (row_where N.Type h wired_by refl (t ∙ row_word N.Type h L.ServiceType refl W.Ethernet) l) a ∙ sym (front_line (wired (λ k. entry_of k es)) (entry_of (word "Type") es) (security_lines (λ k. entry_of k es))) ∙ ap earliest (unplaced_nested (λ k. entry_of k es))

pub number_lines_lem : {file x : List ℕ} {b : ℕ} {g p m q r : Option ℕ} {i : Numbers 16} {u : Bool} {j : Numbers 4} {v : Bool} → g ≡ given_slots x b → i ≡ service_ipv6_at file x b → PlacedBy ipv6_placed i.method i.has_gateway u → p ≡ then_some (not u) (key_slot x b N.Ipv6).line → m ≡ earlier_of p g → j ≡ service_ipv4_at file x b → PlacedBy ipv4_placed j.method j.has_gateway v → q ≡ then_some (not v) (key_slot x b N.Ipv4).line → r ≡ earlier_of q m → RowGives ConnMan file x b G.Service (λ at. earliest (ipv4_lines at)) r
number_lines_lem a i u p e j v q f = record { is = λ es h. row_ipv4 h (row_ipv6 h a i u p e) j v q f }

pub all_lines : {file x : List ℕ} {b : ℕ} {m s n t r : Option ℕ} {f w : Bool} → RowGives ConnMan file x b G.Service (λ at. earliest (ipv4_lines at)) m → f ≡ foreign_at x b → s ≡ then_some f (key_slot x b N.Security).line → n ≡ earlier_of s m → w ≡ slot_is x b N.Type W.Ethernet → t ≡ then_some w (key_slot x b N.Type).line → r ≡ earlier_of t n → RowGives ConnMan file x b G.Service (λ at. earliest (unplaced at)) r
all_lines a f s q w t z = record { is = λ es h. row_unplaced h (row_security h (a.is es h) f s q) w t z }
