-- The round trip: what is written of a well-formed record that has a place in iwd is accepted, and its record is the one that was written.
use Rattle.std.specs.Prelude.{ℕ, ◌≡◌, true, false, List, Option, None, Some, Ok}
use Rattle.std.proofs.Common.{arith, ap, ◌∙◌}
use Rattle.std.proofs.Math.Path.{refl, ap₂}
use Rattle.text.specs.Words.{word, same}
use Rattle.text.specs.Options.{is_some, and_then, mapped, or_empty}
use Rattle.text.specs.Laws.{and_true}
use Rattle.text.specs.declared.Dialect.TheVariants.{Iwd}
use Rattle.addresses.specs.Addresses.{address, netmask, addresses}
use Rattle.addresses.specs.declared.Separator.TheVariants.{Spaces}
use Rattle.ipv6.specs.Ipv6.{ipv6}
use Rattle.ipv6_values.specs.Ipv6Values.{with_length}
use Rattle.hex_values.specs.HexValues as HexValues
use Rattle.kinds.specs.Kinds as K
use Rattle.named_words.specs.NamedWords.{flag}
use Rattle.kinds.specs.Kinds.{string}
use Rattle.names.specs.Names.{network_of}
use Rattle.names.specs.Laws.{network_file_name}
use Rattle.rules.specs.Tables.{keys_of}
use Rattle.rules.specs.Sections.{Entry, Section}
use Rattle.rules.specs.Groups.{has}
use Rattle.rules.specs.Reading.{iwd_name, sections_of, reading}
use Rattle.rules.specs.Asking.{iwd_entry, read_as, asked}
use Rattle.rules.proofs.Acceptance.{Obeys, obeys_accepted}
use Rattle.rules.proofs.GoodEntries.{iwd_services}
use Rattle.records.specs.Record.{Join, laid, laid_servers}
use Rattle.records.specs.Formed.{WellFormed}
use Rattle.written.specs.Written.{number_rows, blocks_of, file_text, suffix_for, name_text, ipv4_placed, ipv6_placed, has_place}
use Rattle.written.proofs.LengthLaws.{file_short}
use Rattle.joins.specs.Joins.{Joined, joined, secret_from, or_false, iwd_secret, iwd_ipv4, iwd_ipv6, iwd_join, network_name, iwd_joined, record_answer, servers_after, iwd_record, iwd_record_servers, joined_if_good}
use Rattle.round_trip.specs.Blocks.{bare_blocks, kept, row_value, rows_in, row_count}
use Rattle.round_trip.specs.Readings.{file_obeys, file_blocks}
use Rattle.round_trip.specs.RowLookups.{read_rows, has_rows, settings_rows}
use Rattle.round_trip.specs.GoodGroups.{blocks_good, names_apart_lem, number_value, server_value, domain_value}
use Rattle.round_trip.specs.PartsRead.{hidden_rows_read, secret_rows_read, number_rows_read, server_rows_read, domain_rows_read, ipv6_rows_read, numbers_obey, ipv6_pairs, ipv6_agrees, rules_obey}
use Rattle.rules.specs.Answering.{Reading, accepted_with}

-- the groups of the file that is written
abbrev groups_of : Join → List Section
groups_of j = sections_of Iwd (file_text j)

-- ---- what the file and its name give

module _ (j : Join) (w : WellFormed j) where
  name_network : network_of (name_text j) ≡ Some (record { name = j.name; suffix = suffix_for j.credential })
  unfolding name_text
  name_network = network_file_name j.name (suffix_for j.credential) w.name

  blocks : bare_blocks (groups_of j) ≡ kept (blocks_of j)
  unfolding file_text
  blocks = file_blocks Iwd (blocks_of j) (blocks_good j w) (names_apart_lem j)

  reads : (n k : List ℕ) {A : Type 0} (f : List ℕ → Option A) →
      read_as f (iwd_entry (groups_of j) n k) ≡ and_then (row_value k (rows_in n (blocks_of j))) f
  reads n k f = read_rows (groups_of j) (blocks_of j) (names_apart_lem j) blocks n k f

  -- where the row's value is known
  reads_row : (n k : List ℕ) {A : Type 0} (f : List ℕ → Option A) {o : Option (List ℕ)} →
      row_value k (rows_in n (blocks_of j)) ≡ o → read_as f (iwd_entry (groups_of j) n k) ≡ and_then o f
  reads_row n k f e = reads n k f ∙ ap (λ (o : Option (List ℕ)). and_then o f) e

  holds : (n k : List ℕ) → has n k (groups_of j) ≡ is_some (row_value k (rows_in n (blocks_of j)))
  holds n k = has_rows (groups_of j) (blocks_of j) (names_apart_lem j) blocks n k

  -- the keys of the group IPv4 but for its last two
  module _ (k : List ℕ) (a : same k (word "DNS") ≡ false) (b : same k (word "DomainName") ≡ false) where
    number_reads : {A : Type 0} (f : List ℕ → Option A) →
        read_as f (iwd_entry (groups_of j) (word "IPv4") k) ≡ and_then (row_value k (number_rows j.ipv4)) f
    number_reads f = reads_row (word "IPv4") k f (number_value j.ipv4 j.servers j.domain k a b)

    number_holds : has (word "IPv4") k (groups_of j) ≡ is_some (row_value k (number_rows j.ipv4))
    number_holds = holds (word "IPv4") k ∙ ap is_some (number_value j.ipv4 j.servers j.domain k a b)

  -- each part of the record
  secret_read : iwd_secret (iwd_entry (groups_of j) (word "Security")) ≡ j.credential
  unfolding keys_of
  secret_read =
      ap₂ secret_from (reads (word "Security") (word "Passphrase") K.passphrase) (reads (word "Security") (word "PreSharedKey") HexValues.pre_shared_key_of)
      ∙ secret_rows_read j.credential w.credential

  hidden_read : or_false (read_as (flag Iwd) (iwd_entry (groups_of j) (word "Settings") (word "Hidden"))) ≡ j.hidden
  hidden_read = ap or_false (reads (word "Settings") (word "Hidden") (flag Iwd)) ∙ hidden_rows_read j.hidden

  ipv4_read : ipv4_placed j.ipv4 ≡ true → iwd_ipv4 (iwd_entry (groups_of j) (word "IPv4")) ≡ j.ipv4
  unfolding keys_of
  ipv4_read p =
      rw (number_reads (word "Address") refl refl address, number_reads (word "Netmask") refl refl netmask, number_reads (word "Gateway") refl refl address) (number_rows_read j.ipv4 w.ipv4 p)

  servers_read : or_empty (read_as (addresses Spaces) (iwd_entry (groups_of j) (word "IPv4") (word "DNS"))) ≡ j.servers
  servers_read =
      ap or_empty (reads_row (word "IPv4") (word "DNS") (addresses Spaces) (server_value j.ipv4 j.servers j.domain))
      ∙ server_rows_read j.servers w.servers

  domain_read : or_empty (read_as (string 1 253) (iwd_entry (groups_of j) (word "IPv4") (word "DomainName"))) ≡ j.domain
  domain_read =
      ap or_empty (reads_row (word "IPv4") (word "DomainName") (string 1 253) (domain_value j.ipv4 j.servers j.domain))
      ∙ domain_rows_read j.domain w.domain

  ipv6_read_lem : iwd_ipv6 (iwd_entry (groups_of j) (word "IPv6")) ≡ j.ipv6
  unfolding keys_of
  ipv6_read_lem =
      rw (reads (word "IPv6") (word "Enabled") (flag Iwd), reads (word "IPv6") (word "Address") with_length, reads (word "IPv6") (word "Gateway") ipv6) (ipv6_rows_read j.ipv6 w.ipv6)

  -- the two halves of "has a place"
  ipv4_placed_lem : has_place j ≡ true → ipv4_placed j.ipv4 ≡ true
  ipv4_placed_lem p = (and_true (ipv4_placed j.ipv4) (ipv6_placed j.ipv6) p).0

  ipv6_placed_lem : has_place j ≡ true → ipv6_placed j.ipv6 ≡ true
  ipv6_placed_lem p = (and_true (ipv4_placed j.ipv4) (ipv6_placed j.ipv6) p).1

  join_read : has_place j ≡ true → iwd_join (network_name (network_of (name_text j))) (iwd_entry (groups_of j)) ≡ j
  unfolding keys_of
  join_read p = rw (name_network, secret_read, hidden_read, ipv4_read (ipv4_placed_lem p), servers_read, domain_read, ipv6_read_lem)

-- the yes/no of a setting, as the rules over a file ask for it and as it is read
flag_given_lem : (o : Option Entry) → and_then o (λ x. flag Iwd x.value) ≡ read_as (flag Iwd) o
flag_given_lem None = refl
flag_given_lem (Some e) = refl

-- ---- the theorem

-- the file obeys every rule
pub written_obeys : (j : Join) → WellFormed j → has_place j ≡ true → Obeys Iwd (name_text j) (file_text j)
unfolding file_text
written_obeys j w p =
    record {
      size = omega (arith, file_short j w);
      kind = iwd_name (suffix_for j.credential);
      named = ap (mapped (λ x. iwd_name x.suffix)) (name_network j w);
      each_line = file_obeys Iwd (blocks_of j) (blocks_good j w) (names_apart_lem j);
      groups =
          rules_obey (groups_of j) j.credential (numbers_obey (groups_of j) j.ipv4 (ipv4_placed_lem j w p) (number_holds j w))
          (ipv6_pairs (groups_of j) j.ipv6 (holds j w (word "IPv6")) (ipv6_placed_lem j w p))
          (ipv6_agrees (groups_of j) j.ipv6 (holds j w (word "IPv6")) (flag_given_lem (iwd_entry (groups_of j) (word "IPv6") (word "Enabled")) ∙ reads j w (word "IPv6") (word "Enabled") (flag Iwd)))
          (holds j w (word "Security"));
    }

-- it is accepted, and has the settings that were written
pub written_accepted : (j : Join) → WellFormed j → has_place j ≡ true →
    reading Iwd (name_text j) (file_text j) ≡ accepted_with (row_count (blocks_of j)) 0
written_accepted j w p =
    let a = obeys_accepted Iwd (name_text j) (file_text j) (written_obeys j w p) in
    a ∙ ap₂ accepted_with (settings_rows (groups_of j) (blocks_of j) (blocks j w)) (iwd_services (name_text j) (file_text j) a)

-- its record is the one that was written
pub round_trip : (j : Join) → WellFormed j → has_place j ≡ true → iwd_joined (name_text j) (file_text j) ≡ joined j
round_trip j w p =
    ap (λ (r : Reading). joined_if_good (asked r) (joined (iwd_join (network_name (network_of (name_text j))) (iwd_entry (groups_of j))))) (written_accepted j w p)
    ∙ ap joined (join_read j w p)

-- and so are the answers
pub round_trip_record : (j : Join) → WellFormed j → has_place j ≡ true →
    iwd_record (name_text j) (file_text j) ≡ record { answer = Ok tt; «record» = laid j }
unfolding iwd_record
round_trip_record j w p = ap record_answer (round_trip j w p)

pub round_trip_servers : (j : Join) → WellFormed j → has_place j ≡ true → (old : List (List ℕ)) →
    iwd_record_servers (name_text j) (file_text j) old ≡ laid_servers j
unfolding iwd_record_servers
round_trip_servers j w p old = ap (λ (x : Joined). servers_after x old) (round_trip j w p)
