-- Every answer of an entry point has a number and a line of its rows of document 01's table.
use Rattle.std.specs.Prelude.{ℕ, ◌≡◌, Bool, true, false, cond, ◌||◌, List, [], ◌∷◌, ◌++◌, leb, length, Option, None, Some, Ok, Err}
use Rattle.std.proofs.Common.{arith}
use Rattle.std.proofs.Math.Path.{refl}
use Rattle.std.proofs.Math.Bool.{not}
use Rattle.text.specs.Bytes.{between}
use Rattle.text.specs.Parts.{lines}
use Rattle.text.specs.Words.{word}
use Rattle.text.specs.Options.{only, or_else, is_some}
use Rattle.text.specs.OptionLaws.{IfSome}
use Rattle.text.specs.Relations.{Each}
use Rattle.text.specs.RelationLaws.{each_append}
use Rattle.text.specs.declared.Dialect.{Dialect}
use Rattle.text.specs.declared.Dialect.TheVariants.{Iwd, ConnMan}
use Rattle.named_words.specs.NamedWords.{word_of}
use Rattle.connman_ipv4.specs.ConnmanIpv4.{ipv4}
use Rattle.addressing.specs.Addressing.{or_auto}
use Rattle.ipv6_values.specs.Ipv6Values.{connman_ipv6}
use Rattle.named_words.specs.declared.Word.TheVariants as W
use Rattle.named_words.specs.declared.WordList.TheVariants as L
use Rattle.rules.specs.Sections.{Entry, Section}
use Rattle.rules.specs.WordNumbers.{is_word}
use Rattle.rules.specs.Numbers.{number_of, answer_number, answer_line}
use Rattle.rules.specs.Reading.{sections_of, reading}
use Rattle.rules.specs.Asking.{iwd_entry, service_at, read_as, entry_line, asked, asked_of}
use Rattle.rules.proofs.EntryPlaces.{is_line, EntryStands, service_stands}
use Rattle.rules.specs.AnswerRows.{AnswerRow, bare, lined, is_row, has_row, own_rows}
use Rattle.rules.proofs.AnswerRowLaws.{has_row_append, reading_has_row}
use Rattle.rules.specs.declared.Refusal.{Refusal}
use Rattle.rules.specs.declared.Refusal.TheVariants.{NoService}
use Rattle.settings.specs.Asked.{iwd_answer_of, service_answer_of}
use Rattle.lookups.specs.Lookups.{lookup_of}
use Rattle.records.specs.Record.{Join, joined}
use Rattle.records.specs.declared.JoinRecord.{JoinRecord}
use Rattle.written.specs.Written.{ipv4_placed, ipv6_placed}
use Rattle.writer.specs.Writing.{Writing, writing, writing_of, written_answer}
use Rattle.writer.specs.Room.{RoomIs, enough, short, room_is, WritingIs, malformed, no_place, placed, writing_is}
use Rattle.joins.specs.Joins as J
use Rattle.rules.specs.Tables.{keys_of}
use Rattle.joins.specs.Joins.{iwd_join, network_name, foreign, foreign_security, no_record, service_join, service_setting, record_answer, iwd_record, service_record, wired, or_no_place}
use Rattle.names.specs.Names.{network_of}
use Rattle.mover.specs.Moves.{line_if, line_given, unplaced, least, earliest, or_unplaced, moved_if_good, moving}
use Rattle.demands.specs.Demands as D
use Rattle.demands.specs.Demands.{service_rows, service_record_rows, writer_rows, move_rows, Demand1Table}
use Rattle.rules.specs.AnsweringLaws.{same_refusal}
use Rattle.rules.specs.Answering.{Answer, Reading, refused_at}

-- ---- an answer and its rows

-- the number and the line of an answer are those of a row
abbrev pub InRows : ℕ → List AnswerRow → Answer → Type 0
InRows k rs a = has_row k rs (answer_number a) (answer_line a) ≡ true

either_true : (a b : Bool) → b ≡ true → a || b ≡ true
either_true true b e = refl
either_true false b e = e

-- good, or refused with a row of rs
answer_given : (k : ℕ) (rs : List AnswerRow) (a : Answer) →
    ((r : Refusal) (l : ℕ) → a ≡ refused_at r l → has_row k rs (number_of r) l ≡ true) → InRows k (bare 0 ∷ rs) a
answer_given k rs (Ok u) h = refl
answer_given k rs (Err f) h =
    either_true (is_row k (number_of f.refusal) f.line (bare 0)) (has_row k rs (number_of f.refusal) f.line) (h f.refusal f.line refl)

-- ---- a file

asked_refused : (x : Reading) {r : Refusal} {l : ℕ} → asked x ≡ refused_at r l → x ≡ refused_at r l
asked_refused (Ok c) e = let z : ◌≡◌ {A = ℕ} 0 1 = cc in absurd (omega arith)
asked_refused (Err f) {r} {l} e = let s = same_refusal {A = Unit} {r = f.refusal} {l = f.line} e in rw (s.0, s.1)

pub asked_given : (d : Dialect) (name file : List ℕ) →
    InRows (length (lines file)) (bare 0 ∷ own_rows d) (asked (reading d name file))
asked_given d name file =
    answer_given (length (lines file)) (own_rows d) (asked (reading d name file)) (λ r l e. reading_has_row d name file (asked_refused (reading d name file) e))

-- ---- a service of it

pub asked_service_given : (name file : List ℕ) (w : ℕ) →
    InRows (length (lines file)) service_rows (asked_of w (reading ConnMan name file))
asked_service_given name file w = go (reading ConnMan name file) (asked_given ConnMan name file)
  where
    count : (b : Bool) → InRows (length (lines file)) service_rows (cond b (Ok tt) (refused_at NoService 0))
    count true = refl
    count false = refl

    go : (x : Reading) → InRows (length (lines file)) (bare 0 ∷ own_rows ConnMan) (asked x) →
        InRows (length (lines file)) service_rows (asked_of w x)
    go (Ok c) h = count (between 1 c.services w)
    go (Err f) h = has_row_append (length (lines file)) (bare 0 ∷ own_rows ConnMan) (bare 18 ∷ []) (number_of f.refusal) f.line h

module _ (file : List ℕ) where
  -- a line of the file, by its number
  abbrev OnLine : ℕ → Type 0
  OnLine l = is_line file l ≡ true

  -- a setting's line, where what it holds is such that an absent one does not hold it
  line_only : (b : Option Entry → Bool) → b None ≡ false → (o : Option Entry) → IfSome (EntryStands file) o →
      IfSome OnLine (only (b o) (Some (entry_line o)))
  line_only b q None h = rw q tt
  line_only b q (Some e) h = go (b (Some e))
    where
      go : (t : Bool) → IfSome OnLine (only t (Some e.line))
      go true = h.line
      go false = tt

  line_if_lem : (b : Option Entry → Bool) → b None ≡ false → (o : Option Entry) → IfSome (EntryStands file) o →
      Each OnLine (line_if (b o) o)
  line_if_lem b q None h = rw q tt
  line_if_lem b q (Some e) h = go (b (Some e))
    where
      go : (t : Bool) → Each OnLine (line_if t (Some e))
      go true = (h.line, tt)
      go false = tt

  either_line : (a b : Option ℕ) → IfSome OnLine a → IfSome OnLine b → IfSome OnLine (or_else a b)
  either_line None b p q = q
  either_line (Some l) b p q = p

  earliest_line : (ls : List ℕ) → Each OnLine ls → IfSome OnLine (earliest ls)
  earliest_line [] h = tt
  earliest_line (l ∷ ls) h = go (earliest ls) (earliest_line ls h.1)
    where
      go : (o : Option ℕ) → IfSome OnLine o → is_line file (least l o) ≡ true
      go None q = h.0
      go (Some m) q = choose (leb l m)
        where
          choose : (b : Bool) → is_line file (cond b l m) ≡ true
          choose true = h.0
          choose false = q

  module _ (w : ℕ) where
    abbrev at : List ℕ → Option Entry
    at = service_setting w file

    stands : (key : List ℕ) → IfSome (EntryStands file) (at key)
    stands key = service_stands ConnMan file w key

    no_record_line : IfSome OnLine (no_record at)
    unfolding keys_of
    no_record_line =
        either_line (only (wired at) (Some (entry_line (at (word "Type"))))) (only (foreign at) (Some (entry_line (at (word "Security")))))
        (line_only (λ o. is_word W.Ethernet (read_as (word_of L.ServiceType) o)) refl (at (word "Type")) (stands (word "Type")))
        (line_only (λ o. foreign_security (read_as (word_of L.Security) o)) refl (at (word "Security")) (stands (word "Security")))

    given : (key : List ℕ) → Each OnLine (line_given (at key))
    given key = line_if_lem is_some refl (at key) (stands key)

    unplaced_lines : Each OnLine (unplaced at)
    unfolding keys_of
    unplaced_lines =
        let type = line_if (wired at) (at (word "Type")) in
        let security = line_if (foreign at) (at (word "Security")) in
        let four = line_if (not (ipv4_placed (service_join at).ipv4)) (at (word "IPv4")) in
        let six = line_if (not (ipv6_placed (service_join at).ipv6)) (at (word "IPv6")) in
        let mac = line_given (at (word "MAC")) in
        let privacy = line_given (at (word "IPv6.Privacy")) in
        let domains = line_given (at (word "SearchDomains")) in
        let clocks = line_given (at (word "Timeservers")) in
        each_append OnLine (type ++ security ++ four ++ six ++ mac ++ privacy ++ domains) clocks
        (each_append OnLine (type ++ security ++ four ++ six ++ mac ++ privacy) domains
        (each_append OnLine (type ++ security ++ four ++ six ++ mac) privacy
        (each_append OnLine (type ++ security ++ four ++ six) mac
        (each_append OnLine (type ++ security ++ four) six
        (each_append OnLine (type ++ security) four
        (each_append OnLine type security (line_if_lem (λ o. is_word W.Ethernet (read_as (word_of L.ServiceType) o)) refl (at (word "Type")) (stands (word "Type"))) (line_if_lem (λ o. foreign_security (read_as (word_of L.Security) o)) refl (at (word "Security")) (stands (word "Security"))))
        (line_if_lem (λ o. not (ipv4_placed (or_auto (read_as ipv4 o)))) refl (at (word "IPv4")) (stands (word "IPv4"))))
        (line_if_lem (λ o. not (ipv6_placed (or_auto (read_as connman_ipv6 o)))) refl (at (word "IPv6")) (stands (word "IPv6"))))
        (given (word "MAC")))
        (given (word "IPv6.Privacy")))
        (given (word "SearchDomains")))
        (given (word "Timeservers"))

    unplaced_line : IfSome OnLine (earliest (unplaced at))
    unplaced_line = earliest_line (unplaced at) unplaced_lines

-- ---- records and files

record_given : (k : ℕ) (a : Answer) (o : Option ℕ) (j : Join) → InRows k service_rows a →
    IfSome (λ l. between 1 k l ≡ true) o →
    InRows k service_record_rows (record_answer (J.joined_if_good a (or_no_place o j))).answer
record_given k (Ok u) None j h p = refl
record_given k (Ok u) (Some l) j h p = rw p
record_given k (Err f) o j h p = has_row_append k service_rows (lined 16 ∷ []) (number_of f.refusal) f.line h

-- of a record that has a place: 0 or 17, without a line
room_given : (k : ℕ) (rs : List AnswerRow) → has_row k rs 0 0 ≡ true → has_row k rs 17 0 ≡ true → (j : Join) (n f : List ℕ) →
    InRows k rs (written_answer (writing_of j n f)).answer
room_given k rs x y j n f = go (writing_of j n f) (room_is j n f)
  where
    go : (m : Writing) → RoomIs j n f m → InRows k rs (written_answer m).answer
    go m (enough a b) = x
    go m short = y

move_given : (k : ℕ) (a : Answer) (o : Option ℕ) (j : Join) (n f : List ℕ) → InRows k service_rows a →
    IfSome (λ l. between 1 k l ≡ true) o →
    InRows k move_rows (written_answer (moved_if_good a (or_unplaced o (writing_of j n f)))).answer
move_given k (Ok u) None j n f h p = room_given k move_rows refl refl j n f
move_given k (Ok u) (Some l) j n f h p = rw p
move_given k (Err fault) o j n f h p =
    has_row_append k service_record_rows (bare 17 ∷ []) (number_of fault.refusal) fault.line (has_row_append k service_rows (lined 16 ∷ []) (number_of fault.refusal) fault.line h)

pub write_given : (r : JoinRecord) (s : List (List ℕ)) (n f : List ℕ) →
    InRows 0 writer_rows (written_answer (writing r s n f)).answer
write_given r s n f = go (writing r s n f) (writing_is r s n f)
  where
    go : (m : Writing) → WritingIs r s n f m → InRows 0 writer_rows (written_answer m).answer
    go m malformed = refl
    go m no_place = refl
    go m (placed e p) = room_given 0 writer_rows refl refl (joined r s) n f

-- ---- every call

pub settings_answer : (a : Answer) (gs : List Section) → (iwd_answer_of a gs).answer ≡ a
settings_answer (Ok u) gs = refl
settings_answer (Err f) gs = refl

pub service_answer_lem : (a : Answer) (es : List Entry) → (service_answer_of a es).answer ≡ a
service_answer_lem (Ok u) es = refl
service_answer_lem (Err f) es = refl

pub lookup_answer : (a : Answer) (o : Option Entry) → (lookup_of a o).answer ≡ a
lookup_answer (Ok u) o = refl
lookup_answer (Err f) o = refl

pub joined_answer : (a : Answer) (j : Join) → (record_answer (J.joined_if_good a (J.joined j))).answer ≡ a
joined_answer (Ok u) j = refl
joined_answer (Err f) j = refl

pub demand_1_table : Demand1Table
unfolding iwd_record service_record moving
demand_1_table (D.check d name file) = asked_given d name file
demand_1_table (D.iwd_settings_lem name file s) =
    rw (settings_answer (asked (reading Iwd name file)) (sections_of Iwd file)) (asked_given Iwd name file)
demand_1_table (D.service_settings_lem name file w s) =
    rw (service_answer_lem (asked_of w (reading ConnMan name file)) (service_at w (sections_of ConnMan file))) (asked_service_given name file w)
demand_1_table (D.iwd_string group key name file) =
    rw (lookup_answer (asked (reading Iwd name file)) (iwd_entry (sections_of Iwd file) group key)) (asked_given Iwd name file)
demand_1_table (D.global_string key name file) =
    rw (lookup_answer (asked (reading ConnMan name file)) (iwd_entry (sections_of ConnMan file) (word "global") key)) (asked_given ConnMan name file)
demand_1_table (D.service_string w key name file) =
    rw (lookup_answer (asked_of w (reading ConnMan name file)) (service_setting w file key)) (asked_service_given name file w)
demand_1_table (D.iwd_record_lem name file s) =
    rw (joined_answer (asked (reading Iwd name file)) (iwd_join (network_name (network_of name)) (iwd_entry (sections_of Iwd file)))) (asked_given Iwd name file)
demand_1_table (D.service_record_lem name file w s) =
    record_given (length (lines file)) (asked_of w (reading ConnMan name file)) (no_record (service_setting w file)) (service_join (service_setting w file)) (asked_service_given name file w) (no_record_line file w)
demand_1_table (D.write r s n f) = write_given r s n f
demand_1_table (D.move name file w n f) =
    move_given (length (lines file)) (asked_of w (reading ConnMan name file)) (earliest (unplaced (service_setting w file))) (service_join (service_setting w file)) n f (asked_service_given name file w) (unplaced_line file w)
