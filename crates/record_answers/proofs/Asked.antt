-- The answers, one law for each return: what is answered of the file or of the service by its number, and what its lines say.
use Prim.Native.Nat.{ℕ}
use native.Mathlib.Omega.{arith}
use mathlib.Core.Path.{◌≡◌, refl, ap, sym, ◌∙◌}
use mathlib.Core.Bool.{Bool, true, false}
use mathlib.Core.List.{List}
use Rattle.std.specs.Prelude.{Option, None, Some, Ok}
use Rattle.text.specs.Options.{only, or_else}
use Rattle.text.specs.Words.{word}
use Rattle.text.specs.declared.Dialect.TheVariants.{Iwd, ConnMan}
use Rattle.addresses.specs.Addresses.{addresses, rows}
use Rattle.addresses.specs.declared.Separator.TheVariants.{Spaces, Comma}
use Rattle.named_words.specs.NamedWords.{word_of}
use Rattle.named_words.specs.declared.Word.TheVariants as W
use Rattle.named_words.specs.declared.WordList.TheVariants as L
use Rattle.rules.specs.Tables.{keys_of}
use Rattle.rules.specs.Asking.{read_as, asked_of, entry_line}
use Rattle.rules.specs.Sections.{Entry, entry_of}
use Rattle.rules.specs.WordNumbers.{is_word}
use Rattle.rules.specs.declared.Group.TheVariants as G
use Rattle.rules.specs.declared.Refusal.{Refusal}
use Rattle.rules.specs.declared.Refusal.TheVariants.{NoPlace}
use Rattle.places.specs.History.{base}
use Rattle.places.specs.Holds.{RowKeeps}
use Rattle.places.specs.KeySlots.{bytes_of}
use Rattle.places.specs.declared.KeyName.TheVariants as N
use Rattle.pass.specs.Pass.{Found, ReadsFile}
use Rattle.pass.proofs.Asking.{service_answer_lem}
use Rattle.values.specs.Rows.{RowGives}
use Rattle.settings.proofs.IwdFile.{found_rows}
use Rattle.settings.proofs.ServiceFile.{found_row}
use Rattle.values.proofs.KeptValues.{addresses_none, row_read, row_line, row_word}
use Rattle.records.specs.Record.{laid, laid_servers}
use Rattle.records.specs.declared.JoinRecord.{JoinRecord}
use Rattle.joins.specs.Joins.{foreign, no_record, service_join, zero_record, iwd_record, iwd_record_servers, service_record, service_record_servers}
use Rattle.joins.specs.Answers.{hindrance}
use Rattle.joins.specs.Places.{IwdFileRows, iwd_file_join, hindrance_at}
use Rattle.joins.specs.declared.RecordAnswer.{RecordAnswer}
use Rattle.joins.proofs.Choosing.{row_foreign}
use Rattle.record_answers.specs.Places.{RowAnswered}
use Rattle.rules.specs.Answering.{Answer, Reading, accepted_with, refused_at}

-- ---- the rows after a reading

pub iwd_rows : {file y : List ℕ} → Found Iwd file y → IwdFileRows file y
iwd_rows f = record { table = record { long = f.kept.long; row = omega arith }; rows = found_rows f }

-- ---- an iwd file

pub iwd_servers_lem : {file x : List ℕ} {s : List (List ℕ)} (name : List ℕ) → IwdFileRows file x → s ≡ rows (addresses Spaces (bytes_of file x (base G.Ipv4 0) N.Dns)) → s ≡ laid_servers (iwd_file_join name file)
unfolding keys_of
iwd_servers_lem name h e = e ∙ ap rows (row_read N.Dns h.rows.ipv4 (addresses Spaces) (addresses_none Spaces))

module _ {name file y : List ℕ} {q : Reading} (h : ReadsFile Iwd name file y q) (old : List (List ℕ)) where
  pub iwd_accepted : {n m : ℕ} → q ≡ accepted_with n m → {r : RecordAnswer} {new : List (List ℕ)} → (r ≡ record { answer = Ok tt; «record» = laid (iwd_file_join name file) }) × (new ≡ laid_servers (iwd_file_join name file)) → (r ≡ iwd_record name file) × (new ≡ iwd_record_servers name file old)
  unfolding iwd_record iwd_record_servers
  iwd_accepted e p = rw (sym h.is ∙ e) p

  pub iwd_refused : {f : Refusal} {l : ℕ} → q ≡ refused_at f l → {r : RecordAnswer} → r ≡ record { answer = refused_at f l; «record» = zero_record } → (r ≡ iwd_record name file) × (old ≡ iwd_record_servers name file old)
  unfolding iwd_record iwd_record_servers
  iwd_refused e p = rw (sym h.is ∙ e) (p, refl)

-- ---- a service that there is

hindered : (a : Bool) (l : ℕ) (b : Bool) (m : ℕ) → hindrance a l b m ≡ or_else (only a (Some l)) (only b (Some m))
hindered true l b m = refl
hindered false l true m = refl
hindered false l false m = refl

module _ {file x : List ℕ} {b : ℕ} {h : Option ℕ} (e : h ≡ hindrance_at x b) where
  no_record_lem : {g : Option ℕ} → h ≡ g → (es : List Entry) → RowKeeps ConnMan file x b G.Service es → no_record (λ k. entry_of k es) ≡ g
  unfolding keys_of
  no_record_lem q es w =
      rw (← q, e, row_word N.Type w L.ServiceType refl W.Ethernet, row_foreign w, row_line N.Type w, row_line N.Security w)
      (sym (hindered (is_word W.Ethernet (read_as (word_of L.ServiceType) (entry_of (word "Type") es))) (entry_line (entry_of (word "Type") es)) (foreign (λ k. entry_of k es)) (entry_line (entry_of (word "Security") es))))

  pub found_hindered : (old : List (List ℕ)) {l : ℕ} → h ≡ Some l → {r : RecordAnswer} → r ≡ record { answer = refused_at NoPlace l; «record» = zero_record } → RowAnswered file x b old old r
  found_hindered old q p = record { is = λ es w. rw (no_record_lem q es w) p; servers = λ es w. rw (no_record_lem q es w) }

  pub found_joined : (old : List (List ℕ)) → h ≡ None → {j : JoinRecord} → RowGives ConnMan file x b G.Service (λ at. laid (service_join at)) j → {s : List (List ℕ)} → s ≡ rows (addresses Comma (bytes_of file x b N.Nameservers)) → {r : RecordAnswer} → r ≡ record { answer = Ok tt; «record» = j } → RowAnswered file x b old s r
  unfolding keys_of
  found_joined old q t {s} p {r} a =
      record {
        is = λ es w. rw (no_record_lem q es w) (a ∙ ap (λ (j : JoinRecord). record { answer = Ok tt; «record» = j }) (t.is es w));
        servers = λ es w. rw (no_record_lem q es w) (p ∙ ap rows (row_read N.Nameservers w (addresses Comma) (addresses_none Comma)));
      }

-- ---- a service by its number

module _ {name file : List ℕ} (w : ℕ) {y : List ℕ} {q : Reading} (h : ReadsFile ConnMan name file y q) {a : Answer} (s : a ≡ asked_of w q) (old : List (List ℕ)) where
  pub service_good : (e : a ≡ Ok tt) {b : ℕ} → b ≡ base G.Service w → {r : RecordAnswer} {new : List (List ℕ)} → RowAnswered file y b old new r → (r ≡ service_record name file w) × (new ≡ service_record_servers name file w old)
  unfolding service_record service_record_servers
  service_good e at p = let k = found_row w h s e at in rw (service_answer_lem h w s e) (p.is _ k, p.servers _ k)

  pub service_refused : {f : Refusal} {l : ℕ} → a ≡ refused_at f l → {r : RecordAnswer} → r ≡ record { answer = refused_at f l; «record» = zero_record } → (r ≡ service_record name file w) × (old ≡ service_record_servers name file w old)
  unfolding service_record service_record_servers
  service_refused e p = rw (service_answer_lem h w s e) (p, refl)
