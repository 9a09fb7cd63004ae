-- The move's answers, one law for each return: what is answered of the service by its number, and what its lines say.
use Prim.Native.Nat.{ℕ}
use mathlib.Core.Path.{◌≡◌, refl, ap, ap₂, sym, ◌∙◌, subst}
use mathlib.Core.List.{List}
use Rattle.std.specs.Prelude.{Option, None, Some, Ok}
use Rattle.text.specs.declared.Dialect.TheVariants.{ConnMan}
use Rattle.addresses.specs.Addresses.{addresses, rows}
use Rattle.addresses.specs.declared.Separator.TheVariants.{Comma}
use Rattle.rules.specs.Tables.{keys_of}
use Rattle.rules.specs.Sections.{entry_of}
use Rattle.rules.specs.Asking.{asked_of}
use Rattle.rules.specs.declared.Group.TheVariants as G
use Rattle.rules.specs.declared.Refusal.{Refusal}
use Rattle.rules.specs.declared.Refusal.TheVariants.{NoPlace}
use Rattle.places.specs.History.{base}
use Rattle.places.specs.KeySlots.{bytes_of}
use Rattle.places.specs.declared.KeyName.TheVariants as N
use Rattle.pass.specs.Pass.{ReadsFile}
use Rattle.pass.proofs.Asking.{service_answer_lem}
use Rattle.values.specs.Rows.{RowOf, RowGives}
use Rattle.settings.proofs.ServiceFile.{found_row}
use Rattle.values.proofs.KeptValues.{addresses_none, row_read}
use Rattle.records.specs.Record.{Join, laid, joined}
use Rattle.records.specs.Laws.{joined_laid}
use Rattle.records.specs.declared.JoinRecord.{JoinRecord}
use Rattle.written.specs.RecordParts.{CountsWithin}
use Rattle.writer.specs.Writing.{refuses, writing_of, written_answer, Writes}
use Rattle.writer.specs.declared.Written.{Written}
use Rattle.joins.specs.Joins.{service_join}
use Rattle.mover.specs.Moves.{unplaced, earliest, or_unplaced, moving}
use Rattle.mover.specs.Demand.{Moves}
use Rattle.mover.specs.Places.{MovesBy}
use Rattle.mover.proofs.Theorem.{demand_3}
use Rattle.mover.proofs.Sizes.{join_within}
use Rattle.rules.specs.Answering.{Answer, Reading, refused_at}

-- a refusal leaves both buffers as they were
refusal_writes : {r : Refusal} {l : ℕ} {n f : List ℕ} {a : Written} → a ≡ written_answer (refuses r l) → Writes (refuses r l) n f n f a
refusal_writes p = record { answer = p; name = refl; file = refl }

-- ---- a service that there is

pub record_within : {file x : List ℕ} {b : ℕ} {j : JoinRecord} → RowOf ConnMan file x b G.Service → RowGives ConnMan file x b G.Service (λ at. laid (service_join at)) j → CountsWithin j
record_within h t = subst CountsWithin (sym (t.is h.settings h.row)) (join_within (λ k. entry_of k h.settings))

module _ {file t : List ℕ} {b : ℕ} {o : Option ℕ} (u : RowGives ConnMan file t b G.Service (λ at. earliest (unplaced at)) o) (n f : List ℕ) where
  pub found_unplaced : {l : ℕ} → o ≡ Some l → {a : Written} → a ≡ written_answer (refuses NoPlace l) → MovesBy file t b n f n f a
  found_unplaced e {a} p = record { is = λ es h. subst (λ (o : Option ℕ). Writes (or_unplaced o (writing_of (service_join (λ k. entry_of k es)) n f)) n f n f a) (sym e ∙ u.is es h) (refusal_writes p) }

  pub found_placed : o ≡ None → {j : JoinRecord} → RowGives ConnMan file t b G.Service (λ at. laid (service_join at)) j → {s : List (List ℕ)} → s ≡ rows (addresses Comma (bytes_of file t b N.Nameservers)) → {x y : List ℕ} {a : Written} → Writes (writing_of (joined j s) n f) n f x y a → MovesBy file t b n f x y a
  unfolding keys_of
  found_placed e {j} v {s} p {x} {y} {a} w =
      record {
        is = λ es h.
            let i : joined j s ≡ service_join (λ k. entry_of k es) = ap₂ joined (v.is es h) (p ∙ ap rows (row_read N.Nameservers h (addresses Comma) (addresses_none Comma))) ∙ joined_laid (service_join (λ k. entry_of k es)) in
            subst (λ (o : Option ℕ). Writes (or_unplaced o (writing_of (service_join (λ k. entry_of k es)) n f)) n f x y a) (sym e ∙ u.is es h)
            (subst (λ (z : Join). Writes (writing_of z n f) n f x y a) i w);
      }

-- ---- a file

moves : {name file : List ℕ} {w : ℕ} {n f x y : List ℕ} {a : Written} → Writes (moving name file w n f) n f x y a → Moves name file w n f x y a
moves h = record { is = h; demand = λ m. demand_3 m h }

module _ {name file : List ℕ} (w : ℕ) {t : List ℕ} {q : Reading} (h : ReadsFile ConnMan name file t q) {b : Answer} (s : b ≡ asked_of w q) (n f : List ℕ) where
  good_writes : b ≡ Ok tt → {i : ℕ} → i ≡ base G.Service w → {x y : List ℕ} {a : Written} → MovesBy file t i n f x y a → Writes (moving name file w n f) n f x y a
  unfolding moving
  good_writes e at p = rw (service_answer_lem h w s e) (p.is _ (found_row w h s e at))

  pub move_good : b ≡ Ok tt → {i : ℕ} → i ≡ base G.Service w → {x y : List ℕ} {a : Written} → MovesBy file t i n f x y a → Moves name file w n f x y a
  move_good e at p = moves (good_writes e at p)

  refused_writes : {r : Refusal} {l : ℕ} → b ≡ refused_at r l → {a : Written} → a ≡ written_answer (refuses r l) → Writes (moving name file w n f) n f n f a
  unfolding moving
  refused_writes e p = rw (service_answer_lem h w s e) (refusal_writes p)

  pub move_refused : {r : Refusal} {l : ℕ} → b ≡ refused_at r l → {a : Written} → a ≡ written_answer (refuses r l) → Moves name file w n f n f a
  move_refused e p = moves (refused_writes e p)
