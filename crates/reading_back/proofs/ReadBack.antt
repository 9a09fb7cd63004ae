-- Each return of `is_record` and of `reads_back`: a record that is written reads back as itself.
use Prim.Native.Nat.{ℕ, ◌≤◌}
use native.Mathlib.Omega.{arith}
use mathlib.Core.Path.{◌≡◌, refl, ap, ap₂, sym, ◌∙◌}
use mathlib.Core.Bool.{Bool, true, false}
use mathlib.Core.List.{List}
use lib.ListN.{length, take, drop, replicate, length-append}
use lib.Seq.{take-append_seam}
use Rattle.addresses.specs.Addresses.{no_address}
use Rattle.rules.specs.declared.Refusal.{Refusal}
use Rattle.records.specs.Formed.{Arrays}
use Rattle.records.specs.declared.JoinRecord.{JoinRecord}
use Rattle.writer.specs.Writing.{Writing, writes, refuses, writing, on_front, Writes}
use Rattle.writer.specs.declared.Written.{Written}
use Rattle.joins.specs.declared.RecordAnswer.{RecordAnswer}
use Rattle.round_trip.specs.Structs.{writing_record, writing_servers}
use Rattle.comparing.specs.Same.{same_record, same_servers}
use Rattle.comparing.specs.SameLaws.{same_record_refl, same_servers_refl}
use Rattle.reading_back.specs.Back.{is_good, same_answer, read_same, RoundTrips}
use Rattle.comparing.proofs.Agreeing.{differs, agrees}
use Rattle.rules.specs.Answering.{refused_at}
use Rattle.std.specs.Prelude.{Ok}

-- ---- an answer x and its servers t, which are y and u, against a record and servers

module _ {x y : RecordAnswer} {t u : List (List ℕ)} (w : (x ≡ y) × (t ≡ u)) (r : JoinRecord) (s : List (List ℕ)) where
  there : same_answer x t r s ≡ same_answer y u r s
  there = ap₂ (λ (p : RecordAnswer) (q : List (List ℕ)). same_answer p q r s) w.0 w.1

  pub answer_refused : {k : Refusal} {l : ℕ} → x.answer ≡ refused_at k l → false ≡ same_answer y u r s
  answer_refused e = differs _ (ap is_good e) ∙ there

  module _ (e : x.answer ≡ Ok tt) {p : Bool} (is : p ≡ same_record x.«record» r) where
    pub record_differs : p ≡ false → p ≡ same_answer y u r s
    record_differs k = k ∙ agrees _ (ap is_good e) (differs _ (sym is ∙ k)) ∙ there

    pub record_agrees : p ≡ true → {b : Bool} → b ≡ same_servers t s → b ≡ same_answer y u r s
    record_agrees k h = agrees _ (ap is_good e) (agrees _ (sym is ∙ k) h) ∙ there

-- ---- a text written in front of a buffer

front_take : (t old : List ℕ) {n : ℕ} {x : List ℕ} → n ≡ length t → x ≡ on_front t old → take n x ≡ t
front_take t old e h = ap₂ take e h ∙ take-append_seam t (drop (length t) old)

front_long : (t old : List ℕ) {n : ℕ} {x : List ℕ} → n ≡ length t → x ≡ on_front t old → n ≤ length x
front_long t old e h = omega (arith, e, ap length h, length-append t (drop (length t) old))

-- ---- a record and its servers, written into buffers of a name and a file

-- the two texts that were written
record Texts (w : Writing) (n f x y : List ℕ) (a : Written) : Type 0 where
  name : List ℕ
  file : List ℕ
  is : w ≡ writes name file
  name_len_lem : a.name_len ≡ length name
  file_len_lem : a.file_len ≡ length file
  in_name_lem : x ≡ on_front name n
  in_file_lem : y ≡ on_front file f

texts : (w : Writing) {n f x y : List ℕ} {a : Written} → Writes w n f x y a → a.answer ≡ Ok tt → Texts w n f x y a
texts (writes p q) h e =
    record {
      name = p;
      file = q;
      is = refl;
      name_len_lem = ap (λ (z : Written). z.name_len) h.answer;
      file_len_lem = ap (λ (z : Written). z.file_len) h.answer;
      in_name_lem = h.name;
      in_file_lem = h.file;
    }
texts (refuses k l) h e = let g : (Ok tt) ≡ refused_at k l = sym e ∙ ap (λ (z : Written). z.answer) h.answer in let z : ◌≡◌ {A = ℕ} 0 1 = cc in absurd (omega arith)

module _ (r : JoinRecord) (s : List (List ℕ)) (t : Arrays r s) {n f x y : List ℕ} {a : Written} (w : Writes (writing r s n f) n f x y a) where
  pub back_refused : {k : Refusal} {l : ℕ} → a.answer ≡ refused_at k l → RoundTrips r s n f x y (record { written = a; same = false })
  back_refused e = record { writes = w; compared = rw e; same = rw e }

  module _ (e : a.answer ≡ Ok tt) where
    abbrev these : Texts (writing r s n f) n f x y a
    these = texts (writing r s n f) w e

    pub name_fits : a.name_len ≤ length x
    name_fits = front_long these.name n these.name_len_lem these.in_name_lem

    pub file_fits : a.file_len ≤ length y
    file_fits = front_long these.file f these.file_len_lem these.in_file_lem

    -- what was written reads back as the record that was written
    back_same : read_same (take a.name_len x) (take a.file_len y) r s ≡ true
    back_same =
        ap₂ (λ (p q : List ℕ). read_same p q r s) (front_take these.name n these.name_len_lem these.in_name_lem) (front_take these.file f these.file_len_lem these.in_file_lem)
        ∙ ap₂ (λ (p : RecordAnswer) (q : List (List ℕ)). same_answer p q r s) (writing_record r s t n f these.is) (writing_servers r s t n f these.is (replicate 4 no_address))
        ∙ rw (same_record_refl r) (same_servers_refl s)

    pub back_good : {b : Bool} → b ≡ read_same (take a.name_len x) (take a.file_len y) r s → RoundTrips r s n f x y (record { written = a; same = b })
    back_good h = record { writes = w; compared = rw e h; same = h ∙ back_same ∙ sym (ap is_good e) }
