-- The reading of a file: one law for each return.
use Prim.Native.Nat.{ℕ, ◌≤◌, ◌<◌}
use native.Mathlib.Omega.{arith}
use mathlib.Core.Path.{◌≡◌, refl, ap, sym, ◌∙◌, subst}
use mathlib.Core.Bool.{Bool, true, false}
use mathlib.Core.List.{List, []}
use Rattle.std.specs.Prelude.{Option, None, Some, Result, Ok, Err}
use Rattle.std.proofs.lemmas.Option.{none-some, same_Some}
use borrow.Author.Tests.{le-leb, lt-leb}
use lib.ListN.{length, replicate}
use Rattle.text.specs.Options.{mapped, only}
use Rattle.text.specs.Parts.{lines}
use Rattle.text.specs.declared.Dialect.{Dialect}
use Rattle.text.specs.declared.Dialect.TheVariants.{Iwd, ConnMan}
use Rattle.names.specs.Names.{Network, network_of, connman_name}
use Rattle.rules.specs.Reading.{Name, iwd_name, connman_file, grown, sections_of, name_in, reading_of, reading}
use Rattle.rules.specs.declared.Fault.{Fault}
use Rattle.rules.specs.declared.Refusal.{Refusal}
use Rattle.rules.specs.declared.Refusal.TheVariants.{Size, FileName}
use Rattle.places.specs.Holds.{HoldsGroups}
use Rattle.verdicts.specs.Ending.{kind_named, kind_of_name, name_dialect, EndReads}
use Rattle.verdicts.specs.declared.FileKind.{FileKind}
use Rattle.places.specs.declared.State.{State}
use Rattle.pass.specs.Pass.{WalkIs, Walks, ReadsKind, ReadsFile}
use Rattle.places.specs.Store.{file_limit, table_length}
use Rattle.rules.specs.Answering.{Reading, accepted_with, refused_at}

-- ---- the kind of a name

name_dialect_lem : (d : Dialect) (name : List ℕ) {n : Name} → name_in d name ≡ Some n → name_dialect n ≡ d
name_dialect_lem Iwd name {n} e = go (network_of name) e
  where
    go : (o : Option Network) → mapped (λ x. iwd_name x.suffix) o ≡ Some n → name_dialect n ≡ Iwd
    go None e = absurd (none-some n e)
    go (Some x) e = ap name_dialect (sym (same_Some (iwd_name x.suffix) n e))
name_dialect_lem ConnMan name {n} e = go (connman_name name) e
  where
    go : (b : Bool) → only b (Some connman_file) ≡ Some n → name_dialect n ≡ ConnMan
    go true e = ap name_dialect (sym (same_Some connman_file n e))
    go false e = absurd (none-some n e)

no_kind : (o : Option Name) → kind_of_name o ≡ None → o ≡ None
no_kind None e = refl
no_kind (Some n) e = absurd (none-some (kind_named n) (sym e))

refused_accepted : {A : Type 0} {f : Refusal} {l n m : ℕ} → refused_at f l ≡ accepted_with n m → A
refused_accepted e = let z : ◌≡◌ {A = ℕ} 0 1 = cc in absurd (omega arith)

-- ---- a file whose size is allowed and whose name is a file's

module _ {d : Dialect} {file : List ℕ} {x : List ℕ} {r : Result State Fault} (h : Walks d file x r) where
  walked : {q : Result State Fault} → r ≡ q → WalkIs d file x q
  walked e = subst (WalkIs d file x) e h.is

  pub walked_few : {st : State} → r ≡ Ok st → st.services ≤ 8
  walked_few e = (walked e).1.spans.few

  module _ {k : FileKind} where
    pub kind_stopped : {f : Fault} → r ≡ Err f → ReadsKind k d file x (Err f)
    kind_stopped {f} e = record { is = λ name q. go (name_in d name) q; found = λ q. refused_accepted q; few = λ q. refused_accepted q }
      where
        go : (o : Option Name) → kind_of_name o ≡ Some k → Err f ≡ reading_of d o file
        go None q = absurd (none-some k q)
        go (Some n) q = rw (walked e)

    pub kind_through : {st : State} → r ≡ Ok st → {a : Reading} → EndReads (Some k) st x a → ReadsKind k d file x a
    unfolding sections_of
    kind_through {st} e {a} ends =
        record {
          is = λ name q. go name (name_in d name) refl q;
          found = λ q. record { groups = grown d 1 0 [] (lines file); all = refl; kept = (walked e).1.table };
          few = λ q. omega (arith, ends.counted q, (walked e).1.spans.few);
        }
      where
        go : (name : List ℕ) (o : Option Name) → name_in d name ≡ o → kind_of_name o ≡ Some k → a ≡ reading_of d o file
        go name None v q = absurd (none-some k q)
        go name (Some n) v q = rw (walked e).0 (ends.reading n (sym q) (grown d 1 0 [] (lines file)) (subst (λ (b : Dialect). HoldsGroups b file st x (grown d 1 0 [] (lines file))) (sym (name_dialect_lem d name v)) (walked e).1))

-- ---- any file

module _ {d : Dialect} (name : List ℕ) {file : List ℕ} where
  pub reads_large : {y : List ℕ} → file_limit < length file → y ≡ replicate table_length 0 → ReadsFile d name file y (refused_at Size 0)
  unfolding reading
  reads_large l e = record { is = rw (lt-leb (length file) file_limit l); found = λ q. refused_accepted q; few = λ q. refused_accepted q; left = λ q. e }

  module _ (l : length file ≤ file_limit) {o : Option FileKind} (e : o ≡ kind_of_name (name_in d name)) where
    pub reads_misnamed : o ≡ None → {y : List ℕ} → y ≡ replicate table_length 0 → ReadsFile d name file y (refused_at FileName 0)
    unfolding reading
    reads_misnamed q v = record { is = rw (le-leb (length file) file_limit l, no_kind (name_in d name) (sym e ∙ q)); found = λ z. refused_accepted z; few = λ z. refused_accepted z; left = λ z. v }

    module _ {k : FileKind} (w : o ≡ Some k) {y : List ℕ} {r : Reading} (h : ReadsKind k d file y r) where
      is_reading : r ≡ reading d name file
      unfolding reading
      is_reading = rw (le-leb (length file) file_limit l) (h.is name (sym e ∙ w))

      pub reads_accepted : {n m : ℕ} → r ≡ accepted_with n m → ReadsFile d name file y r
      reads_accepted q = record { is = is_reading; found = λ z. h.found z; few = λ z. h.few z; left = λ z. refused_accepted (sym z ∙ q) }

      pub reads_refused : {f : Refusal} {i : ℕ} → r ≡ refused_at f i → {z : List ℕ} → z ≡ replicate table_length 0 → ReadsFile d name file z r
      reads_refused q v = record { is = is_reading; found = λ z. refused_accepted (sym q ∙ z); few = λ z. refused_accepted (sym q ∙ z); left = λ z. v }
