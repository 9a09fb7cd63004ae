-- The answers of the writer to a record that iwd has a place for, and what the buffers hold after them.
use Prim.Native.Nat.{ℕ, ◌≤◌, ◌<◌}
use native.Mathlib.Omega.{arith}
use mathlib.Core.Path.{◌≡◌, refl, ap, ◌∙◌, subst}
use mathlib.Core.Bool.{true}
use mathlib.Core.List.{List}
use borrow.Author.Tests.{le-leb, lt-leb}
use lib.ListN.{length, take}
use Rattle.put.specs.Put.{Wrote}
use Rattle.put.specs.Laws.{wrote_front}
use Rattle.names.specs.Names.{file_name}
use Rattle.names.specs.declared.Suffix.{Suffix}
use Rattle.rules.specs.declared.Refusal.TheVariants.{ShortBuffer}
use Rattle.records.specs.Record.{joined}
use Rattle.records.specs.declared.JoinRecord.{JoinRecord}
use Rattle.written.specs.Written.{name_text, file_text}
use Rattle.written.specs.RecordParts.{SuffixOf}
use Rattle.writer.specs.Writing.{room, refuses, writing_of, written_answer, Writes}
use Rattle.writer.specs.declared.Written.{Written}
use Rattle.std.specs.Prelude.{Ok}

-- the name of a record's file, k being its suffix
name_text_lem : (r : JoinRecord) (s : List (List ℕ)) {k : Suffix} → SuffixOf r.credential k → file_name (take r.name_len r.name) k ≡ name_text (joined r s)
unfolding name_text
name_text_lem r s h = ap (file_name (take r.name_len r.name)) (h.is (take r.passphrase_len r.passphrase) r.key)

-- a record that iwd has a place for: m and q are the lengths of its name and file, n and f the buffers
module _ (r : JoinRecord) (s : List (List ℕ)) {k : Suffix} (h : SuffixOf r.credential k) (n f : List ℕ) {m : ℕ} (e : m ≡ length (file_name (take r.name_len r.name) k)) where
  name_length : m ≡ length (name_text (joined r s))
  name_length = e ∙ ap length (name_text_lem r s h)

  pub name_refused : length n < m → {a : Written} → a ≡ written_answer (refuses ShortBuffer 0) → Writes (writing_of (joined r s) n f) n f n f a
  name_refused l {a} g = rw (lt-leb (length (name_text (joined r s))) (length n) (omega (arith, l, name_length))) (record { answer = g; name = refl; file = refl })

  module _ (fits : m ≤ length n) {q : ℕ} (i : q ≡ length (file_text (joined r s))) where
    name_fits : room (name_text (joined r s)) n ≡ true
    name_fits = le-leb (length (name_text (joined r s))) (length n) (omega (arith, fits, name_length))

    pub both_written : q ≤ length f → {x y : List ℕ} {a b : ℕ} → Wrote (file_name (take r.name_len r.name) k) 0 n x a → Wrote (file_text (joined r s)) 0 f y b → Writes (writing_of (joined r s) n f) n f x y (record { answer = Ok tt; name_len = m; file_len = q })
    both_written l {x} {y} {a} {b} v w =
        rw (name_fits, le-leb (length (file_text (joined r s))) (length f) (omega (arith, l, i)))
        (record {
          answer = rw (name_length, i);
          name = wrote_front (subst (λ (t : List ℕ). Wrote t 0 n x a) (name_text_lem r s h) v);
          file = wrote_front w;
        })
