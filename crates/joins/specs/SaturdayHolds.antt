-- What `Saturday` says holds: a file with a faulty Passphrase line is refused, and by every entry point alike, as `record_answers`
-- `Refused` says of every refused file; an iwd file or a service with a Passphrase line has that passphrase as its credential.
use Rattle.std.specs.Prelude.{ℕ, suc, ◌+◌, ◌≤◌, ◌≡◌, refl, Bool, true, false, cond, List, [], ◌∷◌, ◌++◌, leb, length, Option, None, Some}
use Rattle.std.proofs.Common.{arith, ap, sym, ◌∙◌, subst}
use Rattle.std.proofs.lemmas.Option.{none-some, same_Some}
use Rattle.text.specs.Parts.{lines}
use Rattle.text.specs.Words.{word}
use Rattle.text.specs.Options.{mapped}
use Rattle.text.specs.Relations.{Sized}
use Rattle.text.specs.OptionLaws.{sized_is}
use Rattle.text.specs.declared.Dialect.{Dialect}
use Rattle.text.specs.declared.Dialect.TheVariants as D
use Rattle.utf8.specs.Utf8.{value_text}
use Rattle.escapes.specs.Escapes.{unescape}
use Rattle.escapes.specs.StringRules.{Unescaped}
use Rattle.escapes.specs.StringRuleLaws.{unescape_is, is_unescape}
use Rattle.lines.specs.Lines.{setting, line_of}
use Rattle.hex_values.specs.HexValues as HexValues
use Rattle.kinds.specs.Kinds as K
use Rattle.kinds.specs.Typed.{bytes, broken_text, by_kind, typed, string_broken, kind_judged, judged}
use Rattle.kinds.specs.declared.Kind.{Kind}
use Rattle.kinds.specs.declared.Kind.TheVariants as Kind
use Rattle.names.specs.Names.{network_of}
use Rattle.rules.specs.Tables.{group_of, keys_of, kind_of}
use Rattle.rules.specs.Sections.{Entry, Section, given}
use Rattle.rules.specs.Faults.{key_fault, value_fault, fault}
use Rattle.rules.specs.declared.Fault.{Fault}
use Rattle.rules.specs.Reading.{Name, name_in, after_line, line_fault, sections_of, reading}
use Rattle.rules.specs.Asking.{iwd_entry, read_as, asked}
use Rattle.rules.specs.GoodAnswers.{asked_reading}
use Rattle.rules.proofs.GoodValues.{GoodValue, group_value_lem, service_value}
use Rattle.rules.specs.declared.Group.{Group}
use Rattle.rules.specs.declared.Group.TheVariants.{Settings, Security, Ipv4, Ipv6, Global, Service}
use Rattle.rules.specs.declared.Refusal.{Refusal}
use Rattle.rules.specs.declared.Refusal.TheVariants.{Size, FileName, NoGroup, UnknownKey, RepeatedKey, ValueText, ValueKind}
use Rattle.records.specs.Record.{Join, passphrase}
use Rattle.joins.specs.Joins.{joined, secret_from, secret_given, network_name, iwd_join, iwd_joined, service_setting, service_joined}
use Rattle.joins.specs.Joining.{joined_good, service_joining}
use Rattle.joins.specs.Saturday.{NoPassphrase, broken_text_lem, bad_escape, wrong_size, FaultyPassphrase, RefusedBy, PassphraseRead, PassphraseKept}

-- ---- such a value is faulty, wherever the key is listed

-- its kind is that of passphrases
passphrase_kind : (g : Group) {k : Kind} → kind_of g (word "Passphrase") ≡ Some k → k ≡ Kind.Passphrase
unfolding keys_of
passphrase_kind Settings {k} e = absurd (none-some k e)
passphrase_kind Security {k} e = sym (same_Some Kind.Passphrase k e)
passphrase_kind Ipv4 {k} e = absurd (none-some k e)
passphrase_kind Ipv6 {k} e = absurd (none-some k e)
passphrase_kind Global {k} e = absurd (none-some k e)
passphrase_kind Service {k} e = sym (same_Some Kind.Passphrase k e)

-- what the text does not stand for is not read
no_string : (v : List ℕ) → ((t : List ℕ) → Unescaped v t → Sized 8 63 t → ⊥) → K.passphrase v ≡ None
unfolding K.string
no_string v n = go (K.passphrase v) refl
  where
    go : (o : Option (List ℕ)) → K.passphrase v ≡ o → o ≡ None
    go None q = refl
    go (Some t) q = let s = sized_is 8 63 (unescape v) q in absurd (n t (unescape_is v s.1) s.0)

unread_faulty : (d : Dialect) (v : List ℕ) → K.passphrase v ≡ None → value_fault (judged d Kind.Passphrase v) ≡ None → ⊥
unfolding judged kind_judged typed
unread_faulty d v q = go (value_text v) (string_broken Kind.Passphrase v) (K.passphrase v) q
  where
    go : (a b : Bool) (o : Option (List ℕ)) → o ≡ None →
        value_fault (cond a (cond b broken_text (by_kind (mapped bytes o))) broken_text) ≡ None → ⊥
    go true true o q e = none-some ValueText (sym e)
    go true false None q e = none-some ValueKind (sym e)
    go true false (Some p) q e = none-some p (sym q)
    go false b o q e = none-some ValueText (sym e)

value_faulty : (d : Dialect) (v : List ℕ) → NoPassphrase v → value_fault (judged d Kind.Passphrase v) ≡ None → ⊥
unfolding judged
value_faulty d v (broken_text_lem q) = rw q (λ e. none-some ValueText (sym e))
value_faulty d v (bad_escape n) = unread_faulty d v (no_string v (λ t u z. n t u))
value_faulty d v (wrong_size {t} u n) =
    unread_faulty d v (no_string v (λ x y z. n (subst (Sized 8 63) (same_Some x t (sym (is_unescape y) ∙ is_unescape u)) z)))

key_faulty : (d : Dialect) (v : List ℕ) → NoPassphrase v → (g : Group) (o : Option Kind) (es : List Entry) →
    kind_of g (word "Passphrase") ≡ o → key_fault d (word "Passphrase") v o es ≡ None → ⊥
key_faulty d v h g None es q e = none-some UnknownKey (sym e)
key_faulty d v h g (Some k) es q e = go (given (word "Passphrase") es) e
  where
    go : (b : Bool) → cond b (Some RepeatedKey) (value_fault (judged d k v)) ≡ None → ⊥
    go true e = none-some RepeatedKey (sym e)
    go false e = value_faulty d v h (ap (λ (x : Kind). value_fault (judged d x v)) (sym (passphrase_kind g q)) ∙ e)

setting_faulty : (d : Dialect) (v : List ℕ) → NoPassphrase v → (gs : List Section) →
    fault d gs (setting (word "Passphrase") v) ≡ None → ⊥
unfolding fault
setting_faulty d v h [] e = none-some NoGroup (sym e)
setting_faulty d v h (g ∷ gs) e =
    key_faulty d v h g.group (kind_of g.group (word "Passphrase")) g.entries refl e

-- ---- so the first faulty line is that line, or one before it

record FaultBy (d : Dialect) (n s : ℕ) (gs : List Section) (ls : List (List ℕ)) (m : ℕ) : Type 0 where
  first : Fault
  is : line_fault d n s gs ls ≡ Some first
  early : first.line ≤ m

fault_early : (d : Dialect) (n s : ℕ) (gs : List Section) (before : List (List ℕ)) (l : List ℕ) (rest : List (List ℕ)) {v : List ℕ} →
    line_of d l ≡ setting (word "Passphrase") v → NoPassphrase v →
    FaultBy d n s gs (before ++ l ∷ rest) (n + length before)
unfolding line_fault
fault_early d n s gs [] l rest {v} q h = go (fault d gs (line_of d l)) refl
  where
    go : (o : Option Refusal) → fault d gs (line_of d l) ≡ o → FaultBy d n s gs (l ∷ rest) (n + 0)
    go None e = absurd (setting_faulty d v h gs (ap (fault d gs) (sym q) ∙ e))
    go (Some r) e = record { first = record { refusal = r; line = n }; is = rw e; early = omega arith }
fault_early d n s gs (b ∷ before) l rest q h =
    go (fault d gs (line_of d b)) refl (fault_early d (suc n) (s + length b + 1) (after_line d n s b gs) before l rest q h)
  where
    go : (o : Option Refusal) → fault d gs (line_of d b) ≡ o →
        FaultBy d (suc n) (s + length b + 1) (after_line d n s b gs) (before ++ l ∷ rest) (suc n + length before) →
        FaultBy d n s gs (b ∷ before ++ l ∷ rest) (n + suc (length before))
    go None e k = record { first = k.first; is = rw e k.is; early = omega (arith, k.early) }
    go (Some r) e k = record { first = record { refusal = r; line = n }; is = rw e; early = omega arith }

pub faulty_refused : (d : Dialect) (name file : List ℕ) {n : ℕ} → FaultyPassphrase d file n → RefusedBy d name file n
unfolding reading
faulty_refused d name file {n} p = go (leb (length file) 16384) refl (name_in d name) refl
  where
    k : FaultBy d 1 0 [] (lines file) (1 + length p.stands.before)
    k = subst (λ (ls : List (List ℕ)). FaultBy d 1 0 [] ls (1 + length p.stands.before)) (sym p.stands.is) (fault_early d 1 0 [] p.stands.before p.line p.stands.rest p.reads p.faulty)

    go : (b : Bool) → leb (length file) 16384 ≡ b → (o : Option Name) → name_in d name ≡ o → RefusedBy d name file n
    go false e o q = record { refusal = Size; line = 0; is = rw e; early = omega arith }
    go true e None q = record { refusal = FileName; line = 0; is = rw (e, q); early = omega arith }
    go true e (Some x) q =
        record { refusal = k.first.refusal; line = k.first.line; is = rw (e, q, k.is); early = omega (arith, k.early, p.stands.number) }

-- ---- a good one

reads_passphrase : {d : Dialect} (v : List ℕ) → GoodValue d Kind.Passphrase v → PassphraseRead v
unfolding typed
reads_passphrase v g = go (K.passphrase v) refl g.reads
  where
    go : (o : Option (List ℕ)) → K.passphrase v ≡ o → mapped bytes o ≡ Some g.value → PassphraseRead v
    go None q e = absurd (none-some g.value e)
    go (Some p) q e = record { bytes = p; is = q }

-- a record whose credential is read from the setting, whatever else it may be read from
kept : {d : Dialect} {o : Option Entry} (k : Option (List ℕ)) {j : Join} →
    j.credential ≡ secret_from (read_as K.passphrase o) k → {e : Entry} → o ≡ Some e →
    GoodValue d Kind.Passphrase e.value → PassphraseKept e j
kept {o} k {j} c {e} q g =
    let p = reads_passphrase e.value g in
    let r : read_as K.passphrase o ≡ Some p.bytes = ap (read_as K.passphrase) q ∙ p.is in
    let s : j.credential ≡ passphrase p.bytes = c ∙ ap (λ (x : Option (List ℕ)). secret_from x k) r in
    record { read = p; is = s; needed = ap secret_given s }

-- a record that is answered, of an iwd file with a Passphrase line
pub iwd_passphrase_kept : (name file : List ℕ) {j : Join} → iwd_joined name file ≡ joined j → {e : Entry} →
    iwd_entry (sections_of D.Iwd file) (word "Security") (word "Passphrase") ≡ Some e → PassphraseKept e j
unfolding group_of keys_of
iwd_passphrase_kept name file {j} a {e} q =
    let at = iwd_entry (sections_of D.Iwd file) in
    let h = joined_good (asked (reading D.Iwd name file)) None (iwd_join (network_name (network_of name)) at) a in
    let r = asked_reading (reading D.Iwd name file) h.0 in
    let g = group_value_lem D.Iwd name file r.1.1 (word "Security") (word "Passphrase") refl refl q in
    kept (read_as HexValues.pre_shared_key_of (at (word "Security") (word "PreSharedKey"))) (ap (λ (i : Join). i.credential) (sym h.1)) q g

-- a record that is answered, of a service with a Passphrase line
pub passphrase_kept : (name file : List ℕ) (w : ℕ) {j : Join} → service_joined name file w ≡ joined j → {e : Entry} →
    service_setting w file (word "Passphrase") ≡ Some e → PassphraseKept e j
unfolding keys_of
passphrase_kept name file w {j} a {e} q =
    let h = service_joining name file w a in
    kept None (ap (λ (i : Join). i.credential) (sym h.is)) q (service_value D.ConnMan name file h.accepted w (word "Passphrase") refl q)
