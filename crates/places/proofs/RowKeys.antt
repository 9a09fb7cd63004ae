-- What a row keeps of a key: its slot, whether it is taken, and what a yes/no, a mask or a word is by its code.
use Prim.Native.Nat.{ℕ, ◌+◌}
use native.Mathlib.Omega.{arith}
use native.Mathlib.Nat.{le_refl}
use mathlib.Core.Path.{◌≡◌, refl, ap, sym, ◌∙◌, subst}
use mathlib.Core.Bool.{Bool, true, false, cond}
use mathlib.Core.List.{List}
use Rattle.std.specs.Prelude.{Option, None, Some}
use Rattle.std.proofs.lemmas.Option.{none-some, same_Some}
use borrow.Author.Tests.{ne_eqb}
use lib.Dec.{eqb}
use Rattle.text.specs.Words.{place}
use Rattle.text.specs.Options.{and_then, mapped}
use Rattle.text.specs.declared.Dialect.{Dialect}
use Rattle.utf8.specs.Utf8.{value_text}
use Rattle.addresses.specs.Addresses.{netmask}
use Rattle.named_words.specs.NamedWords.{flag, word_of}
use Rattle.kinds.specs.Typed as T
use Rattle.kinds.specs.Typed.{Typed, by_kind, typed, string_broken, kind_judged, judged}
use Rattle.named_words.specs.declared.Word.{Word}
use Rattle.named_words.specs.declared.Word.TheVariants.{Wifi, Ethernet, Disabled, Enabled, Preferred, Psk, Ieee8021x, Wep}
use Rattle.kinds.specs.declared.Kind.{Kind}
use Rattle.kinds.specs.declared.Kind.TheVariants.{Flag, Named, Netmask}
use Rattle.named_words.specs.declared.WordList.{WordList}
use Rattle.rules.specs.Sections.{Entry, given, entry_of}
use Rattle.rules.specs.Groups.{is_no}
use Rattle.rules.specs.WordNumbers.{is_word, word_number}
use Rattle.tables.specs.KeyPlaces.{key_names}
use Rattle.places.specs.Store.{Slot, slot}
use Rattle.places.specs.Keys.{key_place, key_group, key_word, key_kind}
use Rattle.places.specs.KeyLaws.{listed_kind, listed_placed, listed_few}
use Rattle.places.specs.Holds.{flag_code, code_of, Coded, SlotKeeps, RowKeeps}
use Rattle.places.specs.KeySlots.{RowInTable, ValueInFile, key_slot, is_taken}
use Rattle.places.specs.declared.KeyName.{KeyName}
use Rattle.places.proofs.RowLaws.{given_entry, kept_given}

-- ---- what a row keeps of a key

module _ {d : Dialect} {file x : List ℕ} {b : ℕ} (k : KeyName) {es : List Entry} (h : RowKeeps d file x b (key_group k) es) where
  key_kept : SlotKeeps d (Some (key_kind k)) file (slot (b + place (key_word k) (key_names (key_group k))) x) (entry_of (key_word k) es)
  key_kept = rw (← listed_kind k) (h.each (key_word k) (λ z. let p = (listed_few k).0 in omega (arith, z, p, listed_placed k)))

  pub row_key : SlotKeeps d (Some (key_kind k)) file (slot (b + key_place k) x) (entry_of (key_word k) es)
  row_key = rw (← listed_placed k) key_kept

  -- a slot of a row is taken where its key is given
  pub taken_given : is_taken x b k ≡ given (key_word k) es
  taken_given = sym (kept_given d (Some (key_kind k)) file (slot (b + place (key_word k) (key_names (key_group k))) x) (entry_of (key_word k) es) key_kept refl) ∙ sym (given_entry (key_word k) es)

  -- what a row keeps of a key lies in the file
  pub row_in : RowInTable x b → ValueInFile file x b k
  row_in t = go (entry_of (key_word k) es) row_key
    where
      go : (o : Option Entry) → SlotKeeps d (Some (key_kind k)) file (key_slot x b k) o → ValueInFile file x b k
      go None q = record { table = t; low = rw (ap (λ (s : Slot). s.start) q, ap (λ (s : Slot). s.end) q) (le_refl 0); high = rw (ap (λ (s : Slot). s.end) q) (omega arith) }
      go (Some e) q = record { table = t; low = q.low; high = q.high }

-- ---- a word by its code

pub good_typed : (d : Dialect) (k : Kind) (v : List ℕ) {t : Typed} → judged d k v ≡ T.good t → typed d k v ≡ Some t
unfolding judged kind_judged
good_typed d k v {t} e = go (value_text v) (string_broken k v) (typed d k v) e
  where
    go : (a b : Bool) (o : Option Typed) → cond a (cond b T.broken_text (by_kind o)) T.broken_text ≡ T.good t → o ≡ Some t
    go false b o e = let z : ◌≡◌ {A = ℕ} 0 1 = cc in absurd (omega arith)
    go true true o e = let z : ◌≡◌ {A = ℕ} 0 1 = cc in absurd (omega arith)
    go true false None e = let z : ◌≡◌ {A = ℕ} 0 1 = cc in absurd (omega arith)
    go true false (Some u) e = let z : u ≡ t = cc in ap Some z

-- a good value of a kind that reads it by f, with its code
pub record CodedBy {A : Type 0} (f : List ℕ → Option A) (number : A → ℕ) (v : List ℕ) (n : ℕ) : Type 0 where
  pub value : A
  pub is : f v ≡ Some value
  pub code : n ≡ number value

module _ {A : Type 0} (f : List ℕ → Option A) (t : A → Typed) (d : Dialect) (k : Kind) (v : List ℕ) (q : typed d k v ≡ mapped t (f v)) where
  pub coded_by : {n : ℕ} → Coded d (Some k) v n → CodedBy f (λ a. code_of (t a)) v n
  coded_by {n} h =
      let e : h.kind ≡ k = same_Some h.kind k (sym h.of_kind) in
      go (f v) refl h.typed (sym q ∙ good_typed d k v (subst (λ (m : Kind). judged d m v ≡ T.good h.typed) e h.good)) h.is
    where
      go : (o : Option A) → f v ≡ o → (u : Typed) → mapped t o ≡ Some u → n ≡ code_of u → CodedBy f (λ a. code_of (t a)) v n
      go None p u e w = absurd (none-some u e)
      go (Some a) p u e w = record { value = a; is = p; code = w ∙ ap code_of (sym (same_Some (t a) u e)) }

pub coded_word : (d : Dialect) (l : WordList) (v : List ℕ) {n : ℕ} → Coded d (Some (Named l)) v n → CodedBy (word_of l) word_number v n
unfolding typed
coded_word d l v h = coded_by (word_of l) T.word d (Named l) v refl h

pub coded_flag : (d : Dialect) (v : List ℕ) {n : ℕ} → Coded d (Some Flag) v n → CodedBy (flag d) flag_code v n
unfolding typed
coded_flag d v h = coded_by (flag d) T.flag d Flag v refl h

pub coded_mask : (d : Dialect) (v : List ℕ) {n : ℕ} → Coded d (Some Netmask) v n → CodedBy netmask (λ m. m) v n
unfolding typed
coded_mask d v h = coded_by netmask T.mask_length d Netmask v refl h

pub kept_word : (d : Dialect) (l : WordList) (file : List ℕ) (s : Slot) (o : Option Entry) → SlotKeeps d (Some (Named l)) file s o → (w : Word) → eqb s.code (word_number w) ≡ is_word w (and_then o (λ e. word_of l e.value))
kept_word d l file s None q w = rw (ap (λ (t : Slot). t.code) q) (ne_eqb 0 (word_number w) (λ e. word_some w e))
  where
    word_some : (w : Word) → 0 ≡ word_number w → ⊥
    word_some Wifi e = omega (arith, e)
    word_some Ethernet e = omega (arith, e)
    word_some Disabled e = omega (arith, e)
    word_some Enabled e = omega (arith, e)
    word_some Preferred e = omega (arith, e)
    word_some Psk e = omega (arith, e)
    word_some Ieee8021x e = omega (arith, e)
    word_some Word.None e = omega (arith, e)
    word_some Wep e = omega (arith, e)
kept_word d l file s (Some x) h w = let c = coded_word d l x.value h.code in ap (λ (n : ℕ). eqb n (word_number w)) c.code ∙ sym (ap (is_word w) c.is)

-- ---- a no by its code

pub kept_no : (d : Dialect) (file : List ℕ) (s : Slot) (o : Option Entry) → SlotKeeps d (Some Flag) file s o → eqb s.code (flag_code false) ≡ is_no (and_then o (λ e. flag d e.value))
kept_no d file s None q = rw (ap (λ (t : Slot). t.code) q)
kept_no d file s (Some x) h = let c = coded_flag d x.value h.code in ap (λ (n : ℕ). eqb n (flag_code false)) c.code ∙ code_no c.value ∙ sym (ap is_no c.is)
  where
    code_no : (b : Bool) → eqb (flag_code b) (flag_code false) ≡ is_no (Some b)
    code_no true = refl
    code_no false = refl
