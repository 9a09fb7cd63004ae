-- What the settings of a service lack or contradict is what its lines lack or contradict.
use Rattle.std.specs.Prelude.{ℕ, ◌≡◌, Bool, true, false, cond, not, ◌&&◌, List, [], ◌∷◌, Option, None, Some}
use Prim.Native.String.{String}
use Rattle.std.proofs.Math.Path.{refl, sym}
use Rattle.std.proofs.Common.{◌∙◌, subst, inl, inr}
use Rattle.std.proofs.lemmas.Bool.{false≢true, not-true}
use Rattle.text.specs.Options.{and_then}
use Rattle.text.specs.Words.{word, same, named}
use Rattle.text.specs.Laws.{and_true}
use Rattle.text.specs.Relations.{Any}
use Rattle.text.specs.RelationLaws.{some_weaken}
use Rattle.text.specs.Decides.{Decides, holds, fails, decides_not, decides_alike, decides_and, decides_or, same_decides}
use Rattle.named_words.specs.NamedWords.{words_of, word_of}
use Rattle.named_words.specs.declared.Word.{Word}
use Rattle.named_words.specs.declared.Word.TheVariants.{Wifi, Ethernet, Psk}
use Rattle.named_words.specs.declared.WordList.{WordList}
use Rattle.named_words.specs.declared.WordList.TheVariants as W
use Rattle.lines.specs.Lines.{Line}
use Rattle.rules.specs.Sections.{Entry, given, entry_of}
use Rattle.rules.specs.Groups.{lack_or_clash, word_given, lacks, clashes, service_fault}
use Rattle.rules.specs.WordNumbers.{is_word}
use Rattle.rules.specs.GroupRules.{Has, HasValue, Faulty, missing, contradicts, ServiceLacks, ServiceClashes}
use Rattle.rules.proofs.SectionLaws.{KeyValue, Once, entry_pairs, line_pairs, pairs_tell, given_tells}
use Rattle.rules.specs.declared.Refusal.{Refusal}

-- ---- a word that is spelled in one way only

-- no row of the table stands for the word; only the row of the text v does
abbrev unlisted : Word → List (List ℕ × Word) → Bool
unlisted w [] = true
unlisted w (row ∷ t) = not (is_word w (Some row.1)) && unlisted w t

abbrev spelled : Word → List ℕ → List (List ℕ × Word) → Bool
spelled w v [] = false
spelled w v (row ∷ t) =
    cond (same row.0 v) (is_word w (Some row.1) && unlisted w t) (not (is_word w (Some row.1)) && spelled w v t)

unlisted_named : (w : Word) (u : List ℕ) (t : List (List ℕ × Word)) → unlisted w t ≡ true → is_word w (named u t) ≡ false
unlisted_named w u [] h = refl
unlisted_named w u (row ∷ t) h =
    let p = and_true (not (is_word w (Some row.1))) (unlisted w t) h in
    go (same u row.0) (not-true (is_word w (Some row.1)) p.0) (unlisted_named w u t p.1)
  where
    go : (b : Bool) → is_word w (Some row.1) ≡ false → is_word w (named u t) ≡ false →
        is_word w (cond b (Some row.1) (named u t)) ≡ false
    go true e f = e
    go false e f = f

spelled_tells : (w : Word) (v : List ℕ) (t : List (List ℕ × Word)) → spelled w v t ≡ true →
    (u : List ℕ) → Decides (u ≡ v) (is_word w (named u t))
spelled_tells w v [] h u = absurd (false≢true h)
spelled_tells w v (row ∷ t) h u = go (same_decides row.0 v) (same_decides u row.0) h (λ k. spelled_tells w v t k u)
  where
    go : {a b : Bool} → Decides (row.0 ≡ v) a → Decides (u ≡ row.0) b →
        cond a (is_word w (Some row.1) && unlisted w t) (not (is_word w (Some row.1)) && spelled w v t) ≡ true →
        (spelled w v t ≡ true → Decides (u ≡ v) (is_word w (named u t))) →
        Decides (u ≡ v) (is_word w (cond b (Some row.1) (named u t)))
    go (holds p) (holds q) h k =
        let e = and_true (is_word w (Some row.1)) (unlisted w t) h in
        subst (Decides (u ≡ v)) (sym e.0) (holds (q ∙ p))
    go (holds p) (fails q) h k =
        let e = and_true (is_word w (Some row.1)) (unlisted w t) h in
        subst (Decides (u ≡ v)) (sym (unlisted_named w u t e.1)) (fails (λ i. q (i ∙ sym p)))
    go (fails p) (holds q) h k =
        let e = and_true (not (is_word w (Some row.1))) (spelled w v t) h in
        subst (Decides (u ≡ v)) (sym (not-true (is_word w (Some row.1)) e.0)) (fails (λ i. p (sym q ∙ i)))
    go (fails p) (fails q) h k = k (and_true (not (is_word w (Some row.1))) (spelled w v t) h).1

-- ---- whether a key is given a value that a test tells

-- one of the pairs is the key with such a value
abbrev Said : List ℕ → (List ℕ → Type 0) → List KeyValue → Type 0
Said k So ps = Any (λ p. (k ≡ p.0) × So p.1) ps

module _ {A : Type 0} (f : List ℕ → Option A) (test : Option A → Bool) (absent : test None ≡ false)
    (So : List ℕ → Type 0) (tells : (u : List ℕ) → Decides (So u) (test (f u))) (k : List ℕ) where
  pub value_tells : (es : List Entry) → Once (entry_pairs es) →
      Decides (Said k So (entry_pairs es)) (test (and_then (entry_of k es) (λ x. f x.value)))
  value_tells [] o = rw absent (fails (λ z. z))
  value_tells (x ∷ es) o = go (same_decides k x.key) (value_tells es o.1)
    where
      first : k ≡ x.key → Said k So (entry_pairs (x ∷ es)) → So x.value
      first e (inl h) = h.1
      first e (inr h) =
          let value : (p : KeyValue) → (k ≡ p.0) × So p.1 → x.key ≡ p.0 = λ p i. sym e ∙ i.0 in
          absurd (o.0 (some_weaken (λ (p : KeyValue). (k ≡ p.0) × So p.1) (λ (p : KeyValue). x.key ≡ p.0) value (entry_pairs es) h))

      further : ¬ (k ≡ x.key) → Said k So (entry_pairs (x ∷ es)) → Said k So (entry_pairs es)
      further n (inl h) = absurd (n h.0)
      further n (inr h) = h

      go : {b : Bool} → Decides (k ≡ x.key) b →
          Decides (Said k So (entry_pairs es)) (test (and_then (entry_of k es) (λ y. f y.value))) →
          Decides (Said k So (entry_pairs (x ∷ es))) (test (and_then (cond b (Some x) (entry_of k es)) (λ y. f y.value)))
      go (holds e) r = decides_alike (λ i. inl (e, i)) (first e) (tells x.value)
      go (fails n) r = decides_alike (λ h. inr h) (further n) r

-- ---- a rule over a group

abbrev pub Ruled : Type 0 → Type 0 → Option Refusal → Type 0
Ruled L C None = (¬ L) × (¬ C)
Ruled L C (Some r) = Faulty L C r

pub ruled : {L C : Type 0} {a b : Bool} → Decides L a → Decides C b → Ruled L C (lack_or_clash a b)
ruled (holds l) (holds c) = missing l
ruled (holds l) (fails c) = missing l
ruled (fails l) (holds c) = contradicts l c
ruled (fails l) (fails c) = (l, c)

pub faulty_sound : {L C : Type 0} {r : Refusal} → Faulty L C r → (¬ L) × (¬ C) → ⊥
faulty_sound (missing l) h = h.0 l
faulty_sound (contradicts n c) h = h.1 c

pub faulty_unique : {L C : Type 0} {r q : Refusal} → Faulty L C r → Faulty L C q → r ≡ q
faulty_unique (missing l) (missing k) = refl
faulty_unique (missing l) (contradicts n c) = absurd (n l)
faulty_unique (contradicts n c) (missing l) = absurd (n l)
faulty_unique (contradicts n c) (contradicts k e) = refl

-- ---- a service

module _ (es : List Entry) (ls : List Line) (q : entry_pairs es ≡ line_pairs ls) (o : Once (line_pairs ls)) where
  has_key : (k : String) → Decides (Has k ls) (given (word k) es)
  has_key k = pairs_tell (λ j u. word k ≡ j) es ls q (given_tells (word k) es)

  has_value : (k v : String) (w : Word) (t : WordList) → spelled w (word v) (words_of t) ≡ true →
      Decides (HasValue k v ls) (is_word w (word_given t (word k) es))
  unfolding word_of
  has_value k v w t h =
      pairs_tell (λ j u. (word k ≡ j) × (word v ≡ u)) es ls q
      (value_tells (word_of t) (is_word w) refl (λ u. word v ≡ u) (λ u. decides_alike sym sym (spelled_tells w (word v) (words_of t) h u))
      (word k) es (rw q o))

  lacks_tells : Decides (ServiceLacks ls) (lacks es)
  lacks_tells =
      decides_or (decides_not (has_key "Type"))
      (decides_or
      (decides_and (has_value "Type" "wifi" Wifi W.ServiceType refl) (decides_not (decides_or (has_key "Name") (has_key "SSID"))))
      (decides_and (has_value "Security" "psk" Psk W.Security refl) (decides_not (has_key "Passphrase"))))

  clashes_tells : Decides (ServiceClashes ls) (clashes es)
  clashes_tells =
      decides_or
      (decides_and (has_value "Type" "ethernet" Ethernet W.ServiceType refl)
      (decides_or (has_key "Name")
      (decides_or (has_key "SSID") (decides_or (has_key "Passphrase") (decides_or (has_key "Security") (has_key "Hidden"))))))
      (decides_and (has_value "Security" "none" Word.None W.Security refl) (has_key "Passphrase"))

  pub service_ruled : Ruled (ServiceLacks ls) (ServiceClashes ls) (service_fault es)
  unfolding service_fault
  service_ruled = ruled lacks_tells clashes_tells
