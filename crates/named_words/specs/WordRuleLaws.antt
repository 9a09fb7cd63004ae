-- What `flag` and `word_of` find in their tables is what the rows of the rules say.
use Rattle.std.specs.Prelude.{ℕ, ◌≡◌, refl, Bool, true, false, cond, List, [], ◌∷◌, Some}
use Rattle.std.proofs.Common.{ap, sym, ◌∙◌, inl, inr}
use Rattle.std.proofs.lemmas.Option.{same_Some, none-some}
use Rattle.text.specs.Laws.{same_eq}
use Rattle.text.specs.Relations.{Each, Any}
use Rattle.text.specs.Words.{same, named}
use Rattle.text.specs.declared.Dialect.{Dialect}
use Rattle.text.specs.declared.Dialect.TheVariants.{Iwd, ConnMan}
use Rattle.named_words.specs.NamedWords.{flag_words, flag, words_of, word_of}
use Rattle.named_words.specs.WordRules.{Means, flag_rows, word_rows}
use Rattle.named_words.specs.declared.Word.{Word}
use Rattle.named_words.specs.declared.WordList.{WordList}
use Rattle.named_words.specs.declared.WordList.TheVariants.{ServiceType, Privacy, Security}

-- ---- a table of words

module _ {A : Type 0} where
  -- the row of a word and what it means
  abbrev RowOf : List ℕ → A → List ℕ × A → Type 0
  RowOf v x row = (v ≡ row.0) × (x ≡ row.1)

  named_row : (v : List ℕ) (t : List (List ℕ × A)) {x : A} → named v t ≡ Some x → Any (RowOf v x) t
  named_row v [] {x} e = absurd (none-some x e)
  named_row v (r ∷ t) {x} e = go (same v r.0) refl (λ k. named_row v t k) e
    where
      go : (b : Bool) → same v r.0 ≡ b → (named v t ≡ Some x → Any (RowOf v x) t) →
          cond b (Some r.1) (named v t) ≡ Some x → Any (RowOf v x) (r ∷ t)
      go true q f e = inl (same_eq v r.0 q, sym (same_Some r.1 x e))
      go false q f e = inr (f e)

  -- a table in which each word is found where it stands
  abbrev Found : List (List ℕ × A) → List (List ℕ × A) → Type 0
  Found t rows = Each (λ row. named row.0 t ≡ Some row.1) rows

  row_named : (t rows : List (List ℕ × A)) → Found t rows → (v : List ℕ) {x : A} → Any (RowOf v x) rows →
      named v t ≡ Some x
  row_named t [] d v h = absurd h
  row_named t (r ∷ rows) d v (inl h) = ap (λ (u : List ℕ). named u t) h.0 ∙ d.0 ∙ ap Some (sym h.1)
  row_named t (r ∷ rows) d v (inr h) = row_named t rows d.1 v h

-- ---- yes/no

pub flag_means : (d : Dialect) (v : List ℕ) {b : Bool} → flag d v ≡ Some b → Means (flag_rows d) v b
unfolding flag
flag_means Iwd v e = named_row v (flag_words Iwd) e
flag_means ConnMan v e = named_row v (flag_words ConnMan) e

pub means_flag : (d : Dialect) (v : List ℕ) {b : Bool} → Means (flag_rows d) v b → flag d v ≡ Some b
unfolding flag
means_flag Iwd v h = row_named (flag_words Iwd) (flag_words Iwd) (refl, (refl, (refl, (refl, tt)))) v h
means_flag ConnMan v h = row_named (flag_words ConnMan) (flag_words ConnMan) (refl, (refl, tt)) v h

-- ---- named words

pub word_means : (l : WordList) (v : List ℕ) {w : Word} → word_of l v ≡ Some w → Means (word_rows l) v w
unfolding word_of
word_means ServiceType v e = named_row v (words_of ServiceType) e
word_means Privacy v e = named_row v (words_of Privacy) e
word_means Security v e = named_row v (words_of Security) e

pub means_word : (l : WordList) (v : List ℕ) {w : Word} → Means (word_rows l) v w → word_of l v ≡ Some w
unfolding word_of
means_word ServiceType v h = row_named (words_of ServiceType) (words_of ServiceType) (refl, (refl, tt)) v h
means_word Privacy v h = row_named (words_of Privacy) (words_of Privacy) (refl, (refl, (refl, (refl, tt)))) v h
means_word Security v h = row_named (words_of Security) (words_of Security) (refl, (refl, (refl, (refl, tt)))) v h
