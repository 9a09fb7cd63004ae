-- Yes/no and the named words are printable, since each word of the tables is.
use Rattle.std.specs.Prelude.{ℕ, ◌≡◌, refl, Bool, List, [], ◌∷◌}
use Prim.Native.String.{String}
use Rattle.std.proofs.Common.{inl, inr}
use Rattle.text.specs.Relations.{Each}
use Rattle.text.specs.Words.{word}
use Rattle.text.specs.Printable.{Printable}
use Rattle.text.specs.declared.Dialect.{Dialect}
use Rattle.text.specs.declared.Dialect.TheVariants.{Iwd, ConnMan}
use Rattle.named_words.specs.WordRules.{Means, flag_rows, word_rows}
use Rattle.named_words.specs.declared.Word.{Word}
use Rattle.named_words.specs.declared.WordList.{WordList}
use Rattle.named_words.specs.declared.WordList.TheVariants.{ServiceType, Privacy, Security}

module _ {A : Type 0} (v : List ℕ) (x : A) where
  means_printable : (rows : List (String × A)) → Each (λ row. Printable (word row.0)) rows → Means rows v x →
      Printable v
  means_printable [] e h = absurd h
  means_printable (r ∷ rows) e (inl h) = rw h.0 e.0
  means_printable (r ∷ rows) e (inr h) = means_printable rows e.1 h

pub flag_printable : (d : Dialect) (v : List ℕ) (b : Bool) → Means (flag_rows d) v b → Printable v
flag_printable Iwd v b h = means_printable v b (flag_rows Iwd) (refl, (refl, (refl, (refl, tt)))) h
flag_printable ConnMan v b h = means_printable v b (flag_rows ConnMan) (refl, (refl, tt)) h

pub word_printable : (l : WordList) (v : List ℕ) (w : Word) → Means (word_rows l) v w → Printable v
word_printable ServiceType v w h = means_printable v w (word_rows ServiceType) (refl, (refl, tt)) h
word_printable Privacy v w h = means_printable v w (word_rows Privacy) (refl, (refl, (refl, (refl, tt)))) h
word_printable Security v w h = means_printable v w (word_rows Security) (refl, (refl, (refl, (refl, tt)))) h
