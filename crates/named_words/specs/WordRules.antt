-- Yes/no and the named words, said of the bytes: `WordRuleLaws` shows that `flag` and `word_of` keep to it.
use Rattle.std.specs.Prelude.{ℕ, ◌≡◌, Bool, true, false, List, [], ◌∷◌}
use Prim.Native.String.{String}
use Rattle.text.specs.Relations.{Any}
use Rattle.text.specs.Words.{word}
use Rattle.text.specs.declared.Dialect.{Dialect}
use Rattle.text.specs.declared.Dialect.TheVariants.{Iwd, ConnMan}
use Rattle.named_words.specs.declared.Word.{Word}
use Rattle.named_words.specs.declared.Word.TheVariants as W
use Rattle.named_words.specs.declared.WordList.{WordList}
use Rattle.named_words.specs.declared.WordList.TheVariants.{ServiceType, Privacy, Security}

-- the text is the word of a row, and means what the row says
abbrev pub Means : {A : Type 0} → List (String × A) → List ℕ → A → Type 0
Means rows v x = Any (λ row. (v ≡ word row.0) × (x ≡ row.1)) rows

-- "bool": "true, false, 1, 0" in iwd, "true, false" in ConnMan
abbrev pub flag_rows : Dialect → List (String × Bool)
flag_rows Iwd = ("true", true) ∷ ("false", false) ∷ ("1", true) ∷ ("0", false) ∷ []
flag_rows ConnMan = ("true", true) ∷ ("false", false) ∷ []

-- "Type (wifi, ethernet)"; "IPv6.Privacy (disabled, enabled, preferred; prefered reads as preferred)"; "Security (psk, ieee8021x, none, wep)"
abbrev pub word_rows : WordList → List (String × Word)
word_rows ServiceType = ("wifi", W.Wifi) ∷ ("ethernet", W.Ethernet) ∷ []
word_rows Privacy =
    ("disabled", W.Disabled) ∷ ("enabled", W.Enabled) ∷ ("preferred", W.Preferred) ∷ ("prefered", W.Preferred) ∷ []
word_rows Security = ("psk", W.Psk) ∷ ("ieee8021x", W.Ieee8021x) ∷ ("none", W.None) ∷ ("wep", W.Wep) ∷ []
