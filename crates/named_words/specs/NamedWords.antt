-- Yes/no and the named words, as document 01 lists them under "Settings and their kinds": none where the value is no such word.
use Rattle.std.specs.Prelude.{ℕ, Bool, true, false, List, [], ◌∷◌, Option}
use Rattle.text.specs.Words.{word, named}
use Rattle.text.specs.declared.Dialect.{Dialect}
use Rattle.text.specs.declared.Dialect.TheVariants.{Iwd, ConnMan}
use Rattle.named_words.specs.declared.Word.{Word}
use Rattle.named_words.specs.declared.Word.TheVariants.{Wifi, Ethernet, Disabled, Enabled, Preferred, Psk, Ieee8021x, Wep}
use Rattle.named_words.specs.declared.WordList.{WordList}
use Rattle.named_words.specs.declared.WordList.TheVariants.{ServiceType, Privacy, Security}

-- "bool": "true, false" in ConnMan; in iwd also "1, 0"
abbrev pub flag_digits : Dialect → List (List ℕ × Bool)
flag_digits Iwd = (word "1", true) ∷ (word "0", false) ∷ []
flag_digits ConnMan = []

abbrev pub flag_words : Dialect → List (List ℕ × Bool)
flag_words d = (word "true", true) ∷ (word "false", false) ∷ flag_digits d

unfoldable pub flag : Dialect → List ℕ → Option Bool
flag d s = named s (flag_words d)

-- "Type (wifi, ethernet)"; "IPv6.Privacy (disabled, enabled, preferred; prefered reads as preferred)"; "Security (psk, ieee8021x, none, wep)"
abbrev pub words_of : WordList → List (List ℕ × Word)
words_of ServiceType = (word "wifi", Wifi) ∷ (word "ethernet", Ethernet) ∷ []
words_of Privacy =
    (word "disabled", Disabled) ∷ (word "enabled", Enabled) ∷ (word "preferred", Preferred) ∷ (word "prefered", Preferred) ∷ []
words_of Security = (word "psk", Psk) ∷ (word "ieee8021x", Ieee8021x) ∷ (word "none", Word.None) ∷ (word "wep", Wep) ∷ []

unfoldable pub word_of : WordList → List ℕ → Option Word
word_of w s = named s (words_of w)
