-- The number of each named word, by which words are compared.
use Rattle.std.specs.Prelude.{ℕ, Bool, false, eqb, Option, None, Some}
use Rattle.named_words.specs.declared.Word.{Word}
use Rattle.named_words.specs.declared.Word.TheVariants.{Wifi, Ethernet, Disabled, Enabled, Preferred, Psk, Ieee8021x, Wep}

abbrev pub word_number : Word → ℕ
word_number Wifi = 1
word_number Ethernet = 2
word_number Disabled = 3
word_number Enabled = 4
word_number Preferred = 5
word_number Psk = 6
word_number Ieee8021x = 7
word_number Word.None = 8
word_number Wep = 9

-- whether a word is given and is w
abbrev pub is_word : Word → Option Word → Bool
is_word w None = false
is_word w (Some x) = eqb (word_number x) (word_number w)
