-- A yes/no, a word and a mask's length by the code that the table of places keeps of a value: 0 where it keeps none.
use Rattle.std.specs.Prelude.{ℕ, zero, suc, Bool, true, false, cond, List, [], ◌∷◌, eqb, Option, None, Some}
use Rattle.named_words.specs.declared.Word.{Word}
use Rattle.named_words.specs.declared.Word.TheVariants as W
use Rattle.rules.specs.WordNumbers.{word_number}
use Rattle.places.specs.Holds.{flag_code}

abbrev pub choice_by : ℕ → Option Bool
choice_by n = cond (eqb n (flag_code false)) (Some false) (cond (eqb n (flag_code true)) (Some true) None)

-- the word with this number, of those that can be one
abbrev word_by : ℕ → List Word → Option Word
word_by n [] = None
word_by n (w ∷ ws) = cond (eqb n (word_number w)) (Some w) (word_by n ws)

unfoldable pub chosen_by : ℕ → Option Word
chosen_by n =
    word_by n (W.Wifi ∷ W.Ethernet ∷ W.Disabled ∷ W.Enabled ∷ W.Preferred ∷ W.Psk ∷ W.Ieee8021x ∷ W.None ∷ W.Wep ∷ [])

-- the code of a mask is its length
abbrev pub mask_by : ℕ → Option ℕ
mask_by zero = None
mask_by (suc n) = Some (suc n)
