-- The form of a name line, byte by byte: "ConnMan: one or more letters or digits, then `.config`."
use Rattle.std.specs.Prelude.{ℕ, ◌+◌, Bool, false, cond, List, [], ◌∷◌, eqb, leb, get_or}
use Rattle.text.specs.Bytes.{is_alphanumeric}
use Rattle.text.specs.Words.{word}
use Rattle.intake.specs.declared.Form.{Form}
use Rattle.intake.specs.declared.Form.TheVariants.{Empty, Stem, Suffix, Broken}

-- the form with one more byte; `Suffix n` has n bytes of `.config` behind the letters and digits
abbrev pub form_after : Form → ℕ → Form
form_after Empty b = cond (is_alphanumeric b) Stem Broken
form_after Stem b = cond (is_alphanumeric b) Stem (cond (eqb b 46) (Suffix 1) Broken)
form_after (Suffix n) b = cond (leb 7 n) Broken (cond (eqb b (get_or (word ".config") n 0)) (Suffix (n + 1)) Broken)
form_after Broken b = Broken

-- the form with the bytes of s behind
abbrev pub form_from : Form → List ℕ → Form
form_from f [] = f
form_from f (b ∷ s) = form_from (form_after f b) s

-- the whole of `.config` has been read
abbrev pub complete : Form → Bool
complete Empty = false
complete Stem = false
complete (Suffix n) = eqb n 7
complete Broken = false
