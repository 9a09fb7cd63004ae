-- The codes of the C boundary: a number for each case of an enum, and the case that a number is.
use Rattle.std.specs.Prelude.{ℕ, suc, Bool, true, false, cond, eqb}
use Rattle.addressing.specs.declared.Method.{Method}
use Rattle.addressing.specs.declared.Method.TheVariants as M
use Rattle.named_words.specs.declared.Word.{Word}
use Rattle.named_words.specs.declared.Word.TheVariants as W
use Rattle.records.specs.declared.Credential.{Credential}
use Rattle.records.specs.declared.Credential.TheVariants as C

-- ---- of what is handed out

abbrev pub bit_of : Bool → ℕ
bit_of false = 0
bit_of true = 1

-- a word by its place in its list of words, from 1
abbrev pub word_code : Word → ℕ
word_code W.Wifi = 1
word_code W.Ethernet = 2
word_code W.Disabled = 1
word_code W.Enabled = 2
word_code W.Preferred = 3
word_code W.Psk = 1
word_code W.Ieee8021x = 2
word_code W.None = 3
word_code W.Wep = 4

abbrev pub credential_code : Credential → ℕ
credential_code C.None = 0
credential_code C.Passphrase = 1
credential_code C.Key = 2

abbrev pub method_code : Method → ℕ
method_code M.Auto = 0
method_code M.Off = 1
method_code M.Static = 2

-- of a setting, which may be absent: 0 then, and from 1 on the methods
abbrev pub given_method_code : Bool → Method → ℕ
given_method_code b m = cond b (suc (method_code m)) 0

-- ---- of what is brought in: a code that there is not stands for no case, and is refused before it is asked for one

abbrev pub bit_in : ℕ → Bool
bit_in n = eqb n 1

abbrev pub credential_in : ℕ → Credential
credential_in n = cond (eqb n 1) C.Passphrase (cond (eqb n 2) C.Key C.None)

abbrev pub method_in : ℕ → Method
method_in n = cond (eqb n 1) M.Off (cond (eqb n 2) M.Static M.Auto)
