-- What a string's text stands for, said of its bytes. `StringRuleLaws` shows that `unescape` keeps to it.
use Rattle.std.specs.Prelude.{ℕ, ◌≡◌, List, [], ◌∷◌}

-- "`\s` `\t` `\r` `\n` `\\`": the letter behind the backslash, and the byte that the two stand for
pub data Escape : ℕ → ℕ → Type 0 where
  space : Escape 115 32
  tab : Escape 116 9
  return : Escape 114 13
  newline : Escape 110 10
  backslash : Escape 92 92

-- a text in which each backslash begins one of the five, and the bytes that it stands for
pub data Unescaped : List ℕ → List ℕ → Type 0 where
  no_more : Unescaped [] []
  as_it_stands : {c : ℕ} {s t : List ℕ} → ¬ (c ≡ 92) → Unescaped s t → Unescaped (c ∷ s) (c ∷ t)
  escaped : {c byte : ℕ} {s t : List ℕ} → Escape c byte → Unescaped s t → Unescaped (92 ∷ c ∷ s) (byte ∷ t)
