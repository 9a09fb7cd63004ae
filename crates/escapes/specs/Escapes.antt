-- The five escapes of a string, and how a string is written with them.
use Rattle.std.specs.Prelude.{ℕ, Bool, true, false, cond, ◌&&◌, List, [], ◌∷◌, ◌++◌, eqb, Option, None, Some}
use Rattle.text.specs.Options.{and_then, prepend}

-- "escapes in strings": `\s` `\t` `\r` `\n` `\\` in iwd, and by request 2026-02 in ConnMan: "strings know `\s`, `\t`, `\r`, `\n` and `\\`"; what a
-- backslash and the byte c stand for, none where they are none of the five
abbrev pub meant : ℕ → Option ℕ
meant c =
    cond (eqb c 115) (Some 32)
    (cond (eqb c 116) (Some 9)
    (cond (eqb c 114) (Some 13)
    (cond (eqb c 110) (Some 10)
    (cond (eqb c 92) (Some 92)
    None))))

-- the text that is written as s, where a backslash stands before s (true) or not; none where a backslash does not begin one of the five
unfoldable pub unescape_from : Bool → List ℕ → Option (List ℕ)
unescape_from false [] = Some []
unescape_from true [] = None
unescape_from false (c ∷ s) = cond (eqb c 92) (unescape_from true s) (prepend c (unescape_from false s))
unescape_from true (c ∷ s) = and_then (meant c) (λ x. prepend x (unescape_from false s))

abbrev pub unescape : List ℕ → Option (List ℕ)
unescape s = unescape_from false s

-- "In strings byte 10, byte 13 and backslash are always escaped, space and tab only in first place; nothing else is."
abbrev pub shown : Bool → ℕ → List ℕ
shown first c =
    cond (eqb c 10) (92 ∷ 110 ∷ [])
    (cond (eqb c 13) (92 ∷ 114 ∷ [])
    (cond (eqb c 92) (92 ∷ 92 ∷ [])
    (cond (first && eqb c 32) (92 ∷ 115 ∷ [])
    (cond (first && eqb c 9) (92 ∷ 116 ∷ [])
    (c ∷ [])))))

unfoldable pub escape_from : Bool → List ℕ → List ℕ
escape_from first [] = []
escape_from first (c ∷ s) = shown first c ++ escape_from false s

abbrev pub escape : List ℕ → List ℕ
escape s = escape_from true s
