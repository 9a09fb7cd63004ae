-- How a text falls into pieces between a byte, said of its bytes. `PieceLaws` shows that `pieces` gives them.
use Rattle.std.specs.Prelude.{ℕ, ◌≡◌, true, List, [], ◌∷◌, ◌++◌}
use Rattle.text.specs.Bytes.{other}
use Rattle.text.specs.Parts.{all}

-- the pieces of a text, one byte b between two of them and none inside
pub data Pieces (b : ℕ) : List ℕ → List (List ℕ) → Type 0 where
  last : {p : List ℕ} → all (other b) p ≡ true → Pieces b p (p ∷ [])
  next : {p rest : List ℕ} {ps : List (List ℕ)}
      → all (other b) p ≡ true → Pieces b rest ps → Pieces b (p ++ b ∷ rest) (p ∷ ps)
