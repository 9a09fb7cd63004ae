-- A text of at most so many bytes in the code's type: its length, and its bytes with zeros behind them.
use Rattle.std.specs.Prelude.{ℕ, List, length}
use Rattle.text.specs.Parts.{padded}
use Rattle.put.specs.declared.Bounded.{Bounded}

abbrev pub bounded : (most : ℕ) → List ℕ → Bounded most
bounded most t = record { len = length t; bytes = padded most t }
