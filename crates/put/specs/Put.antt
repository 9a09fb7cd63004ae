-- What a writer leaves in a buffer.
use Rattle.std.specs.Prelude.{◌≡◌, List, ◌++◌, ℕ, ◌+◌, ◌≤◌, length, take, drop}

-- o with t over it at the place a
abbrev pub overlaid : List ℕ → ℕ → List ℕ → List ℕ
overlaid t a o = take a o ++ t ++ drop (a + length t) o

-- a writer's whole contract: the buffer held o and holds x, which is o with t over it at a; r is the place behind t
pub record Wrote (t : List ℕ) (a : ℕ) (o x : List ℕ) (r : ℕ) : Type 0 where
  pub next : r ≡ a + length t
  pub room : r ≤ length o
  pub long : length x ≡ length o
  pub text : x ≡ overlaid t a o
