-- What a scan over a slice finds, by index: where a run stops, how far it goes, and where trailing blanks begin.
use Rattle.std.specs.Prelude.{ℕ, ◌+◌, ◌≤◌, ◌<◌, ◌≡◌, Bool, List, length, drop}
use Rattle.text.specs.Parts.{lead, part, trimmed}

-- what a test in code answers of a byte is what the test p says
abbrev pub Computes : (ℕ → Bool → Type 0) → (ℕ → Bool) → Type 0
Computes answers p = (x : ℕ) (r : Bool) → x < 256 → answers x r → r ≡ p x

-- the run that starts at from ends at i
pub record Stop (p : ℕ → Bool) (s : List ℕ) (from i : ℕ) : Type 0 where
  pub is : i ≡ from + lead p (drop from s)
  pub within : i ≤ length s

-- the run that starts at from goes on at i
pub record Scan (p : ℕ → Bool) (s : List ℕ) (from i : ℕ) : Type 0 where
  pub within : i ≤ length s
  pub rest : i + lead p (drop i s) ≡ from + lead p (drop from s)

-- the bytes from from on without their trailing blanks end at e
pub record Trim (s : List ℕ) (from e : ℕ) : Type 0 where
  pub low : from ≤ e
  pub within : e ≤ length s
  pub is : part from e s ≡ trimmed (drop from s)
