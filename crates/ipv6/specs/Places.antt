-- Places in a text, in the bytes read and in the groups written: what the code's private steps answer.
use Rattle.std.specs.Prelude.{◌≡◌, cond, List, ℕ, ◌+◌, ◌≤◌, leb, length, take, drop, Option, None, Some}
use Rattle.text.specs.Bytes.{other}
use Rattle.text.specs.Parts.{part, padded}
use Rattle.text.specs.Scans.{Stop}
use Rattle.ipv6.specs.Ipv6.{group, halves}
use Rattle.put.specs.declared.Bounded.{Bounded}
use Rattle.ipv6.specs.declared.Group.{Group}
use Rattle.ipv6.specs.declared.Run.{Run}

-- the piece that starts at at ends where r says, and r has the group that it gives
pub record GroupAt (s : List ℕ) (at : ℕ) (r : Group) : Type 0 where
  pub stop : Stop (other 58) s at r.end
  pub is : r.value ≡ group (part at r.end s)

-- the first "::" stands at r
pub record Gap (s : List ℕ) (r : ℕ) : Type 0 where
  pub is : halves s ≡ Some (take r s, drop (r + 2) s)
  pub room : r + 2 ≤ length s

-- the first "::" stands where r says, or nowhere
abbrev pub GapAt : List ℕ → Option ℕ → Type 0
GapAt s None = halves s ≡ None
GapAt s (Some r) = Gap s r

-- of sixteen bytes those up to the length are read, and zeros stand behind them
pub record Padded (b : Bounded 16) : Type 0 where
  pub room : b.len ≤ 16
  pub long : length b.bytes ≡ 16
  pub is : b.bytes ≡ padded 16 (take b.len b.bytes)

-- of a run and the n zeros from i on, which stand before it, the longer; of equals the first
abbrev pub longer : Run → ℕ → ℕ → Run
longer r i n = cond (leb r.len n) (record { start = i; len = n }) r
