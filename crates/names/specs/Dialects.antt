-- The dialect of a file by its name: "ConnMan: .. then `.config`", every other name is asked as iwd's.
use Rattle.std.specs.Prelude.{ℕ, ◌-◌, cond, List, ltb, length, drop}
use Rattle.text.specs.Words.{word, same}
use Rattle.text.specs.declared.Dialect.{Dialect}
use Rattle.text.specs.declared.Dialect.TheVariants.{Iwd, ConnMan}

-- a name of fewer than seven bytes is iwd's; of any other the last seven decide
abbrev pub dialect_of : List ℕ → Dialect
dialect_of f = cond (ltb (length f) 7) Iwd (cond (same (drop (length f - 7) f) (word ".config")) ConnMan Iwd)
