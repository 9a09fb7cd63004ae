-- The text of settings and of a group, as the code writes them one by one.
use Rattle.std.specs.Prelude.{ℕ, Bool, true, false, List, [], ◌∷◌}
use Rattle.text.specs.declared.Dialect.TheVariants as D
use Rattle.lines.specs.Rendering.{rendered}
use Rattle.written.specs.Written.{WrittenRow, row_lines, headed_lines}

unfoldable pub rows_text : List WrittenRow → List ℕ
rows_text rs = rendered D.Iwd (row_lines rs)

unfoldable pub group_text : List ℕ → List WrittenRow → List ℕ
group_text n rs = rendered D.Iwd (headed_lines n rs)

-- whether there is a setting
abbrev pub some_row : List WrittenRow → Bool
some_row [] = false
some_row (r ∷ rs) = true
