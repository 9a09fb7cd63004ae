-- What the program answers to its input.
use Rattle.std.specs.Prelude.{ℕ, cond, List, []}
use Rattle.text.specs.Words.{word}
use Rattle.text.specs.declared.Dialect.TheVariants.{Iwd, ConnMan}
use Rattle.names.specs.Dialects.{dialect_of}
use Rattle.rules.specs.Reading.{reading}
use Rattle.intake.specs.declared.Form.{Form}
use Rattle.intake.specs.Forms.{complete}
use Rattle.intake.specs.Input.{first_line, behind_line}
use Rattle.rules.specs.Answering.{Reading}

-- "a first line with the file name, then the file"
abbrev pub checked_input : List ℕ → Reading
checked_input i = reading (dialect_of (first_line i)) (first_line i) (behind_line i)

-- what is asked for a long name line: one name where it is complete, no name where it is not
abbrev pub long_answer : Form → List ℕ → Reading
long_answer f file = cond (complete f) (reading ConnMan (word "a.config") file) (reading Iwd [] file)
