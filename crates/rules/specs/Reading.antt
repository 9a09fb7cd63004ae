-- The reading of a file: "Order: 1, 2; then the first faulty line ..; then each service in file order (iwd: the file), 14 before 15 within it."
use Rattle.std.specs.Prelude.{ℕ, suc, ◌+◌, cond, List, [], ◌∷◌, reverse, leb, length, Option, None, Some, Err}
use Rattle.text.specs.Parts.{lines}
use Rattle.text.specs.Options.{mapped, only, or_else}
use Rattle.text.specs.declared.Dialect.{Dialect}
use Rattle.text.specs.declared.Dialect.TheVariants.{Iwd, ConnMan}
use Rattle.lines.specs.Lines.{line_of, value_start}
use Rattle.names.specs.Names.{network_of, connman_name}
use Rattle.names.specs.declared.Suffix.{Suffix}
use Rattle.rules.specs.Sections.{Section, settings, services, with_line}
use Rattle.rules.specs.Faults.{fault_at, fault}
use Rattle.rules.specs.declared.Fault.{Fault}
use Rattle.rules.specs.Groups.{services_fault, file_fault}
use Rattle.rules.specs.declared.Refusal.TheVariants.{Size, FileName}
use Rattle.rules.specs.Answering.{Reading, accepted_with, refused_at}

-- the groups after a line, whose number is n and which starts at s
abbrev pub after_line : Dialect → ℕ → ℕ → List ℕ → List Section → List Section
after_line d n s l gs = with_line d n s (value_start d l) (line_of d l) gs

-- the first faulty line, each judged after those before it
unfoldable pub line_fault : Dialect → ℕ → ℕ → List Section → List (List ℕ) → Option Fault
line_fault d n s gs [] = None
line_fault d n s gs (l ∷ ls) = or_else (fault_at n (fault d gs (line_of d l))) (line_fault d (suc n) (s + length l + 1) (after_line d n s l gs) ls)

-- the groups after all lines, the latest first
unfoldable pub grown : Dialect → ℕ → ℕ → List Section → List (List ℕ) → List Section
grown d n s gs [] = gs
grown d n s gs (l ∷ ls) = grown d (suc n) (s + length l + 1) (after_line d n s l gs) ls

-- the groups of a file, in file order
unfoldable pub sections_of : Dialect → List ℕ → List Section
sections_of d file = reverse (grown d 1 0 [] (lines file))

-- what a file's name says: of an iwd file its suffix
pub data Name : Type 0 where
  iwd_name : Suffix → Name
  connman_file : Name

abbrev pub name_in : Dialect → List ℕ → Option Name
name_in Iwd n = mapped (λ x. iwd_name x.suffix) (network_of n)
name_in ConnMan n = only (connman_name n) (Some connman_file)

-- the groups as a whole
abbrev pub groups_fault : Name → List Section → Option Fault
groups_fault (iwd_name s) gs = file_fault s gs
groups_fault connman_file gs = services_fault gs

abbrev pub verdict : Option Fault → List Section → Reading
verdict (Some f) gs = Err f
verdict None gs = accepted_with (settings gs) (services gs)

abbrev pub reading_of : Dialect → Option Name → List ℕ → Reading
reading_of d None file = refused_at FileName 0
reading_of d (Some n) file = verdict (or_else (line_fault d 1 0 [] (lines file)) (groups_fault n (sections_of d file))) (sections_of d file)

-- "file over 16,384 bytes" (1), "file name breaks its rule" (2)
unfoldable pub reading : Dialect → List ℕ → List ℕ → Reading
reading d name file = cond (leb (length file) 16384) (reading_of d (name_in d name) file) (refused_at Size 0)
