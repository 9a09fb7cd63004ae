-- What the move of a ConnMan service to iwd answers: the file's own refusals, "18 next, then 16, then 17", or the file
-- name and the file of the service's record.
use Rattle.std.specs.Prelude.{ℕ, Bool, true, false, cond, not, List, [], ◌∷◌, ◌++◌, leb, Option, None, Some, Ok, Err}
use Rattle.text.specs.Words.{word}
use Rattle.text.specs.Options.{is_some}
use Rattle.text.specs.declared.Dialect.TheVariants as D
use Rattle.rules.specs.Sections.{Entry}
use Rattle.rules.specs.Asking.{entry_line, asked_of}
use Rattle.rules.specs.Reading.{reading}
use Rattle.rules.specs.declared.Refusal.TheVariants.{NoPlace}
use Rattle.writer.specs.Writing.{Writing, refuses, writing_of}
use Rattle.written.specs.Written.{ipv4_placed, ipv6_placed}
use Rattle.joins.specs.Joins.{wired, foreign, service_join, service_setting}
use Rattle.rules.specs.Answering.{Answer}

-- ---- what iwd has no place for; at gives the service's setting with a key

-- a setting's line, where it is such a line
abbrev pub line_if : Bool → Option Entry → List ℕ
line_if false e = []
line_if true e = entry_line e ∷ []

-- a setting that has no place whatever its value
abbrev pub line_given : Option Entry → List ℕ
line_given e = line_if (is_some e) e

-- "No place in iwd, for a move: Type ethernet; Security wep or ieee8021x; IPv4 off; static IPv4 without gateway; MAC;
-- IPv6.Privacy; SearchDomains; Timeservers.", and by request 2026-03 static IPv6 without gateway: the lines of the service that
-- hold a thing on this list
abbrev pub unplaced : (List ℕ → Option Entry) → List ℕ
unplaced at =
    line_if (wired at) (at (word "Type"))
    ++ line_if (foreign at) (at (word "Security"))
    ++ line_if (not (ipv4_placed (service_join at).ipv4)) (at (word "IPv4"))
    ++ line_if (not (ipv6_placed (service_join at).ipv6)) (at (word "IPv6"))
    ++ line_given (at (word "MAC"))
    ++ line_given (at (word "IPv6.Privacy"))
    ++ line_given (at (word "SearchDomains"))
    ++ line_given (at (word "Timeservers"))

-- "earliest such line of the service"
abbrev pub least : ℕ → Option ℕ → ℕ
least l None = l
least l (Some m) = cond (leb l m) l m

abbrev pub earliest : List ℕ → Option ℕ
earliest [] = None
earliest (l ∷ ls) = Some (least l (earliest ls))

-- ---- the move

abbrev pub or_unplaced : Option ℕ → Writing → Writing
or_unplaced None m = m
or_unplaced (Some l) m = refuses NoPlace l

abbrev pub moved_if_good : Answer → Writing → Writing
moved_if_good (Ok u) m = m
moved_if_good (Err f) m = refuses f.refusal f.line

-- 16 before 17; n is the buffer of the name, f that of the file
abbrev pub moving_of : (List ℕ → Option Entry) → List ℕ → List ℕ → Writing
moving_of at n f = or_unplaced (earliest (unplaced at)) (writing_of (service_join at) n f)

-- of service w of a file under its name: the file's own refusals and 18 before both
unfoldable pub moving : List ℕ → List ℕ → ℕ → List ℕ → List ℕ → Writing
moving name file w n f = moved_if_good (asked_of w (reading D.ConnMan name file)) (moving_of (service_setting w file) n f)
