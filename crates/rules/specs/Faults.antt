-- The fault of a line after the good lines before it, in document 01's order: a line that starts with `[`: 4, 5, 6, 7, 13; any other: 3, 8, 9, 10, 11, 12.
use Rattle.std.specs.Prelude.{ℕ, cond, ◌&&◌, List, [], ◌∷◌, leb, length, Option, None, Some}
use Rattle.text.specs.declared.Dialect.{Dialect}
use Rattle.kinds.specs.Typed.{Judged, good, broken_text, broken_kind, judged}
use Rattle.kinds.specs.declared.Kind.{Kind}
use Rattle.kinds.specs.declared.Broken.{Broken}
use Rattle.kinds.specs.declared.Broken.TheVariants as V
use Rattle.lines.specs.Lines.{Line, blank, comment, header, setting, broken}
use Rattle.lines.specs.declared.Break.{Break}
use Rattle.lines.specs.declared.Break.TheVariants as B
use Rattle.rules.specs.Tables.{group_of, kind_of}
use Rattle.rules.specs.Sections.{Entry, Section, given, name_given, serves, services}
use Rattle.rules.specs.declared.Fault.{Fault}
use Rattle.rules.specs.declared.Refusal.{Refusal}
use Rattle.rules.specs.declared.Refusal.TheVariants.{Unrecognized, Extension, BadHeader, UnknownGroup, RepeatedGroup, NoGroup, UnknownKey, RepeatedKey, ValueText, ValueKind, ManyServices}
use Rattle.rules.specs.declared.Group.{Group}

abbrev pub fault_at : ℕ → Option Refusal → Option Fault
fault_at l None = None
fault_at l (Some r) = Some (record { refusal = r; line = l })

-- ---- of a line; the groups before it stand the latest first

abbrev pub break_of : Break → Refusal
break_of B.Unrecognized = Unrecognized
break_of B.Extension = Extension
break_of B.BadHeader = BadHeader

-- "unknown group" (6), "group named a second time" (7), "ninth service group" (13)
abbrev pub header_fault : List ℕ → Option Group → List Section → Option Refusal
header_fault n None gs = Some UnknownGroup
header_fault n (Some g) gs =
    cond (name_given n gs) (Some RepeatedGroup)
    (cond (serves g && leb 8 (services gs)) (Some ManyServices) None)

-- "value text broken" (11), "value breaks its kind" (12)
abbrev pub value_fault : Judged → Option Refusal
value_fault (good t) = None
value_fault broken_text = Some ValueText
value_fault broken_kind = Some ValueKind

-- the same, by the code's reason
abbrev pub broken_of : Broken → Refusal
broken_of V.Text = ValueText
broken_of V.Kind = ValueKind

-- "key not listed for its group" (9), "key a second time in its group" (10)
abbrev pub key_fault : Dialect → List ℕ → List ℕ → Option Kind → List Entry → Option Refusal
key_fault d k v None es = Some UnknownKey
key_fault d k v (Some x) es = cond (given k es) (Some RepeatedKey) (value_fault (judged d x v))

-- "setting before any group" (8)
abbrev pub setting_fault : Dialect → List ℕ → List ℕ → List Section → Option Refusal
setting_fault d k v [] = Some NoGroup
setting_fault d k v (g ∷ gs) = key_fault d k v (kind_of g.group k) g.entries

unfoldable pub fault : Dialect → List Section → Line → Option Refusal
fault d gs blank = None
fault d gs comment = None
fault d gs (broken b) = Some (break_of b)
fault d gs (header n) = header_fault n (group_of d n) gs
fault d gs (setting k v) = setting_fault d k v gs
