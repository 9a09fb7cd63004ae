-- The string lookups: "For a string setting, its value is handed back as the stretch of the lent file where it stands, still escaped; an absent one is the empty stretch, line 0."
use Rattle.std.specs.Prelude.{ℕ, ◌+◌, ◌≤◌, ◌≡◌, List, [], length, Option, None, Some, Ok, Err}
use Rattle.text.specs.Parts.{part}
use Rattle.text.specs.Words.{word}
use Rattle.text.specs.declared.Dialect.{Dialect}
use Rattle.text.specs.declared.Dialect.TheVariants.{Iwd, ConnMan}
use Rattle.rules.specs.Numbers.{answer_number}
use Rattle.rules.specs.Sections.{Entry, entry_of}
use Rattle.rules.specs.Reading.{sections_of, reading}
use Rattle.rules.specs.Asking.{iwd_entry, service_at, entry_line, entry_start, asked, asked_of}
use Rattle.lookups.specs.declared.TextPlace.{TextPlace}
use Rattle.rules.specs.Answering.{Answer, refused_at}

-- what a lookup answers: the refusal, or that it is good and then the setting, if the file gives it
pub record Lookup : Type 0 where
  pub answer : Answer
  pub setting : Option Entry

-- a refusal gives no setting
abbrev pub lookup_of : Answer → Option Entry → Lookup
lookup_of (Ok u) o = record { answer = Ok tt; setting = o }
lookup_of (Err f) o = record { answer = refused_at f.refusal f.line; setting = None }

-- ---- the lookups, by the name and the bytes of a file

-- the setting with a key in the group with a name
abbrev pub group_lookup : Dialect → List ℕ → List ℕ → List ℕ → List ℕ → Lookup
group_lookup d group key name file = lookup_of (asked (reading d name file)) (iwd_entry (sections_of d file) group key)

abbrev pub iwd_lookup : List ℕ → List ℕ → List ℕ → List ℕ → Lookup
iwd_lookup group key name file = group_lookup Iwd group key name file

-- "The two of `global` are asked for without a service number"
abbrev pub global_lookup : List ℕ → List ℕ → List ℕ → Lookup
global_lookup key name file = group_lookup ConnMan (word "global") key name file

-- "the others of ConnMan with one, 18 coming after the file's own refusals": the setting with a key in service w
abbrev pub service_lookup : ℕ → List ℕ → List ℕ → List ℕ → Lookup
service_lookup w key name file = lookup_of (asked_of w (reading ConnMan name file)) (entry_of key (service_at w (sections_of ConnMan file)))

-- ---- what the caller sees of it

-- the refusal's line, or the setting's; "an absent one is .. line 0"
abbrev pub lookup_line : Answer → Option Entry → ℕ
lookup_line (Ok u) o = entry_line o
lookup_line (Err f) o = f.line

-- "the stretch of the lent file where it stands"; "an absent one is the empty stretch"
abbrev pub stretch : List ℕ → Option Entry → List ℕ
stretch file None = []
stretch file (Some e) = part e.start (e.start + length e.value) file

-- "its value .., still escaped"
abbrev pub setting_value : Option Entry → List ℕ
setting_value None = []
setting_value (Some e) = e.value

-- where the value stands, from its start to its end; 0 and 0 where it is absent
abbrev pub lookup_place : Lookup → TextPlace
lookup_place k =
    record {
      number = answer_number k.answer;
      line = lookup_line k.answer k.setting;
      start = entry_start k.setting;
      end = entry_start k.setting + length (setting_value k.setting);
    }

-- a lookup's place: it lies in the file, and its value stands there
pub record ValuePlace (file : List ℕ) (k : Lookup) (p : TextPlace) : Type 0 where
  pub is : p ≡ lookup_place k
  pub within : p.end ≤ length file
  pub value_is : part p.start p.end file ≡ setting_value k.setting

-- the number, the line and the part of the file that a lookup hands back
pub record Hands (file : List ℕ) (k : Lookup) (number line : ℕ) (r : List ℕ) : Type 0 where
  pub number_is : number ≡ answer_number k.answer
  pub line_is : line ≡ lookup_line k.answer k.setting
  pub stretch_is : r ≡ stretch file k.setting
  pub value_is : r ≡ setting_value k.setting

-- the same of a place
pub record HandsPlace (file : List ℕ) (p : TextPlace) (number line : ℕ) (r : List ℕ) : Type 0 where
  pub number_is : number ≡ p.number
  pub line_is : line ≡ p.line
  pub part_is : r ≡ part p.start p.end file
