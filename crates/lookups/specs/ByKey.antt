-- The lookups by a key of the table of places; the seven of `Lookups` are these, by their keys.
use Rattle.std.specs.Prelude.{ℕ, ◌+◌, ◌≡◌, true, false, List, length, Ok, Err}
use Rattle.text.specs.Parts.{part}
use Rattle.text.specs.declared.Dialect.{Dialect}
use Rattle.rules.specs.Numbers.{number_of}
use Rattle.rules.specs.Sections.{serves}
use Rattle.rules.specs.ListedValues.{group_dialect}
use Rattle.rules.specs.declared.Group.{Group}
use Rattle.rules.specs.declared.Group.TheVariants.{Service}
use Rattle.places.specs.Store.{Slot}
use Rattle.places.specs.Keys.{key_group, key_kind}
use Rattle.places.specs.Holds.{is_text}
use Rattle.places.specs.declared.KeyName.{KeyName}
use Rattle.lookups.specs.declared.TextPlace.{TextPlace}
use Rattle.rules.specs.Answering.{Answer}

-- a key whose values are texts, of a group that stands once in a file of its dialect
pub record StandsOnce (d : Dialect) (g : Group) (k : KeyName) : Type 0 where
  pub group : key_group k ≡ g
  pub text : is_text (key_kind k) ≡ true
  pub dialect : group_dialect g ≡ d
  pub once : serves g ≡ false

-- a key whose values are texts, of a service
pub record ServiceText (k : KeyName) : Type 0 where
  pub group : key_group k ≡ Service
  pub text : is_text (key_kind k) ≡ true

-- where the value of the setting that a slot keeps stands
abbrev pub slot_place : List ℕ → Slot → TextPlace
slot_place file s =
    record {
      number = 0;
      line = s.line;
      start = s.start;
      end = s.start + length (part s.start s.end file);
    }

-- a place, or the refusal
abbrev pub answered_place : Answer → TextPlace → TextPlace
answered_place (Ok u) p = p
answered_place (Err f) p = record { number = number_of f.refusal; line = f.line; start = 0; end = 0 }
