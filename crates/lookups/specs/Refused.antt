-- A refused file is refused by every lookup, with the same number and line, and no setting is handed back.
use Rattle.std.specs.Prelude.{ℕ, ◌≡◌, List, None}
use Rattle.text.specs.declared.Dialect.{Dialect}
use Rattle.text.specs.declared.Dialect.TheVariants.{ConnMan}
use Rattle.rules.specs.Reading.{reading}
use Rattle.rules.specs.declared.Refusal.{Refusal}
use Rattle.lookups.specs.Lookups.{Lookup, group_lookup, service_lookup}
use Rattle.rules.specs.Answering.{refused_at}

abbrev pub no_lookup : Refusal → ℕ → Lookup
no_lookup r l = record { answer = refused_at r l; setting = None }

pub refused_group_lookup : (d : Dialect) (name file : List ℕ) {r : Refusal} {l : ℕ} → reading d name file ≡ refused_at r l
    → (group key : List ℕ) → group_lookup d group key name file ≡ no_lookup r l
refused_group_lookup d name file e group key = rw e

pub refused_service_lookup : (name file : List ℕ) {r : Refusal} {l : ℕ} → reading ConnMan name file ≡ refused_at r l
    → (w : ℕ) (key : List ℕ) → service_lookup w key name file ≡ no_lookup r l
refused_service_lookup name file e w key = rw e
