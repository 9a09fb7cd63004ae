-- "Settings and their kinds": which name is which group's, and which key is listed for a group, with which kind.
use Rattle.std.specs.Prelude.{ℕ, ◌≡◌, true, List, ◌++◌}
use Rattle.text.specs.Bytes.{is_identifier}
use Rattle.text.specs.Parts.{all}
use Rattle.text.specs.Words.{word}
use Rattle.text.specs.Relations.{Any, Sized}
use Rattle.text.specs.declared.Dialect.{Dialect}
use Rattle.text.specs.declared.Dialect.TheVariants.{Iwd, ConnMan}
use Rattle.kinds.specs.declared.Kind.{Kind}
use Rattle.rules.specs.Tables.{iwd_groups, keys_of}
use Rattle.rules.specs.declared.Group.{Group}
use Rattle.rules.specs.declared.Group.TheVariants.{Settings, Security, Ipv4, Ipv6, Global, Service}

-- the word stands in the table, with what it stands for
abbrev pub InTable : {A : Type 0} → List ℕ → A → List (List ℕ × A) → Type 0
InTable w a table = Any (λ row. (w ≡ row.0) × (a ≡ row.1)) table

-- "`service_` and 1 to 32 letters, digits or `_`"
pub record ServiceName (name : List ℕ) : Type 0 where
  pub id : List ℕ
  pub is : name ≡ word "service_" ++ id
  pub size : Sized 1 32 id
  pub bytes : all is_identifier id ≡ true

-- "iwd groups: Settings: .. Security: .. IPv4: .. IPv6: .."; "ConnMan groups: `global`: .. `service_` .."
abbrev pub GroupIs : Dialect → List ℕ → Group → Type 0
GroupIs Iwd name g = InTable name g iwd_groups
GroupIs ConnMan name Settings = ⊥
GroupIs ConnMan name Security = ⊥
GroupIs ConnMan name Ipv4 = ⊥
GroupIs ConnMan name Ipv6 = ⊥
GroupIs ConnMan name Global = name ≡ word "global"
GroupIs ConnMan name Service = ServiceName name

-- the key is listed for the group, with its kind
abbrev pub KeyIs : Group → List ℕ → Kind → Type 0
KeyIs g key kind = InTable key kind (keys_of g)
