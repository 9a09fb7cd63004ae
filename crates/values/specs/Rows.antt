-- Rows of the table of places that keep the settings of a group or a service, and what is read by them.
use Rattle.std.specs.Prelude.{ℕ, ◌≤◌, ◌≡◌, List, length, Option}
use Rattle.text.specs.Words.{word}
use Rattle.text.specs.declared.Dialect.{Dialect}
use Rattle.rules.specs.Sections.{Entry, entry_of}
use Rattle.text.specs.declared.Dialect.TheVariants.{Iwd}
use Rattle.rules.specs.declared.Group.{Group}
use Rattle.rules.specs.declared.Group.TheVariants as G
use Rattle.places.specs.Store.{table_length}
use Rattle.places.specs.History.{base}
use Rattle.places.specs.Holds.{RowKeeps}
use Rattle.places.specs.KeySlots.{RowInTable, key_slot}
use Rattle.places.specs.declared.KeyName.{KeyName}

-- the row from b on keeps the settings of a group g: some settings es
pub record RowOf (d : Dialect) (file x : List ℕ) (b : ℕ) (g : Group) : Type 0 where
  pub table : RowInTable x b
  pub settings : List Entry
  pub row : RowKeeps d file x b g settings

-- the code of a mask is its length
pub record MaskIn (x : List ℕ) (b : ℕ) (k : KeyName) : Type 0 where
  pub table : RowInTable x b
  pub small : (key_slot x b k).code ≤ 32

-- what is read by a row is what is read of the settings that it keeps
pub record RowGives {A : Type 0} (d : Dialect) (file x : List ℕ) (b : ℕ) (g : Group)
    (f : (List ℕ → Option Entry) → A) (r : A) : Type 0 where
  pub is : (es : List Entry) → RowKeeps d file x b g es → r ≡ f (λ k. entry_of k es)

-- ---- an iwd file

-- the rows of iwd's four groups keep the settings es, by the groups' names
pub record FourRows (file x : List ℕ) (es : List ℕ → List Entry) : Type 0 where
  pub general : RowKeeps Iwd file x (base G.Settings 0) G.Settings (es (word "Settings"))
  pub security : RowKeeps Iwd file x (base G.Security 0) G.Security (es (word "Security"))
  pub ipv4 : RowKeeps Iwd file x (base G.Ipv4 0) G.Ipv4 (es (word "IPv4"))
  pub ipv6 : RowKeeps Iwd file x (base G.Ipv6 0) G.Ipv6 (es (word "IPv6"))

pub record IwdRows (file x : List ℕ) : Type 0 where
  pub long : length x ≡ table_length
  pub settings : List ℕ → List Entry
  pub rows : FourRows file x settings
