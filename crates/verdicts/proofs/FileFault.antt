-- The rules over an iwd file, by its rows in the table of places.
use Prim.Native.Nat.{ℕ}
use mathlib.Core.Path.{◌≡◌, refl}
use mathlib.Core.List.{List, reverse}
use Rattle.text.specs.Words.{word}
use Rattle.text.specs.declared.Dialect.TheVariants.{Iwd}
use Rattle.names.specs.declared.Suffix.{Suffix}
use Rattle.rules.specs.Tables.{group_of}
use Rattle.rules.specs.Sections.{Section, entry_of, entries_in}
use Rattle.rules.specs.Faults.{fault_at}
use Rattle.rules.specs.Groups.{file_fault}
use Rattle.rules.specs.declared.Group.TheVariants.{Security, Ipv4, Ipv6}
use Rattle.places.specs.Holds.{TableKeeps}
use Rattle.places.specs.History.{base}
use Rattle.places.specs.KeySlots.{key_slot}
use Rattle.verdicts.specs.FileRule.{slots_file}
use Rattle.places.specs.declared.KeyName.TheVariants as N
use Rattle.places.proofs.RowKeys.{row_key, taken_given, kept_no}
use Rattle.places.proofs.GroupRows.{group_row}

module _ {file : List ℕ} {x : List ℕ} {gs : List Section} (t : TableKeeps Iwd file x gs) where
  pub file_fault_lem : (s : Suffix) → fault_at 0 (slots_file s x) ≡ file_fault s (reverse gs)
  unfolding slots_file file_fault group_of
  file_fault_lem s =
      rw (
        taken_given N.IwdPassphrase (group_row t Security refl refl),
        taken_given N.PreSharedKey (group_row t Security refl refl),
        taken_given N.Address (group_row t Ipv4 refl refl),
        taken_given N.Gateway (group_row t Ipv4 refl refl),
        taken_given N.Broadcast (group_row t Ipv4 refl refl),
        taken_given N.Netmask (group_row t Ipv4 refl refl),
        taken_given N.Ipv6Address (group_row t Ipv6 refl refl),
        taken_given N.Ipv6Gateway (group_row t Ipv6 refl refl),
        kept_no Iwd file (key_slot x (base Ipv6 0) N.Enabled) (entry_of (word "Enabled") (entries_in (word "IPv6") (reverse gs))) (row_key N.Enabled (group_row t Ipv6 refl refl)),
      )
