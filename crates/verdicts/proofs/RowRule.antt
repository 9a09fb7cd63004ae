-- The rules over a service, by the row that holds its settings.
use Prim.Native.Nat.{ℕ, ◌+◌}
use mathlib.Core.Path.{◌≡◌}
use mathlib.Core.List.{List}
use Rattle.text.specs.Words.{word}
use Rattle.text.specs.declared.Dialect.{Dialect}
use Rattle.named_words.specs.declared.Word.{Word}
use Rattle.named_words.specs.declared.Word.TheVariants.{Wifi, Ethernet, Psk}
use Rattle.named_words.specs.declared.WordList.TheVariants as W
use Rattle.rules.specs.Groups.{service_fault}
use Rattle.rules.specs.Sections.{Entry, entry_of}
use Rattle.places.specs.Store.{slot}
use Rattle.places.specs.Keys.{key_place, key_group}
use Rattle.places.specs.Holds.{RowKeeps}
use Rattle.places.specs.declared.KeyName.TheVariants as N
use Rattle.places.proofs.RowKeys.{row_key, taken_given, kept_word}
use Rattle.verdicts.specs.Closing.{slots_rule}

module _ {d : Dialect} {file x : List ℕ} {b : ℕ} {es : List Entry} (h : RowKeeps d file x b (key_group N.Type) es) where
  pub row_rule : slots_rule x b ≡ service_fault es
  unfolding slots_rule service_fault
  row_rule =
      rw (
        taken_given N.Type h,
        taken_given N.Name h,
        taken_given N.Ssid h,
        taken_given N.Passphrase h,
        taken_given N.Security h,
        taken_given N.Hidden h,
        kept_word d W.ServiceType file (slot (b + key_place N.Type) x) (entry_of (word "Type") es) (row_key N.Type h) Wifi,
        kept_word d W.ServiceType file (slot (b + key_place N.Type) x) (entry_of (word "Type") es) (row_key N.Type h) Ethernet,
        kept_word d W.Security file (slot (b + key_place N.Security) x) (entry_of (word "Security") es) (row_key N.Security h) Psk,
        kept_word d W.Security file (slot (b + key_place N.Security) x) (entry_of (word "Security") es) (row_key N.Security h) Word.None,
      )
