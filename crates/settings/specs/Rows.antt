-- What is read by the rows of an iwd file.
use Rattle.std.specs.Prelude.{ℕ, ◌≡◌, List}
use Rattle.rules.specs.Sections.{Entry, entry_of}
use Rattle.values.specs.Rows.{FourRows}
use Rattle.settings.specs.Settings.{iwd_settings}
use Rattle.settings.specs.declared.IwdSettings.{IwdSettings}

-- what is read by the rows is what is read of the settings that they keep
pub record IwdRowsGive (file x : List ℕ) (r : IwdSettings) : Type 0 where
  pub is : (es : List ℕ → List Entry) → FourRows file x es → r ≡ iwd_settings (λ n k. entry_of k (es n))
