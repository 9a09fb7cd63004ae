-- The settings of a service: its row, and one law for each answer.
use Prim.Native.Nat.{ℕ, ◌≤◌}
use mathlib.Core.Path.{◌≡◌, ap, ◌∙◌}
use mathlib.Core.List.{List}
use Rattle.text.specs.declared.Dialect.TheVariants.{ConnMan}
use Rattle.addresses.specs.Addresses.{addresses, rows}
use Rattle.addresses.specs.declared.Separator.TheVariants.{Comma}
use Rattle.rules.specs.Tables.{keys_of}
use Rattle.rules.specs.Reading.{sections_of}
use Rattle.rules.specs.Asking.{service_at, asked_of}
use Rattle.rules.specs.declared.Group.TheVariants as G
use Rattle.rules.specs.declared.Refusal.{Refusal}
use Rattle.places.specs.History.{base}
use Rattle.places.specs.Holds.{RowKeeps}
use Rattle.places.specs.KeySlots.{bytes_of, ValueInFile}
use Rattle.places.specs.declared.KeyName.TheVariants as N
use Rattle.places.proofs.Values.{base_few}
use Rattle.pass.specs.Pass.{Found, ReadsFile}
use Rattle.pass.proofs.Asking.{found_service, service_found, service_answer_lem, service_few}
use Rattle.settings.specs.Settings.{service_settings}
use Rattle.values.specs.Rows.{RowOf, RowGives}
use Rattle.settings.specs.Asked.{service_answered, service_servers_after}
use Rattle.settings.specs.Absent.{zero_service_settings, service_absent_zero}
use Rattle.settings.specs.declared.ServiceSettings.{ServiceSettings}
use Rattle.values.proofs.KeptValues.{key_in, row_read, addresses_none}
use Rattle.rules.specs.Answering.{Answer, Reading, refused_at}
use Rattle.std.specs.Prelude.{Ok}

-- ---- the row, after a reading

module _ {file : List ℕ} {y : List ℕ} (f : Found ConnMan file y) (w : ℕ) (few : (1 ≤ w) × (w ≤ 8)) where
  pub service_row : RowKeeps ConnMan file y (base G.Service w) G.Service (service_at w (sections_of ConnMan file))
  service_row = found_service f w few

  pub service_kept : RowOf ConnMan file y (base G.Service w) G.Service
  service_kept = record { table = record { long = f.kept.long; row = base_few G.Service w few.1 }; settings = service_at w (sections_of ConnMan file); row = service_row }

-- ---- the answers

module _ {name file : List ℕ} (w : ℕ) {y : List ℕ} {q : Reading} (h : ReadsFile ConnMan name file y q) {b : Answer} (s : b ≡ asked_of w q) where
  module _ {r : Refusal} {l : ℕ} (e : b ≡ refused_at r l) where
    pub refused_is : {t : ServiceSettings} → t ≡ zero_service_settings → record { answer = refused_at r l; settings = t } ≡ service_answered name file w
    refused_is p = rw (service_answer_lem h w s e, service_absent_zero, p)

    pub servers_kept : (old : List (List ℕ)) → old ≡ service_servers_after name file w old
    servers_kept old = rw (service_answer_lem h w s e)

  module _ (e : b ≡ Ok tt) where
    pub row_few : w ≤ 8
    row_few = (service_few h w s e).1

    module _ {r : ℕ} (at : r ≡ base G.Service w) where
      pub found_row : RowKeeps ConnMan file y r G.Service (service_at w (sections_of ConnMan file))
      found_row = rw at (service_row (service_found h w s e) w (service_few h w s e))

      pub found_kept : RowOf ConnMan file y r G.Service
      found_kept = rw at (service_kept (service_found h w s e) w (service_few h w s e))

      pub nameservers_in : ValueInFile file y r N.Nameservers
      nameservers_in = key_in N.Nameservers found_kept

      pub service_good : {t : ServiceSettings} → RowGives ConnMan file y r G.Service service_settings t → record { answer = Ok tt; settings = t } ≡ service_answered name file w
      service_good t = rw (service_answer_lem h w s e, t.is (service_at w (sections_of ConnMan file)) found_row)

      pub servers_good : (old : List (List ℕ)) {t : List (List ℕ)} → t ≡ rows (addresses Comma (bytes_of file y r N.Nameservers)) → t ≡ service_servers_after name file w old
      unfolding keys_of
      servers_good old p = p ∙ rw (service_answer_lem h w s e) (ap rows (row_read N.Nameservers found_row (addresses Comma) (addresses_none Comma)))
