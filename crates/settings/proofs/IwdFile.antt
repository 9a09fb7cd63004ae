-- The settings of an iwd file: its rows, and one law for each answer.
use Prim.Native.Nat.{ℕ}
use native.Mathlib.Omega.{arith}
use mathlib.Core.Path.{◌≡◌, refl, ap, sym, ◌∙◌}
use mathlib.Core.List.{List}
use Rattle.text.specs.declared.Dialect.TheVariants.{Iwd}
use Rattle.addresses.specs.Addresses.{addresses, rows}
use Rattle.addresses.specs.declared.Separator.TheVariants.{Spaces}
use Rattle.rules.specs.Tables.{group_of, keys_of}
use Rattle.rules.specs.Sections.{entries_in}
use Rattle.rules.specs.Reading.{sections_of, reading}
use Rattle.rules.specs.Asking.{asked}
use Rattle.rules.specs.declared.Group.TheVariants as G
use Rattle.rules.specs.declared.Refusal.{Refusal}
use Rattle.places.specs.KeySlots.{bytes_of, ValueInFile}
use Rattle.places.specs.declared.KeyName.TheVariants as N
use Rattle.pass.specs.Pass.{Found, ReadsFile}
use Rattle.pass.proofs.Asking.{found_group}
use Rattle.settings.specs.Rows.{IwdRowsGive}
use Rattle.values.specs.Rows.{FourRows, IwdRows}
use Rattle.settings.specs.Absent.{zero_iwd_settings, iwd_absent_zero}
use Rattle.settings.specs.Asked.{iwd_answered, iwd_servers_after}
use Rattle.settings.specs.declared.IwdSettings.{IwdSettings}
use Rattle.values.proofs.KeptValues.{row_of, key_in, row_read, addresses_none}
use Rattle.places.specs.History.{base}
use Rattle.rules.specs.Answering.{Reading, accepted_with, refused_at}
use Rattle.std.specs.Prelude.{Ok}

-- ---- the rows

pub found_rows : {file y : List ℕ} → Found Iwd file y → FourRows file y (λ n. entries_in n (sections_of Iwd file))
unfolding group_of
found_rows f = record { general = found_group f G.Settings refl refl; security = found_group f G.Security refl refl; ipv4 = found_group f G.Ipv4 refl refl; ipv6 = found_group f G.Ipv6 refl refl }

-- ---- the answers

module _ {name file : List ℕ} {y : List ℕ} {q : Reading} (h : ReadsFile Iwd name file y q) where
  module _ {n m : ℕ} (e : q ≡ accepted_with n m) where
    pub found_kept : IwdRows file y
    found_kept = let f = h.found e in record { long = f.kept.long; settings = λ n. entries_in n (sections_of Iwd file); rows = found_rows f }

    pub dns_in : ValueInFile file y (base G.Ipv4 0) N.Dns
    dns_in = key_in N.Dns (row_of found_kept (omega arith) G.Ipv4 found_kept.rows.ipv4)

    good : asked (reading Iwd name file) ≡ Ok tt
    good = ap asked (sym h.is ∙ e)

    pub iwd_good : {s : IwdSettings} → IwdRowsGive file y s → record { answer = Ok tt; settings = s } ≡ iwd_answered name file
    iwd_good t = rw (good, t.is (λ n. entries_in n (sections_of Iwd file)) (found_rows (h.found e)))

    pub servers_good : (old : List (List ℕ)) {t : List (List ℕ)} → t ≡ rows (addresses Spaces (bytes_of file y (base G.Ipv4 0) N.Dns)) → t ≡ iwd_servers_after name file old
    unfolding keys_of
    servers_good old p = p ∙ rw good (ap rows (row_read N.Dns (found_rows (h.found e)).ipv4 (addresses Spaces) (addresses_none Spaces)))

  module _ {r : Refusal} {l : ℕ} (e : q ≡ refused_at r l) where
    bad : asked (reading Iwd name file) ≡ refused_at r l
    bad = ap asked (sym h.is ∙ e)

    pub iwd_refused : {s : IwdSettings} → s ≡ zero_iwd_settings → record { answer = refused_at r l; settings = s } ≡ iwd_answered name file
    iwd_refused t = rw (bad, iwd_absent_zero, t)

    pub servers_refused : (old : List (List ℕ)) → old ≡ iwd_servers_after name file old
    servers_refused old = rw bad
