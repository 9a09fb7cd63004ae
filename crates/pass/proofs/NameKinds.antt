-- What a file's name says: one law for each return.
use Prim.Native.Nat.{ℕ}
use mathlib.Core.Path.{◌≡◌, refl, ap, sym, ◌∙◌}
use Rattle.std.proofs.lemmas.Option.{none-some, same_Some}
use mathlib.Core.List.{List}
use Rattle.std.specs.Prelude.{Option, None, Some}
use Rattle.text.specs.declared.Dialect.TheVariants.{Iwd}
use Rattle.names.specs.Names.{Network, network_of, network_laid}
use Rattle.names.specs.declared.IwdName.{IwdName}
use Rattle.rules.specs.Reading.{iwd_name, name_in}
use Rattle.verdicts.specs.Ending.{kind_of_name}
use Rattle.verdicts.specs.declared.FileKind.TheVariants as K
use Rattle.text.specs.Options.{mapped}

module _ (name : List ℕ) {r : Option IwdName} (e : r ≡ mapped network_laid (network_of name)) where
  good : (o : Option Network) {n : IwdName} → Some n ≡ mapped network_laid o → Some (K.Iwd n.suffix) ≡ kind_of_name (mapped (λ x. iwd_name x.suffix) o)
  good None {n} q = absurd (none-some n (sym q))
  good (Some x) {n} q = ap (λ (n : IwdName). Some (K.Iwd n.suffix)) (same_Some n (network_laid x) q)

  bad : (o : Option Network) → None ≡ mapped network_laid o → None ≡ kind_of_name (mapped (λ x. iwd_name x.suffix) o)
  bad None q = refl
  bad (Some x) q = absurd (none-some (network_laid x) q)

  pub iwd_good : {n : IwdName} → r ≡ Some n → Some (K.Iwd n.suffix) ≡ kind_of_name (name_in Iwd name)
  iwd_good t = good (network_of name) (sym t ∙ e)

  pub iwd_bad : r ≡ None → None ≡ kind_of_name (name_in Iwd name)
  iwd_bad t = bad (network_of name) (sym t ∙ e)
