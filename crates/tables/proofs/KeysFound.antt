-- A key's answer, by the kind at its place.
use mathlib.Core.Path.{◌≡◌, ap, sym, ◌∙◌}
use mathlib.Core.List.{List}
use Rattle.std.specs.Prelude.{Option, None, Some}
use Prim.Native.Nat.{ℕ}
use Rattle.text.specs.Words.{place}
use Rattle.kinds.specs.declared.Kind.{Kind}
use Rattle.rules.specs.Tables.{keys_of, kind_of}
use Rattle.rules.specs.declared.Group.{Group}
use Rattle.tables.specs.KeyPlaces.{at_place, at_place_named, key_names, listed_key}

module _ (g : Group) (k : List ℕ) {n : ℕ} (p : n ≡ place k (key_names g)) {o : Option Kind} (q : o ≡ at_place n (keys_of g)) where
  found : o ≡ kind_of g k
  found = q ∙ ap (λ (m : ℕ). at_place m (keys_of g)) p ∙ at_place_named k (keys_of g)

  pub key_listed : {x : Kind} → o ≡ Some x → Some (record { place = n; kind = x }) ≡ listed_key g k
  key_listed e = rw (sym found ∙ e, p)

  pub key_unlisted : o ≡ None → None ≡ listed_key g k
  key_unlisted e = rw (sym found ∙ e)
