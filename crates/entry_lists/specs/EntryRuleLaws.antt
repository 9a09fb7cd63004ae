-- What `entries` reads is what the rules say of a list of entries.
use Rattle.std.specs.Prelude.{ℕ, ◌≡◌, refl, List, [], ◌∷◌, Some}
use Rattle.std.proofs.Common.{ap, ap₂, ◌∙◌, subst}
use Rattle.std.proofs.lemmas.Option.{same_Some}
use Rattle.text.specs.Bytes.{is_entry_byte}
use Rattle.text.specs.Parts.{all, pieces}
use Rattle.text.specs.Pieces.{Pieces}
use Rattle.text.specs.PieceLaws.{pieces_are, pieces_only}
use Rattle.text.specs.Relations.{Each, Pairwise}
use Rattle.text.specs.Options.{only, each}
use Rattle.text.specs.OptionLaws.{only_some, sized_is, is_sized, each_pairwise, pairwise_each}
use Rattle.entry_lists.specs.EntryLists.{entry, entries}
use Rattle.entry_lists.specs.EntryRules.{EntryIs, EntriesAre}

-- an entry is read as it stands
abbrev AsItStands : List ℕ → List ℕ → Type 0
AsItStands p e = (p ≡ e) × EntryIs e

entry_is : (p e : List ℕ) → entry p ≡ Some e → AsItStands p e
entry_is p e i =
    let s = sized_is 1 253 (only (all is_entry_byte p) (Some p)) i in
    let o = only_some (all is_entry_byte p) (Some p) s.1 in
    let q : p ≡ e = same_Some p e o.1 in
    (q, record { size = s.0; bytes = rw q at o.0 })

is_entry : (p e : List ℕ) → AsItStands p e → entry p ≡ Some e
is_entry p e h = is_sized 1 253 (only (all is_entry_byte p) (Some p)) h.1.size (rw (h.0, h.1.bytes))

read_as_lem : (ps l : List (List ℕ)) → Pairwise AsItStands ps l → (ps ≡ l) × Each EntryIs l
read_as_lem [] [] h = (refl, tt)
read_as_lem [] (e ∷ l) h = absurd h
read_as_lem (p ∷ ps) [] h = absurd h
read_as_lem (p ∷ ps) (e ∷ l) h = let k = read_as_lem ps l h.1 in (ap₂ ◌∷◌ h.0.0 k.0, (h.0.1, k.1))

as_read : (l : List (List ℕ)) → Each EntryIs l → Pairwise AsItStands l l
as_read [] h = tt
as_read (e ∷ l) h = ((refl, h.0), as_read l h.1)

pub entries_are : (v : List ℕ) {l : List (List ℕ)} → entries v ≡ Some l → EntriesAre v l
unfolding entries
entries_are v {l} e =
    let s = sized_is 1 4 (each entry (pieces 44 v)) e in
    let k = read_as_lem (pieces 44 v) l (each_pairwise entry AsItStands entry_is (pieces 44 v) s.1) in
    record { commas = subst (Pieces 44 v) k.0 (pieces_are 44 v); each = k.1; count = s.0 }

pub are_entries : (v : List ℕ) {l : List (List ℕ)} → EntriesAre v l → entries v ≡ Some l
unfolding entries
are_entries v {l} h =
    is_sized 1 4 (each entry (pieces 44 v)) h.count
    (ap (each entry) (pieces_only 44 h.commas) ∙ pairwise_each entry AsItStands is_entry l l (as_read l h.each))
