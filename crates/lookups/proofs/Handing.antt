-- The place that a row gives of a key is that of the setting that it keeps; and the answers, by the reading.
use Prim.Native.Nat.{ℕ, ◌+◌, ◌≤◌}
use native.Mathlib.Omega.{arith}
use mathlib.Core.Path.{◌≡◌, refl, ap, ◌∙◌, subst}
use mathlib.Core.Bool.{true}
use mathlib.Core.List.{List}
use Rattle.std.specs.Prelude.{Option, None, Some, Ok, Err}
use lib.ListN.{length}
use Rattle.text.specs.Parts.{part}
use Rattle.text.specs.Laws.{part_none, part_long}
use Rattle.text.specs.declared.Dialect.{Dialect}
use Rattle.text.specs.declared.Dialect.TheVariants.{ConnMan}
use Rattle.kinds.specs.declared.Kind.{Kind}
use Rattle.rules.specs.Tables as T
use Rattle.rules.specs.Sections.{entry_of, entries_in, Entry}
use Rattle.rules.specs.Reading.{sections_of}
use Rattle.rules.specs.Asking.{service_at, asked, asked_of}
use Rattle.rules.specs.ListedValues.{group_name}
use Rattle.rules.proofs.GivenValues.{group_of_name}
use Rattle.rules.specs.declared.Group.{Group}
use Rattle.rules.specs.declared.Group.TheVariants.{Service}
use Rattle.places.specs.Store.{Slot}
use Rattle.places.specs.Keys.{key_group, key_word, key_kind}
use Rattle.places.specs.History.{base}
use Rattle.places.specs.Holds.{is_text, OfText, SlotKeeps, RowKeeps}
use Rattle.places.specs.KeySlots.{ValueInFile, key_slot}
use Rattle.places.specs.declared.KeyName.{KeyName}
use Rattle.places.proofs.RowKeys.{row_key, row_in}
use Rattle.places.proofs.Values.{base_few}
use Rattle.pass.specs.Pass.{ReadsFile}
use Rattle.pass.proofs.Asking.{found_group, found_service, file_found, service_found, service_few}
use Rattle.lookups.specs.Lookups.{lookup_of, group_lookup, service_lookup, ValuePlace}
use Rattle.lookups.specs.ByKey.{StandsOnce, ServiceText, slot_place, answered_place}
use Rattle.lookups.specs.declared.TextPlace.{TextPlace}
use Rattle.rules.specs.Answering.{Answer, Reading}

-- ---- the place that a slot gives

kept_placed : (d : Dialect) (t : Option Kind) → OfText t → (file : List ℕ) (s : Slot) (o : Option Entry) → SlotKeeps d t file s o → ValuePlace file (lookup_of (Ok tt) o) (slot_place file s)
kept_placed d t u file s None q =
    let p : slot_place file s ≡ record { number = 0; line = 0; start = 0; end = 0 } = ap (slot_place file) q ∙ ap (λ (v : List ℕ). record { number = 0; line = 0; start = 0; end = length v }) (part_none file 0) in
    rw p (record { is = refl; within = omega arith; value_is = part_none file 0 })
kept_placed d t u file s (Some e) h =
    let n : s.start + length (part s.start s.end file) ≡ s.end = omega (arith, part_long file s.start s.end h.low h.high, h.low) in
    record { is = rw (h.value u, h.line, h.start u) refl; within = rw n h.high; value_is = rw n (h.value u) }

-- the answer where the row keeps the settings es
answer_placed : {d : Dialect} {file y : List ℕ} {b : ℕ} (k : KeyName) → is_text (key_kind k) ≡ true → {es : List Entry} (a : Answer) → (a ≡ Ok tt → RowKeeps d file y b (key_group k) es) → {p : TextPlace} → p ≡ answered_place a (slot_place file (key_slot y b k)) → ValuePlace file (lookup_of a (entry_of (key_word k) es)) p
answer_placed {d} {file} {y} {b} k u {es} (Ok good) row e = rw e (kept_placed d (Some (key_kind k)) u file (key_slot y b k) (entry_of (key_word k) es) (row_key k (row refl)))
answer_placed {file = file} k u (Err f) row e = rw e (record { is = refl; within = omega arith; value_is = part_none file 0 })

-- ---- the answer of a file

module _ {d : Dialect} {name file y : List ℕ} {r : Reading} (h : ReadsFile d name file y r) {g : Group} {k : KeyName} (s : StandsOnce d g k) {a : Answer} (e : a ≡ asked r) where
  group_key_row : a ≡ Ok tt → RowKeeps d file y (base g 0) (key_group k) (entries_in (group_name g) (sections_of d file))
  group_key_row q = rw s.group (found_group (file_found h e q) g (subst (λ (b : Dialect). T.group_of b (group_name g) ≡ Some g) s.dialect (group_of_name g s.once)) s.once)

  pub group_in_lem : a ≡ Ok tt → (0 ≤ 8) × ValueInFile file y (base g 0) k
  group_in_lem q = (omega arith, row_in k (group_key_row q) (record { long = (file_found h e q).kept.long; row = base_few g 0 (omega arith) }))

  pub group_placed : {p : TextPlace} → p ≡ answered_place a (slot_place file (key_slot y (base g 0) k)) → ValuePlace file (group_lookup d (group_name g) (key_word k) name file) p
  group_placed {p} q = subst (λ (b : Answer). ValuePlace file (lookup_of b (entry_of (key_word k) (entries_in (group_name g) (sections_of d file)))) p) (e ∙ ap asked h.is) (answer_placed k s.text a group_key_row q)

-- ---- the answer of a service of it

module _ {name file y : List ℕ} {r : Reading} (h : ReadsFile ConnMan name file y r) (w : ℕ) (k : KeyName) (s : ServiceText k) {a : Answer} (e : a ≡ asked_of w r) where
  service_key_row : a ≡ Ok tt → RowKeeps ConnMan file y (base Service w) (key_group k) (service_at w (sections_of ConnMan file))
  service_key_row q = rw s.group (found_service (service_found h w e q) w (service_few h w e q))

  pub service_in : a ≡ Ok tt → (w ≤ 8) × ValueInFile file y (base Service w) k
  service_in q = let l = (service_few h w e q).1 in (l, row_in k (service_key_row q) (record { long = (service_found h w e q).kept.long; row = base_few Service w l }))

  pub service_placed : {p : TextPlace} → p ≡ answered_place a (slot_place file (key_slot y (base Service w) k)) → ValuePlace file (service_lookup w (key_word k) name file) p
  service_placed {p} q = subst (λ (b : Answer). ValuePlace file (lookup_of b (entry_of (key_word k) (service_at w (sections_of ConnMan file)))) p) (e ∙ ap (asked_of w) h.is) (answer_placed k s.text a service_key_row q)
