-- The step over one line: one law for each return of `step`.
use Prim.Native.Nat.{ℕ, ◌+◌, ◌≤◌, ◌<◌}
use native.Mathlib.Omega.{arith}
use mathlib.Core.Path.{◌≡◌, refl, ap, ap₂, sym, ◌∙◌, subst}
use mathlib.Core.Logic.{◌⊎◌, inl, inr}
use mathlib.Core.Bool.{Bool, true, false, cond, true≢false}
use mathlib.Core.List.{List, ◌∷◌}
use Rattle.std.specs.Prelude.{Option, None, Some, Result, Ok, Err}
use Rattle.std.proofs.lemmas.Option.{none-some, same_Some}
use lib.ListN.{length}
use Rattle.text.specs.Parts.{part_at, Inside}
use Rattle.text.specs.Words.{place}
use Rattle.text.specs.Options.{mapped}
use Rattle.text.specs.declared.Dialect.{Dialect}
use Rattle.text.specs.declared.Place.{Place}
use Rattle.lines.specs.Lines as Lines
use Rattle.lines.specs.Lines.{setting, line_of, value_start}
use Rattle.kinds.specs.Typed as T
use Rattle.kinds.specs.Typed.{Typed, typed, Judged, judged}
use Rattle.ipv6.specs.Ipv6 as Ipv6
use Rattle.connman_ipv4.specs.ConnmanIpv4 as ConnmanIpv4
use Rattle.ipv6_values.specs.Ipv6Values as Ipv6Values
use Rattle.hex_values.specs.HexValues as HexValues
use Rattle.entry_lists.specs.EntryLists as EntryLists
use Rattle.kinds.specs.Kinds as Kinds
use Rattle.addresses.specs.Addresses as A
use Rattle.kinds.specs.Answers.{value_at, judgement_at}
use Rattle.kinds.specs.declared.Kind.{Kind}
use Rattle.kinds.specs.declared.Kind.TheVariants as K
use Rattle.kinds.specs.declared.Value.{Value}
use Rattle.rules.specs.Tables.{kind_of}
use Rattle.rules.specs.Faults.{key_fault, value_fault, fault}
use Rattle.rules.specs.Sections.{services, Entry, Section, given, with_line, with_entry}
use Rattle.tables.specs.KeyPlaces.{key_names}
use Rattle.rules.specs.declared.Group.{Group}
use Rattle.rules.specs.declared.Refusal.{Refusal}
use Rattle.rules.specs.declared.Refusal.TheVariants.{RepeatedKey}
use Rattle.places.specs.Store.{file_limit, last_row, Slot, stored, FitsSlot}
use Rattle.places.specs.History.{name_base, base_at, row_after}
use Rattle.places.specs.Holds.{code_of, is_text, OfText, SlotSays, RowsKeep, HoldsGroups}
use Rattle.places.specs.ValueCodes.{value_code, text_place}
use Rattle.reader.specs.Says.{CurrentRow}
use Rattle.reader.specs.Steps.{GoodSetting, LineIs, LineSays, Known, StepIs, StepSays}
use Rattle.places.specs.declared.State.{State}
use Rattle.reader.specs.declared.Line.{Line}
use Rattle.reader.specs.declared.Line.TheVariants as L
use Rattle.places.proofs.RowLaws.{keys_few, lies, own_row}
use Rattle.reader.proofs.SettingLine.{Head, head}
use Rattle.places.proofs.RowKeys.{good_typed}
use Rattle.reader.proofs.Growing.{holds_setting}

-- a place in a file of allowed size fits the table
pub fits_within : {n a e l : ℕ} → a ≤ e → e ≤ n → n ≤ file_limit → l ≤ file_limit → FitsSlot a e l
fits_within p q r s = record { low = omega (arith, p, q, r); high = omega (arith, q, r); counted = omega (arith, s) }

rows_base : {d : Dialect} {file x : List ℕ} (s : Section) (gs : List Section) {b : ℕ} → base_at (row_after s gs) ≡ b → RowsKeep d file x (s ∷ gs) → b ≤ last_row
rows_base {d} s gs e h = let o = lies d (row_after s gs) (own_row d s.name h.well.0 (services (s ∷ gs)) h.few) in omega (arith, e)

-- the row of the group in force lies in the table
pub current_row : {d : Dialect} {file : List ℕ} {st : State} {x : List ℕ} → Known d file st x → CurrentRow x st.current
current_row {d} {file} {st} {x} k =
    record {
      long = k.holds.table.long;
      row = λ g b e. let t = head k.groups k.holds.current e in rows_base t.section t.rest t.row (subst (λ (gs : List Section). RowsKeep d file x gs) t.is k.holds.table.rows);
    }

-- a key that may stand is not given yet
not_given : (d : Dialect) (k v : List ℕ) (o : Option Kind) (es : List Entry) {x : Kind} → o ≡ Some x → key_fault d k v o es ≡ None → given k es ≡ false
not_given d k v None es {x} e f = absurd (none-some x e)
not_given d k v (Some y) es e f = go (given k es) (value_fault (judged d y v)) f
  where
    go : (b : Bool) (o : Option Refusal) → cond b (Some RepeatedKey) o ≡ None → b ≡ false
    go true o f = absurd (none-some RepeatedKey (sym f))
    go false o f = refl

-- a value that was judged good at a place: what its kind reads
record ReadsAs (d : Dialect) (kind : Kind) (b : List ℕ) (p : Place) (v : Value) : Type 0 where
  typed : Typed
  good : judged d kind b ≡ T.good typed
  is : value_at p typed ≡ v

reads_typed : {d : Dialect} {b : List ℕ} {kind : Kind} (p : Place) {v : Value} (j : Judged) → judged d kind b ≡ j → judgement_at p (judged d kind b) ≡ Ok v → ReadsAs d kind b p v
reads_typed p (T.good t) e r = let w = sym (ap (judgement_at p) e) ∙ r in record { typed = t; good = e; is = cc }
reads_typed p T.broken_text e r = let w = sym (ap (judgement_at p) e) ∙ r in let z : ◌≡◌ {A = ℕ} 0 1 = cc in absurd (omega arith)
reads_typed p T.broken_kind e r = let w = sym (ap (judgement_at p) e) ∙ r in let z : ◌≡◌ {A = ℕ} 0 1 = cc in absurd (omega arith)

-- its code
value_code_lem : (p : Place) (t : Typed) → value_code (value_at p t) ≡ code_of t
value_code_lem p (T.flag b) = refl
value_code_lem p (T.mask_length n) = refl
value_code_lem p (T.word w) = refl
value_code_lem p (T.address a) = refl
value_code_lem p (T.addresses l) = refl
value_code_lem p (T.entries l) = refl
value_code_lem p (T.addressing i) = refl
value_code_lem p (T.with_length w) = refl
value_code_lem p (T.bytes b) = refl

-- a text stands at its place
module _ (p : Place) where
  mapped_placed : {A : Type 0} (c : A → Typed) (o : Option A) {t : Typed} → mapped c o ≡ Some t → ((a : A) → text_place (value_at p (c a)) ≡ p) → text_place (value_at p t) ≡ p
  mapped_placed c None {t} e f = absurd (none-some t e)
  mapped_placed c (Some a) {t} e f = subst (λ (u : Typed). text_place (value_at p u) ≡ p) (same_Some (c a) t e) (f a)

  typed_placed : (d : Dialect) (k : Kind) (b : List ℕ) {t : Typed} → is_text k ≡ true → typed d k b ≡ Some t → text_place (value_at p t) ≡ p
  unfolding typed
  typed_placed d K.Flag b w e = absurd (true≢false (sym w))
  typed_placed d (K.Named l) b w e = absurd (true≢false (sym w))
  typed_placed d K.Netmask b w e = absurd (true≢false (sym w))
  typed_placed d K.Address b w e = mapped_placed T.address (A.address b) e (λ a. refl)
  typed_placed d K.Ipv4 b w e = mapped_placed T.addressing (ConnmanIpv4.ipv4 b) e (λ a. refl)
  typed_placed d K.Ipv6 b w e = mapped_placed T.addressing (Ipv6Values.connman_ipv6 b) e (λ a. refl)
  typed_placed d K.Ipv6Address b w e = mapped_placed T.address (Ipv6.ipv6 b) e (λ a. refl)
  typed_placed d K.Ipv6WithLength b w e = mapped_placed T.with_length (Ipv6Values.with_length b) e (λ a. refl)
  typed_placed d (K.Addresses s) b w e = mapped_placed T.addresses (A.addresses s b) e (λ a. refl)
  typed_placed d K.Entries b w e = mapped_placed T.entries (EntryLists.entries b) e (λ a. refl)
  typed_placed d K.Mac b w e = mapped_placed T.bytes (HexValues.mac b) e (λ a. refl)
  typed_placed d K.PreSharedKey b w e = mapped_placed T.bytes (HexValues.pre_shared_key_of b) e (λ a. refl)
  typed_placed d K.Ssid b w e = mapped_placed T.bytes (HexValues.ssid b) e (λ a. refl)
  typed_placed d K.Passphrase b w e = mapped_placed T.bytes (Kinds.passphrase b) e (λ a. refl)
  typed_placed d (K.Text low high) b w e = mapped_placed T.bytes (Kinds.string low high b) e (λ a. refl)

  text_placed : (d : Dialect) (k : Kind) (b : List ℕ) {t : Typed} → judged d k b ≡ T.good t → is_text k ≡ true → {v : Value} → value_at p t ≡ v → text_place v ≡ p
  text_placed d k b e w q = sym (ap text_place q) ∙ typed_placed d k b w (good_typed d k b e)

-- the place of a text lies in the file, and that of no text as well
place_inside : {d : Dialect} {file : List ℕ} {gs : List Section} {s : ℕ} {l : List ℕ} {i : ℕ} {v : Value} → GoodSetting d file gs s l i v → Inside (length file) (text_place v)
place_inside {d} {file} u = let t = reads_typed u.place (judged d u.new.kind (part_at file u.place)) refl u.new.reads in subst (λ (w : Value). Inside (length file) (text_place w)) t.is (go t.typed)
  where
    go : (t : Typed) → Inside (length file) (text_place (value_at u.place t))
    go (T.flag b) = record { low = omega arith; high = omega arith }
    go (T.mask_length n) = record { low = omega arith; high = omega arith }
    go (T.word w) = record { low = omega arith; high = omega arith }
    go (T.address a) = u.inside
    go (T.addresses l) = u.inside
    go (T.entries l) = u.inside
    go (T.addressing i) = u.inside
    go (T.with_length w) = u.inside
    go (T.bytes b) = u.inside

module _ {d : Dialect} {file : List ℕ} {st : State} {x : List ℕ} {s : ℕ} {l : List ℕ} {f : Result Line Refusal} (says : LineSays d file x st.current s l f) where
  line_is : {gs : List Section} → HoldsGroups d file st x gs → LineIs d file gs s l f
  line_is {gs} h = says.says gs h.current h.table.rows

  -- ---- a header

  module _ {p : Place} (q : f ≡ Ok (L.Header p)) where
    pub header_place : Known d file st x → Inside (length file) p
    header_place k = (subst (LineIs d file k.groups s l) q (line_is k.holds)).1

    pub step_header : {n : ℕ} {y : List ℕ} {r : Result State Refusal} → StepSays d file st x n s 0 (Lines.header (part_at file p)) y r → StepSays d file st x n s (value_start d l) (line_of d l) y r
    unfolding with_line
    step_header {n} {y} {r} t = record { says = λ gs h. rw (subst (LineIs d file gs s l) q (line_is h)).0 (go gs r (t.says gs h)) }
      where
        go : (gs : List Section) (r : Result State Refusal) → StepIs d file gs n s 0 (Lines.header (part_at file p)) y r → StepIs d file gs n s (value_start d l) (Lines.header (part_at file p)) y r
        go gs (Ok a) u = u
        go gs (Err a) u = u

  -- ---- a refused line

  pub step_refused : {n : ℕ} {r : Refusal} → f ≡ Err r → {y : List ℕ} → StepSays d file st x n s (value_start d l) (line_of d l) y (Err r)
  step_refused q = record { says = λ gs h. subst (LineIs d file gs s l) q (line_is h) }

  -- ---- a line that is passed over

  pub step_passed : {n : ℕ} {t : Line} → f ≡ Ok t → (t ≡ L.Blank) ⊎ (t ≡ L.Comment) → StepSays d file st x n s (value_start d l) (line_of d l) x (Ok st)
  unfolding fault with_line
  step_passed q (inl e) = record { says = λ gs h. rw (subst (LineIs d file gs s l) (q ∙ ap Ok e) (line_is h)) (refl, h) }
  step_passed q (inr e) = record { says = λ gs h. rw (subst (LineIs d file gs s l) (q ∙ ap Ok e) (line_is h)) (refl, h) }

  -- ---- a setting

  module _ {i : ℕ} {v : Value} (q : f ≡ Ok (L.Setting i v)) where
    good : {gs : List Section} → HoldsGroups d file st x gs → GoodSetting d file gs s l i v
    good {gs} h = subst (LineIs d file gs s l) q (line_is h)

    pub value_inside : Known d file st x → Inside (length file) (text_place v)
    value_inside k = place_inside (good k.holds)

    pub slot_few : Known d file st x → i < name_base
    slot_few k = let u = (good k.holds).new in omega (arith, u.is, (current_row k).row u.group u.row (k.holds.current ∙ u.in_force_lem), keys_few u.group (good k.holds).key)

    module _ {n : ℕ} (first : 0 < n) {r : State} (e : r ≡ record { current = st.current; services = st.services; settings = st.settings + 1 }) where
      module _ {gs : List Section} (h : HoldsGroups d file st x gs) (u : GoodSetting d file gs s l i v) where
        abbrev entry : Entry
        entry = record { key = u.key; value = part_at file u.place; line = n; start = s + value_start d l }

        abbrev here : Slot
        here = record { start = (text_place v).start; end = (text_place v).end; line = n; code = value_code v }

        stands : (g : Group) → kind_of g u.key ≡ Some u.new.kind → SlotSays d (kind_of g u.key) file here entry
        stands g q =
            let i = place_inside u in
            let t = reads_typed u.place (judged d u.new.kind (part_at file u.place)) refl u.new.reads in
            let at : OfText (kind_of g u.key) → text_place v ≡ u.place = λ w. text_placed u.place d u.new.kind (part_at file u.place) t.good (subst OfText q w) t.is in
            record {
              low = i.low;
              high = i.high;
              value = λ w. ap (part_at file) (at w);
              start = λ w. ap (λ (p : Place). p.start) (at w) ∙ u.starts;
              line = refl;
              some = first;
              code = record { kind = u.new.kind; of_kind = q; typed = t.typed; good = t.good; is = subst (λ (w : Value). value_code w ≡ code_of t.typed) t.is (value_code_lem u.place t.typed) };
            }

        held : (t : Head gs u.new.group u.new.row) → HoldsGroups d file r (stored i here x) (with_entry entry gs)
        unfolding fault
        held t =
            let a = t.section in
            let kind : kind_of a.group u.key ≡ Some u.new.kind = ap (λ (g : Group). kind_of g u.key) t.group ∙ u.new.of_kind in
            let free : given u.key a.entries ≡ false = not_given d u.key (part_at file u.place) (kind_of a.group u.key) a.entries kind (sym (ap (λ (t : List Section). fault d t (setting u.key (part_at file u.place))) t.is) ∙ ap (fault d gs) (sym u.is) ∙ u.good) in
            let at : i ≡ base_at (row_after a t.rest) + place u.key (key_names a.group) = u.new.is ∙ ap₂ (λ (b : ℕ) (g : Group). b + place u.key (key_names g)) (sym t.row) (sym t.group) in
            subst (λ (t : List Section). HoldsGroups d file r (stored i here x) (with_entry entry t)) (sym t.is)
            (subst (λ (j : ℕ). HoldsGroups d file r (stored j here x) (with_entry entry (a ∷ t.rest))) (sym at)
            (holds_setting (subst (λ (t : List Section). HoldsGroups d file st x t) t.is h) u.key (λ z. u.new.listed (ap (λ (g : Group). place u.key (key_names g)) (sym t.group) ∙ z)) here refl (stands a.group kind) free e))

      pub step_setting : {y : List ℕ} → y ≡ stored i (record { start = (text_place v).start; end = (text_place v).end; line = n; code = value_code v }) x → StepSays d file st x n s (value_start d l) (line_of d l) y (Ok r)
      unfolding with_line
      step_setting z = record { says = λ gs h. let u = good h in (u.good, rw (z, u.is) (held h u (head gs h.current (h.current ∙ u.new.in_force_lem)))) }
