-- What a row keeps of a key, read by its kind.
use Prim.Native.Nat.{ℕ, zero, suc, ◌≤◌}
use native.Mathlib.Omega.{arith}
use mathlib.Core.Path.{◌≡◌, refl, ap, sym, ◌∙◌, subst}
use mathlib.Core.Bool.{Bool, true, false}
use mathlib.Core.List.{List, []}
use Rattle.std.specs.Prelude.{Option, None, Some}
use Rattle.text.specs.Options.{and_then}
use Rattle.text.specs.Words.{word}
use Rattle.text.specs.declared.Dialect.{Dialect}
use Rattle.text.specs.declared.Dialect.TheVariants.{Iwd}
use Rattle.addresses.specs.Addresses.{address, number, decimal_value, netmask, addresses}
use Rattle.addresses.specs.declared.Separator.{Separator}
use Rattle.addresses.specs.declared.Separator.TheVariants.{Spaces, Comma}
use Rattle.named_words.specs.NamedWords.{flag, word_of}
use Rattle.ipv6.specs.Ipv6.{side, halves, ipv6}
use Rattle.connman_ipv4.specs.ConnmanIpv4.{ipv4}
use Rattle.ipv6_values.specs.Ipv6Values.{connman_ipv6, with_length}
use Rattle.hex_values.specs.HexValues.{mac, ssid, pre_shared_key_of}
use Rattle.entry_lists.specs.EntryLists.{entries}
use Rattle.addresses.specs.MaskRuleLaws.{netmask_good}
use Rattle.kinds.specs.declared.Kind.{Kind}
use Rattle.kinds.specs.declared.Kind.TheVariants.{Flag, Named, Netmask}
use Rattle.named_words.specs.declared.Word.{Word}
use Rattle.named_words.specs.declared.Word.TheVariants.{Wifi, Ethernet, Disabled, Enabled, Preferred, Psk, Ieee8021x, Wep}
use Rattle.named_words.specs.declared.WordList.{WordList}
use Rattle.rules.specs.WordNumbers.{is_word, word_number}
use Rattle.rules.specs.Asking.{read_as, entry_line, entry_start}
use Rattle.rules.specs.Sections.{Entry, entry_of}
use Rattle.rules.specs.declared.Group.{Group}
use Rattle.rules.specs.declared.Group.TheVariants as G
use Rattle.places.specs.Store.{Slot, last_row}
use Rattle.places.specs.Holds.{flag_code, is_text, Coded, SlotKeeps, RowKeeps}
use Rattle.places.specs.KeySlots.{key_slot, bytes_of, slot_is, ValueInFile}
use Rattle.places.specs.Keys.{key_group, key_word as name_of, key_kind}
use Rattle.places.specs.declared.KeyName.{KeyName}
use Rattle.places.specs.declared.KeyName.TheVariants as N
use Rattle.places.proofs.RowKeys.{row_key, row_in, CodedBy, coded_word, coded_flag, coded_mask, kept_word}
use Rattle.places.proofs.Values.{kept_read, kept_line, kept_start}
use Rattle.values.specs.Codes.{choice_by, chosen_by, mask_by}
use Rattle.values.specs.Rows.{RowOf, MaskIn, IwdRows}

-- ---- no kind reads a value from no bytes

pub address_none : address [] ≡ None
unfolding address number decimal_value
address_none = refl

pub addresses_none : (s : Separator) → addresses s [] ≡ None
unfolding addresses address number decimal_value
addresses_none Spaces = refl
addresses_none Comma = refl

pub ipv4_none : ipv4 [] ≡ None
unfolding ipv4
ipv4_none = refl

pub ipv6_none : ipv6 [] ≡ None
unfolding ipv6 halves side
ipv6_none = refl

pub connman_ipv6_none : connman_ipv6 [] ≡ None
unfolding connman_ipv6
connman_ipv6_none = refl

pub with_length_none : with_length [] ≡ None
unfolding with_length
with_length_none = rw ipv6_none

pub entries_none : entries [] ≡ None
unfolding entries
entries_none = refl

pub mac_none : mac [] ≡ None
unfolding mac
mac_none = refl

pub key_none : pre_shared_key_of [] ≡ None
unfolding pre_shared_key_of
key_none = refl

pub ssid_none : ssid [] ≡ None
unfolding ssid
ssid_none = refl

-- ---- a row, and a key of it

-- the row of one group of iwd
pub row_of : {file x : List ℕ} (h : IwdRows file x) {b : ℕ} → b ≤ last_row → (g : Group) {es : List Entry} → RowKeeps Iwd file x b g es → RowOf Iwd file x b g
row_of h l g {es} r = record { table = record { long = h.long; row = l }; settings = es; row = r }

pub key_in : {d : Dialect} {file x : List ℕ} {b : ℕ} (k : KeyName) → RowOf d file x b (key_group k) → ValueInFile file x b k
key_in k h = row_in k h.row h.table

-- of a key whose values are texts; once the key is named, this comes to the statement itself
abbrev When : Bool → Type 0 → Type 0
When true A = A
When false A = Unit

when : (b : Bool) {A : Type 0} → (b ≡ true → A) → When b A
when true f = f refl
when false f = tt

abbrev pub IfText : KeyName → Type 0 → Type 0
IfText k A = When (is_text (key_kind k)) A

module _ {d : Dialect} {file x : List ℕ} {b : ℕ} (k : KeyName) {es : List Entry} (h : RowKeeps d file x b (key_group k) es) where
  pub row_read : {A : Type 0} (f : List ℕ → Option A) → f [] ≡ None → IfText k (f (bytes_of file x b k) ≡ read_as f (entry_of (name_of k) es))
  row_read f q = when (is_text (key_kind k)) (λ t. kept_read d (Some (key_kind k)) file (key_slot x b k) f q t (entry_of (name_of k) es) (row_key k h))

  pub row_line : (key_slot x b k).line ≡ entry_line (entry_of (name_of k) es)
  row_line = kept_line d (Some (key_kind k)) file (key_slot x b k) (entry_of (name_of k) es) (row_key k h)

  pub row_start : IfText k ((key_slot x b k).start ≡ entry_start (entry_of (name_of k) es))
  row_start = when (is_text (key_kind k)) (λ t. kept_start d (Some (key_kind k)) file (key_slot x b k) t (entry_of (name_of k) es) (row_key k h))

-- ---- a yes/no and a word by their codes

word_back : (u : Word) → chosen_by (word_number u) ≡ Some u
unfolding chosen_by
word_back Wifi = refl
word_back Ethernet = refl
word_back Disabled = refl
word_back Enabled = refl
word_back Preferred = refl
word_back Psk = refl
word_back Ieee8021x = refl
word_back Word.None = refl
word_back Wep = refl

flag_back : (b : Bool) → choice_by (flag_code b) ≡ Some b
flag_back false = refl
flag_back true = refl

mask_back : (n : ℕ) → 1 ≤ n → mask_by n ≡ Some n
mask_back zero h = absurd (omega (arith, h))
mask_back (suc n) h = refl

-- what a slot's code gives, where the code of no setting gives nothing and that of a value the value
by_code : {A : Type 0} (back : ℕ → Option A) (f : List ℕ → Option A) (code : A → ℕ) → back 0 ≡ None → ((v : List ℕ) (a : A) → f v ≡ Some a → back (code a) ≡ Some a) → (d : Dialect) (k : Kind) (file : List ℕ) (s : Slot) (o : Option Entry) → ((v : List ℕ) → Coded d (Some k) v s.code → CodedBy f code v s.code) → SlotKeeps d (Some k) file s o → back s.code ≡ read_as f o
by_code back f code z b d k file s None c q = ap (λ (t : Slot). back t.code) q ∙ z
by_code back f code z b d k file s (Some e) c h = let w = c e.value h.code in ap back w.code ∙ b e.value w.value w.is ∙ sym w.is

pub word_by_lem : (d : Dialect) (l : WordList) (file : List ℕ) (s : Slot) (o : Option Entry) → SlotKeeps d (Some (Named l)) file s o → chosen_by s.code ≡ read_as (word_of l) o
unfolding chosen_by
word_by_lem d l file s o h = by_code chosen_by (word_of l) word_number refl (λ v u e. word_back u) d (Named l) file s o (λ v c. coded_word d l v c) h

pub flag_by : (d : Dialect) (file : List ℕ) (s : Slot) (o : Option Entry) → SlotKeeps d (Some Flag) file s o → choice_by s.code ≡ read_as (flag d) o
flag_by d file s o h = by_code choice_by (flag d) flag_code refl (λ v b e. flag_back b) d Flag file s o (λ v c. coded_flag d v c) h

mask_by_lem : (d : Dialect) (file : List ℕ) (s : Slot) (o : Option Entry) → SlotKeeps d (Some Netmask) file s o → mask_by s.code ≡ read_as netmask o
mask_by_lem d file s o h = by_code mask_by netmask (λ m. m) refl (λ v m e. mask_back m (netmask_good v e).0) d Netmask file s o (λ v c. coded_mask d v c) h

mask_few : (d : Dialect) (file : List ℕ) (s : Slot) (o : Option Entry) → SlotKeeps d (Some Netmask) file s o → s.code ≤ 32
mask_few d file s None q = rw (ap (λ (t : Slot). t.code) q) (omega arith)
mask_few d file s (Some e) h = let w = coded_mask d e.value h.code in omega (arith, w.code, (netmask_good e.value w.is).1)

pub mask_in : {d : Dialect} {file x : List ℕ} {b : ℕ} → RowOf d file x b G.Ipv4 → MaskIn x b N.Netmask
mask_in {d} {file} {x} {b} h = record { table = h.table; small = mask_few d file (key_slot x b N.Netmask) (entry_of (word "Netmask") h.settings) (row_key N.Netmask h.row) }

-- the same of a key of a row
module _ {d : Dialect} {file x : List ℕ} {b : ℕ} (k : KeyName) {es : List Entry} (h : RowKeeps d file x b (key_group k) es) where
  pub row_word : (l : WordList) → key_kind k ≡ Named l → (w : Word) → slot_is x b k w ≡ is_word w (read_as (word_of l) (entry_of (name_of k) es))
  row_word l e w = kept_word d l file (key_slot x b k) (entry_of (name_of k) es) (subst (λ (i : Kind). SlotKeeps d (Some i) file (key_slot x b k) (entry_of (name_of k) es)) e (row_key k h)) w ∙ ap (is_word w) (then_read (entry_of (name_of k) es))
    where
      then_read : (o : Option Entry) → and_then o (λ e. word_of l e.value) ≡ read_as (word_of l) o
      then_read None = refl
      then_read (Some e) = refl

  pub row_flag : key_kind k ≡ Flag → choice_by (key_slot x b k).code ≡ read_as (flag d) (entry_of (name_of k) es)
  row_flag e = flag_by d file (key_slot x b k) (entry_of (name_of k) es) (subst (λ (i : Kind). SlotKeeps d (Some i) file (key_slot x b k) (entry_of (name_of k) es)) e (row_key k h))

pub row_mask : {d : Dialect} {file x : List ℕ} {b : ℕ} {es : List Entry} → RowKeeps d file x b G.Ipv4 es → mask_by (key_slot x b N.Netmask).code ≡ read_as netmask (entry_of (word "Netmask") es)
row_mask {d} {file} {x} {b} {es} h = mask_by_lem d file (key_slot x b N.Netmask) (entry_of (word "Netmask") es) (row_key N.Netmask h)
