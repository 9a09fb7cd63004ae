-- Demand 2's values, of every key of every group at once: in an accepted file a key's value is absent exactly when the
-- key is not given, and is otherwise what the kind that is listed for the key gives.
use Rattle.std.specs.Prelude.{ℕ, ◌≡◌, refl, Bool, true, false, cond, ◌||◌, List, [], ◌∷◌, Option, None, Some}
use Rattle.std.proofs.Common.{ap, sym, ◌∙◌, subst, true≢false}
use Rattle.std.proofs.lemmas.Option.{none-some, same_Some}
use Rattle.text.specs.Options.{is_some, mapped, only}
use Rattle.text.specs.OptionLaws.{IfSome}
use Rattle.text.specs.Words.{word, same}
use Rattle.text.specs.declared.Dialect.{Dialect}
use Rattle.text.specs.declared.Dialect.TheVariants.{Iwd, ConnMan}
use Rattle.kinds.specs.Typed as T
use Rattle.kinds.specs.Typed.{Typed, typed}
use Rattle.kinds.specs.ValueRules.{ValueIs}
use Rattle.kinds.proofs.ValueRuleLaws.{typed_value}
use Rattle.kinds.specs.declared.Kind.{Kind}
use Rattle.kinds.specs.declared.Kind.TheVariants as Kind
use Rattle.rules.specs.Tables.{is_service, group_of, kind_of}
use Rattle.rules.specs.Sections.{Entry, Section, given, serves, entry_of, entries_in}
use Rattle.rules.specs.Groups.{has}
use Rattle.rules.specs.Reading.{sections_of, reading}
use Rattle.rules.specs.Asking.{iwd_entry, service_at, read_as}
use Rattle.rules.specs.ListedValues.{KindValue, valued, group_dialect, ValueOf, read_by, value_of, group_name, group_value}
use Rattle.rules.proofs.GoodEntries.{Asked, group_asked, service_asked}
use Rattle.rules.proofs.GoodValues.{GoodValue, group_value_lem, service_value}
use Rattle.rules.specs.declared.Group.{Group}
use Rattle.rules.specs.declared.Group.TheVariants.{Settings, Security, Ipv4, Ipv6, Global, Service}
use Rattle.rules.specs.Answering.{accepted_with}

-- ---- the statement

-- a value as the typed value that its kind gives
abbrev pub typed_as : (k : Kind) → KindValue k → Typed
typed_as Kind.Flag = T.flag
typed_as (Kind.Named w) = T.word
typed_as Kind.Address = T.address
typed_as Kind.Netmask = T.mask_length
typed_as Kind.Ipv4 = T.addressing
typed_as Kind.Ipv6 = T.addressing
typed_as Kind.Ipv6Address = T.address
typed_as Kind.Ipv6WithLength = T.with_length
typed_as (Kind.Addresses sep) = T.addresses
typed_as Kind.Entries = T.entries
typed_as Kind.Mac = T.bytes
typed_as Kind.PreSharedKey = T.bytes
typed_as Kind.Ssid = T.bytes
typed_as Kind.Passphrase = T.bytes
typed_as (Kind.Text low high) = T.bytes

-- a setting and the value of its key, whose kind is k, in a file of dialect d
pub data KindGives (d : Dialect) (k : Kind) : Option Entry → Option (KindValue k) → Type 0 where
  absent : KindGives d k None None
  present : {e : Entry} {x : KindValue k} → ValueIs d k e.value (typed_as k x) → KindGives d k (Some e) (Some x)

-- the same where a key may be listed or not; one that is not listed has neither a setting nor a value
abbrev pub Gives : Dialect → (o : Option Kind) → Option Entry → Option (ValueOf o) → Type 0
Gives d None e x = (e ≡ None) × (x ≡ None)
Gives d (Some k) e x = KindGives d k e x

-- ---- the kinds, and the groups of a dialect

pub typed_valued : (d : Dialect) (k : Kind) (v : List ℕ) → typed d k v ≡ mapped (typed_as k) (valued d k v)
unfolding typed
typed_valued d Kind.Flag v = refl
typed_valued d (Kind.Named w) v = refl
typed_valued d Kind.Address v = refl
typed_valued d Kind.Netmask v = refl
typed_valued d Kind.Ipv4 v = refl
typed_valued d Kind.Ipv6 v = refl
typed_valued d Kind.Ipv6Address v = refl
typed_valued d Kind.Ipv6WithLength v = refl
typed_valued d (Kind.Addresses sep) v = refl
typed_valued d Kind.Entries v = refl
typed_valued d Kind.Mac v = refl
typed_valued d Kind.PreSharedKey v = refl
typed_valued d Kind.Ssid v = refl
typed_valued d Kind.Passphrase v = refl
typed_valued d (Kind.Text low high) v = refl

pub group_dialect_lem : (d : Dialect) (n : List ℕ) {g : Group} → group_of d n ≡ Some g → group_dialect g ≡ d
unfolding group_of
group_dialect_lem Iwd n {g} e =
    go (same n (word "Settings")) (same n (word "Security")) (same n (word "IPv4")) (same n (word "IPv6")) e
  where
    go : (a b c d : Bool) →
        cond a (Some Settings) (cond b (Some Security) (cond c (Some Ipv4) (cond d (Some Ipv6) None))) ≡ Some g →
        group_dialect g ≡ Iwd
    go true b c d q = ap group_dialect (sym (same_Some Settings g q))
    go false true c d q = ap group_dialect (sym (same_Some Security g q))
    go false false true d q = ap group_dialect (sym (same_Some Ipv4 g q))
    go false false false true q = ap group_dialect (sym (same_Some Ipv6 g q))
    go false false false false q = absurd (none-some g q)
group_dialect_lem ConnMan n {g} e = go (same n (word "global")) (is_service n) e
  where
    go : (a b : Bool) → cond a (Some Global) (only b (Some Service)) ≡ Some g → group_dialect g ≡ ConnMan
    go true b q = ap group_dialect (sym (same_Some Global g q))
    go false true q = ap group_dialect (sym (same_Some Service g q))
    go false false q = absurd (none-some g q)

-- the one name of a group that is no service names it
pub group_of_name : (g : Group) → serves g ≡ false → group_of (group_dialect g) (group_name g) ≡ Some g
unfolding group_of
group_of_name Settings s = refl
group_of_name Security s = refl
group_of_name Ipv4 s = refl
group_of_name Ipv6 s = refl
group_of_name Global s = refl
group_of_name Service s = absurd (true≢false s)

-- ---- one key

-- what is read from a setting has a property that its kind gives to all it reads
pub read_holds : {A : Type 0} (P : A → Type 0) (f : List ℕ → Option A) (o : Option Entry) →
    ((e : Entry) → o ≡ Some e → (a : A) → f e.value ≡ Some a → P a) → IfSome P (read_as f o)
read_holds P f None h = tt
read_holds {A} P f (Some e) h = go (f e.value) refl
  where
    go : (o : Option A) → f e.value ≡ o → IfSome P o
    go None q = tt
    go (Some a) q = h e refl a q

good_gives : (d : Dialect) (k : Kind) {e : Entry} → GoodValue d k e.value →
    KindGives d k (Some e) (valued d k e.value)
good_gives d k {e} g = go (valued d k e.value) (typed_valued d k e.value)
  where
    go : (o : Option (KindValue k)) → typed d k e.value ≡ mapped (typed_as k) o → KindGives d k (Some e) o
    go None q = absurd (none-some g.value (sym q ∙ g.reads))
    go (Some x) q = present (typed_value d k e.value q)

-- a setting that is listed, and good for its kind, by whatever kind that is
key_gives : (d : Dialect) (g : Group) (key : List ℕ) (s : Option Entry) →
    ((e : Entry) → s ≡ Some e → Asked d g key e) →
    ((k : Kind) → kind_of g key ≡ Some k → (e : Entry) → s ≡ Some e → GoodValue d k e.value) → (o : Option Kind) →
    kind_of g key ≡ o → Gives d o s (read_by d o s)
key_gives d g key None a h None q = (refl, refl)
key_gives d g key (Some e) a h None q =
    let x = a e refl in
    absurd (none-some x.entry.kind (sym q ∙ ap (kind_of g) (sym x.key) ∙ x.entry.listed))
key_gives d g key None a h (Some k) q = absent
key_gives d g key (Some e) a h (Some k) q = good_gives d k (h k q e refl)

-- ---- every key of an accepted file

-- the settings of a service, by their keys
abbrev pub service_entry : List Section → ℕ → List ℕ → Option Entry
service_entry gs w k = entry_of k (service_at w gs)

-- in the group with a name
pub group_gives : (d : Dialect) (name file : List ℕ) {n m : ℕ} → reading d name file ≡ accepted_with n m
    → (group : List ℕ) {g : Group} → group_of d group ≡ Some g
    → (key : List ℕ)
    → Gives d (kind_of g key) (iwd_entry (sections_of d file) group key) (value_of g (iwd_entry (sections_of d file) group) key)
group_gives d name file a group {g} q key =
    let s = iwd_entry (sections_of d file) group key in
    subst (λ (c : Dialect). Gives d (kind_of g key) s (read_by c (kind_of g key) s)) (sym (group_dialect_lem d group q))
    (key_gives d g key s (λ e t. group_asked d name file a group key q t) (λ k l e t. group_value_lem d name file a group key q l t) (kind_of g key) refl)

-- in service w
pub service_gives : (name file : List ℕ) {n m : ℕ} → reading ConnMan name file ≡ accepted_with n m → (w : ℕ) (key : List ℕ)
    → Gives ConnMan (kind_of Service key) (service_entry (sections_of ConnMan file) w key) (value_of Service (service_entry (sections_of ConnMan file) w) key)
service_gives name file a w key =
    key_gives ConnMan Service key (service_entry (sections_of ConnMan file) w key) (λ e t. service_asked ConnMan name file a w key t) (λ k l e t. service_value ConnMan name file a w key l t) (kind_of Service key) refl

-- in the group that is no service, by its own name
pub value_gives : (g : Group) → serves g ≡ false
    → (name file : List ℕ) {n m : ℕ} → reading (group_dialect g) name file ≡ accepted_with n m
    → (key : List ℕ)
    → Gives (group_dialect g) (kind_of g key) (iwd_entry (sections_of (group_dialect g) file) (group_name g) key) (group_value g (iwd_entry (sections_of (group_dialect g) file)) key)
value_gives g s name file a key = group_gives (group_dialect g) name file a (group_name g) (group_of_name g s) key

-- ---- absent exactly when the key is not given

pub entry_given : (k : List ℕ) (es : List Entry) → is_some (entry_of k es) ≡ given k es
entry_given k [] = refl
entry_given k (x ∷ es) = go (same k x.key) (entry_given k es)
  where
    go : (b : Bool) → is_some (entry_of k es) ≡ given k es → is_some (cond b (Some x) (entry_of k es)) ≡ (b || given k es)
    go true h = refl
    go false h = h

gives_some : (d : Dialect) (o : Option Kind) (e : Option Entry) (x : Option (ValueOf o)) → Gives d o e x →
    is_some x ≡ is_some e
gives_some d None e x h = ap is_some h.1 ∙ sym (ap is_some h.0)
gives_some d (Some k) e x absent = refl
gives_some d (Some k) e x (present q) = refl

pub group_given : (d : Dialect) (name file : List ℕ) {n m : ℕ} → reading d name file ≡ accepted_with n m
    → (group : List ℕ) {g : Group} → group_of d group ≡ Some g
    → (key : List ℕ)
    → is_some (value_of g (iwd_entry (sections_of d file) group) key) ≡ has group key (sections_of d file)
group_given d name file a group {g} q key =
    gives_some d (kind_of g key) (iwd_entry (sections_of d file) group key) (value_of g (iwd_entry (sections_of d file) group) key) (group_gives d name file a group q key)
    ∙ entry_given key (entries_in group (sections_of d file))

pub service_given : (name file : List ℕ) {n m : ℕ} → reading ConnMan name file ≡ accepted_with n m → (w : ℕ) (key : List ℕ)
    → is_some (value_of Service (service_entry (sections_of ConnMan file) w) key) ≡ given key (service_at w (sections_of ConnMan file))
service_given name file a w key =
    gives_some ConnMan (kind_of Service key) (service_entry (sections_of ConnMan file) w key) (value_of Service (service_entry (sections_of ConnMan file) w) key) (service_gives name file a w key)
    ∙ entry_given key (service_at w (sections_of ConnMan file))
