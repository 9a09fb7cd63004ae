-- Every setting of an accepted file is listed for its group, and its value is good for its kind.
use Rattle.std.specs.Prelude.{ℕ, zero, suc, ◌+◌, ◌≡◌, refl, Bool, true, false, cond, length, Option, None, Some}
use Rattle.std.proofs.Common.{ap, sym, ◌∙◌, subst, true≢false}
use mathlib.Core.List.{List, [], ◌∷◌, ◌++◌, reverse, reverse-cons}
use Rattle.std.proofs.lemmas.Option.{none-some, same_Some}
use Rattle.text.specs.Parts.{lines}
use Rattle.text.specs.Words.{word, same}
use Rattle.text.specs.Laws.{same_eq}
use Rattle.text.specs.declared.Dialect.{Dialect}
use Rattle.text.specs.declared.Dialect.TheVariants.{Iwd}
use Rattle.kinds.specs.Typed.{judged}
use Rattle.kinds.specs.declared.Kind.{Kind}
use Rattle.lines.specs.Lines.{Line, blank, comment, header, setting, broken, line_of, value_start}
use Rattle.rules.specs.Tables.{group_of, kind_of}
use Rattle.rules.specs.Sections.{Entry, Section, given, serves, services, with_line, with_group, entry_of, entries_in}
use Rattle.rules.specs.Faults.{key_fault, value_fault, fault}
use Rattle.rules.specs.Reading.{after_line, grown, sections_of, reading}
use Rattle.rules.specs.Asking.{first_or, service_at}
use Rattle.rules.proofs.Acceptance.{LinesObey, accepted_obeys}
use Rattle.rules.specs.declared.Group.{Group}
use Rattle.rules.specs.declared.Group.TheVariants.{Settings, Security, Ipv4, Ipv6, Global, Service}
use Rattle.rules.specs.declared.Refusal.TheVariants.{UnknownKey, RepeatedKey}
use Rattle.rules.specs.Answering.{accepted_with}

-- a setting in group g
pub record GoodEntry (d : Dialect) (g : Group) (e : Entry) : Type 0 where
  pub kind : Kind
  pub listed : kind_of g e.key ≡ Some kind
  pub good : value_fault (judged d kind e.value) ≡ None

abbrev pub EntriesGood : Dialect → Group → List Entry → Type 0
EntriesGood d g [] = Unit
EntriesGood d g (e ∷ es) = GoodEntry d g e × EntriesGood d g es

pub record GoodSection (d : Dialect) (s : Section) : Type 0 where
  pub named : group_of d s.name ≡ Some s.group
  pub entries : EntriesGood d s.group s.entries

abbrev pub AllGood : Dialect → List Section → Type 0
AllGood d [] = Unit
AllGood d (s ∷ gs) = GoodSection d s × AllGood d gs

-- ---- one line further

entries_more : (d : Dialect) (g : Group) (es : List Entry) (e : Entry) → EntriesGood d g es → GoodEntry d g e →
    EntriesGood d g (es ++ (e ∷ []))
entries_more d g [] e h k = (k, tt)
entries_more d g (x ∷ es) e h k = (h.0, entries_more d g es e h.1 k)

good_entry : (d : Dialect) (g : Group) (e : Entry) (o : Option Kind) (es : List Entry) → kind_of g e.key ≡ o →
    key_fault d e.key e.value o es ≡ None → GoodEntry d g e
good_entry d g e None es q f = absurd (none-some UnknownKey (sym f))
good_entry d g e (Some x) es q f = go (given e.key es) f
  where
    go : (b : Bool) → cond b (Some RepeatedKey) (value_fault (judged d x e.value)) ≡ None → GoodEntry d g e
    go true f = absurd (none-some RepeatedKey (sym f))
    go false f = record { kind = x; listed = q; good = f }

group_more : (d : Dialect) (n : List ℕ) (l s : ℕ) (gs : List Section) (o : Option Group) → group_of d n ≡ o →
    AllGood d gs → AllGood d (with_group n o l s gs)
group_more d n l s gs None q h = h
group_more d n l s gs (Some g) q h = (record { named = q; entries = tt }, h)

after_good : (d : Dialect) (n s v : ℕ) (p : Line) (gs : List Section) → fault d gs p ≡ None → AllGood d gs →
    AllGood d (with_line d n s v p gs)
unfolding fault with_line
after_good d n s v blank gs f h = h
after_good d n s v comment gs f h = h
after_good d n s v (broken b) gs f h = h
after_good d n s v (header m) gs f h = group_more d m n s gs (group_of d m) refl h
after_good d n s v (setting k u) [] f h = tt
after_good d n s v (setting k u) (g ∷ gs) f h = (
  record {
    named = h.0.named;
    entries = entries_more d g.group g.entries (record { key = k; value = u; line = n; start = s + v }) h.0.entries (good_entry d g.group (record { key = k; value = u; line = n; start = s + v }) (kind_of g.group k) g.entries refl f);
  },
  h.1,
)

grown_good : (d : Dialect) (n s : ℕ) (gs : List Section) (ls : List (List ℕ)) → LinesObey d n s gs ls → AllGood d gs →
    AllGood d (grown d n s gs ls)
unfolding grown
grown_good d n s gs [] o h = h
grown_good d n s gs (l ∷ ls) o h =
    grown_good d (suc n) (s + length l + 1) (after_line d n s l gs) ls o.1 (after_good d n s (value_start d l) (line_of d l) gs o.0 h)

-- ---- in file order

good_last : (d : Dialect) (a : List Section) (g : Section) → AllGood d a → GoodSection d g → AllGood d (a ++ (g ∷ []))
good_last d [] g h k = (k, tt)
good_last d (x ∷ a) g h k = (h.0, good_last d a g h.1 k)

good_reverse : (d : Dialect) (gs : List Section) → AllGood d gs → AllGood d (reverse gs)
good_reverse d [] h = tt
good_reverse d (g ∷ gs) h = rw (reverse-cons g gs) (good_last d (reverse gs) g (good_reverse d gs h.1) h.0)

pub accepted_good : (d : Dialect) (name file : List ℕ) {n m : ℕ} → reading d name file ≡ accepted_with n m →
    AllGood d (sections_of d file)
unfolding sections_of
accepted_good d name file e =
    good_reverse d (grown d 1 0 [] (lines file)) (grown_good d 1 0 [] (lines file) (accepted_obeys d name file e).each_line tt)

-- ---- no group of an iwd file is a service

pub iwd_plain : (n : List ℕ) (g : Group) → group_of Iwd n ≡ Some g → serves g ≡ false
unfolding group_of
iwd_plain n g e =
    go (same n (word "Settings")) (same n (word "Security")) (same n (word "IPv4")) (same n (word "IPv6")) e
  where
    go : (a b c d : Bool) →
        cond a (Some Settings) (cond b (Some Security) (cond c (Some Ipv4) (cond d (Some Ipv6) None))) ≡ Some g →
        serves g ≡ false
    go true b c d q = ap serves (sym (same_Some Settings g q))
    go false true c d q = ap serves (sym (same_Some Security g q))
    go false false true d q = ap serves (sym (same_Some Ipv4 g q))
    go false false false true q = ap serves (sym (same_Some Ipv6 g q))
    go false false false false q = absurd (none-some g q)

good_plain : (gs : List Section) → AllGood Iwd gs → services gs ≡ 0
good_plain [] h = refl
good_plain (g ∷ gs) h = rw (iwd_plain g.name g.group h.0.named) (good_plain gs h.1)

pub iwd_services : (name file : List ℕ) {n m : ℕ} → reading Iwd name file ≡ accepted_with n m →
    services (sections_of Iwd file) ≡ 0
iwd_services name file e = good_plain (sections_of Iwd file) (accepted_good Iwd name file e)

-- ---- a setting that is asked for

-- a setting with the key k
pub record Asked (d : Dialect) (g : Group) (k : List ℕ) (e : Entry) : Type 0 where
  pub key : e.key ≡ k
  pub entry : GoodEntry d g e

entry_asked : (d : Dialect) (g : Group) (k : List ℕ) (es : List Entry) {e : Entry} → EntriesGood d g es →
    entry_of k es ≡ Some e → Asked d g k e
entry_asked d g k [] {e} h q = absurd (none-some e q)
entry_asked d g k (x ∷ es) {e} h q = go (same k x.key) refl (λ t. entry_asked d g k es h.1 t) q
  where
    go : (b : Bool) → same k x.key ≡ b → (entry_of k es ≡ Some e → Asked d g k e) →
        cond b (Some x) (entry_of k es) ≡ Some e → Asked d g k e
    go true p f t =
        subst (Asked d g k) (same_Some x e t) (record { key = sym (same_eq k x.key p); entry = h.0 })
    go false p f t = f t

group_entries : (d : Dialect) (n : List ℕ) {g : Group} → group_of d n ≡ Some g → (gs : List Section) → AllGood d gs →
    EntriesGood d g (entries_in n gs)
group_entries d n q [] h = tt
group_entries d n {g} q (s ∷ gs) h = go (same n s.name) refl (group_entries d n q gs h.1)
  where
    go : (b : Bool) → same n s.name ≡ b → EntriesGood d g (entries_in n gs) →
        EntriesGood d g (cond b s.entries (entries_in n gs))
    go true p f =
        subst (λ (a : Group). EntriesGood d a s.entries) (same_Some s.group g (sym h.0.named ∙ ap (group_of d) (sym (same_eq n s.name p)) ∙ q)) h.0.entries
    go false p f = f

pub serves_service : (g : Group) → serves g ≡ true → g ≡ Service
serves_service Settings e = absurd (true≢false (sym e))
serves_service Security e = absurd (true≢false (sym e))
serves_service Ipv4 e = absurd (true≢false (sym e))
serves_service Ipv6 e = absurd (true≢false (sym e))
serves_service Global e = absurd (true≢false (sym e))
serves_service Service e = refl

service_entries_lem : (d : Dialect) (w : ℕ) (gs : List Section) → AllGood d gs → EntriesGood d Service (service_at w gs)
service_entries_lem d zero gs h = tt
service_entries_lem d (suc n) [] h = tt
service_entries_lem d (suc n) (s ∷ gs) h =
    go (serves s.group) refl n (service_entries_lem d n gs h.1) (service_entries_lem d (suc n) gs h.1)
  where
    go : (b : Bool) → serves s.group ≡ b → (n : ℕ) → EntriesGood d Service (service_at n gs) →
        EntriesGood d Service (service_at (suc n) gs) →
        EntriesGood d Service (cond b (first_or n s.entries (service_at n gs)) (service_at (suc n) gs))
    go true p zero f k =
        subst (λ (a : Group). EntriesGood d a s.entries) (serves_service s.group p) h.0.entries
    go true p (suc m) f k = f
    go false p n f k = k

-- in the group with a name, and in service w
pub group_asked : (d : Dialect) (name file : List ℕ) {n m : ℕ} → reading d name file ≡ accepted_with n m →
    (group key : List ℕ) {g : Group} → group_of d group ≡ Some g → {e : Entry} →
    entry_of key (entries_in group (sections_of d file)) ≡ Some e → Asked d g key e
group_asked d name file a group key {g} q t =
    entry_asked d g key (entries_in group (sections_of d file)) (group_entries d group q (sections_of d file) (accepted_good d name file a)) t

pub service_asked : (d : Dialect) (name file : List ℕ) {n m : ℕ} → reading d name file ≡ accepted_with n m →
    (w : ℕ) (key : List ℕ) {e : Entry} → entry_of key (service_at w (sections_of d file)) ≡ Some e →
    Asked d Service key e
service_asked d name file a w key t =
    entry_asked d Service key (service_at w (sections_of d file)) (service_entries_lem d w (sections_of d file) (accepted_good d name file a)) t
