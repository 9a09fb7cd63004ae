-- `group_of` and `kind_of` find what the lists of groups and keys say: a name's group, and a key's kind in its group.
use Rattle.std.specs.Prelude.{ℕ, ◌≡◌, refl, Bool, true, false, cond, not, ◌&&◌, ◌||◌, List, [], ◌∷◌, ◌++◌, take, drop, Some}
use Rattle.std.proofs.Common.{ap, sym, ◌∙◌, subst, inl, inr, take-append-drop}
use Rattle.std.proofs.Math.Bool.{or-true}
use Rattle.std.proofs.lemmas.Bool.{false≢true}
use Rattle.std.proofs.lemmas.Option.{same_Some, none-some}
use Rattle.text.specs.Bytes.{is_identifier}
use Rattle.text.specs.Parts.{all}
use Rattle.text.specs.Words.{word, same, named}
use Rattle.text.specs.Options.{is_some, only, sized}
use Rattle.text.specs.Laws.{and_true, same_refl, same_eq}
use Rattle.text.specs.OptionLaws.{some_is, sized_is, is_sized}
use Rattle.text.specs.Decides.{Decides, decides}
use Rattle.text.specs.declared.Dialect.{Dialect}
use Rattle.text.specs.declared.Dialect.TheVariants.{Iwd, ConnMan}
use Rattle.kinds.specs.declared.Kind.{Kind}
use Rattle.rules.specs.Tables.{iwd_groups, is_service, group_of, keys_of, kind_of}
use Rattle.rules.specs.Sections.{serves}
use Rattle.rules.proofs.GoodEntries.{serves_service}
use Rattle.rules.specs.GroupKeys.{InTable, ServiceName, GroupIs, KeyIs}
use Rattle.rules.specs.declared.Group.{Group}
use Rattle.rules.specs.declared.Group.TheVariants.{Settings, Security, Ipv4, Ipv6, Global, Service}

-- ---- a table with no word twice

abbrev in_words : {A : Type 0} → List ℕ → List (List ℕ × A) → Bool
in_words w [] = false
in_words w (x ∷ t) = same w x.0 || in_words w t

abbrev distinct : {A : Type 0} → List (List ℕ × A) → Bool
distinct [] = true
distinct (x ∷ t) = not (in_words x.0 t) && distinct t

module _ {A : Type 0} where
  named_row : (w : List ℕ) (t : List (List ℕ × A)) {a : A} → named w t ≡ Some a → InTable w a t
  named_row w [] {a} e = absurd (none-some a e)
  named_row w (x ∷ t) {a} e = go (same w x.0) refl (λ k. named_row w t k) e
    where
      go : (b : Bool) → same w x.0 ≡ b → (named w t ≡ Some a → InTable w a t) →
          cond b (Some x.1) (named w t) ≡ Some a → InTable w a (x ∷ t)
      go true q f e = inl (same_eq w x.0 q, sym (same_Some x.1 a e))
      go false q f e = inr (f e)

  row_in : (w : List ℕ) (a : A) (t : List (List ℕ × A)) → InTable w a t → in_words w t ≡ true
  row_in w a [] h = absurd h
  row_in w a (x ∷ t) (inl h) = rw (ap (λ (m : List ℕ). same m x.0) h.0 ∙ same_refl x.0)
  row_in w a (x ∷ t) (inr h) = ap (λ (b : Bool). same w x.0 || b) (row_in w a t h) ∙ or-true (same w x.0)

  row_named : (w : List ℕ) (a : A) (t : List (List ℕ × A)) → distinct t ≡ true → InTable w a t → named w t ≡ Some a
  row_named w a [] d h = absurd h
  row_named w a (x ∷ t) d (inl h) =
      rw (ap (λ (m : List ℕ). same m x.0) h.0 ∙ same_refl x.0) (ap Some (sym h.1))
  row_named w a (x ∷ t) d (inr h) =
      let p = and_true (not (in_words x.0 t)) (distinct t) d in
      go (same w x.0) refl p.0 (row_named w a t p.1 h)
    where
      go : (b : Bool) → same w x.0 ≡ b → not (in_words x.0 t) ≡ true → named w t ≡ Some a →
          cond b (Some x.1) (named w t) ≡ Some a
      go true q d e =
          let i : in_words x.0 t ≡ true = rw (same_eq w x.0 q) at (row_in w a t h) in
          absurd (false≢true (rw i at d))
      go false q d e = e

-- ---- keys

keys_distinct : (g : Group) → distinct (keys_of g) ≡ true
unfolding keys_of
keys_distinct Settings = refl
keys_distinct Security = refl
keys_distinct Ipv4 = refl
keys_distinct Ipv6 = refl
keys_distinct Global = refl
keys_distinct Service = refl

pub key_kind_lem : (g : Group) (k : List ℕ) (x : Kind) → KeyIs g k x → kind_of g k ≡ Some x
key_kind_lem g k x h = row_named k x (keys_of g) (keys_distinct g) h

pub kind_key : (g : Group) (k : List ℕ) (x : Kind) → kind_of g k ≡ Some x → KeyIs g k x
kind_key g k x e = named_row k (keys_of g) e

-- ---- groups

service_name_lem : (n : List ℕ) → is_service n ≡ true → ServiceName n
unfolding is_service
service_name_lem n h =
    let few : Bool = is_some (sized 1 32 (Some (drop 8 n))) in
    let p = and_true (same (take 8 n) (word "service_")) (few && all is_identifier (drop 8 n)) h in
    let q = and_true few (all is_identifier (drop 8 n)) p.1 in
    let s = some_is (sized 1 32 (Some (drop 8 n))) q.0 in
    let z = sized_is 1 32 (Some (drop 8 n)) s.1 in
    record {
      id = drop 8 n;
      is = sym (take-append-drop 8 n) ∙ ap (λ (r : List ℕ). r ++ drop 8 n) (same_eq (take 8 n) (word "service_") p.0);
      size = rw (same_Some (drop 8 n) s.0 z.1) z.0;
      bytes = q.1;
    }

name_service : (n : List ℕ) → ServiceName n → is_service n ≡ true
unfolding is_service
name_service n h = rw (h.is, is_sized 1 32 (Some h.id) h.size refl, h.bytes)

pub group_named : (d : Dialect) (n : List ℕ) (g : Group) → GroupIs d n g → group_of d n ≡ Some g
unfolding group_of
group_named Iwd n g h = row_named n g iwd_groups refl h
group_named ConnMan n Settings h = absurd h
group_named ConnMan n Security h = absurd h
group_named ConnMan n Ipv4 h = absurd h
group_named ConnMan n Ipv6 h = absurd h
group_named ConnMan n Global h = rw h
group_named ConnMan n Service h =
    let e : same n (word "global") ≡ false = ap (λ (m : List ℕ). same m (word "global")) h.is in
    rw (e, name_service n h)

pub named_group : (d : Dialect) (n : List ℕ) (g : Group) → group_of d n ≡ Some g → GroupIs d n g
unfolding group_of
named_group Iwd n g e = named_row n iwd_groups e
named_group ConnMan n g e = go (same n (word "global")) refl (is_service n) refl e
  where
    go : (a : Bool) → same n (word "global") ≡ a → (b : Bool) → is_service n ≡ b →
        cond a (Some Global) (only b (Some Service)) ≡ Some g → GroupIs ConnMan n g
    go true p b q e = subst (GroupIs ConnMan n) (same_Some Global g e) (same_eq n (word "global") p)
    go false p true q e = subst (GroupIs ConnMan n) (same_Some Service g e) (service_name_lem n q)
    go false p false q e = absurd (none-some g e)

-- whether a name is a service's, by its group
pub serves_tells : (d : Dialect) (n : List ℕ) (g : Group) → group_of d n ≡ Some g →
    Decides (GroupIs d n Service) (serves g)
serves_tells d n g q =
    decides (serves g)
    (λ e. named_group d n Service (q ∙ ap Some (serves_service g e)))
    (λ s. ap serves (same_Some g Service (sym q ∙ group_named d n Service s)))
