-- What is written reads back, how long it is, and of which bytes it is made.
use Rattle.std.specs.Prelude.{◌≡◌, refl, true, List, [], ◌∷◌, ◌++◌, map, ℕ, ◌+◌, ◌-◌, ◌*◌, ◌≤◌, ◌<◌, length, replicate, Some}
use Rattle.std.proofs.Common.{ap, sym, ◌∙◌, subst, append_assoc, append-nil, arith, length-append}
use Rattle.std.proofs.lemmas.List.{length-replicate}
use Rattle.text.specs.Bytes.{is_lower_hex}
use Rattle.text.specs.Parts.{all}
use Rattle.text.specs.Pieces as P
use Rattle.text.specs.Pieces.{Pieces}
use Rattle.text.specs.Relations.{Each}
use Rattle.text.specs.Laws.{all_cons, all_append, all_parts, all_weaken, between_high}
use Rattle.addresses.specs.Laws.{bytes_length, bytes_each}
use Rattle.ipv6.specs.Ipv6.{ipv6, is_ipv6, groups_of, group_digits, colon_groups, joined_groups, canonical, is_ipv6_byte}
use Rattle.ipv6.specs.Ipv6Rules.{GroupsAre, no_more, plain, Colons, nothing, some_pieces, Ipv6Is, full, compressed}
use Rattle.ipv6.specs.Ipv6RuleLaws.{group_is, group_next, is_ipv6_lem}
use Rattle.ipv6.specs.GroupTexts.{group_text_lem, group_text_hex, group_text_length, group_text_apart}
use Rattle.ipv6.specs.GroupLaws.{groups_of_length, is_group, groups_of_small, bytes_of, bytes_of_length, bytes_of_append, bytes_of_zeros, bytes_of_groups_of}
use Rattle.ipv6.specs.Shapes.{Shape, no_gap, one_gap, canonical_shape}

-- ---- groups with colons between them are the texts of the groups, between colons

pub joined_are : (g : ℕ) (gs : List ℕ) → Pieces 58 (joined_groups (g ∷ gs)) (map group_digits (g ∷ gs))
joined_are g [] = rw (append-nil (group_digits g)) (P.last (group_text_apart g))
joined_are g (k ∷ gs) = P.next (group_text_apart g) (joined_are k gs)

pub joined_colons : (gs : List ℕ) → Colons (joined_groups gs) (map group_digits gs)
joined_colons [] = nothing
joined_colons (g ∷ gs) = some_pieces (joined_are g gs)

pub texts_some : (gs : List ℕ) → Each (λ p. ¬ (p ≡ [])) (map group_digits gs)
texts_some [] = tt
texts_some (g ∷ gs) = (λ e. omega (arith, (group_text_length g).0, ap length e), texts_some gs)

pub small : (g : ℕ) → is_group g ≡ true → g < 65536
small g h = omega (arith, between_high {x = g} 0 65535 h)

texts_are : (gs : List ℕ) → all is_group gs ≡ true → GroupsAre (map group_digits gs) (bytes_of gs)
texts_are [] h = no_more
texts_are (g ∷ gs) h =
    let c = all_cons is_group g gs h in
    group_next (group_is (group_digits g) (group_text_lem g (small g c.0))) (texts_are gs c.1)

full_joined : (gs : List ℕ) → all is_group gs ≡ true → length gs ≡ 8 → Ipv6Is (joined_groups gs) (bytes_of gs)
full_joined [] h n = absurd (omega arith)
full_joined (g ∷ gs) h n =
    let l = bytes_of_length (g ∷ gs) in
    full (joined_are g gs) (plain (texts_are (g ∷ gs) h)) (record { least = omega arith; most = omega arith })

compressed_joined : (f b : List ℕ) (n : ℕ) → all is_group f ≡ true → all is_group b ≡ true → 1 ≤ n → length f + n + length b ≡ 8 →
    Ipv6Is (joined_groups f ++ (58 ∷ 58 ∷ joined_groups b)) (bytes_of f ++ replicate (2 * n) 0 ++ bytes_of b)
compressed_joined f b n h k l e =
    compressed (joined_colons f) (texts_are f h) (joined_colons b) (plain (texts_are b k)) n l (omega (arith, bytes_of_length f, bytes_of_length b))

-- ---- the groups of an address

module _ (a : List ℕ) (h : is_ipv6 a ≡ true) where
  pub groups_eight : length (groups_of a) ≡ 8
  groups_eight = groups_of_length a 8 (omega (arith, bytes_length 16 a h))

  pub groups_small : all is_group (groups_of a) ≡ true
  groups_small = groups_of_small a (bytes_each 16 a h)

  back : bytes_of (groups_of a) ≡ a
  back = bytes_of_groups_of a 8 (omega (arith, bytes_length 16 a h)) (bytes_each 16 a h)

-- groups before a run of zeros, and groups behind it
module _ (gs f b : List ℕ) (n : ℕ) (e : gs ≡ f ++ (replicate n 0 ++ b)) where
  pub split_length : length gs ≡ length f + n + length b
  split_length = omega (arith, ap length e, length-append f (replicate n 0 ++ b), length-append (replicate n 0) b, length-replicate {A = ℕ} n 0)

  pub split_small : all is_group gs ≡ true → (all is_group f ≡ true) × (all is_group b ≡ true)
  split_small h =
      let c = all_parts is_group f (replicate n 0 ++ b) (rw e at h) in
      (c.0, (all_parts is_group (replicate n 0) b c.1).1)

  split_bytes : bytes_of f ++ replicate (2 * n) 0 ++ bytes_of b ≡ bytes_of gs
  split_bytes =
      append_assoc (bytes_of f) (replicate (2 * n) 0) (bytes_of b)
      ∙ sym (ap bytes_of e ∙ bytes_of_append f (replicate n 0 ++ b) ∙ ap (λ (l : List ℕ). bytes_of f ++ l) (bytes_of_append (replicate n 0) b ∙ rw (bytes_of_zeros n)))

-- ---- an address reads back

canonical_is : (a : List ℕ) → is_ipv6 a ≡ true → Ipv6Is (canonical a) a
canonical_is a h = go (canonical_shape a)
  where
    go : {t : List ℕ} → Shape (groups_of a) t → Ipv6Is t a
    go (no_gap k) = subst (Ipv6Is (joined_groups (groups_of a))) (back a h) (full_joined (groups_of a) (groups_small a h) (groups_eight a h))
    go (one_gap f b n e best) =
        let s = split_small (groups_of a) f b n e (groups_small a h) in
        subst (Ipv6Is (joined_groups f ++ (58 ∷ 58 ∷ joined_groups b))) (split_bytes (groups_of a) f b n e ∙ back a h)
        (compressed_joined f b n s.0 s.1 (omega (arith, best.two)) (sym (split_length (groups_of a) f b n e) ∙ groups_eight a h))

pub ipv6_canonical : (a : List ℕ) → is_ipv6 a ≡ true → ipv6 (canonical a) ≡ Some a
ipv6_canonical a h = is_ipv6_lem (canonical a) (canonical_is a h)

-- ---- how long, and of which bytes

colons_length : (gs : List ℕ) → length (colon_groups gs) ≤ 5 * length gs
colons_length [] = omega arith
colons_length (g ∷ gs) = omega (arith, length-append (group_digits g) (colon_groups gs), colons_length gs, (group_text_length g).1)

joined_length : (gs : List ℕ) → length (joined_groups gs) ≤ 5 * length gs - 1
joined_length [] = omega arith
joined_length (g ∷ gs) = omega (arith, length-append (group_digits g) (colon_groups gs), colons_length gs, (group_text_length g).1)

-- at most 39 bytes
pub canonical_short : (a : List ℕ) → length a ≡ 16 → length (canonical a) ≤ 39
canonical_short a e = go (canonical_shape a)
  where
    eight : length (groups_of a) ≡ 8
    eight = groups_of_length a 8 (omega arith)

    go : {t : List ℕ} → Shape (groups_of a) t → length t ≤ 39
    go (no_gap k) = omega (arith, joined_length (groups_of a), eight)
    go (one_gap f b n s best) =
        omega (arith, length-append (joined_groups f) (58 ∷ 58 ∷ joined_groups b), joined_length f, joined_length b, split_length (groups_of a) f b n s, best.two, eight)

text_bytes : (g : ℕ) → g < 65536 → all is_ipv6_byte (group_digits g) ≡ true
text_bytes g h = all_weaken is_lower_hex is_ipv6_byte (λ x e. rw e) (group_digits g) (group_text_hex g h)

colons_bytes : (gs : List ℕ) → all is_group gs ≡ true → all is_ipv6_byte (colon_groups gs) ≡ true
colons_bytes [] h = refl
colons_bytes (g ∷ gs) h =
    let c = all_cons is_group g gs h in
    all_append is_ipv6_byte (group_digits g) (colon_groups gs) (text_bytes g (small g c.0)) (colons_bytes gs c.1)

joined_bytes : (gs : List ℕ) → all is_group gs ≡ true → all is_ipv6_byte (joined_groups gs) ≡ true
joined_bytes [] h = refl
joined_bytes (g ∷ gs) h = colons_bytes (g ∷ gs) h

-- lower-case hex digits and colons
pub canonical_bytes : (a : List ℕ) → is_ipv6 a ≡ true → all is_ipv6_byte (canonical a) ≡ true
canonical_bytes a h = go (canonical_shape a)
  where
    go : {t : List ℕ} → Shape (groups_of a) t → all is_ipv6_byte t ≡ true
    go (no_gap k) = joined_bytes (groups_of a) (groups_small a h)
    go (one_gap f b n e best) =
        let s = split_small (groups_of a) f b n e (groups_small a h) in
        all_append is_ipv6_byte (joined_groups f) (58 ∷ 58 ∷ joined_groups b) (joined_bytes f s.0) (joined_bytes b s.1)
