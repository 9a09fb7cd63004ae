-- The text that is written is recommended, and a recommended text of an address is the one that is written.
use Rattle.std.specs.Prelude.{◌≡◌, refl, Bool, true, false, not, ◌||◌, List, [], ◌∷◌, ◌++◌, map, ℕ, suc, ◌+◌, ◌-◌, ◌*◌, ◌/◌, ◌%◌, ◌≤◌, ◌<◌, eqb, length, replicate, None, Some}
use Rattle.std.proofs.Common.{ap, ap₂, sym, ◌∙◌, subst, append_assoc, arith, ne_eqb}
use Rattle.std.proofs.lemmas.Bool.{false≢true, eqb-false}
use Rattle.std.proofs.lemmas.Option.{none-some}
use Rattle.std.proofs.lemmas.List.{length-replicate}
use Rattle.text.specs.Bytes.{is_lower_hex}
use Rattle.text.specs.Parts.{all, pieces}
use Rattle.text.specs.PieceLaws.{pieces_only, pieces_split, pieces_text}
use Rattle.text.specs.Relations.{Each}
use Rattle.text.specs.Laws.{and_true, all_cons, all_other, pieces_some}
use Rattle.hex_digits.specs.Hex.{nibble, hex_digit}
use Rattle.hex_digits.specs.HexRules.{HexDigit}
use Rattle.hex_digits.specs.HexRuleLaws.{digit_value, digit_small}
use Rattle.hex_digits.specs.Laws.{nibble_digit, digit_nibble, digit_lower}
use Rattle.addresses.specs.AddressRuleLaws.{is_address_lem, address_undotted}
use Rattle.ipv6.specs.Ipv6.{halves, ipv6, is_ipv6, groups_of, group_digits, joined_groups, canonical}
use Rattle.ipv6.specs.Ipv6Rules.{GroupIs, GroupsAre, no_more, next, TailedAre, plain, dotted, Colons, nothing, some_pieces, Ipv6Is, full, compressed}
use Rattle.ipv6.specs.Ipv6RuleLaws.{ipv6_is, some_groups, some_tailed, even_groups}
use Rattle.ipv6.specs.Recommended.{tidy, all_tidy, group_count, Placed, Recommended}
use Rattle.ipv6.specs.HalfLaws.{halves_whole, halves_split}
use Rattle.ipv6.specs.Laws.{group_elim}
use Rattle.ipv6.specs.GroupTexts.{group_text_elim, group_text_one, group_text_two, group_text_three, group_text_four}
use Rattle.ipv6.specs.GroupLaws.{is_group, groups_of_append, groups_of_zeros}
use Rattle.ipv6.specs.Shapes.{Shape, no_gap, one_gap, canonical_shape, shape_canonical}
use Rattle.ipv6.specs.Written.{joined_are, joined_colons, texts_some, small, groups_eight, groups_small, split_length, split_small}

-- ---- a group: its text is tidy, and the only tidy one

digit_zero : hex_digit 0 ≡ 48
unfolding hex_digit
digit_zero = refl

digit_some : (a : ℕ) → 0 < a → a < 16 → eqb (hex_digit a) 48 ≡ false
digit_some a z h =
    ne_eqb (hex_digit a) 48 (λ e. omega (arith, sym (nibble_digit a h) ∙ ap nibble (e ∙ sym digit_zero) ∙ nibble_digit 0 (omega arith)))

group_text_tidy : (v : ℕ) → v < 65536 → tidy (group_digits v) ≡ true
group_text_tidy =
    group_text_elim (λ v t. tidy t ≡ true)
    (λ a h. rw (digit_lower a h) (either (not (eqb (hex_digit a) 48))))
    (λ a b z h k. rw (digit_lower a h, digit_lower b k, digit_some a z h))
    (λ a b c z h k l. rw (digit_lower a h, digit_lower b k, digit_lower c l, digit_some a z h))
    (λ a b c d z h k l m. rw (digit_lower a h, digit_lower b k, digit_lower c l, digit_lower d m, digit_some a z h))
  where
    either : (t : Bool) → (t || true) ≡ true
    either true = refl
    either false = refl

-- a lower-case digit is the one that is written, and no leading zero is one
lower_digit : {c x : ℕ} → HexDigit c x → is_lower_hex c ≡ true → hex_digit x ≡ c
lower_digit {c} h e = rw (← digit_value h) (digit_nibble c e)

leading_digit : {c x : ℕ} → HexDigit c x → is_lower_hex c ≡ true → (not (eqb c 48) || false) ≡ true → 0 < x
leading_digit {c} {x} h e t = go (eqb c 48) refl t
  where
    go : (u : Bool) → eqb c 48 ≡ u → (not u || false) ≡ true → 0 < x
    go true q k = absurd (false≢true k)
    go false q k = let z : (x ≡ 0 → ⊥) = λ i. eqb-false c 48 q (sym (lower_digit h e) ∙ ap hex_digit i ∙ digit_zero) in omega (arith, z)

group_tidy : (p : List ℕ) {v : ℕ} → GroupIs p v → tidy p ≡ true → p ≡ group_digits v
group_tidy = group_elim (λ p v. tidy p ≡ true → p ≡ group_digits v) one two three four
  where
    one : (a x : ℕ) → HexDigit a x → tidy (a ∷ []) ≡ true → a ∷ [] ≡ group_digits x
    one a x i t =
        let h = all_cons is_lower_hex a [] (and_true (all is_lower_hex (a ∷ [])) _ t).0 in
        rw (group_text_one x (digit_small i), lower_digit i h.0)

    two : (a b x y : ℕ) → HexDigit a x → HexDigit b y → tidy (a ∷ b ∷ []) ≡ true → a ∷ b ∷ [] ≡ group_digits (x * 16 + y)
    two a b x y i j t =
        let u = and_true (all is_lower_hex (a ∷ b ∷ [])) _ t in
        let h = all_cons is_lower_hex a (b ∷ []) u.0 in
        let k = all_cons is_lower_hex b [] h.1 in
        let m : (x * 16 + y) / 16 ≡ x = omega (arith, digit_small j) in
        let n : (x * 16 + y) % 16 ≡ y = omega (arith, digit_small j) in
        rw (group_text_two (x * 16 + y) (omega (arith, leading_digit i h.0 u.1)) (omega (arith, digit_small i, digit_small j)), m, n, lower_digit i h.0, lower_digit j k.0)

    three : (a b c x y z : ℕ) → HexDigit a x → HexDigit b y → HexDigit c z → tidy (a ∷ b ∷ c ∷ []) ≡ true →
        a ∷ b ∷ c ∷ [] ≡ group_digits ((x * 16 + y) * 16 + z)
    three a b c x y z i j l t =
        let u = and_true (all is_lower_hex (a ∷ b ∷ c ∷ [])) _ t in
        let h = all_cons is_lower_hex a (b ∷ c ∷ []) u.0 in
        let k = all_cons is_lower_hex b (c ∷ []) h.1 in
        let g = all_cons is_lower_hex c [] k.1 in
        let v : ℕ = (x * 16 + y) * 16 + z in
        let m : v / 256 ≡ x = omega (arith, digit_small j, digit_small l) in
        let n : v / 16 % 16 ≡ y = omega (arith, digit_small j, digit_small l) in
        let o : v % 16 ≡ z = omega (arith, digit_small l) in
        rw (group_text_three v (omega (arith, leading_digit i h.0 u.1)) (omega (arith, digit_small i, digit_small j, digit_small l)), m, n, o, lower_digit i h.0, lower_digit j k.0, lower_digit l g.0)

    four : (a b c d x y z w : ℕ) → HexDigit a x → HexDigit b y → HexDigit c z → HexDigit d w →
        tidy (a ∷ b ∷ c ∷ d ∷ []) ≡ true → a ∷ b ∷ c ∷ d ∷ [] ≡ group_digits (((x * 16 + y) * 16 + z) * 16 + w)
    four a b c d x y z w i j l q t =
        let u = and_true (all is_lower_hex (a ∷ b ∷ c ∷ d ∷ [])) _ t in
        let h = all_cons is_lower_hex a (b ∷ c ∷ d ∷ []) u.0 in
        let k = all_cons is_lower_hex b (c ∷ d ∷ []) h.1 in
        let g = all_cons is_lower_hex c (d ∷ []) k.1 in
        let f = all_cons is_lower_hex d [] g.1 in
        let v : ℕ = ((x * 16 + y) * 16 + z) * 16 + w in
        let m : v / 4096 ≡ x = omega (arith, digit_small j, digit_small l, digit_small q) in
        let n : v / 256 % 16 ≡ y = omega (arith, digit_small j, digit_small l, digit_small q) in
        let o : v / 16 % 16 ≡ z = omega (arith, digit_small l, digit_small q) in
        let r : v % 16 ≡ w = omega (arith, digit_small q) in
        rw (group_text_four v (omega (arith, leading_digit i h.0 u.1)), m, n, o, r, lower_digit i h.0, lower_digit j k.0, lower_digit l g.0, lower_digit q f.0)

-- ---- pieces: tidy ones are the texts of the groups that they give

tidy_parts : (ps qs : List (List ℕ)) → all_tidy (ps ++ qs) ≡ true → (all_tidy ps ≡ true) × (all_tidy qs ≡ true)
tidy_parts [] qs h = (refl, h)
tidy_parts (p ∷ ps) qs h =
    let c = and_true (tidy p) (all_tidy (ps ++ qs)) h in
    let d = tidy_parts ps qs c.1 in
    (rw c.0 d.0, d.1)

tidy_append : (ps qs : List (List ℕ)) → all_tidy ps ≡ true → all_tidy qs ≡ true → all_tidy (ps ++ qs) ≡ true
tidy_append [] qs h k = k
tidy_append (p ∷ ps) qs h k = let c = and_true (tidy p) (all_tidy ps) h in rw c.0 (tidy_append ps qs c.1 k)

texts_tidy : (gs : List ℕ) → all is_group gs ≡ true → all_tidy (map group_digits gs) ≡ true
texts_tidy [] h = refl
texts_tidy (g ∷ gs) h =
    let c = all_cons is_group g gs h in
    rw (group_text_tidy g (small g c.0), texts_tidy gs c.1)

groups_tidy : {ps : List (List ℕ)} {l : List ℕ} → GroupsAre ps l → all_tidy ps ≡ true → ps ≡ map group_digits (groups_of l)
groups_tidy no_more t = refl
groups_tidy (next {p} {ps = ps} h l k) t =
    let c = and_true (tidy p) (all_tidy ps) t in
    ap₂ ◌∷◌ (group_tidy p h c.0) (groups_tidy k c.1)

-- a tidy tail is not dotted
tailed_groups : {ps : List (List ℕ)} {l : List ℕ} → TailedAre ps l → all_tidy ps ≡ true → GroupsAre ps l
tailed_groups (plain h) t = h
tailed_groups (dotted {ps} {p} {tail = tail} h a) t =
    let c = and_true (tidy p) true (tidy_parts ps (p ∷ []) t).1 in
    let k = all_other is_lower_hex 46 refl p (and_true (all is_lower_hex p) _ c.0).0 in
    absurd (none-some tail (sym (address_undotted p k) ∙ is_address_lem p a))

-- ---- a side

length_texts : (gs : List ℕ) → length (map group_digits gs) ≡ length gs
length_texts [] = refl
length_texts (g ∷ gs) = ap suc (length_texts gs)

colons_joined : {s : List ℕ} {ps : List (List ℕ)} → Colons s ps → (gs : List ℕ) → ps ≡ map group_digits gs → s ≡ joined_groups gs
colons_joined nothing [] e = refl
colons_joined nothing (g ∷ gs) e = absurd (omega (arith, ap length e))
colons_joined (some_pieces {v} h) [] e = absurd (omega (arith, pieces_some 58 v, ap length (pieces_only 58 h ∙ e)))
colons_joined (some_pieces {v} h) (g ∷ gs) e = pieces_text 58 v (joined_groups (g ∷ gs)) (pieces_only 58 h ∙ e ∙ sym (pieces_only 58 (joined_are g gs)))

colons_tidy : {s : List ℕ} {ps : List (List ℕ)} → Colons s ps → all_tidy (pieces 58 s) ≡ true → all_tidy ps ≡ true
colons_tidy nothing t = refl
colons_tidy (some_pieces h) t = rw (pieces_only 58 h) at t

tidy_colons : {s : List ℕ} {ps : List (List ℕ)} → Colons s ps → all_tidy ps ≡ true → all_tidy (pieces 58 s) ≡ true
tidy_colons nothing t = refl
tidy_colons (some_pieces h) t = rw (pieces_only 58 h) t

colons_count : {s : List ℕ} {ps : List (List ℕ)} → Colons s ps → Each (λ p. ¬ (p ≡ [])) ps → group_count s ≡ length ps
colons_count nothing n = refl
colons_count {ps = ps} (some_pieces {v} h) n = go v (pieces_only 58 h)
  where
    go : (t : List ℕ) → pieces 58 t ≡ ps → group_count t ≡ length ps
    go [] q = absurd ((subst (Each (λ p. ¬ (p ≡ []))) (sym q) n).0 refl)
    go (x ∷ t) q = ap length q

joined_count : (gs : List ℕ) → group_count (joined_groups gs) ≡ length gs
joined_count gs = colons_count (joined_colons gs) (texts_some gs) ∙ length_texts gs

-- a tidy side is the groups of its bytes, joined
record Sided (s l : List ℕ) : Type 0 where
  text : s ≡ joined_groups (groups_of l)
  counts : group_count s ≡ length (groups_of l)
  even : length l ≡ 2 * length (groups_of l)

side_tidy : {s l : List ℕ} {ps : List (List ℕ)} → Colons s ps → GroupsAre ps l → all_tidy ps ≡ true → Sided s l
side_tidy {s} {l} {ps} h k t =
    let e = groups_tidy k t in
    let n : length ps ≡ length (groups_of l) = ap length e ∙ length_texts (groups_of l) in
    record { text = colons_joined h (groups_of l) e; counts = colons_count h (some_groups k) ∙ n; even = even_groups k ∙ ap (λ (m : ℕ). 2 * m) n }

-- ---- a recommended text of an address is the one that is written

groups_split : (f b : List ℕ) (n m k : ℕ) → length f ≡ 2 * m → length b ≡ 2 * k →
    groups_of (f ++ replicate (2 * n) 0 ++ b) ≡ groups_of f ++ (replicate n 0 ++ groups_of b)
groups_split f b n m k i j =
    ap groups_of (append_assoc f (replicate (2 * n) 0) b)
    ∙ groups_of_append f (replicate (2 * n) 0 ++ b) m i
    ∙ ap (λ (l : List ℕ). groups_of f ++ l) (groups_of_append (replicate (2 * n) 0) b n (length-replicate {A = ℕ} (2 * n) 0) ∙ rw (groups_of_zeros n))

is_recommended : {t a : List ℕ} → Ipv6Is t a → Recommended t (groups_of a) → t ≡ canonical a
is_recommended {a = a} (full {ps = ps} h k l) r =
    let t : all_tidy ps ≡ true = rw (pieces_only 58 h) at r.tidied in
    let s = colons_joined (some_pieces h) (groups_of a) (groups_tidy (tailed_groups k t) t) in
    s ∙ shape_canonical a (no_gap (subst (Placed (groups_of a)) (halves_whole h (some_tailed k)) r.placed))
is_recommended (compressed {before} {behind} {front} {back} {ps} {qs} h f k b zero_groups low sum) r =
    let c = tidy_parts (pieces 58 before) ([] ∷ pieces 58 behind) (rw (pieces_split 58 before (58 ∷ behind)) at r.tidied) in
    let i : all_tidy ps ≡ true = colons_tidy h c.0 in
    let j : all_tidy qs ≡ true = colons_tidy k c.1 in
    let x = side_tidy h f i in
    let y = side_tidy k (tailed_groups b j) j in
    let n : 8 - (group_count before + group_count behind) ≡ zero_groups = omega (arith, x.counts, y.counts, x.even, y.even) in
    let best = rw (halves_split h (some_groups f) behind, n, x.counts) at r.placed in
    ap₂ (λ (v w : List ℕ). v ++ (58 ∷ 58 ∷ w)) x.text y.text
    ∙ shape_canonical (front ++ replicate (2 * zero_groups) 0 ++ back) (one_gap (groups_of front) (groups_of back) zero_groups (groups_split front back zero_groups (length (groups_of front)) (length (groups_of back)) x.even y.even) best)

pub recommended_canonical : (t a : List ℕ) → ipv6 t ≡ Some a → Recommended t (groups_of a) → t ≡ canonical a
recommended_canonical t a e r = is_recommended (ipv6_is t e) r

-- ---- the text that is written is recommended

pub canonical_recommended : (a : List ℕ) → is_ipv6 a ≡ true → Recommended (canonical a) (groups_of a)
canonical_recommended a h = go (canonical_shape a)
  where
    gs : List ℕ
    gs = groups_of a

    joined_tidy : (l : List ℕ) → all is_group l ≡ true → all_tidy (pieces 58 (joined_groups l)) ≡ true
    joined_tidy l k = tidy_colons (joined_colons l) (texts_tidy l k)

    whole : (l : List ℕ) → 1 ≤ length l → halves (joined_groups l) ≡ None
    whole [] n = absurd (omega arith)
    whole (g ∷ l) n = halves_whole (joined_are g l) (texts_some (g ∷ l))

    go : {t : List ℕ} → Shape gs t → Recommended t gs
    go (no_gap k) = record { tidied = joined_tidy gs (groups_small a h); placed = rw (whole gs (omega (arith, groups_eight a h))) k }
    go (one_gap f b n e best) =
        let s = split_small gs f b n e (groups_small a h) in
        let m : 8 - (group_count (joined_groups f) + group_count (joined_groups b)) ≡ n = omega (arith, joined_count f, joined_count b, split_length gs f b n e, groups_eight a h) in
        record {
          tidied = rw (pieces_split 58 (joined_groups f) (58 ∷ joined_groups b)) (tidy_append (pieces 58 (joined_groups f)) ([] ∷ pieces 58 (joined_groups b)) (joined_tidy f s.0) (joined_tidy b s.1));
          placed = rw (halves_split (joined_colons f) (texts_some f) (joined_groups b), m, joined_count f) best;
        }
