-- What `ipv6` reads is what the text of an IPv6 address says.
use Rattle.std.specs.Prelude.{ℕ, ◌+◌, ◌-◌, ◌*◌, ◌/◌, ◌%◌, ◌≤◌, ◌<◌, ◌≡◌, refl, Bool, true, false, cond, ◌&&◌, List, [], ◌∷◌, ◌++◌, leb, ltb, length, replicate, Option, None, Some}
use Rattle.std.proofs.Common.{arith, ap, sym, ◌∙◌, subst, append-nil, lt-ltb, ltb-true, le-leb, leb-true, length-append}
use Rattle.std.proofs.lemmas.Option.{same_Some, none-some}
use Rattle.text.specs.Bytes.{between, other}
use Rattle.text.specs.Parts.{all, pieces}
use Rattle.text.specs.PieceLaws.{pieces_are, pieces_only}
use Rattle.text.specs.Relations.{Sized, Each, Pairwise}
use Rattle.text.specs.RelationLaws.{each_append}
use Rattle.text.specs.RunLaws.{cons_nil}
use Rattle.text.specs.Options.{and_then, mapped, or_else, only, sized, glue}
use Rattle.text.specs.OptionLaws.{only_some, then_some, sized_is, is_sized, glue_some, glue_glue, glue_nil}
use Rattle.text.specs.Laws.{inside, is_other, between_low, between_high}
use Rattle.hex_digits.specs.Hex.{nibble}
use Rattle.hex_digits.specs.HexRules.{HexDigit, decimal, lower, upper}
use Rattle.hex_digits.specs.HexRuleLaws.{digit_value, digit_small, value_digit}
use Rattle.addresses.specs.Addresses.{address}
use Rattle.addresses.specs.AddressRuleLaws.{address_is, is_address_lem, address_undotted, some_address}
use Rattle.ipv6.specs.Ipv6.{hex_value, group, group_bytes, is_last, groups, side, Halves, halves, spread, whole, ipv6}
use Rattle.ipv6.specs.Ipv6Rules.{hex_from, GroupIs, GroupsAre, no_more, next, TailedAre, plain, dotted, Colons, nothing, some_pieces, Ipv6Is, full, compressed}
use Rattle.ipv6.specs.HalfLaws.{halves_text, halves_whole, halves_split}

-- ---- a group

value_step : (v c w : ℕ) (s : List ℕ) → hex_value v (c ∷ s) ≡ Some w →
    (nibble c < 16) × (hex_value (v * 16 + nibble c) s ≡ Some w)
unfolding hex_value
value_step v c w s e = go (ltb (nibble c) 16) refl e
  where
    go : (t : Bool) → ltb (nibble c) 16 ≡ t → cond t (hex_value (v * 16 + nibble c) s) None ≡ Some w →
        (nibble c < 16) × (hex_value (v * 16 + nibble c) s ≡ Some w)
    go true h k = (ltb-true (nibble c) 16 h, k)
    go false h k = absurd (none-some w k)

value_end : (v w : ℕ) → hex_value v [] ≡ Some w → v ≡ w
unfolding hex_value
value_end v w e = same_Some v w e

value_is : (v : ℕ) (s : List ℕ) {n : ℕ} → hex_value v s ≡ Some n →
    (values : List ℕ) × Pairwise HexDigit s values × (hex_from v values ≡ n)
value_is v [] {n} e = ([], tt, value_end v n e)
value_is v (c ∷ s) {n} e =
    let x = value_step v c n s e in
    let d = value_digit c (lt-ltb (nibble c) 16 x.0) in
    let k = value_is (v * 16 + nibble c) s x.1 in
    (nibble c ∷ k.0, (d, k.1), k.2)

is_value : (v : ℕ) (s values : List ℕ) → Pairwise HexDigit s values → hex_value v s ≡ Some (hex_from v values)
unfolding hex_value
is_value v [] [] h = refl
is_value v [] (x ∷ values) h = absurd h
is_value v (c ∷ s) [] h = absurd h
is_value v (c ∷ s) (x ∷ values) h =
    rw (digit_value h.0, lt-ltb x 16 (digit_small h.0)) (is_value (v * 16 + x) s values h.1)

pub group_is : (p : List ℕ) {v : ℕ} → group p ≡ Some v → GroupIs p v
unfolding group
group_is p e =
    let o = only_some (between 1 4 (length p)) (hex_value 0 p) e in
    let k = value_is 0 p o.1 in
    let size : Sized 1 4 p = record { least = between_low {x = length p} 1 4 o.0; most = between_high {x = length p} 1 4 o.0 } in
    record { values = k.0; digits = k.1; count = size; is = k.2 }

pub is_group_lem : (p : List ℕ) {v : ℕ} → GroupIs p v → group p ≡ Some v
unfolding group
is_group_lem p h =
    rw (inside {x = length p} 1 4 h.count.least h.count.most) (is_value 0 p h.values h.digits ∙ ap Some h.is)

-- ---- a group is no address: it holds no dot

undotted : {c x : ℕ} → HexDigit c x → other 46 c ≡ true
undotted (decimal n h) = is_other (48 + n) 46 (λ e. omega arith)
undotted (lower n h) = is_other (97 + n) 46 (λ e. omega arith)
undotted (upper n h) = is_other (65 + n) 46 (λ e. omega arith)

all_undotted : (p values : List ℕ) → Pairwise HexDigit p values → all (other 46) p ≡ true
all_undotted [] [] h = refl
all_undotted [] (x ∷ values) h = absurd h
all_undotted (c ∷ p) [] h = absurd h
all_undotted (c ∷ p) (x ∷ values) h = rw (undotted h.0) (all_undotted p values h.1)

ungrouped : (p : List ℕ) {a : List ℕ} → address p ≡ Some a → group p ≡ None
ungrouped p {a} e = go (group p) refl
  where
    go : (o : Option ℕ) → group p ≡ o → o ≡ None
    go None q = refl
    go (Some v) q =
        let h = group_is p q in
        absurd (none-some a (sym (address_undotted p (all_undotted p h.values h.digits)) ∙ e))

-- ---- groups, and groups with a dotted tail

pub group_next : {p : List ℕ} {v : ℕ} {ps : List (List ℕ)} {bytes : List ℕ} → GroupIs p v → GroupsAre ps bytes →
    GroupsAre (p ∷ ps) (group_bytes v ++ bytes)
group_next {p} {v} h k =
    let e : v ≡ v / 256 * 256 + v % 256 = omega arith in
    next (subst (GroupIs p) e h) (omega arith) k

tailed_next : {p : List ℕ} {v : ℕ} {ps : List (List ℕ)} {bytes : List ℕ} → GroupIs p v → TailedAre ps bytes →
    TailedAre (p ∷ ps) (group_bytes v ++ bytes)
tailed_next h (plain k) = plain (group_next h k)
tailed_next h (dotted k a) = dotted (group_next h k) a

-- what is read of the pieces of a text, by what the first is
abbrev then_read : Bool → List ℕ → List (List ℕ) → Option ℕ → Option (List ℕ)
then_read d p ps o = and_then (or_else (mapped group_bytes o) (only (d && is_last ps) (address p))) (λ b. glue b (groups d ps))

groups_are : (ps : List (List ℕ)) {bytes : List ℕ} → groups false ps ≡ Some bytes → GroupsAre ps bytes
unfolding groups
groups_are [] {bytes} e = subst (GroupsAre []) (same_Some [] bytes e) no_more
groups_are (p ∷ ps) {bytes} e = go (λ u k. groups_are ps k) (group p) refl e
  where
    go : ((u : List ℕ) → groups false ps ≡ Some u → GroupsAre ps u) → (o : Option ℕ) → group p ≡ o →
        then_read false p ps o ≡ Some bytes → GroupsAre (p ∷ ps) bytes
    go rest None q w = absurd (none-some bytes w)
    go rest (Some v) q w =
        let g = glue_some (group_bytes v) (groups false ps) w in
        subst (GroupsAre (p ∷ ps)) g.2 (group_next (group_is p q) (rest g.0 g.1))

tailed_are : (ps : List (List ℕ)) {bytes : List ℕ} → groups true ps ≡ Some bytes → TailedAre ps bytes
unfolding groups
tailed_are [] {bytes} e = subst (TailedAre []) (same_Some [] bytes e) (plain no_more)
tailed_are (p ∷ ps) {bytes} e = go (λ u k. tailed_are ps k) (group p) refl e
  where
    end : (qs : List (List ℕ)) → then_read true p qs None ≡ Some bytes → TailedAre (p ∷ qs) bytes
    end [] w =
        let a = then_some (address p) (λ b. glue b (groups true [])) w in
        let k : a.0 ≡ bytes = sym (append-nil a.0) ∙ same_Some (a.0 ++ []) bytes a.2 in
        subst (TailedAre (p ∷ [])) k (dotted no_more (address_is p a.1))
    end (q ∷ qs) w = absurd (none-some bytes w)

    go : ((u : List ℕ) → groups true ps ≡ Some u → TailedAre ps u) → (o : Option ℕ) → group p ≡ o →
        then_read true p ps o ≡ Some bytes → TailedAre (p ∷ ps) bytes
    go rest None q w = end ps w
    go rest (Some v) q w =
        let g = glue_some (group_bytes v) (groups true ps) w in
        subst (TailedAre (p ∷ ps)) g.2 (tailed_next (group_is p q) (rest g.0 g.1))

-- groups in front of what is read
groups_before : (d : Bool) {ps : List (List ℕ)} {bytes : List ℕ} → GroupsAre ps bytes → (qs : List (List ℕ)) →
    groups d (ps ++ qs) ≡ glue bytes (groups d qs)
unfolding groups
groups_before d no_more qs = sym (glue_nil (groups d qs))
groups_before d (next {p} {high} {low} {ps} {bytes} h l k) qs =
    let i : (high * 256 + low) / 256 ≡ high = omega arith in
    let j : (high * 256 + low) % 256 ≡ low = omega arith in
    rw (is_group_lem p h, i, j, groups_before d k qs) (glue_glue (high ∷ low ∷ []) bytes (groups d qs))

are_groups : (d : Bool) {ps : List (List ℕ)} {bytes : List ℕ} → GroupsAre ps bytes → groups d ps ≡ Some bytes
unfolding groups
are_groups d {ps} {bytes} h =
    ap (groups d) (sym (append-nil ps)) ∙ groups_before d h [] ∙ ap Some (append-nil bytes)

are_tailed : {ps : List (List ℕ)} {bytes : List ℕ} → TailedAre ps bytes → groups true ps ≡ Some bytes
unfolding groups
are_tailed (plain h) = are_groups true h
are_tailed (dotted {p = p} {bytes = bytes} {tail = tail} h a) =
    let e : address p ≡ Some tail = is_address_lem p a in
    groups_before true h (p ∷ []) ∙ rw (ungrouped p e, e) (ap (λ (t : List ℕ). Some (bytes ++ t)) (append-nil tail))

-- ---- a side

some_group : (p : List ℕ) {v : ℕ} → GroupIs p v → ¬ (p ≡ [])
some_group [] h e = omega (arith, h.count.least)
some_group (c ∷ p) h e = cons_nil c p e

pub some_groups : {ps : List (List ℕ)} {bytes : List ℕ} → GroupsAre ps bytes → Each (λ p. ¬ (p ≡ [])) ps
some_groups no_more = tt
some_groups (next {p} h l k) = (some_group p h, some_groups k)

pub some_tailed : {ps : List (List ℕ)} {bytes : List ℕ} → TailedAre ps bytes → Each (λ p. ¬ (p ≡ [])) ps
some_tailed (plain h) = some_groups h
some_tailed (dotted {ps} {p} {tail = tail} h a) = each_append (λ q. ¬ (q ≡ [])) ps (p ∷ []) (some_groups h) (some_address p tail a, tt)

side_are : (d : Bool) (s : List ℕ) {bytes : List ℕ} → side d s ≡ Some bytes →
    (ps : List (List ℕ)) × Colons s ps × (groups d ps ≡ Some bytes)
unfolding side groups
side_are d [] e = ([], nothing, e)
side_are d (x ∷ s) e = (pieces 58 (x ∷ s), some_pieces (pieces_are 58 (x ∷ s)), (sized_is 0 16 (groups d (pieces 58 (x ∷ s))) e).1)

are_side : (d : Bool) {s : List ℕ} {ps : List (List ℕ)} {bytes : List ℕ} → Colons s ps → Each (λ p. ¬ (p ≡ [])) ps →
    groups d ps ≡ Some bytes → length bytes ≤ 16 → side d s ≡ Some bytes
unfolding side groups
are_side d nothing n e l = e
are_side d {s} {ps} {bytes} (some_pieces h) n e l = go s (pieces_only 58 h)
  where
    go : (t : List ℕ) → pieces 58 t ≡ ps → side d t ≡ Some bytes
    go [] q = absurd ((subst (Each (λ p. ¬ (p ≡ []))) (sym q) n).0 refl)
    go (x ∷ t) q = is_sized 0 16 (groups d (pieces 58 (x ∷ t))) (record { least = omega arith; most = l }) (ap (groups d) q ∙ e)

-- ---- an address

pub even_groups : {ps : List (List ℕ)} {bytes : List ℕ} → GroupsAre ps bytes → length bytes ≡ 2 * length ps
even_groups no_more = refl
even_groups (next h l k) = omega (arith, even_groups k)

-- how many groups bytes are
tailed_count : {ps : List (List ℕ)} {bytes : List ℕ} → TailedAre ps bytes → (n : ℕ) × (length bytes ≡ 2 * n)
tailed_count (plain {ps} h) = (length ps, even_groups h)
tailed_count (dotted {ps} {p} {bytes} {tail} h a) =
    (length ps + 2, omega (arith, length-append bytes tail, even_groups h, a.four.least, a.four.most))

spread_is : (f b : List ℕ) {a : List ℕ} → spread f b ≡ Some a → (m n : ℕ) → length f ≡ 2 * m → length b ≡ 2 * n →
    (zero_groups : ℕ) × (1 ≤ zero_groups) × (length f + 2 * zero_groups + length b ≡ 16) × (f ++ replicate (2 * zero_groups) 0 ++ b ≡ a)
spread_is f b {a} e m n i j =
    let z = only_some (leb (length f + length b) 14) (Some (f ++ replicate (16 - (length f + length b)) 0 ++ b)) e in
    let l : length f + length b ≤ 14 = leb-true (length f + length b) 14 z.0 in
    let k : 2 * (8 - (m + n)) ≡ 16 - (length f + length b) = omega arith in
    (8 - (m + n), omega arith, omega arith, rw k (same_Some _ a z.1))

full_is : (v : List ℕ) {a : List ℕ} → sized 16 16 (side true v) ≡ Some a → Ipv6Is v a
unfolding side
full_is [] {a} e = absurd (none-some a e)
full_is (x ∷ v) e =
    let z = sized_is 16 16 (side true (x ∷ v)) e in
    full (pieces_are 58 (x ∷ v)) (tailed_are (pieces 58 (x ∷ v)) (sized_is 0 16 (groups true (pieces 58 (x ∷ v))) z.1).1) z.0

compressed_is : (v behind : List ℕ) {a : List ℕ} →
    and_then (side false v) (λ f. and_then (side true behind) (spread f)) ≡ Some a → Ipv6Is (v ++ (58 ∷ 58 ∷ behind)) a
compressed_is v behind {a} e =
    let x = then_some (side false v) (λ f. and_then (side true behind) (spread f)) e in
    let y = then_some (side true behind) (spread x.0) x.2 in
    let f = side_are false v x.1 in
    let b = side_are true behind y.1 in
    let front = groups_are f.0 f.2 in
    let back = tailed_are b.0 b.2 in
    let n = tailed_count back in
    let s = spread_is x.0 y.0 y.2 (length f.0) n.0 (even_groups front) n.1 in
    subst (Ipv6Is (v ++ (58 ∷ 58 ∷ behind))) s.3 (compressed f.1 front b.1 back s.0 s.1 s.2)

pub ipv6_is : (v : List ℕ) {a : List ℕ} → ipv6 v ≡ Some a → Ipv6Is v a
unfolding ipv6
ipv6_is v {a} e = go (halves v) refl e
  where
    go : (o : Halves) → halves v ≡ o → whole v o ≡ Some a → Ipv6Is v a
    go None q w = full_is v w
    go (Some h) q w = subst (λ (t : List ℕ). Ipv6Is t a) (sym (halves_text v h q)) (compressed_is h.0 h.1 w)

pub is_ipv6_lem : (v : List ℕ) {a : List ℕ} → Ipv6Is v a → ipv6 v ≡ Some a
unfolding ipv6
is_ipv6_lem v {a} (full h k l) =
    rw (halves_whole h (some_tailed k)) (is_sized 16 16 (side true v) l (are_side true (some_pieces h) (some_tailed k) (are_tailed k) l.most))
is_ipv6_lem v (compressed {before} {behind} {front} {back} h f k b zero_groups low sum) =
    let m : length front + length back ≤ 14 = omega arith in
    let n : 16 - (length front + length back) ≡ 2 * zero_groups = omega arith in
    rw (halves_split h (some_groups f) behind, are_side false h (some_groups f) (are_groups false f) (omega arith), are_side true k (some_tailed b) (are_tailed b) (omega arith), le-leb (length front + length back) 14 m, n)

-- a text is of one address, and two texts of an address read alike
pub one_address : (v : List ℕ) {a b : List ℕ} → Ipv6Is v a → Ipv6Is v b → a ≡ b
one_address v {a} {b} h k = same_Some a b (sym (is_ipv6_lem v h) ∙ is_ipv6_lem v k)

pub two_texts : (v w : List ℕ) {a : List ℕ} → Ipv6Is v a → Ipv6Is w a → ipv6 v ≡ ipv6 w
two_texts v w h k = is_ipv6_lem v h ∙ sym (is_ipv6_lem w k)
