-- An IPv6 address is printable, since its groups, its dotted tail and the colons between them are.
use Rattle.std.specs.Prelude.{ℕ, refl, List, [], ◌∷◌}
use Rattle.text.specs.Relations.{Each, Pairwise}
use Rattle.text.specs.RelationLaws.{each_append}
use Rattle.text.specs.Laws.{all_append}
use Rattle.text.specs.Printable.{is_printable, Printable, pieces_printable}
use Rattle.hex_digits.specs.HexRules.{HexDigit}
use Rattle.hex_digits.specs.Printable.{digit_printable}
use Rattle.addresses.specs.Printable.{address_printable}
use Rattle.ipv6.specs.Ipv6Rules.{GroupIs, GroupsAre, no_more, next, TailedAre, plain, dotted, Colons, nothing, some_pieces, Ipv6Is, full, compressed}

group_printable : (p : List ℕ) {v : ℕ} → GroupIs p v → Printable p
group_printable p h = go p h.values h.digits
  where
    go : (p values : List ℕ) → Pairwise HexDigit p values → Printable p
    go [] values h = refl
    go (c ∷ p) [] h = absurd h
    go (c ∷ p) (x ∷ values) h = rw (digit_printable h.0) (go p values h.1)

groups_printable : {ps : List (List ℕ)} {bytes : List ℕ} → GroupsAre ps bytes → Each Printable ps
groups_printable no_more = tt
groups_printable (next {p} h l k) = (group_printable p h, groups_printable k)

tailed_printable : {ps : List (List ℕ)} {bytes : List ℕ} → TailedAre ps bytes → Each Printable ps
tailed_printable (plain h) = groups_printable h
tailed_printable (dotted {ps} {p} h a) =
    each_append Printable ps (p ∷ []) (groups_printable h) (address_printable a, tt)

colons_printable : {v : List ℕ} {ps : List (List ℕ)} → Colons v ps → Each Printable ps → Printable v
colons_printable nothing e = refl
colons_printable (some_pieces h) e = pieces_printable 58 refl h e

pub ipv6_printable : {v bytes : List ℕ} → Ipv6Is v bytes → Printable v
ipv6_printable (full h k l) = pieces_printable 58 refl h (tailed_printable k)
ipv6_printable (compressed {before} {behind} h f k b zero_groups low sum) =
    all_append is_printable before (58 ∷ 58 ∷ behind) (colons_printable h (groups_printable f))
    (colons_printable k (tailed_printable b))
