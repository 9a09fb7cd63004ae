-- Groups, runs of zeros and joined groups, written: what the loops keep, a turn, and their ends.
use mathlib.Core.Path.{◌≡◌, refl, ap, ap₂, sym, ◌∙◌}
use mathlib.Core.Bool.{Bool, true, false, cond}
use mathlib.Core.List.{List, [], ◌∷◌, ◌++◌, append_assoc, append-nil}
use Prim.Native.Nat.{ℕ, suc, ◌+◌, ◌-◌, ◌*◌, ◌≤◌, ◌<◌}
use native.Mathlib.Numerals.{add-one}
use native.Mathlib.Omega.{arith}
use native.Mathlib.Nat.{zero-add}
use borrow.Author.Tests.{lt-ltb, le-ltb}
use lib.Dec.{eqb, leb}
use lib.ListN.{length, take, drop, set, get_or, replicate, length-append, length-drop, drop_of_length-le}
use lib.Seq.{take-suc, take_all, drop-cons, length-take-le}
use Rattle.text.specs.Parts.{padded}
use Rattle.text.specs.Laws.{padded_set}
use Rattle.put.specs.Put.{Wrote}
use Rattle.put.specs.Laws.{then, room_first, room_then, wrote_none}
use Rattle.ipv6.specs.Ipv6.{groups_of, group_digits, colon_groups, joined_groups, zero_groups, run_here, longest, shortened, canonical}
use Rattle.ipv6.specs.Places.{longer}
use Rattle.ipv6.specs.GroupLaws.{groups_of_length, groups_of_at}
use Rattle.ipv6.specs.Runs.{longest_most}
use Rattle.ipv6.specs.declared.Run.{Run}

-- ---- the groups of an address

pub record Grouping (a gs : List ℕ) (i : ℕ) : Type 0 where
  pub most : i ≤ 8
  pub is : gs ≡ padded 8 (take i (groups_of a))

pub grouping_first : (a : List ℕ) → Grouping a (replicate 8 0) 0
grouping_first a = record { most = omega arith; is = refl }

module _ {a gs : List ℕ} {i : ℕ} (h : Grouping a gs i) (long : length a ≡ 16) where
  eight : length (groups_of a) ≡ 8
  eight = groups_of_length a 8 (omega arith)

  pub grouping_turn : i < 8 → {g : ℕ} → g ≡ get_or a (2 * i) 0 * 256 + get_or a (2 * i + 1) 0 → Grouping a (set gs i g) (i + 1)
  grouping_turn l {g} e =
      let t : length (take i (groups_of a)) ≡ i = length-take-le i (groups_of a) (omega (arith, eight)) in
      let k : g ≡ get_or (groups_of a) i 0 = e ∙ sym (groups_of_at a i (omega arith)) in
      let more : take (i + 1) (groups_of a) ≡ take i (groups_of a) ++ (g ∷ []) = rw (add-one i, k) (take-suc (groups_of a) i 0 (omega (arith, eight))) in
      record { most = omega arith; is = rw (more, h.is) (padded_set 8 (take i (groups_of a)) i g t l) }

  pub grouping_end : 8 ≤ i → gs ≡ groups_of a
  grouping_end l =
      let t : take i (groups_of a) ≡ groups_of a = take_all i (groups_of a) (omega (arith, eight)) in
      h.is ∙ rw (t, eight) (append-nil (groups_of a))

-- ---- the longest run

pub record Running (gs : List ℕ) (i n : ℕ) (best : Run) : Type 0 where
  pub room : i + n ≤ 8
  pub zero : n ≡ zero_groups (drop i gs)
  pub start : best.start ≡ i + (longest (drop i gs)).start
  pub len : best.len ≡ (longest (drop i gs)).len

pub running_first : (gs : List ℕ) → length gs ≡ 8 → Running gs 8 0 (record { start = 8; len = 0 })
unfolding longest
running_first gs e =
    let n : drop 8 gs ≡ [] = drop_of_length-le gs {i = 8} (omega arith) in
    record { room = omega arith; zero = rw n; start = rw n; len = rw n }

module _ {gs : List ℕ} {i n : ℕ} {best : Run} (h : Running gs i n best) (long : length gs ≡ 8) where
  module _ {j : ℕ} (l : suc j ≡ i) {z : ℕ} (e : z ≡ cond (eqb (get_or gs (j) 0) 0) (suc n) 0) {b : Run} (q : b ≡ longer best (j) z) where
    step : drop j gs ≡ get_or gs j 0 ∷ drop i gs
    step = drop-cons gs j 0 (omega (arith, h.room)) ∙ rw l

    now_zero : z ≡ zero_groups (get_or gs (j) 0 ∷ drop i gs)
    now_zero = e ∙ rw h.zero

    small : (t : Bool) → z ≡ cond t (suc n) 0 → j + z ≤ 8
    small true w = omega (arith, h.room)
    small false w = omega (arith, h.room)

    both : (b.start ≡ j + (longest (get_or gs (j) 0 ∷ drop i gs)).start) × (b.len ≡ (longest (get_or gs (j) 0 ∷ drop i gs)).len)
    unfolding longest
    both = rw (q, ← now_zero, ← h.len) (go (leb best.len z))
      where
        picked : Bool → Run
        picked t = cond t (record { start = j; len = z }) best

        here : Bool → Run
        here t = run_here t z (record { start = (longest (drop i gs)).start; len = best.len })

        go : (t : Bool) → ((picked t).start ≡ j + (here t).start) × ((picked t).len ≡ (here t).len)
        go true = (omega arith, refl)
        go false = (omega (arith, h.start), refl)

    pub running_turn : Running gs (j) z b
    running_turn = record { room = small (eqb (get_or gs (j) 0) 0) e; zero = rw step now_zero; start = rw step both.0; len = rw step both.1 }

  pub running_end : i ≤ 0 → best ≡ longest gs
  running_end l =
      let e : i ≡ 0 = omega arith in
      ap₂ (λ (s m : ℕ). record { start = s; len = m }) (rw (e, zero-add (longest gs).start) at h.start) (rw e at h.len)

-- ---- groups with colons

with_colons_append : (l m : List ℕ) → colon_groups (l ++ m) ≡ colon_groups l ++ colon_groups m
with_colons_append [] m = refl
with_colons_append (g ∷ l) m = ap (λ (x : List ℕ). (58 ∷ group_digits g) ++ x) (with_colons_append l m) ∙ sym (append_assoc (58 ∷ group_digits g) (colon_groups l) (colon_groups m))

module _ (gs : List ℕ) (i : ℕ) (l : i < length gs) where
  -- the groups from i on are the one at i and the others; those before i + 1 are the others and the one at i
  colons_next : colon_groups (drop i gs) ≡ (58 ∷ group_digits (get_or gs i 0)) ++ colon_groups (drop (i + 1) gs)
  colons_next = rw (add-one i) (ap colon_groups (drop-cons gs i 0 l))

  colons_last : colon_groups (take (i + 1) gs) ≡ colon_groups (take i gs) ++ (58 ∷ group_digits (get_or gs i 0))
  colons_last =
      rw (add-one i, take-suc gs i 0 l)
      (with_colons_append (take i gs) (get_or gs i 0 ∷ []) ∙ ap (λ (x : List ℕ). colon_groups (take i gs) ++ x) (append-nil (58 ∷ group_digits (get_or gs i 0))))

-- the groups before i are written, a colon in front of each, and those from i on fit
pub record Laying (gs : List ℕ) (at : ℕ) (o x : List ℕ) (i p : ℕ) : Type 0 where
  pub wrote : Wrote (colon_groups (take i gs)) at o x p
  pub room : p + length (colon_groups (drop i gs)) ≤ length o

pub laying_first : (gs : List ℕ) {at : ℕ} {o : List ℕ} → at + length (colon_groups gs) ≤ length o → Laying gs at o o 0 at
laying_first gs {at} {o} r = record { wrote = wrote_none o at (omega arith); room = r }

module _ {gs : List ℕ} {at i p : ℕ} {o x : List ℕ} (h : Laying gs at o x i p) where
  module _ (l : i < length gs) where
    next_length : length (colon_groups (drop i gs)) ≡ length (58 ∷ group_digits (get_or gs i 0)) + length (colon_groups (drop (i + 1) gs))
    next_length = ap length (colons_next gs i l) ∙ length-append (58 ∷ group_digits (get_or gs i 0)) (colon_groups (drop (i + 1) gs))

    pub laying_room : p + length (58 ∷ group_digits (get_or gs i 0)) ≤ length x
    laying_room = omega (arith, next_length, h.room, h.wrote.long)

    pub laying_turn : {y : List ℕ} {q : ℕ} → Wrote (58 ∷ group_digits (get_or gs i 0)) p x y q → Laying gs at o y (i + 1) q
    laying_turn w = record { wrote = rw (colons_last gs i l) (then h.wrote w); room = omega (arith, next_length, h.room, w.next) }

  pub laying_end : length gs ≤ i → Wrote (colon_groups gs) at o x p
  laying_end k = rw (take_all i gs k) at h.wrote

-- ---- joined groups: the first, and the others behind it

module _ (gs : List ℕ) (some : length gs ≡ 0 → ⊥) where
  -- the groups behind the first, as the code lends them
  abbrev pub others : List ℕ
  others = take (length gs - 1) (drop 1 gs)

  joined_next : joined_groups gs ≡ group_digits (get_or gs 0 0) ++ colon_groups others
  joined_next = go gs some
    where
      go : (l : List ℕ) → (length l ≡ 0 → ⊥) → joined_groups l ≡ group_digits (get_or l 0 0) ++ colon_groups (take (length l - 1) (drop 1 l))
      go [] h = absurd (h refl)
      go (g ∷ l) h = rw (take_all (length (g ∷ l) - 1) l (omega arith))

  pub joined_whole : {at p q : ℕ} {o x y : List ℕ} → Wrote (group_digits (get_or gs 0 0)) at o x p → Wrote (colon_groups others) p x y q → Wrote (joined_groups gs) at o y q
  joined_whole w v = rw joined_next (then w v)

-- ---- an address

module _ (a : List ℕ) {gs : List ℕ} {run : Run} (e : gs ≡ groups_of a) (q : run ≡ longest gs) (long : length gs ≡ 8) where
  pub run_fits : run.start + run.len ≤ 8
  run_fits = rw q (omega (arith, longest_most gs))

  is_shortened : canonical a ≡ shortened gs run
  unfolding canonical
  is_shortened = rw (q, e)

  pub plain_text : run.len < 2 → canonical a ≡ joined_groups gs
  plain_text h = is_shortened ∙ rw (lt-ltb run.len 2 h)

  module _ (h : 2 ≤ run.len) (at : ℕ) (o : List ℕ) (room : at + length (canonical a) ≤ length o) where
    abbrev before : List ℕ
    before = joined_groups (take run.start gs)

    -- the groups behind the run, as the code lends them
    abbrev after : List ℕ
    after = joined_groups (take (8 - (run.start + run.len)) (drop (run.start + run.len) gs))

    gapped_text : canonical a ≡ before ++ (58 ∷ 58 ∷ []) ++ after
    gapped_text =
        let all : take (8 - (run.start + run.len)) (drop (run.start + run.len) gs) ≡ drop (run.start + run.len) gs =
        take_all (8 - (run.start + run.len)) (drop (run.start + run.len) gs) (simp length-drop (omega arith)) in
        is_shortened ∙ rw (le-ltb run.len 2 h, all)

    fits : at + length (before ++ (58 ∷ 58 ∷ []) ++ after) ≤ length o
    fits = rw gapped_text at room

    pub gapped_front : at + length before ≤ length o
    gapped_front = room_first before (58 ∷ 58 ∷ []) at (room_first (before ++ (58 ∷ 58 ∷ [])) after at fits)

    module _ {x : List ℕ} {p : ℕ} (w : Wrote before at o x p) where
      pub gapped_colons : p + 2 ≤ length x
      gapped_colons = room_then w (58 ∷ 58 ∷ []) (room_first (before ++ (58 ∷ 58 ∷ [])) after at fits)

      module _ {y : List ℕ} {s : ℕ} (v : Wrote (58 ∷ 58 ∷ []) p x y s) where
        pub gapped_back : s + length after ≤ length y
        gapped_back = room_then (then w v) after fits

        pub gapped_whole : {u : List ℕ} {r : ℕ} → Wrote after s y u r → Wrote (canonical a) at o u r
        gapped_whole k = rw gapped_text (then (then w v) k)
