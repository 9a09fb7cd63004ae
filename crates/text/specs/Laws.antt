-- Laws of the parts of a byte string: runs, lines and pieces, and of equality, ranges and computed tests.
use Rattle.std.specs.Prelude.{◌≡◌, refl, ℕ, zero, suc, ◌+◌, ◌-◌, ◌≤◌, ◌<◌, Bool, true, false, cond, not, ◌&&◌, List, [], ◌∷◌, ◌++◌, eqb, leb, length, take, drop, set, get_or, replicate}
use Rattle.std.proofs.Common.{ap, ap₂, sym, ◌∙◌, eq-eqb, ne_eqb, eqb-true, le-leb, leb-true, not-suc-le-zero, zero-add, add-one, arith, true≢false, drop_of_length-le, length-append, length-take, length-drop, drop-cons, drop-drop, take-add, take-take}
use Rattle.std.proofs.lemmas.Bool.{eqb-false, lt-leb, not-true, false≢true}
use Rattle.std.proofs.Math.Nat.{sub_self}
use Rattle.std.proofs.lemmas.List.{set_at}
use Rattle.std.proofs.Math.Seq.{append_snoc, take-nil}
use Rattle.text.specs.Bytes.{between, other, in_line, is_entry_byte}
use Rattle.text.specs.Parts.{lead, front, after, all, onto, lines, pieces, part, empty, padded}
use Rattle.text.specs.Words.{same}

-- ---- tests

pub and_true : (a b : Bool) → a && b ≡ true → (a ≡ true) × (b ≡ true)
and_true true b e = (refl, e)
and_true false b e = absurd (false≢true e)

module _ {x : ℕ} (a b : ℕ) where
  pub inside : a ≤ x → x ≤ b → between a b x ≡ true
  inside h g = rw (le-leb a x h, le-leb x b g)

  pub under : x < a → between a b x ≡ false
  under h = rw (lt-leb a x h)

  pub over : b < x → between a b x ≡ false
  over h = go (leb a x)
    where
      go : (t : Bool) → (t && leb x b) ≡ false
      go true = lt-leb x b h
      go false = refl

  pub between_low : between a b x ≡ true → a ≤ x
  between_low e = leb-true a x (and_true (leb a x) (leb x b) e).0

  pub between_high : between a b x ≡ true → x ≤ b
  between_high e = leb-true x b (and_true (leb a x) (leb x b) e).1

pub is_other : (x b : ℕ) → (x ≡ b → ⊥) → other b x ≡ true
is_other x b e = ap not (ne_eqb x b e)

pub not_other : (x b : ℕ) → x ≡ b → other b x ≡ false
not_other x b e = ap not (eq-eqb x b e)

-- a byte above the comma is one of an entry
pub above_comma : (x : ℕ) → between 45 255 x ≡ true → is_entry_byte x ≡ true
above_comma x e =
    let h : 45 ≤ x = between_low {x = x} 45 255 e in
    rw (ne_eqb x 44 (λ k. omega (arith, k, h)), ne_eqb x 32 (λ k. omega (arith, k, h)), ne_eqb x 9 (λ k. omega (arith, k, h)))

-- a byte that passes a test is none that does not
pub pass_other : (p : ℕ → Bool) (b : ℕ) → p b ≡ false → (x : ℕ) → p x ≡ true → eqb x b ≡ false
pass_other p b n x h = go (eqb x b) refl
  where
    go : (t : Bool) → eqb x b ≡ t → t ≡ false
    go true e = absurd (true≢false (sym h ∙ ap p (eqb-true x b e) ∙ n))
    go false e = refl

-- a test that passes at each number below m: computed once, it holds of each
abbrev pub below : (ℕ → Bool) → ℕ → Bool
below f zero = true
below f (suc n) = f n && below f n

pub below_at : (f : ℕ → Bool) (m : ℕ) → below f m ≡ true → (n : ℕ) → n < m → f n ≡ true
below_at f zero e n h = absurd (omega arith)
below_at f (suc m) e n h = go (below_at f m (and_true (f m) (below f m) e).1 n) (eqb n m) refl
  where
    go : (n < m → f n ≡ true) → (t : Bool) → eqb n m ≡ t → f n ≡ true
    go rest true q = ap f (eqb-true n m q) ∙ (and_true (f m) (below f m) e).0
    go rest false q = let k : (n ≡ m → ⊥) = eqb-false n m q in rest (omega (arith, k))

-- ---- runs

module _ (p : ℕ → Bool) where
  pub lead_more : (s : List ℕ) (i : ℕ) → i < length s → p (get_or s i 0) ≡ true →
      lead p (drop i s) ≡ suc (lead p (drop (i + 1) s))
  lead_more s i h e = rw (add-one, drop-cons s i 0, e)

  pub lead_stop : (s : List ℕ) (i : ℕ) → i < length s → p (get_or s i 0) ≡ false → lead p (drop i s) ≡ 0
  lead_stop s i h e = rw (drop-cons s i 0, e)

  pub lead_end : (s : List ℕ) (i : ℕ) → length s ≤ i → lead p (drop i s) ≡ 0
  lead_end s i h = rw (drop_of_length-le s h)

  pub all_cons : (x : ℕ) (l : List ℕ) → all p (x ∷ l) ≡ true → (p x ≡ true) × (all p l ≡ true)
  all_cons x l h = and_true (p x) (all p l) h

  pub all_append : (a b : List ℕ) → all p a ≡ true → all p b ≡ true → all p (a ++ b) ≡ true
  all_append [] b ha hb = hb
  all_append (x ∷ a) b ha hb = rw (all_cons x a ha).0 (all_append a b (all_cons x a ha).1 hb)

  pub all_parts : (a b : List ℕ) → all p (a ++ b) ≡ true → (all p a ≡ true) × (all p b ≡ true)
  all_parts [] b h = (refl, h)
  all_parts (x ∷ a) b h =
      let c = all_cons x (a ++ b) h in
      let d = all_parts a b c.1 in
      (rw c.0 d.0, d.1)

  pub all_weaken : (q : ℕ → Bool) → ((x : ℕ) → p x ≡ true → q x ≡ true) → (l : List ℕ) → all p l ≡ true → all q l ≡ true
  all_weaken q f [] h = refl
  all_weaken q f (x ∷ l) h = rw (f x (all_cons x l h).0) (all_weaken q f l (all_cons x l h).1)

  pub all_other : (b : ℕ) → p b ≡ false → (l : List ℕ) → all p l ≡ true → all (other b) l ≡ true
  all_other b n l h = all_weaken (other b) (λ x e. ap not (pass_other p b n x e)) l h

  pub lead_whole : (s : List ℕ) → lead p s ≡ length s → all p s ≡ true
  lead_whole [] e = refl
  lead_whole (x ∷ xs) e = go (p x) refl (λ k. lead_whole xs k)
    where
      go : (b : Bool) → p x ≡ b → (lead p xs ≡ length xs → all p xs ≡ true) → all p (x ∷ xs) ≡ true
      go true h k = rw h (k (omega (arith, rw h at e)))
      go false h k = absurd (omega (arith, rw h at e))

  pub lead_part : (s : List ℕ) → lead p s < length s → all p s ≡ false
  lead_part [] e = absurd (not-suc-le-zero e)
  lead_part (x ∷ xs) e = go (p x) refl (λ k. lead_part xs k)
    where
      go : (b : Bool) → p x ≡ b → (lead p xs < length xs → all p xs ≡ false) → all p (x ∷ xs) ≡ false
      go true h k = rw h (k (omega (arith, rw h at e)))
      go false h k = rw h

  -- a list whose front passes and whose next byte does not; a list that passes whole
  pub front_append : (l : List ℕ) (y : ℕ) (r : List ℕ) → all p l ≡ true → p y ≡ false → front p (l ++ y ∷ r) ≡ l
  front_append [] y r h e = rw e
  front_append (x ∷ l) y r h e = rw ((all_cons x l h).0, front_append l y r (all_cons x l h).1 e)

  pub after_append : (l : List ℕ) (y : ℕ) (r : List ℕ) → all p l ≡ true → p y ≡ false → after p (l ++ y ∷ r) ≡ y ∷ r
  after_append [] y r h e = rw e
  after_append (x ∷ l) y r h e = rw ((all_cons x l h).0, after_append l y r (all_cons x l h).1 e)

-- ---- lines

not_10 : (x : ℕ) (l : List ℕ) → all in_line (x ∷ l) ≡ true → eqb x 10 ≡ false
not_10 x l h = not-true (eqb x 10) (all_cons in_line x l h).0

-- a line, its byte 10 and a rest
pub lines_append : (l r : List ℕ) → all in_line l ≡ true → lines (l ++ 10 ∷ r) ≡ l ∷ lines r
lines_append [] r h = refl
lines_append (x ∷ l) r h = rw (not_10 x l h, lines_append l r (all_cons in_line x l h).1)

lines_step : (x : ℕ) (s : List ℕ) →
    lines (x ∷ s) ≡ front in_line (x ∷ s) ∷ lines (drop (suc (lead in_line (x ∷ s))) (x ∷ s))
lines_step x [] = go (eqb x 10) refl
  where
    go : (b : Bool) → eqb x 10 ≡ b →
        lines (x ∷ []) ≡ front in_line (x ∷ []) ∷ lines (drop (suc (lead in_line (x ∷ []))) (x ∷ []))
    go true e = rw e
    go false e = rw e
lines_step x (y ∷ s) = go (lines_step y s) (eqb x 10) refl
  where
    go : lines (y ∷ s) ≡ front in_line (y ∷ s) ∷ lines (drop (suc (lead in_line (y ∷ s))) (y ∷ s)) → (b : Bool) →
        eqb x 10 ≡ b →
        lines (x ∷ y ∷ s) ≡ front in_line (x ∷ y ∷ s) ∷ lines (drop (suc (lead in_line (x ∷ y ∷ s))) (x ∷ y ∷ s))
    go ih true e = rw e
    go ih false e = rw e (ap (onto x) ih)

-- the first line by its length
pub lines_front : (t : List ℕ) → 0 < length t → lines t ≡ front in_line t ∷ lines (drop (suc (lead in_line t)) t)
lines_front [] h = absurd (not-suc-le-zero h)
lines_front (x ∷ t) h = lines_step x t

-- ---- pieces

module _ (d : ℕ) where
  -- a piece, its byte d and a rest; a last piece
  pub pieces_append : (l r : List ℕ) → all (other d) l ≡ true → pieces d (l ++ d ∷ r) ≡ l ∷ pieces d r
  pieces_append [] r h = rw (eq-eqb d d refl)
  pieces_append (x ∷ l) r h = rw (not-true (eqb x d) (all_cons (other d) x l h).0, pieces_append l r (all_cons (other d) x l h).1)

  pub pieces_last : (l : List ℕ) → all (other d) l ≡ true → pieces d l ≡ l ∷ []
  pieces_last [] h = refl
  pieces_last (x ∷ l) h = rw (not-true (eqb x d) (all_cons (other d) x l h).0, pieces_last l (all_cons (other d) x l h).1)

  pub pieces_some : (s : List ℕ) → 1 ≤ length (pieces d s)
  pieces_some [] = omega arith
  pieces_some (x ∷ s) = go (eqb x d) (pieces d s)
    where
      go : (t : Bool) (ps : List (List ℕ)) → 1 ≤ length (cond t ([] ∷ ps) (onto x ps))
      go true ps = omega arith
      go false [] = omega arith
      go false (p ∷ ps) = omega arith

  -- the first piece by its length
  pub pieces_whole : (t : List ℕ) → lead (other d) t ≡ length t → pieces d t ≡ front (other d) t ∷ []
  pieces_whole [] h = refl
  pieces_whole (x ∷ t) h = go (eqb x d) refl (λ k. pieces_whole t k)
    where
      go : (b : Bool) → eqb x d ≡ b → (lead (other d) t ≡ length t → pieces d t ≡ front (other d) t ∷ []) →
          pieces d (x ∷ t) ≡ front (other d) (x ∷ t) ∷ []
      go true e k = absurd (omega (arith, rw e at h))
      go false e k = rw e (ap (onto x) (k (omega (arith, rw e at h))))

  pub pieces_more : (t : List ℕ) → lead (other d) t < length t →
      pieces d t ≡ front (other d) t ∷ pieces d (drop (suc (lead (other d) t)) t)
  pieces_more [] h = absurd (omega arith)
  pieces_more (x ∷ t) h = go (eqb x d) refl (λ k. pieces_more t k)
    where
      go : (b : Bool) → eqb x d ≡ b →
          (lead (other d) t < length t → pieces d t ≡ front (other d) t ∷ pieces d (drop (suc (lead (other d) t)) t)) →
          pieces d (x ∷ t) ≡ front (other d) (x ∷ t) ∷ pieces d (drop (suc (lead (other d) (x ∷ t))) (x ∷ t))
      go true e k = rw e
      go false e k = rw e (ap (onto x) (k (omega (arith, rw e at h))))

-- ---- equality

pub same_refl : (a : List ℕ) → same a a ≡ true
same_refl [] = refl
same_refl (x ∷ a) = rw (eq-eqb x x refl) (same_refl a)

pub same_eq : (a b : List ℕ) → same a b ≡ true → a ≡ b
same_eq [] [] e = refl
same_eq [] (y ∷ b) e = absurd (false≢true e)
same_eq (x ∷ a) [] e = absurd (false≢true e)
same_eq (x ∷ a) (y ∷ b) e = ap₂ ◌∷◌ (eqb-true x y (and_true (eqb x y) (same a b) e).0) (same_eq a b (and_true (eqb x y) (same a b) e).1)

pub same_differ : (a b : List ℕ) → (length a ≡ length b → ⊥) → same a b ≡ false
same_differ a b h = go (same a b) refl
  where
    go : (t : Bool) → same a b ≡ t → same a b ≡ false
    go true e = absurd (h (ap length (same_eq a b e)))
    go false e = e

-- ---- zeros behind a text: one more element in front of them

pub padded_set : (m : ℕ) (t : List ℕ) (n x : ℕ) → length t ≡ n → n < m → set (padded m t) n x ≡ padded m (t ++ (x ∷ []))
padded_set m t n x e h =
    let k : m - length t ≡ suc (m - suc (length t)) = omega arith in
    let l : length (t ++ (x ∷ [])) ≡ suc (length t) = simp length-append (omega arith) in
    rw (k, l) (set_at t 0 (replicate (m - suc (length t)) 0) x n e ∙ sym (append_snoc t x (replicate (m - suc (length t)) 0)))

-- ---- views by index

pub view_end : (s : List ℕ) (i : ℕ) → i ≡ length s → drop i s ≡ []
view_end s i e = drop_of_length-le s {i = i} (omega arith)

pub view_more : (s : List ℕ) (i : ℕ) → i < length s → drop i s ≡ get_or s i 0 ∷ drop (i + 1) s
view_more s i h = rw (add-one, drop-cons s i 0)

-- a part is its first byte and the rest, or two parts
pub part_next : (s : List ℕ) (i e : ℕ) → i < e → i < length s → part i e s ≡ get_or s i 0 ∷ part (i + 1) e s
part_next s i e h k =
    let n : e - i ≡ suc (e - (i + 1)) = omega arith in
    rw (n, view_more s i k)

pub part_add : (s : List ℕ) (a i e : ℕ) → a ≤ i → i ≤ e → part a e s ≡ part a i s ++ part i e s
part_add s a i e h k =
    let n : e - a ≡ i - a + (e - i) = omega arith in
    let m : a + (i - a) ≡ i = omega arith in
    ap (λ (j : ℕ). take j (drop a s)) n ∙ take-add (i - a) (e - i) (drop a s) ∙ rw (drop-drop (i - a) a s, m)

pub part_none : (s : List ℕ) (a : ℕ) → part a a s ≡ []
part_none s a = ap (λ (n : ℕ). take n (drop a s)) (sub_self a)

pub part_some : (s : List ℕ) (a e : ℕ) → a < e → e ≤ length s → empty (part a e s) ≡ false
part_some s a e h k = ap (λ (n : ℕ). empty (take n (drop a s))) le_suc ∙ rw (drop-cons s a 0 (omega arith))
  where
    le_suc : e - a ≡ suc (e - a - 1)
    le_suc = omega arith

-- ---- a part of a part

drop_take : (a n : ℕ) (l : List ℕ) → drop a (take (a + n) l) ≡ take n (drop a l)
drop_take zero n l = ap (λ (m : ℕ). take m l) (zero-add n)
drop_take (suc a) n [] = ap (drop (suc a)) (take-nil (suc a + n)) ∙ sym (take-nil n)
drop_take (suc a) n (x ∷ l) = ap (λ (m : ℕ). drop (suc a) (take m (x ∷ l))) k ∙ drop_take a n l
  where
    k : suc a + n ≡ suc (a + n)
    k = omega arith

pub part_long : (s : List ℕ) (i e : ℕ) → i ≤ e → e ≤ length s → length (part i e s) ≡ e - i
part_long s i e h k = simp (length-take, length-drop) (omega arith)

pub part_part : (s : List ℕ) (i e a b : ℕ) → i ≤ e → e ≤ length s → a ≤ b → b ≤ length (part i e s) →
    part a b (part i e s) ≡ part (i + a) (i + b) s
part_part s i e a b h k l m =
    let q : b ≤ e - i = omega (arith, part_long s i e h k) in
    let r : e - i ≡ a + (e - i - a) = omega arith in
    let w : b - a ≤ e - i - a = omega arith in
    let y : b - a ≡ i + b - (i + a) = omega arith in
    ap (λ (n : ℕ). take (b - a) (drop a (take n (drop i s)))) r
    ∙ ap (take (b - a)) (drop_take a (e - i - a) (drop i s))
    ∙ take-take (b - a) (e - i - a) (drop a (drop i s)) w
    ∙ ap₂ (λ (n : ℕ) (t : List ℕ). take n t) y (drop-drop a i s)
