-- The longest run of zero groups: it lies in the groups and is of zeros, no run is longer, and none as long comes before it.
use Rattle.std.specs.Prelude.{◌≡◌, refl, Bool, true, false, cond, List, [], ◌∷◌, ◌++◌, ℕ, zero, suc, ◌+◌, ◌≤◌, eqb, leb, length, take, drop, get_or, replicate}
use Rattle.std.proofs.Common.{ap, ap₂, sym, ◌∙◌, arith, eqb-true, eq-eqb, leb-true, leb-false, take-append-drop, drop-drop}
use Rattle.ipv6.specs.Ipv6.{zero_groups, run_here, longest}
use Rattle.ipv6.specs.Recommended.{ZeroRun, Best}

pub zeros_most : (gs : List ℕ) → zero_groups gs ≤ length gs
zeros_most [] = omega arith
zeros_most (g ∷ gs) = go (eqb g 0) (zeros_most gs)
  where
    go : (t : Bool) → zero_groups gs ≤ length gs → cond t (suc (zero_groups gs)) 0 ≤ suc (length gs)
    go true h = omega arith
    go false h = omega arith

pub longest_most : (gs : List ℕ) → (longest gs).start + (longest gs).len ≤ length gs
unfolding longest
longest_most [] = omega arith
longest_most (g ∷ gs) = go (leb (longest gs).len (zero_groups (g ∷ gs))) (longest_most gs)
  where
    go : (t : Bool) → (longest gs).start + (longest gs).len ≤ length gs → (run_here t (zero_groups (g ∷ gs)) (longest gs)).start + (run_here t (zero_groups (g ∷ gs)) (longest gs)).len ≤ suc (length gs)
    go true h = omega (arith, zeros_most (g ∷ gs))
    go false h = omega arith

zeros_front : (gs : List ℕ) → take (zero_groups gs) gs ≡ replicate (zero_groups gs) 0
zeros_front [] = refl
zeros_front (g ∷ gs) = go (eqb g 0) refl (zeros_front gs)
  where
    go : (t : Bool) → eqb g 0 ≡ t → take (zero_groups gs) gs ≡ replicate (zero_groups gs) 0 → take (cond t (suc (zero_groups gs)) 0) (g ∷ gs) ≡ replicate (cond t (suc (zero_groups gs)) 0) 0
    go true e h = rw (eqb-true g 0 e, h)
    go false e h = refl

longest_zeros : (gs : List ℕ) → take (longest gs).len (drop (longest gs).start gs) ≡ replicate (longest gs).len 0
unfolding longest
longest_zeros [] = refl
longest_zeros (g ∷ gs) = go (leb (longest gs).len (zero_groups (g ∷ gs))) (longest_zeros gs)
  where
    go : (t : Bool) → take (longest gs).len (drop (longest gs).start gs) ≡ replicate (longest gs).len 0 → take (run_here t (zero_groups (g ∷ gs)) (longest gs)).len (drop (run_here t (zero_groups (g ∷ gs)) (longest gs)).start (g ∷ gs)) ≡ replicate (run_here t (zero_groups (g ∷ gs)) (longest gs)).len 0
    go true h = zeros_front (g ∷ gs)
    go false h = h

-- the groups before it, its zeros, and the groups behind it
pub longest_split : (gs : List ℕ) → gs ≡ take (longest gs).start gs ++ (replicate (longest gs).len 0 ++ drop ((longest gs).start + (longest gs).len) gs)
longest_split gs =
    let s : ℕ = (longest gs).start in
    let n : ℕ = (longest gs).len in
    let back : drop s gs ≡ replicate n 0 ++ drop (s + n) gs = sym (take-append-drop n (drop s gs)) ∙ ap₂ (λ (x y : List ℕ). x ++ y) (longest_zeros gs) (drop-drop n s gs) in
    sym (take-append-drop s gs) ∙ ap (λ (x : List ℕ). take s gs ++ x) back

-- ---- no run is longer, and none as long comes before it

zeros_top : (gs : List ℕ) (n : ℕ) → n ≤ length gs → take n gs ≡ replicate n 0 → n ≤ zero_groups gs
zeros_top gs zero h e = omega arith
zeros_top [] (suc n) h e = absurd (omega arith)
zeros_top (g ∷ gs) (suc n) h e =
    let k : n ≤ zero_groups gs = zeros_top gs n (omega arith) (ap tail e) in
    let z : g ≡ 0 = ap (λ (l : List ℕ). get_or l 0 0) e in
    rw (eq-eqb g 0 z) (omega arith)
  where
    tail : List ℕ → List ℕ
    tail [] = []
    tail (x ∷ l) = l

later : (g : ℕ) (gs : List ℕ) (j n : ℕ) → ZeroRun (g ∷ gs) (suc j) n → ZeroRun gs j n
later g gs j n r = record { within = omega (arith, r.within); zero = r.zero }

front : (gs : List ℕ) (n : ℕ) → ZeroRun gs 0 n → n ≤ zero_groups gs
front gs n r = zeros_top gs n (omega (arith, r.within)) r.zero

pub longest_top : (gs : List ℕ) (j n : ℕ) → ZeroRun gs j n → n ≤ (longest gs).len
unfolding longest
longest_top [] j n r = omega (arith, r.within)
longest_top (g ∷ gs) j n r = go (λ i q. longest_top gs i n q) j r (leb (longest gs).len (zero_groups (g ∷ gs))) refl
  where
    go : ((i : ℕ) → ZeroRun gs i n → n ≤ (longest gs).len) → (i : ℕ) → ZeroRun (g ∷ gs) i n → (t : Bool) → leb (longest gs).len (zero_groups (g ∷ gs)) ≡ t → n ≤ (run_here t (zero_groups (g ∷ gs)) (longest gs)).len
    go ih zero q true e = front (g ∷ gs) n q
    go ih zero q false e = omega (arith, front (g ∷ gs) n q, leb-false (longest gs).len (zero_groups (g ∷ gs)) e)
    go ih (suc i) q true e = omega (arith, ih i (later g gs i n q), leb-true (longest gs).len (zero_groups (g ∷ gs)) e)
    go ih (suc i) q false e = ih i (later g gs i n q)

pub longest_first : (gs : List ℕ) (j : ℕ) → ZeroRun gs j (longest gs).len → (longest gs).start ≤ j
unfolding longest
longest_first [] j r = omega arith
longest_first (g ∷ gs) j r = go (λ i q. longest_first gs i q) j (leb (longest gs).len (zero_groups (g ∷ gs))) refl r
  where
    go : ((i : ℕ) → ZeroRun gs i (longest gs).len → (longest gs).start ≤ i) → (i : ℕ) (t : Bool) → leb (longest gs).len (zero_groups (g ∷ gs)) ≡ t → ZeroRun (g ∷ gs) i (run_here t (zero_groups (g ∷ gs)) (longest gs)).len → (run_here t (zero_groups (g ∷ gs)) (longest gs)).start ≤ i
    go ih i true e q = omega arith
    go ih zero false e q = absurd (omega (arith, front (g ∷ gs) (longest gs).len q, leb-false (longest gs).len (zero_groups (g ∷ gs)) e))
    go ih (suc i) false e q = omega (arith, ih i (later g gs i (longest gs).len q))

pub longest_run : (gs : List ℕ) → ZeroRun gs (longest gs).start (longest gs).len
longest_run gs = record { within = longest_most gs; zero = longest_zeros gs }

-- so it is the only one
pub longest_only : (gs : List ℕ) (i n : ℕ) → ZeroRun gs i n → Best gs i n → ((longest gs).start ≡ i) × ((longest gs).len ≡ n)
longest_only gs i n r b =
    let e : (longest gs).len ≡ n = omega (arith, longest_top gs i n r, b.most (longest gs).start (longest gs).len (longest_run gs)) in
    let low : (longest gs).start ≤ i = longest_first gs i (rw e r) in
    let high : i ≤ (longest gs).start = b.first (longest gs).start (rw e at (longest_run gs)) in
    (omega arith, e)
