-- The two shapes of the text that is written: groups with colons between them, where no two zero groups stand together,
-- and "::" in place of the best run of zero groups. An address has one text of them.
use Rattle.std.specs.Prelude.{◌≡◌, refl, Bool, true, false, List, [], ◌∷◌, ◌++◌, ℕ, ◌+◌, ◌≤◌, ltb, length, take, drop, replicate}
use Rattle.std.proofs.Common.{ap, sym, ◌∙◌, subst, append_assoc, arith, lt-ltb, le-ltb, ltb-true, ltb-false, length-append, length-take-le, take_at, drop_at, drop-drop}
use Rattle.std.proofs.lemmas.List.{length-replicate}
use Rattle.std.proofs.Math.Seq.{take-append_seam, drop-append_seam}
use Rattle.ipv6.specs.Ipv6.{groups_of, joined_groups, longest, canonical}
use Rattle.ipv6.specs.Recommended.{ZeroRun, Best}
use Rattle.ipv6.specs.Runs.{longest_most, longest_split, longest_top, longest_first, longest_run, longest_only}

pub data Shape (gs : List ℕ) : List ℕ → Type 0 where
  no_gap : ((j m : ℕ) → ZeroRun gs j m → m ≤ 1) → Shape gs (joined_groups gs)
  one_gap : (f b : List ℕ) (n : ℕ) → gs ≡ f ++ (replicate n 0 ++ b) → Best gs (length f) n
      → Shape gs (joined_groups f ++ (58 ∷ 58 ∷ joined_groups b))

module _ (a : List ℕ) where
  canonical_plain : (longest (groups_of a)).len ≤ 1 → canonical a ≡ joined_groups (groups_of a)
  unfolding canonical
  canonical_plain h = rw (lt-ltb (longest (groups_of a)).len 2 (omega arith))

  canonical_gapped : 2 ≤ (longest (groups_of a)).len →
      canonical a ≡ joined_groups (take (longest (groups_of a)).start (groups_of a)) ++ (58 ∷ 58 ∷ joined_groups (drop ((longest (groups_of a)).start + (longest (groups_of a)).len) (groups_of a)))
  unfolding canonical
  canonical_gapped h = rw (le-ltb (longest (groups_of a)).len 2 h) (append_assoc (joined_groups (take (longest (groups_of a)).start (groups_of a))) (58 ∷ 58 ∷ []) _)

longest_best : (gs : List ℕ) → 2 ≤ (longest gs).len → Best gs (longest gs).start (longest gs).len
longest_best gs h = record { two = h; most = λ j m q. longest_top gs j m q; first = λ j q. longest_first gs j q }

pub canonical_shape : (a : List ℕ) → Shape (groups_of a) (canonical a)
canonical_shape a = go (ltb (longest gs).len 2) refl
  where
    gs : List ℕ
    gs = groups_of a

    go : (t : Bool) → ltb (longest gs).len 2 ≡ t → Shape gs (canonical a)
    go true e =
        let n : (longest gs).len ≤ 1 = omega (arith, ltb-true (longest gs).len 2 e) in
        subst (Shape gs) (sym (canonical_plain a n)) (no_gap (λ j m q. omega (arith, longest_top gs j m q)))
    go false e =
        let n : 2 ≤ (longest gs).len = ltb-false (longest gs).len 2 e in
        let front : length (take (longest gs).start gs) ≡ (longest gs).start = length-take-le (longest gs).start gs (omega (arith, longest_most gs)) in
        subst (Shape gs) (sym (canonical_gapped a n)) (one_gap (take (longest gs).start gs) (drop ((longest gs).start + (longest gs).len) gs) (longest gs).len (longest_split gs) (rw front (longest_best gs n)))

-- zeros between two lists of groups are a run
zeros_between : (gs f b : List ℕ) (n : ℕ) → gs ≡ f ++ (replicate n 0 ++ b) → ZeroRun gs (length f) n
zeros_between gs f b n e =
    let rest : drop (length f) gs ≡ replicate n 0 ++ b = ap (drop (length f)) e ∙ drop-append_seam f (replicate n 0 ++ b) in
    record {
      within = omega (arith, ap length e, length-append f (replicate n 0 ++ b), length-append (replicate n 0) b, length-replicate {A = ℕ} n 0);
      zero = rw rest (take_at (replicate n 0) b n (length-replicate {A = ℕ} n 0));
    }

pub shape_canonical : (a : List ℕ) {t : List ℕ} → Shape (groups_of a) t → t ≡ canonical a
shape_canonical a (no_gap h) = sym (canonical_plain a (h (longest (groups_of a)).start (longest (groups_of a)).len (longest_run (groups_of a))))
shape_canonical a (one_gap f b n e best) =
    let is = longest_only (groups_of a) (length f) n (zeros_between (groups_of a) f b n e) best in
    let front : take (length f) (groups_of a) ≡ f = ap (take (length f)) e ∙ take-append_seam f (replicate n 0 ++ b) in
    let rest : drop (length f) (groups_of a) ≡ replicate n 0 ++ b = ap (drop (length f)) e ∙ drop-append_seam f (replicate n 0 ++ b) in
    let back : drop (length f + n) (groups_of a) ≡ b = sym (drop-drop n (length f) (groups_of a)) ∙ rw rest (drop_at (replicate n 0) b n (length-replicate {A = ℕ} n 0)) in
    sym (canonical_gapped a (rw is.1 best.two) ∙ rw (is.0, is.1, front, back))
