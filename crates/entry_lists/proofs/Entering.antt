-- Entries one by one: what the loop keeps, a turn, and its ends.
use mathlib.Core.Path.{◌≡◌, refl, ap, sym, ◌∙◌}
use mathlib.Core.Bool.{Bool, true, false, not}
use mathlib.Core.List.{List, [], ◌∷◌, ◌++◌, append_assoc}
use Rattle.std.specs.Prelude.{None, Some}
use Prim.Native.Nat.{ℕ, suc, ◌+◌, ◌-◌, ◌≤◌, ◌<◌}
use native.Mathlib.Omega.{arith}
use borrow.Author.Tests.{eqb-true, eqb-false, not-true, not-false}
use lib.Dec.{eqb}
use lib.ListN.{length, drop, set, replicate, length-append, length-drop}
use lib.Seq.{length-take-le, set_at, append_snoc}
use Rattle.text.specs.Bytes.{other, is_entry_byte}
use Rattle.text.specs.Parts.{all, part, pieces}
use Rattle.text.specs.Options.{is_some, mapped, only, sized, each}
use Rattle.text.specs.Laws.{inside, over, pieces_some}
use Rattle.text.specs.Relations.{Sized}
use Rattle.text.specs.OptionLaws.{some_is, none_is, only_some, sized_is, is_sized, unsized}
use Rattle.text.specs.Scans.{Stop}
use Rattle.text.proofs.ScanLaws.{all_run, stop_low, pieces_end, pieces_at}
use Rattle.put.proofs.Gathering.{each_read_append, sized_each}
use Rattle.entry_lists.specs.EntryLists.{entry, entries}
use Rattle.text.specs.declared.Place.{Place}
use Rattle.entry_lists.specs.Places.{places_from, no_place, entries_laid}

-- ---- the places of one entry more

-- the place behind the comma after the entries es, the first of which starts at a
abbrev behind_entries : ℕ → List (List ℕ) → ℕ
behind_entries a [] = a
behind_entries a (e ∷ es) = behind_entries (a + length e + 1) es

places_snoc : (a : ℕ) (es : List (List ℕ)) (p : List ℕ) → places_from a (es ++ (p ∷ [])) ≡ places_from a es ++ (record { start = behind_entries a es; end = behind_entries a es + length p } ∷ [])
places_snoc a [] p = refl
places_snoc a (e ∷ es) p = ap (λ (l : List Place). record { start = a; end = a + length e } ∷ l) (places_snoc (a + length e + 1) es p)

behind_snoc : (a : ℕ) (es : List (List ℕ)) (p : List ℕ) → behind_entries a (es ++ (p ∷ [])) ≡ behind_entries a es + length p + 1
behind_snoc a [] p = refl
behind_snoc a (e ∷ es) p = behind_snoc (a + length e + 1) es p

places_long : (a : ℕ) (es : List (List ℕ)) → length (places_from a es) ≡ length es
places_long a [] = refl
places_long a (e ∷ es) = ap suc (places_long (a + length e + 1) es)

-- ---- one entry

module _ (p : List ℕ) where
  entry_other : (Sized 1 253 p → ⊥) → false ≡ is_some (entry p)
  entry_other h = go (all is_entry_byte p)
    where
      go : (t : Bool) → false ≡ is_some (sized 1 253 (only t (Some p)))
      go true = rw (unsized 1 253 p h)
      go false = refl

  pub entry_short : length p < 1 → false ≡ is_some (entry p)
  entry_short h = entry_other (λ z. omega (arith, z, h))

  pub entry_long : 253 < length p → false ≡ is_some (entry p)
  entry_long h = entry_other (λ z. omega (arith, z, h))

  pub entry_bytes : 1 ≤ length p → length p ≤ 253 → {x : Bool} → x ≡ all is_entry_byte p → x ≡ is_some (entry p)
  entry_bytes h g e = e ∙ go (all is_entry_byte p)
    where
      go : (t : Bool) → t ≡ is_some (sized 1 253 (only t (Some p)))
      go true = rw (is_sized 1 253 (Some p) (record { least = h; most = g }) refl)
      go false = refl

pub ruleset entry_sizes = (entry_short, entry_long, entry_bytes, all_run)

entry_is : (p : List ℕ) {x : Bool} → x ≡ is_some (entry p) → not x ≡ false → entry p ≡ Some p
entry_is p {x} e k =
    let a = some_is (entry p) (sym e ∙ not-false x k) in
    let s = sized_is 1 253 (only (all is_entry_byte p) (Some p)) a.1 in
    a.1 ∙ sym (only_some (all is_entry_byte p) (Some p) s.1).1

entry_none : (p : List ℕ) {x : Bool} → x ≡ is_some (entry p) → not x ≡ true → entry p ≡ None
entry_none p {x} e k = none_is (entry p) (sym e ∙ not-true x k)

-- ---- the loop: the entries done are good, their places stand in x, and the rest of s starts at at

pub record Entering (b : ℕ) (s : List ℕ) (at n : ℕ) (x : List Place) : Type 0 where
  pub within : at ≤ length s
  pub done : List (List ℕ)
  pub rest : pieces 44 s ≡ done ++ pieces 44 (drop at s)
  pub good : each entry done ≡ Some done
  pub long : length done ≡ n
  pub place : b + at ≡ behind_entries b done
  pub array : x ≡ places_from b done ++ replicate (4 - n) no_place

pub entering_first : (b : ℕ) (s : List ℕ) → Entering b s 0 0 (replicate 4 no_place)
entering_first b s = record { within = omega arith; done = []; rest = refl; good = refl; long = refl; place = omega arith; array = refl }

module _ {b : ℕ} {s : List ℕ} {at n : ℕ} {x : List Place} (h : Entering b s at n x) where
  pub entering_full : 4 ≤ n → None ≡ mapped (entries_laid b) (entries s)
  unfolding entries
  entering_full k =
      let l : 4 < length (pieces 44 s) = rw h.rest (simp length-append (omega (arith, h.long, pieces_some 44 (drop at s)))) in
      let v : entries s ≡ None = sized_each 1 4 entry (pieces 44 s) ∙ rw (over {x = length (pieces 44 s)} 1 4 l) in
      rw v

  module _ {e : ℕ} (t : Stop (other 44) s at e) {y : Bool} (p : y ≡ is_some (entry (part at e s))) where
    -- the first piece, whether another follows it or not
    here : (rs : List (List ℕ)) × (pieces 44 (drop at s) ≡ part at e s ∷ rs)
    here = go (eqb e (length s)) refl
      where
        go : (b : Bool) → eqb e (length s) ≡ b → (rs : List (List ℕ)) × (pieces 44 (drop at s) ≡ part at e s ∷ rs)
        go true q = ([], pieces_end 44 t (eqb-true e (length s) q))
        go false q = (pieces 44 (drop (e + 1) s), pieces_at 44 t (eqb-false e (length s) q))

    pub entering_broken : not y ≡ true → None ≡ mapped (entries_laid b) (entries s)
    unfolding entries
    entering_broken k = rw (h.rest, each_read_append entry h.done (pieces 44 (drop at s)), h.good, here.1, entry_none (part at e s) p k)

    module _ (k : not y ≡ false) (l : n < 4) where
      done_more : List (List ℕ)
      done_more = h.done ++ (part at e s ∷ [])

      size : b + at + length (part at e s) ≡ b + e
      size = let m : length (part at e s) ≡ e - at = length-take-le (e - at) (drop at s) (simp length-drop (omega (arith, t.within))) in omega (arith, m, stop_low t)

      good_more : each entry done_more ≡ Some done_more
      unfolding done_more
      good_more = each_read_append entry h.done (part at e s ∷ []) ∙ rw (h.good, entry_is (part at e s) p k)

      array_more : set x n (record { start = b + at; end = b + e }) ≡ places_from b done_more ++ replicate (4 - (n + 1)) no_place
      unfolding done_more
      array_more =
          let m : 4 - n ≡ suc (4 - (n + 1)) = omega arith in
          let z : List Place = places_from b h.done in
          let u : Place = record { start = b + at; end = b + e } in
          let y : x ≡ z ++ no_place ∷ replicate (4 - (n + 1)) no_place = h.array ∙ rw m in
          ap (λ (v : List Place). set v n u) y
          ∙ set_at z no_place (replicate (4 - (n + 1)) no_place) u n (places_long b h.done ∙ h.long)
          ∙ sym (append_snoc z u (replicate (4 - (n + 1)) no_place))
          ∙ ap (λ (v : List Place). v ++ replicate (4 - (n + 1)) no_place) (sym (places_snoc b h.done (part at e s) ∙ rw (← h.place, size)))

      long_more : length done_more ≡ n + 1
      unfolding done_more
      long_more = simp length-append (omega (arith, h.long))

      pub entering_end : e ≡ length s → Some (record { count = n + 1; places = set x n (record { start = b + at; end = b + e }) }) ≡ mapped (entries_laid b) (entries s)
      unfolding entries done_more
      entering_end q =
          let w : pieces 44 s ≡ done_more = h.rest ∙ ap (λ (r : List (List ℕ)). h.done ++ r) (pieces_end 44 t q) in
          let v : sized 1 4 (each entry (pieces 44 s)) ≡ Some done_more = rw (w, good_more, long_more, inside {x = n + 1} 1 4 (omega arith) (omega arith)) in
          rw (v, long_more, array_more)

      pub entering_turn : (e ≡ length s → ⊥) → Entering b s (e + 1) (n + 1) (set x n (record { start = b + at; end = b + e }))
      unfolding done_more
      entering_turn q =
          record {
            within = omega (arith, t.within, q);
            done = done_more;
            rest = h.rest ∙ ap (λ (r : List (List ℕ)). h.done ++ r) (pieces_at 44 t q) ∙ sym (append_assoc h.done (part at e s ∷ []) (pieces 44 (drop (e + 1) s)));
            good = good_more;
            long = long_more;
            place = sym (behind_snoc b h.done (part at e s) ∙ rw (← h.place, size) (omega arith));
            array = array_more;
          }
