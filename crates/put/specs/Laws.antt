-- Two writers, one behind the other, are one writer of both texts.
use Rattle.std.specs.Prelude.{◌≡◌, refl, List, [], ◌∷◌, ◌++◌, ℕ, suc, ◌+◌, ◌-◌, ◌≤◌, ◌<◌, length, take, drop, set}
use Rattle.std.proofs.Common.{sym, ap, ◌∙◌, append_assoc, append-nil, arith, add-zero, zero-add, add-one, length-append, length-drop, length-set, take-append-drop, drop_of_length-le, take_all, take_at, drop_at, drop-drop, length-take-le}
use borrow.Rule.Slice.PartMut.{put_mid, mid_of}
use Rattle.std.proofs.lemmas.List.{set_split}
use Rattle.std.proofs.Math.Seq.{append_snoc}
use Rattle.put.specs.Put.{Wrote}

pub then : {t u o x y : List ℕ} {a b c : ℕ} → Wrote t a o x b → Wrote u b x y c → Wrote (t ++ u) a o y c
then {t} {u} {o} {x} {y} {a} {b} {c} f g =
    let p : List ℕ = take a o ++ t in
    let h : length p ≡ b = simp (length-append, length-take-le a o (omega arith)) (omega arith) in
    let front : take b x ≡ p = ap (take b) f.text ∙ take_at p (drop (a + length t) o) b h in
    let back : drop b x ≡ drop b o = ap (drop b) f.text ∙ drop_at p (drop (a + length t) o) b h ∙ ap (λ (k : ℕ). drop k o) (sym f.next) in
    let rest : drop (b + length u) x ≡ drop (b + length u) o = sym (drop-drop (length u) b x) ∙ ap (drop (length u)) back ∙ drop-drop (length u) b o in
    let e : b + length u ≡ a + length (t ++ u) = simp length-append (omega arith) in
    record {
      next = g.next ∙ e;
      room = omega arith;
      long = g.long ∙ f.long;
      text = g.text ∙ rw (front, rest, e) (simp append_assoc);
    }

-- where two texts have room the first has, and then the second behind it
pub room_first : (t u : List ℕ) (a : ℕ) {n : ℕ} → a + length (t ++ u) ≤ n → a + length t ≤ n
room_first t u a h = omega (arith, h, length-append t u)

pub room_then : {t o x : List ℕ} {a b : ℕ} → Wrote t a o x b → (u : List ℕ) → a + length (t ++ u) ≤ length o →
    b + length u ≤ length x
room_then {t} w u h = omega (arith, h, length-append t u, w.next, w.long)

-- what a writer leaves that began at the front
pub wrote_front : {t o x : List ℕ} {r : ℕ} → Wrote t 0 o x r → x ≡ t ++ drop (length t) o
wrote_front {t} {o} w = w.text ∙ ap (λ (k : ℕ). t ++ drop k o) (zero-add (length t))

-- a writer at the front, and a second one that was lent the rest, are one writer of both texts
pub then_rest : {t u o x y : List ℕ} {a r : ℕ} → Wrote t 0 o x a → Wrote u 0 (mid_of a (length x - a) x) y r →
    Wrote (t ++ u) 0 o (put_mid a (length x - a) x y) (a + r)
then_rest {t} {u} {o} {x} {y} {a} {r} f g =
    let n : length (drop a x) ≤ length x - a = simp length-drop (omega arith) in
    let e : a ≡ length t = omega (arith, f.next) in
    let front : take a x ≡ t = ap (take a) (wrote_front f) ∙ take_at t (drop (length t) o) a (sym e) in
    let back : drop a x ≡ drop (length t) o = ap (drop a) (wrote_front f) ∙ drop_at t (drop (length t) o) a (sym e) in
    let all : mid_of a (length x - a) x ≡ drop (length t) o = take_all (length x - a) (drop a x) n ∙ back in
    let whole : put_mid a (length x - a) x y ≡ (t ++ u) ++ drop (length (t ++ u)) o =
    rw (drop_of_length-le (drop a x) n, front, wrote_front g, all) (simp (append-nil, length-append, drop-drop, append_assoc)) in
    let room : a + r ≤ length o = omega (arith, f.room, g.room, f.long, ap length all, length-drop (length t) o) in
    let next : a + r ≡ length (t ++ u) = omega (arith, e, g.next, length-append t u) in
    record {
      next = omega (arith, next);
      room = room;
      long = ap length whole ∙ length-append (t ++ u) (drop (length (t ++ u)) o) ∙ omega (arith, length-drop (length (t ++ u)) o, next, room);
      text = whole ∙ sym (ap (λ (k : ℕ). (t ++ u) ++ drop k o) (zero-add (length (t ++ u))));
    }

-- nothing written, and one byte
pub wrote_none : (o : List ℕ) (a : ℕ) → a ≤ length o → Wrote [] a o o a
wrote_none o a h = record { next = sym (add-zero a); room = h; long = refl; text = sym (ap (λ (l : List ℕ). l ++ drop (a + 0) o) (append-nil (take a o)) ∙ ap (λ (k : ℕ). take a o ++ drop k o) (add-zero a) ∙ take-append-drop a o) }

pub wrote_byte : (o : List ℕ) (a x : ℕ) → a < length o → Wrote (x ∷ []) a o (set o a x) (a + 1)
wrote_byte o a x h = record { next = refl; room = omega arith; long = length-set o a x; text = set_split o a x h ∙ sym (append_snoc (take a o) x (drop (suc a) o)) ∙ ap (λ (k : ℕ). take a o ++ (x ∷ []) ++ drop k o) (sym (add-one a)) }

pub wrote_two : (o : List ℕ) (a x y : ℕ) → a + 2 ≤ length o → Wrote (x ∷ y ∷ []) a o (set (set o a x) (a + 1) y) (a + 2)
wrote_two o a x y h =
    let e : a + 1 + 1 ≡ a + 2 = omega arith in
    rw e at (then (wrote_byte o a x (omega arith)) (wrote_byte (set o a x) (a + 1) y (rw (length-set o a x) (omega arith))))

pub wrote_three : (o : List ℕ) (a x y z : ℕ) → a + 3 ≤ length o →
    Wrote (x ∷ y ∷ z ∷ []) a o (set (set (set o a x) (a + 1) y) (a + 2) z) (a + 3)
wrote_three o a x y z h =
    let e : a + 2 + 1 ≡ a + 3 = omega arith in
    rw e at (then (wrote_two o a x y (omega arith)) (wrote_byte (set (set o a x) (a + 1) y) (a + 2) z (rw (length-set (set o a x) (a + 1) y, length-set o a x) (omega arith))))
