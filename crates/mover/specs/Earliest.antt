-- What `earliest` and `unplaced` say: the earliest line is one of them and none is before it, and a service without such lines has nothing on the list.
use Rattle.std.specs.Prelude.{ℕ, ◌≤◌, ◌≡◌, refl, Bool, true, false, cond, not, List, [], ◌∷◌, ◌++◌, leb, Option, None, Some}
use Rattle.std.proofs.Common.{arith, leb-true, leb-false, ap, sym, ◌∙◌, subst}
use Rattle.std.proofs.lemmas.Option.{none-some, same_Some}
use Rattle.text.specs.Words.{word}
use Rattle.rules.specs.Sections.{Entry}
use Rattle.written.specs.Written.{ipv4_placed, ipv6_placed}
use Rattle.joins.specs.Joins.{wired, foreign, service_join}
use Rattle.mover.specs.Moves.{line_if, line_given, unplaced, least, earliest}

-- ---- the earliest of some lines

-- a line among others
pub record Among (l : ℕ) (ls : List ℕ) : Type 0 where
  pub before : List ℕ
  pub behind : List ℕ
  pub is : ls ≡ before ++ l ∷ behind

-- l is one of them, and none is before it
pub record Earliest (ls : List ℕ) (l : ℕ) : Type 0 where
  pub among : Among l ls
  pub first : (m : ℕ) → Among m ls → l ≤ m

-- there is none exactly where there are no lines
pub earliest_none : (ls : List ℕ) → earliest ls ≡ None → ls ≡ []
earliest_none [] e = refl
earliest_none (l ∷ ls) e = absurd (none-some (least l (earliest ls)) (sym e))

pub none_earliest : (ls : List ℕ) → ls ≡ [] → earliest ls ≡ None
none_earliest ls e = ap earliest e

-- a line in front, and there are lines
some_line : {A : Type 0} {l : ℕ} {ls : List ℕ} → l ∷ ls ≡ [] → A
some_line e = let z : ◌≡◌ {A = ℕ} 0 1 = cc in absurd (omega arith)

not_among : {A : Type 0} {m : ℕ} {ls : List ℕ} → ls ≡ [] → Among m ls → A
not_among {A} {m} {ls} e a = go a.before (sym e ∙ a.is)
  where
    go : (b : List ℕ) → [] ≡ b ++ m ∷ a.behind → A
    go [] q = some_line (sym q)
    go (x ∷ b) q = some_line (sym q)

-- what holds of the first and of each other line holds of each
among_each : (P : ℕ → Type 0) (l : ℕ) (ls : List ℕ) → P l → ((m : ℕ) → Among m ls → P m) → (m : ℕ) →
    Among m (l ∷ ls) → P m
among_each P l ls p f m a = go a.before a.is
  where
    go : (b : List ℕ) → l ∷ ls ≡ b ++ m ∷ a.behind → P m
    go [] q = let e : l ≡ m = cc in subst P e p
    go (x ∷ b) q = f m (record { before = b; behind = a.behind; is = cc })

pub earliest_is : (ls : List ℕ) {l : ℕ} → earliest ls ≡ Some l → Earliest ls l
earliest_is [] {l} e = absurd (none-some l e)
earliest_is (x ∷ xs) {l} e =
    go (earliest xs) refl (λ (m : ℕ) q. earliest_is xs {l = m} q) (same_Some (least x (earliest xs)) l e)
  where
    here : (y : ℕ) → y ≡ l → ((m : ℕ) → Among m xs → y ≤ m) → y ≡ x → Earliest (x ∷ xs) l
    here y q f p =
        record { among = record { before = []; behind = xs; is = ap (λ (z : ℕ). z ∷ xs) (sym p ∙ q) }; first = among_each (λ m. l ≤ m) x xs (omega (arith, q, p)) (λ m a. omega (arith, f m a, q)) }

    there : (y : ℕ) → y ≡ l → Earliest xs y → y ≤ x → Earliest (x ∷ xs) l
    there y q i h =
        record {
          among = record { before = x ∷ i.among.before; behind = i.among.behind; is = ap (λ (z : List ℕ). x ∷ z) i.among.is ∙ ap (λ (z : ℕ). x ∷ (i.among.before ++ z ∷ i.among.behind)) q };
          first = among_each (λ m. l ≤ m) x xs (omega (arith, q, h)) (λ m a. omega (arith, i.first m a, q));
        }

    go : (o : Option ℕ) → earliest xs ≡ o → ((m : ℕ) → earliest xs ≡ Some m → Earliest xs m) → least x o ≡ l →
        Earliest (x ∷ xs) l
    go None q f e = here x e (λ m a. not_among (earliest_none xs q) a) refl
    go (Some y) q f e = pick (leb x y) refl e
      where
        pick : (b : Bool) → leb x y ≡ b → cond b x y ≡ l → Earliest (x ∷ xs) l
        pick true h e = here x e (λ m a. omega (arith, (f y q).first m a, leb-true x y h)) refl
        pick false h e = there y e (f y q) (omega (arith, leb-false x y h))

-- ---- a service that holds nothing on the list

pub record AllPlaced (at : List ℕ → Option Entry) : Type 0 where
  pub wifi : wired at ≡ false
  pub security : foreign at ≡ false
  pub ipv4 : ipv4_placed (service_join at).ipv4 ≡ true
  pub ipv6 : ipv6_placed (service_join at).ipv6 ≡ true
  pub mac : at (word "MAC") ≡ None
  pub privacy : at (word "IPv6.Privacy") ≡ None
  pub domains : at (word "SearchDomains") ≡ None
  pub clocks : at (word "Timeservers") ≡ None

not-false : (b : Bool) → not b ≡ false → b ≡ true
not-false true e = refl
not-false false e = sym e

no_lines : (a b c f : Bool) (t s i v m p d k : Option Entry) →
    line_if a t ++ line_if b s ++ line_if c i ++ line_if f v ++ line_given m ++ line_given p ++ line_given d ++ line_given k ≡ [] →
    (a ≡ false) × (b ≡ false) × (c ≡ false) × (f ≡ false) × (m ≡ None) × (p ≡ None) × (d ≡ None) × (k ≡ None)
no_lines true b c f t s i v m p d k e = some_line e
no_lines false true c f t s i v m p d k e = some_line e
no_lines false false true f t s i v m p d k e = some_line e
no_lines false false false true t s i v m p d k e = some_line e
no_lines false false false false t s i v (Some x) p d k e = some_line e
no_lines false false false false t s i v None (Some x) d k e = some_line e
no_lines false false false false t s i v None None (Some x) k e = some_line e
no_lines false false false false t s i v None None None (Some x) e = some_line e
no_lines false false false false t s i v None None None None e = (refl, refl, refl, refl, refl, refl, refl, refl)

pub unplaced_none : (at : List ℕ → Option Entry) → unplaced at ≡ [] → AllPlaced at
unplaced_none at e =
    let n = ipv4_placed (service_join at).ipv4 in
    let v = ipv6_placed (service_join at).ipv6 in
    let h = no_lines (wired at) (foreign at) (not n) (not v) (at (word "Type")) (at (word "Security")) (at (word "IPv4")) (at (word "IPv6")) (at (word "MAC")) (at (word "IPv6.Privacy")) (at (word "SearchDomains")) (at (word "Timeservers")) e in
    record { wifi = h.0; security = h.1; ipv4 = not-false n h.2; ipv6 = not-false v h.3; mac = h.4; privacy = h.5; domains = h.6; clocks = h.7 }
