-- A network's file name gives that network, a file name that gives a network is that network's only one, and none is longer than `name_max`.
use Rattle.std.specs.Prelude.{◌≡◌, refl, Bool, true, false, cond, not, List, [], ◌∷◌, ◌++◌, ℕ, ◌≤◌, eqb, ltb, length, None, Some}
use Rattle.std.proofs.Common.{ap₂, sym, ◌∙◌, subst, arith, eqb-true, ne_eqb, ltb-false, length-append, take-append-drop}
use Rattle.std.proofs.lemmas.Option.{same_Some, none-some}
use Rattle.std.proofs.lemmas.Bool.{not-true}
use Rattle.text.specs.Bytes.{is_byte, between, other, is_plain, is_lower_hex}
use Rattle.text.specs.Parts.{all, lead, front, after}
use Rattle.text.specs.Words.{same, named}
use Rattle.text.specs.Options.{and_then, only}
use Rattle.text.specs.Laws.{inside, over, between_low, between_high, pass_other, all_cons, all_weaken, all_other, front_append, after_append, same_eq}
use Rattle.hex_digits.specs.Hex.{unhex, hex}
use Rattle.hex_digits.specs.Laws.{unhex_hex, hex_unhex, hex_lower, hex_length, unhex_bytes}
use Rattle.names.specs.declared.Suffix.{Suffix}
use Rattle.names.specs.declared.Suffix.TheVariants.{Open, Psk}
use Rattle.names.specs.Names.{NetworkName, stem, unplain, hex_name, name_of, suffix_of, suffixes, Network, network, network_of, file_name, name_max}
use Rattle.text.specs.OptionLaws.{only_some, then_some, sized_some}

-- ---- plain bytes

not_plain : (is_plain 61 ≡ false) × (is_plain 46 ≡ false)
unfolding is_plain
not_plain = (refl, refl)

plain_byte : (c : ℕ) → is_plain c ≡ true → is_byte c ≡ true
unfolding is_plain
plain_byte c h = go (ltb c 256) refl
  where
    go : (t : Bool) → ltb c 256 ≡ t → t ≡ true
    go true e = refl
    go false e =
        let k : 256 ≤ c = ltb-false c 256 e in
        rw (ne_eqb c 32 (λ q. omega (arith, q)), over {x = c} 97 122 (omega arith), over {x = c} 65 90 (omega arith), over {x = c} 48 57 (omega arith), ne_eqb c 95 (λ q. omega (arith, q)), ne_eqb c 45 (λ q. omega (arith, q))) at h

-- ---- a stem and its name

plain_stem : (n : List ℕ) → all is_plain n ≡ true → NetworkName n → name_of n ≡ Some n
unfolding name_of
plain_stem [] h w = absurd (omega (arith, w.low))
plain_stem (c ∷ s) h w =
    rw (pass_other is_plain 61 not_plain.0 c (all_cons is_plain c s h).0, h, inside {x = length (c ∷ s)} 1 32 w.low w.high)

hex_stem : (n : List ℕ) → all is_plain n ≡ false → NetworkName n → name_of (61 ∷ hex n) ≡ Some n
unfolding name_of
hex_stem n h w = rw (hex_lower n w.bytes, unhex_hex n w.bytes, h, inside {x = length n} 1 32 w.low w.high)

pub name_stem : (n : List ℕ) → NetworkName n → name_of (stem n) ≡ Some n
unfolding stem
name_stem n w = go (all is_plain n) refl
  where
    go : (t : Bool) → all is_plain n ≡ t → name_of (cond t n (61 ∷ hex n)) ≡ Some n
    go true e = plain_stem n e w
    go false e = hex_stem n e w

-- the other way: what a stem that is read says of the name
record Stem (s n : List ℕ) : Type 0 where
  is : stem n ≡ s
  bytes : all is_byte n ≡ true

read_plain : (s n : List ℕ) → only (all is_plain s) (Some s) ≡ Some n → Stem s n
unfolding stem
read_plain s n e =
    let p = only_some (all is_plain s) (Some s) e in
    rw (← same_Some s n p.1) (record { is = rw p.0; bytes = all_weaken is_plain is_byte plain_byte s p.0 })

read_hex : (h n : List ℕ) → hex_name h ≡ Some n → Stem (61 ∷ h) n
unfolding stem
read_hex h n e =
    let l = only_some (all is_lower_hex h) (and_then (unhex h) unplain) e in
    let u = then_some (unhex h) unplain l.1 in
    let p = only_some (not (all is_plain u.0)) (Some u.0) u.2 in
    let r : unhex h ≡ Some n = u.1 ∙ p.1 in
    let q : all is_plain n ≡ false = rw (← same_Some u.0 n p.1) (not-true (all is_plain u.0) p.0) in
    record { is = rw (q, hex_unhex h l.0 r); bytes = unhex_bytes h r }

stem_read : (s n : List ℕ) → name_of s ≡ Some n → (between 1 32 (length n) ≡ true) × Stem s n
unfolding name_of
stem_read [] n e = absurd (none-some n e)
stem_read (c ∷ s) n e =
    let z = sized_some 1 32 (cond (eqb c 61) (hex_name s) (only (all is_plain (c ∷ s)) (Some (c ∷ s)))) e in
    (z.0, go (eqb c 61) refl z.1)
  where
    go : (t : Bool) → eqb c 61 ≡ t → cond t (hex_name s) (only (all is_plain (c ∷ s)) (Some (c ∷ s))) ≡ Some n →
        Stem (c ∷ s) n
    go true q r = subst (λ (x : ℕ). Stem (x ∷ s) n) (sym (eqb-true c 61 q)) (read_hex s n r)
    go false q r = read_plain (c ∷ s) n r

pub stem_name : (s : List ℕ) {n : List ℕ} → name_of s ≡ Some n → stem n ≡ s
stem_name s {n} e = (stem_read s n e).1.is

pub name_bytes_lem : (s : List ℕ) {n : List ℕ} → name_of s ≡ Some n → NetworkName n
name_bytes_lem s {n} e =
    let r = stem_read s n e in
    record { low = between_low {x = length n} 1 32 r.0; high = between_high {x = length n} 1 32 r.0; bytes = r.1.bytes }

-- ---- a file name and its network

stem_dotless : (n : List ℕ) → all is_byte n ≡ true → all (other 46) (stem n) ≡ true
unfolding stem
stem_dotless n b = go (all is_plain n) refl
  where
    go : (t : Bool) → all is_plain n ≡ t → all (other 46) (cond t n (61 ∷ hex n)) ≡ true
    go true e = all_other is_plain 46 not_plain.1 n e
    go false e = all_other is_lower_hex 46 refl (hex n) (hex_lower n b)

network_dotted : (n r : List ℕ) (k : Suffix) → NetworkName n → named (46 ∷ r) suffixes ≡ Some k →
    network_of (stem n ++ 46 ∷ r) ≡ network k n
unfolding network_of
network_dotted n r k w e =
    let d = stem_dotless n w.bytes in
    rw (after_append (other 46) (stem n) 46 r d refl, front_append (other 46) (stem n) 46 r d refl, e, name_stem n w)

pub network_file_name : (n : List ℕ) (k : Suffix) → NetworkName n →
    network_of (file_name n k) ≡ Some (record { name = n; suffix = k })
network_file_name n Open w = network_dotted n _ Open w refl
network_file_name n Psk w = network_dotted n _ Psk w refl

suffix_named : (w : List ℕ) (k : Suffix) → named w suffixes ≡ Some k → suffix_of k ≡ w
suffix_named w k e = go (same w (suffix_of Open)) refl (same w (suffix_of Psk)) refl e
  where
    go : (a : Bool) → same w (suffix_of Open) ≡ a → (b : Bool) → same w (suffix_of Psk) ≡ b →
        cond a (Some Open) (cond b (Some Psk) None) ≡ Some k → suffix_of k ≡ w
    go true p b q r = rw (← same_Some Open k r, same_eq w (suffix_of Open) p)
    go false p true q r = rw (← same_Some Psk k r, same_eq w (suffix_of Psk) q)
    go false p false q r = absurd (none-some k r)

record File (f : List ℕ) (x : Network) : Type 0 where
  stemmed : name_of (front (other 46) f) ≡ Some x.name
  suffixed : named (after (other 46) f) suffixes ≡ Some x.suffix

file_read : (f : List ℕ) (x : Network) → network_of f ≡ Some x → File f x
unfolding network_of
file_read f x e =
    let k = then_some (named (after (other 46) f) suffixes) (λ k. and_then (name_of (front (other 46) f)) (network k)) e in
    let n = then_some (name_of (front (other 46) f)) (network k.0) k.2 in
    rw (← same_Some (record { name = n.0; suffix = k.0 }) x n.2) (record { stemmed = n.1; suffixed = k.1 })

pub file_name_network : (f : List ℕ) {x : Network} → network_of f ≡ Some x → file_name x.name x.suffix ≡ f
file_name_network f {x} e =
    let r = file_read f x e in
    ap₂ ◌++◌ (stem_name (front (other 46) f) r.stemmed) (suffix_named (after (other 46) f) x.suffix r.suffixed)
    ∙ take-append-drop (lead (other 46) f) f

pub one_file_name : (f g : List ℕ) {x : Network} → network_of f ≡ Some x → network_of g ≡ Some x → f ≡ g
one_file_name f g p q = sym (file_name_network f p) ∙ file_name_network g q

pub network_bytes : (f : List ℕ) {x : Network} → network_of f ≡ Some x → NetworkName x.name
network_bytes f {x} e = name_bytes_lem (front (other 46) f) (file_read f x e).stemmed

-- ---- how long a file name is

pub suffix_short : (k : Suffix) → length (suffix_of k) ≤ 5
suffix_short Open = omega arith
suffix_short Psk = omega arith

stem_short : (n : List ℕ) → length n ≤ 32 → length (stem n) ≤ 65
unfolding stem
stem_short n h = go (all is_plain n)
  where
    go : (b : Bool) → length (cond b n (61 ∷ hex n)) ≤ 65
    go true = omega (arith, h)
    go false = omega (arith, h, hex_length n)

pub file_name_short : (n : List ℕ) (k : Suffix) → length n ≤ 32 → length (file_name n k) ≤ name_max
file_name_short n k h = omega (arith, length-append (stem n) (suffix_of k), stem_short n h, suffix_short k)
