-- The parts of a join record and their places in a struct: laid out, each is formed; formed, each is the layout of a good one.
use Rattle.std.specs.Prelude.{◌≡◌, refl, Bool, true, false, not, ◌&&◌, List, [], ◌∷◌, ◌++◌, ℕ, zero, suc, ◌-◌, ◌≤◌, eqb, length, take, drop, replicate, None, Some}
use Rattle.std.proofs.Common.{ap, ap₂, sym, ◌∙◌, arith, eqb-true, length-append, length-drop, take-append-drop, length-take-le}
use Rattle.std.proofs.lemmas.Bool.{not-true}
use Rattle.std.proofs.lemmas.List.{length-replicate}
use Rattle.std.proofs.Math.Seq.{take-append_seam, drop-append_seam}
use Rattle.text.specs.Bytes.{is_byte, between}
use Rattle.text.specs.Parts.{all, padded}
use Rattle.text.specs.Laws.{and_true, all_cons, inside, between_low, between_high}
use Rattle.addresses.specs.Addresses.{is_bytes, are_addresses, no_address, rows}
use Rattle.addresses.specs.Laws.{bytes_length, are_bytes, are_cons}
use Rattle.addressing.specs.Addressing.{Addressing, auto, off, static, method_of, address_of, length_of, has_gateway_of, gateway_of, addressing_in, Good}
use Rattle.addressing.specs.declared.Method.{Method}
use Rattle.addressing.specs.declared.Method.TheVariants.{Auto, Off, Static}
use Rattle.records.specs.Record.{Secret, no_secret, passphrase, key, credential_of, passphrase_of, key_of, secret_of}
use Rattle.records.specs.Formed.{passphrase_text, GoodKey, GoodSecret, GoodServers, zeros, zero_rows, held, passphrase_formed, credential_formed, unaddressed, addressing_formed, servers_formed}
use Rattle.records.specs.declared.Credential.{Credential}
use Rattle.records.specs.declared.Credential.TheVariants.{Passphrase, Key}

-- ---- zeros

pub all_zeros : (p : ℕ → Bool) → p 0 ≡ true → (n : ℕ) → all p (replicate n 0) ≡ true
all_zeros p h zero = refl
all_zeros p h (suc n) = rw h (all_zeros p h n)

zeros_replicate : (n : ℕ) → zeros (replicate n 0) ≡ true
zeros_replicate n = all_zeros (between 0 0) refl n

zeros_eq : (a : List ℕ) → zeros a ≡ true → a ≡ replicate (length a) 0
zeros_eq [] e = refl
zeros_eq (x ∷ a) e =
    let h = all_cons (between 0 0) x a e in
    let z : x ≡ 0 = omega (arith, between_high {x = x} 0 0 h.0) in
    ap₂ ◌∷◌ z (zeros_eq a h.1)

zero_address : (width : ℕ) (a : List ℕ) → is_bytes width a ≡ true → zeros a ≡ true → replicate width 0 ≡ a
zero_address width a h e = sym (zeros_eq a e ∙ ap (λ (n : ℕ). replicate n 0) (bytes_length width a h))

zero_rows_lem : (n : ℕ) → zero_rows (replicate n no_address) ≡ true
zero_rows_lem zero = refl
zero_rows_lem (suc n) = zero_rows_lem n

rows_eq : (l : List (List ℕ)) → are_addresses l ≡ true → zero_rows l ≡ true → l ≡ replicate (length l) no_address
rows_eq [] h e = refl
rows_eq (a ∷ l) h e =
    let b = are_cons a l h in
    let z = and_true (zeros a) (zero_rows l) e in
    ap₂ ◌∷◌ (sym (zero_address 4 a b.0 z.0)) (rows_eq l b.1 z.1)

-- ---- parts of lists

pub all_take : (p : ℕ → Bool) (n : ℕ) (l : List ℕ) → all p l ≡ true → all p (take n l) ≡ true
all_take p zero l h = refl
all_take p (suc n) [] h = refl
all_take p (suc n) (x ∷ l) h = rw (all_cons p x l h).0 (all_take p n l (all_cons p x l h).1)

are_take : (n : ℕ) (l : List (List ℕ)) → are_addresses l ≡ true → are_addresses (take n l) ≡ true
are_take zero l h = refl
are_take (suc n) [] h = refl
are_take (suc n) (a ∷ l) h = rw (are_cons a l h).0 (are_take n l (are_cons a l h).1)

are_drop : (n : ℕ) (l : List (List ℕ)) → are_addresses l ≡ true → are_addresses (drop n l) ≡ true
are_drop zero l h = h
are_drop (suc n) [] h = refl
are_drop (suc n) (a ∷ l) h = are_drop n l (are_cons a l h).1

-- ---- a text in an array, and back

pub held_padded : (low high m : ℕ) (t : List ℕ) → low ≤ length t → length t ≤ high →
    held low high (length t) (padded m t) ≡ true
held_padded low high m t h k = rw (inside {x = length t} low high h k, drop-append_seam t (replicate (m - length t) 0)) (zeros_replicate (m - length t))

pub text_padded : (m : ℕ) (t : List ℕ) → take (length t) (padded m t) ≡ t
text_padded m t = take-append_seam t (replicate (m - length t) 0)

module _ (low high m n : ℕ) (a : List ℕ) (l : length a ≡ m) (fits : high ≤ m) (h : held low high n a ≡ true) where
  both : (between low high n ≡ true) × (zeros (drop n a) ≡ true)
  both = and_true (between low high n) (zeros (drop n a)) h

  pub held_low : low ≤ n
  held_low = between_low {x = n} low high both.0

  pub held_high : n ≤ high
  held_high = between_high {x = n} low high both.0

  pub held_long : length (take n a) ≡ n
  held_long = length-take-le n a (omega (arith, held_high))

  pub held_back : padded m (take n a) ≡ a
  held_back =
      let k : m - length (take n a) ≡ length (drop n a) = simp length-drop (omega (arith, held_long)) in
      ap (λ (j : ℕ). take n a ++ replicate j 0) k ∙ ap (λ (z : List ℕ). take n a ++ z) (sym (zeros_eq (drop n a) both.1)) ∙ take-append-drop n a

-- ---- the credential

pub secret_formed : (x : Secret) → GoodSecret x →
    credential_formed (credential_of x) (length (passphrase_of x)) (padded 63 (passphrase_of x)) (key_of x) ≡ true
secret_formed no_secret g = refl
secret_formed (key k) g = refl
secret_formed (passphrase p) g =
    rw (held_padded 8 63 63 p g.low g.high, text_padded 63 p, g.text) (zeros_replicate 32)

pub secret_joined : (x : Secret) →
    secret_of (credential_of x) (take (length (passphrase_of x)) (padded 63 (passphrase_of x))) (key_of x) ≡ x
secret_joined no_secret = refl
secret_joined (passphrase p) = ap passphrase (text_padded 63 p)
secret_joined (key k) = refl

-- what the places of a formed credential hold, laid out again
pub record SecretBack (c : Credential) (n : ℕ) (p k : List ℕ) : Type 0 where
  pub kind : credential_of (secret_of c (take n p) k) ≡ c
  pub long : length (passphrase_of (secret_of c (take n p) k)) ≡ n
  pub text : padded 63 (passphrase_of (secret_of c (take n p) k)) ≡ p
  pub bytes : key_of (secret_of c (take n p) k) ≡ k
  pub good : GoodSecret (secret_of c (take n p) k)

module _ (n : ℕ) (p k : List ℕ) (lp : length p ≡ 63) (lk : length k ≡ 32) where
  unused : held 0 0 n p ≡ true → (0 ≡ n) × (padded 63 [] ≡ p)
  unused h =
      let z : n ≡ 0 = omega (arith, held_high 0 0 63 n p lp (omega arith) h) in
      (sym z, sym (ap (λ (m : ℕ). padded 63 (take m p)) z) ∙ held_back 0 0 63 n p lp (omega arith) h)

  zero_key : zeros k ≡ true → replicate 32 0 ≡ k
  zero_key e = sym (zeros_eq k e ∙ ap (λ (m : ℕ). replicate m 0) lk)

  pub secret_back : (c : Credential) → all is_byte k ≡ true → credential_formed c n p k ≡ true → SecretBack c n p k
  secret_back Credential.None b h =
      let s = and_true (held 0 0 n p) (zeros k) h in
      record { kind = refl; long = (unused s.0).0; text = (unused s.0).1; bytes = zero_key s.1; good = tt }
  secret_back Passphrase b h =
      let s = and_true (passphrase_formed n p) (zeros k) h in
      let t = and_true (held 8 63 n p) (passphrase_text (take n p)) s.0 in
      let l : length (take n p) ≡ n = held_long 8 63 63 n p lp (omega arith) t.0 in
      record {
        kind = refl;
        long = l;
        text = held_back 8 63 63 n p lp (omega arith) t.0;
        bytes = zero_key s.1;
        good =
            record {
              low = omega (arith, held_low 8 63 63 n p lp (omega arith) t.0);
              high = omega (arith, held_high 8 63 63 n p lp (omega arith) t.0);
              text = t.1;
            };
      }
  secret_back Key b h =
      record { kind = refl; long = (unused h).0; text = (unused h).1; bytes = refl; good = record { long = lk; bytes = b } }

-- ---- IPv4 and IPv6: an address has width bytes, and its length is at most most

pub addressing_joined : (width : ℕ) (x : Addressing) →
    addressing_in (method_of x) (address_of width x) (length_of x) (has_gateway_of x) (gateway_of width x) ≡ x
addressing_joined width auto = refl
addressing_joined width off = refl
addressing_joined width (static a n None) = refl
addressing_joined width (static a n (Some y)) = refl

module _ (width most : ℕ) where
  pub addressing_formed_lem : (x : Addressing) → Good width most x →
      addressing_formed most (method_of x) (address_of width x) (length_of x) (has_gateway_of x) (gateway_of width x) ≡ true
  addressing_formed_lem auto g = rw (zeros_replicate width)
  addressing_formed_lem off g = rw (zeros_replicate width)
  addressing_formed_lem (static a n None) g = rw (inside {x = n} 1 most g.low g.high) (zeros_replicate width)
  addressing_formed_lem (static a n (Some y)) g = rw (inside {x = n} 1 most g.low g.high)

  -- what formed places hold, laid out again
  pub record AddressingBack (m : Method) (a : List ℕ) (n : ℕ) (h : Bool) (g : List ℕ) : Type 0 where
    pub method : method_of (addressing_in m a n h g) ≡ m
    pub address : address_of width (addressing_in m a n h g) ≡ a
    pub size : length_of (addressing_in m a n h g) ≡ n
    pub routed : has_gateway_of (addressing_in m a n h g) ≡ h
    pub gateway : gateway_of width (addressing_in m a n h g) ≡ g
    pub good : Good width most (addressing_in m a n h g)

  module _ (a : List ℕ) (n : ℕ) (g : List ℕ) (la : is_bytes width a ≡ true) (lg : is_bytes width g ≡ true) where
    record Unaddressed (h : Bool) : Type 0 where
      address : replicate width 0 ≡ a
      size : 0 ≡ n
      routed : false ≡ h
      gateway : replicate width 0 ≡ g

    is_unaddressed : (h : Bool) → unaddressed a n h g ≡ true → Unaddressed h
    is_unaddressed h e =
        let s = and_true (zeros a && eqb n 0) (not h && zeros g) e in
        let t = and_true (zeros a) (eqb n 0) s.0 in
        let u = and_true (not h) (zeros g) s.1 in
        record { address = zero_address width a la t.0; size = sym (eqb-true n 0 t.1); routed = sym (not-true h u.0); gateway = zero_address width g lg u.1 }

    pub addressing_back : (m : Method) (h : Bool) → addressing_formed most m a n h g ≡ true → AddressingBack m a n h g
    addressing_back Auto h e =
        let u = is_unaddressed h e in
        record { method = refl; address = u.address; size = u.size; routed = u.routed; gateway = u.gateway; good = tt }
    addressing_back Off h e =
        let u = is_unaddressed h e in
        record { method = refl; address = u.address; size = u.size; routed = u.routed; gateway = u.gateway; good = tt }
    addressing_back Static true e =
        let s = and_true (between 1 most n) true e in
        record {
          method = refl;
          address = refl;
          size = refl;
          routed = refl;
          gateway = refl;
          good = record { address = la; low = between_low {x = n} 1 most s.0; high = between_high {x = n} 1 most s.0; gateway = lg };
        }
    addressing_back Static false e =
        let s = and_true (between 1 most n) (zeros g) e in
        record {
          method = refl;
          address = refl;
          size = refl;
          routed = refl;
          gateway = zero_address width g lg s.1;
          good = record { address = la; low = between_low {x = n} 1 most s.0; high = between_high {x = n} 1 most s.0; gateway = tt };
        }

-- ---- the servers

pub servers_formed_lem : (l : List (List ℕ)) → length l ≤ 4 → servers_formed (length l) (rows (Some l)) ≡ true
servers_formed_lem l h = rw (inside {x = length l} 0 4 (omega arith) h, drop-append_seam l (replicate (4 - length l) no_address)) (zero_rows_lem (4 - length l))

module _ (n : ℕ) (s : List (List ℕ)) (l : length s ≡ 4) (b : are_addresses s ≡ true) (h : servers_formed n s ≡ true) where
  counted : (between 0 4 n ≡ true) × (zero_rows (drop n s) ≡ true)
  counted = and_true (between 0 4 n) (zero_rows (drop n s)) h

  servers_high : n ≤ 4
  servers_high = between_high {x = n} 0 4 counted.0

  pub servers_long : length (take n s) ≡ n
  servers_long = length-take-le n s (omega (arith, servers_high))

  pub servers_back : rows (Some (take n s)) ≡ s
  servers_back =
      let k : 4 - length (take n s) ≡ length (drop n s) = simp length-drop (omega (arith, servers_long)) in
      ap (λ (j : ℕ). take n s ++ replicate j no_address) k
      ∙ ap (λ (z : List (List ℕ)). take n s ++ z) (sym (rows_eq (drop n s) (are_drop n s b) counted.1))
      ∙ take-append-drop n s

  pub servers_good : GoodServers (take n s)
  servers_good = record { high = omega (arith, servers_long, servers_high); addresses = are_take n s b }

-- ---- the arrays of a layout: their lengths, and that they hold bytes

pub padded_long : (m : ℕ) (t : List ℕ) → length t ≤ m → length (padded m t) ≡ m
padded_long m t h = simp (length-append, length-replicate) (omega arith)

pub are_append : (k l : List (List ℕ)) → are_addresses k ≡ true → are_addresses l ≡ true → are_addresses (k ++ l) ≡ true
are_append [] l h g = g
are_append (a ∷ k) l h g = rw (are_cons a k h).0 (are_append k l (are_cons a k h).1 g)

pub are_none : (n : ℕ) → are_addresses (replicate n no_address) ≡ true
are_none zero = refl
are_none (suc n) = are_none n

pub secret_short : (x : Secret) → GoodSecret x → length (passphrase_of x) ≤ 63
secret_short no_secret g = omega arith
secret_short (passphrase p) g = g.high
secret_short (key k) g = omega arith

pub secret_key : (x : Secret) → GoodSecret x → GoodKey (key_of x)
secret_key no_secret g = record { long = refl; bytes = refl }
secret_key (passphrase p) g = record { long = refl; bytes = refl }
secret_key (key k) g = g

zero_is : (width : ℕ) → is_bytes width (replicate width 0) ≡ true
zero_is width = are_bytes width (replicate width 0) (length-replicate width 0) (all_zeros (between 0 255) refl width)

pub addressing_arrays : (width most : ℕ) (x : Addressing) → Good width most x →
    (is_bytes width (address_of width x) ≡ true) × (is_bytes width (gateway_of width x) ≡ true)
addressing_arrays width most auto g = (zero_is width, zero_is width)
addressing_arrays width most off g = (zero_is width, zero_is width)
addressing_arrays width most (static a n None) g = (g.address, zero_is width)
addressing_arrays width most (static a n (Some y)) g = (g.address, g.gateway)
