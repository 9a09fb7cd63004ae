-- What is handed out may be brought in again: the same record, with the same name servers; and what is brought in,
-- with codes that there are, is handed out as it was. And the lengths of a record that is laid out fit a byte.
use Rattle.std.specs.Prelude.{ℕ, zero, suc, ◌+◌, ◌<◌, ◌≤◌, ◌≡◌, refl, Bool, true, ◌&&◌, List, [], ◌∷◌, ◌++◌, leb, length, drop, get_or}
use Rattle.std.proofs.Common.{arith, ap, ap₂, sym, ◌∙◌}
use Rattle.text.specs.Bytes.{between}
use Rattle.text.specs.Parts.{all}
use Rattle.text.specs.Laws.{and_true, view_more, view_end}
use Rattle.addresses.specs.Addresses.{is_address, are_addresses}
use Rattle.addresses.specs.Laws.{address_length_lem}
use Rattle.records.specs.Record.{Join, laid}
use Rattle.records.specs.Formed.{WellFormed, Arrays}
use Rattle.records.specs.PartLaws.{secret_short}
use Rattle.records.specs.declared.JoinRecord.{JoinRecord}
use Rattle.codes.specs.Laws.{bit_back, credential_back, method_back, bit_known, credential_known, method_known, known_bit, known_credential, known_method}
use Rattle.record_layout.specs.Records.{four_at, sixteen, fours, record_at, FitsBytes, CArrays, known, record_in, servers_in}
use Rattle.record_layout.specs.declared.CRecord.{CRecord}

-- ---- records

pub record_back : (r : JoinRecord) (s : List (List ℕ)) → record_in (record_at r s) ≡ r
record_back r s =
    rw (credential_back r.credential, bit_back r.hidden, method_back r.ipv4, bit_back r.has_gateway, method_back r.ipv6, bit_back r.has_ipv6_gateway)

pub record_known : (r : JoinRecord) (s : List (List ℕ)) → known (record_at r s) ≡ true
record_known r s =
    rw (credential_known r.credential, bit_known r.hidden, method_known r.ipv4, bit_known r.has_gateway, method_known r.ipv6) (bit_known r.has_ipv6_gateway)

-- ---- name servers

four_back : (a : List ℕ) → length a ≡ 4 → four_at a 0 ≡ a
four_back [] e = absurd (omega (arith, e))
four_back (w ∷ []) e = absurd (omega (arith, e))
four_back (w ∷ x ∷ []) e = absurd (omega (arith, e))
four_back (w ∷ x ∷ y ∷ []) e = absurd (omega (arith, e))
four_back (w ∷ x ∷ y ∷ z ∷ []) e = refl
four_back (w ∷ x ∷ y ∷ z ∷ v ∷ a) e = absurd (omega (arith, e))

address_back : (a : List ℕ) → is_address a ≡ true → four_at a 0 ≡ a
address_back a e = four_back a (address_length_lem a e)

pub fours_sixteen : (s : List (List ℕ)) → length s ≡ 4 → are_addresses s ≡ true → fours (sixteen s) ≡ s
fours_sixteen [] l e = absurd (omega (arith, l))
fours_sixteen (a ∷ []) l e = absurd (omega (arith, l))
fours_sixteen (a ∷ b ∷ []) l e = absurd (omega (arith, l))
fours_sixteen (a ∷ b ∷ c ∷ []) l e = absurd (omega (arith, l))
fours_sixteen (a ∷ b ∷ c ∷ d ∷ []) l e =
    let p = and_true (is_address a) (are_addresses (b ∷ c ∷ d ∷ [])) e in
    let q = and_true (is_address b) (are_addresses (c ∷ d ∷ [])) p.1 in
    let r = and_true (is_address c) (are_addresses (d ∷ [])) q.1 in
    let t = and_true (is_address d) (are_addresses []) r.1 in
    ap₂ (λ (x : List ℕ) (y : List (List ℕ)). x ∷ y) (address_back a p.0) (ap₂ (λ (x : List ℕ) (y : List (List ℕ)). x ∷ y) (address_back b q.0) (ap₂ (λ (x y : List ℕ). x ∷ y ∷ []) (address_back c r.0) (address_back d t.0)))
fours_sixteen (a ∷ b ∷ c ∷ d ∷ f ∷ s) l e = absurd (omega (arith, l))

-- ---- a record that is brought in

-- four bytes, and those behind them
four_drop : (b : List ℕ) (i : ℕ) → i + 4 ≤ length b → drop i b ≡ four_at b i ++ drop (i + 4) b
four_drop b i h =
    let two : i + 1 + 1 ≡ i + 2 = omega arith in
    let three : i + 2 + 1 ≡ i + 3 = omega arith in
    let four : i + 3 + 1 ≡ i + 4 = omega arith in
    rw (view_more b i (omega arith), view_more b (i + 1) (omega arith), two, view_more b (i + 2) (omega arith), three, view_more b (i + 3) (omega arith), four)

sixteen_back : (b : List ℕ) → length b ≡ 16 → sixteen (fours b) ≡ b
sixteen_back b e =
    let end : drop 16 b ≡ [] = view_end b 16 (sym e) in
    sym (four_drop b 0 (omega (arith, e)) ∙ ap (λ (r : List ℕ). four_at b 0 ++ r) (four_drop b 4 (omega (arith, e)) ∙ ap (λ (r : List ℕ). four_at b 4 ++ r) (four_drop b 8 (omega (arith, e)) ∙ ap (λ (r : List ℕ). four_at b 8 ++ r) (four_drop b 12 (omega (arith, e)) ∙ ap (λ (r : List ℕ). four_at b 12 ++ r) end))))

-- a record whose every code is that of a case is handed out as it was brought in
pub brought_back : (c : CRecord) → known c ≡ true → length c.servers ≡ 16 → record_at (record_in c) (servers_in c) ≡ c
brought_back c k e =
    let p = and_true (leb c.credential 2) _ k in
    let q = and_true (leb c.hidden 1) _ p.1 in
    let r = and_true (leb c.ipv4 2) _ q.1 in
    let t = and_true (leb c.has_gateway 1) _ r.1 in
    let u = and_true (leb c.ipv6 2) (leb c.has_ipv6_gateway 1) t.1 in
    rw (known_credential c.credential p.0, known_bit c.hidden q.0, known_method c.ipv4 r.0, known_bit c.has_gateway t.0, known_method c.ipv6 u.0, known_bit c.has_ipv6_gateway u.1, sixteen_back c.servers e)

-- the arrays of the record that is brought in, by what the types say of them
at_passes : (p : ℕ → Bool) (b : List ℕ) (i : ℕ) → i < length b → all p b ≡ true → p (get_or b i 0) ≡ true
at_passes p [] i h e = absurd (omega arith)
at_passes p (x ∷ b) zero h e = (and_true (p x) (all p b) e).0
at_passes p (x ∷ b) (suc i) h e = at_passes p b i (omega arith) (and_true (p x) (all p b) e).1

four_address : (b : List ℕ) (i : ℕ) → i + 4 ≤ length b → all (between 0 255) b ≡ true → is_address (four_at b i) ≡ true
four_address b i h e =
    rw (at_passes (between 0 255) b i (omega arith) e, at_passes (between 0 255) b (i + 1) (omega arith) e, at_passes (between 0 255) b (i + 2) (omega arith) e, at_passes (between 0 255) b (i + 3) (omega arith) e)

pub brought_arrays : (c : CRecord) → CArrays c → Arrays (record_in c) (servers_in c)
brought_arrays c a =
    record {
      name = a.name;
      name_bytes = a.name_bytes;
      passphrase = a.passphrase;
      key = a.key;
      key_bytes = a.key_bytes;
      address = a.address;
      gateway = a.gateway;
      servers = refl;
      server_bytes = rw (address_at 0 (omega (arith, a.servers)), address_at 4 (omega (arith, a.servers)), address_at 8 (omega (arith, a.servers)), address_at 12 (omega (arith, a.servers)));
      domain = a.domain;
      ipv6_address_of = a.ipv6_address_of;
      ipv6_gateway_of = a.ipv6_gateway_of;
    }
  where
    address_at : (i : ℕ) → i + 4 ≤ length c.servers → is_address (four_at c.servers i) ≡ true
    address_at i h = four_address c.servers i h a.server_bytes

-- ---- the lengths of a record that is laid out

pub laid_short : (j : Join) → WellFormed j → FitsBytes (laid j)
laid_short j w =
    record { name = omega (arith, w.name.high); passphrase = omega (arith, secret_short j.credential w.credential); servers = omega (arith, w.servers.high); domain = omega (arith, w.domain.high) }
