-- What is compared is equality.
use Rattle.std.specs.Prelude.{ℕ, ◌≡◌, refl, Bool, true, false, cond, List, [], ◌∷◌, eqb}
use Rattle.std.proofs.Common.{ap, ap₂, sym, ◌∙◌, eq-eqb, eqb-true}
use Rattle.std.proofs.lemmas.Bool.{false≢true}
use Rattle.text.specs.Words.{same}
use Rattle.text.specs.Laws.{and_true, same_refl, same_eq}
use Rattle.addressing.specs.declared.Method.{Method}
use Rattle.addressing.specs.declared.Method.TheVariants as M
use Rattle.records.specs.declared.Credential.{Credential}
use Rattle.records.specs.declared.Credential.TheVariants as C
use Rattle.records.specs.declared.JoinRecord.{JoinRecord}
use Rattle.comparing.specs.Same.{same_flag, credential_case, method_case, same_name, same_credential, same_method, same_ipv4, same_ipv6, same_domain, same_choices, same_record, same_servers}

flag_refl : (a : Bool) → same_flag a a ≡ true
flag_refl true = refl
flag_refl false = refl

flag_eq : (a b : Bool) → same_flag a b ≡ true → a ≡ b
flag_eq true true e = refl
flag_eq true false e = absurd (false≢true e)
flag_eq false true e = absurd (false≢true e)
flag_eq false false e = refl

number_refl : (n : ℕ) → eqb n n ≡ true
number_refl n = eq-eqb n n refl

-- a case by its number
case_eq : {A : Type 0} (number : A → ℕ) (at : ℕ → A) → ((x : A) → at (number x) ≡ x) → (x y : A) →
    eqb (number x) (number y) ≡ true → x ≡ y
case_eq number at back x y e = sym (back x) ∙ ap at (eqb-true (number x) (number y) e) ∙ back y

credential_eq : (x y : Credential) → eqb (credential_case x) (credential_case y) ≡ true → x ≡ y
credential_eq = case_eq credential_case at back
  where
    at : ℕ → Credential
    at n = cond (eqb n 0) C.None (cond (eqb n 1) C.Passphrase C.Key)

    back : (x : Credential) → at (credential_case x) ≡ x
    back C.None = refl
    back C.Passphrase = refl
    back C.Key = refl

method_eq : (x y : Method) → eqb (method_case x) (method_case y) ≡ true → x ≡ y
method_eq = case_eq method_case at back
  where
    at : ℕ → Method
    at n = cond (eqb n 0) M.Auto (cond (eqb n 1) M.Off M.Static)

    back : (x : Method) → at (method_case x) ≡ x
    back M.Auto = refl
    back M.Off = refl
    back M.Static = refl

method_refl : (m : Method) (n : ℕ) (h : Bool) → same_method m n h m n h ≡ true
method_refl m n h = rw (number_refl (method_case m), number_refl n) (flag_refl h)

record MethodsEqual (m : Method) (n : ℕ) (h : Bool) (o : Method) (k : ℕ) (i : Bool) : Type 0 where
  method : m ≡ o
  size : n ≡ k
  routed : h ≡ i

methods_equal : (m : Method) (n : ℕ) (h : Bool) (o : Method) (k : ℕ) (i : Bool) → same_method m n h o k i ≡ true →
    MethodsEqual m n h o k i
methods_equal m n h o k i e =
    let p = and_true (eqb (method_case m) (method_case o)) _ e in
    let q = and_true (eqb n k) (same_flag h i) p.1 in
    record { method = method_eq m o p.0; size = eqb-true n k q.0; routed = flag_eq h i q.1 }

pub same_record_refl : (r : JoinRecord) → same_record r r ≡ true
unfolding same_record
same_record_refl r =
    rw
    (number_refl r.name_len, same_refl r.name, number_refl (credential_case r.credential), number_refl r.passphrase_len, same_refl r.passphrase, same_refl r.key, method_refl r.ipv4 r.length r.has_gateway, same_refl r.address, same_refl r.gateway, method_refl r.ipv6 r.ipv6_length r.has_ipv6_gateway, same_refl r.ipv6_address, same_refl r.ipv6_gateway, number_refl r.domain_len, same_refl r.domain, number_refl r.server_count, flag_refl r.hidden)

pub same_record_eq : (a b : JoinRecord) → same_record a b ≡ true → a ≡ b
unfolding same_record
same_record_eq a b e =
    let name = and_true (same_name a b) _ e in
    let credential = and_true (same_credential a b) _ name.1 in
    let ipv4 = and_true (same_ipv4 a b) _ credential.1 in
    let ipv6 = and_true (same_ipv6 a b) _ ipv4.1 in
    let domain = and_true (same_domain a b) (same_choices a b) ipv6.1 in
    let named = and_true (eqb a.name_len b.name_len) _ name.0 in
    let kind = and_true (eqb (credential_case a.credential) (credential_case b.credential)) _ credential.0 in
    let phrase = and_true (eqb a.passphrase_len b.passphrase_len) _ kind.1 in
    let key = and_true (same a.passphrase b.passphrase) _ phrase.1 in
    let four = and_true (same_method a.ipv4 a.length a.has_gateway b.ipv4 b.length b.has_gateway) _ ipv4.0 in
    let method = methods_equal a.ipv4 a.length a.has_gateway b.ipv4 b.length b.has_gateway four.0 in
    let address = and_true (same a.address b.address) _ four.1 in
    let six = and_true (same_method a.ipv6 a.ipv6_length a.has_ipv6_gateway b.ipv6 b.ipv6_length b.has_ipv6_gateway) _ ipv6.0 in
    let method6 = methods_equal a.ipv6 a.ipv6_length a.has_ipv6_gateway b.ipv6 b.ipv6_length b.has_ipv6_gateway six.0 in
    let address6 = and_true (same a.ipv6_address b.ipv6_address) _ six.1 in
    let domained = and_true (eqb a.domain_len b.domain_len) _ domain.0 in
    let count = and_true (eqb a.server_count b.server_count) _ domain.1 in
    λ i.
    record {
      name_len = eqb-true a.name_len b.name_len named.0 i;
      name = same_eq a.name b.name named.1 i;
      credential = credential_eq a.credential b.credential kind.0 i;
      passphrase_len = eqb-true a.passphrase_len b.passphrase_len phrase.0 i;
      passphrase = same_eq a.passphrase b.passphrase key.0 i;
      key = same_eq a.key b.key key.1 i;
      hidden = flag_eq a.hidden b.hidden count.1 i;
      ipv4 = method.method i;
      address = same_eq a.address b.address address.0 i;
      length = method.size i;
      has_gateway = method.routed i;
      gateway = same_eq a.gateway b.gateway address.1 i;
      server_count = eqb-true a.server_count b.server_count count.0 i;
      domain_len = eqb-true a.domain_len b.domain_len domained.0 i;
      domain = same_eq a.domain b.domain domained.1 i;
      ipv6 = method6.method i;
      ipv6_address = same_eq a.ipv6_address b.ipv6_address address6.0 i;
      ipv6_length = method6.size i;
      has_ipv6_gateway = method6.routed i;
      ipv6_gateway = same_eq a.ipv6_gateway b.ipv6_gateway address6.1 i;
    }

pub same_servers_refl : (s : List (List ℕ)) → same_servers s s ≡ true
same_servers_refl [] = refl
same_servers_refl (a ∷ s) = rw (same_refl a) (same_servers_refl s)

pub same_servers_eq : (s t : List (List ℕ)) → same_servers s t ≡ true → s ≡ t
same_servers_eq [] [] e = refl
same_servers_eq [] (b ∷ t) e = absurd (false≢true e)
same_servers_eq (a ∷ s) [] e = absurd (false≢true e)
same_servers_eq (a ∷ s) (b ∷ t) e = ap₂ ◌∷◌ (same_eq a b (and_true (same a b) (same_servers s t) e).0) (same_servers_eq s t (and_true (same a b) (same_servers s t) e).1)
