-- A case comes back from its code, and a code from its case; the code of a case is one that there is.
use Rattle.std.specs.Prelude.{ℕ, zero, suc, ◌≡◌, refl, Bool, true, false, leb}
use Rattle.std.proofs.Common.{arith, leb-true}
use Rattle.addressing.specs.declared.Method.{Method}
use Rattle.addressing.specs.declared.Method.TheVariants as M
use Rattle.records.specs.declared.Credential.{Credential}
use Rattle.records.specs.declared.Credential.TheVariants as C
use Rattle.codes.specs.Codes.{bit_of, credential_code, method_code, bit_in, credential_in, method_in}

-- ---- the case of a case's code

pub bit_back : (b : Bool) → bit_in (bit_of b) ≡ b
bit_back true = refl
bit_back false = refl

pub credential_back : (c : Credential) → credential_in (credential_code c) ≡ c
credential_back C.None = refl
credential_back C.Passphrase = refl
credential_back C.Key = refl

pub method_back : (m : Method) → method_in (method_code m) ≡ m
method_back M.Auto = refl
method_back M.Off = refl
method_back M.Static = refl

-- ---- the greatest code

pub bit_known : (b : Bool) → leb (bit_of b) 1 ≡ true
bit_known true = refl
bit_known false = refl

pub credential_known : (c : Credential) → leb (credential_code c) 2 ≡ true
credential_known C.None = refl
credential_known C.Passphrase = refl
credential_known C.Key = refl

pub method_known : (m : Method) → leb (method_code m) 2 ≡ true
method_known M.Auto = refl
method_known M.Off = refl
method_known M.Static = refl

-- ---- the code of a known code's case

pub known_bit : (n : ℕ) → leb n 1 ≡ true → bit_of (bit_in n) ≡ n
known_bit zero h = refl
known_bit (suc zero) h = refl
known_bit (suc (suc n)) h = absurd (omega (arith, leb-true (suc (suc n)) 1 h))

pub known_credential : (n : ℕ) → leb n 2 ≡ true → credential_code (credential_in n) ≡ n
known_credential zero h = refl
known_credential (suc zero) h = refl
known_credential (suc (suc zero)) h = refl
known_credential (suc (suc (suc n))) h = absurd (omega (arith, leb-true (suc (suc (suc n))) 2 h))

pub known_method : (n : ℕ) → leb n 2 ≡ true → method_code (method_in n) ≡ n
known_method zero h = refl
known_method (suc zero) h = refl
known_method (suc (suc zero)) h = refl
known_method (suc (suc (suc n))) h = absurd (omega (arith, leb-true (suc (suc (suc n))) 2 h))
