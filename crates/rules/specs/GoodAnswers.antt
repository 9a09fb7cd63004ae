-- A file of which the answer is good is accepted; and a service of which it is good has a number from 1 to the count.
use Rattle.std.specs.Prelude.{ℕ, ◌≤◌, ◌≡◌, refl, Bool, true, false, cond, Ok, Err}
use Rattle.std.proofs.Common.{arith}
use Rattle.text.specs.Bytes.{between}
use Rattle.text.specs.Laws.{between_low, between_high}
use Rattle.rules.specs.Asking.{asked, asked_of}
use Rattle.rules.specs.declared.Refusal.TheVariants.{NoService}
use Rattle.rules.specs.declared.Counts.{Counts}
use Rattle.rules.specs.Answering.{Answer, Reading, accepted_with, refused_at}

pub asked_reading : (r : Reading) → asked r ≡ Ok tt → (n : ℕ) × ((m : ℕ) × (r ≡ accepted_with n m))
asked_reading (Ok c) e = (c.settings, (c.services, refl))
asked_reading (Err f) e = let z : ◌≡◌ {A = ℕ} 0 1 = cc in absurd (omega arith)

-- a reading that is accepted, and a service of it
pub record ServiceOf (w : ℕ) (r : Reading) : Type 0 where
  pub settings : ℕ
  pub count : ℕ
  pub is : r ≡ accepted_with settings count
  pub low : 1 ≤ w
  pub high : w ≤ count

asked_between : {w : ℕ} (c : Counts) (b : Bool) → between 1 c.services w ≡ b → ◌≡◌ {A = Answer} (cond b (Ok tt) (refused_at NoService 0)) (Ok tt) →
    ServiceOf w (Ok c)
asked_between {w} c true q e = record { settings = c.settings; count = c.services; is = refl; low = between_low {x = w} 1 c.services q; high = between_high {x = w} 1 c.services q }
asked_between c false q e = let z : ◌≡◌ {A = ℕ} 0 1 = cc in absurd (omega arith)

pub asked_service : (w : ℕ) (r : Reading) → asked_of w r ≡ Ok tt → ServiceOf w r
asked_service w (Ok c) e = asked_between c (between 1 c.services w) refl e
asked_service w (Err f) e = let z : ◌≡◌ {A = ℕ} 0 1 = cc in absurd (omega arith)
