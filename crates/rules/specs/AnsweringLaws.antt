-- Two answers that are the same have the same parts.
use Rattle.std.specs.Prelude.{ℕ, ◌≡◌, Result, Ok, Err}
use Rattle.std.proofs.Common.{ap}
use Rattle.rules.specs.Answering.{Reading, accepted_with, refused_at}
use Rattle.rules.specs.declared.Refusal.{Refusal}
use Rattle.rules.specs.declared.Fault.{Fault}
use Rattle.rules.specs.declared.Counts.{Counts}

abbrev fault_or : {A : Type 0} → Fault → Result A Fault → Fault
fault_or g (Ok x) = g
fault_or g (Err f) = f

abbrev counts_or : Counts → Reading → Counts
counts_or d (Ok c) = c
counts_or d (Err f) = d

pub same_refusal : {A : Type 0} {r s : Refusal} {l m : ℕ} → ◌≡◌ {A = Result A Fault} (refused_at r l) (refused_at s m) → (r ≡ s) × (l ≡ m)
same_refusal {A} {r} {s} {l} e =
    let f : Fault = record { refusal = r; line = l } in
    (ap (λ (x : Result A Fault). (fault_or f x).refusal) e, ap (λ (x : Result A Fault). (fault_or f x).line) e)

pub same_counts : {n m i j : ℕ} → accepted_with n m ≡ accepted_with i j → (n ≡ i) × (m ≡ j)
same_counts {n} {m} e =
    let c : Counts = record { settings = n; services = m } in
    (ap (λ (x : Reading). (counts_or c x).settings) e, ap (λ (x : Reading). (counts_or c x).services) e)
