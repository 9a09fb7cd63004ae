-- What a reading answers, and what is answered to a question about a file: good, or a refusal and its line.
use Rattle.std.specs.Prelude.{ℕ, Result, Ok, Err}
use Rattle.rules.specs.declared.Refusal.{Refusal}
use Rattle.rules.specs.declared.Fault.{Fault}
use Rattle.rules.specs.declared.Counts.{Counts}

-- accepted, with how many settings and services there are, or refused
abbrev pub Reading : Type 0
Reading = Result Counts Fault

-- good, or refused
abbrev pub Answer : Type 0
Answer = Result Unit Fault

abbrev pub accepted_with : ℕ → ℕ → Reading
accepted_with n m = Ok (record { settings = n; services = m })

abbrev pub refused_at : {A : Type 0} → Refusal → ℕ → Result A Fault
refused_at r l = Err (record { refusal = r; line = l })
