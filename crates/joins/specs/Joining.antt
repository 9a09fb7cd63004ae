-- What a service's record that is answered rests on: an accepted file, and a service that obeys the rules over a group.
use Rattle.std.specs.Prelude.{ℕ, zero, suc, ◌≤◌, ◌≡◌, refl, Bool, true, false, cond, ◌||◌, List, [], ◌∷◌, Option, None, Some, Ok, Err}
use Rattle.std.proofs.Common.{arith, sym, ◌∙◌, subst, true≢false}
use Rattle.std.proofs.lemmas.Option.{none-some, same_Some}
use Rattle.text.specs.Options.{or_else}
use Rattle.text.specs.OptionLaws.{only_some}
use Rattle.text.specs.declared.Dialect.TheVariants as D
use Rattle.names.specs.Names.{connman_name}
use Rattle.rules.specs.Sections.{Entry, Section, serves, services, settings}
use Rattle.rules.specs.Faults.{fault_at}
use Rattle.rules.specs.Groups.{lacks, clashes, lack_or_clash, service_fault, services_fault}
use Rattle.rules.specs.Reading.{Name, connman_file, name_in, groups_fault, sections_of, reading}
use Rattle.rules.specs.Asking.{first_or, service_at, asked_of}
use Rattle.rules.proofs.Acceptance.{obeys_accepted, accepted_obeys}
use Rattle.rules.specs.GoodAnswers.{asked_service}
use Rattle.rules.specs.declared.Refusal.{Refusal}
use Rattle.rules.specs.declared.Refusal.TheVariants.{Missing, Contradiction}
use Rattle.records.specs.Record.{Join}
use Rattle.joins.specs.Joins.{joined, service_join, no_record, or_no_place, joined_if_good, service_setting, service_joined}
use Rattle.rules.specs.AnsweringLaws.{same_counts}
use Rattle.rules.specs.Answering.{Answer, accepted_with}

-- ---- the statement

-- a service lacks nothing (14) and contradicts nothing (15)
pub record ServiceObeys (es : List Entry) : Type 0 where
  pub lacking : lacks es ≡ false
  pub clashing : clashes es ≡ false

-- the record j of service w
pub record Joining (name file : List ℕ) (w : ℕ) (j : Join) : Type 0 where
  pub settings : ℕ
  pub services : ℕ
  pub accepted : reading D.ConnMan name file ≡ accepted_with settings services
  pub obeys : ServiceObeys (service_at w (sections_of D.ConnMan file))
  pub record_given : no_record (service_setting w file) ≡ None
  pub is : service_join (service_setting w file) ≡ j

-- ---- the rules over a group, of each service of an accepted file

pub or_false_lem : (a b : Bool) → a || b ≡ false → (a ≡ false) × (b ≡ false)
or_false_lem true b e = absurd (true≢false e)
or_false_lem false b e = (refl, e)

or_none : {A : Type 0} (x y : Option A) → or_else x y ≡ None → (x ≡ None) × (y ≡ None)
or_none None y e = (refl, e)
or_none (Some a) y e = absurd (none-some a (sym e))

faultless : (l : ℕ) (o : Option Refusal) → fault_at l o ≡ None → o ≡ None
faultless l None e = refl
faultless l (Some r) e = absurd (none-some (record { refusal = r; line = l }) (sym e))

-- "each service": service w among them
service_faultless : (w : ℕ) (gs : List Section) → services_fault gs ≡ None → 1 ≤ w → w ≤ services gs →
    service_fault (service_at w gs) ≡ None
service_faultless zero gs f l h = absurd (omega (arith, l))
service_faultless (suc n) [] f l h = absurd (omega (arith, h))
service_faultless (suc n) (g ∷ gs) f l h =
    go (serves g.group) n (λ p q r. service_faultless n gs p q r) (λ p q r. service_faultless (suc n) gs p q r) f h
  where
    go : (b : Bool) (n : ℕ) →
        (services_fault gs ≡ None → 1 ≤ n → n ≤ services gs → service_fault (service_at n gs) ≡ None) →
        (services_fault gs ≡ None → 1 ≤ suc n → suc n ≤ services gs → service_fault (service_at (suc n) gs) ≡ None) →
        or_else (cond b (fault_at g.line (service_fault g.entries)) None) (services_fault gs) ≡ None →
        suc n ≤ cond b (suc (services gs)) (services gs) →
        service_fault (cond b (first_or n g.entries (service_at n gs)) (service_at (suc n) gs)) ≡ None
    go true zero i k f h =
        faultless g.line (service_fault g.entries) (or_none (fault_at g.line (service_fault g.entries)) (services_fault gs) f).0
    go true (suc n) i k f h =
        i (or_none (fault_at g.line (service_fault g.entries)) (services_fault gs) f).1 (omega arith) (omega (arith, h))
    go false n i k f h = k f (omega arith) h

faultless_obeys : (es : List Entry) → service_fault es ≡ None → ServiceObeys es
unfolding service_fault
faultless_obeys es e = go (lacks es) refl (clashes es) refl e
  where
    go : (a : Bool) → lacks es ≡ a → (b : Bool) → clashes es ≡ b → lack_or_clash a b ≡ None → ServiceObeys es
    go true p b q e = absurd (none-some Missing (sym e))
    go false p true q e = absurd (none-some Contradiction (sym e))
    go false p false q e = record { lacking = p; clashing = q }

-- the count of an accepted file is that of its services
counted : (name file : List ℕ) {n m : ℕ} → reading D.ConnMan name file ≡ accepted_with n m →
    services (sections_of D.ConnMan file) ≡ m
counted name file {n} {m} a =
    (same_counts (sym (obeys_accepted D.ConnMan name file (accepted_obeys D.ConnMan name file a)) ∙ a)).1

connman_kind : (name : List ℕ) (k : Name) → name_in D.ConnMan name ≡ Some k → connman_file ≡ k
connman_kind name k e = same_Some connman_file k (only_some (connman_name name) (Some connman_file) e).1

accepted_services : (name file : List ℕ) {n m : ℕ} → reading D.ConnMan name file ≡ accepted_with n m →
    services_fault (sections_of D.ConnMan file) ≡ None
accepted_services name file a =
    let o = accepted_obeys D.ConnMan name file a in
    subst (λ (k : Name). groups_fault k (sections_of D.ConnMan file) ≡ None) (sym (connman_kind name o.kind o.named)) o.groups

-- ---- the service whose record is answered

pub joined_good : (a : Answer) (o : Option ℕ) (i : Join) {j : Join} → joined_if_good a (or_no_place o i) ≡ joined j →
    (a ≡ Ok tt) × (i ≡ j) × (o ≡ None)
joined_good (Ok u) None i {j} e = (refl, cc, refl)
joined_good (Ok u) (Some l) i e = let z : ◌≡◌ {A = ℕ} 0 1 = cc in absurd (omega arith)
joined_good (Err f) o i e = let z : ◌≡◌ {A = ℕ} 0 1 = cc in absurd (omega arith)

pub service_joining : (name file : List ℕ) (w : ℕ) {j : Join} → service_joined name file w ≡ joined j →
    Joining name file w j
service_joining name file w a =
    let h = joined_good (asked_of w (reading D.ConnMan name file)) (no_record (service_setting w file)) (service_join (service_setting w file)) a in
    let s = asked_service w (reading D.ConnMan name file) h.0 in
    record {
      settings = s.settings;
      services = s.count;
      accepted = s.is;
      obeys = faultless_obeys (service_at w (sections_of D.ConnMan file)) (service_faultless w (sections_of D.ConnMan file) (accepted_services name file s.is) s.low (omega (arith, s.high, counted name file s.is)));
      record_given = h.2;
      is = h.1;
    }
