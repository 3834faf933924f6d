-- A test of the constraints that are paid for, as one of all.
use Rattle.std.proofs.Common.{◌≡◌, Bool, true, false, not, ◌&&◌, ◌||◌, cond, nat_lt, List, [], ◌∷◌, refl, ap}
use Rattle.std.specs.List.{filter, list_any}
use Rattle.league.specs.Accepted.{soft_of}
use Rattle.league.specs.declared.class.Constraint.{Constraint}
use Rattle.encoding.specs.Variables.{bounds_breaks}
use Rattle.bound_rows.specs.BoundRows.{has_paid_breaks, paid_of}

-- whether a constraint costs anything where it is soft
abbrev costs : Constraint → Bool
costs c = nat_lt 0 c.penalty

pub list_any-paid : (p : Constraint → Bool) (constraints : List Constraint)
    → list_any (λ c. not c.hard && nat_lt 0 c.penalty && p c) constraints ≡ list_any p (paid_of constraints)
list_any-paid p [] = refl
list_any-paid p (c ∷ constraints) = by (list_any-paid p constraints) (not c.hard) where
  costly : list_any (λ c. not c.hard && nat_lt 0 c.penalty && p c) constraints ≡ list_any p (paid_of constraints)
      → (b : Bool)
      → ((b && p c) || list_any (λ c. not c.hard && nat_lt 0 c.penalty && p c) constraints)
      ≡ list_any p (cond b (c ∷ paid_of constraints) (paid_of constraints))
  costly rest true = ap (λ (b : Bool). p c || b) rest
  costly rest false = rest

  by : list_any (λ c. not c.hard && nat_lt 0 c.penalty && p c) constraints ≡ list_any p (paid_of constraints)
      → (soft : Bool)
      → ((soft && nat_lt 0 c.penalty && p c)
      || list_any (λ c. not c.hard && nat_lt 0 c.penalty && p c) constraints)
      ≡ list_any p (filter costs (cond soft (c ∷ soft_of constraints) (soft_of constraints)))
  by rest true = costly rest (nat_lt 0 c.penalty)
  by rest false = rest

pub paid_breaks : (constraints : List Constraint)
    → list_any (λ c. not c.hard && nat_lt 0 c.penalty && bounds_breaks c.class) constraints
    ≡ has_paid_breaks constraints
paid_breaks constraints = list_any-paid (λ c. bounds_breaks c.class) constraints
