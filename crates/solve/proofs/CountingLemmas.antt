-- What counts that refute say of a league.
use Rattle.std.proofs.Common.{◌≡◌, Bool, true, false, List, Option, Some, None, Result, Ok, ◌↔◌, refl}
use Rattle.std.specs.Prelude.{IfSome, IsSome}
use Rattle.std.proofs.lemmas.Bool.{false_from_ne_true}
use Rattle.league.specs.Instance.{Instance, IsInstance}
use Rattle.refutation.specs.Steps.{Step}
use Rattle.decoding.proofs.SeasonLemmas.{accepted_logs_exclude}
use Rattle.venue_counts.specs.CountLogs.{IsRefuting}
use Rattle.solve.specs.Solutions.{RefutesLeague}

pub refuted_by : (league : Instance) (log : List Step) → IsInstance league → IsRefuting league log
    → RefutesLeague league log
refuted_by league log instance is = record {
  accepted = is.accepted;
  none = accepted_logs_exclude league log instance is.accepted;
  writable = record { named = is.named; short = is.short_lines };
}

pub any_refuted : (league : Instance) (found : Option (List Step)) → IsInstance league
    → IfSome found (IsRefuting league) → IfSome found (RefutesLeague league)
any_refuted league None instance is = tt
any_refuted league (Some log) instance is = refuted_by league log instance is

-- where nothing is found, nothing is short
pub none_told : (found : Option (List Step)) (told : Bool) → found ≡ None → IsSome found ↔ (told ≡ true)
    → told ≡ false
none_told None told is tells = false_from_ne_true told (λ yes. let some : false ≡ true = tells.1 yes in absurd (cc))
none_told (Some log) told is tells = absurd (cc)

-- and what is so only where something is found is not
pub never_told : {X E : Type 0} (found : Option X) (told : Bool) → ((x : X) → found ≡ Some x → ⊥)
    → (◌≡◌ {A = Result (Option X) E} (Ok found) (Ok None) → told ≡ false) → told ≡ true → ⊥
never_told {X} {E} None told none says is = let no : told ≡ false = says refl in absurd (cc)
never_told {X} {E} (Some x) told none says is = none x refl
