-- What `prove` answers of seasons of two teams where a floor is asked for, over the leagues of LeastExamples.
use Rattle.std.proofs.Common.{lit<, [], List, ℕ, ◌<◌, ◌≡◌, ◌≤◌, min, Option, None, Some, codes, ap, arith, inl, inr, refl, sym, ◌∙◌}
use Rattle.std.specs.Fmt.{digits}
use Rattle.league.specs.Counts.{counts_of}
use Rattle.league.specs.Accepted.{objective}
use Rattle.league.specs.Instance.{Instance}
use Rattle.league.specs.declared.game.Game.{Game}
use Rattle.answers.specs.Reply.{Answer}
use Rattle.answers.specs.declared.status.Status.TheVariants.{Yes, Spent, Better}
use Rattle.bounds.specs.Certificates.{certificate_of}
use Rattle.robin_run.specs.Run.{Writes}
use Rattle.command_prove.specs.Floor.{IsFloorShown, IsMissed, IsReached, IsUndercut}
use Rattle.example_runs.proofs.Runs.{ended_with}
use Rattle.example_runs.proofs.LeastExamples.{away-one, away_first, even-accepted, even_soon, log, lower_bound, one_first}
use Rattle.example_runs.proofs.LeastExamples.{zero_first}
use Rattle.example_runs.proofs.BetterExamples.{spent-at_zero}
use Rattle.example_runs.proofs.ProveExamples.{bettered, better_file, bettered-zero, certificate-proves, certificate-read}
use Rattle.example_runs.proofs.ProveExamples.{certificate-written, floor-none, no_budget, nothing_below, refused, spent}
use Rattle.example_runs.proofs.ProveExamples.{spent-read, spent_yes, twice}

-- ---- a floor that is reached: of a season that costs 4

abbrev pub reached : Answer
reached = record {
  status = Yes;
  text = codes "objective 4\nbound 4\nrefutation 1\n-5 0 31 29 22 0\n0 32 31 30 21 0\nend\n";
}

-- a floor above the objective means the objective, and a floor below it is reached too
pub reached-nine : IsReached even_soon 9 zero_first reached
unfolding digits
reached-nine = record {
  bound = 4;
  steps = log;
  accepted = even-accepted;
  reached = omega arith;
  least = lower_bound;
  proves = certificate-proves;
  status = refl;
  text = refl;
  reads_back = λ short. ap certificate_of (sym certificate-written) ∙ certificate-read;
}

pub reached-three : IsReached even_soon 3 zero_first reached
unfolding digits
reached-three = record {
  bound = 4;
  steps = log;
  accepted = even-accepted;
  reached = omega arith;
  least = lower_bound;
  proves = certificate-proves;
  status = refl;
  text = refl;
  reads_back = λ short. ap certificate_of (sym certificate-written) ∙ certificate-read;
}

-- no floor of 1 is reached where a season costs nothing
none_under : (bound : ℕ) → min 1 3 ≤ bound → bound ≤ 0 → ⊥
none_under bound enough none = omega (arith, enough, none)

pub reached-dear : (answer : Answer) → IsReached away_first 1 zero_first answer → ⊥
reached-dear answer is = none_under is.bound is.reached (is.least (counts_of one_first) away-one)

-- an answer of another status is none, nor is one of a schedule that isn't accepted
pub reached-status : (asked : ℕ) (text : List ℕ)
    → IsReached even_soon asked zero_first (record { status = Spent; text = text }) → ⊥
reached-status asked text is = spent_yes is.status

pub reached-twice : (asked : ℕ) (answer : Answer) → IsReached even_soon asked twice answer → ⊥
reached-twice asked answer is = refused is.accepted

-- ---- a season that costs less

pub undercut-two : IsUndercut away_first 2 zero_first bettered
unfolding bettered-zero
undercut-two = (bettered-zero, let less : 0 < 2 = lit< tt in less)

-- none costs less than 0
pub undercut-none : (answer : Answer) → IsUndercut away_first 0 zero_first answer → ⊥
undercut-none answer (found, under) = nothing_below (objective away_first (counts_of found.better)) under

-- ---- a floor that is missed: a budget of 0 is spent over the rows of 3

pub missed-nine : IsMissed even_soon 9 (Some 0) zero_first spent
unfolding digits
missed-nine = record {
  steps = [];
  bound = 0;
  floor = [];
  accepted = even-accepted;
  below = omega arith;
  budget = refl;
  spent = spent-at_zero.spent;
  few = spent-at_zero.few;
  certified = floor-none;
  status = refl;
  text = refl;
  reads_back = λ short. spent-read;
}

-- a budget that is spent is one that was set
pub missed-never : (league : Instance) (asked : ℕ) (games : List Game) (answer : Answer)
    → IsMissed league asked None games answer → ⊥
missed-never league asked games answer is = no_budget is.steps is.budget

-- ---- runs that write them

pub floor-reached : Writes (ended_with Yes (Some []) (Some reached.text)) (IsFloorShown even_soon 9 (Some 0) zero_first)
floor-reached = record { answer = reached; of_kind = inr (inl reached-nine); ended = refl; written = refl }

pub floor-undercut : Writes (ended_with Better (Some []) (Some better_file)) (IsFloorShown away_first 2 None zero_first)
floor-undercut = record { answer = bettered; of_kind = inr (inr (inl undercut-two)); ended = refl; written = refl }

pub floor-missed : Writes (ended_with Spent (Some []) (Some spent.text)) (IsFloorShown even_soon 9 (Some 0) zero_first)
floor-missed = record { answer = spent; of_kind = inr (inr (inr missed-nine)); ended = refl; written = refl }
