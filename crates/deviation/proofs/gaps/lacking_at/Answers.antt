use Rattle.std.proofs.Common.{ℕ, Option, replicate, arith, ap, ◌++◌}
use Rattle.std.specs.Option.{option_to_list}
use Rattle.league.specs.Separation.{lacking}
use Rattle.deviation.proofs.GapLemmas.{lacking_at-none, lacking_at-some}
use Rattle.deviation.proofs.gaps.lacking_at.Goals as goal
use Rattle.deviation.proofs.gaps.lacking_at.Goals.{in-Some, in-None}

pub returns-clause-lacking : goal.returns-clause-lacking
returns-clause-lacking c =
    elim c.match-last.branch [
      | in-Some w ↦ omega (
        arith,
        w.before-is,
        w.saturating_sub-before.ensures,
        lacking_at-some c.args.min w.in-Some.before c.args.slot c.args.games c.requires.some,
        ap (λ (o : Option ℕ). lacking c.args.min (option_to_list o ++ replicate c.args.games c.args.slot)) w.in-Some.is,
      )
      | in-None w ↦ omega (
        arith,
        w.before-is,
        lacking_at-none c.args.min c.args.slot c.args.games c.requires.some,
        ap (λ (o : Option ℕ). lacking c.args.min (option_to_list o ++ replicate c.args.games c.args.slot)) w.in-None.is,
      )
    ]
