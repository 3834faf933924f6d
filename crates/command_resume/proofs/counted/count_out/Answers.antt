use Rattle.std.proofs.Common.{◌≡◌, Bool, true, inl, subst, sym}
use Rattle.break_counts.specs.BreakCounts.{are_few}
use Rattle.resume.specs.Systems.{PartlyPlayed}
use Rattle.command_resume.specs.Counted.{RefutesSeason}
use Rattle.command_resume.proofs.CountLemmas.{some-told}
use Rattle.command_resume.proofs.counted.count_out.Goals as goal

pub refuting-requires : goal.refuting-requires
refuting-requires c =
    subst (λ (s : PartlyPlayed). are_few s.league ≡ true) (sym c.in_ok-system.ensures)
    (some-told c.in_ok-counted.counted c.in-Some.first (are_few c.args.league.now) c.in-Some.is
    c.in_ok-counted.ensures.few)

pub returns-clause-counted : goal.returns-clause-counted
returns-clause-counted c = record {
  few = inl (some-told c.in_ok-counted.counted c.in-Some.first (are_few c.args.league.now) c.in-Some.is
      c.in_ok-counted.ensures.few);
  refutes = subst (λ (s : PartlyPlayed). RefutesSeason s.league s.played s.k c.in_ok-log.log) c.in_ok-system.ensures
      c.in_ok-log.ensures;
}
