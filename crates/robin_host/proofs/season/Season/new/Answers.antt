use Rattle.robin_host.proofs.SeasonLemmas.{season-text}
use Rattle.robin_host.proofs.season.Season.new.Goals as goal

pub invariant_of-result : goal.invariant_of-result
invariant_of-result c = record {
  accepted = ∣ season-text c.args.league.now c.args.games.now c.in_ok-schedule.schedule c.args.objective c.in_ok-text.text.items
      c.requires.accepted c.requires.cost c.in_ok-schedule.ensures.permutation c.in_ok-schedule.ensures.in_order c.in_ok-text.ensures.text ∣₁;
}
