use Rattle.std.proofs.Common.{ℕ, ap, ◌∙◌}
use Rattle.league.specs.Meetings.{meetings_of}
use Rattle.encoding.proofs.NumberLemmas.{meetings_are, meetings_few}
use Rattle.encoding.proofs.season.Season.meetings.Goals as goal

pub returns-clause-are : goal.returns-clause-are
returns-clause-are c =
    meetings_are c.args.self.now c.deref.result.now
    (c.deref.ensures.value ∙ c.self.invariant.meetings ∙ ap (λ (n : ℕ). meetings_of n) c.self.view_is)

pub returns-clause-at_most : goal.returns-clause-at_most
returns-clause-at_most c =
    meetings_few c.self.inside.n c.deref.result.now c.self.invariant.count.at_most
    (meetings_are c.self.inside.n c.deref.result.now (c.deref.ensures.value ∙ c.self.invariant.meetings))
