use borrow.Author.Tests.{tests}
use Rattle.std.proofs.Common.{rules, refl, arith, ◌∙◌}
use Rattle.std.proofs.lemmas.Iterator.{YieldsList-from_range}
use Rattle.std.proofs.lemmas.Iterator.Search.{any_from_yields_List}
use Rattle.rule_core.specs.Meetings.{is_listed}
use Rattle.deviation.proofs.Ga1Hosts.{is_host-each}
use Rattle.deviation.proofs.Ga1Terms.{meetings_inside}
use Rattle.deviation.proofs.ga1.Ga1.is_host.Goals as goal

pub returns : goal.returns
returns c =
    any_from_yields_List (λ away. is_listed c.args.self.now.meetings.list c.args.team.0 away) _ _ c.any.result
    c.any.ensures.ran (YieldsList-from_range 0 c.n.result c.args.self.now.meetings.n refl (omega (arith, c.n.ensures)))
    (λ x b q k. search (rules, tests))
    ∙ is_host-each c.args.self.now.meetings.n c.args.self.now.meetings.list c.args.team.0
    (meetings_inside c.args.self.now)
