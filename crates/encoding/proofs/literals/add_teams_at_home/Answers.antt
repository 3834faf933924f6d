use Rattle.std.proofs.Common.{ℕ, map, ap, arith, ◌∙◌}
use Rattle.rows.specs.Literals.{Literal, yes}
use Rattle.encoding.specs.Variables.{h_var}
use Rattle.encoding.proofs.GrownLemmas.{grown_by_all, grown_by_one}
use Rattle.encoding.proofs.literals.add_teams_at_home.Goals as goal

pub loop-team-preserved : goal.loop-team-preserved
loop-team-preserved c =
    let home : ℕ → Literal = λ i. yes (h_var c.args.n i c.args.slot) in
    grown_by_one home c.args.literals.now.items c.loop-team.literals.items c.push.new.self.items c.new.result
    c.args.teams.now c.loop-team.team-index 0 c.loop-team-test.true c.loop-team.invariant c.in_ok-push.ensures.items
    (c.new.ensures ∙ ap yes c.h_at.ensures.var)

pub returns : goal.returns
returns c =
    let home : ℕ → Literal = λ i. yes (h_var c.args.n i c.args.slot) in
    grown_by_all (map home) c.args.literals.now.items c.loop-team.literals.items c.args.teams.now
    c.loop-team.team-index (omega arith) c.loop-team.invariant
