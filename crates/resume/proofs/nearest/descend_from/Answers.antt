use Rattle.std.proofs.Common.{ℕ, Bool, refl, subst, sym}
use Rattle.rule_core.specs.Table.{table_counts}
use Rattle.league.specs.Accepted.{IsAccepted}
use Rattle.league.specs.Counts.{Counts, counts_of}
use Rattle.league.specs.Structure.{IsRoundRobin}
use Rattle.resume.specs.declared.old_plan.OldPlan.{OldPlan}
use Rattle.resume.proofs.WalkLemmas.{IsDown-at, IsEnd-if, IsWalkOn-from, down-teams, nearest-at, open-at}
use Rattle.resume.proofs.nearest.descend_from.Goals as goal

pub go_down-settled-requires-clause-walk : goal.go_down-settled-requires-clause-walk
go_down-settled-requires-clause-walk g c =
    IsWalkOn-from _ c.args.plan (counts_of c.args.start.now) c.in_ok-walk.walk c.args.tally.now c.in_ok-walk.ensures
    c.requires.rules c.requires.teams c.requires.counts c.requires.plan_fit

pub go_down-settled-requires-clause-accepted : goal.go_down-settled-requires-clause-accepted
go_down-settled-requires-clause-accepted g c =
    subst (λ (p : OldPlan). IsAccepted p.league.now (table_counts c.args.tally.now.table))
    (sym c.in_ok-walk.ensures.same)
    (subst (λ (m : Counts). IsAccepted c.args.plan.league.now m) (sym c.requires.counts) c.requires.accepted)

pub nearest_of-requires : goal.nearest_of-requires
nearest_of-requires g c =
    let plan = c.args.plan in
    let walked = c.in_ok-walk.walk.ground.plan in
    let end : Counts = table_counts c.go_down-settled.new.tally.table in
    let down =
    IsDown-at _ plan walked (table_counts c.args.tally.now.table) (table_counts c.args.tally.now.table)
    c.go_down-settled.new.self c.go_down-settled.new.tally c.in_ok-walk.ensures.same refl c.go_down-settled.ensures.down in
    record {
      round_robin =
          subst (λ (n : ℕ). IsRoundRobin n c.phased.result end)
          (sym (down-teams _ plan _ c.go_down-settled.new.self c.go_down-settled.new.tally down))
          (subst (λ (b : Bool). IsRoundRobin plan.league.now.n b end) (sym c.phased.ensures) down.accepted.round_robin);
    }

pub returns : goal.returns
returns g c =
    let plan = c.args.plan in
    let walked = c.in_ok-walk.walk.ground.plan in
    let start : Counts = counts_of c.args.start.now in
    let end : Counts = table_counts c.go_down-settled.new.tally.table in
    let down =
    IsDown-at _ plan walked (table_counts c.args.tally.now.table) start c.go_down-settled.new.self c.go_down-settled.new.tally
    c.in_ok-walk.ensures.same c.requires.counts c.go_down-settled.ensures.down in
    IsEnd-if _ plan _ start c.go_down-settled.new.self c.go_down-settled.new.tally c.go_down-settled.result
    c.nearest_of.result down
    (λ said. nearest-at plan walked end end c.in_ok-walk.ensures.same refl (c.go_down-settled.ensures.settled said))
    (λ said. open-at plan walked _ end end c.in_ok-walk.ensures.same refl (c.go_down-settled.ensures.open_yet said))
    c.nearest_of.ensures
