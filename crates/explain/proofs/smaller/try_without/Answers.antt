use Rattle.std.proofs.Common.{ℕ, ◌==◌, not}
use Rattle.explain.proofs.StandingLemmas.{chosen-ascending, chosen-hard, chosen-small, of_members}
use Rattle.explain.proofs.smaller.try_without.Goals as goal

pub try_part-requires-clause-ascending : goal.try_part-requires-clause-ascending
try_part-requires-clause-ascending g c =
    let members = c.args.contradiction.now.members.items in
    let keep = λ (j : ℕ). not (j == c.args.number) in
    chosen-ascending c.args.league.now c.args.conflicts (g.W.Watch.may_stop c.args.watch.now) members c.args.contradiction.now.log keep
    c.deref-2.result.now c.requires
    (of_members keep c.deref.result.now members c.in_ok-others.others.items c.deref-2.result.now
    c.deref.ensures.value c.in_ok-others.ensures c.deref-2.ensures.value)

pub try_part-requires-clause-hard : goal.try_part-requires-clause-hard
try_part-requires-clause-hard g c =
    let members = c.args.contradiction.now.members.items in
    let keep = λ (j : ℕ). not (j == c.args.number) in
    chosen-hard c.args.league.now c.args.conflicts (g.W.Watch.may_stop c.args.watch.now) members c.args.contradiction.now.log keep c.deref-2.result.now
    c.requires
    (of_members keep c.deref.result.now members c.in_ok-others.others.items c.deref-2.result.now
    c.deref.ensures.value c.in_ok-others.ensures c.deref-2.ensures.value)

pub try_part-requires-clause-small : goal.try_part-requires-clause-small
try_part-requires-clause-small g c =
    let members = c.args.contradiction.now.members.items in
    let keep = λ (j : ℕ). not (j == c.args.number) in
    chosen-small c.args.league.now c.args.conflicts (g.W.Watch.may_stop c.args.watch.now) members c.args.contradiction.now.log keep c.deref-2.result.now
    c.requires
    (of_members keep c.deref.result.now members c.in_ok-others.others.items c.deref-2.result.now
    c.deref.ensures.value c.in_ok-others.ensures c.deref-2.ensures.value)
