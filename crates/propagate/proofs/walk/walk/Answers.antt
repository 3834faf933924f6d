use Rattle.std.proofs.Common.{◌≡◌, ◌-◌, arith, ap}
use Rattle.std.proofs.lemmas.List.{get_or_read}
use Rattle.propagate.specs.Watches.{node_at}
use Rattle.propagate.specs.declared.watches.Node.{Node}
use Rattle.propagate.proofs.ChainLemmas.{no_node}
use Rattle.propagate.proofs.LookLemmas.{AreSound-grown}
use Rattle.propagate.proofs.ReachLemmas.{code_of-below}
use Rattle.propagate.proofs.WalkLemmas.{falsified_known, walking-end, walking-head, walking-none, walking-slot}
use Rattle.propagate.proofs.WalkLemmas.{walking-step, walking-watching}
use Rattle.propagate.proofs.walk.walk.Goals as goal

pub take_off-at-requires : goal.take_off-at-requires
take_off-at-requires c =
    omega (
      arith,
      c.slot.ensures,
      c.requires.watching.slots,
      code_of-below c.args.falsified c.args.path.now.vars
          (falsified_known c.args.path.now c.args.looked c.args.falsified c.requires.sound c.requires.there
          c.requires.falsified),
    )

pub nodes-init : goal.nodes-init
nodes-init c =
    walking-none c.args.path.now c.args.watches.now c.take_off-at.new.self c.args.looked c.slot.result
    c.take_off-at.result c.len-left.result c.args.falsified c.requires.sound c.requires.watching
    c.requires.there c.requires.falsified
    (falsified_known c.args.path.now c.args.looked c.args.falsified c.requires.sound c.requires.there
    c.requires.falsified) c.slot.ensures
    c.take_off-at.ensures.first c.take_off-at.ensures.firsts c.take_off-at.ensures.nodes c.take_off-at.ensures.hung
    c.take_off-at.ensures.room (omega (arith, c.len-left.ensures, c.args.watches.now.nodes.ok))

pub index-requires : goal.index-requires
index-requires c =
    let head =
    walking-head c.args.path.now c.nodes.path c.nodes.watches c.args.watches.now.hung c.args.looked
    c.args.falsified c.nodes.invariant.0 c.nodes.at c.nodes.left c.nodes.stopped c.nodes.invariant.1 (omega arith)
    in
    omega (arith, head.1.chain.1, c.nodes.watches.nodes.ok)

pub next_watch-next-requires-clause-sound : goal.next_watch-next-requires-clause-sound
next_watch-next-requires-clause-sound c =
    AreSound-grown c.args.path.now c.nodes.path c.requires.sound c.nodes.invariant.1.grown

pub next_watch-next-requires-clause-there : goal.next_watch-next-requires-clause-there
next_watch-next-requires-clause-there c =
    let head =
    walking-head c.args.path.now c.nodes.path c.nodes.watches c.args.watches.now.hung c.args.looked
    c.args.falsified c.nodes.invariant.0 c.nodes.at c.nodes.left c.nodes.stopped c.nodes.invariant.1 (omega arith)
    in
    head.1.chain.1

pub next_watch-next-requires-clause-node : goal.next_watch-next-requires-clause-node
next_watch-next-requires-clause-node c =
    let head =
    walking-head c.args.path.now c.nodes.path c.nodes.watches c.args.watches.now.hung c.args.looked
    c.args.falsified c.nodes.invariant.0 c.nodes.at c.nodes.left c.nodes.stopped c.nodes.invariant.1 (omega arith)
    in
    head.1.watching.nodes.each (c.nodes.at - 1) head.1.chain.1

pub next_watch-next-requires-clause-other : goal.next_watch-next-requires-clause-other
next_watch-next-requires-clause-other c =
    let head =
    walking-head c.args.path.now c.nodes.path c.nodes.watches c.args.watches.now.hung c.args.looked
    c.args.falsified c.nodes.invariant.0 c.nodes.at c.nodes.left c.nodes.stopped c.nodes.invariant.1 (omega arith)
    in
    head.1.watching.nodes.each _ (head.1.watching.nodes.each (c.nodes.at - 1) head.1.chain.1).partner

pub hang-requires-clause-there : goal.hang-requires-clause-there
hang-requires-clause-there c =
    let head =
    walking-head c.args.path.now c.nodes.path c.nodes.watches c.args.watches.now.hung c.args.looked
    c.args.falsified c.nodes.invariant.0 c.nodes.at c.nodes.left c.nodes.stopped c.nodes.invariant.1 (omega arith)
    in
    head.1.chain.1

pub hang-requires-clause-slot : goal.hang-requires-clause-slot
hang-requires-clause-slot c =
    let head =
    walking-head c.args.path.now c.nodes.path c.nodes.watches c.args.watches.now.hung c.args.looked
    c.args.falsified c.nodes.invariant.0 c.nodes.at c.nodes.left c.nodes.stopped c.nodes.invariant.1 (omega arith)
    in
    walking-slot c.args.path.now c.nodes.path c.next_watch-next.new.path c.nodes.watches c.args.watches.now.hung
    c.args.looked c.args.falsified (c.nodes.at - 1) head.0 c.nodes.at c.nodes.left c.nodes.stopped
    c.next_watch-next.result.lit c.requires.sound head.1 c.next_watch-next.ensures.grown c.next_watch-next.ensures.next

pub overflow_sub-left : goal.overflow_sub-left
overflow_sub-left c =
    let head =
    walking-head c.args.path.now c.nodes.path c.nodes.watches c.args.watches.now.hung c.args.looked
    c.args.falsified c.nodes.invariant.0 c.nodes.at c.nodes.left c.nodes.stopped c.nodes.invariant.1 (omega arith)
    in
    omega (arith, head.1.few)

pub nodes-smaller : goal.nodes-smaller
nodes-smaller c =
    let head =
    walking-head c.args.path.now c.nodes.path c.nodes.watches c.args.watches.now.hung c.args.looked
    c.args.falsified c.nodes.invariant.0 c.nodes.at c.nodes.left c.nodes.stopped c.nodes.invariant.1 (omega arith)
    in
    omega (arith, head.1.few)

pub nodes-preserved : goal.nodes-preserved
nodes-preserved c =
    let head =
    walking-head c.args.path.now c.nodes.path c.nodes.watches c.args.watches.now.hung c.args.looked
    c.args.falsified c.nodes.invariant.0 c.nodes.at c.nodes.left c.nodes.stopped c.nodes.invariant.1 (omega arith)
    in
    let next : c.index.result.now.next ≡ (node_at c.nodes.watches.nodes.items (c.nodes.at - 1)).next =
    ap (λ (n : Node). n.next)
    (get_or_read c.nodes.watches.nodes.items (c.nodes.at - 1) c.index.result.now head.1.chain.1 c.index.ensures
    no_node) in (
      head.0,
      walking-step c.args.path.now c.nodes.path c.next_watch-next.new.path c.nodes.watches c.hang.new.self
          c.args.watches.now.hung c.args.looked c.args.falsified (c.nodes.at - 1) head.0 c.nodes.at
          c.nodes.left c.index.result.now.next (c.nodes.left - 1) c.nodes.stopped c.next_watch-next.result.stopped
          c.next_watch-next.result.lit c.requires.sound c.requires.there c.requires.falsified head.1
          c.next_watch-next.ensures.grown c.next_watch-next.ensures.next c.next_watch-next.ensures.looked
          c.next_watch-next.ensures.conflict c.hang.ensures.nodes c.hang.ensures.firsts c.hang.ensures.hung
          c.hang.ensures.room
          (walking-slot c.args.path.now c.nodes.path c.next_watch-next.new.path c.nodes.watches
          c.args.watches.now.hung c.args.looked c.args.falsified (c.nodes.at - 1) head.0 c.nodes.at c.nodes.left
          c.nodes.stopped
          c.next_watch-next.result.lit c.requires.sound head.1 c.next_watch-next.ensures.grown
          c.next_watch-next.ensures.next)
          next (omega (arith, head.1.few)),
    )

pub returns-clause-watching : goal.returns-clause-watching
returns-clause-watching c =
    walking-watching c.args.path.now c.nodes.path c.nodes.watches c.args.watches.now.hung c.args.looked
    c.args.falsified c.nodes.invariant.0 c.nodes.at c.nodes.left c.nodes.stopped c.nodes.invariant.1 (omega arith)

pub returns-clause-visited : goal.returns-clause-visited
returns-clause-visited c = λ none.
    walking-end c.args.path.now c.nodes.path c.nodes.watches c.args.watches.now.hung c.args.looked c.args.falsified
    c.nodes.invariant.0 c.nodes.at c.nodes.left c.nodes.stopped c.nodes.invariant.1 (omega arith) none

pub slot-requires : goal.slot-requires
slot-requires c = tt

pub next_watch-next-requires-clause-hung : goal.next_watch-next-requires-clause-hung
next_watch-next-requires-clause-hung c = c.nodes.invariant.1.watching.nodes.to

pub next_watch-next-requires-clause-stopped : goal.next_watch-next-requires-clause-stopped
next_watch-next-requires-clause-stopped c = c.nodes.invariant.1.conflict

pub returns-clause-grown : goal.returns-clause-grown
returns-clause-grown c = c.nodes.invariant.1.grown

pub returns-clause-hung : goal.returns-clause-hung
returns-clause-hung c = c.nodes.invariant.1.hung_is

pub returns-clause-conflict : goal.returns-clause-conflict
returns-clause-conflict c = c.nodes.invariant.1.conflict
