use Rattle.std.proofs.Common.{◌<◌, length, arith}
use Rattle.clause_search.proofs.LearnLemmas.{collected_clause, collected_hints, collected_parts}
use Rattle.clause_search.proofs.learn.collect.Goals as goal

pub loop-k-preserved : goal.loop-k-preserved
loop-k-preserved c = record {
  clause = collected_clause c.args.trail.now.entries c.args.roles.now c.loop-k.k c.loop-k.clause.items
      c.collect_place.new.clause.items c.loop-k.invariant.clause c.in_ok-collect_place.ensures.clause;
  hints = collected_hints c.args.trail.now.entries c.args.roles.now c.loop-k.k c.loop-k.hints.items
      c.collect_place.new.hints.items c.loop-k.invariant.hints c.in_ok-collect_place.ensures.hints;
  parts = collected_parts (length c.args.trail.now.entries) c.loop-k.k c.loop-k.parts.items
      c.collect_place.new.parts.items (omega arith) c.loop-k.invariant.parts c.in_ok-collect_place.ensures.parts;
}

pub returns-clause-small : goal.returns-clause-small
returns-clause-small c = c.type_inv.hints

pub returns-clause-parts : goal.returns-clause-parts
returns-clause-parts c = c.loop-k.invariant.parts
