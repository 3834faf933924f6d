use Rattle.std.proofs.Common.{◌≡◌, ◌*◌, ◌++◌}
use Rattle.instance_gen.specs.Draws.{after}
use Rattle.instance_gen.specs.Kinds.{made_of, words_of}
use Rattle.instance_gen.specs.Made.{made_list}
use Rattle.instance_gen.proofs.made.push_drawn.Given as goal

abbrev pub invariant-loop-k : goal.invariant-loop-k
invariant-loop-k l = record {
  list : l.constraints.items ≡ l.fn.constraints.items ++ made_list (made_of l.kind l.circle.n) (words_of l.kind) l.k
      l.fn.rng;
  rest : l.rng ≡ after (words_of l.kind * l.k) l.fn.rng;
}
