use Rattle.instance_gen.specs.Kinds.{made_of, words_of}
use Rattle.instance_gen.proofs.MadeLemmas.{after-next, made_list-next}
use Rattle.instance_gen.proofs.made.push_drawn.Goals as goal

pub loop-k-preserved : goal.loop-k-preserved
loop-k-preserved c = record {
  list = made_list-next (made_of c.args.kind c.args.circle.now.n) (words_of c.args.kind) c.loop-k.k c.args.rng.now
      c.loop-k.rng c.args.constraints.now.items c.loop-k.constraints.items _ c.in_ok-drawn.field-0
      c.loop-k.invariant.list c.loop-k.invariant.rest c.in_ok-drawn.ensures.made c.in_ok-push.ensures.items;
  rest = after-next (words_of c.args.kind) c.loop-k.k c.args.rng.now c.loop-k.rng _ c.loop-k.invariant.rest
      c.drawn.ensures.rest;
}
