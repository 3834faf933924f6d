use Rattle.std.proofs.Common.{refl, inl, inr}
use Rattle.robin_watch.proofs.kept.kept_limit.Goals as goal

pub returns-then-is_over_now-clause-kept : goal.returns-then-is_over_now-clause-kept
returns-then-is_over_now-clause-kept g c = inr (c.if-is_over_now.ensures.cause refl, (c.args.turns, refl, c.requires))

pub returns-clause-kept : goal.returns-clause-kept
returns-clause-kept g c = inl refl
