use Rattle.std.proofs.Common.{refl, inl}
use Rattle.clause_search.proofs.walk.limit_here.Goals as goal

pub returns-then-is_none-clause-kept : goal.returns-then-is_none-clause-kept
returns-then-is_none-clause-kept g c = inl refl
