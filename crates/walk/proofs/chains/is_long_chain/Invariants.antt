use Rattle.std.specs.Prelude.{◌<◌}
use Rattle.walk.proofs.chains.is_long_chain.Given as goal

-- the chain stays in the league
abbrev pub invariant-chain : goal.invariant-chain
invariant-chain l = l.next.0 < l.board.n
