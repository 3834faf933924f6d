use Rattle.std.proofs.Common.{◌≡◌, take}
use Rattle.std.specs.List.{All}
use Rattle.league_search.specs.Raised.{raised_steps}
use Rattle.league_search.proofs.NewsLemmas.{HasSmallHints}
use Rattle.league_search.proofs.raised.raised.Given as goal

-- the steps so far
abbrev pub invariant-loop-k : goal.invariant-loop-k
invariant-loop-k l = record {
  steps : l.raised ≡ raised_steps l.games l.numbers l.all 0 (take l.k l.log);
  small : All HasSmallHints l.raised;
}
