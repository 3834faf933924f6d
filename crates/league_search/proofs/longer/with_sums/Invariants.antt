use Rattle.std.proofs.Common.{◌≡◌, take}
use Rattle.rows.specs.Sums.{no_totals}
use Rattle.rows.specs.Tables.{totals_of}
use Rattle.league_search.specs.Sums.{IsLonger}
use Rattle.league_search.proofs.longer.with_sums.Given as goal

-- the sums so far
abbrev pub invariant-loop-k : goal.invariant-loop-k
invariant-loop-k l = record {
  longer : IsLonger l.rows l.vars (take l.k l.sums) l.longer;
  nothing : totals_of l.sum ≡ no_totals;
}
