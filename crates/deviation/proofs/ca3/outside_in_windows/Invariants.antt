use Rattle.std.proofs.Common.{◌≡◌, ◌≤◌, ◌*◌, ◌+◌, ◌-◌, get_or}
use Rattle.std.specs.List.{range_with_len, sum_by}
use Rattle.league.specs.Bounds.{outside}
use Rattle.deviation.proofs.ca3.outside_in_windows.Given as goal

abbrev pub invariant-loop-first : goal.invariant-loop-first
invariant-loop-first l = record {
  counted : l.sum ≡ sum_by (λ first. outside l.min l.max (get_or l.before (first + l.intp) 0 - get_or l.before first 0)) (range_with_len 0 l.first);
  bounded : l.sum ≤ (4294967295 + 121680000) * l.first;
}
