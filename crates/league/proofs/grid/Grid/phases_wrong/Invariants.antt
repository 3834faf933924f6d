use Rattle.std.proofs.Common.{◌≡◌, ℕ, ◌≤◌, ◌*◌, ◌+◌, ◌-◌}
use Rattle.std.specs.List.{count_by, range_with_len}
use Rattle.league.specs.Counts.{teams_of}
use Rattle.league.specs.Meetings.{pairs_of}
use Rattle.league.specs.Structure.{isnt_one}
use Rattle.league.specs.Grid.{entry}
use Rattle.league.proofs.grid.Grid.phases_wrong.Given as goal

-- what is counted and what is left make up the whole
abbrev pub invariant-loop-team : goal.invariant-loop-team
invariant-loop-team l =
    let numbers = l.self in
    let is_wrong = λ (p : ℕ × ℕ). isnt_one (entry numbers p.0 p.1 + entry numbers p.1 p.0) in
    record {
      counted : l.wrong + count_by is_wrong (pairs_of (range_with_len l.team (l.n - l.team))) ≡ count_by is_wrong (pairs_of (teams_of l.n));
      bounded : l.wrong ≤ 65535 * l.team;
    }
