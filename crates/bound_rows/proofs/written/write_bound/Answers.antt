use Rattle.std.proofs.Common.{ℕ, ◌+◌, ap, arith}
use Rattle.bound_rows.specs.BoundRows.{league_groups}
use Rattle.bound_rows.proofs.RoomLemmas.{penalties_kept, units_of-kept}
use Rattle.bound_rows.proofs.SizeLemmas.{bound_size-groups, rows_in-le, units_in-le}
use Rattle.bound_rows.proofs.WrittenLemmas.{all_rows}
use Rattle.bound_rows.proofs.written.write_bound.Goals as goal

pub finished-requires-clause-last : goal.finished-requires-clause-last
finished-requires-clause-last c =
    let league = c.args.league.now in
    omega (
      arith,
      units_of-kept c.in_ok-draft.draft.groups.items (league_groups league) c.in_ok-draft.ensures.kept,
      c.base_vars-first.ensures.at_most,
      c.requires,
      bound_size-groups league,
      units_in-le (league_groups league),
    )

pub finished-requires-clause-paid : goal.finished-requires-clause-paid
finished-requires-clause-paid c =
    let league = c.args.league.now in
    penalties_kept league.n league.constraints c.in_ok-draft.draft.groups.items c.in_ok-draft.ensures.kept

pub finished-requires-clause-room : goal.finished-requires-clause-room
finished-requires-clause-room c =
    let league = c.args.league.now in
    omega (
      arith,
      units_of-kept c.in_ok-draft.draft.groups.items (league_groups league) c.in_ok-draft.ensures.kept,
      c.in_ok-draft.ensures.count,
      c.requires,
      bound_size-groups league,
      units_in-le (league_groups league),
      rows_in-le league.n league.constraints,
    )

pub returns-clause-rows : goal.returns-clause-rows
returns-clause-rows c =
    all_rows c.args.league.now (c.base_vars-first.result + 1) c.args.bound c.in_ok-draft.draft.groups.items
    c.in_ok-draft.draft.rows _ (ap (λ (v : ℕ). v + 1) c.base_vars-first.ensures.vars) c.in_ok-draft.ensures.kept
    c.in_ok-draft.ensures.rows c.in_ok-written.ensures.rows

pub returns-clause-few : goal.returns-clause-few
returns-clause-few c =
    omega (
      arith,
      c.in_ok-written.ensures.vars,
      c.in_ok-draft.ensures.next,
      c.base_vars-first.ensures.at_most,
      c.requires,
      bound_size-groups c.args.league.now,
      units_in-le (league_groups c.args.league.now),
    )
