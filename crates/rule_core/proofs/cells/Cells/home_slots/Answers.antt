use Rattle.std.proofs.Common.{ℕ, nat_lt, arith, ap, ◌∙◌}
use Rattle.std.specs.Int.{bit_at}
use Rattle.league.specs.Counts.{slot_count}
use Rattle.league.proofs.RangeLemmas.{one_if}
use Rattle.rule_core.specs.Table.{Table}
use Rattle.rule_core.proofs.SeenLemmas.{home_seen}
use Rattle.rule_core.proofs.cells.Cells.home_slots.Goals as goal

pub row_marks-requires : goal.row_marks-requires
row_marks-requires c =
    omega (arith, ap (λ (t : Table). t.n) c.self.view_is, c.requires.team, c.self.invariant.2.rows)

pub returns-clause-slots : goal.returns-clause-slots
returns-clause-slots c s within =
    let kept = c.self.invariant.0 in
    ap (λ (x : ℕ). bit_at x s) c.row_marks.ensures
    ∙ c.self.invariant.2.marked.each c.args.team.0 s
    (omega (arith, within, ap (λ (t : Table). slot_count t.n) c.self.view_is, kept.teams.at_most))
    ∙ ap (λ (x : ℕ). one_if (nat_lt 0 x))
    (kept.home c.args.team.0 s
    ∙ home_seen c.self.inside.n c.self.inside.places.items c.self.inside.spare.items c.args.self.now kept.table
    c.self.view_is c.args.team.0 s)

pub returns-clause-small : goal.returns-clause-small
returns-clause-small c = omega (arith, c.row_marks.ensures, c.self.invariant.2.marked.small c.args.team.0)
