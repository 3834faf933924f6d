use Rattle.std.proofs.Common.{◌≡◌, ℕ, ◌≤◌, ap, subst, sym, ◌∙◌}
use Rattle.league.specs.Counts.{Counts, counts_of}
use Rattle.league.specs.Structure.{IsRoundRobin}
use Rattle.rule_core.specs.Table.{table_counts}
use Rattle.moves.specs.Moves.{moved}
use Rattle.moves.specs.Round.{edited, round_counts}
use Rattle.descent.proofs.EditLemmas.{edit-leads, edited-is}
use Rattle.descent.proofs.walk.Walk.make.Goals as goal

pub apply-requires-2-clause-there : goal.apply-requires-2-clause-there
apply-requires-2-clause-there g c i j s =
    subst (λ (m : Counts). counts_of c.args.self.now.edit.out i j s ≤ m i j s) (sym c.requires.walk.counts)
    (c.requires.edit.change.there i j s)

pub apply-requires-2-clause-round_robin : goal.apply-requires-2-clause-round_robin
apply-requires-2-clause-round_robin g c =
    let m : Counts = table_counts c.args.tally.now.table in
    let after : Counts = moved c.args.tally.now.table.n m c.args.step in
    let is : edited (round_counts c.args.self.now.board) c.args.self.now.edit ≡ after =
    ap (λ (k : Counts). edited k c.args.self.now.edit) c.requires.walk.counts
    ∙ edited-is m after c.args.self.now.edit c.requires.edit.change in
    subst (λ (k : Counts). IsRoundRobin c.args.self.now.board.n c.args.self.now.board.phased k) (sym is)
    (subst (λ (n : ℕ). IsRoundRobin n c.args.self.now.board.phased after) (sym c.requires.walk.teams)
    c.requires.legal.round_robin)

pub returns-clause-walk : goal.returns-clause-walk
returns-clause-walk g c =
    let m : Counts = table_counts c.args.tally.now.table in
    let after : Counts = moved c.args.tally.now.table.n m c.args.step in
    let is : edited (round_counts c.args.self.now.board) c.args.self.now.edit ≡ after =
    ap (λ (k : Counts). edited k c.args.self.now.edit) c.requires.walk.counts
    ∙ edited-is m after c.args.self.now.edit c.requires.edit.change in
    let to : table_counts c.apply.new.self.table ≡ after =
    edit-leads m after (table_counts c.apply.new.self.table) c.args.self.now.edit c.requires.edit.change
    c.apply.ensures.counts in
    record {
      teams = c.apply-2.ensures.n ∙ c.requires.walk.teams;
      counts = c.apply-2.ensures.counts ∙ is ∙ sym to;
      edit_for = c.requires.walk.edit_for;
      listed = c.requires.walk.listed;
      next_within = c.requires.walk.next_within;
    }
