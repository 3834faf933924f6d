use Rattle.std.proofs.Common.{◌≡◌, ℕ, ◌≤◌, Bool, List, ap, subst, sym, ◌∙◌}
use Rattle.league.specs.Counts.{Counts, counts_of}
use Rattle.league.specs.Structure.{IsRoundRobin}
use Rattle.rule_core.specs.Table.{table_counts}
use Rattle.descent.proofs.EditLemmas.{edit-leads, edited-is}
use Rattle.moves.specs.Moves.{moved}
use Rattle.moves.specs.Round.{edited, round_counts}
use Rattle.descent.specs.League.{AreRulesOf}
use Rattle.descent.specs.declared.weighted.Weighted.{Weighted}
use Rattle.resume.proofs.kept_walk.Walk.make.Goals as goal

pub apply-requires-2-clause-there : goal.apply-requires-2-clause-there
apply-requires-2-clause-there g c i j s =
    subst (λ (m : Counts). counts_of c.args.self.now.edit.out i j s ≤ m i j s) (sym c.requires.walk.ground.counts)
    (c.requires.edit.change.there i j s)

pub apply-requires-2-clause-round_robin : goal.apply-requires-2-clause-round_robin
apply-requires-2-clause-round_robin g c =
    let ground = c.requires.walk.ground in
    let board = c.args.self.now.ground.board in
    let m : Counts = table_counts c.args.tally.now.table in
    let after : Counts = moved c.args.self.now.ground.plan.league.now.n m c.args.step in
    let is : edited (round_counts board) c.args.self.now.edit ≡ after =
    ap (λ (k : Counts). edited k c.args.self.now.edit) ground.counts
    ∙ edited-is m after c.args.self.now.edit c.requires.edit.change in
    subst (λ (k : Counts). IsRoundRobin board.n board.phased k) (sym is)
    (subst (λ (b : Bool). IsRoundRobin board.n b after) (sym ground.phased)
    (subst (λ (n : ℕ). IsRoundRobin n c.args.self.now.ground.plan.league.now.phased after) (sym ground.board_teams)
    c.requires.better.legal.round_robin))

pub returns-clause-walk : goal.returns-clause-walk
returns-clause-walk g c =
    let ground = c.requires.walk.ground in
    let board = c.args.self.now.ground.board in
    let m : Counts = table_counts c.args.tally.now.table in
    let after : Counts = moved c.args.self.now.ground.plan.league.now.n m c.args.step in
    let is : edited (round_counts board) c.args.self.now.edit ≡ after =
    ap (λ (k : Counts). edited k c.args.self.now.edit) ground.counts
    ∙ edited-is m after c.args.self.now.edit c.requires.edit.change in
    let to : table_counts c.apply.new.self.table ≡ after =
    edit-leads m after (table_counts c.apply.new.self.table) c.args.self.now.edit c.requires.edit.change
    c.apply.ensures.counts in
    record {
      ground = record {
        rules = subst (λ (w : List (Weighted g.row.R.Denot)). AreRulesOf g.R.Entries 1 c.args.self.now.ground.plan.league.now w)
            (sym c.apply.ensures.weights) ground.rules;
        table_teams = c.apply.ensures.n ∙ ground.table_teams;
        board_teams = c.apply-2.ensures.n ∙ ground.board_teams;
        phased = c.apply-2.ensures.phased ∙ ground.phased;
        counts = c.apply-2.ensures.counts ∙ is ∙ sym to;
        old_teams = ground.old_teams;
        old = ground.old;
        fit = ground.fit;
      };
      listed = c.requires.walk.listed;
      edit_for = c.requires.walk.edit_for;
      next_within = c.requires.walk.next_within;
    }
