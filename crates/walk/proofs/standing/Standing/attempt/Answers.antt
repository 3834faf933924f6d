use Rattle.std.proofs.Common.{◌≡◌, ◌≤◌, true, refl, subst, sym, ◌∙◌}
use Rattle.league.specs.Counts.{Counts, counts_of}
use Rattle.league.specs.Structure.{IsRoundRobin}
use Rattle.rule_core.specs.Table.{table_counts}
use Rattle.moves.specs.Moves.{moved}
use Rattle.moves.specs.Round.{round_counts}
use Rattle.descent.proofs.EditLemmas.{AreExchanged, edit-leads, edited-is}
use Rattle.walk.proofs.standing.Standing.attempt.Goals as goal

pub is_within-requires-clause-there : goal.is_within-requires-clause-there
is_within-requires-clause-there g c i j s =
    let legal : c.edit_of.result ≡ true = c.if-not-edit_of.false in
    subst (λ (m : Counts). counts_of c.edit_of.new.edit.out i j s ≤ m i j s) c.requires.standing.counts
    ((c.edit_of.ensures.edit legal).there i j s)

pub apply-requires-clause-there : goal.apply-requires-clause-there
apply-requires-clause-there g c i j s =
    let legal : c.edit_of.result ≡ true = c.if-not-edit_of.false in
    subst (λ (m : Counts). counts_of c.edit_of.new.edit.out i j s ≤ m i j s)
    (c.requires.standing.counts ∙ sym c.is_within.ensures.counts) ((c.edit_of.ensures.edit legal).there i j s)

pub apply-requires-2-clause-there : goal.apply-requires-2-clause-there
apply-requires-2-clause-there g c i j s =
    let legal : c.edit_of.result ≡ true = c.if-not-edit_of.false in (c.edit_of.ensures.edit legal).there i j s

pub apply-requires-2-clause-round_robin : goal.apply-requires-2-clause-round_robin
apply-requires-2-clause-round_robin g c =
    let n = c.args.self.now.board.n in
    let m = round_counts c.args.self.now.board in
    let legal : c.edit_of.result ≡ true = c.if-not-edit_of.false in
    subst (λ (k : Counts). IsRoundRobin n c.args.self.now.board.phased k)
    (sym (edited-is m (moved n m c.args.step) c.edit_of.new.edit (c.edit_of.ensures.edit legal)))
    (c.edit_of.ensures.legal.0 legal).round_robin

pub returns-then-not-is_within-clause-standing : goal.returns-then-not-is_within-clause-standing
returns-then-not-is_within-clause-standing g c = record {
  teams = c.requires.standing.teams;
  phases = refl;
  counts = c.requires.standing.counts ∙ sym c.is_within.ensures.counts;
  edit_for = c.edit_of.ensures.n ∙ c.requires.standing.edit_for;
}

pub returns-clause-standing : goal.returns-clause-standing
returns-clause-standing g c =
    let n = c.args.self.now.board.n in
    let m = round_counts c.args.self.now.board in
    let legal : c.edit_of.result ≡ true = c.if-not-edit_of.false in
    let after : Counts = table_counts c.apply.new.self.table in
    let leads : AreExchanged m after c.edit_of.new.edit.out c.edit_of.new.edit.into =
    subst (λ (k : Counts). AreExchanged k after c.edit_of.new.edit.out c.edit_of.new.edit.into)
    (c.is_within.ensures.counts ∙ sym c.requires.standing.counts) c.apply.ensures.counts in
    record {
      teams = c.apply-2.ensures.n ∙ c.requires.standing.teams;
      phases = c.apply-2.ensures.phased;
      counts = c.apply-2.ensures.counts
          ∙ edited-is m (moved n m c.args.step) c.edit_of.new.edit (c.edit_of.ensures.edit legal)
          ∙ sym (edit-leads m (moved n m c.args.step) after c.edit_of.new.edit (c.edit_of.ensures.edit legal) leads);
      edit_for = c.edit_of.ensures.n ∙ c.requires.standing.edit_for;
    }
