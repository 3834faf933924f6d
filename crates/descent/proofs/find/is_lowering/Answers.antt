use Rattle.std.proofs.Common.{◌≡◌, ◌≤◌, true, ap, subst, sym, ◌∙◌}
use Rattle.league.specs.Counts.{Counts, counts_of}
use Rattle.rule_core.specs.Table.{table_counts}
use Rattle.moves.specs.Moves.{moved}
use Rattle.moves.specs.Round.{edited, round_counts}
use Rattle.descent.specs.Score.{score_on}
use Rattle.descent.proofs.EditLemmas.{edited-is}
use Rattle.descent.proofs.SettledLemmas.{lowering-read}
use Rattle.descent.proofs.find.is_lowering.Goals as goal

pub lowers-requires-clause-there : goal.lowers-requires-clause-there
lowers-requires-clause-there g c i j s =
    let legal : c.edit_of.result ≡ true = c.if-not-edit_of.false in
    subst (λ (m : Counts). counts_of c.edit_of.new.edit.out i j s ≤ m i j s) (sym c.requires.counts)
    ((c.edit_of.ensures.edit legal).there i j s)

pub returns-clause-lowers : goal.returns-clause-lowers
returns-clause-lowers g c =
    let n = c.args.board.now.n in
    let m = round_counts c.args.board.now in
    let weights = c.args.tally.now.weights in
    let legal : c.edit_of.result ≡ true = c.if-not-edit_of.false in
    lowering-read n c.args.board.now.phased (score_on g.R.Entries weights) m c.args.step c.lowers.result
    (score_on g.R.Entries weights (table_counts c.args.tally.now.table))
    (score_on g.R.Entries weights (edited (table_counts c.args.tally.now.table) c.edit_of.new.edit)) c.requires.league
    (c.edit_of.ensures.legal.0 legal)
    (ap (λ (k : Counts). score_on g.R.Entries weights k) c.requires.counts)
    (ap (λ (k : Counts). score_on g.R.Entries weights (edited k c.edit_of.new.edit)) c.requires.counts
    ∙ ap (λ (k : Counts). score_on g.R.Entries weights k)
    (edited-is m (moved n m c.args.step) c.edit_of.new.edit (c.edit_of.ensures.edit legal)))
    c.lowers.ensures.lowers

pub returns-clause-edit : goal.returns-clause-edit
returns-clause-edit g c lower =
    let legal : c.edit_of.result ≡ true = c.if-not-edit_of.false in
    record {
      change = c.edit_of.ensures.edit legal;
      out_fit = c.edit_of.ensures.out_fit;
      into_fit = c.edit_of.ensures.fit;
    }
