use Rattle.std.proofs.Common.{ap, ◌∙◌, arith}
use Rattle.std.specs.List.{sum}
use Rattle.rule_core.specs.Table.{Table, table_counts}
use Rattle.descent.specs.Change.{games_of}
use Rattle.descent.specs.Weighing.{renewed}
use Rattle.descent.proofs.FrameLemmas.{edit_exact}
use Rattle.descent.proofs.TouchedLemmas.{touched-many}
use Rattle.descent.proofs.WeighingLemmas.{weighed-small}
use Rattle.descent.proofs.kept.Kept.weigh.Goals as goal

pub returns-clause-exact : goal.returns-clause-exact
returns-clause-exact g c = λ m same was.
    let rule = c.args.self.now.weighted.rule in
    let now = table_counts c.args.change.now.table in
    let keys = c.find_keys.new.bench.found.list in
    let entries = c.args.self.now.vector.items in
    c.take_entries.ensures.weighed.sum_is
    ∙ ap (λ (t : Table). sum (renewed (λ k. g.R.Entries.entry rule k (table_counts t)) keys entries)) c.cells.ensures
    ∙ ap sum (edit_exact (g.R.Entries.team_count rule) (g.R.Entries.term_count rule) (λ k m. g.R.Entries.entry rule k m)
    (g.R.Entries.touches rule) (g.met.R.Entries.frame rule) now m c.args.change.now.out c.args.change.now.into
    c.find_keys.ensures.out_fit c.find_keys.ensures.into_fit same keys entries c.find_keys.ensures.touched.keys was)

pub returns-clause-small : goal.returns-clause-small
returns-clause-small g c =
    weighed-small (λ k. g.R.Entries.entry c.args.self.now.weighted.rule k (table_counts c.cells.result.now))
    c.find_keys.new.bench.found.list c.args.self.now.vector.items c.take_entries.new.taker.deviation
    c.take_entries.ensures.weighed

pub returns-clause-steps : goal.returns-clause-steps
returns-clause-steps g c =
    omega (
      arith,
      c.take_entries.ensures.steps,
      touched-many g.R.Entries c.args.self.now.weighted.rule (games_of c.args.change.now) c.args.bench.now
          c.find_keys.new.bench c.find_keys.ensures.touched,
    )
