use Rattle.std.proofs.Common.{◌≡◌, ◌*◌, ◌^◌, ◌≤◌, ℕ, length, sum, ap, sym, ◌∙◌, arith}
use Rattle.rule_core.specs.Table.{Table, table_counts}
use Rattle.descent.specs.Change.{games_of}
use Rattle.descent.specs.Tallies.{vector_on}
use Rattle.descent.specs.Weighing.{renewed}
use Rattle.descent.specs.declared.weighted.Weighted.{Weighted}
use Rattle.descent.proofs.FrameLemmas.{edit_exact}
use Rattle.descent.proofs.TouchedLemmas.{touched-many}
use Rattle.descent.proofs.WeighingLemmas.{ready-written, renewed-long, weighed-small}
use Rattle.descent.proofs.kept.Kept.renew.Goals as goal

pub returns-clause-ready : goal.returns-clause-ready
returns-clause-ready g c =
    let old = c.args.self.now in
    let new = c.take_entries.new.taker in
    let keys = c.find_keys.new.bench.found.list in
    let f : ℕ → ℕ = λ k. g.R.Entries.entry old.weighted.rule k (table_counts c.cells.result.now) in
    let long : length new.vector.items ≡ length old.vector.items =
    ap length c.take_entries.ensures.vector ∙ renewed-long f keys old.vector.items in
    let small : new.deviation ≤ 2 ^ 64 * length new.vector.items =
    omega (arith, weighed-small f keys old.vector.items new.deviation c.take_entries.ensures.weighed, long) in
    ready-written g.R.Entries c.args.change.now.table.n c.args.bench.now.found.room old new c.requires.ready
    c.take_entries.ensures.weighted c.take_entries.ensures.watched long
    (c.take_entries.ensures.weighed.sum_is ∙ ap sum (sym c.take_entries.ensures.vector)) small

pub returns-clause-exact : goal.returns-clause-exact
returns-clause-exact g c = λ m same was.
    let rule = c.args.self.now.weighted.rule in
    let now = table_counts c.args.change.now.table in
    let keys = c.find_keys.new.bench.found.list in
    let entries = c.args.self.now.vector.items in
    c.take_entries.ensures.vector
    ∙ ap (λ (t : Table). renewed (λ k. g.R.Entries.entry rule k (table_counts t)) keys entries) c.cells.ensures
    ∙ edit_exact (g.R.Entries.team_count rule) (g.R.Entries.term_count rule) (λ k m. g.R.Entries.entry rule k m)
    (g.R.Entries.touches rule) (g.met.R.Entries.frame rule) now m c.args.change.now.out c.args.change.now.into
    c.find_keys.ensures.out_fit c.find_keys.ensures.into_fit same keys entries c.find_keys.ensures.touched.keys was
    ∙ ap (λ (w : Weighted g.row.R.Denot). vector_on g.R.Entries now w.rule) (sym c.take_entries.ensures.weighted)

pub returns-clause-steps : goal.returns-clause-steps
returns-clause-steps g c =
    omega (
      arith,
      c.take_entries.ensures.steps,
      touched-many g.R.Entries c.args.self.now.weighted.rule (games_of c.args.change.now) c.args.bench.now
          c.find_keys.new.bench c.find_keys.ensures.touched,
    )
