use Rattle.std.proofs.Common.{◌≡◌, ◌<◌, ℕ, List, length, sum, ap, subst, sym, ◌∙◌, arith}
use Rattle.std.proofs.lemmas.List.FromFn.{length-map-range_with_len}
use Rattle.std.specs.List.{All}
use Rattle.rule_core.specs.Table.{table_counts}
use Rattle.descent.proofs.kept.Kept.new.Goals as goal

pub returns-clause-ready : goal.returns-clause-ready
returns-clause-ready g c = λ room within.
    let rule = c.args.weighted.rule in
    let long : length c.in_ok-vector.vector.items ≡ g.R.Entries.term_count rule = ap length c.in_ok-vector.ensures.entries ∙ length-map-range_with_len (λ key. g.R.Entries.entry rule key (table_counts c.args.cells.now)) 0 (g.R.Entries.term_count rule) in
    record {
      teams = c.requires.teams;
      of_league = subst (λ (n : ℕ). All (λ t. t.0 < n) c.in_ok-watched.watched.items) (sym c.requires.teams)
          c.in_ok-watched.ensures.of_league;
      watches = c.in_ok-watched.ensures.watched;
      terms = long;
      sum_is = c.total-deviation.ensures.sum ∙ ap sum c.deref.ensures.value;
      small = omega (arith, c.total-deviation.ensures.small, ap (λ (l : List ℕ). length l) c.deref.ensures.value);
      few = omega (arith, long, c.requires.few);
      penalty_fits = c.at_most_half_word.ensures;
      room_is = omega (arith, long, within);
    }
