use Rattle.std.proofs.Common.{◌≤◌, List, ap, map, sym, ◌∙◌}
use Rattle.std.proofs.lemmas.List.Elements.{All-same}
use Rattle.rows.specs.declared.lit.Term.{Term}
use Rattle.league_search.specs.Raised.{raised_term}
use Rattle.league_search.proofs.PickLemmas.{lowered_row, passed_over, picked_more, row_at}
use Rattle.league_search.proofs.picked.add_row.Goals as goal

pub returns-then-not-are_of_patterns : goal.returns-then-not-are_of_patterns
returns-then-not-are_of_patterns c =
    passed_over c.args.games c.args.rows.now c.args.picked.now.rows c.args.picked.now.numbers.items c.args.k
    c.terms-terms.result.now c.are_of_patterns.result c.requires.there c.requires.before c.terms-terms.ensures
    c.are_of_patterns.ensures c.if-not-are_of_patterns.true

pub push-requires-clause-row : goal.push-requires-clause-row
push-requires-clause-row c =
    lowered_row c.args.games c.args.rows.now c.args.k c.deref.result.now c.terms-terms.result.now c.degree.result
    c.requires.there c.requires.rows
    (row_at c.args.rows.now c.args.k c.terms-terms.result.now c.degree.result c.requires.there c.terms-terms.ensures
    c.degree.ensures)
    (ap (λ (ts : List Term). map (raised_term c.args.games) ts) c.deref.ensures.value ∙ c.in_ok-low.ensures.raised)

pub returns : goal.returns
returns c =
    picked_more c.args.games c.args.rows.now c.args.picked.now.rows _ c.args.picked.now.numbers.items _ c.args.k
    c.deref.result.now (record { terms = c.terms-terms.result.now; degree = c.degree.result }) c.requires.before
    (row_at c.args.rows.now c.args.k c.terms-terms.result.now c.degree.result c.requires.there c.terms-terms.ensures
    c.degree.ensures)
    (sym c.are_of_patterns.ensures ∙ c.if-not-are_of_patterns.false)
    (ap (λ (ts : List Term). map (raised_term c.args.games) ts) c.deref.ensures.value ∙ c.in_ok-low.ensures.raised)
    (All-same (λ (t : Term). 1 ≤ t.lit.var) c.deref.result.now c.in_ok-low.low.items c.deref.ensures.value
    c.in_ok-low.ensures.from_one)
    c.in_ok-push.ensures.ok c.in_ok-push-2.ensures.items
