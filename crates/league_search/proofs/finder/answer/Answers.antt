use Rattle.std.proofs.Common.{◌≡◌, ℕ, ◌-◌, List, Option, length, ap, subst, ◌∙◌}
use Rattle.encoding.specs.Variables.{var_count}
use Rattle.rows.specs.Rows.{Row}
use Rattle.clause_search.specs.Answers.{IsAnswer}
use Rattle.clause_search.specs.declared.found.Found.{Found}
use Rattle.league_search.specs.Raised.{raised_steps}
use Rattle.league_search.proofs.LogLemmas.{count_is, refuted-clauses, refuted_by, spent_by, tidy-known}
use Rattle.clause_search.proofs.SearchLemmas.{news-clauses}
use Rattle.league_search.proofs.PatternLemmas.{satisfied_here}
use Rattle.league_search.proofs.finder.answer.Goals as goal

-- what was found, where the variant is known
here : (rows : List Row) (vars : ℕ) (limit : Option ℕ) (found variant : Found) → found ≡ variant
    → IsAnswer rows vars limit found → IsAnswer rows vars limit variant
here rows vars limit found variant same is = subst (λ (f : Found). IsAnswer rows vars limit f) same is

pub patterns_by-requires-clause-count : goal.patterns_by-requires-clause-count
patterns_by-requires-clause-count c =
    count_is c.args.encoding.now c.args.games _ c.requires.games
    (here _ _ _ _ _ c.in-Sat.is c.requires.found.1).0

pub raised-requires-clause-known : goal.raised-requires-clause-known
raised-requires-clause-known c =
    tidy-known c.args.encoding.now c.args.games c.vars-vars.result _ c.requires.games c.vars-vars.ensures.vars
    c.vars-vars.ensures.at_most (here _ _ _ _ _ c.in-Refuted.is c.requires.found.1).tidy

pub raised-requires-clause-clauses : goal.raised-requires-clause-clauses
raised-requires-clause-clauses c =
    refuted-clauses c.args.picked.now.rows (var_count c.args.encoding.now - c.args.games) c.requires.found.0 _
    (here _ _ _ _ _ c.in-Refuted.is c.requires.found.1)

pub raised-requires-in-Spent-clause-known : goal.raised-requires-in-Spent-clause-known
raised-requires-in-Spent-clause-known c =
    tidy-known c.args.encoding.now c.args.games c.vars-vars.result _ c.requires.games c.vars-vars.ensures.vars
    c.vars-vars.ensures.at_most (here _ _ _ _ _ c.in-Spent.is c.requires.found.1).tidy

pub raised-requires-in-Spent-clause-clauses : goal.raised-requires-in-Spent-clause-clauses
raised-requires-in-Spent-clause-clauses c =
    news-clauses c.args.picked.now.rows (var_count c.args.encoding.now - c.args.games) _
    (here _ _ _ _ _ c.in-Spent.is c.requires.found.1).spent.news

pub returns-in_ok-patterns-in-Sat : goal.returns-in_ok-patterns-in-Sat
returns-in_ok-patterns-in-Sat c = λ limit is.
    satisfied_here c.args.encoding.now c.args.games c.args.picked.now.rows c.args.picked.now.numbers.items
    c.in-Sat.values c.in_ok-patterns-in-Sat.patterns c.requires.picked c.requires.games c.vars-vars.ensures.instance
    (here _ _ _ _ _ c.in-Sat.is is).1 c.in_ok-patterns-in-Sat.ensures

pub returns-in_ok-log-in-Refuted : goal.returns-in_ok-log-in-Refuted
returns-in_ok-log-in-Refuted c = λ limit is.
    refuted_by c.args.encoding.now c.args.games c.len-all.result c.args.picked.now.rows
    c.args.picked.now.numbers.items c.requires.picked c.requires.games
    (c.len-all.ensures.len ∙ ap (λ (rows : List Row). length rows) c.rows.ensures) limit c.in-Refuted.log
    c.in_ok-log-in-Refuted.log c.vars-vars.ensures.instance
    (here _ _ _ _ _ c.in-Refuted.is is)
    (c.in_ok-log-in-Refuted.ensures.steps
    ∙ ap (λ (numbers : List ℕ). raised_steps c.args.games numbers c.len-all.result 0 c.in-Refuted.log)
    c.deref.ensures.value)
    c.in_ok-log-in-Refuted.ensures.small

pub returns-in_ok-log-in-Spent : goal.returns-in_ok-log-in-Spent
returns-in_ok-log-in-Spent c = λ limit is.
    spent_by c.args.encoding.now c.args.games c.len-all.result c.args.picked.now.rows
    c.args.picked.now.numbers.items c.requires.picked c.requires.games
    (c.len-all.ensures.len ∙ ap (λ (rows : List Row). length rows) c.rows.ensures) limit c.in-Spent.log
    c.in_ok-log-in-Spent.log (here _ _ _ _ _ c.in-Spent.is is)
    (c.in_ok-log-in-Spent.ensures.steps
    ∙ ap (λ (numbers : List ℕ). raised_steps c.args.games numbers c.len-all.result 0 c.in-Spent.log)
    c.deref-in-Spent.ensures.value)
    c.in_ok-log-in-Spent.ensures.small
