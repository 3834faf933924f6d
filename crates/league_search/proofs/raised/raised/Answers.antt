use Rattle.std.proofs.Common.{ℕ, ◌<◌, ◌^◌, List, ap, arith, map, sym, subst, ◌∙◌}
use Rattle.std.specs.List.{All, filter_map}
use Rattle.std.proofs.lemmas.List.Elements.{All-nil}
use Rattle.rows.specs.Literals.{Literal}
use Rattle.refutation.specs.Steps.{Step}
use Rattle.league_search.specs.Raised.{number_of, raised_literal}
use Rattle.league_search.proofs.NewsLemmas.{HasSmallHints, raised-more, small-more}
use Rattle.league_search.proofs.raised.raised.Goals as goal

pub loop-k-init : goal.loop-k-init
loop-k-init c = record {
  steps = c.new-raised.ensures;
  small = subst (λ (steps : List Step). All HasSmallHints steps) (sym c.new-raised.ensures) (All-nil HasSmallHints);
}

pub loop-k-preserved : goal.loop-k-preserved
loop-k-preserved c = record {
  steps = raised-more c.args.games c.args.numbers.now c.args.all c.args.log.now c.loop-k.k c.deref.result.now
      c.deref-in-loop-k.result.now c.loop-k.raised c.push.new.self (omega arith)
      (c.deref.ensures.value ∙ c.in_ok-clause.ensures
      ∙ ap (λ (clause : List Literal). map (raised_literal c.args.games) clause) c.clause.ensures)
      (c.deref-in-loop-k.ensures.value ∙ c.in_ok-hints.ensures.numbers
      ∙ ap (λ (hints : List ℕ). filter_map (number_of c.args.numbers.now c.args.all c.loop-k.k) hints)
      c.hints.ensures)
      c.loop-k.invariant.steps c.in_ok-push.ensures.ok;
  small = small-more c.deref.result.now c.deref-in-loop-k.result.now c.loop-k.raised c.push.new.self
      (subst (λ (hints : List ℕ). All (λ hint. hint < 2 ^ 64) hints) (sym c.deref-in-loop-k.ensures.value)
      c.in_ok-hints.ensures.small) c.loop-k.invariant.small c.in_ok-push.ensures.ok;
}

pub returns-clause-small : goal.returns-clause-small
returns-clause-small c = c.loop-k.invariant.small
