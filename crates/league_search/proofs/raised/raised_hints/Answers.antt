use Rattle.std.proofs.Common.{ℕ, ◌^◌, ◌<◌, List, get_or, arith, subst}
use Rattle.std.proofs.lemmas.Grind.{common_steps}
use Rattle.std.proofs.lemmas.List.Elements.{All-from_get_or, filter_map-append}
use Rattle.league_search.proofs.raised.raised_hints.Goals as goal

pub loop-hint-preserved : goal.loop-hint-preserved
loop-hint-preserved c = grind (arith, common_steps, filter_map-append)

pub returns-clause-small : goal.returns-clause-small
returns-clause-small c =
    All-from_get_or (λ (hint : ℕ). hint < 2 ^ 64) c.loop-hint.raised.items 0
    (λ k within. subst (λ (words : List ℕ). get_or words k 0 < 2 ^ 64) c.deref.ensures.value (c.are_words.ensures k))
