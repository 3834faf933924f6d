use Rattle.std.proofs.Common.{◌≤◌, IfOk, length, ap, subst, sym, ◌∙◌}
use Rattle.league.specs.Instance.{Instance}
use Rattle.encoding.specs.Limit.{most_terms}
use Rattle.encoding.specs.Encoding.{encoding_size}
use Rattle.explain.specs.Used.{AreNamed}
use Rattle.explain.proofs.NamedLemmas.{length-numbered}
use Rattle.explain.proofs.names.named.Goals as goal

pub encode_small-requires : goal.encode_small-requires
encode_small-requires c =
    subst (λ (l : Instance). encoding_size l ≤ most_terms) (sym c.in_ok-whole.ensures) c.requires.small

pub named_of-requires : goal.named_of-requires
named_of-requires c =
    ap (λ (l : Instance). length l.constraints) (c.in_ok-encoding.ensures ∙ c.in_ok-whole.ensures)
    ∙ length-numbered c.args.league.now.constraints c.args.numbers.now c.requires.hard

pub returns : goal.returns
returns c =
    subst
    (λ (l : Instance). IfOk c.named_of.result (λ named. AreNamed l c.args.numbers.now c.args.log.now named.items))
    (c.in_ok-encoding.ensures ∙ c.in_ok-whole.ensures) c.named_of.ensures
