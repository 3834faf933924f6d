use Rattle.std.proofs.Common.{List, ℕ, ap, ◌∙◌}
use Rattle.rule_core.specs.Keys.{with_keys}
use Rattle.rule_core.specs.Pairs.{keys_with}
use Rattle.rule_core.proofs.KeyLemmas.{no_more}
use Rattle.rule_core.proofs.PairLemmas.{keys_with-none}
use Rattle.rule_core.proofs.pairs.Pairs.push_keys.Goals as goal

pub returns-in_default : goal.returns-in_default
returns-in_default c =
    let teams = c.self.inside.teams in
    no_more c.args.keys.now (keys_with teams c.args.team) (keys_with-none c.args.team teams c.in_default.ensures.key)
    ∙ ap (λ (xs : List ℕ). with_keys c.args.keys.now (keys_with xs c.args.team)) c.self.view_is
