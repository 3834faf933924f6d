use Rattle.std.proofs.Common.{List, ℕ, [], ◌∷◌, max, min, ap, sym, ◌∙◌}
use Rattle.rule_core.specs.KeptPairs.{key_at}
use Rattle.rule_core.specs.Keys.{with_keys}
use Rattle.rule_core.specs.Pairs.{key_between}
use Rattle.rule_core.proofs.KeyLemmas.{no_more}
use Rattle.rule_core.proofs.PairLemmas.{key_between-no_first, key_between-no_second, key_between-places}
use Rattle.rule_core.proofs.pairs.Pairs.push_key.Goals as goal

pub returns-in-Some-key : goal.returns-in-Some-key
returns-in-Some-key c =
    let teams = c.self.inside.teams in
    let i = c.in-Some.one in
    let j = c.in-Some-key.other in
    let between = key_between-places teams c.args.one c.args.other i j c.self.invariant.ascending c.requires.differ c.in-Some.ensures.key.0 c.in-Some-key.ensures.key.0 c.in-Some.ensures.key.1 c.in-Some-key.ensures.key.1 in
    c.push.ensures
    ∙ ap (λ (k : ℕ). with_keys c.args.keys.now (k ∷ []))
    (c.key-in-Some-key.ensures ∙ ap (λ (p : ℕ). key_at c.args.self.now p c.max.result) c.min.ensures ∙ ap (λ (p : ℕ). key_at c.args.self.now (min i j) p) c.max.ensures ∙ ap (λ (xs : List ℕ). key_at xs (min i j) (max i j)) (sym c.self.view_is))
    ∙ ap (with_keys c.args.keys.now) (sym between.2 ∙ ap (λ (xs : List ℕ). key_between xs c.args.one c.args.other) c.self.view_is)

pub returns-in_default-key : goal.returns-in_default-key
returns-in_default-key c =
    let teams = c.self.inside.teams in
    no_more c.args.keys.now (key_between teams c.args.one c.args.other) (key_between-no_second teams c.args.one c.args.other c.in_default-key.ensures.key)
    ∙ ap (λ (xs : List ℕ). with_keys c.args.keys.now (key_between xs c.args.one c.args.other)) c.self.view_is

pub returns-in_default : goal.returns-in_default
returns-in_default c =
    let teams = c.self.inside.teams in
    no_more c.args.keys.now (key_between teams c.args.one c.args.other) (key_between-no_first teams c.args.one c.args.other c.in_default.ensures.key)
    ∙ ap (λ (xs : List ℕ). with_keys c.args.keys.now (key_between xs c.args.one c.args.other)) c.self.view_is
