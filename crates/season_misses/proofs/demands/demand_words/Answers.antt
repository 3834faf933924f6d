use Rattle.std.proofs.Common.{◌≡◌, ℕ, List, IfOk, length, string_bytes, subst, rules}
use Rattle.season_misses.proofs.DemandLemmas.{parts_text-is}
use Rattle.season_misses.proofs.demands.demand_words.Goals as goal

pub returns-in_default : goal.returns-in_default
returns-in_default c =
    let names = c.args.names.now in
    subst (λ (t : List ℕ). IfOk c.parts_text.result (λ text. string_bytes text ≡ t))
    (parts_text-is (length names) names c.args.class.now (search rules))
    c.parts_text.ensures
