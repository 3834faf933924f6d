use Rattle.std.proofs.Common.{◌≡◌, ℕ, List, OnOk, subst}
use Rattle.league.specs.Sets.{with_item, pair_cmp}
use Rattle.league.proofs.pair_set.PairSet.insert.Goals as goal

-- the set inside has the same view
pub returns-clause-ok : goal.returns-clause-ok
returns-clause-ok c =
    subst (λ (l : List (ℕ × ℕ)). OnOk c.insert.result (c.insert.new.self ≡ with_item pair_cmp (c.args.pair.0.0, c.args.pair.1.0) l)) c.self.view_is c.insert.ensures.ok
