use Rattle.std.proofs.Common.{◌≡◌, ℕ, length, arith, ap, ◌∙◌}
use Rattle.std.proofs.lemmas.List.FromFn.{length-range_with_len}
use Rattle.league.specs.Counts.{teams_of}
use Rattle.encoding.proofs.AscendLemmas.{AscendsBy-below}
use Rattle.encoding.proofs.NumberLemmas.{teams_are}
use Rattle.encoding.proofs.season.Season.teams.Goals as goal

pub returns-clause-ascend : goal.returns-clause-ascend
returns-clause-ascend c =
    teams_are c.args.self.now c.deref.result.now
    (c.deref.ensures.value ∙ c.self.invariant.teams ∙ ap (λ (n : ℕ). teams_of n) c.self.view_is)

pub returns-clause-below : goal.returns-clause-below
returns-clause-below c =
    AscendsBy-below (λ t. t) 0 c.deref.result.now c.args.self.now
    (teams_are c.args.self.now c.deref.result.now
    (c.deref.ensures.value ∙ c.self.invariant.teams ∙ ap (λ (n : ℕ). teams_of n) c.self.view_is))

pub returns-clause-few : goal.returns-clause-few
returns-clause-few c =
    ap length (c.deref.ensures.value ∙ c.self.invariant.teams ∙ ap (λ (n : ℕ). teams_of n) c.self.view_is)
    ∙ length-range_with_len 0 c.args.self.now

pub returns-clause-at_most : goal.returns-clause-at_most
returns-clause-at_most c =
    let counted : length c.deref.result.now ≡ c.self.inside.n = ap length
    (c.deref.ensures.value ∙ c.self.invariant.teams) ∙ length-range_with_len 0 c.self.inside.n in
    omega (arith, counted, c.self.invariant.count.at_most)
