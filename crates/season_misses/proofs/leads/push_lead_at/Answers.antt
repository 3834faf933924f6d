use Rattle.std.proofs.Common.{ℕ, ◌-◌, ap, ◌∙◌}
use Rattle.season_misses.proofs.StepLemmas.{lead_added}
use Rattle.season_misses.proofs.leads.push_lead_at.Goals as goal

pub returns : goal.returns
returns c =
    lead_added c.args.reasons.now.items _ c.args.pair.key c.from.result _ c.args.slot c.in_ok-home_games_to.field-0 _ c.in_ok-home_games_to-2.field-0 _ c.in_ok-push_missed.ensures
    (c.from.ensures ∙ c.saturating_sub-amount.ensures ∙ ap (λ (x : ℕ). x - c.args.intp) c.requires.far)
    c.in_ok-home_games_to.ensures c.in_ok-home_games_to-2.ensures
