use Rattle.std.proofs.Common.{◌≡◌, List, ℕ, IfOk, codes, map, refl, string_bytes, subst, sym, ap, ◌∙◌}
use Rattle.season_misses.specs.Demands.{meeting_text}
use Rattle.season_misses.specs.Phrases.{bare_bounds_text, listed}
use Rattle.season_misses.proofs.DemandLemmas.{meetings_text-one, meetings_text-some}
use Rattle.season_misses.proofs.demands.meetings_text.Goals as goal

pub returns-then-is_one : goal.returns-then-is_one
returns-then-is_one c =
    let names = c.args.names.now in
    let bounds = c.args.bounds in
    let meetings = c.args.meetings.now in
    let games : string_bytes c.in_ok-games.games ≡ listed (codes "and") (map (meeting_text names) meetings) =
    c.in_ok-games.ensures ∙ ap (listed (codes "and")) (c.deref.ensures.value ∙ c.in_ok-labels.ensures) in
    subst (λ (t : List ℕ). IfOk c.format-then-is_one.result (λ text. string_bytes text ≡ t))
    (meetings_text-one names bounds.min bounds.max meetings c.args.season.now (string_bytes c.in_ok-games.games) c.not_text-not.result.now
    (sym c.is_one.ensures ∙ c.if-is_one.true) games c.not_text-not.ensures)
    c.format-then-is_one.ensures.ok

pub returns : goal.returns
returns c =
    let names = c.args.names.now in
    let bounds = c.args.bounds in
    let meetings = c.args.meetings.now in
    let games : string_bytes c.in_ok-games.games ≡ listed (codes "and") (map (meeting_text names) meetings) =
    c.in_ok-games.ensures ∙ ap (listed (codes "and")) (c.deref.ensures.value ∙ c.in_ok-labels.ensures) in
    subst (λ (t : List ℕ). IfOk c.format-2.result (λ text. string_bytes text ≡ t))
    (meetings_text-some names bounds.min bounds.max meetings c.args.season.now (string_bytes c.in_ok-games.games) (bare_bounds_text bounds.min bounds.max)
    (sym c.is_empty.ensures ∙ c.if-is_empty.false) (sym c.is_one.ensures ∙ c.if-is_one.false) games refl)
    c.format-2.ensures.ok
