use Rattle.std.proofs.Common.{◌≡◌, ℕ, List, IfOk, string_bytes, subst, ap, ◌∙◌}
use Rattle.league.specs.declared.game.Game.{Game}
use Rattle.season_misses.specs.Lines.{lead_line}
use Rattle.season_misses.proofs.apart.lead_text.Goals as goal

pub returns-in-Lead : goal.returns-in-Lead
returns-in-Lead c =
    rw c.in-Lead.is
    (subst (λ (t : List ℕ). IfOk c.lead_line.result (λ text. string_bytes text ≡ t))
    (ap (λ (l : List Game). lead_line c.args.intp c.in-Lead.slot.0 c.args.who.now c.args.other.now l c.games-others.result.now) c.games-games.ensures
    ∙ ap (λ (l : List Game). lead_line c.args.intp c.in-Lead.slot.0 c.args.who.now c.args.other.now c.in-Lead.first l) c.games-others.ensures)
    c.lead_line.ensures)
