use Rattle.std.proofs.Common.{◌≡◌, ℕ, ◌++◌, List, Some, ap, ◌∙◌}
use Rattle.league.specs.declared.game.Game.{Game}
use Rattle.robinx.specs.Texts.{solution_text}
use Rattle.resume.specs.Near.{changed, open_games}
use Rattle.command_resume.specs.Near.{near_line}
use Rattle.command_resume.proofs.near_replies.schedule_reply.Goals as goal

pub returns-clause-text : goal.returns-clause-text
returns-clause-text c =
    let k = c.args.k in
    let played : List Game = c.args.played.now in
    let season : List Game = c.args.schedule.now in
    let changes : c.changed_games-changed.result ≡ changed k played season =
    c.changed_games-changed.ensures
    ∙ ap (λ (old : List Game). changed k old c.games-2.result.now) c.games.ensures
    ∙ ap (λ (games : List Game). changed k played games) c.games-2.ensures in
    let all : c.open_games-games.result ≡ open_games k played =
    c.open_games-games.ensures ∙ ap (λ (old : List Game). open_games k old) c.games-3.ensures in
    c.in_ok-text.ensures
    ∙ ap
    (λ (n : ℕ). solution_text season (Some (0, c.args.objective)) ++ near_line n c.open_games-games.result c.args.settled)
    changes
    ∙ ap (λ (n : ℕ). solution_text season (Some (0, c.args.objective)) ++ near_line (changed k played season) n c.args.settled)
    all
