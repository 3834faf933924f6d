use Rattle.std.proofs.Common.{◌≡◌, ◌+◌, ◌++◌, ℕ, List, IfOk, length, codes, string_bytes, refl, subst, ap, ◌∙◌}
use Rattle.league.specs.declared.game.Game.{Game}
use Rattle.season_misses.specs.Amounts.{beyond_text, count_text, stretch_text, windows_text}
use Rattle.season_misses.specs.Games.{games_after}
use Rattle.season_misses.specs.Lines.{games_told, slot_told}
use Rattle.season_misses.proofs.PartLemmas.{five_parts}
use Rattle.season_misses.proofs.lines.window_line.Goals as goal

pub returns : goal.returns
returns c =
    let windows = c.args.windows in
    let cause = windows.row.reason.now.cause in
    let games : List Game = games_told cause in
    let is_games : c.games_told-games.result.now ≡ games = c.games_told-games.ensures in
    subst (λ (t : List ℕ). IfOk c.format.result (λ text. string_bytes text ≡ t))
    (five_parts
    (λ (count stretch beyond runs after : List ℕ). c.args.who.now ++ (codes " has " ++ (count ++ (codes " in " ++ (stretch ++ (codes ", " ++ (beyond ++ (runs ++ after))))))))
    (count_text (length c.games_told-games.result.now)) (string_bytes c.in_ok-stretch.stretch) (beyond_text c.args.bounds.min c.args.bounds.max (length c.games_told-games.result.now)) (windows_text windows.row.more windows.intp) (string_bytes c.in_ok-after.after)
    (count_text (length games)) (stretch_text windows.n (slot_told cause) (windows.row.more + windows.intp)) (beyond_text c.args.bounds.min c.args.bounds.max (length games)) (windows_text windows.row.more windows.intp) (games_after c.args.names.now games)
    (ap (λ (l : List Game). count_text (length l)) is_games)
    (c.in_ok-stretch.ensures ∙ ap (λ (k : ℕ). stretch_text windows.n c.slot_told.result (windows.row.more + k)) c.from.ensures ∙ ap (λ (k : ℕ). stretch_text windows.n k (windows.row.more + windows.intp)) c.slot_told.ensures)
    (ap (λ (l : List Game). beyond_text c.args.bounds.min c.args.bounds.max (length l)) is_games)
    refl
    (c.in_ok-after.ensures ∙ ap (games_after c.args.names.now) is_games))
    c.format.ensures.ok
