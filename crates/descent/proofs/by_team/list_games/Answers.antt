use Rattle.std.proofs.Common.{◌≡◌, ◌+◌, ◌<◌, ◌≤◌, ◌++◌, ◌∷◌, [], ℕ, List, length, get_or, take, ap, subst, sym, ◌∙◌, arith}
use Rattle.std.proofs.lemmas.List.{append_assoc, take_all, take_more}
use Rattle.std.specs.List.{All}
use Rattle.league.specs.Instance.{IsGame}
use Rattle.league.specs.declared.game.Game.{Game}
use Rattle.descent.specs.ByTeam.{AreByTeam, GameRoom, games_at, no_games, with_game}
use Rattle.descent.proofs.ByTeamLemmas.{AreByTeam-more, length-with_game, room-more, spare-more, spare_away}
use Rattle.descent.proofs.TouchedLemmas.{no_game}
use Rattle.descent.proofs.by_team.list_games.Goals as goal

pub list_at-requires-clause-spare : goal.list_at-requires-clause-spare
list_at-requires-clause-spare c =
    let lists = c.loop-game.lists in
    let at = c.loop-game.game-index in
    let game = get_or c.args.games.now at no_game in
    let fits : IsGame (length c.args.lists.now) game = c.requires.fit at no_game c.loop-game-test.true in
    let home : game.home.0 < length lists = omega (arith, fits.home, c.loop-game.auto.lists) in
    let all : All (λ r. length r.list + (length c.args.games.now + 0) ≤ r.room + at) lists =
    c.loop-game.invariant.spare 0 (λ k d h. omega (arith, c.requires.spare k d h)) in
    omega (arith, all game.home.0 no_games home, c.loop-game-test.true)

pub list_at-requires-in-loop-game-clause-spare : goal.list_at-requires-in-loop-game-clause-spare
list_at-requires-in-loop-game-clause-spare c =
    let lists = c.loop-game.lists in
    let at = c.loop-game.game-index in
    let game = get_or c.args.games.now at no_game in
    let fits : IsGame (length c.args.lists.now) game = c.requires.fit at no_game c.loop-game-test.true in
    let away : game.away.0 < length lists = omega (arith, fits.away, c.loop-game.auto.lists) in
    let all : All (λ r. length r.list + (length c.args.games.now + 0) ≤ r.room + at) lists =
    c.loop-game.invariant.spare 0 (λ k d h. omega (arith, c.requires.spare k d h)) in
    subst (λ (l : List GameRoom). length (games_at l game.away.0) < (get_or l game.away.0 no_games).room)
    (sym c.list_at.ensures)
    (omega (
      arith,
      spare_away lists game.home.0 game.away.0 game (length c.args.games.now + 0) at (λ e. fits.differ (sym e)) away all,
      c.loop-game-test.true,
    ))

pub loop-game-preserved : goal.loop-game-preserved
loop-game-preserved c =
    let n : ℕ = length c.args.lists.now in
    let lists = c.loop-game.lists in
    let games = c.args.games.now in
    let at = c.loop-game.game-index in
    let game = get_or games at no_game in
    let fits : IsGame n game = c.requires.fit at no_game c.loop-game-test.true in
    let home : game.home.0 < length lists = omega (arith, fits.home, c.loop-game.auto.lists) in
    let away : game.away.0 < length lists = omega (arith, fits.away, c.loop-game.auto.lists) in
    let first : List GameRoom = with_game lists game.home.0 game in
    let both : c.list_at-in-loop-game.new.lists ≡ with_game first game.away.0 game =
    c.list_at-in-loop-game.ensures
    ∙ ap (λ (l : List GameRoom). with_game l game.away.0 game) c.list_at.ensures in
    record {
      within = omega (arith, c.loop-game-test.true);
      listed = λ before start.
          let grown : before ++ take (at + 1) games ≡ (before ++ take at games) ++ game ∷ [] =
          ap (λ (l : List Game). before ++ l) (take_more games at no_game c.loop-game-test.true)
          ∙ sym (append_assoc before (take at games) (game ∷ [])) in
          subst (λ (l : List GameRoom). AreByTeam n (before ++ take (at + 1) games) l) (sym both)
          (subst (λ (l : List Game). AreByTeam n l (with_game first game.away.0 game)) (sym grown)
          (AreByTeam-more n (before ++ take at games) lists game fits (c.loop-game.invariant.listed before start)));
      room = λ room start.
          subst (λ (l : List GameRoom). All (λ r. room ≤ r.room) l) (sym both)
          (room-more room first game.away.0 game (omega (arith, away, length-with_game lists game.home.0 game))
          (room-more room lists game.home.0 game home (c.loop-game.invariant.room room start)));
      spare = λ rest start.
          subst (λ (l : List GameRoom). All (λ r. length r.list + (length games + rest) ≤ r.room + (at + 1)) l) (sym both)
          (spare-more lists game.home.0 game.away.0 game (length games + rest) at (λ e. fits.differ (sym e)) home away
          (c.loop-game.invariant.spare rest start));
    }

pub returns-clause-listed : goal.returns-clause-listed
returns-clause-listed c = λ before start.
    subst (λ (l : List Game). AreByTeam (length c.args.lists.now) (before ++ l) c.loop-game.lists)
    (take_all c.loop-game.game-index c.args.games.now (omega (arith, c.loop-game-test.false)))
    (c.loop-game.invariant.listed before start)

pub returns-clause-spare : goal.returns-clause-spare
returns-clause-spare c = λ rest start k d h.
    omega (arith, c.loop-game.invariant.spare rest start k d h, c.loop-game.invariant.within)
