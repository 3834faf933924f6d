use Rattle.std.proofs.Common.{List, subst, sym}
use Rattle.std.specs.List.{All}
use Rattle.std.proofs.lemmas.List.Elements.{All-push}
use Rattle.league.specs.Counts.{counts_of}
use Rattle.league.specs.Instance.{IsGame}
use Rattle.league.specs.declared.game.Game.{Game}
use Rattle.moves.specs.Round.{round_counts}
use Rattle.descent.proofs.SeasonLemmas.{IsWithMeeting}
use Rattle.walk.proofs.GameLemmas.{game-more}
use Rattle.walk.proofs.copies.add_game.Goals as goal

pub returns-clause-fit : goal.returns-clause-fit
returns-clause-fit c =
    let g : Game = record { home = c.args.home; away = c.args.away; slot = c.slot_of-slot.result } in
    subst (λ (games : List Game). All (IsGame c.args.board.now.n) games) (sym c.push_reserved.ensures.items)
    (All-push (IsGame c.args.board.now.n) c.args.games.now.items g c.requires.fit
    (record {
      home = c.requires.home;
      away = c.requires.away;
      differ = c.requires.differ;
      slot = c.slot_of-slot.ensures.below;
    }))

pub returns-clause-counts : goal.returns-clause-counts
returns-clause-counts c =
    let g : Game = record { home = c.args.home; away = c.args.away; slot = c.slot_of-slot.result } in
    subst
    (λ (games : List Game). IsWithMeeting (counts_of c.args.games.now.items) (round_counts c.args.board.now)
    c.args.home.0 c.args.away.0 games) (sym c.push_reserved.ensures.items)
    (game-more (round_counts c.args.board.now) c.args.games.now.items g c.slot_of-slot.ensures.at)
