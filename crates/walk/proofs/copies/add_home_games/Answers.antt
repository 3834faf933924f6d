use Rattle.std.proofs.Common.{ℕ, ◌+◌, Vec, Global, arith, ap, subst, sym, ◌∙◌}
use Rattle.std.specs.Prelude.{length, vec_capacity}
use Rattle.std.specs.List.{All}
use Rattle.league.specs.Counts.{Counts, counts_of}
use Rattle.league.specs.Instance.{IsGame}
use Rattle.league.specs.declared.game.Game.{Game}
use Rattle.moves.specs.Round.{Round, round_counts}
use Rattle.descent.proofs.SeasonLemmas.{IsWithAways, aways-more}
use Rattle.walk.proofs.GameLemmas.{apart, aways-done, aways-itself, within}
use Rattle.walk.proofs.copies.add_home_games.Goals as goal
use Rattle.walk.proofs.copies.add_home_games.Goals.{then-away-home, else-away-home}

pub loop-away-preserved : goal.loop-away-preserved
loop-away-preserved c =
    let board : Round = c.args.board.now in
    let m : Counts = round_counts board in
    let start : Counts = counts_of c.args.games.now.items in
    let home : ℕ = c.args.home.0 in
    let away : ℕ = c.loop-away.away in
    elim c.if-away-home.branch [
      | then-away-home w ↦ record {
        counts = subst (λ (v : Vec Game Global). IsWithAways start m home (away + 1) v.items) (sym w.games-is)
            (aways-more start m home away c.loop-away.games.items w.add_game.new.games.items
            c.loop-away.invariant.counts w.add_game.ensures.counts);
        fit = subst (λ (v : Vec Game Global). All (IsGame board.n) v.items) (sym w.games-is) w.add_game.ensures.fit;
        few = omega (
          arith,
          ap (λ (v : Vec Game Global). length v.items) w.games-is,
          w.add_game.ensures.few,
          c.loop-away.invariant.few,
        );
        room = ap (λ (v : Vec Game Global). vec_capacity v) w.games-is ∙ w.add_game.ensures.room
            ∙ c.loop-away.invariant.room;
      }
      | else-away-home w ↦ record {
        counts = subst (λ (v : Vec Game Global). IsWithAways start m home (away + 1) v.items) (sym w.games-is)
            (aways-itself start m home away c.loop-away.games.items w.if-away-home.false
            (apart board c.n-away-end.ensures.round) c.loop-away.invariant.counts);
        fit = subst (λ (v : Vec Game Global). All (IsGame board.n) v.items) (sym w.games-is)
            c.loop-away.invariant.fit;
        few = omega (
          arith,
          ap (λ (v : Vec Game Global). length v.items) w.games-is,
          c.loop-away.invariant.few,
        );
        room = ap (λ (v : Vec Game Global). vec_capacity v) w.games-is ∙ c.loop-away.invariant.room;
      }
    ]

pub returns-clause-counts : goal.returns-clause-counts
returns-clause-counts c =
    aways-done (counts_of c.args.games.now.items) (round_counts c.args.board.now) c.args.board.now.n c.args.home.0
    c.loop-away.away c.loop-away.games.items (within c.args.board.now c.n-away-end.ensures.round) (omega arith)
    c.loop-away.invariant.counts
