use Rattle.std.proofs.Common.{◌≡◌, ℕ, ◌*◌, ◌<◌, ◌≤◌, arith, subst, sym, ◌∙◌}
use Rattle.std.proofs.lemmas.Nat.{mul-le}
use Rattle.std.specs.Prelude.{length}
use Rattle.league.specs.Counts.{Counts, counts_of}
use Rattle.league.specs.Structure.{IsRoundRobin}
use Rattle.moves.specs.Round.{round_counts}
use Rattle.descent.proofs.SeasonLemmas.{below-more}
use Rattle.walk.proofs.GameLemmas.{all-few, below-done, row-fits, within}
use Rattle.walk.proofs.copies.copy_games.Goals as goal

pub add_home_games-requires-clause-room : goal.add_home_games-requires-clause-room
add_home_games-requires-clause-room c =
    let n : ℕ = c.args.board.now.n in
    let home : ℕ = c.loop-home.home in
    let below : home < n = omega arith in
    omega (
      arith,
      row-fits n home (length c.loop-home.games.items) below c.loop-home.invariant.few,
      c.loop-home.invariant.room,
      c.requires.room,
    )

pub loop-home-preserved : goal.loop-home-preserved
loop-home-preserved c = record {
  counts = below-more (round_counts c.args.board.now) c.loop-home.home c.loop-home.games.items
      c.add_home_games.new.games.items c.loop-home.invariant.counts c.add_home_games.ensures.counts;
  fit = c.add_home_games.ensures.fit;
  few = omega (arith, c.add_home_games.ensures.few, c.loop-home.invariant.few);
  room = c.add_home_games.ensures.room ∙ c.loop-home.invariant.room;
}

pub returns-clause-copy : goal.returns-clause-copy
returns-clause-copy c =
    let n : ℕ = c.args.board.now.n in
    let m : Counts = round_counts c.args.board.now in
    let home : ℕ = c.loop-home.home in
    let ends : n ≤ home = omega arith in
    let most : home ≤ n = omega arith in
    let same : n ≤ n = omega arith in
    let counts : counts_of c.loop-home.games.items ≡ m =
    below-done m n home c.loop-home.games.items (within c.args.board.now c.n-home-end.ensures.round) ends
    c.loop-home.invariant.counts in
    let few : length c.loop-home.games.items ≤ n * n =
    omega (arith, c.loop-home.invariant.few, mul-le home n n n most same) in
    record {
      counts = counts;
      fit = c.loop-home.invariant.fit;
      few = all-few n (length c.loop-home.games.items) c.n-home-end.ensures.teams few;
      round_robin = subst (λ (k : Counts). IsRoundRobin n c.args.board.now.phased k) (sym counts)
          c.phased-phased.ensures.round_robin;
    }
