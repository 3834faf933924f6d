use Rattle.std.proofs.Common.{◌≡◌, ℕ, ◌+◌, ◌*◌, arith, ap, ◌∙◌}
use Rattle.std.proofs.lemmas.Nat.{mul-le}
use Rattle.league.proofs.RangeLemmas.{summed}
use Rattle.rule_core.specs.Table.{table_counts}
use Rattle.deviation.specs.Between.{counted}
use Rattle.deviation.proofs.CapacityHosts.{at_home_to, games_by_guest_to}
use Rattle.deviation.proofs.opponents.Opponents.games_with_each.Goals as goal
use Rattle.deviation.proofs.opponents.Opponents.games_with_each.Goals.{then-played-gt0, else-played-gt0}

pub overflow_mul-games : goal.overflow_mul-games
overflow_mul-games c = omega (
  arith,
  mul-le c.one_game.result c.at-played.result 1 10000 c.one_game.ensures.at_most c.at-played.ensures.at_most,
)

pub overflow_add-games : goal.overflow_add-games
overflow_add-games c = omega (
  arith,
  c.loop-guest.invariant.bounded,
  c.requires.few,
  mul-le c.one_game.result c.at-played.result 1 10000 c.one_game.ensures.at_most c.at-played.ensures.at_most,
)

pub loop-guest-preserved : goal.loop-guest-preserved
loop-guest-preserved c =
    let self = c.args.self.now in
    let m = table_counts c.args.cells.now in
    let host : ℕ = c.args.host.0 in
    let guest : ℕ = c.loop-guest.guest in
    let among : ℕ = counted self.side self.teams1 self.teams2 host guest in
    let term : ℕ → ℕ = at_home_to m self.side self.teams1 self.teams2 c.args.slot.0 host in
    elim c.if-played-gt0.branch [
      | then-played-gt0 w ↦
          let value : w.one_game.result * c.at-played.result ≡ term guest =
          ap (λ (x : ℕ). x * c.at-played.result) w.one_game.ensures.games
          ∙ ap (λ (y : ℕ). among * y) c.at-played.ensures.count in
          record {
            counted = summed term guest c.loop-guest.games _ c.loop-guest.invariant.counted
                (w.games-is ∙ ap (λ (x : ℕ). c.loop-guest.games + x) value);
            bounded = omega (
              arith,
              w.games-is,
              c.loop-guest.invariant.bounded,
              mul-le w.one_game.result c.at-played.result 1 10000 w.one_game.ensures.at_most
                  c.at-played.ensures.at_most,
            );
          }
      | else-played-gt0 w ↦
          let none : m host guest c.args.slot.0 ≡ 0 = omega
          (arith, w.if-played-gt0.false, c.at-played.ensures.count) in
          record {
            counted = summed term guest c.loop-guest.games _ c.loop-guest.invariant.counted
                (omega (arith, w.games-is, ap (λ (y : ℕ). among * y) none));
            bounded = omega (arith, w.games-is, c.loop-guest.invariant.bounded);
          }
    ]

pub returns-clause-games : goal.returns-clause-games
returns-clause-games c =
    let self = c.args.self.now in
    games_by_guest_to (table_counts c.args.cells.now) self.side self.teams1 self.teams2 c.args.slot.0
    c.args.cells.now.n c.args.host.0 c.loop-guest.guest c.loop-guest.games (omega arith)
    c.loop-guest.invariant.counted

pub returns-clause-at_most : goal.returns-clause-at_most
returns-clause-at_most c = omega (arith, c.loop-guest.invariant.bounded, c.requires.few)
