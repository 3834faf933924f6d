use Rattle.std.proofs.Common.{ℕ, arith, ap}
use Rattle.rows.specs.Values.{assigned}
use Rattle.encoding.specs.Variables.{x_count}
use Rattle.bounds.proofs.ProofLemmas.{games-le, lower-of}
use Rattle.bounds.proofs.prover.schedule_of.Goals as goal

pub decode_games-requires-clause-made_for : goal.decode_games-requires-clause-made_for
decode_games-requires-clause-made_for c =
    omega (arith, games-le c.args.league.now, ap (λ (k : ℕ). x_count k) c.n.ensures.n, c.requires.count)

pub returns : goal.returns
returns c =
    lower-of c.args.league.now c.args.objective c.n.result (assigned c.args.values.now)
    c.in_ok-schedule.schedule c.n.ensures.instance c.requires.some c.requires.satisfied
    c.n.ensures.n c.in_ok-schedule.ensures.games
    c.in_ok-schedule.ensures.in_order
