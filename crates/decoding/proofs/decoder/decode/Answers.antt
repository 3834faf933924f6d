-- What the variables of games say is what the whole assignment decodes to.
use Rattle.std.proofs.Common.{ℕ, arith, ap, ◌∙◌}
use Rattle.rows.specs.Values.{assigned}
use Rattle.encoding.specs.Shadow.{decoded}
use Rattle.encoding.specs.Variables.{x_count}
use Rattle.decoding.proofs.DecodeLemmas.{accepted}
use Rattle.decoding.proofs.decoder.decode.Goals as goal

pub decode_games-requires-clause-made_for : goal.decode_games-requires-clause-made_for
decode_games-requires-clause-made_for c = omega (arith, ap (λ (k : ℕ). x_count k) c.n.ensures.n, c.requires)

pub returns-clause-games : goal.returns-clause-games
returns-clause-games c =
    c.in_ok-schedule.ensures.games ∙ ap (λ (k : ℕ). decoded k (assigned c.args.assignment.now)) c.n.ensures.n

pub returns-clause-accepted : goal.returns-clause-accepted
returns-clause-accepted c =
    accepted c.args.encoding.now (assigned c.args.assignment.now) c.in_ok-schedule.schedule c.n.ensures.instance
    (returns-clause-games c)
