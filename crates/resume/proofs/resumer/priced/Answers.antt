use Rattle.std.proofs.Common.{◌≡◌, ℕ, List, ap, sym, subst, ◌∙◌}
use Rattle.std.specs.List.{All}
use Rattle.league.specs.Instance.{IsGame}
use Rattle.league.specs.declared.game.Game.{Game}
use Rattle.rows.specs.Values.{assigned}
use Rattle.encoding.specs.Shadow.{decoded}
use Rattle.decoding.proofs.DecodeLemmas.{accepted}
use Rattle.decoding.proofs.GameLemmas.{accepted_few, decoded_fit}
use Rattle.resume.proofs.resumer.priced.Goals as goal

pub assess-requires-clause-few : goal.assess-requires-clause-few
assess-requires-clause-few c =
    let games : c.in_ok-schedule.schedule ≡ decoded c.args.league.now.n (assigned c.args.values.now) =
    c.in_ok-schedule.ensures ∙ ap (λ (n : ℕ). decoded n (assigned c.args.values.now)) c.n.ensures.n in
    accepted_few c.args.league.now.n (assigned c.args.values.now) c.in_ok-schedule.schedule games
    c.n.ensures.instance.teams.at_most
    (accepted c.args.league.now (assigned c.args.values.now) c.in_ok-schedule.schedule c.n.ensures.instance games
    c.requires.satisfied).round_robin.pairs

pub assess-requires-clause-fit : goal.assess-requires-clause-fit
assess-requires-clause-fit c =
    let games : c.in_ok-schedule.schedule ≡ decoded c.args.league.now.n (assigned c.args.values.now) =
    c.in_ok-schedule.ensures ∙ ap (λ (n : ℕ). decoded n (assigned c.args.values.now)) c.n.ensures.n in
    subst (λ (gs : List Game). All (IsGame c.args.league.now.n) gs) (sym games)
    (decoded_fit c.args.league.now.n (assigned c.args.values.now))
