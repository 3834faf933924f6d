use Rattle.std.proofs.Common.{◌≡◌, ℕ, List, Bool, Ok, Some, ap, refl, subst, ◌∙◌}
use Rattle.league.specs.Accepted.{IsAccepted, objective}
use Rattle.league.specs.Counts.{counts_of}
use Rattle.league.specs.Instance.{Instance}
use Rattle.league.specs.declared.game.Game.{Game}
use Rattle.robinx.specs.Texts.{solution_text}
use Rattle.rows.specs.Values.{assigned}
use Rattle.encoding.specs.Shadow.{decoded}
use Rattle.decoding.proofs.GameLemmas.{accepted_few, accepted_fit}
use Rattle.command_rows.proofs.values_replies.season_reply.Goals as goal

pub assess-requires-clause-few : goal.assess-requires-clause-few
assess-requires-clause-few c =
    accepted_few c.args.encoding.now.n (assigned c.args.values.now) c.in_ok-schedule.schedule
    c.in_ok-schedule.ensures.games c.in_ok-schedule.ensures.instance.teams.at_most
    (c.in_ok-schedule.ensures.accepted c.requires.met).round_robin.pairs

pub assess-requires-clause-fit : goal.assess-requires-clause-fit
assess-requires-clause-fit c =
    rw c.league.ensures
    (accepted_fit c.args.encoding.now.n (assigned c.args.values.now) c.in_ok-schedule.schedule
    c.in_ok-schedule.ensures.games)

pub returns : goal.returns
returns c =
    let league : Instance = c.args.encoding.now in
    let values : ℕ → Bool = assigned c.args.values.now in
    let schedule : List Game = c.in_ok-schedule.schedule in
    let games : schedule ≡ decoded league.n values = c.in_ok-schedule.ensures.games in
    let is : IsAccepted league (counts_of schedule) = c.in_ok-schedule.ensures.accepted c.requires.met in
    let most = c.in_ok-schedule.ensures.instance.teams.at_most in
    record {
      accepted = subst (λ (gs : List Game). IsAccepted league (counts_of gs)) games is;
      status = refl;
      text = c.in_ok-text.ensures.text
          ∙ ap (λ (cost : ℕ). solution_text schedule (Some (0, cost)))
          (rw c.league.ensures at c.in_ok-assessed.ensures.objective)
          ∙ ap (λ (gs : List Game). solution_text gs (Some (0, objective league (counts_of gs)))) games;
      reads_back = c.in_ok-text.ensures.reads_back league.n most (accepted_fit league.n values schedule games)
          (accepted_few league.n values schedule games most is.round_robin.pairs)
          ∙ ap Ok games;
    }
