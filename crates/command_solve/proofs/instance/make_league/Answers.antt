use Rattle.std.proofs.Common.{◌≡◌, ℕ, ◌+◌, List, length, Ok, ap, subst, ◌∙◌}
use Rattle.league.specs.Accepted.{IsAccepted}
use Rattle.league.specs.Counts.{counts_of}
use Rattle.league.specs.Instance.{Instance}
use Rattle.circle_method.specs.Circle.{double_games}
use Rattle.robinx.specs.Texts.{instance_text}
use Rattle.answers.specs.Reply.{Answer}
use Rattle.answers.specs.declared.status.Status.TheVariants.{Yes}
use Rattle.command_solve.proofs.instance.make_league.Goals as goal

pub returns : goal.returns
returns c = record {
  made = ap (λ (text : List ℕ). let a : Answer = record { status = Yes; text = text } in a)
      (c.in_ok-text.ensures.text ∙ ap (λ (league : Instance). instance_text league) c.in_ok-league.ensures.league);
  reads_back = c.in_ok-text.ensures.reads_back ∙ ap (λ (league : Instance). Ok league) c.in_ok-league.ensures.league;
  count = subst (λ (league : Instance). length league.constraints ≡ c.args.n + 17) c.in_ok-league.ensures.league
      c.in_ok-league.ensures.count;
  accepts = subst (λ (league : Instance). IsAccepted league (counts_of (double_games c.args.n)))
      c.in_ok-league.ensures.league c.in_ok-league.ensures.accepts;
}
