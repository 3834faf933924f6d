use Rattle.std.proofs.Common.{◌≡◌, ℕ, map, ap, ◌∙◌, arith}
use Rattle.league.specs.Counts.{teams_of}
use Rattle.robinx.specs.Names.{label}
use Rattle.robinx.proofs.LabelLemmas.{part_more}
use Rattle.command_show.proofs.texts.labels_of.Goals as goal

pub loop-team-preserved : goal.loop-team-preserved
loop-team-preserved c =
    c.in_ok-push.ensures.items
    ∙ part_more (label c.args.names.now) c.loop-team.team c.loop-team.labels.items _ c.loop-team.invariant (c.new.ensures ∙ c.in_ok-from_str.ensures.ok ∙ c.label-name.ensures)

pub returns : goal.returns
returns c =
    let all : c.loop-team.team ≡ c.args.n = omega (arith, c.loop-team-test.false, c.loop-team.auto.team-end) in
    c.loop-team.invariant ∙ ap (λ (k : ℕ). map (label c.args.names.now) (teams_of k)) all
