use Rattle.std.proofs.Common.{◌≡◌, ap, subst, sym, ◌∙◌}
use Rattle.league.specs.Instance.{IsInstance}
use Rattle.encoding.specs.Variables.{var_count}
use Rattle.refutation.specs.Verdict.{verdict_of}
use Rattle.refutation.specs.declared.verdict.Verdict.TheVariants.{Accepted}
use Rattle.resume.specs.Systems.{PartlyPlayed, rows_for}
use Rattle.resume.proofs.Faithful.{accepted_logs_exclude}
use Rattle.resume.proofs.checked.check_resume.Goals as goal

pub returns-clause-none : goal.returns-clause-none
returns-clause-none c = λ accepted.
    let same : c.in_ok-verdict.verdict ≡ Accepted = cc in
    accepted_logs_exclude c.args.league.now c.args.played.now c.args.k c.args.log.now
    (subst (λ (r : PartlyPlayed). IsInstance r.league) c.in_ok-system.ensures.of c.in_ok-verdict.ensures.instance)
    c.requires.slots
    (ap (λ (r : PartlyPlayed). verdict_of (rows_for r) (var_count r.league) c.args.log.now)
    (sym c.in_ok-system.ensures.of) ∙ sym c.in_ok-verdict.ensures.verdict ∙ same)
