use Rattle.std.proofs.Common.{subst}
use Rattle.league.specs.Counts.{counts_of}
use Rattle.encoding.specs.Known.{AreKnown}
use Rattle.encoding.specs.Variables.{var_count}
use Rattle.resume.specs.Systems.{PartlyPlayed, rows_for}
use Rattle.resume.proofs.KnownLemmas.{resume_rows-known}
use Rattle.resume.proofs.system.ResumeSystem.vars.Goals as goal

pub returns-clause-known : goal.returns-clause-known
returns-clause-known c =
    subst (λ (r : PartlyPlayed). AreKnown (var_count r.league) (rows_for r)) c.self.view_is
    (resume_rows-known c.self.inside.league (counts_of c.self.inside.played) c.self.inside.k
    c.self.invariant.instance c.self.invariant.within)
