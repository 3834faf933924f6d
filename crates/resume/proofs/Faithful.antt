-- The resume rows are faithful both ways.
use Rattle.std.proofs.Common.{ℕ, Bool, arith, ◌∙◌}
use Rattle.std.proofs.lemmas.List.Elements.{All-append}
use Rattle.league.specs.Counts.{counts_of}
use Rattle.rows.specs.Rows.{Satisfies}
use Rattle.rows.proofs.TestLemmas.{SatisfiesAll-from_true, all_satisfied-true}
use Rattle.encoding.specs.Encoding.{rows_of}
use Rattle.encoding.specs.Shadow.{decoded}
use Rattle.encoding.specs.Variables.{has_breaks, var_count}
use Rattle.decoding.proofs.Faithful.{accepted-from_rows, rows-from_accepted}
use Rattle.decoding.proofs.SeasonRows.{both_satisfied}
use Rattle.decoding.proofs.SomeShadow.{shadow_values, some_shadow}
use Rattle.refutation_check.proofs.SoundLemmas.{accepted_logs_refute}
use Rattle.resume.specs.Kept.{kept_rows, resume_rows}
use Rattle.resume.specs.Resumable.{AcceptedLogsExclude, AnswersResume, AreFaithful, ShadowsResume}
use Rattle.resume.proofs.KeptLemmas.{keeps-from_rows, rows-from_kept}

pub resumption-from_rows : AnswersResume
resumption-from_rows league played k values is fit season meets =
    let all = both_satisfied values (rows_of league) (kept_rows league.n (counts_of played) k)
    (all_satisfied-true values (resume_rows league (counts_of played) k) meets) in
    record {
      accepted = accepted-from_rows league values is (SatisfiesAll-from_true values (rows_of league) all.0);
      keeps = keeps-from_rows league.n played k values fit season
          (SatisfiesAll-from_true values (kept_rows league.n (counts_of played) k) all.1);
    }

pub rows-from_resumption : ShadowsResume
rows-from_resumption league played games k values is season resumes shadow =
    All-append (Satisfies values) (rows_of league) (kept_rows league.n (counts_of played) k)
    (rows-from_accepted league (counts_of games) values is resumes.accepted shadow)
    (rows-from_kept values league.n (counts_of played) k
    (λ i j s home away differ slot.
    shadow.games i j s home away differ (omega (arith, slot, season)) ∙ resumes.keeps i j s slot))

pub resume_rows-faithful : AreFaithful
resume_rows-faithful league played k is fit season = (
  λ found. (
    decoded league.n found.0,
    resumption-from_rows league played k found.0 is fit season found.1,
  ),
  λ found. (
    shadow_values league.n (counts_of found.0),
    rows-from_resumption league played found.0 k (shadow_values league.n (counts_of found.0)) is season found.1
        (some_shadow league.n (counts_of found.0) (has_breaks league.constraints)),
  ),
)

pub accepted_logs_exclude : AcceptedLogsExclude
accepted_logs_exclude league played k steps is season accepted games resumes =
    let values : ℕ → Bool = shadow_values league.n (counts_of games) in
    accepted_logs_refute (resume_rows league (counts_of played) k) (var_count league) steps accepted values
    (rows-from_resumption league played games k values is season resumes
    (some_shadow league.n (counts_of games) (has_breaks league.constraints)))
