use Rattle.std.proofs.Common.{ℕ, ◌++◌, ap, sym, subst, ◌∙◌, IsTrue}
use Rattle.std.proofs.lemmas.Result.{on_ok_weaker}
use Rattle.league.specs.Instance.{IsTeamCount, class_fits}
use Rattle.league.specs.Meetings.{meetings_of}
use Rattle.encoding.specs.Encoding.{class_rows}
use Rattle.encoding.proofs.demands.add_class_rows.Goals as goal

pub add_subjects-requires-clause-n : goal.add_subjects-requires-clause-n
add_subjects-requires-clause-n c = subst (λ (k : ℕ). IsTeamCount k) (sym c.n.ensures.n) c.requires.n

pub add_subjects-requires-clause-all : goal.add_subjects-requires-clause-all
add_subjects-requires-clause-all c = c.meetings.ensures.meetings ∙ ap meetings_of (sym c.n.ensures.n)

pub add_subjects-requires-clause-fits : goal.add_subjects-requires-clause-fits
add_subjects-requires-clause-fits c =
    subst (λ (k : ℕ). IsTrue (class_fits k c.args.class.now)) (sym c.n.ensures.n) c.requires.fits

pub returns-clause-rows : goal.returns-clause-rows
returns-clause-rows c =
    on_ok_weaker c.add_subjects.result
    (λ is. is ∙ ap (λ (k : ℕ). c.args.draft.now.rows ++ class_rows k c.args.class.now) c.n.ensures.n)
    c.add_subjects.ensures.rows
