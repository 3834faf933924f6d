use Rattle.std.proofs.Common.{List, ℕ, [], ◌∷◌, ◌++◌, ap, sym, ◌∙◌}
use Rattle.encoding.proofs.NumberLemmas.{numbers-more}
use Rattle.resume.proofs.system.all_teams.Goals as goal

pub loop-team-preserved : goal.loop-team-preserved
loop-team-preserved c =
    c.in_ok-push.ensures.items ∙ ap (λ (xs : List ℕ). xs ++ c.loop-team.team ∷ []) c.loop-team.invariant
    ∙ sym (numbers-more c.loop-team.team)
