use Rattle.std.proofs.Common.{ap, subst}
use Rattle.league.specs.Counts.{counts_of}
use Rattle.encoding.specs.Variables.{var_count}
use Rattle.clause_search.specs.Answers.{IsAnswer}
use Rattle.resume.specs.Systems.{PartlyPlayed, rows_for}
use Rattle.resume.proofs.AnswerLemmas.{meets_league, told_resumed}
use Rattle.resume.proofs.resumer.searched.Goals as goal

pub found_in-requires-clause-league : goal.found_in-requires-clause-league
found_in-requires-clause-league g c = ap (λ (r : PartlyPlayed). r.league) c.in_ok-system.ensures.of

pub told-requires : goal.told-requires
told-requires g c =
    let by = c.in_ok-found.ensures.answer in
    meets_league c.args.league.now (counts_of c.args.played.now) c.args.k by.kept c.in_ok-found.found
    (subst
    (λ (r : PartlyPlayed). IsAnswer (rows_for r) (var_count r.league) by.kept c.in_ok-found.found)
    c.in_ok-system.ensures.of by.answer)

pub returns-clause-answer : goal.returns-clause-answer
returns-clause-answer g c =
    let by = c.in_ok-found.ensures.answer in (
      by.kept,
      by.is_kept,
      told_resumed c.args.league.now c.args.played.now c.args.k by.kept c.in_ok-found.found
          c.in_ok-resumed.resumed c.in_ok-found.ensures.instance c.requires.fit c.requires.slots
          (subst
          (λ (r : PartlyPlayed). IsAnswer (rows_for r) (var_count r.league) by.kept c.in_ok-found.found)
          c.in_ok-system.ensures.of by.answer)
          c.in_ok-resumed.ensures,
    )
