use Rattle.std.proofs.Common.{◌≤◌, inl, ap, refl, ◌∙◌}
use Rattle.encoding.specs.Limit.{most_terms}
use Rattle.encoding.specs.Encoding.{encoding_size}
use Rattle.command_rows.specs.Rowed.{league_system, rows_answer}
use Rattle.command_rows.proofs.rows_stages.rows_of_league.Goals as goal

pub returns-in_ok-of_league-in-Ok-clause-answer : goal.returns-in_ok-of_league-in-Ok-clause-answer
returns-in_ok-of_league-in-Ok-clause-answer c =
    let few : encoding_size c.args.league.now ≤ most_terms = c.in-Ok.ensures.limit.within refl in
    inl (few, ap rows_answer (c.in_ok-of_league-in-Ok.ensures ∙ ap league_system c.in-Ok.ensures.league))

pub returns-in_ok-of_league-in-Ok-clause-rows : goal.returns-in_ok-of_league-in-Ok-clause-rows
returns-in_ok-of_league-in-Ok-clause-rows c =
    c.in_ok-of_league-in-Ok.ensures ∙ ap league_system c.in-Ok.ensures.league
