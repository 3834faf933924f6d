use Rattle.std.proofs.Common.{◌≡◌, ℕ, Bool, true, false, get_or, arith}
use Rattle.std.proofs.lemmas.Bool.{both_ways}
use Rattle.moves.proofs.LegalLemmas.{teams-done, teams-refused}
use Rattle.moves.proofs.legality.exchange_teams_if_legal.Goals as goal

pub returns-then-not-keep_phases : goal.returns-then-not-keep_phases
returns-then-not-keep_phases c =
    let set : ℕ → Bool = λ r. get_or c.args.marks.now r false in
    let fails : c.keep_phases.result ≡ false = grind arith in
    teams-refused c.args.board.now set c.args.i.0 c.args.j.0 c.args.edit.now c.n-round.ensures.round c.requires.order c.requires.j c.requires.closed c.requires.empty
    (λ keep. both_ways c.keep_phases.result fails (c.keep_phases.ensures.1 keep))

pub returns : goal.returns
returns c =
    let set : ℕ → Bool = λ r. get_or c.args.marks.now r false in
    let is : c.keep_phases.result ≡ true = grind arith in
    teams-done c.args.board.now set c.args.i.0 c.args.j.0 c.exchange_teams.new.edit c.n-round.ensures.round c.requires.order c.requires.j c.requires.closed
    c.exchange_teams.ensures.n (c.keep_phases.ensures.0 is) c.exchange_teams.ensures.edit c.exchange_teams.ensures.apart
