use Rattle.std.proofs.Common.{ℕ, List, length, ap, sym, subst, arith}
use Rattle.encoding.specs.Ascending.{AreTeams}
use Rattle.encoding.proofs.FewLemmas.{teams_few}
use Rattle.encoding.proofs.MeetingOrder.{AreTeams-from_test}
use Rattle.encoding.proofs.sets.team_numbers.Goals as goal

pub returns-clause-order : goal.returns-clause-order
returns-clause-order c =
    subst (λ (xs : List ℕ). AreTeams c.args.n xs) (sym c.numbers.ensures.numbers) (AreTeams-from_test c.args.n c.args.teams.now c.requires.teams)

pub returns-clause-few : goal.returns-clause-few
returns-clause-few c =
    omega (arith, ap length c.numbers.ensures.numbers, teams_few c.args.n c.args.teams.now c.requires.n c.requires.teams)
