use Rattle.robin_run.proofs.call.unwatched.Goals as goal

pub returns-in-Validate-clause-answer : goal.returns-in-Validate-clause-answer
returns-in-Validate-clause-answer g c = rw c.in-Validate.is c.validate.ensures.answer

pub returns-in-Show-clause-answer : goal.returns-in-Show-clause-answer
returns-in-Show-clause-answer g c = rw c.in-Show.is c.show.ensures.answer

pub returns-in-Demands-clause-answer : goal.returns-in-Demands-clause-answer
returns-in-Demands-clause-answer g c = rw c.in-Demands.is c.demands_of_list.ensures.answer

pub returns-in-Sheet-clause-answer : goal.returns-in-Sheet-clause-answer
returns-in-Sheet-clause-answer g c = rw c.in-Sheet.is c.show-in-Sheet.ensures.answer

pub returns-in-Check-clause-answer : goal.returns-in-Check-clause-answer
returns-in-Check-clause-answer g c = rw c.in-Check.is c.check.ensures.answer

pub returns-in-Patterns-clause-answer : goal.returns-in-Patterns-clause-answer
returns-in-Patterns-clause-answer g c = rw c.in-Patterns.is c.patterns_file.ensures.answer

pub returns-in-Part-clause-answer : goal.returns-in-Part-clause-answer
returns-in-Part-clause-answer g c = rw c.in-Part.is c.part_of_list.ensures.answer

pub returns-in-Bound-clause-answer : goal.returns-in-Bound-clause-answer
returns-in-Bound-clause-answer g c = rw c.in-Bound.is c.bound_file.ensures.answer

pub returns-in-Audit-clause-answer : goal.returns-in-Audit-clause-answer
returns-in-Audit-clause-answer g c = rw c.in-Audit.is c.audit_file.ensures.answer

pub returns-in-Values-clause-answer : goal.returns-in-Values-clause-answer
returns-in-Values-clause-answer g c = rw c.in-Values.is c.values_file.ensures.answer

pub returns-in_ok-make_league-in-Make-clause-answer : goal.returns-in_ok-make_league-in-Make-clause-answer
returns-in_ok-make_league-in-Make-clause-answer g c = rw c.in-Make.is c.in_ok-make_league-in-Make.ensures

pub returns-in-Validate-clause-taken : goal.returns-in-Validate-clause-taken
returns-in-Validate-clause-taken g c = rw c.in-Validate.is c.validate.ensures.taken

pub returns-in-Show-clause-taken : goal.returns-in-Show-clause-taken
returns-in-Show-clause-taken g c = rw c.in-Show.is c.show.ensures.taken

pub returns-in-Demands-clause-taken : goal.returns-in-Demands-clause-taken
returns-in-Demands-clause-taken g c = rw c.in-Demands.is c.demands_of_list.ensures.taken

pub returns-in-Sheet-clause-taken : goal.returns-in-Sheet-clause-taken
returns-in-Sheet-clause-taken g c = rw c.in-Sheet.is c.show-in-Sheet.ensures.taken

pub returns-in-Check-clause-taken : goal.returns-in-Check-clause-taken
returns-in-Check-clause-taken g c = rw c.in-Check.is c.check.ensures.taken

pub returns-in-Patterns-clause-taken : goal.returns-in-Patterns-clause-taken
returns-in-Patterns-clause-taken g c = rw c.in-Patterns.is c.patterns_file.ensures.taken

pub returns-in-Part-clause-taken : goal.returns-in-Part-clause-taken
returns-in-Part-clause-taken g c = rw c.in-Part.is c.part_of_list.ensures.taken

pub returns-in-Bound-clause-taken : goal.returns-in-Bound-clause-taken
returns-in-Bound-clause-taken g c = rw c.in-Bound.is c.bound_file.ensures.taken

pub returns-in-Audit-clause-taken : goal.returns-in-Audit-clause-taken
returns-in-Audit-clause-taken g c = rw c.in-Audit.is c.audit_file.ensures.taken

pub returns-in-Values-clause-taken : goal.returns-in-Values-clause-taken
returns-in-Values-clause-taken g c = rw c.in-Values.is c.values_file.ensures.taken
