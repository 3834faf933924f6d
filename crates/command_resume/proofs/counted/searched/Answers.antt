use Rattle.std.proofs.Common.{ℕ, ◌≤◌, List, None, subst}
use Rattle.rows.specs.Rows.{Row, SatisfiesAll}
use Rattle.rows.specs.Values.{assigned}
use Rattle.encoding.specs.Variables.{var_count}
use Rattle.clause_search.specs.Answers.{IsAnswer, Refutes}
use Rattle.clause_search.specs.declared.found.Found.{Found}
use Rattle.resume.specs.Systems.{rows_for}
use Rattle.command_resume.proofs.CountLemmas.{few-unresumed, refuting}
use Rattle.command_resume.proofs.counted.searched.Goals as goal

pub unreachable-requires : goal.unreachable-requires
unreachable-requires c =
    let answer = subst (λ (f : Found). IsAnswer c.rows.result.now c.vars-vars.result None f) c.in-Sat.is
    c.in_ok-found.ensures in
    few-unresumed c.args.system.now.league c.args.system.now.played c.args.system.now.k (assigned c.in-Sat._values)
    c.vars-vars.ensures.instance c.requires
    (subst (λ (rows : List Row). SatisfiesAll (assigned c.in-Sat._values) rows) c.rows.ensures answer.1)

pub returns : goal.returns
returns c =
    refuting c.args.system.now.league c.args.system.now.played c.args.system.now.k None c.in-Refuted.log
    (subst (λ (vars : ℕ). vars ≤ 130960) c.vars-vars.ensures.vars c.vars-vars.ensures.at_most)
    (subst (λ (vars : ℕ). Refutes (rows_for c.args.system.now) vars None c.in-Refuted.log) c.vars-vars.ensures.vars
    (subst (λ (rows : List Row). Refutes rows c.vars-vars.result None c.in-Refuted.log) c.rows.ensures
    (subst (λ (f : Found). IsAnswer c.rows.result.now c.vars-vars.result None f) c.in-Refuted.is
    c.in_ok-found.ensures)))
