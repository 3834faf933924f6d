use Rattle.std.proofs.Common.{ℕ, List, subst, sym}
use Rattle.rows.specs.Rows.{Row}
use Rattle.encoding.specs.Encoding.{rows_of}
use Rattle.encoding.specs.Variables.{var_count}
use Rattle.refutation_check.specs.Within.{AreWithin}
use Rattle.planes.specs.Refuted.{IsRefutation}
use Rattle.break_counts.proofs.CheckLemmas.{known-within}
use Rattle.league_search.proofs.by_planes.refute_league.Goals as goal

pub refute-requires : goal.refute-requires
refute-requires g c =
    let league = c.args.encoding.now in
    subst (λ (rows : List Row). AreWithin c.vars-vars.result rows) (sym c.rows.ensures)
    (subst (λ (vars : ℕ). AreWithin vars (rows_of league)) (sym c.vars-vars.ensures.vars)
    (known-within (var_count league) (rows_of league) c.vars-vars.ensures.known))

pub returns-then-has_short_lines-clause-writable : goal.returns-then-has_short_lines-clause-writable
returns-then-has_short_lines-clause-writable g c =
    let league = c.args.encoding.now in
    let refutes : IsRefutation (rows_of league) (var_count league) c.in-Some.log =
    subst (λ (vars : ℕ). IsRefutation (rows_of league) vars c.in-Some.log) c.vars-vars.ensures.vars
    (subst (λ (rows : List Row). IsRefutation rows c.vars-vars.result c.in-Some.log) c.rows.ensures
    (rw c.in-Some.is at c.in_ok-found.ensures)) in
    record { named = refutes.named; short = c.has_short_lines.ensures c.if-has_short_lines.true }
