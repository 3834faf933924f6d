use Rattle.std.proofs.Common.{◌≡◌, true, false, arith, sym, ◌∙◌}
use Rattle.command_rows.specs.SeenRows as seen
use Rattle.command_rows.proofs.PriceLemmas.{coefs-at, costs-before, costs-found, same-at}
use Rattle.command_rows.proofs.prices.costs.Goals as goal

pub overflow_sub-place-in-back : goal.overflow_sub-place-in-back
overflow_sub-place-in-back c =
    let bounded = c.args.system.now in
    let positive : seen.begins_positive c.terms.result.now ≡ true = sym c.begins_positive.ensures ∙ c.back-test.true in
    let later = costs-before bounded.league bounded.bound c.rows-rows.result.now c.back.place c.terms.result.now
    c.rows-rows.ensures c.back.invariant.from c.terms.ensures positive in
    omega (arith, later)

pub back-smaller : goal.back-smaller
back-smaller c =
    let bounded = c.args.system.now in
    let positive : seen.begins_positive c.terms.result.now ≡ true = sym c.begins_positive.ensures ∙ c.back-test.true in
    let later = costs-before bounded.league bounded.bound c.rows-rows.result.now c.back.place c.terms.result.now
    c.rows-rows.ensures c.back.invariant.from c.terms.ensures positive in
    omega (arith, later)

pub back-preserved : goal.back-preserved
back-preserved c =
    let bounded = c.args.system.now in
    let positive : seen.begins_positive c.terms.result.now ≡ true = sym c.begins_positive.ensures ∙ c.back-test.true in
    let later = costs-before bounded.league bounded.bound c.rows-rows.result.now c.back.place c.terms.result.now
    c.rows-rows.ensures c.back.invariant.from c.terms.ensures positive in
    record { from = omega (arith, later); within = omega (arith, later, c.back.invariant.within) }

pub returns-clause-terms : goal.returns-clause-terms
returns-clause-terms c =
    let bounded = c.args.system.now in
    let negative : seen.begins_positive c.terms.result.now ≡ false = sym c.begins_positive.ensures ∙ c.back-test.false in
    same-at c.rows-rows.result.now c.back.place c.terms-2.result.now c.terms.result.now c.back.invariant.within
    c.terms-2.ensures c.terms.ensures
    ∙ costs-found bounded.league bounded.bound c.rows-rows.result.now c.back.place c.terms.result.now
    c.rows-rows.ensures c.back.invariant.from c.back.invariant.within c.terms.ensures negative

pub returns-clause-coefs : goal.returns-clause-coefs
returns-clause-coefs c =
    coefs-at c.rows-rows.result.now c.back.place c.terms-2.result.now c.len-place.ensures.rows c.back.invariant.within
    c.terms-2.ensures
