use Rattle.std.proofs.Common.{◌≡◌, ℕ, ◌+◌, ◌*◌, ◌<◌, ◌≤◌, ◌⊎◌, max, refl, arith, ap, subst, sym, ◌∙◌}
use Rattle.std.specs.List.{All}
use Rattle.std.proofs.lemmas.Result.{err_from_is_err_and}
use Rattle.rows.specs.Rows.{Row}
use Rattle.rows.specs.Sums.{top_of, weight_of, widest}
use Rattle.rows.specs.Tables.{Table, totals_of}
use Rattle.rows.proofs.AddLemmas.{known-max, plus-added, plus-narrow, plus-wide, up_to-max}
use Rattle.rows.proofs.TableLemmas.{IsAdded, IsKept-added, IsKept-same, fits_all, top_of-all, totals_of-same}
use Rattle.rows.proofs.sum.Sum.add.Goals as goal

pub same-self : goal.same-self
same-self c =
    refl

pub returns-then-not-are_narrow-clause-too_wide : goal.returns-then-not-are_narrow-clause-too_wide
returns-then-not-are_narrow-clause-too_wide c =
    let before : Table = record { top = c.self.inside.top; counts = c.self.inside.counts.items; weight = c.self.inside.total; degree = c.self.inside.degree } in
    let row : Row = record { terms = c.args.terms.now; degree = c.args.degree } in
    let no = c.are_narrow.ensures.no c.if-not-are_narrow.true in
    let above : (widest < c.self.inside.total + c.args.factor * weight_of c.args.terms.now) ⊎ (widest < c.self.inside.degree + c.args.factor * c.args.degree) =
    subst (λ (n : ℕ). (widest < c.self.inside.total + c.args.factor * n) ⊎ (widest < c.self.inside.degree + c.args.factor * c.args.degree)) c.measure-more.ensures.total
    (subst (λ (n : ℕ). (widest < c.self.inside.total + c.args.factor * c.measure-more.result.0) ⊎ (widest < c.self.inside.degree + c.args.factor * n)) c.from.ensures no) in
    λ wide. plus-wide before c.args.self.now c.args.factor row c.self.view_is above

pub add_terms-requires-clause-known : goal.add_terms-requires-clause-known
add_terms-requires-clause-known c =
    subst (λ (n : ℕ). All (λ t. t.lit.var ≤ n) c.args.terms.now) (sym c.measure-more.ensures.top) (top_of-all c.args.terms.now)

pub add_terms-requires-clause-fits : goal.add_terms-requires-clause-fits
add_terms-requires-clause-fits c =
    let before : Table = record { top = c.self.inside.top; counts = c.self.inside.counts.items; weight = c.self.inside.total; degree = c.self.inside.degree } in
    let row : Row = record { terms = c.args.terms.now; degree = c.args.degree } in
    let is = c.are_narrow.ensures.yes c.if-not-are_narrow.false in
    let weight : c.self.inside.total + c.args.factor * weight_of c.args.terms.now ≤ widest =
    subst (λ (n : ℕ). c.self.inside.total + c.args.factor * n ≤ widest) c.measure-more.ensures.total is.0 in
    let degree : c.self.inside.degree + c.args.factor * c.args.degree ≤ widest =
    subst (λ (n : ℕ). c.self.inside.degree + c.args.factor * n ≤ widest) c.from.ensures is.1 in
    fits_all before c.self.inside.touched.items c.args.factor row c.self.invariant weight

pub add_terms-requires-clause-touched : goal.add_terms-requires-clause-touched
add_terms-requires-clause-touched c =
    c.self.invariant.touched_all

pub invariant_of-self : goal.invariant_of-self
invariant_of-self c =
    let before : Table = record { top = c.self.inside.top; counts = c.self.inside.counts.items; weight = c.self.inside.total; degree = c.self.inside.degree } in
    let after : Table = record { top = c.self.inside.top; counts = c.add_terms.new.counts.items; weight = c.self.inside.total; degree = c.self.inside.degree } in
    IsKept-same before after c.self.inside.touched.items c.add_terms.new.touched.items c.self.invariant refl c.in_err-add_terms.ensures.same_counts refl refl c.in_err-add_terms.ensures.same_touched

pub returns-in_err-add_terms-clause-ok : goal.returns-in_err-add_terms-clause-ok
returns-in_err-add_terms-clause-ok c =
    let fault = err_from_is_err_and c.from_residual.result c.from_residual.ensures.1 in
    rw fault.1 tt

pub returns-in_err-add_terms-clause-narrow : goal.returns-in_err-add_terms-clause-narrow
returns-in_err-add_terms-clause-narrow c =
    let fault = err_from_is_err_and c.from_residual.result c.from_residual.ensures.1 in
    rw fault.1 tt

pub returns-in_err-add_terms-clause-too_wide : goal.returns-in_err-add_terms-clause-too_wide
returns-in_err-add_terms-clause-too_wide c =
    let fault = err_from_is_err_and c.from_residual.result c.from_residual.ensures.1 in
    λ wide. cc (fault.1, fault.2, wide)

pub returns-in_err-add_terms-clause-mem : goal.returns-in_err-add_terms-clause-mem
returns-in_err-add_terms-clause-mem c =
    let before : Table = record { top = c.self.inside.top; counts = c.self.inside.counts.items; weight = c.self.inside.total; degree = c.self.inside.degree } in
    let row : Row = record { terms = c.args.terms.now; degree = c.args.degree } in
    let is = c.are_narrow.ensures.yes c.if-not-are_narrow.false in
    let weight : c.self.inside.total + c.args.factor * weight_of c.args.terms.now ≤ widest =
    subst (λ (n : ℕ). c.self.inside.total + c.args.factor * n ≤ widest) c.measure-more.ensures.total is.0 in
    let degree : c.self.inside.degree + c.args.factor * c.args.degree ≤ widest =
    subst (λ (n : ℕ). c.self.inside.degree + c.args.factor * n ≤ widest) c.from.ensures is.1 in
    λ mem. plus-narrow before c.args.self.now c.args.factor row c.self.view_is weight degree

pub returns-in_err-add_terms-clause-err : goal.returns-in_err-add_terms-clause-err
returns-in_err-add_terms-clause-err c =
    let fault = err_from_is_err_and c.from_residual.result c.from_residual.ensures.1 in
    let before : Table = record { top = c.self.inside.top; counts = c.self.inside.counts.items; weight = c.self.inside.total; degree = c.self.inside.degree } in
    let after : Table = record { top = c.self.inside.top; counts = c.add_terms.new.counts.items; weight = c.self.inside.total; degree = c.self.inside.degree } in
    rw fault.1 (totals_of-same before after refl c.in_err-add_terms.ensures.same_counts refl refl ∙ ap totals_of c.self.view_is)

pub raised-self-inside-requires : goal.raised-self-inside-requires
raised-self-inside-requires c =
    let is = c.are_narrow.ensures.yes c.if-not-are_narrow.false in is.0

pub raised-self-inside-requires-2 : goal.raised-self-inside-requires-2
raised-self-inside-requires-2 c =
    let is = c.are_narrow.ensures.yes c.if-not-are_narrow.false in
    let weight : c.self.inside.total + c.args.factor * weight_of c.args.terms.now ≤ widest =
    subst (λ (n : ℕ). c.self.inside.total + c.args.factor * n ≤ widest) c.measure-more.ensures.total is.0 in
    let degree : c.self.inside.degree + c.args.factor * c.args.degree ≤ widest =
    subst (λ (n : ℕ). c.self.inside.degree + c.args.factor * n ≤ widest) c.from.ensures is.1 in
    subst (λ (n : ℕ). c.self.inside.degree + c.args.factor * n ≤ widest) (sym c.from-2.ensures) degree

pub invariant_of-self-2 : goal.invariant_of-self-2
invariant_of-self-2 c =
    let before : Table = record { top = c.self.inside.top; counts = c.self.inside.counts.items; weight = c.self.inside.total; degree = c.self.inside.degree } in
    let row : Row = record { terms = c.args.terms.now; degree = c.args.degree } in
    let is = c.are_narrow.ensures.yes c.if-not-are_narrow.false in
    let weight : c.self.inside.total + c.args.factor * weight_of c.args.terms.now ≤ widest =
    subst (λ (n : ℕ). c.self.inside.total + c.args.factor * n ≤ widest) c.measure-more.ensures.total is.0 in
    let degree : c.self.inside.degree + c.args.factor * c.args.degree ≤ widest =
    subst (λ (n : ℕ). c.self.inside.degree + c.args.factor * n ≤ widest) c.from.ensures is.1 in
    let after : Table = record { top = c.max-self-inside.result; counts = c.add_terms.new.counts.items; weight = c.raised-self-inside.result; degree = c.raised-self-inside-2.result } in
    let grown : after.top ≡ max before.top (top_of c.args.terms.now) = c.max-self-inside.ensures ∙ ap (λ (n : ℕ). max before.top n) c.measure-more.ensures.top in
    let added : IsAdded before after c.args.factor row = record {
      top = grown;
      counts = c.in_ok-add_terms.ensures.counts;
      weight = c.raised-self-inside.ensures ∙ ap (λ (n : ℕ). c.self.inside.total + c.args.factor * n) c.measure-more.ensures.total;
      degree = c.raised-self-inside-2.ensures ∙ ap (λ (n : ℕ). c.self.inside.degree + c.args.factor * n) c.from-2.ensures;
    } in
    IsKept-added before after c.self.inside.touched.items c.add_terms.new.touched.items c.args.factor row c.self.invariant added c.in_ok-add_terms.ensures.touched
    (c.in_ok-add_terms.ensures.up_to after.top (up_to-max c.self.inside.touched.items before.top (top_of c.args.terms.now) after.top grown c.self.invariant.up_to) (known-max c.args.terms.now before.top after.top grown))
    (omega (arith, c.max-self-inside.ensures, c.self.invariant.top, c.measure-more.ensures.few))
    (omega (arith, added.weight, weight)) (omega (arith, added.degree, degree))

pub returns-clause-ok : goal.returns-clause-ok
returns-clause-ok c =
    let before : Table = record { top = c.self.inside.top; counts = c.self.inside.counts.items; weight = c.self.inside.total; degree = c.self.inside.degree } in
    let row : Row = record { terms = c.args.terms.now; degree = c.args.degree } in
    let after : Table = record { top = c.max-self-inside.result; counts = c.add_terms.new.counts.items; weight = c.raised-self-inside.result; degree = c.raised-self-inside-2.result } in
    let grown : after.top ≡ max before.top (top_of c.args.terms.now) = c.max-self-inside.ensures ∙ ap (λ (n : ℕ). max before.top n) c.measure-more.ensures.top in
    let added : IsAdded before after c.args.factor row = record {
      top = grown;
      counts = c.in_ok-add_terms.ensures.counts;
      weight = c.raised-self-inside.ensures ∙ ap (λ (n : ℕ). c.self.inside.total + c.args.factor * n) c.measure-more.ensures.total;
      degree = c.raised-self-inside-2.ensures ∙ ap (λ (n : ℕ). c.self.inside.degree + c.args.factor * n) c.from-2.ensures;
    } in
    plus-added before after c.args.self.now c.args.factor row c.self.view_is added

pub returns-clause-narrow : goal.returns-clause-narrow
returns-clause-narrow c =
    let before : Table = record { top = c.self.inside.top; counts = c.self.inside.counts.items; weight = c.self.inside.total; degree = c.self.inside.degree } in
    let row : Row = record { terms = c.args.terms.now; degree = c.args.degree } in
    let is = c.are_narrow.ensures.yes c.if-not-are_narrow.false in
    let weight : c.self.inside.total + c.args.factor * weight_of c.args.terms.now ≤ widest =
    subst (λ (n : ℕ). c.self.inside.total + c.args.factor * n ≤ widest) c.measure-more.ensures.total is.0 in
    let degree : c.self.inside.degree + c.args.factor * c.args.degree ≤ widest =
    subst (λ (n : ℕ). c.self.inside.degree + c.args.factor * n ≤ widest) c.from.ensures is.1 in
    plus-narrow before c.args.self.now c.args.factor row c.self.view_is weight degree
