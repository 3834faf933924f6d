use Rattle.std.proofs.Common.{◌≡◌, ℕ, List, [], drop, arith, ap, sym, ◌∙◌}
use Rattle.std.proofs.lemmas.List.{drop_all}
use Rattle.std.specs.List.{position_from}
use Rattle.rows.specs.Partials.{is_forced}
use Rattle.rows.specs.Values.{valued}
use Rattle.rows.specs.declared.lit.Term.{Term}
use Rattle.rows.proofs.ForcingLemmas.{IsQuietRow-none}
use Rattle.rows.proofs.wide.wide_forced.Goals as goal

pub returns-clause-quiet : goal.returns-clause-quiet
returns-clause-quiet c = λ front none.
    let test = is_forced (valued c.args.partial.now) c.args.terms.now c.args.degree in
    let past : drop c.places.place c.args.terms.now ≡ [] = drop_all c.places.place c.args.terms.now (omega arith) in
    IsQuietRow-none (valued c.args.partial.now) c.args.terms.now c.args.degree c.requires.no_conflict
    (sym (ap (λ (k : ℕ). position_from test k (drop k c.args.terms.now)) front) ∙ sym c.places.invariant ∙ ap (λ (xs : List Term). position_from test c.places.place xs) past)
