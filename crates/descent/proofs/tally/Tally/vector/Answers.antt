use Rattle.std.proofs.Common.{◌≡◌, ◌<◌, ℕ, List, Some, length, map, get_or, ap, subst, sym, ◌∙◌, arith}
use Rattle.std.specs.Prelude.{option_map, slice_get}
use Rattle.std.proofs.lemmas.List.{length-map}
use Rattle.std.proofs.lemmas.Option.{slice_get-get_or, slice_get-map}
use Rattle.std.specs.List.{All}
use Rattle.league.specs.Counts.{Counts}
use Rattle.rule_core.specs.declared.rule.Entries.{Ghosts}
use Rattle.rule_core.specs.Table.{table_counts}
use Rattle.descent.specs.Ready.{IsExact}
use Rattle.descent.specs.Tallies.{Tallied, vector_on}
use Rattle.descent.specs.declared.kept.Kept.{Kept}
use Rattle.descent.specs.declared.weighted.Weighted.{Weighted}
use Rattle.descent.proofs.tally.Tally.vector.Goals as goal

-- the kept vector at a place is that counted afresh
vector_at : {R : Type 0} (E : Ghosts R) (m : Counts) (rules : List (Kept R)) (k : ℕ) (x : Kept R) → All (IsExact E m) rules → k < length rules → x ≡ get_or rules k x → slice_get (map (λ w. vector_on E m w.rule) (map (λ q. q.weighted) rules)) k ≡ Some x.vector.items
vector_at {R} E m rules k x all within is =
    let at : slice_get rules k ≡ Some x = slice_get-get_or rules k x within ∙ ap Some (sym is) in
    let exact : IsExact E m x = subst (λ (q : Kept R). IsExact E m q) (sym is) (all k x within) in
    slice_get-map (λ (w : Weighted R). vector_on E m w.rule) (map (λ (q : Kept R). q.weighted) rules) k
    ∙ ap (option_map (λ (w : Weighted R). vector_on E m w.rule)) (slice_get-map (λ (q : Kept R). q.weighted) rules k ∙ ap (option_map (λ (q : Kept R). q.weighted)) at)
    ∙ ap Some (sym exact)

pub returns : goal.returns
returns g c =
    let within : c.args.k < length c.self.inside.rules.items = omega (arith, subst (λ (t : Tallied g.row.R.Denot). c.args.k < length t.weights) (sym c.self.view_is) c.requires, length-map c.self.inside.rules.items (λ (q : Kept g.row.R.Denot). q.weighted)) in
    subst (λ (t : Tallied g.row.R.Denot). slice_get (map (λ w. vector_on g.R.Entries (table_counts t.table) w.rule) t.weights) c.args.k ≡ Some c.deref.result.now) c.self.view_is
    (vector_at g.R.Entries (table_counts c.self.inside.cells) c.self.inside.rules.items c.args.k c.index.result.now c.self.invariant.exact within c.index.ensures ∙ ap Some (sym c.deref.ensures.value))
