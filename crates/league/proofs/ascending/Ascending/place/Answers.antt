use Rattle.std.proofs.Common.{◌≡◌, List, Contains, ◌∙◌, sym, subst, ap}
use Rattle.std.specs.List.{insert}
use Rattle.league.specs.Sets.{IsAscending, with_item}
use Rattle.league.proofs.SetLemmas.{IsAscending-with_item, goes_at, with_item-found}
use Rattle.league.proofs.ascending.Ascending.place.Goals as goal

pub invariant_of-self-in-Err : goal.invariant_of-self-in-Err
invariant_of-self-in-Err g c =
    let xs : List g.row.T.Denot = c.deref.result.now in
    let ascending : IsAscending g.T.Ord.cmp xs = subst (λ (l : List g.row.T.Denot). IsAscending g.T.Ord.cmp l) (sym c.deref.ensures.value) c.self.invariant in
    let placed = goes_at g.T.Ord.cmp g.met.T.Ord.total g.met.T.Item.same c.args.item xs ascending c.in-Err.place c.in-Err.ensures.bound c.in-Err.ensures.position in
    let is_new : c.insert.new.self.items ≡ with_item g.T.Ord.cmp c.args.item xs = c.in_ok-insert-in-Err.ensures.items ∙ ap (λ (l : List g.row.T.Denot). insert l c.in-Err.place c.args.item) (sym c.deref.ensures.value) ∙ sym placed.0 in
    subst (λ (l : List g.row.T.Denot). IsAscending g.T.Ord.cmp l) (sym is_new) (IsAscending-with_item g.T.Ord.cmp g.met.T.Ord.total c.args.item xs ascending)

pub returns-in-Ok-clause-ok : goal.returns-in-Ok-clause-ok
returns-in-Ok-clause-ok g c =
    let xs : List g.row.T.Denot = c.deref.result.now in
    let ascending : IsAscending g.T.Ord.cmp xs = subst (λ (l : List g.row.T.Denot). IsAscending g.T.Ord.cmp l) (sym c.deref.ensures.value) c.self.invariant in
    let found = with_item-found g.T.Ord.cmp g.met.T.Ord.total g.met.T.Item.same c.args.item xs ascending c.in-Ok.field-0 c.in-Ok.ensures.bound c.in-Ok.ensures.position in
    subst (λ (l : List g.row.T.Denot). l ≡ with_item g.T.Ord.cmp c.args.item l) (c.deref.ensures.value ∙ c.self.view_is) (sym found)

pub returns-in_ok-insert-in-Err-clause-ok : goal.returns-in_ok-insert-in-Err-clause-ok
returns-in_ok-insert-in-Err-clause-ok g c =
    let xs : List g.row.T.Denot = c.deref.result.now in
    let ascending : IsAscending g.T.Ord.cmp xs = subst (λ (l : List g.row.T.Denot). IsAscending g.T.Ord.cmp l) (sym c.deref.ensures.value) c.self.invariant in
    let placed = goes_at g.T.Ord.cmp g.met.T.Ord.total g.met.T.Item.same c.args.item xs ascending c.in-Err.place c.in-Err.ensures.bound c.in-Err.ensures.position in
    let is_new : c.insert.new.self.items ≡ with_item g.T.Ord.cmp c.args.item xs = c.in_ok-insert-in-Err.ensures.items ∙ ap (λ (l : List g.row.T.Denot). insert l c.in-Err.place c.args.item) (sym c.deref.ensures.value) ∙ sym placed.0 in
    subst (λ (l : List g.row.T.Denot). c.insert.new.self.items ≡ with_item g.T.Ord.cmp c.args.item l) (c.deref.ensures.value ∙ c.self.view_is) is_new

pub returns-in_ok-insert-in-Err-clause-fresh : goal.returns-in_ok-insert-in-Err-clause-fresh
returns-in_ok-insert-in-Err-clause-fresh g c =
    let xs : List g.row.T.Denot = c.deref.result.now in
    let ascending : IsAscending g.T.Ord.cmp xs = subst (λ (l : List g.row.T.Denot). IsAscending g.T.Ord.cmp l) (sym c.deref.ensures.value) c.self.invariant in
    let placed = goes_at g.T.Ord.cmp g.met.T.Ord.total g.met.T.Item.same c.args.item xs ascending c.in-Err.place c.in-Err.ensures.bound c.in-Err.ensures.position in
    subst (λ (l : List g.row.T.Denot). Contains l c.args.item → ⊥) (c.deref.ensures.value ∙ c.self.view_is) placed.1
