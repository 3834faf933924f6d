use Rattle.std.proofs.Common.{◌≡◌, List, [], ◌∷◌, ◌++◌, ◌∙◌, sym, subst, ap}
use Rattle.league.specs.Sets.{IsAscending, with_item}
use Rattle.league.proofs.SetLemmas.{IsAscending-with_item, goes_last}
use Rattle.league.proofs.ascending.Ascending.append.Goals as goal

pub returns-in_err-push-clause-fresh : goal.returns-in_err-push-clause-fresh
returns-in_err-push-clause-fresh g c =
    let ascending : IsAscending g.T.Ord.cmp c.args.self.now = subst (λ (l : List g.row.T.Denot). IsAscending g.T.Ord.cmp l) c.self.view_is c.self.invariant in
    (goes_last g.T.Ord.cmp g.met.T.Ord.total g.met.T.Item.same c.args.item c.args.self.now ascending c.requires).1

pub invariant_of-self-2 : goal.invariant_of-self-2
invariant_of-self-2 g c =
    let ascending : IsAscending g.T.Ord.cmp c.args.self.now = subst (λ (l : List g.row.T.Denot). IsAscending g.T.Ord.cmp l) c.self.view_is c.self.invariant in
    let placed = goes_last g.T.Ord.cmp g.met.T.Ord.total g.met.T.Item.same c.args.item c.args.self.now ascending c.requires in
    let is_new : c.push.new.self.items ≡ with_item g.T.Ord.cmp c.args.item c.args.self.now = c.in_ok-push.ensures.items ∙ ap (λ (l : List g.row.T.Denot). l ++ c.args.item ∷ []) c.self.view_is ∙ sym placed.0 in
    subst (λ (l : List g.row.T.Denot). IsAscending g.T.Ord.cmp l) (sym is_new) (IsAscending-with_item g.T.Ord.cmp g.met.T.Ord.total c.args.item c.args.self.now ascending)

pub returns-clause-ok : goal.returns-clause-ok
returns-clause-ok g c =
    let ascending : IsAscending g.T.Ord.cmp c.args.self.now = subst (λ (l : List g.row.T.Denot). IsAscending g.T.Ord.cmp l) c.self.view_is c.self.invariant in
    let placed = goes_last g.T.Ord.cmp g.met.T.Ord.total g.met.T.Item.same c.args.item c.args.self.now ascending c.requires in
    c.in_ok-push.ensures.items ∙ ap (λ (l : List g.row.T.Denot). l ++ c.args.item ∷ []) c.self.view_is ∙ sym placed.0

pub returns-clause-fresh : goal.returns-clause-fresh
returns-clause-fresh g c =
    let ascending : IsAscending g.T.Ord.cmp c.args.self.now = subst (λ (l : List g.row.T.Denot). IsAscending g.T.Ord.cmp l) c.self.view_is c.self.invariant in
    (goes_last g.T.Ord.cmp g.met.T.Ord.total g.met.T.Item.same c.args.item c.args.self.now ascending c.requires).1
