use Rattle.std.proofs.Common.{List, Bool, IsTrue, is_ok, Contains, ◌↔◌, ◌∙◌, sym, subst}
use Rattle.league.specs.Sets.{IsAscending}
use Rattle.league.proofs.SetLemmas.{tells}
use Rattle.league.proofs.ascending.Ascending.contains.Goals as goal

pub returns : goal.returns
returns g c =
    let ascending : IsAscending g.T.Ord.cmp c.deref.result.now = subst (λ (l : List g.row.T.Denot). IsAscending g.T.Ord.cmp l) (sym c.deref.ensures.value) c.self.invariant in
    let told = tells g.T.Ord.cmp g.met.T.Ord.total g.met.T.Item.same c.args.item c.deref.result.now ascending c.binary_search.result c.binary_search.ensures.bound c.binary_search.ensures.position in
    let P : Bool → List g.row.T.Denot → Type 0 = λ b l. IsTrue b ↔ Contains l c.args.item in
    subst (λ (b : Bool). P b c.args.self.now) (sym c.is_ok.ensures.value) (subst (λ (l : List g.row.T.Denot). P (is_ok c.binary_search.result) l) (c.deref.ensures.value ∙ c.self.view_is) told)
