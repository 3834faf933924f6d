use Rattle.std.proofs.Common.{ℕ, List, ap, map, ◌∙◌}
use Rattle.clause_search.specs.Kept.{named}
use Rattle.clause_search.proofs.desk.Desk.name_hints.Goals as goal

pub returns-clause-names : goal.returns-clause-names
returns-clause-names c =
    c.in_ok-name_all.ensures.named
    ∙ ap (λ (places : List ℕ). map (named c.args.self.now.given places) c.deref.result.now) c.deref-2.ensures.value
    ∙ ap (λ (hints : List ℕ). map (named c.args.self.now.given c.args.self.now.kept.places.items) hints)
    c.deref.ensures.value
