use Rattle.std.proofs.Common.{ℕ, ◌<◌, ◌++◌, List, ap, inr, length, map, refl, subst, sym, ◌∙◌}
use Rattle.std.specs.List.{All}
use Rattle.propagate.specs.Trails.{KnowsVariables, SeenTrail}
use Rattle.clause_search.specs.Kept.{few_variables, steps_at}
use Rattle.clause_search.specs.News.{IsTidy, row_of}
use Rattle.clause_search.proofs.KeptLemmas.{All-part, bare_trail, with_rows}
use Rattle.clause_search.proofs.forget.lighten.Goals as goal

pub renew-requires : goal.renew-requires
renew-requires c =
    subst (λ (v : ℕ). All (KnowsVariables v) c.args.rows.now) (sym (c.release_all.ensures ∙ c.requires.vars))
    c.requires.known

pub add_clauses-requires-clause-tidy : goal.add_clauses-requires-clause-tidy
add_clauses-requires-clause-tidy c =
    subst (λ (v : ℕ). All (IsTidy v) c.args.log.now)
    (sym (ap (λ (u : SeenTrail). u.vars) c.in_ok-renew.ensures ∙ c.release_all.ensures ∙ c.requires.vars))
    c.requires.tidy

pub add_clauses-requires-clause-there : goal.add_clauses-requires-clause-there
add_clauses-requires-clause-there c =
    subst (λ (ps : List ℕ). All (λ place. place < length c.args.log.now) ps) (sym c.deref.ensures.value)
    (All-part (λ place. place < length c.args.log.now) c.forget.new.self.places.items c.args.desk.now.kept.places.items
    c.requires.there c.in_ok-forget.ensures.part)

pub returns-then-is_full-clause-lightened : goal.returns-then-is_full-clause-lightened
returns-then-is_full-clause-lightened c = inr (record {
  many = subst (λ (v : ℕ). few_variables < v) c.requires.vars (c.if-is_full.ensures.many refl);
  long = c.if-is_full.ensures.long refl;
  full = c.if-is_full.ensures.full refl;
  part = c.in_ok-forget.ensures.part;
  grown = c.in_ok-forget.ensures.room;
  trail =
      c.in_ok-add_clauses.ensures
      ∙ ap (λ (u : SeenTrail). with_rows u (map row_of (steps_at c.args.log.now c.deref.result.now)))
      c.in_ok-renew.ensures
      ∙ ap (λ (v : ℕ). bare_trail v (c.args.rows.now ++ map row_of (steps_at c.args.log.now c.deref.result.now)))
      (c.release_all.ensures ∙ c.requires.vars)
      ∙ ap (λ (ps : List ℕ). bare_trail c.args.trail.now.vars
      (c.args.rows.now ++ map row_of (steps_at c.args.log.now ps))) c.deref.ensures.value;
})
