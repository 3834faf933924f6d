use Rattle.std.proofs.Common.{◌≡◌, ◌++◌, ℕ, List, [], ◌∷◌, length, subst, ◌∙◌}
use Rattle.std.specs.Prelude.{OnOk}
use Rattle.clause_search.specs.Turns.{Learns}
use Rattle.clause_search.proofs.BackLemmas.{learnable_at}
use Rattle.clause_search.proofs.learn.learn.Goals as goal

pub keep-requires : goal.keep-requires
keep-requires c = record {
  learnable =
      learnable_at c.args.trail.now c.explain.new.desk.clause.items c.explain.new.desk.hints.items c.in_ok-back.back
      c.level-level.result c.len-len.ensures.lawful c.level-level.ensures c.in_ok-back.ensures.learnable;
  below = c.requires.below;
}

pub returns-clause-learns : goal.returns-clause-learns
returns-clause-learns c =
    subst (λ (g : ℕ). OnOk c.keep.result (Learns g c.args.desk.now.kept.places.items c.args.trail.now c.keep.new.trail
    c.args.log.now c.keep.new.log)) c.explain.ensures.given
    (subst (λ (ks : List ℕ). OnOk c.keep.result (Learns c.explain.new.desk.given ks c.args.trail.now c.keep.new.trail
    c.args.log.now c.keep.new.log)) (c.need.ensures.places ∙ c.explain.ensures.kept) c.keep.ensures.learns)

pub returns-clause-kept : goal.returns-clause-kept
returns-clause-kept c =
    subst (λ (ks : List ℕ). OnOk c.keep.result (c.keep.new.desk.kept.places.items ≡ ks ++ length c.args.log.now ∷ []))
    (c.need.ensures.places ∙ c.explain.ensures.kept) c.keep.ensures.kept

pub returns-clause-room : goal.returns-clause-room
returns-clause-room c =
    subst (λ (r : ℕ). OnOk c.keep.result (c.keep.new.desk.kept.room ≡ r)) (c.need.ensures.room ∙ c.explain.ensures.room)
    c.keep.ensures.room
