use Rattle.std.proofs.Common.{◌≡◌, ℕ, ◌+◌, ◌<◌, ◌++◌, List, [], ◌∷◌, length, refl, arith, ap, sym, subst, ◌∙◌}
use Rattle.std.specs.List.{All}
use Rattle.std.proofs.lemmas.List.{length-set}
use Rattle.rows.specs.Codes.{code_of}
use Rattle.rows.specs.declared.lit.Term.{Term}
use Rattle.propagate.specs.Links.{links_of}
use Rattle.propagate.specs.declared.link.Link.{Link}
use Rattle.propagate.proofs.LinkLemmas.{AreLinked-end, IsLinking, IsLinking-more, IsLinking-none}
use Rattle.propagate.proofs.ValueLemmas.{AreApart}
use Rattle.propagate.proofs.table.link_terms.Goals as goal

pub loop-term-init : goal.loop-term-init
loop-term-init c = record {
  linking = IsLinking-none c.args.numbered.now c.terms-terms.result.now c.args.k c.args.lists.now c.requires.linked;
  slots = refl;
}

pub push-requires : goal.push-requires
push-requires c =
    let known : All (λ t. code_of t.lit < length c.args.lists.now) c.terms-terms.result.now =
    subst (λ (ts : List Term). All (λ t. code_of t.lit < length c.args.lists.now) ts) (sym c.terms-terms.ensures) c.requires.slots in
    let slot_old : code_of c.term-item.result.lit < length c.args.lists.now =
    subst (λ (t : Term). code_of t.lit < length c.args.lists.now) (sym c.term-item.is) (known c.loop-term.term-index c.term-item.result (omega arith)) in
    omega (arith, slot_old, c.loop-term.invariant.slots)

pub loop-term-preserved : goal.loop-term-preserved
loop-term-preserved c =
    let apart : AreApart c.terms-terms.result.now =
    subst (λ (ts : List Term). AreApart ts) (sym c.terms-terms.ensures) (c.requires.proper c.args.k (record { terms = []; degree = 0 }) c.requires.there).variables in
    let known : All (λ t. code_of t.lit < length c.args.lists.now) c.terms-terms.result.now =
    subst (λ (ts : List Term). All (λ t. code_of t.lit < length c.args.lists.now) ts) (sym c.terms-terms.ensures) c.requires.slots in
    let slot_old : code_of c.term-item.result.lit < length c.args.lists.now =
    subst (λ (t : Term). code_of t.lit < length c.args.lists.now) (sym c.term-item.is) (known c.loop-term.term-index c.term-item.result (omega arith)) in
    let slot : code_of c.term-item.result.lit < length c.loop-term.lists = omega (arith, slot_old, c.loop-term.invariant.slots) in
    let link : Link = record { row = c.args.k; coef = c.term-item.result.coef } in
    let more : List Link = links_of c.loop-term.lists c.term-item.result.lit ++ link ∷ [] in
    record {
      linking =
          subst (λ (ls : List (List Link)). IsLinking c.args.numbered.now c.terms-terms.result.now c.args.k (c.loop-term.term-index + 1) ls) (sym c.in_ok-push.ensures)
          (IsLinking-more c.args.numbered.now c.terms-terms.result.now c.args.k c.loop-term.term-index c.loop-term.lists c.term-item.result link c.terms-terms.ensures apart (omega arith)
          c.term-item.is slot refl c.loop-term.invariant.linking);
      slots = ap (λ (ls : List (List Link)). length ls) c.in_ok-push.ensures ∙ length-set c.loop-term.lists (code_of c.term-item.result.lit) more ∙ c.loop-term.invariant.slots;
    }

pub returns-clause-linked : goal.returns-clause-linked
returns-clause-linked c =
    let all : c.loop-term.term-index ≡ length c.terms-terms.result.now = omega (arith, c.loop-term.auto.term-index-end) in
    AreLinked-end c.args.numbered.now c.terms-terms.result.now c.args.k c.loop-term.lists c.terms-terms.ensures
    (subst (λ (n : ℕ). IsLinking c.args.numbered.now c.terms-terms.result.now c.args.k n c.loop-term.lists) all c.loop-term.invariant.linking)
