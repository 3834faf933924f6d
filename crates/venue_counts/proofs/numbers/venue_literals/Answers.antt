use Rattle.std.proofs.Common.{ℕ, List, [], ◌∷◌, ◌++◌, ap, arith, map, sym, take, ◌∙◌}
use Rattle.std.proofs.lemmas.List.{map_more, take_all}
use Rattle.league.proofs.FitLemmas.{are_slots-below}
use Rattle.rows.specs.Literals.{Literal}
use Rattle.rows.specs.Sums.{literal}
use Rattle.encoding.specs.Variables.{h_var}
use Rattle.venue_counts.proofs.numbers.venue_literals.Goals as goal

pub h_at-requires : goal.h_at-requires
h_at-requires c = record {
  at_most = c.requires.at_most;
  team = c.requires.team;
  slot = are_slots-below c.args.n c.args.slots.now c.requires.slots c.loop-slot.slot-index 0 c.loop-slot-test.true;
}

pub loop-slot-preserved : goal.loop-slot-preserved
loop-slot-preserved c =
    let venue : ℕ → Literal = λ s. literal (h_var c.args.n c.args.team s) c.args.home in
    let k = c.loop-slot.slot-index in
    let listed = map venue (take k c.args.slots.now) in
    c.in_ok-push.ensures.items
    ∙ ap (λ (ls : List Literal). ls ++ c.new.result ∷ []) c.loop-slot.invariant
    ∙ ap (λ (l : Literal). listed ++ l ∷ []) (c.new.ensures ∙ ap (λ v. literal v c.args.home) c.h_at.ensures.var)
    ∙ sym (map_more venue c.args.slots.now k 0 c.loop-slot-test.true)

pub returns : goal.returns
returns c =
    let venue : ℕ → Literal = λ s. literal (h_var c.args.n c.args.team s) c.args.home in
    c.loop-slot.invariant ∙ ap (map venue) (take_all c.loop-slot.slot-index c.args.slots.now (omega arith))
