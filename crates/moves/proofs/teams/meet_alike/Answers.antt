use Rattle.std.proofs.Common.{◌≡◌, ℕ, ◌-◌, ◌<◌, ◌≤◌, Bool, true, false, get_or, inl, inr, refl, arith, subst, sym, ◌∙◌}
use Rattle.std.proofs.lemmas.Bool.{both_ways, cases_eq, eq-eqb, eqb-true}
use Rattle.league.specs.Counts.{Counts, slot_count}
use Rattle.moves.specs.Moves.{do_meet}
use Rattle.moves.specs.Parts.{early_games}
use Rattle.moves.specs.Round.{round_counts}
use Rattle.moves.proofs.teams.meet_alike.Goals as goal
use Rattle.moves.proofs.teams.meet_alike.Goals.{then-marks-slot+else-not-meets_early, else-marks-slot}

pub meets_early-requires-clause-differ : goal.meets_early-requires-clause-differ
meets_early-requires-clause-differ c = λ e.
    let within : c.loop-slot.slot < slot_count c.args.board.now.n = omega arith in
    both_ways (do_meet (round_counts c.args.board.now) c.args.i.0 c.args.j.0 c.loop-slot.slot) (c.requires.apart c.loop-slot.slot within c.if-marks-slot.true)
    (c.opponent-met.ensures.meets c.args.j.0 ∙ eq-eqb c.args.j.0 c.opponent-met.result.0 e)

pub returns-then-not-meets_early : goal.returns-then-not-meets_early
returns-then-not-meets_early c =
    let met : ℕ = c.opponent-met.result.0 in
    let fails : c.meets_early.result ≡ false = grind arith in
    let early : c.loop-slot.slot < c.args.board.now.n - 1 = omega arith in (
      λ is. absurd (cc),
      λ alike. absurd (both_ways c.meets_early.result fails (c.meets_early.ensures.1
          (alike c.loop-slot.slot met early c.opponent-met.ensures.below c.if-marks-slot.true (c.opponent-met.ensures.meets met ∙ eq-eqb met met refl)))),
    )

pub loop-slot-preserved : goal.loop-slot-preserved
loop-slot-preserved c = λ r k lt lt_k marked meets.
    let m : Counts = round_counts c.args.board.now in
    let set : ℕ → Bool = λ r. get_or c.args.marks.now r false in
    let P : ℕ → Type 0 = λ k. 1 ≤ early_games c.args.board.now.n m set c.args.j.0 k in
    elim (cases_eq r c.loop-slot.slot) as (λ _. P k) [
      | inr other ↦ c.loop-slot.invariant r k (omega arith) lt_k marked meets
      | inl same ↦
          let here : do_meet m c.args.i.0 k c.loop-slot.slot ≡ true = subst (λ (r : ℕ). do_meet m c.args.i.0 k r ≡ true) same meets in
          elim c.if-marks-slot.branch as (λ _. P k) [
            | then-marks-slot+else-not-meets_early w ↦
                let is : w.meets_early.result ≡ true = grind arith in
                let opponent : k ≡ w.opponent-met.result.0 = eqb-true k w.opponent-met.result.0 (sym (w.opponent-met.ensures.meets k) ∙ here) in
                subst P (sym opponent) (w.meets_early.ensures.0 is)
            | else-marks-slot w ↦
                absurd (both_ways (get_or c.args.marks.now c.loop-slot.slot false) w.if-marks-slot.false (subst (λ (r : ℕ). get_or c.args.marks.now r false ≡ true) same marked))
          ]
    ]

pub returns : goal.returns
returns c = (λ _ r k lt lt_k marked meets. c.loop-slot.invariant r k (omega arith) lt_k marked meets, λ _. refl)
