use Rattle.std.proofs.Common.{◌≡◌, ℕ, true, false, get_or, inl, inr, refl, arith, subst, sym, ap, ◌∙◌}
use Rattle.std.proofs.lemmas.Bool.{cases_eq, both_ways}
use Rattle.moves.specs.Moves.{do_meet}
use Rattle.moves.specs.Round.{round_counts}
use Rattle.moves.proofs.slots.have_same_pairs.Goals as goal
use Rattle.moves.proofs.slots.have_same_pairs.Goals.{else-marks-team-via-then-marks-team+else-not-has_one_opponent, else-marks-team-via-else-marks-team}

pub loop-team-preserved : goal.loop-team-preserved
loop-team-preserved c = λ a b lt lt_b marked.
    let m = round_counts c.args.board.now in
    let P : ℕ → Type 0 = λ a. do_meet m a b c.args.s.0 ≡ do_meet m a b c.args.t.0 in
    elim (cases_eq a c.loop-team.team) as (λ _. P a) [
      | inr other ↦ c.loop-team.invariant a b (omega arith) lt_b marked
      | inl same ↦ subst P (sym same) (elim c.else-marks-team.branch as (λ _. P c.loop-team.team) [
        | else-marks-team-via-then-marks-team+else-not-has_one_opponent w ↦
            let is : w.has_one_opponent.result ≡ true = grind arith in
            w.has_one_opponent.ensures.0 is b lt_b
        | else-marks-team-via-else-marks-team w ↦
            absurd (both_ways (get_or c.args.marks.now c.loop-team.team false) w.if-marks-team.false (sym (ap (λ (a : ℕ). get_or c.args.marks.now a false) same) ∙ marked))
      ])
    ]

pub returns : goal.returns
returns c = (λ _ a b lt lt_b marked. c.loop-team.invariant a b (omega arith) lt_b marked, λ _. refl)
