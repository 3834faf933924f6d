use Rattle.std.proofs.Common.{◌≡◌, ℕ, ◌+◌, Bool, false, get_or, refl, arith, subst, sym, ◌∙◌}
use Rattle.league.specs.Counts.{Counts}
use Rattle.moves.specs.Parts.{AreTradedBelow}
use Rattle.moves.specs.Round.{Edits, round_counts}
use Rattle.moves.proofs.ApartLemmas.{AreApart-teams}
use Rattle.moves.proofs.EditLemmas.{AreTradedBelow-more, AreTradedBelow-none, AreTradedBelow-skip, IsTrade}
use Rattle.moves.proofs.teams.exchange_teams.Goals as goal
use Rattle.moves.proofs.teams.exchange_teams.Goals.{then-marks-slot, else-marks-slot}

pub loop-slot-preserved : goal.loop-slot-preserved
loop-slot-preserved c =
    let m : Counts = round_counts c.args.board.now in
    let set : ℕ → Bool = λ r. get_or c.args.marks.now r false in
    let k : ℕ = c.loop-slot.slot in
    let P : Edits → Type 0 = λ e. AreTradedBelow (k + 1) set m c.args.i.0 c.args.j.0 e × (e.n ≡ c.args.board.now.n) in
    elim c.if-marks-slot.branch as (λ _. P c.if-marks-slot.edit) [
      | then-marks-slot w ↦
          let first : IsTrade m c.args.i.0 c.args.j.0 k c.loop-slot.edit w.trade.new.edit = record {
            out = w.trade.ensures.out;
            into = w.trade.ensures.into;
            out_length = w.trade.ensures.out_length;
            into_length = w.trade.ensures.into_length;
          } in
          let last = w.trade-then-marks-slot in
          let second : IsTrade m c.args.j.0 c.args.i.0 k w.trade.new.edit last.new.edit = record {
            out = last.ensures.out;
            into = last.ensures.into;
            out_length = last.ensures.out_length;
            into_length = last.ensures.into_length;
          } in
          subst P (sym w.edit-is) (
            AreTradedBelow-more k set m c.args.i.0 c.args.j.0 c.loop-slot.edit w.trade.new.edit last.new.edit c.requires.differ w.if-marks-slot.true
                (c.requires.apart k (omega arith) w.if-marks-slot.true) first second c.loop-slot.invariant.0,
            last.ensures.n ∙ w.trade.ensures.n ∙ c.loop-slot.invariant.1,
          )
      | else-marks-slot w ↦
          subst P (sym w.edit-is) (AreTradedBelow-skip k set m c.args.i.0 c.args.j.0 c.loop-slot.edit w.if-marks-slot.false c.loop-slot.invariant.0, c.loop-slot.invariant.1)
    ]

pub loop-slot-init : goal.loop-slot-init
loop-slot-init c =
    let set : ℕ → Bool = λ r. get_or c.args.marks.now r false in
    let P : Edits → Type 0 = λ e. AreTradedBelow 0 set (round_counts c.args.board.now) c.args.i.0 c.args.j.0 e × (e.n ≡ c.args.board.now.n) in
    subst P (sym c.requires.empty) (AreTradedBelow-none c.args.board.now.n set (round_counts c.args.board.now) c.args.i.0 c.args.j.0, refl)

pub returns-clause-apart : goal.returns-clause-apart
returns-clause-apart c =
    let set : ℕ → Bool = λ r. get_or c.args.marks.now r false in
    AreApart-teams c.args.board.now c.loop-slot.slot set c.args.i.0 c.args.j.0 c.loop-slot.edit c.n.ensures.round (omega arith) c.requires.i c.requires.j c.requires.differ
    c.requires.apart c.loop-slot.invariant.0
