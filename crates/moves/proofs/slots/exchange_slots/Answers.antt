use Rattle.std.proofs.Common.{◌≡◌, ℕ, ◌+◌, Bool, false, get_or, refl, subst, sym, ◌∙◌}
use Rattle.league.specs.Counts.{Counts}
use Rattle.moves.specs.Parts.{AreExchangedBelow}
use Rattle.moves.specs.Round.{Edits, round_counts}
use Rattle.moves.proofs.ApartLemmas.{AreApart-slots}
use Rattle.moves.proofs.EditLemmas.{AreExchangedBelow-more, AreExchangedBelow-none, AreExchangedBelow-skip, IsPutOff}
use Rattle.moves.proofs.slots.exchange_slots.Goals as goal
use Rattle.moves.proofs.slots.exchange_slots.Goals.{then-marks-team, else-marks-team}

pub loop-team-preserved : goal.loop-team-preserved
loop-team-preserved c =
    let m : Counts = round_counts c.args.board.now in
    let set : ℕ → Bool = λ a. get_or c.args.marks.now a false in
    let k : ℕ = c.loop-team.team in
    let P : Edits → Type 0 = λ e. AreExchangedBelow (k + 1) set m c.args.s.0 c.args.t.0 e × (e.n ≡ c.args.board.now.n) in
    elim c.if-marks-team.branch as (λ _. P c.if-marks-team.edit) [
      | then-marks-team w ↦
          let first : IsPutOff m k c.args.s.0 c.args.t.0 c.loop-team.edit w.put_off.new.edit = record {
            out = w.put_off.ensures.out;
            into = w.put_off.ensures.into;
            out_length = w.put_off.ensures.out_length;
            into_length = w.put_off.ensures.into_length;
          } in
          let last = w.put_off-then-marks-team in
          let second : IsPutOff m k c.args.t.0 c.args.s.0 w.put_off.new.edit last.new.edit = record {
            out = last.ensures.out;
            into = last.ensures.into;
            out_length = last.ensures.out_length;
            into_length = last.ensures.into_length;
          } in
          subst P (sym w.edit-is) (
            AreExchangedBelow-more k set m c.args.s.0 c.args.t.0 c.loop-team.edit w.put_off.new.edit last.new.edit c.requires.order w.if-marks-team.true first second c.loop-team.invariant.0,
            last.ensures.n ∙ w.put_off.ensures.n ∙ c.loop-team.invariant.1,
          )
      | else-marks-team w ↦
          subst P (sym w.edit-is) (AreExchangedBelow-skip k set m c.args.s.0 c.args.t.0 c.loop-team.edit w.if-marks-team.false c.loop-team.invariant.0, c.loop-team.invariant.1)
    ]

pub loop-team-init : goal.loop-team-init
loop-team-init c =
    let set : ℕ → Bool = λ a. get_or c.args.marks.now a false in
    let P : Edits → Type 0 = λ e. AreExchangedBelow 0 set (round_counts c.args.board.now) c.args.s.0 c.args.t.0 e × (e.n ≡ c.args.board.now.n) in
    subst P (sym c.requires.empty) (AreExchangedBelow-none c.args.board.now.n set (round_counts c.args.board.now) c.args.s.0 c.args.t.0, refl)

pub returns-clause-apart : goal.returns-clause-apart
returns-clause-apart c =
    let set : ℕ → Bool = λ a. get_or c.args.marks.now a false in
    AreApart-slots c.args.board.now c.loop-team.team set c.args.s.0 c.args.t.0 c.loop-team.edit c.n-team-end.ensures.round c.requires.order c.requires.t c.loop-team.invariant.0
