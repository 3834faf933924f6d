use Rattle.std.proofs.Common.{◌≡◌, ℕ, ◌+◌, ◌<◌, ◌&&◌, Bool, false, not, nat_lt, ap, ◌∙◌, arith}
use Rattle.std.proofs.lemmas.Bool.{and_from, and_left, and_right, lt-ltb, ne_eqb}
use Rattle.league.specs.Counts.{Counts}
use Rattle.league.specs.Structure.{isnt_one}
use Rattle.rule_core.specs.Table.{table_counts}
use Rattle.command_show.specs.Cell.{early_meetings, is_misphased}
use Rattle.command_show.proofs.RangeLemmas.{any_here, any_later}
use Rattle.command_show.proofs.cell.is_misphased.Goals as goal
use Rattle.command_show.proofs.cell.is_misphased.Goals.{else-between-gt0-via-then-between-gt0+else-early_meetings-ne1, else-between-gt0-via-else-between-gt0}

-- whether team i plays team j in slot s, and not just once in the first half
abbrev is_wrong : ℕ → Counts → ℕ → ℕ → ℕ → Bool
is_wrong n m i s j = nat_lt 0 (m i j s + m j i s) && isnt_one (early_meetings n m i j)

pub returns-then-early_meetings-ne1 : goal.returns-then-early_meetings-ne1
returns-then-early_meetings-ne1 c =
    let n = c.args.cells.now.n in
    let m = table_counts c.args.cells.now in
    let i = c.args.team.0 in
    let j = c.loop-number.number in
    let s = c.args.slot.0 in
    let play : 0 < m i j s + m j i s = omega (arith, c.between.ensures.games, c.if-between-gt0.true) in
    any_here (is_wrong n m i s) j n (is_misphased n m i s) (omega (arith, c.n-number-end.ensures.n, c.loop-number-test.true))
    (and_from _ _ (lt-ltb 0 (m i j s + m j i s) play) (ap not (ne_eqb (early_meetings n m i j) 1 (λ e. c.if-early_meetings-ne1.true (c.early_meetings.ensures ∙ e)))))
    c.loop-number.invariant

pub loop-number-preserved : goal.loop-number-preserved
loop-number-preserved c =
    let n = c.args.cells.now.n in
    let m = table_counts c.args.cells.now in
    let i = c.args.team.0 in
    let j = c.loop-number.number in
    let s = c.args.slot.0 in
    let passes : is_wrong n m i s j ≡ false = elim c.else-between-gt0.branch [
      | else-between-gt0-via-then-between-gt0+else-early_meetings-ne1 w ↦
          let once : early_meetings n m i j ≡ 1 = omega (arith, w.early_meetings.ensures, w.if-early_meetings-ne1.false) in
          and_right (nat_lt 0 (m i j s + m j i s)) _ (ap isnt_one once)
      | else-between-gt0-via-else-between-gt0 w ↦
          let none : m i j s + m j i s ≡ 0 = omega (arith, c.between.ensures.games, w.if-between-gt0.false) in
          and_left _ (isnt_one (early_meetings n m i j)) (ap (nat_lt 0) none)
    ] in
    any_later (is_wrong n m i s) j n (is_misphased n m i s) (omega (arith, c.n-number-end.ensures.n, c.loop-number-test.true)) passes c.loop-number.invariant
