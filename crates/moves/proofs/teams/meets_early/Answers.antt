use Rattle.std.proofs.Common.{◌≡◌, ℕ, Bool, true, false, get_or, inl, inr, arith}
use Rattle.std.proofs.lemmas.Bool.{both_ways, cases_Bool}
use Rattle.league.specs.Counts.{Counts}
use Rattle.moves.specs.Parts.{early_games}
use Rattle.moves.specs.Round.{round_counts}
use Rattle.moves.proofs.TradeLemmas.{early-from, early-none}
use Rattle.moves.proofs.teams.meets_early.Goals as goal

pub returns-then-is_early_mark : goal.returns-then-is_early_mark
returns-then-is_early_mark c =
    let set : ℕ → Bool = λ r. get_or c.args.marks.now r false in
    let here = c.is_early_mark.ensures.0 c.if-is_early_mark.true in (
      λ _. early-from c.args.board.now.n (round_counts c.args.board.now) set c.args.j.0 c.args.k.0 c.slot_of-home.result.0 c.slot_of-away.result.0 c.slot_of-home.ensures.at c.slot_of-away.ensures.at (inl (omega (arith, here.0, c.n-half.ensures.n), here.1)),
      λ _. c.if-is_early_mark.true,
    )

pub returns-else-is_early_mark : goal.returns-else-is_early_mark
returns-else-is_early_mark c =
    let set : ℕ → Bool = λ r. get_or c.args.marks.now r false in
    let n : ℕ = c.args.board.now.n in
    let m : Counts = round_counts c.args.board.now in
    let second = c.is_early_mark-else-is_early_mark in (
      λ is. let here = second.ensures.0 is in
          early-from n m set c.args.j.0 c.args.k.0 c.slot_of-home.result.0 c.slot_of-away.result.0 c.slot_of-home.ensures.at c.slot_of-away.ensures.at (inr (omega (arith, here.0, c.n-half.ensures.n), here.1)),
      λ some. elim (cases_Bool second.result) as (λ _. second.result ≡ true) [
        | inl is ↦ is
        | inr fails ↦
            let none : early_games n m set c.args.j.0 c.args.k.0 ≡ 0 =
            early-none n m set c.args.j.0 c.args.k.0 c.slot_of-home.result.0 c.slot_of-away.result.0 c.slot_of-home.ensures.at c.slot_of-away.ensures.at
            (λ mark. both_ways c.is_early_mark.result c.if-is_early_mark.false (c.is_early_mark.ensures.1 (omega (arith, mark.0, c.n-half.ensures.n), mark.1)))
            (λ mark. both_ways second.result fails (second.ensures.1 (omega (arith, mark.0, c.n-half.ensures.n), mark.1))) in
            absurd (omega (arith, none, some))
      ],
    )
