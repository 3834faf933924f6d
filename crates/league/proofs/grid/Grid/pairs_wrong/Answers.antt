use Rattle.std.proofs.Common.{◌≡◌, ℕ, ◌&&◌, ◌==◌, not, ap, ◌∙◌, sym, arith}
use Rattle.std.specs.List.{count_by, range_with_len, sum_by}
use Rattle.league.specs.Counts.{teams_of}
use Rattle.league.specs.Structure.{isnt_one}
use Rattle.league.specs.Grid.{entry}
use Rattle.league.proofs.MeetingLemmas.{count_by-meetings_of}
use Rattle.league.proofs.RangeLemmas.{summed}
use Rattle.league.proofs.grid.Grid.pairs_wrong.Goals as goal

pub loop-home-preserved : goal.loop-home-preserved
loop-home-preserved c = record {
  counted = summed (λ i. count_by (λ j. not (j == i) && isnt_one (entry c.args.self.now i j)) (teams_of c.args.n)) c.loop-home.home c.loop-home.wrong _ c.loop-home.invariant.counted (omega arith);
  bounded = omega arith;
}

pub returns : goal.returns
returns c =
    let numbers = c.args.self.now in
    let at_home : ℕ → ℕ = λ i. count_by (λ j. not (j == i) && isnt_one (entry numbers i j)) (teams_of c.args.n) in
    let all : c.loop-home.home ≡ c.args.n = omega arith in
    c.loop-home.invariant.counted ∙ ap (λ (k : ℕ). sum_by at_home (range_with_len 0 k)) all ∙ sym (count_by-meetings_of (λ p. isnt_one (entry numbers p.0 p.1)) c.args.n)
