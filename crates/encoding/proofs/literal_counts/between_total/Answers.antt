use Rattle.std.proofs.Common.{◌≡◌, ℕ, ◌&&◌, ◌==◌, not, Bool, ap, sym, ◌∙◌, arith}
use Rattle.std.proofs.lemmas.List.Sums.{length-filter}
use Rattle.std.specs.List.{count_by, range_with_len, sum_by}
use Rattle.league.specs.Capacity.{is_between}
use Rattle.league.specs.Counts.{teams_of}
use Rattle.league.specs.Meetings.{meetings_of}
use Rattle.league.proofs.MeetingLemmas.{count_by-meetings_of}
use Rattle.league.proofs.RangeLemmas.{summed}
use Rattle.encoding.proofs.literal_counts.between_total.Goals as goal

pub loop-home-preserved : goal.loop-home-preserved
loop-home-preserved c =
    let meets : ℕ × ℕ → Bool = is_between c.args.side c.args.teams1.now c.args.teams2.now in
    let at_home : ℕ → ℕ = λ i. count_by (λ j. not (j == i) && meets (i, j)) (teams_of c.args.n) in
    record {
      so_far = summed at_home c.loop-home.home c.loop-home.total _ c.loop-home.invariant.so_far (omega arith);
      most = omega arith;
    }

pub returns-clause-count : goal.returns-clause-count
returns-clause-count c =
    let meets : ℕ × ℕ → Bool = is_between c.args.side c.args.teams1.now c.args.teams2.now in
    let at_home : ℕ → ℕ = λ i. count_by (λ j. not (j == i) && meets (i, j)) (teams_of c.args.n) in
    let all : c.loop-home.home ≡ c.args.n = omega arith in
    c.loop-home.invariant.so_far
    ∙ ap (λ (k : ℕ). sum_by at_home (range_with_len 0 k)) all
    ∙ sym (count_by-meetings_of meets c.args.n)
    ∙ sym (length-filter meets (meetings_of c.args.n))
