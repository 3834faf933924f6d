use Rattle.std.proofs.Common.{◌≡◌, ℕ, ◌+◌, ◌<◌, ◌∷◌, List, drop, length, get_or, map, arith, ap, ◌++◌, ◌∙◌, subst, sym}
use Rattle.std.proofs.lemmas.List.{drop_more, take_rest}
use Rattle.std.specs.Ordering.{nat_cmp}
use Rattle.league.specs.Separation.{se1_entry}
use Rattle.league.specs.Sets.{IsAscending}
use Rattle.rule_core.specs.Table.{table_counts}
use Rattle.rule_core.proofs.KeyLemmas.{ascending-drop}
use Rattle.deviation.proofs.TeamLemmas.{pairs_left, pairs_next}
use Rattle.deviation.proofs.team_gaps.push_lacking.Goals as goal

pub push_team-requires-clause-ascending : goal.push_team-requires-clause-ascending
push_team-requires-clause-ascending c =
    let teams = c.args.teams.now in
    let place : ℕ = c.loop-place.place in
    let inside : place < length teams = omega arith in
    let is : drop place teams ≡ get_or teams place 0 ∷ drop (place + 1) teams = drop_more teams place 0 inside in
    subst (λ (xs : List ℕ). IsAscending nat_cmp (get_or teams place 0 ∷ xs)) (sym (take_rest teams (place + 1)))
    (subst (λ (xs : List ℕ). IsAscending nat_cmp xs) is (ascending-drop place teams c.requires.ascending))

pub loop-place-preserved : goal.loop-place-preserved
loop-place-preserved c =
    let teams = c.args.teams.now in
    let place : ℕ = c.loop-place.place in
    let later : List ℕ = drop (place + 1) teams in
    let inside : place < length teams = omega arith in
    let is : drop place teams ≡ get_or teams place 0 ∷ later = drop_more teams place 0 inside in
    let f : ℕ × ℕ → ℕ = λ p. se1_entry c.args.cells.now.n (table_counts c.args.cells.now) c.args.min p in
    record {
      entries = pairs_next f teams later c.loop-place.entries.items c.push_team.new.entries.items _ place
          (get_or teams place 0) is c.loop-place.invariant.entries
          (c.push_team.ensures.entries
          ∙ ap (λ (xs : List ℕ). c.loop-place.entries.items ++ map (λ j. f (get_or teams place 0, j)) xs)
          (take_rest teams (place + 1)));
      room = omega (
        arith,
        pairs_left teams later place (get_or teams place 0) is,
        c.push_team.ensures.pushed,
        c.push_team.ensures.room,
        c.loop-place.invariant.room,
        ap (λ (xs : List ℕ). length xs) (take_rest teams (place + 1)),
      );
    }
