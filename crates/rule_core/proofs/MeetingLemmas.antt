-- Which games leave the games of some meetings in some slots as many as they are.
use Rattle.std.proofs.Common.{◌≡◌, ◌≢◌, ℕ, Bool, true, false, ◌&&◌, ◌==◌, List, get_or, refl, arith, ap, ◌∙◌, inl, inr, ◌⊎◌}
use Rattle.std.proofs.lemmas.Bool.{cases_eq}
use Rattle.std.proofs.lemmas.Bool.Decides.{nat_tests}
use Rattle.std.proofs.lemmas.List.{get_or_default}
use Rattle.std.proofs.lemmas.List.Folds.{list_any-from_Any}
use Rattle.std.specs.List.{All, sum_by}
use Rattle.league.specs.Sets.{is_in}
use Rattle.league.specs.Counts.{Counts, one_more}
use Rattle.league.specs.Meetings.{games_of}
use Rattle.league.specs.declared.game.Game.{Game}
use Rattle.league.proofs.MemberLemmas.{is_in-lacks}
use Rattle.league.proofs.SumLemmas.{sum_by-same, sum_by-same_in}
use Rattle.rule_core.specs.Meetings.{is_listed}
use Rattle.rule_core.proofs.OpponentLemmas.{one_more-other_away, one_more-other_home, one_more-other_slot}

-- a game of another meeting has another home team or another away team
one_more-other_meeting : (m : Counts) (g : Game) (p : ℕ × ℕ) (s : ℕ) → p ≢ (g.home.0, g.away.0) → one_more m g p.0 p.1 s ≡ m p.0 p.1 s
one_more-other_meeting m g p s differ =
    elim (cases_eq p.0 g.home.0) [
      | inl at_home ↦ one_more-other_away m g p.0 p.1 s (λ away. differ (ap (λ (x : ℕ). (x, p.1)) at_home ∙ ap (λ (y : ℕ). (g.home.0, y)) away))
      | inr other ↦ one_more-other_home m g p.0 p.1 s other
    ]

-- a game in none of the slots
pub games_of-elsewhere : (m : Counts) (g : Game) (meetings : List (ℕ × ℕ)) (slots : List ℕ) → All (λ s. s ≢ g.slot.0) slots → games_of (one_more m g) meetings slots ≡ games_of m meetings slots
games_of-elsewhere m g meetings slots differ =
    sum_by-same (λ p. sum_by (λ s. one_more m g p.0 p.1 s) slots) (λ p. sum_by (λ s. m p.0 p.1 s) slots)
    (λ p. sum_by-same_in (λ s. one_more m g p.0 p.1 s) (λ s. m p.0 p.1 s) slots (λ k d lt. one_more-other_slot m g p.0 p.1 (get_or slots k d) (differ k d lt)))
    meetings

-- a game of none of the meetings
pub games_of-other_meeting : (m : Counts) (g : Game) (meetings : List (ℕ × ℕ)) (slots : List ℕ) → All (λ p. p ≢ (g.home.0, g.away.0)) meetings → games_of (one_more m g) meetings slots ≡ games_of m meetings slots
games_of-other_meeting m g meetings slots differ =
    sum_by-same_in (λ p. sum_by (λ s. one_more m g p.0 p.1 s) slots) (λ p. sum_by (λ s. m p.0 p.1 s) slots) meetings
    (λ k d lt. sum_by-same (λ s. one_more m g (get_or meetings k d).0 (get_or meetings k d).1 s) (λ s. m (get_or meetings k d).0 (get_or meetings k d).1 s) (λ s. one_more-other_meeting m g (get_or meetings k d) s (differ k d lt)) slots)

-- a meeting that isn't listed is none of these
pub is_listed-lacks : (meetings : List (ℕ × ℕ)) (p : ℕ × ℕ) → is_listed meetings p.0 p.1 ≡ false → All (λ q. q ≢ p) meetings
is_listed-lacks meetings p out k d lt same =
    let at : is_listed meetings p.0 p.1 ≡ true = list_any-from_Any (λ q. (q.0 == p.0) && (q.1 == p.1)) meetings (k, p, lt, get_or_default meetings k p d lt ∙ same, itself p.0 p.1) in
    absurd (cc) where
      itself : (a b : ℕ) → ((a == a) && (b == b)) ≡ true
      itself a b = grind (arith, nat_tests)

-- a game that isn't both of one of the meetings and in one of the slots
pub games_of-unlisted : (m : Counts) (g : Game) (meetings : List (ℕ × ℕ)) (slots : List ℕ) → (is_listed meetings g.home.0 g.away.0 && is_in g.slot.0 slots) ≡ false → games_of (one_more m g) meetings slots ≡ games_of m meetings slots
games_of-unlisted m g meetings slots out =
    elim (one_fails (is_listed meetings g.home.0 g.away.0) (is_in g.slot.0 slots) out) [
      | inl unlisted ↦ games_of-other_meeting m g meetings slots (is_listed-lacks meetings (g.home.0, g.away.0) unlisted)
      | inr elsewhere ↦ games_of-elsewhere m g meetings slots (is_in-lacks g.slot.0 slots elsewhere)
    ] where
      one_fails : (a b : Bool) → (a && b) ≡ false → (a ≡ false) ⊎ (b ≡ false)
      one_fails true b h = inr h
      one_fails false b h = inl refl
