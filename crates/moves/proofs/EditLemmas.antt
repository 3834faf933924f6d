-- The games that a move takes out and puts in, one step more, and all of them.
use Rattle.std.proofs.Common.{◌≡◌, ◌≢◌, ℕ, ◌+◌, ◌<◌, ◌≤◌, Bool, true, false, ◌&&◌, ◌||◌, ◌==◌, nat_lt, if◌then◌else◌, ◌⊎◌, inl, inr, [], length, get_or, refl, arith, ap, subst, sym, ◌∙◌}
use Rattle.std.proofs.lemmas.Bool.{cases_eq, cases_lt}
use Rattle.std.proofs.lemmas.Bool.Decides.{nat_tests}
use Rattle.std.proofs.lemmas.List.Elements.{All-from_get_or, All-nil, All-same, Contains-get_or}
use Rattle.std.specs.List.{All}
use Rattle.league.specs.Counts.{Counts, counts_of, slot_count}
use Rattle.league.specs.Instance.{IsGame}
use Rattle.league.specs.declared.game.Game.{Game}
use Rattle.moves.specs.Moves.{do_meet, exchange, game}
use Rattle.moves.specs.Parts.{AreExchangedBelow, AreTradedBelow, slots_exchanged, teams_exchanged}
use Rattle.moves.specs.Places.{IsRound}
use Rattle.moves.specs.Round.{Edits, IsEdit, Round, round_counts}
use Rattle.moves.proofs.PlacedLemmas.{counted_in}
use Rattle.moves.proofs.PlayLemmas.{IsPlayed, met-itself, played}
use Rattle.moves.proofs.RoundLemmas.{IsWithin, IsWithin-of}
use Rattle.moves.proofs.SumLemmas.{exchange-first, exchange-other, exchange-second}

-- a step of a list of the games to be taken out
out_step : (a k r s t : ℕ) (in_a in_k : Bool) (x xs xt before : ℕ) → s ≢ t → (a ≡ k → in_a ≡ in_k) → (r ≡ s → x ≡ xs)
    → (r ≡ t → x ≡ xt) → in_k ≡ true → before ≡ (if nat_lt a k && in_a && ((r == s) || (r == t)) then x else 0)
    → before + (if (a == k) && (r == s) then xs else 0) + (if (a == k) && (r == t) then xt else 0)
    ≡ (if nat_lt a (k + 1) && in_a && ((r == s) || (r == t)) then x else 0)
out_step a k r s t in_a in_k x xs xt before ne same first second yes_k h = grind (arith, nat_tests)

skip_step : (a k : ℕ) (in_a in_k y : Bool) (x before : ℕ) → (a ≡ k → in_a ≡ in_k) → in_k ≡ false → before ≡ (if nat_lt a k && in_a && y then x else 0) → before ≡ (if nat_lt a (k + 1) && in_a && y then x else 0)
skip_step a k in_a in_k y x before same no_k h = grind (arith, nat_tests)

none_below : (a : ℕ) (in_a y : Bool) (x : ℕ) → 0 ≡ (if nat_lt a 0 && in_a && y then x else 0)
none_below a in_a y x = grind (arith, nat_tests)

pub AreExchangedBelow-none : (n : ℕ) (set : ℕ → Bool) (m : Counts) (s t : ℕ) → AreExchangedBelow 0 set m s t (record { n = n; out = []; into = [] })
AreExchangedBelow-none n set m s t = record {
  out_length = omega arith;
  into_length = omega arith;
  out_counts = λ a b r. none_below a (set a) ((r == s) || (r == t)) (m a b r);
  into_counts = λ a b r. none_below a (set a) ((r == s) || (r == t)) (m a b (exchange s t r));
}

-- what putting off the game of team k from slot s to slot t adds
pub record IsPutOff (m : Counts) (k s t : ℕ) (old new : Edits) : Type 0 where
  pub out : (a b r : ℕ) → counts_of new.out a b r ≡ counts_of old.out a b r + (if (a == k) && (r == s) then m a b s else 0)
  pub into : (a b r : ℕ) → counts_of new.into a b r ≡ counts_of old.into a b r + (if (a == k) && (r == t) then m a b s else 0)
  pub out_length : length new.out ≤ length old.out + 1
  pub into_length : length new.into ≤ length old.into + 1

plus_comm : (x y z : ℕ) → x + y + z ≡ x + z + y
plus_comm x y z = omega arith

pub AreExchangedBelow-more : (k : ℕ) (set : ℕ → Bool) (m : Counts) (s t : ℕ) (old between new : Edits) → s < t → set k ≡ true → IsPutOff m k s t old between → IsPutOff m k t s between new → AreExchangedBelow k set m s t old → AreExchangedBelow (k + 1) set m s t new
AreExchangedBelow-more k set m s t old between new lt in_set first second before = record {
  out_length = omega (arith, first.out_length, second.out_length, before.out_length);
  into_length = omega (arith, first.into_length, second.into_length, before.into_length);
  out_counts = λ a b r.
      second.out a b r ∙ ap (λ (x : ℕ). x + (if (a == k) && (r == t) then m a b t else 0)) (first.out a b r)
      ∙ out_step a k r s t (set a) (set k) (m a b r) (m a b s) (m a b t) (counts_of old.out a b r) (λ e. omega arith) (λ e. ap set e) (λ e. ap (m a b) e) (λ e. ap (m a b) e) in_set (before.out_counts a b r);
  into_counts = λ a b r.
      second.into a b r ∙ ap (λ (x : ℕ). x + (if (a == k) && (r == s) then m a b t else 0)) (first.into a b r)
      ∙ plus_comm (counts_of old.into a b r) (if (a == k) && (r == t) then m a b s else 0) (if (a == k) && (r == s) then m a b t else 0)
      ∙ out_step a k r s t (set a) (set k) (m a b (exchange s t r)) (m a b t) (m a b s) (counts_of old.into a b r) (λ e. omega arith) (λ e. ap set e) (λ e. ap (m a b) (exchange-first s t r e)) (λ e. ap (m a b) (exchange-second s t r e)) in_set (before.into_counts a b r);
}

pub AreExchangedBelow-skip : (k : ℕ) (set : ℕ → Bool) (m : Counts) (s t : ℕ) (edit : Edits) → set k ≡ false → AreExchangedBelow k set m s t edit → AreExchangedBelow (k + 1) set m s t edit
AreExchangedBelow-skip k set m s t edit out before = record {
  out_length = omega (arith, before.out_length);
  into_length = omega (arith, before.into_length);
  out_counts = λ a b r. skip_step a k (set a) (set k) ((r == s) || (r == t)) (m a b r) (counts_of edit.out a b r) (λ e. ap set e) out (before.out_counts a b r);
  into_counts = λ a b r. skip_step a k (set a) (set k) ((r == s) || (r == t)) (m a b (exchange s t r)) (counts_of edit.into a b r) (λ e. ap set e) out (before.into_counts a b r);
}

-- games under a test, where nothing else changes
kept-le : (p : Bool) (x y : ℕ) → y ≡ (if p then x else 0) → y ≤ x
kept-le true x y e = omega arith
kept-le false x y e = omega arith

kept-moves : (p : Bool) (x z out into : ℕ) → out ≡ (if p then x else 0) → into ≡ (if p then z else 0) → (p ≡ false → z ≡ x) → z + out ≡ x + into
kept-moves true x z out into e f same = omega arith
kept-moves false x z out into e f same = let h : z ≡ x = same refl in omega arith

not_first : (a n r s t : ℕ) → a < n → (nat_lt a n && true && ((r == s) || (r == t))) ≡ false → r ≡ s → ⊥
not_first a n r s t lt none e = grind (arith, nat_tests)

not_second : (a n r s t : ℕ) → a < n → (nat_lt a n && true && ((r == s) || (r == t))) ≡ false → r ≡ t → ⊥
not_second a n r s t lt none e = grind (arith, nat_tests)

-- where a game isn't touched, it stays
untouched : (a n r s t : ℕ) (in_a : Bool) (f : ℕ → ℕ) → (n ≤ a → (q : ℕ) → f q ≡ 0) → (nat_lt a n && in_a && ((r == s) || (r == t))) ≡ false → (if in_a then f (exchange s t r) else f r) ≡ f r
untouched a n r s t false f past none = refl
untouched a n r s t true f past none =
    elim (cases_lt a n) as (λ _. f (exchange s t r) ≡ f r) [
      | inl lt ↦ ap f (exchange-other s t r (not_first a n r s t lt none) (not_second a n r s t lt none))
      | inr le ↦ past le (exchange s t r) ∙ sym (past le r)
    ]

and_kept : (x y z : Bool) (u v : ℕ) → (if x && y && z then u else 0) ≡ (if x && y && z then (if y then u else v) else 0)
and_kept false y z u v = refl
and_kept true false z u v = refl
and_kept true true z u v = refl

pub IsEdit-slots : (n : ℕ) (set : ℕ → Bool) (m : Counts) (s t : ℕ) (edit : Edits) → ((a b r : ℕ) → n ≤ a → m a b r ≡ 0) → AreExchangedBelow n set m s t edit → IsEdit m (slots_exchanged set s t m) edit
IsEdit-slots n set m s t edit past all = record {
  there = λ a b r. kept-le (nat_lt a n && set a && ((r == s) || (r == t))) (m a b r) (counts_of edit.out a b r) (all.out_counts a b r);
  moves = λ a b r.
      kept-moves (nat_lt a n && set a && ((r == s) || (r == t))) (m a b r) (slots_exchanged set s t m a b r) (counts_of edit.out a b r) (counts_of edit.into a b r)
      (all.out_counts a b r)
      (all.into_counts a b r ∙ and_kept (nat_lt a n) (set a) ((r == s) || (r == t)) (m a b (exchange s t r)) (m a b r))
      (λ none. untouched a n r s t (set a) (m a b) (λ le q. past a b q le) none);
}

IsGame-of : (n : ℕ) (phased : Bool) (m : Counts) (g : Game) → IsPlayed n phased m → IsWithin n m → 1 ≤ m g.home.0 g.away.0 g.slot.0 → IsGame n g
IsGame-of n phased m g played within some =
    let home : g.home.0 < n = elim (cases_lt g.home.0 n) as (λ _. g.home.0 < n) [
      | inl lt ↦ lt
      | inr le ↦ let none = within.home g.home.0 g.away.0 g.slot.0 le in absurd (omega arith)
    ] in
    let away : g.away.0 < n = elim (cases_lt g.away.0 n) as (λ _. g.away.0 < n) [
      | inl lt ↦ lt
      | inr le ↦ let none = within.away g.home.0 g.away.0 g.slot.0 le in absurd (omega arith)
    ] in
    let slot : g.slot.0 < slot_count n = elim (cases_lt g.slot.0 (slot_count n)) as (λ _. g.slot.0 < slot_count n) [
      | inl lt ↦ lt
      | inr le ↦ let none = within.slot g.home.0 g.away.0 g.slot.0 le in absurd (omega arith)
    ] in
    record {
      home = home;
      away = away;
      differ = λ e.
          let itself : m g.home.0 g.home.0 g.slot.0 ≡ 0 = met-itself n phased m g.home.0 g.slot.0 played home slot in
          let same : m g.home.0 g.away.0 g.slot.0 ≡ m g.home.0 g.home.0 g.slot.0 = ap (λ (w : ℕ). m g.home.0 w g.slot.0) (sym e) in
          omega (arith, itself, same, some);
      slot = slot;
    }

-- the games put in are of the league
pub fit-of : (n : ℕ) (phased : Bool) (before after : Counts) (edit : Edits) → IsEdit before after edit → IsPlayed n phased after → IsWithin n after → All (IsGame n) edit.into
fit-of n phased before after edit is played within =
    All-from_get_or (IsGame n) edit.into (game 0 0 0) (λ k lt.
    let g : Game = get_or edit.into k (game 0 0 0) in
    let some : 1 ≤ counts_of edit.into g.home.0 g.away.0 g.slot.0 = counted_in edit.into g (Contains-get_or edit.into k (game 0 0 0) lt) in
    let there : 1 ≤ after g.home.0 g.away.0 g.slot.0 = omega (arith, some, is.moves g.home.0 g.away.0 g.slot.0, is.there g.home.0 g.away.0 g.slot.0) in
    IsGame-of n phased after g played within there)

-- the games taken out of a board are of the league, where no edit is made too
pub out_fit-of : (r : Round) (after : Counts) (result : Bool) (edit : Edits) → IsRound r → (result ≡ true → IsEdit (round_counts r) after edit) → (result ≡ false → (edit.out ≡ []) × (edit.into ≡ [])) → All (IsGame r.n) edit.out
out_fit-of r after true edit round change none =
    let is : IsEdit (round_counts r) after edit = change refl in
    All-from_get_or (IsGame r.n) edit.out (game 0 0 0) (λ k lt.
    let g : Game = get_or edit.out k (game 0 0 0) in
    let some : 1 ≤ counts_of edit.out g.home.0 g.away.0 g.slot.0 = counted_in edit.out g (Contains-get_or edit.out k (game 0 0 0) lt) in
    let there : 1 ≤ round_counts r g.home.0 g.away.0 g.slot.0 = omega (arith, some, is.there g.home.0 g.away.0 g.slot.0) in
    IsGame-of r.n r.phased (round_counts r) g (played r.n r.phased (round_counts r) round.round_robin) (IsWithin-of r round.table) there)
out_fit-of r after false edit round change none = All-same (IsGame r.n) edit.out [] (none refl).0 (All-nil (IsGame r.n))

-- a step of the games that two teams trade
pub record IsTrade (m : Counts) (i j k : ℕ) (old new : Edits) : Type 0 where
  pub out : (a b r : ℕ) → counts_of new.out a b r ≡ counts_of old.out a b r + (if (r == k) && ((a == i) || (b == i)) then m a b k else 0)
  pub into : (a b r : ℕ) → counts_of new.into a b r ≡ counts_of old.into a b r + (if (r == k) && ((a == j) || (b == j)) then m (exchange i j a) (exchange i j b) k else 0)
  pub out_length : length new.out ≤ length old.out + 1
  pub into_length : length new.into ≤ length old.into + 1

trade_step : (r k : ℕ) (in_r in_k p q : Bool) (x xk before : ℕ) → (r ≡ k → in_r ≡ in_k) → (r ≡ k → x ≡ xk) → in_k ≡ true
    → (r ≡ k → p ≡ true → q ≡ true → x ≡ 0) → before ≡ (if nat_lt r k && in_r && (p || q) then x else 0)
    → before + (if (r == k) && p then xk else 0) + (if (r == k) && q then xk else 0)
    ≡ (if nat_lt r (k + 1) && in_r && (p || q) then x else 0)
trade_step r k in_r in_k p q x xk before same value in_set both h = grind (arith, nat_tests)

second_is : (a b i j : ℕ) → a ≡ i → i ≢ j → ((a == j) || (b == j)) ≡ true → b ≡ j
second_is a b i j e ne q = grind (arith, nat_tests)

second_team : (a b i : ℕ) → a ≢ i → ((a == i) || (b == i)) ≡ true → b ≡ i
second_team a b i ne p = grind (arith, nat_tests)

first_is : (a b i j : ℕ) → b ≡ i → i ≢ j → ((a == j) || (b == j)) ≡ true → a ≡ j
first_is a b i j e ne q = grind (arith, nat_tests)

first_none : (x y : ℕ) → nat_lt 0 (x + y) ≡ false → x ≡ 0
first_none x y none = grind (arith, nat_tests)

second_none : (x y : ℕ) → nat_lt 0 (x + y) ≡ false → y ≡ 0
second_none x y none = grind (arith, nat_tests)

exchange_turned : (i j a : ℕ) → exchange j i a ≡ exchange i j a
exchange_turned i j a = grind (arith, nat_tests)

-- who are both of the teams
both_teams : (a b i j : ℕ) → i ≢ j → ((a == i) || (b == i)) ≡ true → ((a == j) || (b == j)) ≡ true → ((a ≡ i) × (b ≡ j)) ⊎ ((a ≡ j) × (b ≡ i))
both_teams a b i j ne p q = elim (cases_eq a i) as (λ _. ((a ≡ i) × (b ≡ j)) ⊎ ((a ≡ j) × (b ≡ i))) [
  | inl first ↦ inl (first, second_is a b i j first ne q)
  | inr other ↦ let is_b : b ≡ i = second_team a b i other p in inr (first_is a b i j is_b ne q, is_b)
]

none_of_both : (m : Counts) (i j k a b : ℕ) → i ≢ j → do_meet m i j k ≡ false → ((a == i) || (b == i)) ≡ true → ((a == j) || (b == j)) ≡ true → m a b k ≡ 0
none_of_both m i j k a b ne apart p q = elim (both_teams a b i j ne p q) as (λ _. m a b k ≡ 0) [
  | inl home ↦ ap (λ (a : ℕ). m a b k) home.0 ∙ ap (λ (b : ℕ). m i b k) home.1 ∙ first_none (m i j k) (m j i k) apart
  | inr away ↦ ap (λ (a : ℕ). m a b k) away.0 ∙ ap (λ (b : ℕ). m j b k) away.1 ∙ second_none (m i j k) (m j i k) apart
]

none_of_both_exchanged : (m : Counts) (i j k a b : ℕ) → i ≢ j → do_meet m i j k ≡ false → ((a == i) || (b == i)) ≡ true → ((a == j) || (b == j)) ≡ true → m (exchange i j a) (exchange i j b) k ≡ 0
none_of_both_exchanged m i j k a b ne apart p q = elim (both_teams a b i j ne p q) as (λ _. m (exchange i j a) (exchange i j b) k ≡ 0) [
  | inl home ↦ ap (λ (a : ℕ). m a (exchange i j b) k) (exchange-first i j a home.0) ∙ ap (λ (b : ℕ). m j b k) (exchange-second i j b home.1) ∙ second_none (m i j k) (m j i k) apart
  | inr away ↦ ap (λ (a : ℕ). m a (exchange i j b) k) (exchange-second i j a away.0) ∙ ap (λ (b : ℕ). m i b k) (exchange-first i j b away.1) ∙ first_none (m i j k) (m j i k) apart
]

pub AreTradedBelow-none : (n : ℕ) (set : ℕ → Bool) (m : Counts) (i j : ℕ) → AreTradedBelow 0 set m i j (record { n = n; out = []; into = [] })
AreTradedBelow-none n set m i j = record {
  out_length = omega arith;
  into_length = omega arith;
  out_counts = λ a b r. none_below r (set r) (((a == i) || (b == i)) || ((a == j) || (b == j))) (m a b r);
  into_counts = λ a b r. none_below r (set r) (((a == i) || (b == i)) || ((a == j) || (b == j))) (m (exchange i j a) (exchange i j b) r);
}

pub AreTradedBelow-more : (k : ℕ) (set : ℕ → Bool) (m : Counts) (i j : ℕ) (old between new : Edits) → i ≢ j → set k ≡ true → do_meet m i j k ≡ false → IsTrade m i j k old between → IsTrade m j i k between new → AreTradedBelow k set m i j old → AreTradedBelow (k + 1) set m i j new
AreTradedBelow-more k set m i j old between new ne in_set apart first second before = record {
  out_length = omega (arith, first.out_length, second.out_length, before.out_length);
  into_length = omega (arith, first.into_length, second.into_length, before.into_length);
  out_counts = λ a b r.
      let p : Bool = (a == i) || (b == i) in
      let q : Bool = (a == j) || (b == j) in
      second.out a b r ∙ ap (λ (x : ℕ). x + (if (r == k) && q then m a b k else 0)) (first.out a b r)
      ∙ trade_step r k (set r) (set k) p q (m a b r) (m a b k) (counts_of old.out a b r) (λ e. ap set e) (λ e. ap (m a b) e) in_set
      (λ e yes_p yes_q. ap (m a b) e ∙ none_of_both m i j k a b ne apart yes_p yes_q) (before.out_counts a b r);
  into_counts = λ a b r.
      let p : Bool = (a == i) || (b == i) in
      let q : Bool = (a == j) || (b == j) in
      let c : ℕ = exchange i j a in
      let d : ℕ = exchange i j b in
      let turned : m (exchange j i a) (exchange j i b) k ≡ m c d k = ap (λ (x : ℕ). m x (exchange j i b) k) (exchange_turned i j a) ∙ ap (λ (x : ℕ). m c x k) (exchange_turned i j b) in
      let P : ℕ → Type 0 = λ x. counts_of new.into a b r ≡ counts_of between.into a b r + (if (r == k) && p then x else 0) in
      subst P turned (second.into a b r) ∙ ap (λ (x : ℕ). x + (if (r == k) && p then m c d k else 0)) (first.into a b r)
      ∙ plus_comm (counts_of old.into a b r) (if (r == k) && q then m c d k else 0) (if (r == k) && p then m c d k else 0)
      ∙ trade_step r k (set r) (set k) p q (m c d r) (m c d k) (counts_of old.into a b r) (λ e. ap set e) (λ e. ap (m c d) e) in_set
      (λ e yes_p yes_q. ap (m c d) e ∙ none_of_both_exchanged m i j k a b ne apart yes_p yes_q) (before.into_counts a b r);
}

pub AreTradedBelow-skip : (k : ℕ) (set : ℕ → Bool) (m : Counts) (i j : ℕ) (edit : Edits) → set k ≡ false → AreTradedBelow k set m i j edit → AreTradedBelow (k + 1) set m i j edit
AreTradedBelow-skip k set m i j edit out before = record {
  out_length = omega (arith, before.out_length);
  into_length = omega (arith, before.into_length);
  out_counts = λ a b r. skip_step r k (set r) (set k) (((a == i) || (b == i)) || ((a == j) || (b == j))) (m a b r) (counts_of edit.out a b r) (λ e. ap set e) out (before.out_counts a b r);
  into_counts = λ a b r. skip_step r k (set r) (set k) (((a == i) || (b == i)) || ((a == j) || (b == j))) (m (exchange i j a) (exchange i j b) r) (counts_of edit.into a b r) (λ e. ap set e) out (before.into_counts a b r);
}

team_1 : (r n a b i j : ℕ) → r < n → (nat_lt r n && true && (((a == i) || (b == i)) || ((a == j) || (b == j)))) ≡ false → a ≡ i → ⊥
team_1 r n a b i j lt none e = grind (arith, nat_tests)

team_2 : (r n a b i j : ℕ) → r < n → (nat_lt r n && true && (((a == i) || (b == i)) || ((a == j) || (b == j)))) ≡ false → b ≡ i → ⊥
team_2 r n a b i j lt none e = grind (arith, nat_tests)

team_3 : (r n a b i j : ℕ) → r < n → (nat_lt r n && true && (((a == i) || (b == i)) || ((a == j) || (b == j)))) ≡ false → a ≡ j → ⊥
team_3 r n a b i j lt none e = grind (arith, nat_tests)

team_4 : (r n a b i j : ℕ) → r < n → (nat_lt r n && true && (((a == i) || (b == i)) || ((a == j) || (b == j)))) ≡ false → b ≡ j → ⊥
team_4 r n a b i j lt none e = grind (arith, nat_tests)

no_team : (r n a b i j : ℕ) → r < n → (nat_lt r n && true && (((a == i) || (b == i)) || ((a == j) || (b == j)))) ≡ false → (a ≢ i) × (b ≢ i) × (a ≢ j) × (b ≢ j)
no_team r n a b i j lt none = (λ e. team_1 r n a b i j lt none e, λ e. team_2 r n a b i j lt none e, λ e. team_3 r n a b i j lt none e, λ e. team_4 r n a b i j lt none e)

untraded : (n r a b i j : ℕ) (in_r : Bool) (m : Counts) → (n ≤ r → (c d : ℕ) → m c d r ≡ 0) → (nat_lt r n && in_r && (((a == i) || (b == i)) || ((a == j) || (b == j)))) ≡ false → (if in_r then m (exchange i j a) (exchange i j b) r else m a b r) ≡ m a b r
untraded n r a b i j false m past none = refl
untraded n r a b i j true m past none =
    elim (cases_lt r n) as (λ _. m (exchange i j a) (exchange i j b) r ≡ m a b r) [
      | inl lt ↦
          let ne = no_team r n a b i j lt none in
          ap (λ (c : ℕ). m c (exchange i j b) r) (exchange-other i j a ne.0 ne.2) ∙ ap (λ (d : ℕ). m a d r) (exchange-other i j b ne.1 ne.3)
      | inr le ↦ past le (exchange i j a) (exchange i j b) ∙ sym (past le a b)
    ]

pub IsEdit-teams : (slots : ℕ) (set : ℕ → Bool) (m : Counts) (i j : ℕ) (edit : Edits) → ((a b r : ℕ) → slots ≤ r → m a b r ≡ 0) → AreTradedBelow slots set m i j edit → IsEdit m (teams_exchanged set i j m) edit
IsEdit-teams slots set m i j edit past all = record {
  there = λ a b r. kept-le (nat_lt r slots && set r && (((a == i) || (b == i)) || ((a == j) || (b == j)))) (m a b r) (counts_of edit.out a b r) (all.out_counts a b r);
  moves = λ a b r.
      kept-moves (nat_lt r slots && set r && (((a == i) || (b == i)) || ((a == j) || (b == j)))) (m a b r) (teams_exchanged set i j m a b r) (counts_of edit.out a b r) (counts_of edit.into a b r)
      (all.out_counts a b r)
      (all.into_counts a b r ∙ and_kept (nat_lt r slots) (set r) (((a == i) || (b == i)) || ((a == j) || (b == j))) (m (exchange i j a) (exchange i j b) r) (m a b r))
      (λ none. untraded slots r a b i j (set r) m (λ le c d. past c d r le) none);
}
