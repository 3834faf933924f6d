-- When each kind of move is legal, by what the kinds have in common.
use Rattle.std.proofs.Common.{◌≡◌, ◌≢◌, ℕ, ◌+◌, ◌<◌, ◌≤◌, Bool, true, false, not, ◌&&◌, ◌||◌, nat_lt, if◌then◌else◌, inl, inr, [], replicate, get_or, refl, arith, ap, subst, sym, ◌∙◌}
use Rattle.std.proofs.Math.Path.{fun_ext}
use Rattle.std.proofs.lemmas.Bool.{cases_lt, not-true}
use Rattle.std.proofs.lemmas.Bool.Decides.{nat_tests}
use Rattle.std.proofs.lemmas.List.{get_or-replicate}
use Rattle.std.proofs.lemmas.List.Elements.{All-nil}
use Rattle.std.specs.List.{range_with_len}
use Rattle.league.specs.Counts.{Counts, slot_count, teams_of}
use Rattle.league.specs.Instance.{IsGame}
use Rattle.league.specs.declared.game.Game.{Game}
use Rattle.league.specs.Structure.{IsRoundRobin}
use Rattle.league.specs.Sets.{is_in}
use Rattle.moves.specs.Moves.{IsInOwnRange, do_meet, exchange, follows, game, moved, slots_linked, teams_linked, times, with_slots, with_teams}
use Rattle.moves.specs.Outcome.{IsEditOf, IsOutcome}
use Rattle.moves.specs.Parts.{AreExchangeable, IsClosedSlots, IsClosedTeams, KeepPhases, slots_exchanged, teams_exchanged}
use Rattle.moves.specs.Places.{IsRound}
use Rattle.moves.specs.Round.{AreApart, Edits, IsEdit, Round, edited, round_counts}
use Rattle.moves.specs.declared.swap.Swap.{Swap}
use Rattle.moves.proofs.EditLemmas.{fit-of}
use Rattle.moves.proofs.PlayLemmas.{IsPlayed, met, met-itself, played, round_robin}
use Rattle.moves.proofs.RoundLemmas.{IsWithin, IsWithin-of, none_else, past_last_slot, past_last_team}
use Rattle.moves.proofs.SlotLaw.{AreExchangeable-of, IsPlayed-slots_exchanged}
use Rattle.moves.proofs.SumLemmas.{exchange-other}
use Rattle.moves.proofs.TeamLaw.{IsExchange, IsPlayed-teams_exchanged, KeepPhases-of}
use Rattle.moves.proofs.WalkLemmas.{below_of, found_in}

-- the empty edit of a change that leads to no round robin
pub IsOutcome-refused : (n : ℕ) (phased : Bool) (before after : Counts) (edit : Edits) → edit ≡ record { n = n; out = []; into = [] } → (IsRoundRobin n phased after → ⊥) → IsOutcome n phased before after false edit
IsOutcome-refused n phased before after edit empty no_way =
    let P : Edits → Type 0 = λ e. IsOutcome n phased before after false e in
    subst P (sym empty) (record {
      same_n = refl;
      legal = (λ is. absurd (cc), λ is. absurd (no_way is));
      change = λ is. absurd (cc);
      apart = λ a b r. inl refl;
      fit = All-nil (IsGame n);
      none = λ is. (refl, refl);
    })

pub IsOutcome-done : (n : ℕ) (phased : Bool) (before after : Counts) (edit : Edits) → edit.n ≡ n → IsEdit before after edit → AreApart edit → IsPlayed n phased after → IsWithin n after → IsOutcome n phased before after true edit
IsOutcome-done n phased before after edit same is apart plays within = record {
  same_n = same;
  legal = (λ _. round_robin n phased after plays, λ _. refl);
  change = λ _. is;
  apart = apart;
  fit = fit-of n phased before after edit is plays within;
  none = λ no. absurd (cc);
}

pub IsEditOf-refused : (n : ℕ) (phased : Bool) (m : Counts) (step : Swap) (edit : Edits) → edit ≡ record { n = n; out = []; into = [] } → (IsInOwnRange m step → ⊥) → IsEditOf n phased m step false edit
IsEditOf-refused n phased m step edit empty no_way =
    let P : Edits → Type 0 = λ e. IsEditOf n phased m step false e in
    subst P (sym empty) (record {
      same_n = refl;
      legal = (λ is. absurd (cc), λ is. absurd (no_way is.own));
      change = λ is. absurd (cc);
      apart = λ a b r. inl refl;
      fit = All-nil (IsGame n);
      none = λ is. (refl, refl);
    })

pub IsEditOf-outcome : (n : ℕ) (phased : Bool) (m after : Counts) (step : Swap) (result : Bool) (edit : Edits) → IsOutcome n phased m after result edit → IsInOwnRange m step → ((a b r : ℕ) → after a b r ≡ moved n m step a b r) → IsEditOf n phased m step result edit
IsEditOf-outcome n phased m after step result edit outcome own same =
    let whole : after ≡ moved n m step = fun_ext (λ a. fun_ext (λ b. fun_ext (λ r. same a b r))) in
    let here : IsOutcome n phased m (moved n m step) result edit = subst (λ (after : Counts). IsOutcome n phased m after result edit) whole outcome in
    record {
      same_n = here.same_n;
      legal = (λ is. record { own = own; round_robin = here.legal.0 is }, λ legal. here.legal.1 legal.round_robin);
      change = here.change;
      apart = here.apart;
      fit = here.fit;
      none = here.none;
    }

pub if_zero : (b : Bool) (x y : ℕ) → x ≡ 0 → y ≡ 0 → (if b then x else y) ≡ 0
if_zero true x y p q = p
if_zero false x y p q = q

exchange-past : (i j n a : ℕ) → i < n → j < n → n ≤ a → exchange i j a ≡ a
exchange-past i j n a lt_i lt_j le = exchange-other i j a (λ e. omega arith) (λ e. omega arith)

IsWithin-slots : (n : ℕ) (m : Counts) (set : ℕ → Bool) (s t : ℕ) → IsWithin n m → s < slot_count n → t < slot_count n → IsWithin n (slots_exchanged set s t m)
IsWithin-slots n m set s t within lt_s lt_t = record {
  home = λ a b r le. if_zero (set a) (m a b (exchange s t r)) (m a b r) (within.home a b (exchange s t r) le) (within.home a b r le);
  away = λ a b r le. if_zero (set a) (m a b (exchange s t r)) (m a b r) (within.away a b (exchange s t r) le) (within.away a b r le);
  slot = λ a b r le. if_zero (set a) (m a b (exchange s t r)) (m a b r) (ap (m a b) (exchange-past s t (slot_count n) r lt_s lt_t le) ∙ within.slot a b r le) (within.slot a b r le);
}

IsWithin-teams : (n : ℕ) (m : Counts) (set : ℕ → Bool) (i j : ℕ) → IsWithin n m → i < n → j < n → IsWithin n (teams_exchanged set i j m)
IsWithin-teams n m set i j within lt_i lt_j = record {
  home = λ a b r le. if_zero (set r) (m (exchange i j a) (exchange i j b) r) (m a b r)
      (ap (λ (a : ℕ). m a (exchange i j b) r) (exchange-past i j n a lt_i lt_j le) ∙ within.home a (exchange i j b) r le) (within.home a b r le);
  away = λ a b r le. if_zero (set r) (m (exchange i j a) (exchange i j b) r) (m a b r)
      (ap (λ (b : ℕ). m (exchange i j a) b r) (exchange-past i j n b lt_i lt_j le) ∙ within.away (exchange i j a) b r le) (within.away a b r le);
  slot = λ a b r le. if_zero (set r) (m (exchange i j a) (exchange i j b) r) (m a b r) (within.slot (exchange i j a) (exchange i j b) r le) (within.slot a b r le);
}

-- the counts after the edit of a move are those after the move
pub edited-is : (m after : Counts) (edit : Edits) → IsEdit m after edit → edited m edit ≡ after
edited-is m after edit is = fun_ext (λ i. fun_ext (λ j. fun_ext (λ s. omega (arith, is.moves i j s, is.there i j s))))

-- exchanging two slots, refused and done
pub slots-refused : (r : Round) (set : ℕ → Bool) (s t : ℕ) (edit : Edits) → IsRound r → s < t → t < slot_count r.n
    → IsClosedTeams r.n (round_counts r) s t set → edit ≡ record { n = r.n; out = []; into = [] }
    → (AreExchangeable r.n r.phased (round_counts r) s t set → ⊥)
    → IsOutcome r.n r.phased (round_counts r) (slots_exchanged set s t (round_counts r)) false edit
slots-refused r set s t edit round lt last closed empty no_way =
    let m : Counts = round_counts r in
    IsOutcome-refused r.n r.phased m (slots_exchanged set s t m) edit empty
    (λ is. no_way (AreExchangeable-of r.n r.phased m set s t (played r.n r.phased m round.round_robin) lt last closed (played r.n r.phased (slots_exchanged set s t m) is)))

pub slots-done : (r : Round) (set : ℕ → Bool) (s t : ℕ) (edit : Edits) → IsRound r → s < t → t < slot_count r.n
    → IsClosedTeams r.n (round_counts r) s t set → edit.n ≡ r.n → AreExchangeable r.n r.phased (round_counts r) s t set
    → IsEdit (round_counts r) (slots_exchanged set s t (round_counts r)) edit → AreApart edit
    → IsOutcome r.n r.phased (round_counts r) (slots_exchanged set s t (round_counts r)) true edit
slots-done r set s t edit round lt last closed same may is apart =
    let m : Counts = round_counts r in
    IsOutcome-done r.n r.phased m (slots_exchanged set s t m) edit same is apart
    (IsPlayed-slots_exchanged r.n r.phased m set s t (played r.n r.phased m round.round_robin) lt last closed may)
    (IsWithin-slots r.n m set s t (IsWithin-of r round.table) (omega arith) last)

IsExchange-of : (r : Round) (set : ℕ → Bool) (i j : ℕ) → IsRound r → i < j → j < r.n → IsClosedSlots r.n (round_counts r) i j set → IsExchange r.n r.phased (round_counts r) i j set
IsExchange-of r set i j round lt last closed = record { played = played r.n r.phased (round_counts r) round.round_robin; before = lt; last = last; slots = closed }

-- exchanging two teams, refused and done
pub teams-refused : (r : Round) (set : ℕ → Bool) (i j : ℕ) (edit : Edits) → IsRound r → i < j → j < r.n
    → IsClosedSlots r.n (round_counts r) i j set → edit ≡ record { n = r.n; out = []; into = [] }
    → (KeepPhases r.n r.phased (round_counts r) i j set → ⊥)
    → IsOutcome r.n r.phased (round_counts r) (teams_exchanged set i j (round_counts r)) false edit
teams-refused r set i j edit round lt last closed empty no_way =
    let m : Counts = round_counts r in
    IsOutcome-refused r.n r.phased m (teams_exchanged set i j m) edit empty
    (λ is. no_way (KeepPhases-of r.n r.phased m i j set (IsExchange-of r set i j round lt last closed) (played r.n r.phased (teams_exchanged set i j m) is)))

pub teams-done : (r : Round) (set : ℕ → Bool) (i j : ℕ) (edit : Edits) → IsRound r → i < j → j < r.n
    → IsClosedSlots r.n (round_counts r) i j set → edit.n ≡ r.n → KeepPhases r.n r.phased (round_counts r) i j set
    → IsEdit (round_counts r) (teams_exchanged set i j (round_counts r)) edit → AreApart edit
    → IsOutcome r.n r.phased (round_counts r) (teams_exchanged set i j (round_counts r)) true edit
teams-done r set i j edit round lt last closed same keep is apart =
    let m : Counts = round_counts r in
    IsOutcome-done r.n r.phased m (teams_exchanged set i j m) edit same is apart
    (IsPlayed-teams_exchanged r.n r.phased m i j set (IsExchange-of r set i j round lt last closed) keep)
    (IsWithin-teams r.n m set i j (IsWithin-of r round.table) (omega arith) last)

-- every team is in the set of all
pub all_teams : (k a : ℕ) → a < k → get_or (replicate k true) a false ≡ true
all_teams k a lt = get_or-replicate k a true false lt

pub all_teams-closed : (n : ℕ) (m : Counts) (s t k : ℕ) → n ≤ k → IsClosedTeams n m s t (λ a. get_or (replicate k true) a false)
all_teams-closed n m s t k le a b lt _ _ = all_teams k b (omega arith)

pub round_swap-same : (r : Round) (s t k : ℕ) → r.n ≤ k → (a b q : ℕ) → slots_exchanged (λ a. get_or (replicate k true) a false) s t (round_counts r) a b q ≡ round_counts r a b (exchange s t q)
round_swap-same r s t k le a b q =
    let m : Counts = round_counts r in
    elim (cases_lt a k) as (λ _. slots_exchanged (λ a. get_or (replicate k true) a false) s t m a b q ≡ m a b (exchange s t q)) [
      | inl lt ↦ rw (all_teams k a lt) refl
      | inr past ↦
          if_zero (get_or (replicate k true) a false) (m a b (exchange s t q)) (m a b q) (past_last_team r a b (exchange s t q) (omega arith)) (past_last_team r a b q (omega arith))
          ∙ sym (past_last_team r a b (exchange s t q) (omega arith))
    ]

pub times_of : (m : Counts) (b : Bool) (g h : Game) → times m (if b then g else h) ≡ (if b then times m g else times m h)
times_of m true g h = refl
times_of m false g h = refl

pub part_round_swap-same : (n : ℕ) (m : Counts) (i s t : ℕ) (set : ℕ → Bool) → ((a : ℕ) → set a ≡ is_in a (teams_linked n m i s t)) → (a b q : ℕ) → slots_exchanged set s t m a b q ≡ times m (if is_in a (teams_linked n m i s t) then with_slots s t (game a b q) else game a b q)
part_round_swap-same n m i s t set same a b q =
    ap (λ (v : Bool). if v then m a b (exchange s t q) else m a b q) (same a)
    ∙ sym (times_of m (is_in a (teams_linked n m i s t)) (with_slots s t (game a b q)) (game a b q))

pub part_team_swap-same : (n : ℕ) (m : Counts) (i j s : ℕ) (set : ℕ → Bool) → ((q : ℕ) → set q ≡ is_in q (slots_linked n m i j s)) → (a b q : ℕ) → teams_exchanged set i j m a b q ≡ times m (if is_in q (slots_linked n m i j s) then with_teams i j (game a b q) else game a b q)
part_team_swap-same n m i j s set same a b q =
    ap (λ (v : Bool). if v then m (exchange i j a) (exchange i j b) q else m a b q) (same q)
    ∙ sym (times_of m (is_in q (slots_linked n m i j s)) (with_teams i j (game a b q)) (game a b q))

-- the slots in which two teams don't meet are closed
if_not : (b : Bool) (x y : ℕ) → (if not b then x else y) ≡ (if b then y else x)
if_not true x y = refl
if_not false x y = refl

pub team_swap-same : (r : Round) (i j : ℕ) (set : ℕ → Bool)
    → ((q : ℕ) → q < slot_count r.n → set q ≡ not (do_meet (round_counts r) i j q)) → (a b q : ℕ)
    → teams_exchanged set i j (round_counts r) a b q
    ≡ times (round_counts r) (if do_meet (round_counts r) i j q then game a b q else with_teams i j (game a b q))
team_swap-same r i j set same a b q =
    let m : Counts = round_counts r in
    let goal : Type 0 = teams_exchanged set i j m a b q ≡ times m (if do_meet m i j q then game a b q else with_teams i j (game a b q)) in
    let back : times m (if do_meet m i j q then game a b q else with_teams i j (game a b q)) ≡ (if do_meet m i j q then m a b q else m (exchange i j a) (exchange i j b) q) = times_of m (do_meet m i j q) (game a b q) (with_teams i j (game a b q)) in
    elim (cases_lt q (slot_count r.n)) as (λ _. goal) [
      | inl lt ↦
          ap (λ (v : Bool). if v then m (exchange i j a) (exchange i j b) q else m a b q) (same q lt)
          ∙ if_not (do_meet m i j q) (m (exchange i j a) (exchange i j b) q) (m a b q)
          ∙ sym back
      | inr le ↦
          if_zero (set q) (m (exchange i j a) (exchange i j b) q) (m a b q) (past_last_slot r (exchange i j a) (exchange i j b) q le) (past_last_slot r a b q le)
          ∙ sym (if_zero (do_meet m i j q) (m a b q) (m (exchange i j a) (exchange i j b) q) (past_last_slot r a b q le) (past_last_slot r (exchange i j a) (exchange i j b) q le))
          ∙ sym back
    ]

pub both_positive : (x y z w : ℕ) → ((nat_lt 0 x && nat_lt 0 y) || (nat_lt 0 z && nat_lt 0 w)) ≡ true → (1 ≤ x + z) × (1 ≤ y + w)
both_positive x y z w is = (grind (arith, nat_tests), grind (arith, nat_tests))

no_meeting : (x : ℕ) → x ≡ 0 → nat_lt 0 x ≡ false
no_meeting x e = grind (arith, nat_tests)

do_none : (x : ℕ) → nat_lt 0 x ≡ false → x ≡ 0
do_none x e = grind (arith, nat_tests)

pub below_all : (n k : ℕ) → is_in k (range_with_len 0 n) ≡ true → k < n
below_all n k among = let lt : k < 0 + n = below_of n 0 k among in omega arith

-- the slots in which i and j don't meet are closed under following
follows-apart : (r : Round) (i j s q : ℕ) → IsRound r → i < r.n → j < r.n → s < slot_count r.n → q < slot_count r.n → do_meet (round_counts r) i j s ≡ false → follows r.n (round_counts r) i j s q ≡ true → do_meet (round_counts r) i j q ≡ false
follows-apart r i j s q round lt_i lt_j lt_s lt_q apart leads =
    let m : Counts = round_counts r in
    let is : IsPlayed r.n r.phased m = played r.n r.phased m round.round_robin in
    let f = found_in (λ k. (nat_lt 0 (m i k s) && nat_lt 0 (m j k q)) || (nat_lt 0 (m k i s) && nat_lt 0 (m k j q))) (teams_of r.n) leads in
    let k : ℕ = f.at in
    let some : (1 ≤ met m i k s) × (1 ≤ met m j k q) = both_positive (m i k s) (m j k q) (m k i s) (m k j q) f.passes in
    let ne : i ≢ k = λ e.
    let itself : m i i s ≡ 0 = met-itself r.n r.phased m i s is lt_i lt_s in
    let same : met m i k s ≡ met m i i s = ap (λ (k : ℕ). met m i k s) (sym e) in
    omega (arith, some.0, same, itself) in
    let lt_k : k < r.n = below_all r.n k f.among in
    let none : met m j i q ≡ 0 = none_else r.n r.phased m j k q i is (IsWithin-of r round.table) lt_j lt_k lt_q some.1 ne in
    no_meeting (m i j q + m j i q) (omega arith)

pub slots_apart-closed : (r : Round) (i j : ℕ) (set : ℕ → Bool) → IsRound r → i < r.n → j < r.n → ((q : ℕ) → q < slot_count r.n → set q ≡ not (do_meet (round_counts r) i j q)) → IsClosedSlots r.n (round_counts r) i j set
slots_apart-closed r i j set round lt_i lt_j same = record {
  closed = λ s q lt_q in_set leads.
      elim (cases_lt s (slot_count r.n)) as (λ _. set q ≡ true) [
        | inl lt_s ↦
            let apart : do_meet (round_counts r) i j s ≡ false = not-true (do_meet (round_counts r) i j s) (sym (same s lt_s) ∙ in_set) in
            same q lt_q ∙ ap not (follows-apart r i j s q round lt_i lt_j lt_s lt_q apart leads)
        | inr le ↦
            let f = found_in (λ k. (nat_lt 0 (round_counts r i k s) && nat_lt 0 (round_counts r j k q)) || (nat_lt 0 (round_counts r k i s) && nat_lt 0 (round_counts r k j q))) (teams_of r.n) leads in
            let some = both_positive (round_counts r i f.at s) (round_counts r j f.at q) (round_counts r f.at i s) (round_counts r f.at j q) f.passes in
            absurd (omega (arith, some.0, past_last_slot r i f.at s le, past_last_slot r f.at i s le))
      ];
  apart = λ q lt_q in_set. not-true (do_meet (round_counts r) i j q) (sym (same q lt_q) ∙ in_set);
}
