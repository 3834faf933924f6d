-- Each game that a reason lists touches the key of the reason: class by class.
use Rattle.std.proofs.Common.{◌≡◌, ℕ, ◌+◌, ◌-◌, ◌<◌, Bool, true, false, ◌&&◌, ◌||◌, ◌==◌, nat_lt, cond, List, [], ◌∷◌, length, get_or, Option, Some, None, refl, arith, ap, subst, sym, ◌∙◌, inl, inr, Contains}
use Rattle.std.specs.Prelude.{nat_le}
use Rattle.std.proofs.lemmas.Bool.{and_parts, cases_Bool, cond_both}
use Rattle.std.proofs.lemmas.Bool.Decides.{nat_tests}
use Rattle.std.proofs.lemmas.List.{get_or_default}
use Rattle.std.proofs.lemmas.List.Elements.{All-append, All-cons, All-head, All-nil, All-tail}
use Rattle.std.specs.List.{All, filter, find, flat_map, list_any, range_with_len}
use Rattle.league.specs.Breaks.{is_away_break, is_home_break}
use Rattle.league.specs.Bounds.{excess, largest, outside}
use Rattle.league.specs.Counts.{counts_of, slot_count}
use Rattle.league.specs.Deviation.{spans}
use Rattle.league.specs.Capacity.{is_between}
use Rattle.league.specs.Meetings.{pairs_of}
use Rattle.league.specs.Separation.{slots_between}
use Rattle.league.specs.Sets.{is_in}
use Rattle.league.specs.declared.class.Class.{Class}
use Rattle.league.specs.declared.class.Class.TheVariants.{Ca1, Ca2, Ca3, Ca4, Ga1, Br1, Br2, Fa2, Se1}
use Rattle.league.specs.declared.class.Side.{Side}
use Rattle.league.specs.declared.class.Side.TheVariants.{H, A, Both}
use Rattle.league.specs.declared.class.Span.{Span}
use Rattle.league.specs.declared.game.Game.{Game}
use Rattle.league.proofs.MemberLemmas.{is_in-yes}
use Rattle.league.proofs.OneTermLemmas.{All-flat_map}
use Rattle.rule_core.specs.Meetings.{is_listed}
use Rattle.rule_core.specs.Keys.{keys_where}
use Rattle.rule_core.specs.Pairs.{has_team, keys_with}
use Rattle.rule_core.proofs.KeyLemmas.{places_from-has}
use Rattle.rule_core.specs.Touched.{can_break, plays_against, plays_on, touched_keys}
use Rattle.season_misses.specs.Counting.{counts_in_break, counts_in_ca1, counts_in_ca2, counts_in_ca3, counts_in_ca4, counts_in_fa2, counts_in_ga1, counts_in_se1}
use Rattle.season_misses.specs.Laws.{ListTouching, games_in}
use Rattle.season_misses.specs.Reasons.{apart, away_break_at, break_of, breaks_at_slot, breaks_of, by_gap, by_lead, by_window, furthest, home_break_at, neighbours, where_missed}
use Rattle.season_misses.specs.declared.reason.Break.{Break}
use Rattle.season_misses.specs.declared.reason.Cause.{Cause}
use Rattle.season_misses.specs.declared.reason.Cause.TheVariants.{Games, Window, Breaks, Lead, Gap}
use Rattle.season_misses.specs.declared.reason.Reason.{Reason}

-- ---- keys

has_key : {X : Type 0} (test : X → Bool) (xs : List X) (k : ℕ) (d : X) → k < length xs → test (get_or xs k d) ≡ true → Contains (keys_where test xs) k
has_key test xs k d inside passes =
    let here : 0 + k ≡ k = omega arith in
    subst (λ (j : ℕ). Contains (keys_where test xs) j) here (places_from-has 0 test xs k d inside passes)

under : (b : Bool) (ks : List ℕ) (k : ℕ) → b ≡ true → Contains ks k → Contains (cond b ks []) k
under b ks k passes has = subst (λ (c : Bool). Contains (cond c ks []) k) (sym passes) has

one_key : (k : ℕ) → k < 1 → Contains (0 ∷ []) k
one_key k inside = (0, omega arith, omega arith)

-- ---- what a reason lists

-- a game touches the key of an entry
abbrev Touches : Class → ℕ → Game → Type 0
Touches class key g = Contains (touched_keys class g) key

-- each game that a reason lists does
abbrev IsTouching : Class → ℕ → Reason → Type 0
IsTouching class key reason = All (Touches class key) (games_in reason.cause)

touching-where : (class : Class) (key amount : ℕ) (cause : Cause) → All (Touches class key) (games_in cause) → All (IsTouching class key) (where_missed key amount cause)
touching-where class key amount cause all =
    let reason : Reason = record { key = key; amount = amount; cause = cause } in
    cond_both (nat_lt 0 amount) (reason ∷ []) [] (λ reasons. All (IsTouching class key) reasons)
    (λ e. All-cons (IsTouching class key) reason [] all (All-nil (IsTouching class key)))
    (λ e. All-nil (IsTouching class key))

-- what is kept of a list passes the test, and what it has to it
kept : {X : Type 0} (P : X → Type 0) (test : X → Bool) (xs : List X) → ((x : X) → test x ≡ true → P x) → All P (filter test xs)
kept P test [] each = All-nil P
kept P test (x ∷ xs) each =
    cond_both (test x) (x ∷ filter test xs) (filter test xs) (λ ys. All P ys)
    (λ e. All-cons P x (filter test xs) (each x e) (kept P test xs each))
    (λ e. kept P test xs each)

-- ---- CA1 to CA4, GA1

ca1-touching : (teams : List ℕ) (min max : ℕ) (side : Side) (slots : List ℕ) (key : ℕ) (games : List Game) → key < length teams → All (Touches (Ca1 teams min max side slots) key) (filter (counts_in_ca1 side slots (get_or teams key 0)) games)
ca1-touching teams min max side slots key games inside =
    kept (Touches (Ca1 teams min max side slots) key) (counts_in_ca1 side slots (get_or teams key 0)) games
    (λ g passes. let parts = and_parts (plays_on side g (get_or teams key 0)) (is_in g.slot.0 slots) passes in
    under (is_in g.slot.0 slots) (keys_where (plays_on side g) teams) key parts.1 (has_key (plays_on side g) teams key 0 inside parts.0))

ca2-touching : (teams1 teams2 : List ℕ) (min max : ℕ) (side : Side) (slots : List ℕ) (key : ℕ) (games : List Game) → key < length teams1 → All (Touches (Ca2 teams1 teams2 min max side slots) key) (filter (counts_in_ca2 teams2 side slots (get_or teams1 key 0)) games)
ca2-touching teams1 teams2 min max side slots key games inside =
    kept (Touches (Ca2 teams1 teams2 min max side slots) key) (counts_in_ca2 teams2 side slots (get_or teams1 key 0)) games
    (λ g passes. let parts = and_parts (plays_against side teams2 g (get_or teams1 key 0)) (is_in g.slot.0 slots) passes in
    under (is_in g.slot.0 slots) (keys_where (plays_against side teams2 g) teams1) key parts.1 (has_key (plays_against side teams2 g) teams1 key 0 inside parts.0))

ca3-touching : (teams1 teams2 : List ℕ) (min max intp : ℕ) (side : Side) (key first : ℕ) (games : List Game) → key < length teams1 → All (Touches (Ca3 teams1 teams2 min max intp side) key) (filter (counts_in_ca3 teams2 intp side (get_or teams1 key 0) first) games)
ca3-touching teams1 teams2 min max intp side key first games inside =
    kept (Touches (Ca3 teams1 teams2 min max intp side) key) (counts_in_ca3 teams2 intp side (get_or teams1 key 0) first) games
    (λ g passes. has_key (plays_against side teams2 g) teams1 key 0 inside
    (and_parts (plays_against side teams2 g (get_or teams1 key 0)) (nat_le first g.slot.0 && nat_lt g.slot.0 (first + intp)) passes).0)

ca4-touching : (teams1 teams2 : List ℕ) (min max : ℕ) (side : Side) (span : Span) (slots : List ℕ) (key : ℕ) (games :
    List Game) → key < length (spans span slots) → All (Touches (Ca4 teams1 teams2 min max side span slots) key) (filter
    (counts_in_ca4 teams1 teams2 side (get_or (spans span slots) key [])) games)
ca4-touching teams1 teams2 min max side span slots key games inside =
    kept (Touches (Ca4 teams1 teams2 min max side span slots) key) (counts_in_ca4 teams1 teams2 side (get_or (spans span slots) key [])) games
    (λ g passes. let parts = and_parts (is_between side teams1 teams2 (g.home.0, g.away.0)) (is_in g.slot.0 (get_or (spans span slots) key [])) passes in
    under (is_between side teams1 teams2 (g.home.0, g.away.0)) (keys_where (is_in g.slot.0) (spans span slots)) key parts.0 (has_key (is_in g.slot.0) (spans span slots) key [] inside parts.1))

ga1-touching : (meetings : List (ℕ × ℕ)) (min max : ℕ) (slots : List ℕ) (key : ℕ) (games : List Game) → key < 1 → All (Touches (Ga1 meetings min max slots) key) (filter (counts_in_ga1 meetings slots) games)
ga1-touching meetings min max slots key games inside =
    kept (Touches (Ga1 meetings min max slots) key) (counts_in_ga1 meetings slots) games
    (λ g passes. under (is_listed meetings g.home.0 g.away.0 && is_in g.slot.0 slots) (0 ∷ []) key passes (one_key key inside))

-- ---- breaks

same_number : (a b : ℕ) → (a == b) ≡ true → a ≡ b
same_number a b h = grind (arith, nat_tests)

either_there : (a b c d : Bool) → (a ≡ true → c ≡ true) → (b ≡ true → d ≡ true) → (a || b) ≡ true → (c || d) ≡ true
either_there true b c d ac bd h = ap (λ (x : Bool). x || d) (ac refl)
either_there false true true d ac bd h = refl
either_there false true false d ac bd h = bd refl
either_there false false c d ac bd h = absurd (cc)

turned_round : (a b : Bool) → (a || b) ≡ true → (b || a) ≡ true
turned_round true true h = refl
turned_round true false h = refl
turned_round false true h = refl
turned_round false false h = absurd (cc)

-- a game of a break at one of the slots can change a break at these slots
in_break : (slots : List ℕ) (s t : ℕ) → is_in s slots ≡ true → ((t + 1 == s) || (t == s)) ≡ true → can_break slots t ≡ true
in_break slots s t there passes =
    turned_round (is_in (t + 1) slots) (is_in t slots)
    (either_there (t + 1 == s) (t == s) (is_in (t + 1) slots) (is_in t slots)
    (λ e. ap (λ (x : ℕ). is_in x slots) (same_number (t + 1) s e) ∙ there)
    (λ e. ap (λ (x : ℕ). is_in x slots) (same_number t s e) ∙ there)
    passes)

first_side : (a b c : Bool) → (a && c) ≡ true → ((a || b) && c) ≡ true
first_side true b true h = refl
first_side true b false h = absurd (cc)
first_side false b c h = absurd (cc)

second_side : (a b c : Bool) → (b && c) ≡ true → ((a || b) && c) ≡ true
second_side true true true h = refl
second_side false true true h = refl
second_side a true false h = absurd (cc)
second_side a false c h = absurd (cc)

-- what holds of the games of each break
module _ (P : Game → Type 0) where
  -- P holds of all games of a break
  abbrev OfBreak : Break → Type 0
  OfBreak found = All P found.games

  one_break : (b : Bool) (found : Break) → All P found.games → All OfBreak (cond b (found ∷ []) [])
  one_break b found all =
      cond_both b (found ∷ []) [] (λ xs. All OfBreak xs)
      (λ e. All-cons OfBreak found [] all (All-nil OfBreak))
      (λ e. All-nil OfBreak)

  at_slot : (n : ℕ) (games : List Game) (side : Side) (i s : ℕ) → ((g : Game) → counts_in_break side i s g ≡ true → P g) → All OfBreak (breaks_at_slot n games side i s)
  at_slot n games H i s each = one_break (is_home_break n (counts_of games) i s) (break_of games H i s) (kept P (counts_in_break H i s) games each)
  at_slot n games A i s each = one_break (is_away_break n (counts_of games) i s) (break_of games A i s) (kept P (counts_in_break A i s) games each)
  at_slot n games Both i s each =
      All-append OfBreak (home_break_at n games i s) (away_break_at n games i s)
      (one_break (is_home_break n (counts_of games) i s) (break_of games H i s)
      (kept P (counts_in_break H i s) games (λ g e. each g (first_side (i == g.home.0) (i == g.away.0) ((g.slot.0 + 1 == s) || (g.slot.0 == s)) e))))
      (one_break (is_away_break n (counts_of games) i s) (break_of games A i s)
      (kept P (counts_in_break A i s) games (λ g e. each g (second_side (i == g.home.0) (i == g.away.0) ((g.slot.0 + 1 == s) || (g.slot.0 == s)) e))))

  -- P holds of the games of a team's breaks at some slots
  at_slots : (n : ℕ) (games : List Game) (side : Side) (slots : List ℕ) (i : ℕ) → ((g : Game) → plays_on side g i ≡ true → can_break slots g.slot.0 ≡ true → P g) → All OfBreak (breaks_of n games side slots i)
  at_slots n games side slots i each =
      All-flat_map OfBreak (λ s. breaks_at_slot n games side i s) slots
      (λ k d lt.
      let s : ℕ = get_or slots k d in
      at_slot n games side i s
      (λ g e.
      let parts = and_parts (plays_on side g i) ((g.slot.0 + 1 == s) || (g.slot.0 == s)) e in
      each g parts.0 (in_break slots s g.slot.0 (is_in-yes s slots k lt (get_or_default slots k 0 d lt)) parts.1)))

br1-touching : (n : ℕ) (games : List Game) (teams : List ℕ) (intp : ℕ) (side : Side) (slots : List ℕ) (key : ℕ) → key < length teams → All (Touches (Br1 teams intp side slots) key) (games_in (Breaks (breaks_of n games side slots (get_or teams key 0))))
br1-touching n games teams intp side slots key inside =
    let P : Game → Type 0 = Touches (Br1 teams intp side slots) key in
    All-flat_map P (λ (found : Break). found.games) (breaks_of n games side slots (get_or teams key 0))
    (at_slots P n games side slots (get_or teams key 0)
    (λ g plays can. under (can_break slots g.slot.0) (keys_where (plays_on side g) teams) key can (has_key (plays_on side g) teams key 0 inside plays)))

and_true : (a b : Bool) → a ≡ true → b ≡ true → (a && b) ≡ true
and_true a b first second = ap (λ (x : Bool). x && b) first ∙ second

br2-touching : (n : ℕ) (games : List Game) (teams : List ℕ) (intp : ℕ) (slots : List ℕ) (key : ℕ) → key < 1 → All (Touches (Br2 teams intp slots) key) (games_in (Breaks (flat_map (breaks_of n games Both slots) teams)))
br2-touching n games teams intp slots key inside =
    let P : Game → Type 0 = Touches (Br2 teams intp slots) key in
    All-flat_map P (λ (found : Break). found.games) (flat_map (breaks_of n games Both slots) teams)
    (All-flat_map (λ (found : Break). All P found.games) (breaks_of n games Both slots) teams
    (λ k d lt.
    let i : ℕ = get_or teams k d in
    let there : is_in i teams ≡ true = is_in-yes i teams k lt (get_or_default teams k 0 d lt) in
    at_slots P n games Both slots i
    (λ g plays can.
    let listed : (is_in g.home.0 teams || is_in g.away.0 teams) ≡ true =
    either_there (i == g.home.0) (i == g.away.0) (is_in g.home.0 teams) (is_in g.away.0 teams)
    (λ e. sym (ap (λ (x : ℕ). is_in x teams) (same_number i g.home.0 e)) ∙ there)
    (λ e. sym (ap (λ (x : ℕ). is_in x teams) (same_number i g.away.0 e)) ∙ there)
    plays in
    under (can_break slots g.slot.0 && (is_in g.home.0 teams || is_in g.away.0 teams)) (0 ∷ []) key
    (and_true (can_break slots g.slot.0) (is_in g.home.0 teams || is_in g.away.0 teams) can listed) (one_key key inside))))

-- ---- leads

or_first : (a b : Bool) → a ≡ true → (a || b) ≡ true
or_first a b h = ap (λ (x : Bool). x || b) h

or_second : (a b : Bool) → b ≡ true → (a || b) ≡ true
or_second true b h = refl
or_second false b h = h

-- what is found is one of the list
any-found : (q p : ℕ → Bool) (xs : List ℕ) (x : ℕ) → find p xs ≡ Some x → q x ≡ true → list_any q xs ≡ true
any-found q p [] x found passes = absurd (cc)
any-found q p (y ∷ ys) x found passes =
    elim (cases_Bool (p y)) [
      | inl here ↦
          let is : Some y ≡ Some x = sym (ap (λ (b : Bool). cond b (Some y) (find p ys)) here) ∙ found in
          let same : y ≡ x = cc in
          or_first (q y) (list_any q ys) (ap q same ∙ passes)
      | inr later ↦ or_second (q y) (list_any q ys) (any-found q p ys x (sym (ap (λ (b : Bool). cond b (Some y) (find p ys)) later) ∙ found) passes)
    ]

-- a home game of one of the two teams up to the slot that was found
lead_game : (n : ℕ) (games : List Game) (teams : List ℕ) (intp : ℕ) (slots : List ℕ) (key s : ℕ) (g : Game)
    → key < length (pairs_of teams) → furthest n (counts_of games) slots (get_or (pairs_of teams) key (0, 0)) ≡ Some s
    → has_team g.home.0 (get_or (pairs_of teams) key (0, 0)) ≡ true → nat_le g.slot.0 s ≡ true
    → Touches (Fa2 teams intp slots) key g
lead_game n games teams intp slots key s g inside found plays early =
    let p : ℕ × ℕ = get_or (pairs_of teams) key (0, 0) in
    under (list_any (λ t. nat_le g.slot.0 t) slots) (keys_with teams g.home.0) key
    (any-found (λ t. nat_le g.slot.0 t) (λ t. apart n (counts_of games) p t == largest (apart n (counts_of games) p) slots) slots s found early)
    (has_key (has_team g.home.0) (pairs_of teams) key (0, 0) inside plays)

lead-touching : (n : ℕ) (games : List Game) (teams : List ℕ) (intp : ℕ) (slots : List ℕ) (key : ℕ) (at : Option ℕ)
    → key < length (pairs_of teams) → furthest n (counts_of games) slots (get_or (pairs_of teams) key (0, 0)) ≡ at
    → All (IsTouching (Fa2 teams intp slots) key) (by_lead key n intp games (get_or (pairs_of teams) key (0, 0)) at)
lead-touching n games teams intp slots key None inside found = All-nil (IsTouching (Fa2 teams intp slots) key)
lead-touching n games teams intp slots key (Some s) inside found =
    let p : ℕ × ℕ = get_or (pairs_of teams) key (0, 0) in
    let P : Game → Type 0 = Touches (Fa2 teams intp slots) key in
    let first : List Game = filter (counts_in_fa2 p.0 s) games in
    let second : List Game = filter (counts_in_fa2 p.1 s) games in
    touching-where (Fa2 teams intp slots) key (excess (apart n (counts_of games) p s) intp) (Lead (record { 0 = s }) first second)
    (All-append P first second
    (kept P (counts_in_fa2 p.0 s) games
    (λ g e. let parts = and_parts (p.0 == g.home.0) (nat_le g.slot.0 s) e in
    lead_game n games teams intp slots key s g inside found (or_first (p.0 == g.home.0) (p.1 == g.home.0) parts.0) parts.1))
    (kept P (counts_in_fa2 p.1 s) games
    (λ g e. let parts = and_parts (p.1 == g.home.0) (nat_le g.slot.0 s) e in
    lead_game n games teams intp slots key s g inside found (or_second (p.0 == g.home.0) (p.1 == g.home.0) parts.0) parts.1)))

-- ---- gaps

both_there : (a b c d : Bool) → ((a && b) || (c && d)) ≡ true → ((a || c) && (d || b)) ≡ true
both_there a b c d h = grind arith

each_two : (P : Game → Type 0) (games : List Game) → All P games → All (λ two. P two.0 × P two.1) (neighbours games)
each_two P [] all = All-nil (λ two. P two.0 × P two.1)
each_two P (g ∷ []) all = All-nil (λ two. P two.0 × P two.1)
each_two P (g ∷ h ∷ games) all =
    let rest : All P (h ∷ games) = All-tail P g (h ∷ games) all in
    All-cons (λ two. P two.0 × P two.1) (g, h) (neighbours (h ∷ games)) (All-head P g (h ∷ games) all, All-head P h games rest) (each_two P (h ∷ games) rest)

gap-touching : (games : List Game) (teams : List ℕ) (min key : ℕ) → key < length (pairs_of teams) → All (IsTouching (Se1 teams min) key) (flat_map (by_gap key min) (neighbours (filter (counts_in_se1 (get_or (pairs_of teams) key (0, 0))) games)))
gap-touching games teams min key inside =
    let p : ℕ × ℕ = get_or (pairs_of teams) key (0, 0) in
    let P : Game → Type 0 = Touches (Se1 teams min) key in
    let mutual_ones : List Game = filter (counts_in_se1 p) games in
    let all : All P mutual_ones =
    kept P (counts_in_se1 p) games
    (λ g e. has_key (λ q. has_team g.home.0 q && has_team g.away.0 q) (pairs_of teams) key (0, 0) inside
    (both_there (p.0 == g.home.0) (p.1 == g.away.0) (p.1 == g.home.0) (p.0 == g.away.0) e)) in
    All-flat_map (IsTouching (Se1 teams min) key) (by_gap key min) (neighbours mutual_ones)
    (λ k d lt.
    let two : Game × Game = get_or (neighbours mutual_ones) k d in
    let both : P two.0 × P two.1 = each_two P mutual_ones all k d lt in
    touching-where (Se1 teams min) key (excess min (slots_between two.0.slot.0 two.1.slot.0)) (Gap two.0 two.1)
    (All-cons P two.0 (two.1 ∷ []) both.0 (All-cons P two.1 [] both.1 (All-nil P))))

-- ---- each class

pub list_touching : (n : ℕ) (games : List Game) (class : Class) → ListTouching n games class
list_touching n games (Ca1 teams min max side slots) =
    λ key inside. touching-where (Ca1 teams min max side slots) key (outside min max (length (filter (counts_in_ca1 side slots (get_or teams key 0)) games))) (Games (filter (counts_in_ca1 side slots (get_or teams key 0)) games)) (ca1-touching teams min max side slots key games inside)
list_touching n games (Ca2 teams1 teams2 min max side slots) =
    λ key inside. touching-where (Ca2 teams1 teams2 min max side slots) key
    (outside min max (length (filter (counts_in_ca2 teams2 side slots (get_or teams1 key 0)) games)))
    (Games (filter (counts_in_ca2 teams2 side slots (get_or teams1 key 0)) games))
    (ca2-touching teams1 teams2 min max side slots key games inside)
list_touching n games (Ca3 teams1 teams2 min max intp side) =
    λ key inside.
    let counted : ℕ → List Game = λ first. filter (counts_in_ca3 teams2 intp side (get_or teams1 key 0) first) games in
    All-flat_map (IsTouching (Ca3 teams1 teams2 min max intp side) key) (λ first. by_window key min max first (counted first)) (range_with_len 0 (slot_count n + 1 - intp))
    (λ k d lt.
    let first : ℕ = get_or (range_with_len 0 (slot_count n + 1 - intp)) k d in
    touching-where (Ca3 teams1 teams2 min max intp side) key (outside min max (length (counted first))) (Window (record { 0 = first }) (counted first)) (ca3-touching teams1 teams2 min max intp side key first games inside))
list_touching n games (Ca4 teams1 teams2 min max side span slots) =
    λ key inside. touching-where (Ca4 teams1 teams2 min max side span slots) key
    (outside min max (length (filter (counts_in_ca4 teams1 teams2 side (get_or (spans span slots) key [])) games)))
    (Games (filter (counts_in_ca4 teams1 teams2 side (get_or (spans span slots) key [])) games))
    (ca4-touching teams1 teams2 min max side span slots key games inside)
list_touching n games (Ga1 meetings min max slots) =
    λ key inside. touching-where (Ga1 meetings min max slots) key (outside min max (length (filter (counts_in_ga1 meetings slots) games))) (Games (filter (counts_in_ga1 meetings slots) games)) (ga1-touching meetings min max slots key games inside)
list_touching n games (Br1 teams intp side slots) =
    λ key inside. touching-where (Br1 teams intp side slots) key (excess (length (breaks_of n games side slots (get_or teams key 0))) intp) (Breaks (breaks_of n games side slots (get_or teams key 0))) (br1-touching n games teams intp side slots key inside)
list_touching n games (Br2 teams intp slots) =
    λ key inside. touching-where (Br2 teams intp slots) key (excess (length (flat_map (breaks_of n games Both slots) teams)) intp) (Breaks (flat_map (breaks_of n games Both slots) teams)) (br2-touching n games teams intp slots key inside)
list_touching n games (Fa2 teams intp slots) =
    λ key inside. lead-touching n games teams intp slots key (furthest n (counts_of games) slots (get_or (pairs_of teams) key (0, 0))) inside refl
list_touching n games (Se1 teams min) = λ key inside. gap-touching games teams min key inside
