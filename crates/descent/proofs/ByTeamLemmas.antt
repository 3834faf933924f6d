-- Games listed by team: how the lists grow, and that the teams that a rule watches show each key that is touched.
use Rattle.std.proofs.Common.{◌≡◌, ℕ, ◌+◌, ◌<◌, ◌≤◌, Bool, true, false, inl, inr, List, [], ◌∷◌, ◌++◌, length, get_or}
use Rattle.std.proofs.Common.{refl, ap, subst, sym, ◌∙◌, arith}
use Rattle.std.proofs.lemmas.Bool.{cases_Bool, cases_eq, cases_lt, false≢true, or_cases, or_left, or_right}
use Rattle.std.proofs.lemmas.List.{get_or-set_other, get_or-set_same, get_or_past, length-set, length_push}
use Rattle.std.proofs.lemmas.List.Elements.{All-append, All-cons, All-contains, All-head, All-push, All-set, All-tail, All-weaker}
use Rattle.std.proofs.lemmas.List.Elements.{Contains-append_left, Contains-push}
use Rattle.std.specs.List.{All, Contains, flat_map}
use Rattle.league.specs.Instance.{IsGame}
use Rattle.league.specs.declared.game.Game.{Game}
use Rattle.league.specs.declared.game.TeamId.{TeamId}
use Rattle.rule_core.specs.declared.rule.Entries.{Ghosts}
use Rattle.descent.specs.ByTeam.{AreByTeam, GameRoom, games_at, no_games, with_game}
use Rattle.descent.specs.KeySet.{is_in}
use Rattle.descent.specs.Ready.{HasWatched}
use Rattle.descent.proofs.TouchedLemmas.{flat_map-append}
use Rattle.descent.proofs.SetLemmas.{is_in-append}

-- ---- lists that grow

-- what holds of each listed game holds of those at a team
pub all_at : (P : Game → Type 0) (lists : List GameRoom) (t : ℕ) → All (λ l. All P l.list) lists
    → All P (games_at lists t)
all_at P lists t all = elim (cases_lt t (length lists)) as (λ _. All P (games_at lists t)) [
  | inl within ↦ all t no_games within
  | inr past ↦
      subst (λ (l : GameRoom). All P l.list) (sym (get_or_past lists t no_games past)) (λ i d h. absurd (omega (arith, h)))
]

at_same : (lists : List GameRoom) (t : ℕ) (g : Game) → t < length lists
    → games_at (with_game lists t g) t ≡ games_at lists t ++ g ∷ []
at_same lists t g within =
    ap (λ (l : GameRoom). l.list)
    (get_or-set_same lists t (record { list = games_at lists t ++ g ∷ []; room = (get_or lists t no_games).room })
    no_games within)

room_other : (lists : List GameRoom) (t s : ℕ) (g : Game) → (s ≡ t → ⊥)
    → get_or (with_game lists t g) s no_games ≡ get_or lists s no_games
room_other lists t s g other =
    get_or-set_other lists t s (record { list = games_at lists t ++ g ∷ []; room = (get_or lists t no_games).room })
    no_games other

pub length-with_game : (lists : List GameRoom) (t : ℕ) (g : Game) → length (with_game lists t g) ≡ length lists
length-with_game lists t g =
    length-set lists t (record { list = games_at lists t ++ g ∷ []; room = (get_or lists t no_games).room })

still_at : (lists : List GameRoom) (t s : ℕ) (g x : Game) → t < length lists → Contains (games_at lists s) x
    → Contains (games_at (with_game lists t g) s) x
still_at lists t s g x within there =
    elim (cases_eq s t) as (λ _. Contains (games_at (with_game lists t g) s) x) [
      | inl same ↦
          subst (λ (i : ℕ). Contains (games_at (with_game lists t g) i) x) (sym same)
          (subst (λ (l : List Game). Contains l x) (sym (at_same lists t g within))
          (Contains-append_left (games_at lists t) (g ∷ []) x
          (subst (λ (i : ℕ). Contains (games_at lists i) x) same there)))
      | inr other ↦
          subst (λ (l : GameRoom). Contains l.list x) (sym (room_other lists t s g other)) there
    ]

now_at : (lists : List GameRoom) (t : ℕ) (g : Game) → t < length lists → Contains (games_at (with_game lists t g) t) g
now_at lists t g within =
    subst (λ (l : List Game). Contains l g) (sym (at_same lists t g within)) (Contains-push (games_at lists t) g)

only_more : (P : Game → Type 0) (lists : List GameRoom) (t : ℕ) (g : Game) → P g → All (λ l. All P l.list) lists
    → All (λ l. All P l.list) (with_game lists t g)
only_more P lists t g here all =
    All-set (λ l. All P l.list) lists t
    (record { list = games_at lists t ++ g ∷ []; room = (get_or lists t no_games).room })
    (All-push P (games_at lists t) g (all_at P lists t all) here) all

-- one game more, at its home team and at its away team
pub AreByTeam-more : (n : ℕ) (before : List Game) (lists : List GameRoom) (g : Game) → IsGame n g
    → AreByTeam n before lists
    → AreByTeam n (before ++ g ∷ []) (with_game (with_game lists g.home.0 g) g.away.0 g)
AreByTeam-more n before lists g fits are =
    let first : List GameRoom = with_game lists g.home.0 g in
    let both : List GameRoom = with_game first g.away.0 g in
    let long : length first ≡ length lists = length-with_game lists g.home.0 g in
    let home : g.home.0 < length lists = omega (arith, fits.home, are.teams) in
    let away : g.away.0 < length first = omega (arith, fits.away, are.teams, long) in
    let all : List Game = before ++ g ∷ [] in
    record {
      teams = length-with_game first g.away.0 g ∙ long ∙ are.teams;
      home = All-push (λ x. Contains (games_at both x.home.0) x) before g
          (λ i d h. still_at first g.away.0 (get_or before i d).home.0 g (get_or before i d) away
          (still_at lists g.home.0 (get_or before i d).home.0 g (get_or before i d) home (are.home i d h)))
          (still_at first g.away.0 g.home.0 g g away (now_at lists g.home.0 g home));
      away = All-push (λ x. Contains (games_at both x.away.0) x) before g
          (λ i d h. still_at first g.away.0 (get_or before i d).away.0 g (get_or before i d) away
          (still_at lists g.home.0 (get_or before i d).away.0 g (get_or before i d) home (are.away i d h)))
          (now_at first g.away.0 g away);
      only = only_more (Contains all) first g.away.0 g (Contains-push before g)
          (only_more (Contains all) lists g.home.0 g (Contains-push before g)
          (All-weaker (λ l. All (Contains before) l.list) (λ l. All (Contains all) l.list)
          (λ l those. All-weaker (Contains before) (Contains all)
          (λ x there. Contains-append_left before (g ∷ []) x there) l.list those) lists are.only));
    }

-- lists with no game
pub AreByTeam-none : (n : ℕ) (lists : List GameRoom) → length lists ≡ n → All (λ l. l.list ≡ []) lists
    → AreByTeam n [] lists
AreByTeam-none n lists long empty = record {
  teams = long;
  home = λ i d h. absurd (omega (arith, h));
  away = λ i d h. absurd (omega (arith, h));
  only = λ i d h. subst (λ (l : List Game). All (Contains []) l) (sym (empty i d h))
      (λ j e w. absurd (omega (arith, w)));
}

-- the rooms stay
pub room-more : (room : ℕ) (lists : List GameRoom) (t : ℕ) (g : Game) → t < length lists → All (λ l. room ≤ l.room) lists
    → All (λ l. room ≤ l.room) (with_game lists t g)
room-more room lists t g within all =
    All-set (λ l. room ≤ l.room) lists t
    (record { list = games_at lists t ++ g ∷ []; room = (get_or lists t no_games).room }) (all t no_games within) all

-- a team that isn't at home has as much room as before
pub spare_away : (lists : List GameRoom) (home away : ℕ) (g : Game) (c i : ℕ) → (away ≡ home → ⊥) → away < length lists
    → All (λ l. length l.list + c ≤ l.room + i) lists
    → length (games_at (with_game lists home g) away) + c ≤ (get_or (with_game lists home g) away no_games).room + i
spare_away lists home away g c i other within all =
    subst (λ (l : GameRoom). length l.list + c ≤ l.room + i) (sym (room_other lists home away g other))
    (all away no_games within)

-- each game takes one place at most of each team's room
pub spare-more : (lists : List GameRoom) (home away : ℕ) (g : Game) (c i : ℕ) → (away ≡ home → ⊥) → home < length lists
    → away < length lists → All (λ l. length l.list + c ≤ l.room + i) lists
    → All (λ l. length l.list + c ≤ l.room + (i + 1)) (with_game (with_game lists home g) away g)
spare-more lists home away g c i other at_home at_away all =
    let P : GameRoom → Type 0 = λ l. length l.list + c ≤ l.room + (i + 1) in
    let first : List GameRoom = with_game lists home g in
    let weak : All P lists = λ k d h. omega (arith, all k d h) in
    let once : All P first =
    All-set P lists home (record { list = games_at lists home ++ g ∷ []; room = (get_or lists home no_games).room })
    (omega (arith, all home no_games at_home, length_push (games_at lists home) g)) weak in
    All-set P first away (record { list = games_at first away ++ g ∷ []; room = (get_or first away no_games).room })
    (omega (arith, spare_away lists home away g c i other at_away all, length_push (games_at first away) g)) once

-- ---- the keys that are touched

-- two tests each of which shows the other
same_tests : (a b : Bool) → (a ≡ true → b ≡ true) → (b ≡ true → a ≡ true) → a ≡ b
same_tests true b to from = sym (to refl)
same_tests false true to from = from refl
same_tests false false to from = refl

-- a key of one of some lists is one of all
each_key : {X : Type 0} (f : X → List ℕ) (xs : List X) (k : ℕ)
    → All (λ x. is_in (f x) k ≡ true → is_in (flat_map f xs) k ≡ true) xs
each_key f [] k = λ i d h. absurd (omega (arith, h))
each_key {X} f (x ∷ xs) k =
    All-cons (λ (y : X). is_in (f y) k ≡ true → is_in (flat_map f (x ∷ xs)) k ≡ true) x xs
    (λ here. is_in-append (f x) (flat_map f xs) k ∙ or_left (is_in (f x) k) (is_in (flat_map f xs) k) here)
    (λ i d h here. is_in-append (f x) (flat_map f xs) k
    ∙ or_right (is_in (f x) k) (is_in (flat_map f xs) k) (each_key f xs k i d h here))

-- what a key of each list shows, a key of all shows
any_key : {X : Type 0} (f : X → List ℕ) (b : Bool) (xs : List X) (k : ℕ)
    → All (λ x. is_in (f x) k ≡ true → b ≡ true) xs → is_in (flat_map f xs) k ≡ true → b ≡ true
any_key f b [] k all h = absurd (false≢true h)
any_key {X} f b (x ∷ xs) k all h =
    elim (or_cases (is_in (f x) k) (is_in (flat_map f xs) k) (sym (is_in-append (f x) (flat_map f xs) k) ∙ h))
    as (λ _. b ≡ true) [
      | inl here ↦ All-head (λ (y : X). is_in (f y) k ≡ true → b ≡ true) x xs all here
      | inr later ↦ any_key f b xs k (All-tail (λ (y : X). is_in (f y) k ≡ true → b ≡ true) x xs all) later
    ]

-- the keys that the games touch that are listed at some teams
abbrev pub touched_at : (Game → List ℕ) → List GameRoom → TeamId → List ℕ
touched_at touches lists t = flat_map touches (games_at lists t.0)

-- a key of a game that is listed at one of the teams
shown_at : (touches : Game → List ℕ) (lists : List GameRoom) (teams : List TeamId) (k t : ℕ) (g : Game)
    → Contains teams (record { 0 = t }) → Contains (games_at lists t) g → is_in (touches g) k ≡ true
    → is_in (flat_map (touched_at touches lists) teams) k ≡ true
shown_at touches lists teams k t g there listed here =
    All-contains (λ (u : TeamId). is_in (touched_at touches lists u) k ≡ true
    → is_in (flat_map (touched_at touches lists) teams) k ≡ true) teams (record { 0 = t })
    (each_key (touched_at touches lists) teams k) there
    (All-contains (λ (h : Game). is_in (touches h) k ≡ true → is_in (flat_map touches (games_at lists t)) k ≡ true)
    (games_at lists t) g (each_key touches (games_at lists t) k) listed here)

-- the games of the teams that are watched touch the keys that all games touch
pub same_touched : (n : ℕ) (touches : Game → List ℕ) (watched : ℕ → Bool) (games : List Game) (lists : List GameRoom)
    (teams : List TeamId)
    → ((g : Game) → IsGame n g → watched g.home.0 ≡ false → watched g.away.0 ≡ false → touches g ≡ [])
    → ((t : ℕ) → t < n → watched t ≡ true → Contains teams (record { 0 = t }))
    → All (IsGame n) games → AreByTeam n games lists
    → (k : ℕ) → is_in (flat_map (touched_at touches lists) teams) k ≡ is_in (flat_map touches games) k
same_touched n touches watched games lists teams quiet watches fit are k =
    let by_team : Bool = is_in (flat_map (touched_at touches lists) teams) k in
    let all : Bool = is_in (flat_map touches games) k in
    same_tests by_team all
    (any_key (touched_at touches lists) all teams k (λ i d h. any_key touches all (games_at lists (get_or teams i d).0) k
    (λ j e w. All-contains (λ (g : Game). is_in (touches g) k ≡ true → all ≡ true) games
    (get_or (games_at lists (get_or teams i d).0) j e) (each_key touches games k)
    (all_at (Contains games) lists (get_or teams i d).0 are.only j e w))))
    (any_key touches by_team games k (λ i d h here.
    let g : Game = get_or games i d in
    let fits : IsGame n g = fit i d h in
    elim (cases_Bool (watched g.home.0)) as (λ _. by_team ≡ true) [
      | inl seen ↦
          shown_at touches lists teams k g.home.0 g (watches g.home.0 fits.home seen) (are.home i d h) here
      | inr unseen ↦ elim (cases_Bool (watched g.away.0)) as (λ _. by_team ≡ true) [
        | inl seen ↦
            shown_at touches lists teams k g.away.0 g (watches g.away.0 fits.away seen) (are.away i d h) here
        | inr neither ↦
            absurd (false≢true (ap (λ (l : List ℕ). is_in l k) (sym (quiet g fits unseen neither)) ∙ here))
      ]
    ]))

-- each listed game fits
pub listed_fit : (n : ℕ) (games : List Game) (lists : List GameRoom) → All (IsGame n) games → AreByTeam n games lists
    → All (λ l. All (IsGame n) l.list) lists
listed_fit n games lists fit are = λ i d h j e w.
    All-contains (IsGame n) games (get_or (get_or lists i d).list j e) fit (are.only i d h j e w)

-- the games of an edit that are listed at the teams that a rule watches touch the keys that all its games touch
pub touched_by_team : {R : Type 0} (E : Ghosts R) (rule : R) (n : ℕ) (out into : List Game) (lists : List GameRoom)
    (teams : List TeamId)
    → ((g : Game) → IsGame (E.team_count rule) g → E.watched rule g.home.0 ≡ false → E.watched rule g.away.0 ≡ false
    → E.touches rule g ≡ [])
    → n ≡ E.team_count rule → HasWatched E rule teams → All (IsGame n) out → All (IsGame n) into
    → AreByTeam n (out ++ into) lists
    → (k : ℕ) → is_in (flat_map (touched_at (E.touches rule) lists) teams) k
    ≡ is_in (flat_map (E.touches rule) out ++ flat_map (E.touches rule) into) k
touched_by_team E rule n out into lists teams quiet same watches out_fit into_fit are k =
    same_touched (E.team_count rule) (E.touches rule) (E.watched rule) (out ++ into) lists teams quiet watches
    (subst (λ (m : ℕ). All (IsGame m) (out ++ into)) same (All-append (IsGame n) out into out_fit into_fit))
    (subst (λ (m : ℕ). AreByTeam m (out ++ into) lists) same are) k
    ∙ ap (λ (l : List ℕ). is_in l k) (flat_map-append (E.touches rule) out into)
