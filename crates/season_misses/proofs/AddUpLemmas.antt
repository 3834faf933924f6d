-- At each key the amounts of the reasons add up to the entry: the classes that bound meetings, and all classes.
use Rattle.std.proofs.Common.{◌≡◌, ℕ, ◌<◌, zero, suc, Bool, true, ◌&&◌, nat_lt, List, [], length, get_or, arith, ap, sym, ◌∙◌, IsTrue}
use Rattle.std.proofs.lemmas.Bool.{and_parts}
use Rattle.std.proofs.lemmas.List.{get_or-map}
use Rattle.std.proofs.lemmas.List.Sums.{length-filter}
use Rattle.std.specs.List.{All, filter, list_all}
use Rattle.std.specs.Ordering.{nat_cmp}
use Rattle.league.specs.Bounds.{outside}
use Rattle.league.specs.Capacity.{ca4_entry, is_between}
use Rattle.league.specs.Counts.{counts_of}
use Rattle.league.specs.Deviation.{entry_of, spans}
use Rattle.league.specs.Instance.{IsGame, are_meetings, are_slots, are_teams, class_fits, is_meeting, is_one_side}
use Rattle.league.specs.Meetings.{meetings_of}
use Rattle.league.specs.Order.{IsInOrder}
use Rattle.league.specs.Sets.{IsAscending, ascends, pair_cmp}
use Rattle.league.specs.declared.class.Class.{Class}
use Rattle.league.specs.declared.class.Class.TheVariants.{Ca1, Ca2, Ca3, Ca4, Ga1, Br1, Br2, Fa2, Se1}
use Rattle.league.specs.declared.class.Side.{Side}
use Rattle.league.specs.declared.class.Span.{Span}
use Rattle.league.specs.declared.game.Game.{Game}
use Rattle.league.proofs.AscendingLemmas.{IsAscending-ascends}
use Rattle.league.proofs.FitLemmas.{are_slots-ascending, are_teams-ascending}
use Rattle.rule_core.specs.Meetings.{is_listed}
use Rattle.season_misses.specs.Counting.{counts_in_ca4, counts_in_ga1}
use Rattle.season_misses.specs.Laws.{AddUp}
use Rattle.season_misses.specs.Reasons.{reasons_at}
use Rattle.season_misses.specs.declared.reason.Cause.TheVariants.{Games}
use Rattle.season_misses.proofs.CountLemmas.{games_of-counted}
use Rattle.season_misses.proofs.GapLemmas.{se1-adds_up}
use Rattle.season_misses.proofs.LawLemmas.{br1-adds_up, br2-adds_up, ca1-adds_up, ca2-adds_up, ca3-adds_up, missed, missed-where}
use Rattle.season_misses.proofs.LeadLemmas.{fa2-adds_up}
use Rattle.season_misses.proofs.ListLemmas.{spans-ascending}
use Rattle.season_misses.proofs.MeetingLemmas.{times-ascending, times-passing}

-- GA1
ga1-adds_up : (n : ℕ) (games : List Game) (meetings : List (ℕ × ℕ)) (min max : ℕ) (slots : List ℕ) (key : ℕ)
    → IsAscending pair_cmp meetings → IsAscending nat_cmp slots → key < 1
    → missed (reasons_at n games (Ga1 meetings min max slots) key)
    ≡ entry_of n (counts_of games) (Ga1 meetings min max slots) key
ga1-adds_up n games meetings min max slots zero meetings_ascend ascending inside =
    let counted : List Game = filter (counts_in_ga1 meetings slots) games in
    missed-where 0 (outside min max (length counted)) (Games counted)
    ∙ ap (λ (c : ℕ). outside min max c)
    (length-filter (counts_in_ga1 meetings slots) games
    ∙ games_of-counted (λ home away. is_listed meetings home away) meetings slots games ascending
    (λ k d lt. times-ascending meetings (get_or games k d).home.0 (get_or games k d).away.0 meetings_ascend))
ga1-adds_up n games meetings min max slots (suc key) meetings_ascend ascending inside = absurd (omega arith)

-- CA4
ca4-adds_up : (n : ℕ) (games : List Game) (teams1 teams2 : List ℕ) (min max : ℕ) (side : Side) (span : Span) (slots :
    List ℕ) (key : ℕ) → All (IsGame n) games → IsAscending nat_cmp slots → key < length (spans span slots)
    → missed (reasons_at n games (Ca4 teams1 teams2 min max side span slots) key)
    ≡ entry_of n (counts_of games) (Ca4 teams1 teams2 min max side span slots) key
ca4-adds_up n games teams1 teams2 min max side span slots key fit ascending inside =
    let some : List ℕ = get_or (spans span slots) key [] in
    let counted : List Game = filter (counts_in_ca4 teams1 teams2 side some) games in
    missed-where key (outside min max (length counted)) (Games counted)
    ∙ ap (λ (c : ℕ). outside min max c)
    (length-filter (counts_in_ca4 teams1 teams2 side some) games
    ∙ games_of-counted (λ home away. is_between side teams1 teams2 (home, away)) (filter (is_between side teams1 teams2) (meetings_of n)) some games (spans-ascending span slots key ascending inside)
    (λ k d lt. let g : Game = get_or games k d in times-passing n (is_between side teams1 teams2) g.home.0 g.away.0 (fit k d lt).home (fit k d lt).away (fit k d lt).differ))
    ∙ sym (get_or-map (ca4_entry n (counts_of games) teams1 teams2 min max side) (spans span slots) key [] 0 inside)

-- two tests of three that pass
first_two : (a b c : Bool) → ((a && b) && c) ≡ true → (a ≡ true) × (b ≡ true)
first_two a b c passes = and_parts a b (and_parts (a && b) c passes).0

-- each class
pub adds_up : (n : ℕ) (games : List Game) (class : Class) → IsTrue (class_fits n class) → All (IsGame n) games → IsInOrder games → AddUp n games class
adds_up n games (Ca1 teams min max side slots) fits fit ordered =
    λ key inside. ca1-adds_up n games fit teams min max side slots key (are_slots-ascending n slots (first_two (are_teams n teams) (are_slots n slots) (is_one_side side) fits).1) inside
adds_up n games (Ca2 teams1 teams2 min max side slots) fits fit ordered =
    λ key inside. ca2-adds_up n games fit teams1 teams2 min max side slots key
    (are_teams-ascending n teams2 (first_two (are_teams n teams1) (are_teams n teams2) (are_slots n slots) fits).1)
    (are_slots-ascending n slots (and_parts (are_teams n teams1 && are_teams n teams2) (are_slots n slots) fits).1) inside
adds_up n games (Ca3 teams1 teams2 min max intp side) fits fit ordered =
    λ key inside. ca3-adds_up n games fit teams1 teams2 min max intp side key (are_teams-ascending n teams2 (first_two (are_teams n teams1) (are_teams n teams2) (nat_lt 0 intp) fits).1) inside
adds_up n games (Ca4 teams1 teams2 min max side span slots) fits fit ordered =
    λ key inside. ca4-adds_up n games teams1 teams2 min max side span slots key fit (are_slots-ascending n slots (and_parts (are_teams n teams1 && are_teams n teams2) (are_slots n slots) fits).1) inside
adds_up n games (Ga1 meetings min max slots) fits fit ordered =
    let parts = and_parts (are_meetings n meetings) (are_slots n slots) fits in
    let meetings_ascend : ascends pair_cmp meetings ≡ true = (and_parts (list_all (is_meeting n) meetings) (ascends pair_cmp meetings) parts.0).1 in
    λ key inside. ga1-adds_up n games meetings min max slots key (IsAscending-ascends pair_cmp meetings meetings_ascend) (are_slots-ascending n slots parts.1) inside
adds_up n games (Br1 teams intp side slots) fits fit ordered = λ key inside. br1-adds_up n games teams intp side slots key inside
adds_up n games (Br2 teams intp slots) fits fit ordered = λ key inside. br2-adds_up n games teams intp slots key inside
adds_up n games (Fa2 teams intp slots) fits fit ordered = λ key inside. fa2-adds_up n games teams intp slots key inside
adds_up n games (Se1 teams min) fits fit ordered = λ key inside. se1-adds_up n games teams min key fit ordered inside
