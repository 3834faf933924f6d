-- The games that count, where what they are counted by is said in two ways.
use Rattle.std.proofs.Common.{◌≡◌, ℕ, List, ap, ◌∙◌}
use Rattle.std.specs.List.{filter}
use Rattle.league.specs.declared.class.Side.{Side}
use Rattle.league.specs.declared.game.Game.{Game}
use Rattle.season_misses.specs.Counting.{counts_in_ca1, counts_in_ca2, counts_in_ca4, counts_in_ga1}

pub ca1-games : (games : List Game) (a b : Side) (slots others : List ℕ) (i j : ℕ) → a ≡ b → slots ≡ others → i ≡ j
    → filter (counts_in_ca1 a slots i) games ≡ filter (counts_in_ca1 b others j) games
ca1-games games a b slots others i j side same team =
    ap (λ (x : Side). filter (counts_in_ca1 x slots i) games) side
    ∙ ap (λ (x : List ℕ). filter (counts_in_ca1 b x i) games) same
    ∙ ap (λ (x : ℕ). filter (counts_in_ca1 b others x) games) team

pub ca2-games : (games : List Game) (against : List ℕ) (a b : Side) (slots others : List ℕ) (i j : ℕ) → a ≡ b → slots ≡ others → i ≡ j
    → filter (counts_in_ca2 against a slots i) games ≡ filter (counts_in_ca2 against b others j) games
ca2-games games against a b slots others i j side same team =
    ap (λ (x : Side). filter (counts_in_ca2 against x slots i) games) side
    ∙ ap (λ (x : List ℕ). filter (counts_in_ca2 against b x i) games) same
    ∙ ap (λ (x : ℕ). filter (counts_in_ca2 against b others x) games) team

pub ca4-games : (games : List Game) (side : Side) (teams1 teams2 slots others : List ℕ) → slots ≡ others
    → filter (counts_in_ca4 teams1 teams2 side slots) games ≡ filter (counts_in_ca4 teams1 teams2 side others) games
ca4-games games side teams1 teams2 slots others same = ap (λ (x : List ℕ). filter (counts_in_ca4 teams1 teams2 side x) games) same

pub ga1-games : (games : List Game) (meetings : List (ℕ × ℕ)) (slots others : List ℕ) → slots ≡ others
    → filter (counts_in_ga1 meetings slots) games ≡ filter (counts_in_ga1 meetings others) games
ga1-games games meetings slots others same = ap (λ (x : List ℕ). filter (counts_in_ga1 meetings x) games) same
