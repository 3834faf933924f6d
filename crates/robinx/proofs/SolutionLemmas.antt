-- What the text of a solution says.
use Rattle.std.proofs.Common.{◌≡◌, ◌≢◌, ℕ, ◌+◌, ◌<◌, ◌≤◌, true, not, ◌==◌, List, [], ◌∷◌, ◌++◌, length, length-append}
use Rattle.std.proofs.Common.{Option, Some, None, Ok, decimal, refl, sym, ap, ◌∙◌, append_assoc, arith}
use Rattle.std.specs.Prelude.{codes, nat_lt, Result}
use Rattle.std.specs.List.{All, flat_map, list_all}
use Rattle.std.proofs.lemmas.Bool.Decides.{nat_tests}
use Rattle.std.proofs.lemmas.List.{append-nil}
use Rattle.std.proofs.lemmas.List.Elements.{All-tail, All-head}
use Rattle.league.specs.Counts.{slot_count}
use Rattle.league.specs.Instance.{IsGame}
use Rattle.league.specs.declared.game.Game.{Game}
use Rattle.robinx.specs.Fronts.{◌>>=◌}
use Rattle.robinx.specs.Tags.{attributes_at}
use Rattle.robinx.specs.Pieces.{pieces, pieces_from}
use Rattle.robinx.specs.declared.tag.TagKind.TheVariants.{Empty, End}
use Rattle.robinx.specs.declared.tag_fault.FormKind.TheVariants.{UnknownTeam, UnknownSlot}
use Rattle.robinx.specs.Tags.{Attribute}
use Rattle.robinx.specs.Attributes.{count, tag_line}
use Rattle.robinx.specs.Texts.{game_line, score_text, solution_text}
use Rattle.robinx.specs.Values.{team, slot}
use Rattle.robinx.specs.Walk.{Open, Position, Fault, walk, at_piece}
use Rattle.robinx.specs.SolutionFile.{Games, solution_meaning, solution_of, game_of}
use Rattle.robinx.specs.declared.element.Element.TheVariants as element
use Rattle.robinx.proofs.TagLemmas.{and_parts, are_plain_values}
use Rattle.robinx.proofs.StepLemmas.{tag, piece_at-end, BeginsTag, Reads, Reads-piece, Reads-passed, Reads-newline}
use Rattle.robinx.proofs.StepLemmas.{Reads-tag_line, Reads-start_line, Reads-end_line}
use Rattle.robinx.proofs.CommentLemmas.{Reads-comment, comment_line, is_plain_comment}
use Rattle.robinx.proofs.NumberTexts.{id-decimal, decimal-plain}

-- ---- a game

abbrev game_attributes : Game → List Attribute
game_attributes g = count "home" g.home.0 ∷ count "away" g.away.0 ∷ count "slot" g.slot.0 ∷ []

different : (i j : ℕ) → i ≢ j → not (i == j) ≡ true
different i j h = grind (arith, nat_tests)

game-read : (n : ℕ) (g : Game) → n ≤ 40 → IsGame n g → game_of n (game_attributes g) ≡ Ok g
game-read n g size fits =
    let home : team n (decimal g.home.0) ≡ Ok g.home.0 = id-decimal UnknownTeam n g.home.0 (omega arith) fits.home in
    let away : team n (decimal g.away.0) ≡ Ok g.away.0 = id-decimal UnknownTeam n g.away.0 (omega arith) fits.away in
    let at : slot n (decimal g.slot.0) ≡ Ok g.slot.0 = id-decimal UnknownSlot (slot_count n) g.slot.0 (omega arith) fits.slot in
    let differ : not (g.home.0 == g.away.0) ≡ true = different g.home.0 g.away.0 fits.differ in
    rw (home, away, at, differ) refl

game-plain : (g : Game) → are_plain_values (game_attributes g) ≡ true
game-plain g =
    let home = decimal-plain g.home.0 in
    let away = decimal-plain g.away.0 in
    let at = decimal-plain g.slot.0 in
    rw (home, away, at) refl

-- ---- parts of the text

-- the ends of the games and of the root
abbrev games_end : List ℕ
games_end = codes "</Games>\n</Solution>\n"

-- the text up to its games, and what stands behind them
abbrev text_to : List Game → Option (ℕ × ℕ) → List ℕ → List ℕ
text_to games score end =
    codes "<?xml version=\"1.0\" encoding=\"UTF-8\"?>\n<Solution>\n"
    ++ (score_text score ++ (codes "<Games>\n" ++ (flat_map game_line games ++ end)))

-- ---- the games

module _ (n : ℕ) (size : n ≤ 40) where
  -- among the games
  abbrev among : ℕ → List Open → List Game → Position Games
  among line outer games = record { inner = record { element = element.Games; line = line; seen = []; text = [] }; outer = outer; passing = None; read = record { n = n; games = games } }

  room : (len : ℕ) → len < 10000 → nat_lt len 10000 ≡ true
  room len h = grind (arith, nat_tests)

  one_game : (line at : ℕ) (outer : List Open) (games : List Game) (g : Game) → length games < 10000 → IsGame n g
      → at_piece solution_meaning Empty (tag Empty (codes "ScheduledMatch") (game_attributes g) at) (among line outer games) ≡ Ok (among line outer (games ++ g ∷ []))
  one_game line at outer games g few fits =
      let space : nat_lt (length games) 10000 ≡ true = room (length games) few in
      let game : game_of n (game_attributes g) ≡ Ok g = game-read n g size fits in
      rw (space, game) refl

  BeginsTag-games : (games : List Game) (end : List ℕ) → BeginsTag end → BeginsTag (flat_map game_line games ++ end)
  BeginsTag-games [] end begins = begins
  BeginsTag-games (g ∷ games) end begins = (_, refl)

  games-read : (games so_far : List Game) (line : ℕ) (outer : List Open) (end : List ℕ) (x : Games) → length so_far + length games ≤ 10000 → All (IsGame n) games → BeginsTag end
      → Reads solution_meaning end (among line outer (so_far ++ games)) x → Reads solution_meaning (flat_map game_line games ++ end) (among line outer so_far) x
  games-read [] so_far line outer end x few fit begins on = rw (← append-nil so_far) on
  games-read (g ∷ games) so_far line outer end x few fit begins on =
      let g_fits = All-head (IsGame n) g games fit in
      let rest : List ℕ = flat_map game_line games ++ end in
      let more : so_far ++ g ∷ games ≡ (so_far ++ g ∷ []) ++ games = sym (append_assoc so_far (g ∷ []) games) in
      let after : Reads solution_meaning rest (among line outer (so_far ++ g ∷ [])) x =
      games-read games (so_far ++ g ∷ []) line outer end x (omega (arith, length-append so_far (g ∷ []))) (All-tail (IsGame n) g games fit) begins (rw more at on) in
      rw (append_assoc (game_line g) (flat_map game_line games) end)
      (Reads-tag_line solution_meaning (codes "ScheduledMatch") (game_attributes g) rest (among line outer so_far) x (λ at. among line outer (so_far ++ g ∷ [])) refl (omega arith) refl (game-plain g) (BeginsTag-games games end begins)
      (λ at. one_game line at outer so_far g (omega arith) g_fits) (λ at. refl) (λ at. after))

  -- ---- the whole file

  -- the elements around the games
  abbrev around : ℕ → List Open
  around line = record { element = element.Solution; line = line; seen = codes "Games" ∷ []; text = [] } ∷ record { element = element.SolutionFile; line = 0; seen = codes "Solution" ∷ []; text = [] } ∷ []

  -- in the root, behind the games
  abbrev behind_games : ℕ → List Game → Position Games
  behind_games line games = record {
    inner = record { element = element.Solution; line = line; seen = codes "Games" ∷ []; text = [] };
    outer = record { element = element.SolutionFile; line = 0; seen = codes "Solution" ∷ []; text = [] } ∷ [];
    passing = None;
    read = record { n = n; games = games };
  }

  -- behind the root
  abbrev behind_root : List Game → Position Games
  behind_root games = record {
    inner = record { element = element.SolutionFile; line = 0; seen = codes "Solution" ∷ []; text = [] };
    outer = [];
    passing = None;
    read = record { n = n; games = games };
  }

  file_end-read : (games : List Game) → Reads solution_meaning (10 ∷ []) (behind_root games) (record { n = n; games = games })
  unfolding attributes_at pieces_from walk
  file_end-read games = λ at. refl

  -- comments behind the root are passed over
  comments-read : (games : List Game) (comments : List (List ℕ)) → list_all is_plain_comment comments ≡ true
      → Reads solution_meaning (10 ∷ flat_map comment_line comments) (behind_root games) (record { n = n; games = games })
  comments-read games [] plain = file_end-read games
  comments-read games (body ∷ comments) plain =
      let x : Games = record { n = n; games = games } in
      let others : List ℕ = flat_map comment_line comments in
      let parts = and_parts (is_plain_comment body) (list_all is_plain_comment comments) plain in
      rw (append_assoc body (codes "-->\n") others)
      (Reads-newline solution_meaning (60 ∷ 33 ∷ 45 ∷ 45 ∷ (body ++ (45 ∷ 45 ∷ 62 ∷ 10 ∷ others))) (behind_root games) x (_, refl) refl
      (Reads-comment solution_meaning body (10 ∷ others) (behind_root games) x parts.0 (comments-read games comments parts.1)))

  end-read : (line outer_line : ℕ) (games : List Game) (comments : List (List ℕ)) → list_all is_plain_comment comments ≡ true
      → Reads solution_meaning (games_end ++ flat_map comment_line comments) (among line (around outer_line) games) (record { n = n; games = games })
  end-read line outer_line games comments plain =
      let x : Games = record { n = n; games = games } in
      let others : List ℕ = 10 ∷ flat_map comment_line comments in
      Reads-end_line solution_meaning (codes "Games") (codes "</Solution>" ++ others) (among line (around outer_line) games) x
      (λ at. behind_games outer_line games) refl (_, refl) (λ at. refl) (λ at. refl)
      (λ at. Reads-piece solution_meaning (codes "</Solution>") others (behind_games outer_line games) x
      (tag End (codes "Solution") []) (λ to. behind_root games) (omega arith)
      (λ to. piece_at-end to (codes "Solution") others refl) (λ to. refl) (λ to. comments-read games comments plain))

  -- in the root, before the games
  abbrev in_solution : ℕ → Option (List ℕ) → Position Games
  in_solution line passing = record { inner = record { element = element.Solution; line = line; seen = []; text = [] }; outer = record { element = element.SolutionFile; line = 0; seen = codes "Solution" ∷ []; text = [] } ∷ []; passing = passing; read = record { n = n; games = [] } }

  from_games : (games : List Game) (comments : List (List ℕ)) (line : ℕ) → length games ≤ 10000 → All (IsGame n) games
      → list_all is_plain_comment comments ≡ true
      → Reads solution_meaning (codes "<Games>\n" ++ (flat_map game_line games ++ (games_end ++ flat_map comment_line comments)))
      (in_solution line None) (record { n = n; games = games })
  from_games games comments line few fit plain =
      let x : Games = record { n = n; games = games } in
      let end : List ℕ = games_end ++ flat_map comment_line comments in
      Reads-start_line solution_meaning (codes "Games") [] (flat_map game_line games ++ end) (in_solution line None) x
      (λ at. among at (around line) []) refl (omega arith) refl refl (BeginsTag-games games end (_, refl)) (λ at. refl) (λ at. refl)
      (λ at. games-read games [] at (around line) end x (omega arith) fit (_, refl) (end-read at line games comments plain))

  -- the score, which is passed over
  score-passed : (score : Option (ℕ × ℕ)) (line : ℕ) (rest : List ℕ) (x : Games) → BeginsTag rest → Reads solution_meaning rest (in_solution line None) x → Reads solution_meaning (score_text score ++ rest) (in_solution line None) x
  score-passed None line rest x begins on = on
  score-passed (Some (infeasibility, objective)) line rest x begins on =
      let attributes : List Attribute = count "infeasibility" infeasibility ∷ count "objective" objective ∷ [] in
      let value : List ℕ = tag_line (codes "ObjectiveValue") attributes in
      let after : List ℕ = codes "</MetaData>\n" ++ rest in
      let first = decimal-plain infeasibility in
      let second = decimal-plain objective in
      let values : are_plain_values attributes ≡ true = rw (first, second) refl in
      rw (append_assoc value (codes "</MetaData>\n") rest)
      (Reads-start_line solution_meaning (codes "MetaData") [] (value ++ after) (in_solution line None) x (λ at. in_solution line (Some (codes "MetaData"))) refl (omega arith) refl refl (_, refl) (λ at. refl) (λ at. refl)
      (λ at. Reads-tag_line solution_meaning (codes "ObjectiveValue") attributes after (in_solution line (Some (codes "MetaData"))) x (λ at. in_solution line (Some (codes "MetaData"))) refl (omega arith) refl values (_, refl) (λ at. refl) (λ at. refl)
      (λ at. Reads-end_line solution_meaning (codes "MetaData") rest (in_solution line (Some (codes "MetaData"))) x (λ at. in_solution line None) refl begins (λ at. refl) (λ at. refl) (λ at. on))))

  score-begins : (score : Option (ℕ × ℕ)) (rest : List ℕ) → BeginsTag rest → BeginsTag (score_text score ++ rest)
  score-begins None rest begins = begins
  score-begins (Some pair) rest begins = (_, refl)

  abbrev at_start : Position Games
  at_start = record { inner = record { element = element.SolutionFile; line = 0; seen = []; text = [] }; outer = []; passing = None; read = record { n = n; games = [] } }

  pub text-read : (games : List Game) (score : Option (ℕ × ℕ)) (comments : List (List ℕ)) → length games ≤ 10000
      → All (IsGame n) games → list_all is_plain_comment comments ≡ true
      → Reads solution_meaning (text_to games score (games_end ++ flat_map comment_line comments)) at_start (record { n = n; games = games })
  text-read games score comments few fit plain =
      let games_text : List ℕ = codes "<Games>\n" ++ (flat_map game_line games ++ (games_end ++ flat_map comment_line comments)) in
      let body : List ℕ = score_text score ++ games_text in
      let x : Games = record { n = n; games = games } in
      Reads-passed solution_meaning (codes "<?xml version=\"1.0\" encoding=\"UTF-8\"?>") (codes "\n<Solution>\n" ++ body) at_start x (omega arith) (λ line. refl)
      (Reads-newline solution_meaning (codes "<Solution>\n" ++ body) at_start x (_, refl) refl
      (Reads-start_line solution_meaning (codes "Solution") [] body at_start x (λ at. in_solution at None) refl (omega arith) refl refl (score-begins score games_text (_, refl)) (λ at. refl) (λ at. refl)
      (λ at. score-passed score at games_text x (_, refl) (from_games games comments at few fit plain))))

-- the text of games that fit a league is read as these games
pub solution-reads_back : (n : ℕ) (games : List Game) (score : Option (ℕ × ℕ)) → n ≤ 40 → length games ≤ 10000 → All (IsGame n) games → solution_of n (pieces (solution_text games score)) ≡ Ok games
solution-reads_back n games score size few fit =
    ap (λ (r : Result Games Fault). r >>= λ read. Ok read.games) (text-read n size games score [] few fit refl 1)

-- what stands behind a text stands behind its last part
text_to-behind : (games : List Game) (score : Option (ℕ × ℕ)) (more : List ℕ)
    → solution_text games score ++ more ≡ text_to games score (games_end ++ more)
text_to-behind games score more =
    let lines : List ℕ = flat_map game_line games in
    let front : List ℕ → List ℕ = λ l. codes "<?xml version=\"1.0\" encoding=\"UTF-8\"?>\n<Solution>\n" ++ l in
    ap front (append_assoc (score_text score) (codes "<Games>\n" ++ (lines ++ games_end)) more
    ∙ ap (λ (l : List ℕ). score_text score ++ (codes "<Games>\n" ++ l)) (append_assoc lines games_end more))

-- the text of a season reads back with comments behind it too: they are passed over
pub solution-reads_back_commented : (n : ℕ) (games : List Game) (score : Option (ℕ × ℕ)) (comments : List (List ℕ)) → n ≤ 40
    → length games ≤ 10000 → All (IsGame n) games → list_all is_plain_comment comments ≡ true
    → solution_of n (pieces (solution_text games score ++ flat_map comment_line comments)) ≡ Ok games
solution-reads_back_commented n games score comments size few fit plain =
    ap (λ (text : List ℕ). solution_of n (pieces text)) (text_to-behind games score (flat_map comment_line comments))
    ∙ ap (λ (r : Result Games Fault). r >>= λ read. Ok read.games) (text-read n size games score comments few fit plain 1)
