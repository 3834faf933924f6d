-- A schedule that is written reads back as its games: the comments of its descent are passed over.
use Rattle.std.proofs.Common.{◌≡◌, ℕ, ◌≤◌, Bool, true, false, if◌then◌else◌, List, [], ◌∷◌, ◌++◌, length, map, Some, Ok}
use Rattle.std.proofs.Common.{decimal, codes, refl, ap, ◌∙◌, append_assoc}
use Rattle.std.specs.List.{All, flat_map, list_all}
use Rattle.std.proofs.lemmas.Bool.{and_from}
use Rattle.league.specs.Instance.{IsGame}
use Rattle.league.specs.declared.game.Game.{Game}
use Rattle.robinx.specs.Pieces.{pieces}
use Rattle.robinx.specs.SolutionFile.{solution_of}
use Rattle.robinx.specs.Texts.{solution_text}
use Rattle.robinx.proofs.CommentLemmas.{comment_line, is_plain_comment}
use Rattle.robinx.proofs.CommentLemmas.{is_plain_comment-append, is_plain_comment-decimal}
use Rattle.robinx.proofs.SolutionLemmas.{solution-reads_back_commented}
use Rattle.moves.specs.declared.swap.Swap.{Swap}
use Rattle.moves.specs.declared.swap.Swap.TheVariants.{HomeSwap, RoundSwap, TeamSwap, PartRoundSwap, PartTeamSwap}
use Rattle.descent.specs.Descended.{Descended}
use Rattle.command_solve.specs.Solve.{descent_text, move_line, move_of_three, move_of_two}

-- ---- what stands in the comments

abbrev pair_body : List ℕ → ℕ → ℕ → List ℕ
pair_body name a b = codes " move " ++ (name ++ (codes " " ++ (decimal a ++ (codes " " ++ (decimal b ++ codes " ")))))

abbrev triple_body : List ℕ → ℕ → ℕ → ℕ → List ℕ
triple_body name a b c =
    codes " move "
    ++ (name ++ (codes " " ++ (decimal a ++ (codes " " ++ (decimal b ++ (codes " " ++ (decimal c ++ codes " ")))))))

abbrev move_body : Swap → List ℕ
move_body (HomeSwap i j) = pair_body (codes "HomeSwap") i.0 j.0
move_body (RoundSwap s t) = pair_body (codes "RoundSwap") s.0 t.0
move_body (TeamSwap i j) = pair_body (codes "TeamSwap") i.0 j.0
move_body (PartRoundSwap i s t) = triple_body (codes "PartRoundSwap") i.0 s.0 t.0
move_body (PartTeamSwap i j s) = triple_body (codes "PartTeamSwap") i.0 j.0 s.0

abbrev first_body : Bool → ℕ → ℕ → List ℕ
first_body settled cost moves =
    codes " descent first="
    ++ (decimal cost
    ++ (codes " moves="
    ++ (decimal moves ++ (if settled then codes " settled=yes " else codes " settled=no "))))

abbrev bodies : ℕ → Descended → List (List ℕ)
bodies cost descent = first_body descent.settled cost (length descent.trail) ∷ map move_body descent.trail

-- ---- the text is these comments, one a line

pair-line : (name : List ℕ) (a b : ℕ) → move_of_two name a b ≡ comment_line (pair_body name a b)
pair-line name a b = simp append_assoc

triple-line : (name : List ℕ) (a b c : ℕ) → move_of_three name a b c ≡ comment_line (triple_body name a b c)
triple-line name a b c = simp append_assoc

move-line : (step : Swap) → move_line step ≡ comment_line (move_body step)
move-line (HomeSwap i j) = pair-line (codes "HomeSwap") i.0 j.0
move-line (RoundSwap s t) = pair-line (codes "RoundSwap") s.0 t.0
move-line (TeamSwap i j) = pair-line (codes "TeamSwap") i.0 j.0
move-line (PartRoundSwap i s t) = triple-line (codes "PartRoundSwap") i.0 s.0 t.0
move-line (PartTeamSwap i j s) = triple-line (codes "PartTeamSwap") i.0 j.0 s.0

abbrev line_by : Bool → ℕ → ℕ → List ℕ
line_by settled cost moves =
    codes "<!-- descent first="
    ++ (decimal cost
    ++ (codes " moves="
    ++ (decimal moves ++ (if settled then codes " settled=yes -->\n" else codes " settled=no -->\n"))))

first-line : (settled : Bool) (cost moves : ℕ) → line_by settled cost moves ≡ comment_line (first_body settled cost moves)
first-line true cost moves = simp append_assoc
first-line false cost moves = simp append_assoc

move-lines : (trail : List Swap) → flat_map move_line trail ≡ flat_map comment_line (map move_body trail)
move-lines [] = refl
move-lines (step ∷ trail) =
    ap (λ (line : List ℕ). line ++ flat_map move_line trail) (move-line step)
    ∙ ap (λ (lines : List ℕ). comment_line (move_body step) ++ lines) (move-lines trail)

descent-lines : (cost : ℕ) (descent : Descended)
    → descent_text cost descent ≡ flat_map comment_line (bodies cost descent)
descent-lines cost descent =
    ap (λ (line : List ℕ). line ++ flat_map move_line descent.trail)
    (first-line descent.settled cost (length descent.trail))
    ∙ ap (λ (lines : List ℕ). comment_line (first_body descent.settled cost (length descent.trail)) ++ lines)
    (move-lines descent.trail)

-- ---- none of them ends too early

pair-plain : (name : List ℕ) (a b : ℕ) → is_plain_comment name ≡ true → is_plain_comment (pair_body name a b) ≡ true
pair-plain name a b named =
    let last : List ℕ = codes " " ++ (decimal b ++ codes " ") in
    is_plain_comment-append name (codes " " ++ (decimal a ++ last)) named
    (is_plain_comment-decimal a last (is_plain_comment-decimal b (codes " ") refl))

triple-plain : (name : List ℕ) (a b c : ℕ) → is_plain_comment name ≡ true
    → is_plain_comment (triple_body name a b c) ≡ true
triple-plain name a b c named =
    let last : List ℕ = codes " " ++ (decimal c ++ codes " ") in
    let others : List ℕ = codes " " ++ (decimal b ++ last) in
    is_plain_comment-append name (codes " " ++ (decimal a ++ others)) named
    (is_plain_comment-decimal a others (is_plain_comment-decimal b last (is_plain_comment-decimal c (codes " ") refl)))

move-plain : (step : Swap) → is_plain_comment (move_body step) ≡ true
move-plain (HomeSwap i j) = pair-plain (codes "HomeSwap") i.0 j.0 refl
move-plain (RoundSwap s t) = pair-plain (codes "RoundSwap") s.0 t.0 refl
move-plain (TeamSwap i j) = pair-plain (codes "TeamSwap") i.0 j.0 refl
move-plain (PartRoundSwap i s t) = triple-plain (codes "PartRoundSwap") i.0 s.0 t.0 refl
move-plain (PartTeamSwap i j s) = triple-plain (codes "PartTeamSwap") i.0 j.0 s.0 refl

settled-plain : (settled : Bool)
    → is_plain_comment (if settled then codes " settled=yes " else codes " settled=no ") ≡ true
settled-plain true = refl
settled-plain false = refl

first-plain : (settled : Bool) (cost moves : ℕ) → is_plain_comment (first_body settled cost moves) ≡ true
first-plain settled cost moves =
    let end : List ℕ = if settled then codes " settled=yes " else codes " settled=no " in
    is_plain_comment-decimal cost (codes " moves=" ++ (decimal moves ++ end))
    (is_plain_comment-decimal moves end (settled-plain settled))

moves-plain : (trail : List Swap) → list_all is_plain_comment (map move_body trail) ≡ true
moves-plain [] = refl
moves-plain (step ∷ trail) =
    and_from (is_plain_comment (move_body step)) (list_all is_plain_comment (map move_body trail)) (move-plain step)
    (moves-plain trail)

bodies-plain : (cost : ℕ) (descent : Descended) → list_all is_plain_comment (bodies cost descent) ≡ true
bodies-plain cost descent =
    and_from (is_plain_comment (first_body descent.settled cost (length descent.trail)))
    (list_all is_plain_comment (map move_body descent.trail))
    (first-plain descent.settled cost (length descent.trail)) (moves-plain descent.trail)

-- ---- the whole text

-- what is written of games that fit a league of n teams, with a descent behind them, reads back as these games
pub schedule-reads_back : (n : ℕ) (games : List Game) (objective cost : ℕ) (descent : Descended) → n ≤ 40
    → length games ≤ 10000 → All (IsGame n) games
    → solution_of n (pieces (solution_text games (Some (0, objective)) ++ descent_text cost descent)) ≡ Ok games
schedule-reads_back n games objective cost descent size few fit =
    ap (λ (comments : List ℕ). solution_of n (pieces (solution_text games (Some (0, objective)) ++ comments)))
    (descent-lines cost descent)
    ∙ solution-reads_back_commented n games (Some (0, objective)) (bodies cost descent) size few fit
    (bodies-plain cost descent)
