-- A command that names a number of teams names one that a league may have.
use Rattle.std.proofs.Common.{◌≡◌, ℕ, if◌then◌else◌, Bool, true, false, List, [], ◌∷◌, Option, Some, None, codes}
use Rattle.std.proofs.Common.{refl, subst, sym, arith}
use Rattle.std.specs.Prelude.{bytes_eq, option_and_then, option_map, ◌&&◌, IfSome}
use Rattle.std.specs.Option.{option_or}
use Rattle.std.proofs.lemmas.Bool.Decides.{nat_tests}
use Rattle.league.specs.Instance.{IsTeamCount, is_team_count}
use Rattle.command_line.specs.Words.{Command, HasTeams, arguments_of, asking, auditing, bounded_by, bounding, budgets_in}
use Rattle.command_line.specs.Words.{checking, conflicts_in, costing, demanding, demanding_some, explaining}
use Rattle.command_line.specs.Words.{floor_in, files_and_number, files_with_log, following, has_options, helping, is_file_name}
use Rattle.command_line.specs.Words.{log_options, lowering, making, members_in, near_files_and_number, number_in, one_file}
use Rattle.command_line.specs.Words.{one_number, parting, patterning, plain, prove_options, proving, resuming}
use Rattle.command_line.specs.Words.{resuming_kept, resuming_near, room_in, row_options, rowing, said, search_options}
use Rattle.command_line.specs.Words.{show_options, showing, showing_season, solve_options, solving, start_options, starting}
use Rattle.command_line.specs.Words.{team_count_in, teams_and_seed, timed_conflicts_in, timed_options, trying, two_files}
use Rattle.command_line.specs.Words.{bound_in, form_in, most_in, show_of, small_in, values_of}
use Rattle.command_line.specs.Words.Command.{Circle, Trial, Solve}
use Rattle.command_line.specs.SeenWords.{command_of}
use Rattle.command_line.specs.Topics.{topic_of}
use Rattle.command_line.specs.declared.goal.Goal.TheVariants.{Accepted}
use Rattle.command_line.specs.declared.words.Words.{Words}

-- ---- numbers of teams

counted : (n : ℕ) (b : Bool) → is_team_count n ≡ b → IfSome (if b then Some n else None) IsTeamCount
counted n false is = tt
counted n true is = record {
  even = grind (arith, nat_tests);
  at_least = grind (arith, nat_tests);
  at_most = grind (arith, nat_tests);
}

team_counts : (word : List ℕ) → IfSome (team_count_in word) IsTeamCount
team_counts word = by (number_in word) where
  by : (o : Option ℕ) → IfSome (option_and_then (λ n. if is_team_count n then Some n else None) o) IsTeamCount
  by None = tt
  by (Some n) = counted n (is_team_count n) refl

-- ---- what a choice and a step keep

if-teams : (b : Bool) (o p : Option Command) → IfSome o HasTeams → IfSome p HasTeams → IfSome (if b then o else p) HasTeams
if-teams true o p first second = first
if-teams false o p first second = second

or-teams : (o p : Option Command) → IfSome o HasTeams → IfSome p HasTeams → IfSome (option_or o p) HasTeams
or-teams None p first second = second
or-teams (Some command) p first second = first

map-teams : {A : Type 0} (o : Option A) (f : A → Command) → ((a : A) → HasTeams (f a)) → IfSome (option_map f o) HasTeams
map-teams {A} None f each = tt
map-teams {A} (Some a) f each = each a

then-teams : {A : Type 0} (o : Option A) (f : A → Option Command) → ((a : A) → IfSome (f a) HasTeams)
    → IfSome (option_and_then f o) HasTeams
then-teams {A} None f each = tt
then-teams {A} (Some a) f each = each a

counted-teams : (o : Option ℕ) (f : ℕ → Option Command) → IfSome o IsTeamCount
    → ((n : ℕ) → IsTeamCount n → IfSome (f n) HasTeams) → IfSome (option_and_then f o) HasTeams
counted-teams None f fit each = tt
counted-teams (Some n) f fit each = each n fit

said-teams : (usual : Command) (read : List ℕ → Option Command) (values : List (List ℕ)) → HasTeams usual
    → ((value : List ℕ) → IfSome (read value) HasTeams) → IfSome (said usual read values) HasTeams
said-teams usual read [] fit each = fit
said-teams usual read (value ∷ []) fit each = each value
said-teams usual read (first ∷ second ∷ rest) fit each = tt

-- ---- commands with options

solving-teams : (words : List (List ℕ)) → IfSome (solving words) HasTeams
solving-teams words =
    if-teams (has_options start_options words) _ _
    (then-teams (one_file (arguments_of words)) _ (λ file.
    then-teams (budgets_in words) _ (λ budgets.
    said-teams (Solve file budgets) (starting file budgets) (values_of (codes "--from") words) tt
    (λ start. if-teams (is_file_name start) _ _ tt tt)))) tt

patterning-teams : (words : List (List ℕ)) → IfSome (patterning words) HasTeams
patterning-teams words =
    if-teams (has_options search_options words) _ _
    (then-teams (one_file (arguments_of words)) _ (λ file. map-teams (conflicts_in words) _ (λ conflicts. tt))) tt

explaining-teams : (words : List (List ℕ)) → IfSome (explaining words) HasTeams
explaining-teams words =
    if-teams (has_options timed_options words) _ _
    (then-teams (one_file (arguments_of words)) _ (λ file. map-teams (timed_conflicts_in words) _ (λ conflicts. tt))) tt

proving-teams : (words : List (List ℕ)) → IfSome (proving words) HasTeams
proving-teams words =
    if-teams (has_options prove_options words) _ _
    (then-teams (two_files (arguments_of words)) _ (λ files.
    then-teams (floor_in words) _ (λ floor. map-teams (timed_conflicts_in words) _ (λ conflicts. tt)))) tt

resuming-teams : (words : List (List ℕ)) → IfSome (resuming words) HasTeams
resuming-teams words =
    or-teams (resuming_near words) (resuming_kept words)
    (if-teams (has_options solve_options words) _ _
    (then-teams (near_files_and_number (arguments_of words)) _ (λ found. map-teams (budgets_in words) _ (λ budgets. tt))) tt)
    (if-teams (has_options timed_options words) _ _
    (then-teams (files_and_number (arguments_of words)) _ (λ found. map-teams (timed_conflicts_in words) _ (λ conflicts. tt)))
    tt)

auditing-teams : (words : List (List ℕ)) → IfSome (auditing words) HasTeams
auditing-teams words =
    if-teams (has_options log_options words) _ _
    (then-teams (files_with_log (arguments_of words)) _ (λ found. map-teams (room_in words) _ (λ room. tt))) tt

trying-teams : (words : List (List ℕ)) → IfSome (trying words) HasTeams
unfolding teams_and_seed
trying-teams words = if-teams (has_options solve_options words) _ _ (made (arguments_of words)) tt where
  tried : (n seed : ℕ) → IsTeamCount n → IfSome (option_map (Trial n seed) (budgets_in words)) HasTeams
  tried n seed fit = map-teams (budgets_in words) _ (λ budgets. fit)

  seeded : (o : Option ℕ) (p : Option ℕ) → IfSome o IsTeamCount
      → IfSome (option_and_then (λ made. option_map (Trial made.0 made.1) (budgets_in words))
      (option_and_then (λ n. option_map {U = ℕ × ℕ} (λ seed. (n, seed)) p) o)) HasTeams
  seeded None p fit = tt
  seeded (Some n) None fit = tt
  seeded (Some n) (Some seed) fit = tried n seed fit

  made : (arguments : List (List ℕ))
      → IfSome (option_and_then (λ made. option_map (Trial made.0 made.1) (budgets_in words)) (teams_and_seed arguments)) HasTeams
  made [] = tt
  made (teams ∷ rest) = seeded (team_count_in teams) (one_number rest) (team_counts teams)

rowing-teams : (words : List (List ℕ)) → IfSome (rowing words) HasTeams
rowing-teams words = or-teams (lowering words) (bounding words) (least words)
    (if-teams (has_options row_options words) _ _
    (then-teams (one_file (arguments_of words)) _ (λ file.
    map-teams (said Accepted bound_in (values_of (codes "--bound") words)) _ (λ bound. tt))) tt)
  where
    costs : (file : List ℕ) → IfSome (costing file) HasTeams
    costs file = if-teams (is_file_name file) _ _ tt tt

    least : (words : List (List ℕ)) → IfSome (lowering words) HasTeams
    least [] = tt
    least (word ∷ []) = tt
    least (first ∷ second ∷ []) =
        if-teams (bytes_eq second (codes "--objective")) _ _ (costs first)
        (if-teams (bytes_eq first (codes "--objective")) _ _ (costs second) tt)
    least (first ∷ second ∷ third ∷ rest) = tt

showing-teams : (words : List (List ℕ)) → IfSome (showing words) HasTeams
showing-teams words = or-teams (demanding words) (showing_season words) (demands words)
    (if-teams (has_options show_options words) _ _
    (then-teams (two_files (arguments_of words)) _ (λ files.
    then-teams (said false form_in (values_of (codes "--form") words)) _ (λ sheet.
    then-teams (said 20 most_in (values_of (codes "--most") words)) _ (λ most.
    map-teams (said 80 small_in (values_of (codes "--width") words)) _ (λ width. shown files sheet most width))))) tt)
  where
    shown : (files : List ℕ × List ℕ) (sheet : Bool) (most width : ℕ) → HasTeams (show_of files sheet most width)
    shown files true most width = tt
    shown files false most width = tt

    some : (file list : List ℕ) → IfSome (demanding_some file list) HasTeams
    some file list = if-teams (is_file_name file) _ _ (map-teams (members_in list) _ (λ members. tt)) tt

    demands : (words : List (List ℕ)) → IfSome (demanding words) HasTeams
    demands [] = tt
    demands (word ∷ []) = tt
    demands (file ∷ option ∷ []) =
        if-teams (bytes_eq option (codes "--demands")) _ _ (if-teams (is_file_name file) _ _ tt tt) tt
    demands (file ∷ option ∷ list ∷ []) = if-teams (bytes_eq option (codes "--demands")) _ _ (some file list) tt
    demands (file ∷ option ∷ list ∷ next ∷ rest) = tt

checking-teams : (words : List (List ℕ)) → IfSome (checking words) HasTeams
checking-teams words =
    if-teams (has_options log_options words) _ _
    (then-teams (two_files (arguments_of words)) _ (λ files. map-teams (room_in words) _ (λ room. tt))) tt

bounded-teams : (words : List (List ℕ)) → IfSome (bounded_by words) HasTeams
bounded-teams words =
    if-teams (has_options log_options words) _ _
    (then-teams (two_files (arguments_of words)) _ (λ files. map-teams (room_in words) _ (λ room. tt))) tt

-- ---- commands without options

circled : (o : Option ℕ) → IfSome o IsTeamCount → IfSome (option_map Circle o) HasTeams
circled None fit = tt
circled (Some n) fit = fit

making-teams : (teams seed : List ℕ) → IfSome (making teams seed) HasTeams
making-teams teams seed =
    counted-teams (team_count_in teams) _ (team_counts teams) (λ n fit. map-teams (number_in seed) _ (λ k. fit))

parting-teams : (file list : List ℕ) → IfSome (parting file list) HasTeams
parting-teams file list = if-teams (is_file_name file) _ _ (map-teams (members_in list) _ (λ members. tt)) tt

plain-teams : (command : List ℕ) (words : List (List ℕ)) → IfSome (plain command words) HasTeams
plain-teams command [] = tt
plain-teams command (argument ∷ []) =
    if-teams (bytes_eq command (codes "circle")) _ _ (circled (team_count_in argument) (team_counts argument)) tt
plain-teams command (first ∷ second ∷ []) =
    if-teams (bytes_eq command (codes "make")) _ _ (making-teams first second)
    (if-teams (bytes_eq command (codes "part")) _ _ (parting-teams first second)
    (if-teams (is_file_name first && is_file_name second) _ _
    (if-teams (bytes_eq command (codes "validate")) _ _ tt (if-teams (bytes_eq command (codes "values")) _ _ tt tt)) tt))
plain-teams command (first ∷ second ∷ third ∷ rest) = tt

-- ---- all commands

pub following-teams : (words : List (List ℕ)) → IfSome (following words) HasTeams
following-teams [] = tt
following-teams (command ∷ words) =
    if-teams (bytes_eq command (codes "solve")) _ _ (solving-teams words)
    (if-teams (bytes_eq command (codes "patterns")) _ _ (patterning-teams words)
    (if-teams (bytes_eq command (codes "explain")) _ _ (explaining-teams words)
    (if-teams (bytes_eq command (codes "prove")) _ _ (proving-teams words)
    (if-teams (bytes_eq command (codes "resume")) _ _ (resuming-teams words)
    (if-teams (bytes_eq command (codes "audit")) _ _ (auditing-teams words)
    (if-teams (bytes_eq command (codes "trial")) _ _ (trying-teams words)
    (if-teams (bytes_eq command (codes "rows")) _ _ (rowing-teams words)
    (if-teams (bytes_eq command (codes "show")) _ _ (showing-teams words)
    (if-teams (bytes_eq command (codes "check")) _ _ (checking-teams words)
    (if-teams (bytes_eq command (codes "bound")) _ _ (bounded-teams words) (plain-teams command words)))))))))))

helping-teams : (name : List ℕ) → IfSome (helping name) HasTeams
helping-teams name = map-teams (topic_of name) _ (λ topic. tt)

pub asking-teams : (words : List (List ℕ)) → IfSome (asking words) HasTeams
asking-teams [] = tt
asking-teams (word ∷ []) =
    if-teams (bytes_eq word (codes "--help")) _ _ tt (if-teams (bytes_eq word (codes "--version")) _ _ tt tt)
asking-teams (first ∷ second ∷ []) =
    if-teams (bytes_eq second (codes "--help")) _ _ (helping-teams first)
    (if-teams (bytes_eq first (codes "--help")) _ _ (helping-teams second) tt)
asking-teams (first ∷ second ∷ third ∷ rest) = tt

-- ---- what a contract sees of a command

pub seen-teams : (found : Option Words) (o : Option Command) → option_map command_of found ≡ o → IfSome o HasTeams
    → IfSome found (λ command. HasTeams (command_of command))
seen-teams None o is fit = tt
seen-teams (Some command) o is fit = subst (λ (o : Option Command). IfSome o HasTeams) (sym is) fit
