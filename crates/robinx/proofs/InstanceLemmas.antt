-- What the text of an instance says.
use Rattle.std.proofs.Common.{◌≡◌, ℕ, zero, suc, ◌+◌, ◌%◌, ◌<◌, ◌≤◌, ◌^◌, Bool, true, false, ◌&&◌, ◌||◌, ◌==◌, List, [], ◌∷◌, ◌++◌, length, None, Ok, decimal, refl, sym, ap, ◌∙◌, append_assoc, arith, subst}
use Rattle.std.specs.Prelude.{codes, nat_lt, nat_le, Result}
use Rattle.std.specs.List.{All, flat_map, list_all, list_any, range_with_len}
use Rattle.std.proofs.lemmas.Bool.Decides.{nat_tests}
use Rattle.std.proofs.lemmas.List.{append-nil}
use Rattle.std.proofs.lemmas.List.FromFn.{length-range_with_len}
use Rattle.league.specs.Counts.{teams_of, slots_of, slot_count}
use Rattle.league.specs.Instance.{Instance, IsInstance, IsTeamCount, is_team_count}
use Rattle.league.specs.Sets.{is_in}
use Rattle.league.specs.declared.class.Constraint.{Constraint}
use Rattle.robinx.specs.Fronts.{◌>>=◌}
use Rattle.robinx.specs.Tags.{attributes_at}
use Rattle.robinx.specs.Pieces.{pieces, pieces_from}
use Rattle.robinx.specs.declared.tag.TagKind.TheVariants.{Empty}
use Rattle.robinx.specs.Tags.{Attribute}
use Rattle.robinx.specs.Attributes.{count, word}
use Rattle.robinx.specs.Texts.{mode_word, team_line, slot_line, constraints_after, instance_text}
use Rattle.robinx.specs.Values.{number}
use Rattle.robinx.specs.Walk.{Open, Position, Fault, walk, at_piece}
use Rattle.robinx.specs.InstanceFile.{Draft, instance_meaning, instance_of, nothing, league_of, are_ids, is_season}
use Rattle.robinx.specs.declared.element.Element.{Element}
use Rattle.robinx.specs.declared.element.Element.TheVariants as element
use Rattle.robinx.specs.Held.{IsHeld}
use Rattle.robinx.proofs.TagLemmas.{are_plain_values}
use Rattle.robinx.proofs.StepLemmas.{tag, BeginsTag, Reads, Reads-passed, Reads-newline, Reads-tag_line, Reads-start_line, Reads-end_line, Reads-value_line}
use Rattle.robinx.proofs.NumberTexts.{number-decimal, decimal-plain}
use Rattle.robinx.proofs.GroupLemmas.{opened, position, among, CanStand, constraints-begin, constraints-read}

-- ---- the season

any-here : (p : ℕ → Bool) (before after : List ℕ) (x : ℕ) → p x ≡ true → list_any p (before ++ x ∷ after) ≡ true
any-here p [] after x here = rw here refl
any-here p (y ∷ before) after x here = or_true (p y) (list_any p (before ++ x ∷ after)) (any-here p before after x here) where
  or_true : (b c : Bool) → c ≡ true → (b || c) ≡ true
  or_true true c h = refl
  or_true false c h = h

same_number : (x : ℕ) → (x == x) ≡ true
same_number x = grind (arith, nat_tests)

is_in-all : (before ids : List ℕ) → list_all (λ i. is_in i (before ++ ids)) ids ≡ true
is_in-all before [] = refl
is_in-all before (x ∷ ids) =
    let here : is_in x (before ++ x ∷ ids) ≡ true = any-here (λ i. i == x) before ids x (same_number x) in
    let later : list_all (λ i. is_in i (before ++ x ∷ ids)) ids ≡ true = ap (λ (l : List ℕ). list_all (λ i. is_in i l) ids) (sym (append_assoc before (x ∷ []) ids)) ∙ is_in-all (before ++ x ∷ []) ids in
    rw here later

are_ids-same : (ids : List ℕ) → are_ids ids ids ≡ true
are_ids-same ids =
    let len : (length ids == length ids) ≡ true = same_number (length ids) in
    let all : list_all (λ i. is_in i ids) ids ≡ true = is_in-all [] ids in
    rw (len, all) refl

even_test : (n : ℕ) → n % 2 ≡ 0 → (n % 2 == 0) ≡ true
even_test n h = grind (arith, nat_tests)

le_test : (m n : ℕ) → m ≤ n → nat_le m n ≡ true
le_test m n h = grind (arith, nat_tests)

season-is : (n : ℕ) → IsTeamCount n → is_season (teams_of n) (slots_of n) ≡ true
season-is n size =
    let len : length (teams_of n) ≡ n = length-range_with_len 0 n in
    let is_even : (n % 2 == 0) ≡ true = even_test n size.even in
    let is_low : nat_le 2 n ≡ true = le_test 2 n size.at_least in
    let is_high : nat_le n 40 ≡ true = le_test n 40 size.at_most in
    let first : are_ids (teams_of n) (teams_of n) ≡ true = are_ids-same (teams_of n) in
    let second : are_ids (slots_of n) (slots_of n) ≡ true = are_ids-same (slots_of n) in
    ap (λ (m : ℕ). is_team_count m && are_ids (teams_of n) (teams_of m) && are_ids (slots_of n) (slots_of m)) len
    ∙ rw (is_even, is_low, is_high, first, second) refl

abbrev draft : Bool → List ℕ → List ℕ → ℕ → List Constraint → Draft
draft phased teams slots n constraints = record { phased = phased; teams = teams; slots = slots; n = n; constraints = constraints }

-- ---- teams and slots

abbrev id_attributes : ℕ → List Attribute
id_attributes i = count "id" i ∷ []

id-plain : (i : ℕ) → are_plain_values (id_attributes i) ≡ true
id-plain i = let value = decimal-plain i in rw value refl

module _ (phased : Bool) (line : ℕ) (outer : List Open) where
  abbrev in_teams : List ℕ → List ℕ → Position Draft
  in_teams slots teams = position (opened element.Teams line []) outer (draft phased teams slots 0 [])

  abbrev in_slots : List ℕ → List ℕ → Position Draft
  in_slots teams slots = position (opened element.Slots line []) outer (draft phased teams slots 0 [])

  one_team : (slots so_far : List ℕ) (i at : ℕ) → i < 2 ^ 32 → at_piece instance_meaning Empty (tag Empty (codes "team") (id_attributes i) at) (in_teams slots so_far) ≡ Ok (in_teams slots (so_far ++ i ∷ []))
  one_team slots so_far i at small = let value : number (decimal i) ≡ Ok i = number-decimal i small in rw value refl

  one_slot : (teams so_far : List ℕ) (i at : ℕ) → i < 2 ^ 32 → at_piece instance_meaning Empty (tag Empty (codes "slot") (id_attributes i) at) (in_slots teams so_far) ≡ Ok (in_slots teams (so_far ++ i ∷ []))
  one_slot teams so_far i at small = let value : number (decimal i) ≡ Ok i = number-decimal i small in rw value refl

  team_lines-begin : (k a : ℕ) (end : List ℕ) → BeginsTag end → BeginsTag (flat_map team_line (range_with_len a k) ++ end)
  team_lines-begin zero a end begins = begins
  team_lines-begin (suc k) a end begins = (_, refl)

  slot_lines-begin : (k a : ℕ) (end : List ℕ) → BeginsTag end → BeginsTag (flat_map slot_line (range_with_len a k) ++ end)
  slot_lines-begin zero a end begins = begins
  slot_lines-begin (suc k) a end begins = (_, refl)

  teams-read : (k a : ℕ) (slots so_far end : List ℕ) (x : Draft) → a + k ≤ 2 ^ 32 → BeginsTag end → Reads instance_meaning end (in_teams slots (so_far ++ range_with_len a k)) x
      → Reads instance_meaning (flat_map team_line (range_with_len a k) ++ end) (in_teams slots so_far) x
  teams-read zero a slots so_far end x small begins on = rw (← append-nil so_far) on
  teams-read (suc k) a slots so_far end x small begins on =
      let rest : List ℕ = flat_map team_line (range_with_len (a + 1) k) ++ end in
      let more : so_far ++ a ∷ range_with_len (a + 1) k ≡ (so_far ++ a ∷ []) ++ range_with_len (a + 1) k = sym (append_assoc so_far (a ∷ []) (range_with_len (a + 1) k)) in
      let after : Reads instance_meaning rest (in_teams slots (so_far ++ a ∷ [])) x = teams-read k (a + 1) slots (so_far ++ a ∷ []) end x (omega arith) begins (rw more at on) in
      rw (append_assoc (team_line a) (flat_map team_line (range_with_len (a + 1) k)) end)
      (Reads-tag_line instance_meaning (codes "team") (id_attributes a) rest (in_teams slots so_far) x (λ at. in_teams slots (so_far ++ a ∷ [])) refl (omega arith) refl (id-plain a) (team_lines-begin k (a + 1) end begins)
      (λ at. one_team slots so_far a at (omega arith)) (λ at. refl) (λ at. after))

  slots-read : (k a : ℕ) (teams so_far end : List ℕ) (x : Draft) → a + k ≤ 2 ^ 32 → BeginsTag end → Reads instance_meaning end (in_slots teams (so_far ++ range_with_len a k)) x
      → Reads instance_meaning (flat_map slot_line (range_with_len a k) ++ end) (in_slots teams so_far) x
  slots-read zero a teams so_far end x small begins on = rw (← append-nil so_far) on
  slots-read (suc k) a teams so_far end x small begins on =
      let rest : List ℕ = flat_map slot_line (range_with_len (a + 1) k) ++ end in
      let more : so_far ++ a ∷ range_with_len (a + 1) k ≡ (so_far ++ a ∷ []) ++ range_with_len (a + 1) k = sym (append_assoc so_far (a ∷ []) (range_with_len (a + 1) k)) in
      let after : Reads instance_meaning rest (in_slots teams (so_far ++ a ∷ [])) x = slots-read k (a + 1) teams (so_far ++ a ∷ []) end x (omega arith) begins (rw more at on) in
      rw (append_assoc (slot_line a) (flat_map slot_line (range_with_len (a + 1) k)) end)
      (Reads-tag_line instance_meaning (codes "slot") (id_attributes a) rest (in_slots teams so_far) x (λ at. in_slots teams (so_far ++ a ∷ [])) refl (omega arith) refl (id-plain a) (slot_lines-begin k (a + 1) end begins)
      (λ at. one_slot teams so_far a at (omega arith)) (λ at. refl) (λ at. after))

-- ---- the whole file

abbrev file_open : Open
file_open = opened element.InstanceFile 0 (codes "Instance" ∷ [])

-- the root, in which these elements were read
abbrev root : ℕ → List (List ℕ) → Open
root line names = opened element.Instance line names

abbrev with_structure : List (List ℕ)
with_structure = codes "Structure" ∷ []

abbrev with_resources : List (List ℕ)
with_resources = codes "Structure" ∷ codes "Resources" ∷ []

abbrev with_constraints : List (List ℕ)
with_constraints = codes "Structure" ∷ codes "Resources" ∷ codes "Constraints" ∷ []

abbrev file_end : List ℕ
file_end = codes "</Constraints>\n</Instance>\n"

module _ (n : ℕ) (phased : Bool) (constraints : List Constraint) (size : IsTeamCount n) (few : length constraints ≤ 20000) (stand : All (CanStand n) constraints) where
  abbrev last_draft : Draft
  last_draft = draft phased (teams_of n) (slots_of n) n constraints

  -- the end of the file
  end-read : (line inner : ℕ) → Reads instance_meaning file_end (among inner (root line with_constraints ∷ file_open ∷ []) last_draft) last_draft
  unfolding attributes_at pieces_from walk
  end-read line inner = λ at. refl

  above_zero : nat_lt 0 n ≡ true
  above_zero = less_by n size.at_least where
    less_by : (n : ℕ) → 2 ≤ n → nat_lt 0 n ≡ true
    less_by n low = grind (arith, nat_tests)

  -- the constraints, from the Start of their element on
  from_constraints : (line : ℕ) → Reads instance_meaning (codes "<Constraints>\n" ++ (constraints_after None constraints ++ file_end)) (position (root line with_resources) (file_open ∷ []) (draft phased (teams_of n) (slots_of n) n [])) last_draft
  from_constraints line =
      let known : nat_lt 0 n ≡ true = above_zero in
      let rest : List ℕ = constraints_after None constraints ++ file_end in
      Reads-start_line instance_meaning (codes "Constraints") [] rest (position (root line with_resources) (file_open ∷ []) (draft phased (teams_of n) (slots_of n) n [])) last_draft
      (λ at. among at (root line with_constraints ∷ file_open ∷ []) (draft phased (teams_of n) (slots_of n) n [])) refl (omega arith) refl refl (constraints-begin constraints file_end (_, refl))
      (λ at. rw known refl) (λ at. refl)
      (λ at. constraints-read at (root line with_constraints ∷ file_open ∷ []) n size.at_most phased (teams_of n) (slots_of n) constraints file_end last_draft few stand (_, refl) (end-read line at))

  -- the teams and the slots, from the Start of their element on
  abbrev constraints_text : List ℕ
  constraints_text = codes "<Constraints>\n" ++ (constraints_after None constraints ++ file_end)

  abbrev resources_end : List ℕ
  resources_end = codes "</Resources>\n" ++ constraints_text

  abbrev in_resources : ℕ → ℕ → List (List ℕ) → List ℕ → List ℕ → Position Draft
  in_resources line at names teams slots = position (opened element.Resources at names) (root line with_resources ∷ file_open ∷ []) (draft phased teams slots 0 [])

  from_resources_end : (line at : ℕ) → Reads instance_meaning resources_end (in_resources line at (codes "Teams" ∷ codes "Slots" ∷ []) (teams_of n) (slots_of n)) last_draft
  from_resources_end line at =
      let season : is_season (teams_of n) (slots_of n) ≡ true = season-is n size in
      let len : length (teams_of n) ≡ n = length-range_with_len 0 n in
      Reads-end_line instance_meaning (codes "Resources") constraints_text (in_resources line at (codes "Teams" ∷ codes "Slots" ∷ []) (teams_of n) (slots_of n)) last_draft
      (λ to. position (root line with_resources) (file_open ∷ []) (draft phased (teams_of n) (slots_of n) n [])) refl (_, refl)
      (λ to. rw (season, len) refl) (λ to. refl) (λ to. from_constraints line)

  abbrev slots_text : List ℕ
  slots_text = flat_map slot_line (slots_of n) ++ (codes "</Slots>\n" ++ resources_end)

  abbrev around_resources : ℕ → ℕ → List (List ℕ) → List Open
  around_resources line at names = opened element.Resources at names ∷ root line with_resources ∷ file_open ∷ []

  from_slots : (line at : ℕ) → Reads instance_meaning (codes "<Slots>\n" ++ slots_text) (in_resources line at (codes "Teams" ∷ []) (teams_of n) []) last_draft
  from_slots line at =
      let outer : List Open = around_resources line at (codes "Teams" ∷ codes "Slots" ∷ []) in
      Reads-start_line instance_meaning (codes "Slots") [] slots_text (in_resources line at (codes "Teams" ∷ []) (teams_of n) []) last_draft
      (λ to. in_slots phased to outer (teams_of n) []) refl (omega arith) refl refl (slot_lines-begin phased line outer (slot_count n) 0 (codes "</Slots>\n" ++ resources_end) (_, refl)) (λ to. refl) (λ to. refl)
      (λ to. slots-read phased to outer (slot_count n) 0 (teams_of n) [] (codes "</Slots>\n" ++ resources_end) last_draft (omega arith) (_, refl)
      (Reads-end_line instance_meaning (codes "Slots") resources_end (in_slots phased to outer (teams_of n) (slots_of n)) last_draft
      (λ more. in_resources line at (codes "Teams" ∷ codes "Slots" ∷ []) (teams_of n) (slots_of n)) refl (_, refl) (λ more. refl) (λ more. refl) (λ more. from_resources_end line at)))

  abbrev teams_text : List ℕ
  teams_text = flat_map team_line (teams_of n) ++ (codes "</Teams>\n<Slots>\n" ++ slots_text)

  from_teams : (line at : ℕ) → Reads instance_meaning (codes "<Teams>\n" ++ teams_text) (in_resources line at [] [] []) last_draft
  from_teams line at =
      let outer : List Open = around_resources line at (codes "Teams" ∷ []) in
      Reads-start_line instance_meaning (codes "Teams") [] teams_text (in_resources line at [] [] []) last_draft
      (λ to. in_teams phased to outer [] []) refl (omega arith) refl refl (team_lines-begin phased line outer n 0 (codes "</Teams>\n<Slots>\n" ++ slots_text) (_, refl)) (λ to. refl) (λ to. refl)
      (λ to. teams-read phased to outer n 0 [] [] (codes "</Teams>\n<Slots>\n" ++ slots_text) last_draft (omega arith) (_, refl)
      (Reads-end_line instance_meaning (codes "Teams") (codes "<Slots>\n" ++ slots_text) (in_teams phased to outer [] (teams_of n)) last_draft
      (λ more. in_resources line at (codes "Teams" ∷ []) (teams_of n) []) refl (_, refl) (λ more. refl) (λ more. refl) (λ more. from_slots line at)))

  from_resources : (line : ℕ) → Reads instance_meaning (codes "<Resources>\n<Teams>\n" ++ teams_text) (position (root line with_structure) (file_open ∷ []) (draft phased [] [] 0 [])) last_draft
  from_resources line =
      Reads-start_line instance_meaning (codes "Resources") [] (codes "<Teams>\n" ++ teams_text) (position (root line with_structure) (file_open ∷ []) (draft phased [] [] 0 [])) last_draft
      (λ at. in_resources line at [] [] []) refl (omega arith) refl refl (_, refl) (λ at. refl) (λ at. refl) (λ at. from_teams line at)

  -- ---- the format

  abbrev format_end : List ℕ
  format_end = codes "</Format>\n</Structure>\n<Resources>\n<Teams>\n" ++ teams_text

  -- in the format, in which these elements were read
  abbrev in_format : ℕ → ℕ → ℕ → List (List ℕ) → Bool → Position Draft
  in_format line at to names mode = position (opened element.Format to names) (opened element.Structure at (codes "Format" ∷ []) ∷ root line with_structure ∷ file_open ∷ []) (draft mode [] [] 0 [])

  abbrev format_names : List (List ℕ)
  format_names = codes "numberRoundRobin" ∷ codes "compactness" ∷ codes "gameMode" ∷ []

  from_format_end : (line at to : ℕ) → Reads instance_meaning format_end (in_format line at to format_names phased) last_draft
  from_format_end line at to =
      Reads-end_line instance_meaning (codes "Format") (codes "</Structure>\n<Resources>\n<Teams>\n" ++ teams_text) (in_format line at to format_names phased) last_draft
      (λ more. position (opened element.Structure at (codes "Format" ∷ [])) (root line with_structure ∷ file_open ∷ []) (draft phased [] [] 0 [])) refl (_, refl) (λ more. refl) (λ more. refl)
      (λ more. Reads-end_line instance_meaning (codes "Structure") (codes "<Resources>\n<Teams>\n" ++ teams_text) (position (opened element.Structure at (codes "Format" ∷ [])) (root line with_structure ∷ file_open ∷ []) (draft phased [] [] 0 [])) last_draft
      (λ other. position (root line with_structure) (file_open ∷ []) (draft phased [] [] 0 [])) refl (_, refl) (λ other. refl) (λ other. refl) (λ other. from_resources line))

  -- in a value of the format
  abbrev in_value : ℕ → ℕ → ℕ → List (List ℕ) → Element → List ℕ → ℕ → Position Draft
  in_value line at to names e text start =
      position (record { element = e; line = start; seen = []; text = text }) (opened element.Format to names ∷ opened element.Structure at (codes "Format" ∷ []) ∷ root line with_structure ∷ file_open ∷ []) (draft false [] [] 0 [])

  abbrev two_names : List (List ℕ)
  two_names = codes "numberRoundRobin" ∷ codes "compactness" ∷ []

  from_mode : (line at to : ℕ) (mode : Bool) (x : Draft) → Reads instance_meaning format_end (in_format line at to format_names mode) x
      → Reads instance_meaning (codes "<gameMode>" ++ (codes (mode_word mode) ++ (codes "</gameMode>\n" ++ format_end))) (in_format line at to two_names false) x
  from_mode line at to true x on =
      Reads-value_line instance_meaning (codes "gameMode") 80 [] format_end (in_format line at to two_names false) (in_format line at to format_names true) x
      (in_value line at to format_names element.GameMode []) (in_value line at to format_names element.GameMode (codes "P")) refl refl refl (_, refl) refl (λ l. refl) (λ l other. refl) (λ l other. refl) on
  from_mode line at to false x on =
      Reads-value_line instance_meaning (codes "gameMode") 78 (codes "ULL") format_end (in_format line at to two_names false) (in_format line at to format_names false) x
      (in_value line at to format_names element.GameMode []) (in_value line at to format_names element.GameMode (codes "NULL")) refl refl refl (_, refl) refl (λ l. refl) (λ l other. refl) (λ l other. refl) on

  abbrev mode_text : List ℕ
  mode_text = codes "<gameMode>" ++ (codes (mode_word phased) ++ (codes "</gameMode>\n" ++ format_end))

  from_compactness : (line at to : ℕ) → Reads instance_meaning (codes "<compactness>C</compactness>\n" ++ mode_text) (in_format line at to (codes "numberRoundRobin" ∷ []) false) last_draft
  from_compactness line at to =
      Reads-value_line instance_meaning (codes "compactness") 67 [] mode_text (in_format line at to (codes "numberRoundRobin" ∷ []) false) (in_format line at to two_names false) last_draft
      (in_value line at to two_names element.Compactness []) (in_value line at to two_names element.Compactness (codes "C")) refl refl refl (_, refl) refl (λ l. refl) (λ l other. refl) (λ l other. refl)
      (from_mode line at to phased last_draft (from_format_end line at to))

  from_rounds : (line at to : ℕ) → Reads instance_meaning (codes "<numberRoundRobin>2</numberRoundRobin>\n<compactness>C</compactness>\n" ++ mode_text) (in_format line at to [] false) last_draft
  from_rounds line at to =
      Reads-value_line instance_meaning (codes "numberRoundRobin") 50 [] (codes "<compactness>C</compactness>\n" ++ mode_text) (in_format line at to [] false) (in_format line at to (codes "numberRoundRobin" ∷ []) false) last_draft
      (in_value line at to (codes "numberRoundRobin" ∷ []) element.NumberRoundRobin []) (in_value line at to (codes "numberRoundRobin" ∷ []) element.NumberRoundRobin (codes "2")) refl refl refl (_, refl) refl
      (λ l. refl) (λ l other. refl) (λ l other. refl) (from_compactness line at to)

  -- ---- from the front

  abbrev at_front : Position Draft
  at_front = position (opened element.InstanceFile 0 []) [] nothing

  abbrev rounds_text : List ℕ
  rounds_text = codes "<numberRoundRobin>2</numberRoundRobin>\n<compactness>C</compactness>\n" ++ mode_text

  from_root : (line : ℕ) → Reads instance_meaning (codes "<Structure>\n<Format leagueIds=\"0\">\n" ++ rounds_text) (position (root line []) (file_open ∷ []) nothing) last_draft
  from_root line =
      Reads-start_line instance_meaning (codes "Structure") [] (codes "<Format leagueIds=\"0\">\n" ++ rounds_text) (position (root line []) (file_open ∷ []) nothing) last_draft
      (λ at. position (opened element.Structure at []) (root line with_structure ∷ file_open ∷ []) nothing) refl (omega arith) refl refl (_, refl) (λ at. refl) (λ at. refl)
      (λ at. Reads-start_line instance_meaning (codes "Format") (word "leagueIds" "0" ∷ []) rounds_text (position (opened element.Structure at []) (root line with_structure ∷ file_open ∷ []) nothing) last_draft
      (λ to. in_format line at to [] false) refl (omega arith) refl refl (_, refl) (λ to. refl) (λ to. refl) (λ to. from_rounds line at to))

  from_front : Reads instance_meaning (codes "<?xml version=\"1.0\" encoding=\"UTF-8\"?>\n<Instance>\n<Structure>\n<Format leagueIds=\"0\">\n" ++ rounds_text) at_front last_draft
  from_front =
      let body : List ℕ = codes "<Structure>\n<Format leagueIds=\"0\">\n" ++ rounds_text in
      Reads-passed instance_meaning (codes "<?xml version=\"1.0\" encoding=\"UTF-8\"?>") (codes "\n<Instance>\n" ++ body) at_front last_draft (omega arith) (λ line. refl)
      (Reads-newline instance_meaning (codes "<Instance>\n" ++ body) at_front last_draft (_, refl) refl
      (Reads-start_line instance_meaning (codes "Instance") [] body at_front last_draft (λ at. position (root at []) (file_open ∷ []) nothing) refl (omega arith) refl refl (_, refl) (λ at. refl) (λ at. refl) (λ at. from_root at)))

  pub text-read : Reads instance_meaning (instance_text (record { n = n; phased = phased; constraints = constraints })) at_front last_draft
  text-read =
      let whole : instance_text (record { n = n; phased = phased; constraints = constraints }) ≡ codes "<?xml version=\"1.0\" encoding=\"UTF-8\"?>\n<Instance>\n<Structure>\n<Format leagueIds=\"0\">\n" ++ rounds_text = simp append_assoc in
      subst (λ (l : List ℕ). Reads instance_meaning l at_front last_draft) (sym whole) from_front

-- the text of a league is read as this league
pub instance-reads_back : (league : Instance) → IsInstance league → All IsHeld league.constraints → instance_of (pieces (instance_text league)) ≡ Ok league
instance-reads_back league fits held =
    let stand : All (CanStand league.n) league.constraints = λ k d lt. record { held = held k d lt; fits = fits.fit k d lt } in
    ap (λ (r : Result Draft Fault). r >>= λ read. Ok (league_of read)) (text-read league.n league.phased league.constraints fits.teams fits.few stand 1)
