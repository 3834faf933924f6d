-- What `explain` and `part` write of the league of ConflictExamples, and what is said of that.
use Rattle.clause_search.proofs.SearchLemmas.{AreNews-none}
use Rattle.std.proofs.Common.{lit<, lit≤, ◌≡◌, ℕ, zero, suc, ◌<◌, ◌≤◌, ◌∙◌, ◌⊎◌, true, List, [], ◌∷◌, ◌++◌, length}
use Rattle.std.proofs.Common.{◌+◌, get_or, map, Option, Some, None, Ok, Result, codes, bytes_eq, if◌then◌else◌, IsTrue}
use Rattle.std.proofs.Common.{ap, ap₂, subst, sym, refl, arith, inl, inr}
use Rattle.std.proofs.lemmas.List.Elements.{All-append, All-from_recursion, All-nil}
use Rattle.std.specs.Fmt.{digits}
use Rattle.std.specs.List.{All}
use Rattle.std.specs.Ordering.{nat_cmp}
use Rattle.std.specs.declared.cmp.Ordering.TheVariants.{Less, Equal}
use Rattle.example_runs.proofs.Runs.{ended_with, store_of, written_between}
use Rattle.robin_run.specs.Run.{Writes}
use Rattle.league.specs.Accepted.{IsAccepted}
use Rattle.league.specs.Counts.{counts_of}
use Rattle.league.specs.Instance.{Instance, IsInstance, class_fits}
use Rattle.league.specs.Sets.{IsAscending}
use Rattle.league.specs.declared.class.Class.TheVariants.{Br2, Ca1}
use Rattle.league.specs.declared.class.Constraint.{Constraint}
use Rattle.league.specs.declared.class.Side.TheVariants.{H}
use Rattle.league.specs.declared.game.Game.{Game}
use Rattle.league.proofs.AcceptedLemmas.{MeetsHard-from_sum, sum-from_MeetsHard}
use Rattle.league.proofs.AscendingLemmas.{IsAscending-ascends}
use Rattle.rows.specs.Cardinality.{at_least}
use Rattle.rows.specs.Literals.{no}
use Rattle.rows.specs.Partials.{IsQuietRow, value_of}
use Rattle.rows.specs.Rows.{Row}
use Rattle.rows.specs.declared.lit.Term.{Term}
use Rattle.rows.specs.declared.partial.Value.TheVariants.{Free}
use Rattle.encoding.specs.Encoding.{encoding_size}
use Rattle.circle_method.specs.Circle.{double_games}
use Rattle.robinx.specs.Pieces.{pieces, pieces_from}
use Rattle.robinx.specs.Tags.{attributes_at}
use Rattle.robinx.specs.InstanceFile.{instance_of}
use Rattle.robinx.specs.SolutionFile.{solution_of}
use Rattle.robinx.specs.Texts.{instance_text, solution_text}
use Rattle.robinx.specs.Walk.{Fault, walk}
use Rattle.robinx.specs.declared.instance.TheConstants.{INSTANCE_LIMIT}
use Rattle.answers.specs.Reply.{Answer}
use Rattle.answers.specs.Stages.{IsFile}
use Rattle.answers.specs.declared.status.Status.{Status}
use Rattle.answers.specs.declared.status.Status.TheVariants.{Yes, File, Refuted, Spent}
use Rattle.refutation.specs.Following.{all_free}
use Rattle.refutation.specs.Logs.{lines_from, log_of}
use Rattle.refutation.specs.Steps.Step.{Clause}
use Rattle.refutation.specs.Texts.{log_text}
use Rattle.clause_search.specs.News.{IsTidy}
use Rattle.decoding.specs.Excluded.{NoneAccepted}
use Rattle.decoding.proofs.SeasonLemmas.{accepted_logs_exclude}
use Rattle.explain.specs.Parts.{first_unknown, is_hard_number, part_of}
use Rattle.solve.specs.Solutions.{IsSpentOn}
use Rattle.league_search.proofs.FoundLemmas.{plain_spent}
use Rattle.explain.specs.Conflicts.{IsIrreducible}
use Rattle.explain.specs.declared.cases.Case.TheVariants.{Without, Undecided}
use Rattle.command_explain.specs.Explained.{IsBudgetSpent, IsFound, IsMet, IsNamed, explained as explains}
use Rattle.command_explain.specs.Parted.{IsPart, part_answer, parted}
use Rattle.command_explain.specs.Texts.{IsWritableCase, ReadsBack, conflict_text, members_line}
use Rattle.robin_run.specs.Explain.{IsContradiction}
use Rattle.robin_run.specs.Readable.{IsReadable}
use Rattle.example_runs.proofs.SolveExamples.{false_true, hard, home}
use Rattle.example_runs.proofs.SolveExamples.{out, pair_row, quiet_pairs}
use Rattle.example_runs.proofs.SolveExamples.{season_pairs, text, writable-none}
use Rattle.example_runs.proofs.ConflictExamples.{alone, apart, cases, conflict-both, conflict-open}
use Rattle.example_runs.proofs.ConflictExamples.{decided-both, decided-open, irreducible-both, irreducible-more}
use Rattle.example_runs.proofs.ConflictExamples.{league, log, members, none-apart, none-both, none-more, phased}
use Rattle.example_runs.proofs.ConflictExamples.{season-out, season_mild, some_left, stays, wish}
use Rattle.example_runs.proofs.ConflictExamples.{writable-alone}

-- ---- what is written of the conflict

abbrev games_home : List ℕ
games_home = text (
    "<?xml version=\"1.0\" encoding=\"UTF-8\"?>"
    ∷ "<Solution>"
    ∷ "<Games>"
    ∷ "<ScheduledMatch home=\"1\" away=\"0\" slot=\"0\"/>"
    ∷ "<ScheduledMatch home=\"0\" away=\"1\" slot=\"1\"/>"
    ∷ "</Games>"
    ∷ "</Solution>"
    ∷ []
    )

abbrev games_out : List ℕ
games_out = text (
    "<?xml version=\"1.0\" encoding=\"UTF-8\"?>"
    ∷ "<Solution>"
    ∷ "<Games>"
    ∷ "<ScheduledMatch home=\"0\" away=\"1\" slot=\"0\"/>"
    ∷ "<ScheduledMatch home=\"1\" away=\"0\" slot=\"1\"/>"
    ∷ "</Games>"
    ∷ "</Solution>"
    ∷ []
    )

abbrev later : List ℕ
later = codes "refutation 1\n0 31 32 20 24 0\nend\nwithout 2\n" ++ (games_home ++ (codes "without 4\n" ++ games_out))

abbrev written : List ℕ
written = codes "conflict 2 4\nminimal yes\n" ++ later

pub text-both : conflict_text members log cases ≡ written
unfolding digits
text-both = refl

-- the first line names 2 and 4, and both are needed
line-both : written ≡ members_line members ++ (codes "minimal yes\n" ++ later)
unfolding digits
line-both = refl

pub contradiction-both : IsContradiction league (written_between (Some []) (Some written))
contradiction-both = record {
  members = members;
  rest = codes "minimal yes\n" ++ later;
  some = lit< tt;
  ascending = IsAscending-ascends nat_cmp members refl;
  hard = All-from_recursion (λ (k : ℕ). is_hard_number league.constraints k ≡ true) members (refl, (refl, tt));
  written = line-both;
  infeasible = none-both;
  minimal = λ more is. irreducible-both;
}

-- the log, and both seasons, read back
log_written : log_text log ≡ codes "refutation 1\n0 31 32 20 24 0\nend\n"
unfolding digits
log_written = refl

log_read : log_of (codes "refutation 1\n0 31 32 20 24 0\nend\n") ≡ Ok log
unfolding lines_from
log_read = refl

home_written : solution_text home None ≡ games_home
unfolding digits
home_written = refl

home_read : solution_of 2 (pieces games_home) ≡ Ok home
unfolding attributes_at pieces_from walk
home_read = refl

out_written : solution_text out None ≡ games_out
unfolding digits
out_written = refl

out_read : solution_of 2 (pieces games_out) ≡ Ok out
unfolding attributes_at pieces_from walk
out_read = refl

abbrev said_by : List ℕ → Result (List Game) Fault
said_by bytes = solution_of 2 (pieces bytes)

pub log_reads_back-both : log_of (log_text log) ≡ Ok log
log_reads_back-both = ap (λ (bytes : List ℕ). log_of bytes) log_written ∙ log_read

pub cases_read_back-both : All (ReadsBack 2) cases
cases_read_back-both =
    All-from_recursion (ReadsBack 2) cases (ap said_by home_written ∙ home_read, (ap said_by out_written ∙ out_read, tt))

-- all that is written behind the two numbers reads back
pub readable-both : IsReadable league None ⊥ (written_between (Some []) (Some written))
readable-both = record {
  members = members;
  log = log;
  cases = cases;
  written = sym text-both;
  log_reads_back = log_reads_back-both;
  accepted = (conflict-both None ⊥).refuted.accepted;
  each = (conflict-both None ⊥).each;
  cases_read_back = cases_read_back-both;
}

-- with constraint 3 too, of which nothing is said but that not all are known to be needed: behind text that stood there
line-more : codes "..conflict 2 3 4\nminimal no\n"
    ≡ codes ".." ++ (members_line (2 ∷ 3 ∷ 4 ∷ []) ++ codes "minimal no\n")
unfolding digits
line-more = refl

letters_differ : ◌≡◌ {A = ℕ} 110 121 → ⊥
letters_differ is = omega (arith, is)

no_yes : (more : List ℕ) → codes "minimal no\n" ≡ codes "minimal yes\n" ++ more → ⊥
no_yes more is = letters_differ (ap (λ (bytes : List ℕ). get_or bytes 8 0) is)

pub contradiction-more : IsContradiction league (written_between (Some (codes "..")) (Some (codes "..conflict 2 3 4\nminimal no\n")))
contradiction-more = record {
  members = 2 ∷ 3 ∷ 4 ∷ [];
  rest = codes "minimal no\n";
  some = lit< tt;
  ascending = IsAscending-ascends nat_cmp (2 ∷ 3 ∷ 4 ∷ []) refl;
  hard = All-from_recursion (λ (k : ℕ). is_hard_number league.constraints k ≡ true) (2 ∷ 3 ∷ 4 ∷ [])
      (refl, (refl, (refl, tt)));
  written = line-more;
  infeasible = none-more;
  minimal = λ more is. absurd (no_yes more is);
}

-- a conflict of which not all members are known to be needed may not be said with `minimal yes`
pub contradiction-claimed : (old new : Option (List ℕ)) → (is : IsContradiction league (written_between old new))
    → is.members ≡ 2 ∷ 3 ∷ 4 ∷ [] → is.rest ≡ codes "minimal yes\n" → ⊥
contradiction-claimed old new is named rest =
    irreducible-more (subst (λ (ks : List ℕ). IsIrreducible league ks) named (is.minimal [] rest))

-- a text that begins otherwise is none
others_first : ◌≡◌ {A = ℕ} 97 99 → ⊥
others_first is = omega (arith, is)

pub contradiction-other : IsContradiction league (written_between (Some []) (Some (codes "accepted steps 1\n"))) → ⊥
contradiction-other is = others_first (ap (λ (bytes : List ℕ). get_or bytes 0 0) is.written)

-- there is no conflict in a league of wishes
no_demand : (k : ℕ) → is_hard_number (wish ∷ []) k ≡ true → ⊥
no_demand zero is = false_true is
no_demand (suc zero) is = false_true is
no_demand (suc (suc k)) is = false_true is

pub contradiction-wishes : (old new : Option (List ℕ)) → IsContradiction (phased (wish ∷ [])) (written_between old new) → ⊥
contradiction-wishes old new is = no_demand (get_or is.members 0 0) (is.hard 0 0 is.some)

-- there is no conflict in a league of constraint 2 alone, which accepts `out`
abbrev staying : Instance
staying = phased (stays ∷ [])

only_one : (k : ℕ) → is_hard_number staying.constraints k ≡ true → k ≡ 1
only_one zero is = absurd (false_true is)
only_one (suc zero) is = refl
only_one (suc (suc k)) is = absurd (false_true is)

equal_less : Equal ≡ Less → ⊥
equal_less is = cc

ascends_twice : (j k : ℕ) → j ≡ 1 → k ≡ 1 → nat_cmp j k ≡ Less → ⊥
ascends_twice j k first second less = equal_less (sym (ap₂ nat_cmp first second) ∙ less)

accepted_staying : IsAccepted staying (counts_of out)
accepted_staying = season-out.accepted

none_contradicts : (ks : List ℕ) → 0 < length ks → IsAscending nat_cmp ks
    → All (λ k. is_hard_number staying.constraints k ≡ true) ks → NoneAccepted (part_of staying ks) → ⊥
none_contradicts [] some ascending hard none = omega (arith, some)
none_contradicts (k ∷ []) some ascending hard none =
    subst (λ (j : ℕ). NoneAccepted (part_of staying (j ∷ []))) (only_one k (hard 0 0 (lit< tt))) none out
    accepted_staying
none_contradicts (j ∷ k ∷ ks) some ascending hard none =
    ascends_twice j k (only_one j (hard 0 0 (omega arith))) (only_one k (hard 1 0 (omega arith)))
    (ascending 0 1 0 (omega arith) (omega arith))

pub contradiction-staying : (old new : Option (List ℕ)) → IsContradiction staying (written_between old new) → ⊥
contradiction-staying old new is = none_contradicts is.members is.some is.ascending is.hard is.infeasible

-- ---- `part`: the league of 2 and 4 is written, and reads back as it

abbrev part_text : List ℕ
part_text = text (
    "<?xml version=\"1.0\" encoding=\"UTF-8\"?>"
    ∷ "<Instance>"
    ∷ "<Structure>"
    ∷ "<Format leagueIds=\"0\">"
    ∷ "<numberRoundRobin>2</numberRoundRobin>"
    ∷ "<compactness>C</compactness>"
    ∷ "<gameMode>P</gameMode>"
    ∷ "</Format>"
    ∷ "</Structure>"
    ∷ "<Resources>"
    ∷ "<Teams>"
    ∷ "<team id=\"0\"/>"
    ∷ "<team id=\"1\"/>"
    ∷ "</Teams>"
    ∷ "<Slots>"
    ∷ "<slot id=\"0\"/>"
    ∷ "<slot id=\"1\"/>"
    ∷ "</Slots>"
    ∷ "</Resources>"
    ∷ "<Constraints>"
    ∷ "<CapacityConstraints>"
    ∷ "<CA1 teams=\"0\" min=\"0\" max=\"0\" mode=\"A\" slots=\"0\" type=\"HARD\" penalty=\"1\"/>"
    ∷ "<CA2 teams1=\"1\" teams2=\"0\" min=\"1\" max=\"1\" mode1=\"H\" mode2=\"GLOBAL\" slots=\"0\" type=\"HARD\" penalty=\"1\"/>"
    ∷ "</CapacityConstraints>"
    ∷ "</Constraints>"
    ∷ "</Instance>"
    ∷ []
    )

part_written : instance_text (part_of league members) ≡ part_text
unfolding digits
part_written = refl

part_read : instance_of (pieces part_text) ≡ Ok (part_of league members)
unfolding attributes_at pieces_from walk
part_read = refl

abbrev yes_with : List ℕ → Answer
yes_with bytes = record { status = Yes; text = bytes }

part_is : yes_with part_text ≡ part_answer league members (first_unknown league members)
part_is = ap yes_with (sym part_written)

pub part-both : IsPart league members (yes_with part_text)
part-both = record { is = part_is; reads_back = λ yes. part_read }

-- 1 is a wish's number, and 5 and 0 are none's: the first of them is refused
abbrev refused_reply : Answer
refused_reply = record { status = File; text = codes "refused constraint 5 Unknown\n" }

refused_is : refused_reply ≡ part_answer league (2 ∷ 5 ∷ 1 ∷ 0 ∷ []) (first_unknown league (2 ∷ 5 ∷ 1 ∷ 0 ∷ []))
unfolding digits
refused_is = refl

file_yes : File ≡ Yes → ⊥
file_yes is = cc

pub part-unknown : IsPart league (2 ∷ 5 ∷ 1 ∷ 0 ∷ []) refused_reply
part-unknown = record { is = refused_is; reads_back = λ yes. absurd (file_yes yes) }

-- where each is a demand's number, none is refused
pub part-refused : IsPart league members refused_reply → ⊥
part-refused is = file_yes (ap (λ (a : Answer). a.status) is.is)

pub parted-both : Writes (ended_with Yes (Some (codes "..")) (Some (codes ".." ++ part_text))) (IsPart league members)
parted-both = record { answer = yes_with part_text; of_kind = part-both; ended = refl; written = refl }

-- another end, or text that is lost where it was known before, isn't what is answered
pub parted-file : Writes (ended_with File (Some []) (Some part_text)) (IsPart league members) → ⊥
parted-file is = file_yes (is.ended ∙ ap (λ (a : Answer). a.status) is.of_kind.is)

pub parted-lost : (ended : Status) → Writes (ended_with ended (Some []) None) (IsPart league members) → ⊥
parted-lost ended is = is.written

-- ---- cases that can be written

pub writable-cases : IsWritableCase (Without home) × IsWritableCase (Undecided alone)
writable-cases = (tt, writable-alone)

none_named : 1 ≤ 0 → ⊥
none_named is = omega (arith, is)

pub writable-no_row : IsWritableCase (Undecided (Clause [] (0 ∷ []) ∷ [])) → ⊥
writable-no_row is = none_named (is.named 0 (Clause [] []) (lit< tt) 0 0 (lit< tt))

-- ---- `explain`

-- team 0 at home first, at 3, with its score
abbrev scored : List ℕ
scored = text (
    "<?xml version=\"1.0\" encoding=\"UTF-8\"?>"
    ∷ "<Solution>"
    ∷ "<MetaData>"
    ∷ "<ObjectiveValue infeasibility=\"0\" objective=\"3\"/>"
    ∷ "</MetaData>"
    ∷ "<Games>"
    ∷ "<ScheduledMatch home=\"0\" away=\"1\" slot=\"0\"/>"
    ∷ "<ScheduledMatch home=\"1\" away=\"0\" slot=\"1\"/>"
    ∷ "</Games>"
    ∷ "</Solution>"
    ∷ []
    )

scored_is : scored ≡ solution_text out (Some (0, 3))
unfolding digits
scored_is = refl

scored_read : solution_of 2 (pieces scored) ≡ Ok out
unfolding attributes_at pieces_from walk
scored_read = refl

pub met-out : IsMet (phased (wish ∷ [])) (yes_with scored)
met-out = record { games = out; season = season_mild; status = refl; text = scored_is; reads_back = scored_read }

yes_refuted : Yes ≡ Refuted → ⊥
yes_refuted is = cc

yes_spent : Yes ≡ Spent → ⊥
yes_spent is = cc

-- the league has no hard CA1, so that its venue counts are neither short nor crowded, and its two teams need no break
pub found-met : (conflicts : Option ℕ) (may_stop : Type 0) → IsFound (phased (wish ∷ [])) conflicts may_stop (yes_with scored)
found-met conflicts may_stop = record {
  found = inl met-out;
  ample = λ never ample is. yes_spent is;
  circle = λ accepted. refl;
  short = λ short. absurd (false_true short);
  crowded = λ crowded. absurd (false_true crowded);
  few = λ few. absurd (false_true few);
}

abbrev named_reply : Answer
named_reply = record { status = Refuted; text = written }

pub named-both : (conflicts : Option ℕ) (may_stop : Type 0) → IsNamed league conflicts may_stop named_reply
named-both conflicts may_stop = record {
  members = members;
  log = log;
  cases = cases;
  conflict = conflict-both conflicts may_stop;
  irreducible = λ decided. irreducible-both;
  decided = λ never ample. decided-both;
  status = refl;
  text = sym text-both;
  log_reads_back = log_reads_back-both;
  cases_read_back = cases_read_back-both;
}

refuted_spent : Refuted ≡ Spent → ⊥
refuted_spent is = cc

-- the circle's season is `home`, in which team 0 is away in slot 0
pub circle-two : double_games 2 ≡ home
circle-two = refl

refuses_circle : IsAccepted league (counts_of (double_games 2)) → ⊥
refuses_circle accepted = some_left (sum-from_MeetsHard league (counts_of home) accepted.hard)

pub found-named : (conflicts : Option ℕ) (may_stop : Type 0) → IsFound league conflicts may_stop named_reply
found-named conflicts may_stop = record {
  found = inr (inl (named-both conflicts may_stop));
  ample = λ never ample is. refuted_spent is;
  circle = λ accepted. absurd (refuses_circle accepted);
  short = λ short. refl;
  crowded = λ crowded. refl;
  few = λ few. refl;
}

-- the conflict of one demand, of which a limit leaves the case open: text and all
abbrev open_reply : Answer
open_reply = record {
  status = Refuted;
  text =
      codes "conflict 1\nminimal no\nrefutation 1\n-1 0 29 3 0\n0 30 1 29 3 0\nend\nundecided 1\nrefutation 1\nend\n";
}

open_text : open_reply.text ≡ conflict_text (1 ∷ []) alone (Undecided [] ∷ [])
unfolding digits
open_text = refl

below_ample : 6561 ≤ 0 → ⊥
below_ample few = omega (arith, few)

alone_written : log_text alone ≡ codes "refutation 1\n-1 0 29 3 0\n0 30 1 29 3 0\nend\n"
unfolding digits
alone_written = refl

alone_read : log_of (codes "refutation 1\n-1 0 29 3 0\n0 30 1 29 3 0\nend\n") ≡ Ok alone
unfolding lines_from
alone_read = refl

open_read : log_of (log_text []) ≡ Ok []
unfolding lines_from digits
open_read = refl

pub named-open : IsNamed apart (Some 0) ⊥ open_reply
named-open = record {
  members = 1 ∷ [];
  log = alone;
  cases = Undecided [] ∷ [];
  conflict = conflict-open;
  irreducible = λ decided. absurd (decided-open decided);
  decided = λ never ample. absurd (below_ample ample);
  status = refl;
  text = open_text;
  log_reads_back = ap (λ (bytes : List ℕ). log_of bytes) alone_written ∙ alone_read;
  cases_read_back = All-from_recursion (ReadsBack 2) (Undecided [] ∷ []) (open_read, tt);
}

-- where the league accepts the circle's season, a conflict isn't found
accepted_circle : IsAccepted (phased (wish ∷ [])) (counts_of (double_games 2))
accepted_circle = record {
  round_robin = record { pairs = refl; cells = refl; phases = refl };
  hard = MeetsHard-from_sum (phased (wish ∷ [])) (counts_of home) refl;
}

pub found-not_named : (conflicts : Option ℕ) (may_stop : Type 0) → IsFound (phased (wish ∷ [])) conflicts may_stop named_reply → ⊥
found-not_named conflicts may_stop is = yes_refuted (sym (is.circle accepted_circle))

-- in a league of wishes no demands are named
pub named-wishes : (conflicts : Option ℕ) (may_stop : Type 0) (answer : Answer)
    → IsNamed (phased (wish ∷ [])) conflicts may_stop answer → ⊥
named-wishes conflicts may_stop answer is = no_demand (get_or is.members 0 0) (is.conflict.hard 0 0 is.conflict.some)

-- where neither team is to be at home in slot 0, or both are, a conflict is found: the venue counts tell
abbrev deserted : Instance
deserted = phased (hard (Ca1 (0 ∷ 1 ∷ []) 0 0 H (0 ∷ [])) ∷ [])

abbrev crowded : Instance
crowded = phased (hard (Ca1 (0 ∷ 1 ∷ []) 1 1 H (0 ∷ [])) ∷ [])

spent_refuted : Spent ≡ Refuted → ⊥
spent_refuted is = cc

abbrev open_log : Answer
open_log = record { status = Spent; text = codes "refutation 1\nend\n" }

pub found-short : (conflicts : Option ℕ) (may_stop : Type 0) → IsFound deserted conflicts may_stop open_log → ⊥
found-short conflicts may_stop is = spent_refuted (is.short refl)

pub found-crowded : (conflicts : Option ℕ) (may_stop : Type 0) → IsFound crowded conflicts may_stop open_log → ⊥
found-crowded conflicts may_stop is = spent_refuted (is.crowded refl)

-- where four teams may have three breaks, one less than they need in both halves, the break counts tell
abbrev three_breaks : Instance
three_breaks = record {
  n = 4;
  phased = true;
  constraints = record {
    hard = true;
    penalty = 1;
    class = Br2 (0 ∷ 1 ∷ 2 ∷ 3 ∷ []) 3 (0 ∷ 1 ∷ 2 ∷ 3 ∷ 4 ∷ 5 ∷ []);
  } ∷ [];
}

pub found-few : (conflicts : Option ℕ) (may_stop : Type 0) → IsFound three_breaks conflicts may_stop open_log → ⊥
found-few conflicts may_stop is = spent_refuted (is.few refl)

-- of a slot between their games they don't tell, and at the limit 0 the search learns nothing: over the row that allows
-- one of four games, and the others, propagation stands still
abbrev one_game : Row
one_game = at_least 3 (no 1 ∷ no 2 ∷ no 3 ∷ no 4 ∷ [])

quiet_apart : IsQuietRow all_free one_game
quiet_apart = record {
  no_conflict = lit≤ tt;
  none_forced = All-from_recursion (λ (t : Term). value_of all_free t.lit ≡ Free → 3 + t.coef ≤ 4) one_game.terms
      (λ free. lit≤ tt, (λ free. lit≤ tt, (λ free. lit≤ tt, (λ free. lit≤ tt, tt))));
}

spent_apart : IsSpentOn apart (Some 0) []
spent_apart =
    plain_spent apart (Some 0) [] writable-none (record {
      limited = refl;
      spent = record {
        count = refl;
        news = AreNews-none _ _;
        quiet = (
          all_free,
          All-append (IsQuietRow all_free) (map pair_row season_pairs) (one_game ∷ []) (quiet_pairs season_pairs)
              (All-from_recursion (IsQuietRow all_free) (one_game ∷ []) (quiet_apart, tt)),
        );
      };
      few = lit< tt;
      tidy = All-nil (IsTidy 8);
    })

open_log_read : log_of open_log.text ≡ Ok []
unfolding lines_from
open_log_read = refl

-- a log that is spent so is what is found, though `apart` is a conflict, which needs more steps
pub spent-apart : IsBudgetSpent apart (Some 0) ⊥ open_log
spent-apart = record {
  steps = [];
  spent = record { kept = Some 0; is_kept = inl refl; spent = spent_apart };
  status = refl;
  text = refl;
  reads_back = open_log_read;
}

-- without a limit it is so only where the run may be stopped, which kept to none then
pub spent-stopped : IsBudgetSpent apart None (Unit {0}) open_log
spent-stopped = record {
  steps = [];
  spent = record { kept = Some 0; is_kept = inr (tt, (0, refl, tt)); spent = spent_apart };
  status = refl;
  text = refl;
  reads_back = open_log_read;
}

pub found-open : IsFound apart (Some 0) ⊥ open_log
found-open = record {
  found = inr (inr spent-apart);
  ample = λ never ample is. below_ample ample;
  circle = λ accepted. absurd (none-apart home accepted);
  short = λ short. absurd (false_true short);
  crowded = λ crowded. absurd (false_true crowded);
  few = λ few. absurd (false_true few);
}

-- with an ample limit it isn't, where nothing may stop the run
pub found-ample : (IsFound apart None ⊥ open_log → ⊥) × (IsFound apart (Some 6561) ⊥ open_log → ⊥)
found-ample = (λ is. is.ample (λ never. never) tt refl, λ is. is.ample (λ never. never) (lit≤ tt) refl)

pub explained-both : Writes (ended_with Refuted (Some []) (Some written)) (IsFound league None ⊥)
explained-both = record { answer = named_reply; of_kind = found-named None ⊥; ended = refl; written = refl }

-- of a league that accepts no season, `explain` doesn't end with yes
whole_instance : IsInstance league
whole_instance = record {
  teams = record { even = refl; at_least = omega arith; at_most = omega arith };
  few = omega arith;
  fit = All-from_recursion (λ (c : Constraint). IsTrue (class_fits 2 c.class)) league.constraints
      (refl, (refl, (refl, (refl, tt))));
}

none-whole : NoneAccepted league
none-whole = accepted_logs_exclude league (Clause [] (31 ∷ 36 ∷ 20 ∷ 24 ∷ []) ∷ []) whole_instance refl

never_met : (conflicts : Option ℕ) (may_stop : Type 0) (answer : Answer) → Yes ≡ answer.status
    → IsMet league answer ⊎ (IsNamed league conflicts may_stop answer ⊎ IsBudgetSpent league conflicts may_stop answer) → ⊥
never_met conflicts may_stop answer ends (inl met) = none-whole met.games met.season.accepted
never_met conflicts may_stop answer ends (inr (inl named)) = yes_refuted (ends ∙ named.status)
never_met conflicts may_stop answer ends (inr (inr spent)) = yes_spent (ends ∙ spent.status)

pub explained-yes : (limit : Option ℕ) (may_stop : Type 0) (old new : Option (List ℕ))
    → Writes (ended_with Yes old new) (IsFound league limit may_stop) → ⊥
explained-yes limit may_stop old new is = never_met limit may_stop is.answer is.ended is.of_kind.found

-- ---- the stages of `part` and `explain`, where the league's file is known: these are answers that they may give

abbrev league_file : List ℕ
league_file = text (
    "<Instance>"
    ∷ "<Structure>"
    ∷ "<Format><numberRoundRobin>2</numberRoundRobin><compactness>C</compactness><gameMode>P</gameMode></Format>"
    ∷ "</Structure>"
    ∷ "<Resources>"
    ∷ "<Teams><team id=\"0\"/><team id=\"1\"/></Teams>"
    ∷ "<Slots><slot id=\"0\"/><slot id=\"1\"/></Slots>"
    ∷ "</Resources>"
    ∷ "<Constraints>"
    ∷ "<FairnessConstraints>"
    ∷ "<FA2 teams=\"0;1\" intp=\"0\" mode=\"H\" slots=\"0\" type=\"SOFT\" penalty=\"3\"/>"
    ∷ "</FairnessConstraints>"
    ∷ "<CapacityConstraints>"
    ∷ "<CA1 teams=\"0\" max=\"0\" mode=\"A\" slots=\"0\" type=\"HARD\" penalty=\"1\"/>"
    ∷ "<CA1 teams=\"0;1\" min=\"1\" max=\"1\" mode=\"H\" slots=\"0;1\" type=\"HARD\" penalty=\"1\"/>"
    ∷ "<CA2 teams1=\"1\" teams2=\"0\" min=\"1\" max=\"1\" mode1=\"H\" mode2=\"GLOBAL\" slots=\"0\" type=\"HARD\" penalty=\"1\"/>"
    ∷ "</CapacityConstraints>"
    ∷ "</Constraints>"
    ∷ "</Instance>"
    ∷ []
    )

abbrev contents : List ℕ → Option (List ℕ)
contents name = if bytes_eq name (codes "league") then Some league_file else None

abbrev never : ℕ → Type 0
never n = ⊥

abbrev nowhere : List ℕ → Type 0
nowhere name = ⊥

whole_file : IsFile (contents (codes "league")) INSTANCE_LIMIT league_file
whole_file = record { same = refl; within = omega arith }

pub parted-stages : parted (store_of contents nowhere) (codes "league") members (yes_with part_text)
unfolding attributes_at pieces_from walk
parted-stages = inl (league_file, whole_file, part-both)

-- 60 terms of the season in phases, 2 of constraints 2 and 4, and 8 of 3
sizes : encoding_size league ≡ 70
sizes = refl

small : encoding_size league ≤ 40000000
small = omega (arith, sizes)

pub explained-stages : (conflicts : Option ℕ) (may_stop : Type 0)
    → explains (store_of contents nowhere) (codes "league") conflicts may_stop named_reply
unfolding attributes_at pieces_from walk
explained-stages conflicts may_stop = inl (league_file, whole_file, inl (small, found-named conflicts may_stop))
