-- How long the line of a tidy clause step is.
use Rattle.std.proofs.Common.{◌≡◌, ◌≢◌, ℕ, ◌+◌, ◌*◌, ◌<◌, ◌≤◌, ◌^◌, Bool, true, false, List, ◌++◌}
use Rattle.std.proofs.Common.{length, get_or, map, arith, decimal, length-append}
use Rattle.std.specs.Prelude.{codes}
use Rattle.std.specs.List.{All, AllPairs, flat_map, sum_by}
use Rattle.std.proofs.lemmas.Bool.Decides.{Decides-eqb}
use Rattle.std.proofs.lemmas.Fmt.{length-decimal-le}
use Rattle.std.proofs.lemmas.List.{length-map}
use Rattle.std.proofs.lemmas.List.Concat.{length-flat_map}
use Rattle.std.proofs.lemmas.List.Elements.{All-map}
use Rattle.std.proofs.lemmas.List.Sums.{sum_by-le}
use Rattle.std.proofs.lemmas.Map.Made.{IsDistinct-from_AllPairs}
use Rattle.std.proofs.lemmas.Map.Steps.{length-le_from_distinct_below}
use Rattle.rows.specs.Literals.{Literal}
use Rattle.rows.proofs.UnitLemmas.{AllPairs-map}
use Rattle.refutation.specs.Logs.{most_bytes}
use Rattle.refutation.specs.Steps.{NamesRows, Step, is_linear}
use Rattle.refutation.specs.Steps.Step.{Clause, Linear}
use Rattle.refutation.specs.Texts.{clause_mark, clause_text, literal_text, literal_token, number_text, sign_text}
use Rattle.refutation.specs.Texts.{step_text, version_of}
use Rattle.refutation.specs.Writable.{HasShortLines}
use Rattle.refutation.specs.declared.version.Version.{Version}
use Rattle.refutation.specs.declared.version.Version.TheVariants.{One, Two}
use Rattle.clause_search.specs.News.{IsTidy}
use Rattle.clause_search.proofs.CountLemmas.{any_below}

-- ---- tokens

sign_short : (sign : Bool) → length (sign_text sign) ≤ 1
sign_short true = omega arith
sign_short false = omega arith

literal_short : (l : Literal) → l.var ≤ 130960 → length (literal_text l) ≤ 8
literal_short l known =
    omega (
      arith,
      length-append (literal_token l) (codes " "),
      length-append (sign_text l.positive) (decimal l.var),
      sign_short l.positive,
      length-decimal-le 6 l.var (omega arith) (omega (arith, known)) (omega (arith, known)),
    )

number_short : (n : ℕ) → n < 2 ^ 64 → length (number_text n) ≤ 21
number_short n small =
    omega (
      arith,
      length-append (decimal n) (codes " "),
      length-decimal-le 20 n (omega arith) (omega (arith, small)) small,
    )

-- ---- a clause of different variables

abbrev vars_of : List Literal → List ℕ
vars_of clause = map (λ l. l.var) clause

-- literals of different variables are no more than there are variables, and 0
clause_short : (vars : ℕ) (clause : List Literal) → AllPairs (λ l m. l.var ≢ m.var) clause
    → All (λ l. l.var ≤ vars) clause → length clause ≤ vars + 1
clause_short vars clause differ known =
    let below : All (λ v. v < vars + 1) (vars_of clause) =
    All-map (λ (v : ℕ). v < vars + 1) (λ (l : Literal). l.var) clause
    (λ k d within. omega (arith, known k d within)) in
    omega (
      arith,
      length-le_from_distinct_below (vars_of clause) (vars + 1)
          (IsDistinct-from_AllPairs Decides-eqb (vars_of clause)
          (AllPairs-map (λ (x y : ℕ). x ≢ y) (λ (l : Literal). l.var) clause differ))
          (any_below (vars + 1) (vars_of clause) below),
      length-map clause (λ (l : Literal). l.var),
    )

-- ---- a line

mark_short : (version : Version) → length (clause_mark version) ≤ 2
mark_short One = omega arith
mark_short Two = omega arith

text_short : (version : Version) (clause : List Literal) (hints : List ℕ) → All (λ l. l.var ≤ 130960) clause
    → All (λ hint. hint < 2 ^ 64) hints → length clause ≤ 130961 → length hints ≤ 130961
    → length (step_text version (Clause clause hints)) ≤ most_bytes
text_short version clause hints known small few_lits few_hints =
    let lits : sum_by (λ l. length (literal_text l)) clause ≤ length clause * 8 =
    sum_by-le (λ l. length (literal_text l)) 8 clause
    (λ k d within. literal_short (get_or clause k d) (known k d within)) in
    let numbers : sum_by (λ n. length (number_text n)) hints ≤ length hints * 21 =
    sum_by-le (λ n. length (number_text n)) 21 hints
    (λ k d within. number_short (get_or hints k d) (small k d within)) in
    omega (
      arith,
      length-append (clause_mark version) (clause_text clause hints),
      mark_short version,
      length-append (flat_map literal_text clause) (codes "0 " ++ (flat_map number_text hints ++ codes "0")),
      length-append (codes "0 ") (flat_map number_text hints ++ codes "0"),
      length-append (flat_map number_text hints) (codes "0"),
      length-flat_map literal_text clause,
      length-flat_map number_text hints,
      lits,
      numbers,
      few_lits,
      few_hints,
    )

pub step_short : (version : Version) (vars : ℕ) (step : Step) → vars ≤ 130960 → IsTidy vars step
    → is_linear step ≡ false → length (step_text version step) ≤ most_bytes
step_short version vars (Clause clause hints) most tidy kind =
    text_short version clause hints (λ k d within. omega (arith, tidy.known k d within, most)) tidy.small
    (omega (arith, clause_short vars clause tidy.variables tidy.known, most)) (omega (arith, tidy.few, most))
step_short version vars (Linear parts divisor) most tidy kind = cc

pub step_named : (vars : ℕ) (step : Step) → IsTidy vars step → is_linear step ≡ false → NamesRows step
step_named vars (Clause clause hints) tidy kind = tidy.named
step_named vars (Linear parts divisor) tidy kind = cc

-- ---- a log

pub all_named : (steps : List Step) → All (IsTidy 130960) steps → All (λ step. is_linear step ≡ false) steps
    → All NamesRows steps
all_named steps tidy clauses = λ k d within.
    step_named 130960 (get_or steps k d) (tidy k d within) (clauses k d within)

pub all_short : (steps : List Step) → All (IsTidy 130960) steps → All (λ step. is_linear step ≡ false) steps
    → HasShortLines steps
all_short steps tidy clauses = λ k d within.
    step_short (version_of steps) 130960 (get_or steps k d) (omega arith) (tidy k d within) (clauses k d within)
