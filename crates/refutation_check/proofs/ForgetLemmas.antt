-- Rows of steps that no later step names: what comes behind them is the same without them.
use Rattle.std.proofs.Common.{◌≡◌, ℕ, List, [], ◌∷◌}
use Rattle.std.proofs.Common.{map, Option, Some, None}
use Rattle.std.proofs.Common.{refl, ap, ◌∙◌}
use Rattle.std.specs.Prelude.{Result, Err, if◌then◌else◌, nat_lt}
use Rattle.std.specs.List.{All, list_any}
use Rattle.std.proofs.lemmas.List.Elements.{All-head, All-tail}
use Rattle.rows.specs.Rows.{Row}
use Rattle.rows.specs.declared.partial.Value.{Value}
use Rattle.rows.specs.Forcing.{with_forced}
use Rattle.rows.specs.Sums.{Totals, is_too_wide, no_totals, plus}
use Rattle.refutation.specs.Steps.{Step}
use Rattle.refutation.specs.Steps.Step.{Clause, Linear}
use Rattle.refutation.specs.Following.{add_parts, add_row, after_row, clause_row, denied, has_opposites, is_in_conflict}
use Rattle.refutation.specs.Following.{judged, replay, row_numbered, row_of, row_unless}
use Rattle.refutation.specs.declared.step.Part.{Part}
use Rattle.refutation.specs.declared.verdict.Cause.{Cause}
use Rattle.refutation.specs.declared.verdict.Cause.TheVariants.{UnknownVariable, TooWide}
use Rattle.refutation_check.specs.Forgotten.{names}

-- ---- a step depends on the rows that it names alone

-- the rows of these numbers are the same in both lists
abbrev SameAt : List Row → List Row → List ℕ → Type 0
SameAt a b numbers = All (λ n. row_numbered a n ≡ row_numbered b n) numbers

rest-same : (row : Option Row) (values : ℕ → Value) (f g : (ℕ → Value) → Option Cause)
    → ((next : ℕ → Value) → f next ≡ g next) → after_row row values f ≡ after_row row values g
rest-same None values f g same = refl
rest-same (Some row) values f g same =
    ap (λ (o : Option Cause). if is_in_conflict values row then None else o) (same (with_forced values row))

replay-same : (a b : List Row) (hints : List ℕ) (values : ℕ → Value) → SameAt a b hints
    → replay a hints values ≡ replay b hints values
replay-same a b [] values all = refl
replay-same a b (hint ∷ hints) values all =
    ap (λ (row : Option Row). after_row row values (replay a hints))
    (All-head (λ n. row_numbered a n ≡ row_numbered b n) hint hints all)
    ∙ rest-same (row_numbered b hint) values (replay a hints) (replay b hints)
    (λ next. replay-same a b hints next (All-tail (λ n. row_numbered a n ≡ row_numbered b n) hint hints all))

added-same : (row : Option Row) (factor : ℕ) (sum : Totals) (f g : Totals → Result Totals Cause)
    → ((next : Totals) → f next ≡ g next) → add_row row factor sum f ≡ add_row row factor sum g
added-same None factor sum f g same = refl
added-same (Some row) factor sum f g same =
    ap (λ (r : Result Totals Cause). if is_too_wide (plus sum factor row) then Err TooWide else r)
    (same (plus sum factor row))

parts-same : (a b : List Row) (parts : List Part) (sum : Totals) → SameAt a b (map (λ p. p.row) parts)
    → add_parts a parts sum ≡ add_parts b parts sum
parts-same a b [] sum all = refl
parts-same a b (part ∷ parts) sum all =
    ap (λ (row : Option Row). add_row row part.factor sum (add_parts a parts))
    (All-head (λ n. row_numbered a n ≡ row_numbered b n) part.row (map (λ p. p.row) parts) all)
    ∙ added-same (row_numbered b part.row) part.factor sum (add_parts a parts) (add_parts b parts)
    (λ next. parts-same a b parts next
    (All-tail (λ n. row_numbered a n ≡ row_numbered b n) part.row (map (λ p. p.row) parts) all))

pub judged-same : (a b : List Row) (vars : ℕ) (step : Step) → SameAt a b (names step)
    → judged a vars step ≡ judged b vars step
judged-same a b vars (Clause clause hints) all =
    ap (λ (later : Option Cause). row_unless
    (if list_any (λ l. nat_lt vars l.var) clause then Some UnknownVariable
    else (if has_opposites clause then None else later)) (clause_row clause))
    (replay-same a b hints (denied clause) all)
judged-same a b vars (Linear parts divisor) all =
    ap (λ (sum : Result Totals Cause). row_of divisor sum) (parts-same a b parts no_totals all)
