-- Rows that sums give, worked out by hand.
use Rattle.std.proofs.Common.{◌≡◌, ℕ, true, false, List, [], ◌∷◌, ◌++◌, Result, Ok, Err, refl, lit<}
use Rattle.std.specs.List.{All}
use Rattle.std.proofs.lemmas.List.Elements.{All-from_recursion}
use Rattle.rows.specs.Cardinality.{at_least}
use Rattle.rows.specs.Literals.{yes, no}
use Rattle.rows.specs.Rows.{Row}
use Rattle.refutation.specs.Steps.{Step, is_linear}
use Rattle.refutation.specs.Steps.Step.{Clause, Linear}
use Rattle.refutation.specs.Verdict.{verdict_of}
use Rattle.refutation.specs.declared.step.Part.{Part}
use Rattle.refutation.specs.declared.verdict.Cause.{Cause}
use Rattle.refutation.specs.declared.verdict.Cause.TheVariants.{UnknownRow}
use Rattle.refutation.specs.declared.verdict.Verdict.TheVariants.{Accepted, Rejected}
use Rattle.league_search.specs.Sums.{Give, IsBehind}
use Rattle.league_search.proofs.GiveLemmas.{accepted-behind}

-- of each two of three games one takes place, and at most one of all
abbrev rows : List Row
rows =
    at_least 1 (yes 1 ∷ yes 2 ∷ []) ∷ at_least 1 (yes 2 ∷ yes 3 ∷ []) ∷ at_least 1 (yes 1 ∷ yes 3 ∷ [])
    ∷ at_least 2 (no 1 ∷ no 2 ∷ no 3 ∷ []) ∷ []

abbrev once : ℕ → Part
once row = record { factor = 1; row = row }

-- the first three added up and divided by 2: two of the three take place
abbrev two_of_three : Step
two_of_three = Linear (once 1 ∷ once 2 ∷ once 3 ∷ []) 2

abbrev longer : List Row
longer = rows ++ at_least 2 (yes 1 ∷ yes 2 ∷ yes 3 ∷ []) ∷ []

pub gives : Give rows 3 (two_of_three ∷ []) longer
gives = (at_least 2 (yes 1 ∷ yes 2 ∷ yes 3 ∷ []), (refl, refl))

-- the number of that row is 5, and steps behind it name it
abbrev search : List Step
search = Clause (yes 1 ∷ []) (5 ∷ 4 ∷ []) ∷ Clause [] (6 ∷ 4 ∷ 5 ∷ []) ∷ []

pub accepted-longer : verdict_of longer 3 search ≡ Accepted
accepted-longer = refl

abbrev log : List Step
log = two_of_three ∷ search

pub accepted : verdict_of rows 3 log ≡ Accepted
accepted = accepted-behind rows 3 (two_of_three ∷ []) longer search gives accepted-longer

pub behind : IsBehind rows 3 log
behind = record {
  sums = two_of_three ∷ [];
  more = longer;
  search = search;
  parts = refl;
  linear = All-from_recursion (λ step. is_linear step ≡ true) (two_of_three ∷ []) (refl, tt);
  give = gives;
}

-- without it they aren't accepted, since no row has the number 5
pub rejected : verdict_of rows 3 search ≡ Rejected 1 UnknownRow
rejected = refl

-- a sum that names a row that isn't there gives none
pub gives_none : (more : List Row) → Give rows 3 (Linear (once 9 ∷ []) 1 ∷ []) more → ⊥
gives_none more (row, (judged_is, same)) = let never : ◌≡◌ {A = Result Row Cause} (Err UnknownRow) (Ok row) = judged_is in cc

-- a clause is no sum
never_both : false ≡ true → ⊥
never_both is = cc

pub no_clause : All (λ step. is_linear step ≡ true) search → ⊥
no_clause linear = never_both (linear 0 two_of_three (lit< tt))
