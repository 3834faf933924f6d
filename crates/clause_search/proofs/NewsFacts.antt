-- Seven variables and six clauses, worked out by hand: what follows, what is empowering, and what is spent.
use Rattle.std.proofs.Common.{◌≡◌, ◌≢◌, ℕ, zero, suc, ◌+◌, ◌<◌, ◌≤◌, List, [], ◌∷◌, get_or, map, Ok, Err, refl, arith}
use Rattle.std.proofs.Common.{lit<, sym}
use Rattle.std.specs.Prelude.{Contains}
use Rattle.rows.specs.Literals.{Literal, yes, no}
use Rattle.rows.specs.Rows.{Row}
use Rattle.rows.specs.Partials.{IsEmpowering, IsQuiet, IsQuietRow, reach, value_of}
use Rattle.rows.specs.Cardinality.{at_least}
use Rattle.rows.specs.declared.lit.Term.{Term}
use Rattle.std.proofs.lemmas.List.Elements.{All-from_recursion}
use Rattle.rows.specs.declared.partial.Value.TheVariants.{False, Free}
use Rattle.refutation.specs.Steps.{Step}
use Rattle.refutation.specs.Steps.Step.{Clause}
use Rattle.refutation.specs.Following.{all_free, clause_row, judged}
use Rattle.refutation.specs.Verdict.{verdict_of}
use Rattle.refutation.specs.declared.verdict.Cause.TheVariants.{NoConflict}
use Rattle.refutation.specs.declared.verdict.Verdict.TheVariants.{Accepted}
use Rattle.clause_search.specs.News.{IsNews, IsSpent}
use Rattle.clause_search.proofs.SearchLemmas.{AreNews-none}
use Rattle.clause_search.proofs.TurnLemmas.{All-front}

abbrev six : List Row
six =
    map clause_row ((no 3 ∷ yes 4 ∷ []) ∷ (no 4 ∷ yes 5 ∷ []) ∷ (no 4 ∷ yes 6 ∷ []) ∷ (no 5 ∷ no
    6 ∷ []) ∷ (yes 4 ∷ yes 7 ∷ []) ∷ (yes 4 ∷ no 7 ∷ []) ∷ [])

abbrev first : Step
first = Clause (no 4 ∷ []) (2 ∷ 3 ∷ 4 ∷ [])

-- not 4 follows by the rows 2, 3 and 4, and then the empty clause by the rows 7, 5 and 6
pub follows-first : judged six 7 first ≡ Ok (clause_row (no 4 ∷ []))
follows-first = refl

pub accepted : verdict_of six 7 (first ∷ Clause [] (7 ∷ 5 ∷ 6 ∷ []) ∷ []) ≡ Accepted
accepted = refl

-- without the first row in conflict it doesn't
pub no_conflict : judged six 7 (Clause (no 4 ∷ []) (2 ∷ 3 ∷ [])) ≡ Err NoConflict
no_conflict = refl

-- ---- where no variable has a value, a clause of two literals is quiet

quiet_two : (l m : Literal) → reach all_free (at_least 1 (l ∷ m ∷ [])).terms
    ≡ 2 → IsQuietRow all_free (at_least 1 (l ∷ m ∷ []))
quiet_two l m two = record {
  no_conflict = omega (arith, two);
  none_forced = λ k d within. slack_left k d within two;
} where
  slack_left : (k : ℕ) (d : Term) → k < 2 → reach all_free (at_least 1 (l ∷ m ∷ [])).terms ≡ 2
      → value_of all_free (get_or (at_least 1 (l ∷ m ∷ [])).terms k d).lit ≡ Free
      → 1 + (get_or (at_least 1 (l ∷ m ∷ [])).terms k d).coef ≤ reach all_free (at_least 1 (l ∷ m ∷ [])).terms
  slack_left zero d within two free = omega (arith, two)
  slack_left (suc zero) d within two free = omega (arith, two)
  slack_left (suc (suc k)) d within two free = absurd (omega arith)

pub six_quiet : IsQuiet all_free six
six_quiet =
    All-from_recursion (IsQuietRow all_free) six (
      quiet_two (no 3) (yes 4) refl,
      (
        quiet_two (no 4) (yes 5) refl,
        (
          quiet_two (no 4) (yes 6) refl,
          (quiet_two (no 5) (no 6) refl, (quiet_two (yes 4) (yes 7) refl, (quiet_two (yes 4) (no 7) refl, tt))),
        ),
      ),
    )

alone : (other : Literal) → Contains (no 4 ∷ []) other → other ≢ no 4 → value_of all_free other ≡ False
alone other (zero, within, is) differs = absurd (differs (sym is))
alone other (suc k, within, is) differs = absurd (omega (arith, within))

-- the first step is news
pub news-first : IsNews six six 7 first
news-first = record { follows = refl; empowering = (all_free, no 4, six_quiet, (0, lit< tt, refl), refl, alone) }

-- the empty clause is news nowhere
pub empty_clause : (rows : List Row) → IsEmpowering rows [] → ⊥
empty_clause rows (values, l, quiet, (k, within, is), free, others) = omega (arith, within)

-- ---- spent logs

pub spent-at_zero : IsSpent 0 six 7 []
spent-at_zero = record { count = refl; news = AreNews-none six 7; quiet = (all_free, six_quiet) }

-- what propagation alone refutes is spent at no number: here a row without terms
pub unspent : (limit : ℕ) → IsSpent limit (at_least 1 [] ∷ []) 7 [] → ⊥
unspent limit spent =
    omega (
      arith,
      (All-front (IsQuietRow spent.quiet.0) (at_least 1 [] ∷ []) _ spent.quiet.1 0 (at_least 1 [])
          (lit< tt)).no_conflict,
    )
