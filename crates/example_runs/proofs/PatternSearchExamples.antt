-- Two teams without constraints: h(0,s) is 5 + s, h(1,s) 7 + s. Their pattern rows ask that one team is at home in each
-- slot, and that each team is once.
use Rattle.league_search.proofs.NewsLemmas.{ArePatternNews-none}
use Rattle.std.proofs.Common.{◌≡◌, ℕ, zero, suc, ◌+◌, ◌<◌, ◌≤◌, Bool, true, false, List, [], ◌∷◌, get_or, length}
use Rattle.std.proofs.Common.{Some, refl, arith, lit<}
use Rattle.std.proofs.lemmas.List.Elements.{All-nil, All-from_recursion}
use Rattle.std.specs.Prelude.{IsTrue}
use Rattle.league.specs.Instance.{Instance, is_one_side}
use Rattle.league.specs.declared.class.Side.{Side}
use Rattle.league.specs.declared.class.Side.TheVariants.{H, A}
use Rattle.rows.specs.Cardinality.{at_least}
use Rattle.rows.specs.Literals.{Literal, yes, no}
use Rattle.rows.specs.Partials.{IsQuietRow, reach, value_of}
use Rattle.rows.specs.Rows.{Satisfies}
use Rattle.rows.specs.Values.{assigned}
use Rattle.rows.specs.declared.lit.Term.{Term}
use Rattle.rows.specs.declared.partial.Value.TheVariants.{Free}
use Rattle.encoding.specs.Variables.{h_var}
use Rattle.patterns.specs.Pattern.{IsPattern}
use Rattle.refutation.specs.Following.{all_free}
use Rattle.clause_search.specs.News.{IsTidy}
use Rattle.league_search.specs.PatternLogs.{IsPatternSpent}
use Rattle.league_search.specs.PatternRows.{pattern_rows}
use Rattle.league_search.specs.PatternSets.{IsPatternSet, SayPatterns, is_home, letter_at}

abbrev two : Instance
two = record { n = 2; phased = false; constraints = [] }

pub rows-two : pattern_rows two
    ≡ at_least 1 (yes 5 ∷ yes 7 ∷ []) ∷ at_least 1 (no 5 ∷ no 7 ∷ [])
    ∷ at_least 1 (yes 6 ∷ yes 8 ∷ []) ∷ at_least 1 (no 6 ∷ no 8 ∷ [])
    ∷ at_least 1 (yes 5 ∷ yes 6 ∷ []) ∷ at_least 1 (no 5 ∷ no 6 ∷ [])
    ∷ at_least 1 (yes 7 ∷ yes 8 ∷ []) ∷ at_least 1 (no 7 ∷ no 8 ∷ [])
    ∷ []
rows-two = refl

-- ---- HA and AH meet them: 5 and 8 are true

abbrev turns : List (List Side)
turns = (H ∷ A ∷ []) ∷ (A ∷ H ∷ []) ∷ []

abbrev values : ℕ → Bool
values = assigned (false ∷ false ∷ false ∷ false ∷ true ∷ false ∷ false ∷ true ∷ [])

no_breaks : false ≡ true → ⊥
no_breaks is = cc

at_home : (i s : ℕ) → i < 2 → s < 2 → values (h_var 2 i s) ≡ is_home (letter_at turns i s)
at_home zero zero team slot = refl
at_home zero (suc zero) team slot = refl
at_home (suc zero) zero team slot = refl
at_home (suc zero) (suc zero) team slot = refl
at_home zero (suc (suc s)) team slot = absurd (omega (arith, slot))
at_home (suc zero) (suc (suc s)) team slot = absurd (omega (arith, slot))
at_home (suc (suc i)) s team slot = absurd (omega (arith, team))

say : SayPatterns 2 false turns values
say = record {
  venues = at_home;
  home_breaks = λ breaks. absurd (no_breaks breaks);
  away_breaks = λ breaks. absurd (no_breaks breaks);
}

letters_fit : (a b : Side) → IsTrue (is_one_side a) → IsTrue (is_one_side b) → IsPattern (a ∷ b ∷ [])
letters_fit a b first second = record {
  at_most = omega arith;
  letters = All-from_recursion (λ side. IsTrue (is_one_side side)) (a ∷ b ∷ []) (first, (second, tt));
}

pub set-two : IsPatternSet two turns
set-two = record {
  teams = refl;
  slots = All-from_recursion (λ (pattern : List Side). length pattern ≡ 2) turns (refl, (refl, tt));
  letters = All-from_recursion IsPattern turns (letters_fit H A refl refl, (letters_fit A H refl refl, tt));
  values = values;
  say = say;
  met = All-from_recursion (Satisfies values) (pattern_rows two)
      (omega arith, (omega arith, (omega arith, (omega arith, (omega arith, (omega arith, (omega arith, (omega arith, tt))))))));
}

-- ---- where nothing is known they force nothing: the log without steps is spent at 0, which is below 3 to the 4

quiet_two : (l m : Literal) → reach all_free (at_least 1 (l ∷ m ∷ [])).terms
    ≡ 2 → IsQuietRow all_free (at_least 1 (l ∷ m ∷ []))
quiet_two l m two = record { no_conflict = omega (arith, two); none_forced = λ k d within. slack k d within two } where
  slack : (k : ℕ) (d : Term) → k < 2 → reach all_free (at_least 1 (l ∷ m ∷ [])).terms ≡ 2
      → value_of all_free (get_or (at_least 1 (l ∷ m ∷ [])).terms k d).lit ≡ Free
      → 1 + (get_or (at_least 1 (l ∷ m ∷ [])).terms k d).coef ≤ reach all_free (at_least 1 (l ∷ m ∷ [])).terms
  slack zero d within two free = omega (arith, two)
  slack (suc zero) d within two free = omega (arith, two)
  slack (suc (suc k)) d within two free = absurd (omega arith)

both : (v w : ℕ) → IsQuietRow all_free (at_least 1 (yes v ∷ yes w ∷ [])) × IsQuietRow all_free (at_least 1 (no v ∷ no w ∷ []))
both v w = (quiet_two (yes v) (yes w) refl, quiet_two (no v) (no w) refl)

pub spent-two : IsPatternSpent two (Some 0) []
spent-two = record {
  limited = refl;
  news = ArePatternNews-none _ _ _ _;
  quiet = (
    all_free,
    All-from_recursion (IsQuietRow all_free) (pattern_rows two)
        ((both 5 7).0, ((both 5 7).1, ((both 6 8).0, ((both 6 8).1, ((both 5 6).0, ((both 5 6).1, ((both 7 8).0, ((both 7 8).1, tt)))))))),
  );
  few = lit< tt;
  tidy = All-nil (IsTidy 8);
}
