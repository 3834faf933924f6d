-- Trails over two rows, 1 or 2, and not 1 or 3: 2 is decided to be false, and then row 1 forces 1, and row 2 forces 3.
use Rattle.std.proofs.Common.{◌≡◌, ℕ, zero, suc, ◌+◌, ◌<◌, ◌≤◌, true, false, List, [], ◌∷◌, get_or, take}
use Rattle.std.proofs.Common.{Option, Some, None, refl, ap, arith, lit<, lit≤}
use Rattle.std.proofs.lemmas.List.Elements.{All-from_recursion}
use Rattle.rows.specs.Cardinality.{at_least}
use Rattle.rows.specs.Literals.{Literal, yes, no}
use Rattle.rows.specs.Partials.{IsQuiet, IsQuietRow, reach, value_of}
use Rattle.rows.specs.Rows.{Row}
use Rattle.rows.specs.declared.lit.Term.{Term}
use Rattle.rows.specs.declared.partial.Value.{Value}
use Rattle.rows.specs.declared.partial.Value.TheVariants.{True, False, Free}
use Rattle.propagate.specs.Trails.{IsBackTo, IsGrown, IsLawful, IsNew, IsNumbered, IsQuietBelow, IsSettled, is_decision}
use Rattle.propagate.specs.Trails.{values_of}
use Rattle.propagate.specs.declared.entry.Entry.{Entry}

abbrev either : Row
either = at_least 1 (yes 1 ∷ yes 2 ∷ [])

abbrev needs : Row
needs = at_least 1 (no 1 ∷ yes 3 ∷ [])

abbrev rows : List Row
rows = either ∷ needs ∷ []

abbrev entry : Literal → ℕ → Option ℕ → Entry
entry lit level reason = record { lit = lit; level = level; reason = reason }

abbrev decided : List Entry
decided = entry (no 2) 1 None ∷ []

abbrev forced : List Entry
forced = entry (no 2) 1 None ∷ entry (yes 1) 1 (Some 1) ∷ entry (yes 3) 1 (Some 2) ∷ []

-- ---- numbers of rows are from 1

pub numbered : IsNumbered rows 2 needs
numbered = record { from_one = lit≤ tt; there = refl }

none_some : {r : Row} → None ≡ Some r → ⊥
none_some is = cc

-- the number 0 names none, though taking 1 off it leaves 0, nor does 3
pub not_numbered : (IsNumbered rows 0 either → ⊥) × ((row : Row) → IsNumbered rows 3 row → ⊥)
not_numbered = (λ is. omega (arith, is.from_one), λ row is. none_some is.there)

-- ---- entries that come behind others

-- the first decision has level 1, what it forces too, and a decision behind it 2
pub new : IsNew 3 [] (entry (no 2) 1 None) × IsNew 3 decided (entry (yes 1) 1 (Some 1))
    × IsNew 3 decided (entry (yes 3) 2 None)
new = (
  record { from_one = lit≤ tt; known = lit≤ tt; free = refl; level = refl },
  record { from_one = lit≤ tt; known = lit≤ tt; free = refl; level = refl },
  record { from_one = lit≤ tt; known = lit≤ tt; free = refl; level = refl },
)

false_free : False ≡ Free → ⊥
false_free is = cc

-- a decision with the level of those before it; 2 once more; a variable above the last, and one of the number 0
pub not_new : (IsNew 3 decided (entry (yes 3) 1 None) → ⊥) × (IsNew 3 decided (entry (yes 2) 1 (Some 1)) → ⊥)
    × (IsNew 2 decided (entry (yes 3) 1 (Some 2)) → ⊥) × (IsNew 3 decided (entry (yes 0) 2 None) → ⊥)
not_new = (
  λ is. omega (arith, is.level),
  λ is. false_free is.free,
  λ is. omega (arith, is.known),
  λ is. omega (arith, is.from_one),
)

-- row 1 has 1 left, which it forces: 2 is false
pub lawful : IsLawful rows 3 decided (entry (yes 1) 1 (Some 1))
lawful = record {
  new = record { from_one = lit≤ tt; known = lit≤ tt; free = refl; level = refl };
  reason = record {
    row = either;
    numbered = record { from_one = lit≤ tt; there = refl };
    term = record { coef = 1; lit = yes 1 };
    literal = refl;
    forces = record { no_conflict = lit≤ tt; there = (0, lit< tt, refl); free = refl; needed = lit< tt };
  };
}

-- ---- entries with reasons were added

forced_only : (k : ℕ) (d : Entry) → 1 ≤ k → k < 3 → is_decision (get_or forced k d) ≡ false
forced_only zero d low within = absurd (omega (arith, low))
forced_only (suc zero) d low within = refl
forced_only (suc (suc zero)) d low within = refl
forced_only (suc (suc (suc k))) d low within = absurd (omega (arith, within))

pub grown : IsGrown decided forced × IsGrown forced forced
grown = (
  record { longer = lit≤ tt; kept = refl; forced = forced_only },
  record { longer = lit≤ tt; kept = refl; forced = λ k d low within. absurd (omega (arith, low, within)) },
)

true_false : true ≡ false → ⊥
true_false is = cc

-- the number of a list's first variable
abbrev first_var : List Entry → ℕ
first_var entries = (get_or entries 0 (entry (no 9) 0 None)).lit.var

-- a decision wasn't; nor may entries go, or change
pub not_grown : (IsGrown [] decided → ⊥) × (IsGrown forced decided → ⊥)
    × (IsGrown decided (entry (yes 3) 1 None ∷ entry (yes 1) 1 (Some 1) ∷ []) → ⊥)
not_grown = (
  λ is. true_false (is.forced 0 (entry (no 2) 1 None) (lit≤ tt) (lit< tt)),
  λ is. omega (arith, is.longer),
  λ is. let same : ◌≡◌ {A = ℕ} 3 2 = ap first_var is.kept in omega (arith, same),
)

-- ---- back to a level: before the decision of level 1 nothing stands

pub back : IsBackTo 0 forced [] × IsBackTo 1 forced forced
back = (
  record { shorter = lit≤ tt; front = refl; level_is = refl; next = λ d shorter. refl },
  record { shorter = lit≤ tt; front = refl; level_is = refl; next = λ d shorter. absurd (omega (arith, shorter)) },
)

false_true : false ≡ true → ⊥
false_true is = cc

-- not only the decision stays at level 1, but what it forced; other entries don't; and nothing is added
pub not_back : (IsBackTo 1 forced decided → ⊥) × (IsBackTo 0 forced forced → ⊥)
    × (IsBackTo 1 decided (entry (yes 3) 1 None ∷ []) → ⊥) × (IsBackTo 1 decided forced → ⊥)
not_back = (
  λ is. false_true (is.next (entry (no 2) 1 None) (lit< tt)),
  λ is. omega (arith, is.level_is),
  λ is. let same : ◌≡◌ {A = ℕ} 3 2 = ap first_var is.front in omega (arith, same),
  λ is. omega (arith, is.shorter),
)

-- ---- quiet before each decision

-- a clause of two literals is quiet where 2 are within reach
quiet_two : (values : ℕ → Value) (l m : Literal) → reach values (at_least 1 (l ∷ m ∷ [])).terms ≡ 2
    → IsQuietRow values (at_least 1 (l ∷ m ∷ []))
quiet_two values l m two = record {
  no_conflict = omega (arith, two);
  none_forced = λ k d within. slack k d within two;
} where
  slack : (k : ℕ) (d : Term) → k < 2 → reach values (at_least 1 (l ∷ m ∷ [])).terms ≡ 2
      → value_of values (get_or (at_least 1 (l ∷ m ∷ [])).terms k d).lit ≡ Free
      → 1 + (get_or (at_least 1 (l ∷ m ∷ [])).terms k d).coef ≤ reach values (at_least 1 (l ∷ m ∷ [])).terms
  slack zero d within two free = omega (arith, two)
  slack (suc zero) d within two free = omega (arith, two)
  slack (suc (suc k)) d within two free = absurd (omega (arith, within))

quiet-none : IsQuiet (values_of []) rows
quiet-none = All-from_recursion (IsQuietRow (values_of [])) rows
    (quiet_two (values_of []) (yes 1) (yes 2) refl, (quiet_two (values_of []) (no 1) (yes 3) refl, tt))

quiet-below : (k : ℕ) (d : Entry) → k < 3 → is_decision (get_or forced k d) ≡ true
    → IsQuiet (values_of (take k forced)) rows
quiet-below zero d within decision = quiet-none
quiet-below (suc zero) d within decision = absurd (false_true decision)
quiet-below (suc (suc zero)) d within decision = absurd (false_true decision)
quiet-below (suc (suc (suc k))) d within decision = absurd (omega (arith, within))

-- behind the decision row 1 isn't quiet, before it both are
pub quiet : IsQuietBelow rows forced
quiet = quiet-below

-- a second decision behind the first came too early: row 1 forces 1
early : IsQuietRow (values_of decided) either → ⊥
early is = omega (arith, is.none_forced 0 (record { coef = 1; lit = yes 1 }) (lit< tt) refl)

pub not_quiet : IsQuietBelow rows (entry (no 2) 1 None ∷ entry (yes 3) 2 None ∷ []) → ⊥
not_quiet is = early (is 1 (entry (no 2) 1 None) (lit< tt) refl 0 either (lit< tt))

-- ---- what propagation comes to

-- behind the last entry each row has a true literal, and no free one
true_free : True ≡ Free → ⊥
true_free is = cc

quiet_either : (k : ℕ) (d : Term) → k < 2 → value_of (values_of forced) (get_or either.terms k d).lit ≡ Free
    → 1 + (get_or either.terms k d).coef ≤ reach (values_of forced) either.terms
quiet_either zero d within free = absurd (true_free free)
quiet_either (suc zero) d within free = absurd (false_free free)
quiet_either (suc (suc k)) d within free = absurd (omega (arith, within))

quiet_needs : (k : ℕ) (d : Term) → k < 2 → value_of (values_of forced) (get_or needs.terms k d).lit ≡ Free
    → 1 + (get_or needs.terms k d).coef ≤ reach (values_of forced) needs.terms
quiet_needs zero d within free = absurd (false_free free)
quiet_needs (suc zero) d within free = absurd (true_free free)
quiet_needs (suc (suc k)) d within free = absurd (omega (arith, within))

pub settled-quiet : IsSettled rows (values_of forced) None
settled-quiet = All-from_recursion (IsQuietRow (values_of forced)) rows (
  record { no_conflict = lit≤ tt; none_forced = quiet_either },
  (record { no_conflict = lit≤ tt; none_forced = quiet_needs }, tt),
)

-- behind the decision alone propagation isn't done
pub not_settled : IsSettled rows (values_of decided) None → ⊥
not_settled is = early (is 0 either (lit< tt))

-- with a third row, not 3, it ends in a conflict, which names that row; and no other
abbrev more : List Row
more = either ∷ needs ∷ at_least 1 (no 3 ∷ []) ∷ []

pub settled-conflict : IsSettled more (values_of forced) (Some (record { row = 3 }))
settled-conflict = record {
  row = at_least 1 (no 3 ∷ []);
  numbered = record { from_one = lit≤ tt; there = refl };
  conflict_is = lit< tt;
}

pub settled-other : IsSettled more (values_of forced) (Some (record { row = 0 })) → ⊥
settled-other is = omega (arith, is.numbered.from_one)
