-- Logs of news have fewer steps than there are clauses: 3 to the number of variables.
use Rattle.std.proofs.Common.{◌≡◌, ◌≢◌, ℕ, zero, suc, ◌+◌, ◌*◌, ◌^◌, ◌<◌, ◌≤◌, ◌==◌, ◌&&◌, ◌||◌, Bool, true, false}
use Rattle.std.proofs.Common.{not, cond, eqb, List, [], ◌∷◌, ◌++◌, length, get_or, map}
use Rattle.std.proofs.Common.{refl, inl, inr, arith, ap, sym, subst, append_assoc, ◌∙◌}
use Rattle.std.specs.Prelude.{Contains, ◌⊎◌, ⊤}
use Rattle.std.specs.Bool.{beq}
use Rattle.std.specs.List.{All, IsDistinct, filter, list_any}
use Rattle.std.proofs.Math.Nat.{pow-suc}
use Rattle.std.proofs.lemmas.Bool.{cases_Bool, cases_lt, false≢true, ne_eqb}
use Rattle.std.proofs.lemmas.Bool.Decides.{nat_tests}
use Rattle.std.proofs.lemmas.List.{append-nil, length-map}
use Rattle.std.proofs.lemmas.List.Elements.{All-cons, All-contains, All-head, All-map, All-nil, All-push, All-tail}
use Rattle.std.proofs.lemmas.List.Elements.{All-weaker, Contains-append_left, Contains-push, recursion_from_All}
use Rattle.std.proofs.lemmas.List.Sums.{sum_by-cons}
use Rattle.std.proofs.lemmas.Map.Keys.{IsDistinct-cons}
use Rattle.std.proofs.lemmas.Map.Steps.{length-le_from_distinct_below}
use Rattle.rows.specs.Cardinality.{at_least, unit}
use Rattle.rows.specs.Literals.{Literal, negate, no, yes}
use Rattle.rows.specs.Rows.{Row}
use Rattle.rows.specs.Partials.{IsEmpowering, IsQuietRow, is_false, reach, value_of}
use Rattle.rows.specs.declared.lit.Term.{Term}
use Rattle.rows.specs.declared.partial.Value.{Value}
use Rattle.rows.specs.declared.partial.Value.TheVariants.{True, False, Free}
use Rattle.rows.specs.Sums.{is_same}
use Rattle.rows.proofs.LiteralLemmas.{same_literal}
use Rattle.refutation.specs.Following.{clause_row, distinct, has, has_opposites}
use Rattle.refutation.specs.Steps.{Step, clause_of}
use Rattle.clause_search.specs.Kept.{IsPart}
use Rattle.clause_search.specs.News.{IsTidy, row_of}
use Rattle.clause_search.proofs.ReplayLemmas.{Differ, differ_tail}

-- ---- the same literal

same_refl_by : (here : Bool) (s : Bool) → here ≡ true → (here && beq s s) ≡ true
same_refl_by true true is = refl
same_refl_by true false is = refl
same_refl_by false s is = absurd (false≢true is)

same_refl : (l : Literal) → is_same l l ≡ true
same_refl l = same_refl_by (l.var == l.var) l.positive (grind (arith, nat_tests))

-- ---- membership as a test

or_cases : (a b : Bool) → (a || b) ≡ true → (a ≡ true) ⊎ (b ≡ true)
or_cases true b is = inl refl
or_cases false b is = inr is

or_left : (a b : Bool) → a ≡ true → (a || b) ≡ true
or_left true b is = refl
or_left false b is = absurd (false≢true is)

or_right : (a b : Bool) → b ≡ true → (a || b) ≡ true
or_right true b is = refl
or_right false b is = is

pub holds_it : (c : List Literal) (l : Literal) → has c l ≡ true → Contains c l
holds_it [] l is = absurd (false≢true is)
holds_it (m ∷ c) l is =
    elim (or_cases (is_same l m) (has c l) is) [
      | inl same ↦ (0, omega arith, sym (same_literal l m same))
      | inr later ↦ let there : Contains c l = holds_it c l later in (suc there.0, omega (arith, there.1), there.2)
    ]

held_at : (c : List Literal) (l : Literal) (k : ℕ) → k < length c → get_or c k l ≡ l → has c l ≡ true
held_at [] l k within is = absurd (omega (arith, within))
held_at (m ∷ c) l zero within is =
    or_left (is_same l m) (has c l) (subst (λ (x : Literal). is_same l x ≡ true) (sym is) (same_refl l))
held_at (m ∷ c) l (suc k) within is = or_right (is_same l m) (has c l) (held_at c l k (omega (arith, within)) is)

pub held_it : (c : List Literal) (l : Literal) → Contains c l → has c l ≡ true
held_it c l there = held_at c l there.0 there.1 there.2

-- ---- clauses of different variables

one_at : (c : List Literal) (l m : Literal) (i j : ℕ) → Differ c → i < length c → j < length c → get_or c i l
    ≡ l → get_or c j m ≡ m → l.var ≡ m.var → l ≡ m
one_at [] l m i j differ i_in j_in i_is j_is same = absurd (omega (arith, i_in))
one_at (x ∷ c) l m zero zero differ i_in j_in i_is j_is same = sym i_is ∙ j_is
one_at (x ∷ c) l m zero (suc j) differ i_in j_in i_is j_is same =
    absurd (differ 0 (suc j) m (omega arith) j_in
    (ap (λ (y : Literal). y.var) i_is ∙ same ∙ ap (λ (y : Literal). y.var) (sym j_is)))
one_at (x ∷ c) l m (suc i) zero differ i_in j_in i_is j_is same =
    absurd (differ 0 (suc i) l (omega arith) i_in
    (ap (λ (y : Literal). y.var) j_is ∙ sym same ∙ ap (λ (y : Literal). y.var) (sym i_is)))
one_at (x ∷ c) l m (suc i) (suc j) differ i_in j_in i_is j_is same =
    one_at c l m i j (differ_tail x c differ) (omega (arith, i_in)) (omega (arith, j_in)) i_is j_is same

-- a variable stands once
pub one_variable : (c : List Literal) (l m : Literal) → Differ c → Contains c l → Contains c m → l.var ≡ m.var → l ≡ m
one_variable c l m differ there also same = one_at c l m there.0 also.0 differ there.1 also.1 there.2 also.2 same

-- the first literal's variable stands in no later one
first_apart : (x : Literal) (c : List Literal) (m : Literal) → Differ (x ∷ c) → Contains c m → x.var ≢ m.var
first_apart x c m differ there same =
    differ 0 (suc there.0) m (omega arith) (omega (arith, there.1)) (same ∙ ap (λ (y : Literal). y.var) (sym there.2))

none_false : (b : Bool) → (b ≡ true → ⊥) → b ≡ false
none_false true never = absurd (never refl)
none_false false never = refl

-- no literal of a clause of different variables stands beside its negation
no_opposites : (c : List Literal) → Differ c → has_opposites c ≡ false
no_opposites [] differ = refl
no_opposites (x ∷ c) differ =
    ap (λ (b : Bool). b || has_opposites c)
    (none_false (has c (negate x)) (λ is. first_apart x c (negate x) differ (holds_it c (negate x) is) refl))
    ∙ no_opposites c (differ_tail x c differ)

filter_kept : (test : Literal → Bool) (c : List Literal) → ((m : Literal) → Contains c m → test m ≡ true)
    → filter test c ≡ c
filter_kept test [] passes = refl
filter_kept test (x ∷ c) passes =
    ap (λ (b : Bool). cond b (x ∷ filter test c) (filter test c)) (passes x (0, omega arith, refl))
    ∙ ap (λ (xs : List Literal). x ∷ xs)
    (filter_kept test c (λ m there. passes m (suc there.0, omega (arith, there.1), there.2)))

all_distinct : (c : List Literal) → Differ c → distinct c ≡ c
all_distinct [] differ = refl
all_distinct (x ∷ c) differ =
    ap (λ (xs : List Literal). x ∷ filter (λ m. not (is_same x m)) xs) (all_distinct c (differ_tail x c differ))
    ∙ ap (λ (xs : List Literal). x ∷ xs)
    (filter_kept (λ m. not (is_same x m)) c (λ m there.
    ap not (none_false (is_same x m)
    (λ same. first_apart x c m differ there (ap (λ (y : Literal). y.var) (same_literal x m same))))))

-- the clause stands as at least 1 of its literals
pub clause_row-differ : (c : List Literal) → Differ c → clause_row c ≡ at_least 1 c
clause_row-differ c differ =
    ap (λ (b : Bool). cond b (record { terms = []; degree = 0 }) (at_least 1 (distinct c))) (no_opposites c differ)
    ∙ ap (λ (xs : List Literal). at_least 1 xs) (all_distinct c differ)

-- ---- no clause comes again

-- what a term adds to a row's reach
abbrev pub part : (ℕ → Value) → Term → ℕ
part values t = cond (is_false (value_of values t.lit)) 0 t.coef

part_false : (values : ℕ → Value) (m : Literal) → value_of values m ≡ False → part values (unit m) ≡ 0
part_false values m is = ap (λ (v : Value). cond (is_false v) 0 1) is

part_at_most : (values : ℕ → Value) (m : Literal) → part values (unit m) ≤ 1
part_at_most values m = at_most (value_of values m)
  where
    at_most : (v : Value) → cond (is_false v) 0 1 ≤ 1
    at_most True = omega arith
    at_most False = omega arith
    at_most Free = omega arith

reach_none : (values : ℕ → Value) (c : List Literal) → ((m : Literal) → Contains c m → value_of values m ≡ False)
    → reach values (map unit c) ≡ 0
reach_none values [] false_all = refl
reach_none values (x ∷ c) false_all =
    omega (
      arith,
      sum_by-cons (part values) (unit x) (map unit c),
      part_false values x (false_all x (0, omega arith, refl)),
      reach_none values c (λ m there. false_all m (suc there.0, omega (arith, there.1), there.2)),
    )

-- where all but one of the literals are false, at most 1 is within reach
reach_one : (values : ℕ → Value) (c : List Literal) (l : Literal) → Differ c
    → ((m : Literal) → Contains c m → m ≢ l → value_of values m ≡ False) → reach values (map unit c) ≤ 1
reach_one values [] l differ others = omega arith
reach_one values (x ∷ c) l differ others =
    elim (cases_Bool (is_same x l)) [
      | inl same ↦
          let x_is : x ≡ l = same_literal x l same in
          omega (
            arith,
            sum_by-cons (part values) (unit x) (map unit c),
            part_at_most values x,
            reach_none values c (λ m there. others m (suc there.0, omega (arith, there.1), there.2)
                (λ is. first_apart x c m differ there (ap (λ (y : Literal). y.var) (x_is ∙ sym is)))),
          )
      | inr apart ↦
          omega (
            arith,
            sum_by-cons (part values) (unit x) (map unit c),
            part_false values x (others x (0, omega arith, refl)
                (λ is. false≢true (sym apart ∙ ap (λ (y : Literal). is_same y l) is ∙ same_refl l))),
            reach_one values c l (differ_tail x c differ)
                (λ m there. others m (suc there.0, omega (arith, there.1), there.2)),
          )
    ]

unit_at : (c : List Literal) (l : Literal) (k : ℕ) (d : Term) → k < length c → get_or c k l
    ≡ l → get_or (map unit c) k d ≡ unit l
unit_at [] l k d within is = absurd (omega (arith, within))
unit_at (x ∷ c) l zero d within is = ap unit is
unit_at (x ∷ c) l (suc k) d within is = unit_at c l k d (omega (arith, within)) is

-- a row whose literals all stand in a clause isn't quiet where that clause has one literal left, if that is one of them
pub no_copy : (values : ℕ → Value) (old : List Literal) (l : Literal) → Differ old → Contains old l
    → value_of values l ≡ Free
    → ((m : Literal) → Contains old m → m ≢ l → value_of values m ≡ False) → IsQuietRow values (at_least 1 old) → ⊥
no_copy values old l differ there free others quiet =
    let at : get_or (map unit old) there.0 (unit l) ≡ unit l = unit_at old l there.0 (unit l) there.1 there.2 in
    let forced : 1 + 1 ≤ reach values (map unit old) =
    subst (λ (t : Term). value_of values t.lit ≡ Free → 1 + t.coef ≤ reach values (map unit old)) at
    (quiet.none_forced there.0 (unit l) (omega (arith, there.1, length-map old unit))) free in
    absurd (omega (arith, forced, reach_one values old l differ others))

-- ---- the number of a clause

abbrev digit_by : Bool → Bool → ℕ
digit_by a b = cond a 1 (cond b 2 0)

-- 1 where the variable stands in a clause, 2 where its negation stands alone, else 0
abbrev digit : List Literal → ℕ → ℕ
digit c v = digit_by (has c (yes v)) (has c (no v))

digit_at_most : (a b : Bool) → cond a 1 (cond b 2 0) ≤ 2
digit_at_most true b = omega arith
digit_at_most false true = omega arith
digit_at_most false false = omega arith

-- the digits as one number
code : List Literal → ℕ → ℕ
code c zero = 0
code c (suc v) = 3 * code c v + digit c (suc v)

code_below : (c : List Literal) (v : ℕ) → code c v < 3 ^ v
unfolding code
code_below c zero = omega arith
code_below c (suc v) =
    omega (arith, pow-suc 3 v, code_below c v, digit_at_most (has c (yes (suc v))) (has c (no (suc v))))

same_digit : (c d : List Literal) (v : ℕ) → code c v ≡ code d v → (k : ℕ) → 1 ≤ k → k ≤ v → digit c k ≡ digit d k
unfolding code
same_digit c d zero same k from_one within = absurd (omega (arith, from_one, within))
same_digit c d (suc v) same k from_one within =
    elim (cases_lt k (suc v)) [
      | inl below ↦
          same_digit c d v (omega (
            arith,
            same,
            digit_at_most (has c (yes (suc v))) (has c (no (suc v))),
            digit_at_most (has d (yes (suc v))) (has d (no (suc v))),
          )) k from_one (omega (arith, below))
      | inr past ↦
          let here : suc v ≡ k = omega (arith, past, within) in
          subst (λ (i : ℕ). digit c i ≡ digit d i) here
          (omega (
            arith,
            same,
            digit_at_most (has c (yes (suc v))) (has c (no (suc v))),
            digit_at_most (has d (yes (suc v))) (has d (no (suc v))),
          ))
    ]

yes_moves : (a b c d : Bool) → digit_by a b ≡ digit_by c d → a ≡ true → c ≡ true
yes_moves true b true d same is = refl
yes_moves true b false true same is = absurd (omega (arith, same))
yes_moves true b false false same is = absurd (omega (arith, same))
yes_moves false b c d same is = absurd (false≢true is)

no_moves : (a b c d : Bool) → digit_by a b ≡ digit_by c d → a ≡ false → b ≡ true → d ≡ true
no_moves true b c d same none is = absurd (false≢true (sym none))
no_moves false false c d same none is = absurd (false≢true is)
no_moves false true true d same none is = absurd (omega (arith, same))
no_moves false true false true same none is = refl
no_moves false true false false same none is = absurd (omega (arith, same))

-- clauses with one number have the same literals
moves_by : (c d : List Literal) (v : ℕ) (positive : Bool) → Differ c → digit c v ≡ digit d v
    → Contains c (record { var = v; positive = positive }) → Contains d (record { var = v; positive = positive })
moves_by c d v true differ same there =
    holds_it d (yes v) (yes_moves (has c (yes v)) (has c (no v)) (has d (yes v)) (has d (no v)) same
    (held_it c (yes v) there))
moves_by c d v false differ same there =
    holds_it d (no v)
    (no_moves (has c (yes v)) (has c (no v)) (has d (yes v)) (has d (no v)) same
    (none_false (has c (yes v))
    (λ is. yes_not_no (ap (λ (l : Literal). l.positive)
    (one_variable c (yes v) (no v) differ (holds_it c (yes v) is) there refl))))
    (held_it c (no v) there))
  where
    yes_not_no : true ≡ false → ⊥
    yes_not_no same = false≢true (sym same)

moves : (c d : List Literal) (vars : ℕ) (l : Literal) → Differ c → code c vars ≡ code d vars → 1 ≤ l.var
    → l.var ≤ vars → Contains c l → Contains d l
moves c d vars l differ same from_one within there =
    moves_by c d l.var l.positive differ (same_digit c d vars same l.var from_one within) there

-- a nonempty clause has a number above 0
code_up : (c : List Literal) (v k : ℕ) → 1 ≤ digit c k → 1 ≤ k → k ≤ v → 1 ≤ code c v
unfolding code
code_up c zero k some from_one within = absurd (omega (arith, from_one, within))
code_up c (suc v) k some from_one within =
    elim (cases_lt k (suc v)) [
      | inl below ↦ omega (arith, code_up c v k some from_one (omega (arith, below)))
      | inr past ↦
          let here : k ≡ suc v = omega (arith, past, within) in
          omega (arith, subst (λ (i : ℕ). 1 ≤ digit c i) here some)
    ]

digit_yes : (a b : Bool) → (a ≡ true) ⊎ (b ≡ true) → 1 ≤ cond a 1 (cond b 2 0)
digit_yes true b is = omega arith
digit_yes false true is = omega arith
digit_yes false false (inl is) = absurd (false≢true is)
digit_yes false false (inr is) = absurd (false≢true is)

digit_some : (c : List Literal) (v : ℕ) (positive : Bool) → Contains c (record { var = v; positive = positive })
    → 1 ≤ digit c v
digit_some c v true there = digit_yes (has c (yes v)) (has c (no v)) (inl (held_it c (yes v) there))
digit_some c v false there = digit_yes (has c (yes v)) (has c (no v)) (inr (held_it c (no v) there))

code_some : (c : List Literal) (vars : ℕ) (l : Literal) → Contains c l → 1 ≤ l.var → l.var ≤ vars → 1 ≤ code c vars
code_some c vars l there from_one within = code_up c vars l.var (digit_some c l.var l.positive there) from_one within

-- ---- steps

-- each step's clause is empowering over the rows and the steps before it
abbrev pub AreEmpowering : List Row → List Step → Type 0
AreEmpowering rows [] = ⊤
AreEmpowering rows (step ∷ steps) =
    IsEmpowering rows (clause_of step) × AreEmpowering (rows ++ row_of step ∷ []) steps

-- a step more
pub AreEmpowering-push : (rows : List Row) (steps : List Step) (s : Step) → AreEmpowering rows steps
    → IsEmpowering (rows ++ map row_of steps) (clause_of s) → AreEmpowering rows (steps ++ s ∷ [])
AreEmpowering-push rows [] s are is =
    (subst (λ (rs : List Row). IsEmpowering rs (clause_of s)) (append-nil rows) is, tt)
AreEmpowering-push rows (x ∷ steps) s are is = (
  are.0,
  AreEmpowering-push (rows ++ row_of x ∷ []) steps s are.1
      (subst (λ (rs : List Row). IsEmpowering rs (clause_of s))
      (sym (append_assoc rows (row_of x ∷ []) (map row_of steps))) is),
)

-- what is empowering is so over fewer rows
pub IsEmpowering-fewer : (few rows : List Row) (c : List Literal) → All (Contains rows) few → IsEmpowering rows c
    → IsEmpowering few c
IsEmpowering-fewer few rows c held (values, l, quiet, among, free, others) = (
  values,
  l,
  λ k d within. All-contains (IsQuietRow values) rows (get_or few k d) quiet (held k d within),
  among,
  free,
  others,
)

held_more : (few rows : List Row) (row : Row) → All (Contains rows) few → All (Contains (rows ++ row ∷ [])) few
held_more few rows row held =
    All-weaker (Contains rows) (Contains (rows ++ row ∷ [])) (λ r is. Contains-append_left rows (row ∷ []) r is) few
    held

-- so is a part of the steps
pub AreEmpowering-part : (less steps : List Step) (few rows : List Row) → All (Contains rows) few
    → AreEmpowering rows steps → IsPart less steps → AreEmpowering few less
AreEmpowering-part less [] few rows held are is = subst (λ (ss : List Step). AreEmpowering few ss) (sym is) tt
AreEmpowering-part less (s ∷ steps) few rows held are (inl part) =
    AreEmpowering-part less steps few (rows ++ row_of s ∷ []) (held_more few rows (row_of s) held) are.1 part
AreEmpowering-part less (s ∷ steps) few rows held are (inr (rest, same, part)) =
    subst (λ (ss : List Step). AreEmpowering few ss) (sym same) (
      IsEmpowering-fewer few rows (clause_of s) held are.0,
      AreEmpowering-part rest steps (few ++ row_of s ∷ []) (rows ++ row_of s ∷ [])
          (All-push (Contains (rows ++ row_of s ∷ [])) few (row_of s) (held_more few rows (row_of s) held)
          (Contains-push rows (row_of s))) are.1 part,
    )

-- a step's number comes at no later step
not_again : (rows : List Row) (vars : ℕ) (s t : Step) → Contains rows (row_of s) → IsTidy vars s → IsTidy vars t
    → IsEmpowering rows (clause_of t) → code (clause_of s) vars ≢ code (clause_of t) vars
not_again rows vars s t there s_tidy t_tidy empowering same = copied empowering
  where
    copied : IsEmpowering rows (clause_of t) → ⊥
    copied (values, l, quiet, among, free, others) =
        no_copy values (clause_of s) l s_tidy.variables
        (moves (clause_of t) (clause_of s) vars l t_tidy.variables (sym same)
        (All-contains (λ m. 1 ≤ m.var) (clause_of t) l t_tidy.from_one among)
        (All-contains (λ m. m.var ≤ vars) (clause_of t) l t_tidy.known among) among)
        free
        (λ m m_there differs. others m
        (moves (clause_of s) (clause_of t) vars m s_tidy.variables same
        (All-contains (λ x. 1 ≤ x.var) (clause_of s) m s_tidy.from_one m_there)
        (All-contains (λ x. x.var ≤ vars) (clause_of s) m s_tidy.known m_there) m_there)
        differs)
        (subst (λ (row : Row). IsQuietRow values row) (clause_row-differ (clause_of s) s_tidy.variables)
        (All-contains (IsQuietRow values) rows (row_of s) quiet there))

later_differ : (rows : List Row) (vars : ℕ) (s : Step) (ss : List Step) → Contains rows (row_of s) → IsTidy vars s
    → AreEmpowering rows ss → All (IsTidy vars) ss
    → All (λ t. eqb (code (clause_of s) vars) (code (clause_of t) vars) ≡ false) ss
later_differ rows vars s [] there s_tidy news tidy =
    All-nil (λ t. eqb (code (clause_of s) vars) (code (clause_of t) vars) ≡ false)
later_differ rows vars s (t ∷ ss) there s_tidy news tidy =
    All-cons (λ u. eqb (code (clause_of s) vars) (code (clause_of u) vars) ≡ false) t ss
    (ne_eqb (code (clause_of s) vars) (code (clause_of t) vars)
    (not_again rows vars s t there s_tidy (All-head (IsTidy vars) t ss tidy) news.0))
    (later_differ (rows ++ row_of t ∷ []) vars s ss (Contains-append_left rows (row_of t ∷ []) (row_of s) there)
    s_tidy news.1 (All-tail (IsTidy vars) t ss tidy))

abbrev codes : ℕ → List Step → List ℕ
codes vars steps = map (λ s. code (clause_of s) vars) steps

codes_differ : (rows : List Row) (vars : ℕ) (ss : List Step) → AreEmpowering rows ss → All (IsTidy vars) ss
    → IsDistinct eqb (codes vars ss)
unfolding IsDistinct
codes_differ rows vars [] news tidy = tt
codes_differ rows vars (s ∷ ss) news tidy =
    IsDistinct-cons eqb (code (clause_of s) vars) (map (λ s. code (clause_of s) vars) ss)
    (recursion_from_All (λ y. eqb (code (clause_of s) vars) y ≡ false) (map (λ s. code (clause_of s) vars) ss)
    (All-map (λ y. eqb (code (clause_of s) vars) y ≡ false) (λ s. code (clause_of s) vars) ss
    (later_differ (rows ++ row_of s ∷ []) vars s ss (Contains-push rows (row_of s)) (All-head (IsTidy vars) s ss tidy)
    news.1 (All-tail (IsTidy vars) s ss tidy))))
    (codes_differ (rows ++ row_of s ∷ []) vars ss news.1 (All-tail (IsTidy vars) s ss tidy))

-- none of them is 0
above_none : (rows : List Row) (vars : ℕ) (s : Step) → IsTidy vars s → IsEmpowering rows (clause_of s)
    → 1 ≤ code (clause_of s) vars
above_none rows vars s tidy empowering = some empowering
  where
    some : IsEmpowering rows (clause_of s) → 1 ≤ code (clause_of s) vars
    some (values, l, quiet, among, free, others) =
        code_some (clause_of s) vars l among
        (All-contains (λ m. 1 ≤ m.var) (clause_of s) l tidy.from_one among)
        (All-contains (λ m. m.var ≤ vars) (clause_of s) l tidy.known among)

not_zero : (n : ℕ) → 1 ≤ n → eqb 0 n ≡ false
not_zero n some = ne_eqb 0 n (λ same. omega (arith, some, same))

all_above : (rows : List Row) (vars : ℕ) (ss : List Step) → AreEmpowering rows ss → All (IsTidy vars) ss
    → All (λ t. eqb 0 (code (clause_of t) vars) ≡ false) ss
all_above rows vars [] news tidy = All-nil (λ t. eqb 0 (code (clause_of t) vars) ≡ false)
all_above rows vars (s ∷ ss) news tidy =
    All-cons (λ t. eqb 0 (code (clause_of t) vars) ≡ false) s ss
    (not_zero (code (clause_of s) vars) (above_none rows vars s (All-head (IsTidy vars) s ss tidy) news.0))
    (all_above (rows ++ row_of s ∷ []) vars ss news.1 (All-tail (IsTidy vars) s ss tidy))

same_number : (q n : ℕ) → eqb q n ≡ true → q ≡ n
same_number q n is = grind (arith, nat_tests)

pub any_below : (bound : ℕ) (xs : List ℕ) → All (λ x. x < bound) xs → (q : ℕ) → list_any (eqb q) xs ≡ true → q < bound
any_below bound [] below q is = absurd (false≢true is)
any_below bound (x ∷ xs) below q is =
    elim (or_cases (eqb q x) (list_any (eqb q) xs) is) [
      | inl same ↦ omega (arith, same_number q x same, All-head (λ y. y < bound) x xs below)
      | inr later ↦ any_below bound xs (All-tail (λ y. y < bound) x xs below) q later
    ]

-- Of steps that are empowering one by one, and tidy, there are fewer than 3 to the number of variables.
pub fewer_steps : (rows : List Row) (vars : ℕ) (ss : List Step) → AreEmpowering rows ss → All (IsTidy vars) ss
    → length ss < 3 ^ vars
fewer_steps rows vars ss news tidy =
    let numbers = map (λ (s : Step). code (clause_of s) vars) ss in
    let distinct_all : IsDistinct eqb (0 ∷ numbers) =
    IsDistinct-cons eqb 0 numbers
    (recursion_from_All (λ y. eqb 0 y ≡ false) numbers
    (All-map (λ y. eqb 0 y ≡ false) (λ s. code (clause_of s) vars) ss (all_above rows vars ss news tidy)))
    (codes_differ rows vars ss news tidy) in
    let some : 0 < 3 ^ vars = omega (arith, code_below [] vars) in
    let below : All (λ x. x < 3 ^ vars) (0 ∷ numbers) =
    All-cons (λ x. x < 3 ^ vars) 0 numbers some
    (All-map (λ x. x < 3 ^ vars) (λ s. code (clause_of s) vars) ss
    (λ k d within. code_below (clause_of (get_or ss k d)) vars)) in
    omega (
      arith,
      length-le_from_distinct_below (0 ∷ numbers) (3 ^ vars) distinct_all (any_below (3 ^ vars) (0 ∷ numbers) below),
      length-map ss (λ (s : Step). code (clause_of s) vars),
    )
