-- The rows that a count adds up are rows of the league.
use Rattle.std.proofs.Common.{◌≡◌, ℕ, ◌-◌, ◌/◌, ◌%◌, ◌<◌, Bool, true, false, not, cond, List, [], ◌∷◌, ◌++◌, length, map}
use Rattle.std.proofs.Common.{inl, inr, refl, arith, ap, sym, subst, ◌∙◌}
use Rattle.std.specs.Prelude.{Contains}
use Rattle.std.specs.List.{flat_map}
use Rattle.std.proofs.lemmas.Bool.{cases_Bool, lt-ltb}
use Rattle.std.proofs.lemmas.List.{length-map}
use Rattle.std.proofs.lemmas.List.Elements.{Contains-append_left}
use Rattle.std.proofs.lemmas.List.FromFn.{length-range_with_len}
use Rattle.std.proofs.lemmas.Simd.{map-map}
use Rattle.league.specs.Counts.{teams_of}
use Rattle.league.specs.Instance.{Instance, is_one_side}
use Rattle.league.specs.Sets.{is_in}
use Rattle.league.specs.declared.class.Class.{Class}
use Rattle.league.specs.declared.class.Class.TheVariants.{Ca1, Ca2, Ca3, Ca4, Ga1, Br1, Br2, Fa2, Se1}
use Rattle.league.specs.declared.class.Constraint.{Constraint}
use Rattle.league.specs.declared.class.Side.{Side}
use Rattle.league.specs.declared.class.Side.TheVariants.{H, A, Both}
use Rattle.league.proofs.ListLemmas.{Contains-flat_map, Contains-map}
use Rattle.rows.specs.Cardinality.{at_least, at_most, unit}
use Rattle.rows.specs.Literals.{Literal, negate, no, yes}
use Rattle.rows.specs.Rows.{Row}
use Rattle.rows.specs.Sums.{literal}
use Rattle.encoding.specs.Demands.{ca1_rows}
use Rattle.encoding.specs.Encoding.{class_rows, constraint_rows, demands}
use Rattle.encoding.specs.Lists.{venues_in}
use Rattle.encoding.specs.RowRanges.{rows_of_constraint}
use Rattle.encoding.specs.Variables.{h_var}
use Rattle.venue_counts.specs.CountLogs.{slot_row, venue_row}
use Rattle.venue_counts.specs.Groups.{MakesNeed}
use Rattle.venue_counts.specs.Needs.{bounds_at, counts_home, need_by, own_need}
use Rattle.venue_counts.specs.declared.limit.Limit.{Limit}
use Rattle.venue_counts.specs.declared.limit.Limit.TheVariants.{Most, Least}
use Rattle.venue_counts.proofs.MemberLemmas.{Contains-filter, Contains-from_is_in, got-alone}
use Rattle.venue_counts.proofs.NeedLemmas.{need_by-others, need_by-own, those-same}

abbrev row : List Literal → ℕ → Row
row literals degree = record { terms = map unit literals; degree = degree }

same_row : (xs ys : List Literal) (d e : ℕ) → xs ≡ ys → d ≡ e → row xs d ≡ row ys e
same_row xs ys d e literals degree =
    ap (λ (ls : List Literal). row ls d) literals ∙ ap (λ (k : ℕ). row ys k) degree

-- ---- the rows of slots

-- at most half at home are at least half away
pub away_row : (n s : ℕ) → n % 2 ≡ 0
    → at_most (n / 2) (map (λ i. yes (h_var n i s)) (teams_of n)) ≡ slot_row n false s
away_row n s even =
    let home : ℕ → Literal = λ i. yes (h_var n i s) in
    same_row (map negate (map home (teams_of n))) (map (λ i. literal (h_var n i s) false) (teams_of n))
    (length (map home (teams_of n)) - n / 2) (n / 2) (map-map negate home (teams_of n))
    (omega (arith, length-map (teams_of n) home, length-range_with_len 0 n, even))

-- ---- the rows of teams

-- so many games of a team at the other venue
abbrev other_row : Limit → ℕ → Side → List ℕ → ℕ → ℕ → Row
other_row limit n side slots i need = venue_row n (not (counts_home limit side)) i slots need

-- the row of a bound
abbrev limit_row : Limit → ℕ → ℕ → ℕ → Side → List ℕ → ℕ → Row
limit_row Most n min max side slots i = at_most max (venues_in side n i slots)
limit_row Least n min max side slots i = at_least min (venues_in side n i slots)

limit_row-in : (limit : Limit) (n min max : ℕ) (side : Side) (slots : List ℕ) (i : ℕ)
    → Contains (ca1_rows n min max side slots i) (limit_row limit n min max side slots i)
limit_row-in Most n min max side slots i = (1, omega arith, refl)
limit_row-in Least n min max side slots i = (0, omega arith, refl)

limit_row-is : (limit : Limit) (n min max : ℕ) (side : Side) (slots : List ℕ) (i : ℕ) → is_one_side side ≡ true
    → limit_row limit n min max side slots i
    ≡ other_row limit n side slots i (own_need limit min max (length slots))
limit_row-is Most n min max H slots i one =
    let home : ℕ → Literal = λ s. yes (h_var n i s) in
    same_row (map negate (map home slots)) (map (λ s. literal (h_var n i s) false) slots)
    (length (map home slots) - max) (length slots - max) (map-map negate home slots)
    (ap (λ (k : ℕ). k - max) (length-map slots home))
limit_row-is Most n min max A slots i one =
    let away : ℕ → Literal = λ s. no (h_var n i s) in
    same_row (map negate (map away slots)) (map (λ s. literal (h_var n i s) true) slots)
    (length (map away slots) - max) (length slots - max) (map-map negate away slots)
    (ap (λ (k : ℕ). k - max) (length-map slots away))
limit_row-is Least n min max H slots i one = refl
limit_row-is Least n min max A slots i one = refl
limit_row-is limit n min max Both slots i one = absurd (cc)

none_needed : (limit : Limit) (side : Side) (slots : List ℕ) (i need : ℕ) (class : Class)
    → need_by limit side slots i class ≡ need → 0 < need → bounds_at side slots class ≡ false → ⊥
none_needed limit side slots i need class is some others =
    omega (arith, is, some, need_by-others limit side slots i class others)

own_row : (limit : Limit) (n : ℕ) (side : Side) (slots : List ℕ) (i need : ℕ) (teams : List ℕ) (min max : ℕ)
    → is_one_side side ≡ true → need_by limit side slots i (Ca1 teams min max side slots) ≡ need → 0 < need
    → Contains (class_rows n (Ca1 teams min max side slots)) (other_row limit n side slots i need)
own_row limit n side slots i need teams min max one is some =
    let made : need_by limit side slots i (Ca1 teams min max side slots)
    ≡ cond (is_in i teams) (own_need limit min max (length slots)) 0 =
    need_by-own limit side slots teams i min max in
    elim (cases_Bool (is_in i teams)) [
      | inl inside ↦
          let own : own_need limit min max (length slots) ≡ need =
          sym (ap (λ (b : Bool). cond b (own_need limit min max (length slots)) 0) inside) ∙ sym made ∙ is in
          let same : limit_row limit n min max side slots i ≡ other_row limit n side slots i need =
          limit_row-is limit n min max side slots i one
          ∙ ap (λ (k : ℕ). other_row limit n side slots i k) own in
          let rows_of_team : ℕ → List Row = ca1_rows n min max side slots in
          let here : Contains (rows_of_team i) (other_row limit n side slots i need) =
          subst (λ (r : Row). Contains (rows_of_team i) r) same (limit_row-in limit n min max side slots i) in
          Contains-filter demands (flat_map (λ rows. rows) (map rows_of_team teams))
          (other_row limit n side slots i need)
          (Contains-flat_map (λ (rows : List Row). rows) (map rows_of_team teams) (rows_of_team i)
          (other_row limit n side slots i need)
          (Contains-map rows_of_team teams i (Contains-from_is_in i teams inside)) here)
          (lt-ltb 0 need some)
      | inr outside ↦
          let nothing : need ≡ 0 =
          sym is ∙ made ∙ ap (λ (b : Bool). cond b (own_need limit min max (length slots)) 0) outside in
          absurd (omega (arith, nothing, some))
    ]

bounding_row : (limit : Limit) (n : ℕ) (side : Side) (slots : List ℕ) (i need : ℕ) (class : Class)
    → is_one_side side ≡ true → need_by limit side slots i class ≡ need → 0 < need
    → bounds_at side slots class ≡ true → Contains (class_rows n class) (other_row limit n side slots i need)
bounding_row limit n side slots i need (Ca1 teams min max other others) one is some bounds =
    let same = those-same side other slots others bounds in
    let own : Ca1 teams min max side slots ≡ Ca1 teams min max other others =
    ap (λ (s : Side). Ca1 teams min max s slots) same.0 ∙ ap (λ (ss : List ℕ). Ca1 teams min max other ss) same.1 in
    subst
    (λ (class : Class). need_by limit side slots i class ≡ need
    → Contains (class_rows n class) (other_row limit n side slots i need)) own
    (λ needed. own_row limit n side slots i need teams min max one needed some) is
bounding_row limit n side slots i need (Ca2 teams1 teams2 min max other others) one is some bounds = absurd (cc)
bounding_row limit n side slots i need (Ca3 teams1 teams2 min max intp other) one is some bounds = absurd (cc)
bounding_row limit n side slots i need (Ca4 teams1 teams2 min max other span others) one is some bounds = absurd (cc)
bounding_row limit n side slots i need (Ga1 meetings min max others) one is some bounds = absurd (cc)
bounding_row limit n side slots i need (Br1 teams intp other others) one is some bounds = absurd (cc)
bounding_row limit n side slots i need (Br2 teams intp others) one is some bounds = absurd (cc)
bounding_row limit n side slots i need (Fa2 teams intp others) one is some bounds = absurd (cc)
bounding_row limit n side slots i need (Se1 teams min) one is some bounds = absurd (cc)

class_row : (limit : Limit) (n : ℕ) (side : Side) (slots : List ℕ) (i need : ℕ) (class : Class)
    → is_one_side side ≡ true → need_by limit side slots i class ≡ need → 0 < need
    → Contains (class_rows n class) (other_row limit n side slots i need)
class_row limit n side slots i need class one is some =
    elim (cases_Bool (bounds_at side slots class)) [
      | inl bounds ↦ bounding_row limit n side slots i need class one is some bounds
      | inr others ↦ absurd (none_needed limit side slots i need class is some others)
    ]

-- a hard constraint by which a team needs games has a row that says so
pub team_row-of : (limit : Limit) (league : Instance) (side : Side) (slots : List ℕ) (i need k : ℕ)
    → is_one_side side ≡ true → 0 < need → MakesNeed limit league.constraints side slots i need k
    → Contains (rows_of_constraint league k) (venue_row league.n (not (counts_home limit side)) i slots need)
team_row-of limit league side slots i need k one some by =
    let n : ℕ = league.n in
    let c : Constraint = by.constraint in
    let own : Constraint → List Row = λ d. class_rows n d.class in
    let rows : rows_of_constraint league k ≡ class_rows n c.class ++ [] =
    ap (constraint_rows n) (got-alone league.constraints k c by.there)
    ∙ ap (λ (hard : Bool). flat_map own (cond hard (c ∷ []) [])) by.hard in
    subst (λ (rs : List Row). Contains rs (other_row limit n side slots i need)) (sym rows)
    (Contains-append_left (class_rows n c.class) [] (other_row limit n side slots i need)
    (class_row limit n side slots i need c.class one by.makes some))
