-- The sentence of each class by its parts, and that of a GA1 by how many meetings it has.
use Rattle.std.proofs.Common.{◌≡◌, ℕ, suc, ◌&&◌, ◌==◌, nat_lt, if◌then◌else◌, true, false, Bool, List, [], ◌∷◌, ◌++◌, length, map, codes, refl, ap, sym, ◌∙◌, arith, rules}
use Rattle.std.proofs.lemmas.Bool.Decides.{nat_tests}
use Rattle.std.specs.Prelude.{IsTrue}
use Rattle.league.specs.declared.class.Class.{Class}
use Rattle.league.specs.declared.class.Class.TheVariants.{Ca1, Ca2, Ca3, Ca4, Ga1, Br1, Br2, Fa2, Se1}
use Rattle.season_misses.specs.Demands.{demand_text, meeting_text, meetings_text}
use Rattle.season_misses.specs.Phrases.{bare_bounds_text, listed}
use Rattle.season_misses.specs.Sentences.{has_parts, is_one, not_text, parts_text}

pub parts_text-is : (n : ℕ) (names : List (List ℕ)) (class : Class) → IsTrue (has_parts class) → parts_text n names class ≡ demand_text n names class
parts_text-is n names (Ca1 teams min max side slots) parts = refl
parts_text-is n names (Ca2 teams1 teams2 min max side slots) parts = refl
parts_text-is n names (Ca3 teams1 teams2 min max intp side) parts = refl
parts_text-is n names (Ca4 teams1 teams2 min max side span slots) parts = refl
parts_text-is n names (Ga1 meetings min max slots) parts = cc
parts_text-is n names (Br1 teams intp side slots) parts = refl
parts_text-is n names (Br2 teams intp slots) parts = refl
parts_text-is n names (Fa2 teams intp slots) parts = refl
parts_text-is n names (Se1 teams min) parts = refl

-- ---- a GA1

no_two : (k : ℕ) (same few : Bool) → ((suc (suc k) == 1) && same && few) ≡ true → ⊥
no_two k same few one = first_of (cc, grind (arith, nat_tests), search (rules, nat_tests))

pub meetings_text-one : (names : List (List ℕ)) (min max : ℕ) (meetings : List (ℕ × ℕ)) (place games not : List ℕ)
    → is_one min max meetings ≡ true → games ≡ listed (codes "and") (map (meeting_text names) meetings) → not ≡ not_text max
    → codes "the game " ++ (games ++ (codes ": " ++ (not ++ (codes "in " ++ place)))) ≡ meetings_text names min max meetings place
meetings_text-one names min max [] place games not one is_games is_not = cc
meetings_text-one names min max (p ∷ []) place games not one is_games is_not =
    let told : Bool → List ℕ = λ (b : Bool). if b
    then codes "the game " ++ (meeting_text names p ++ (codes ": " ++ (not_text max ++ (codes "in " ++ place))))
    else codes "of the games " ++ (meeting_text names p ++ (codes ": " ++ (bare_bounds_text min max ++ (codes " in " ++ place)))) in
    ap (λ (x : List ℕ). codes "the game " ++ (x ++ (codes ": " ++ (not ++ (codes "in " ++ place))))) is_games
    ∙ ap (λ (x : List ℕ). codes "the game " ++ (meeting_text names p ++ (codes ": " ++ (x ++ (codes "in " ++ place))))) is_not
    ∙ ap told (sym one)
meetings_text-one names min max (p ∷ q ∷ meetings) place games not one is_games is_not = absurd (no_two (length meetings) (min == max) (nat_lt max 2) one)

pub meetings_text-some : (names : List (List ℕ)) (min max : ℕ) (meetings : List (ℕ × ℕ)) (place games bare : List ℕ)
    → (length meetings == 0) ≡ false → is_one min max meetings ≡ false → games ≡ listed (codes "and") (map (meeting_text names) meetings)
    → bare ≡ bare_bounds_text min max
    → codes "of the games " ++ (games ++ (codes ": " ++ (bare ++ (codes " in " ++ place)))) ≡ meetings_text names min max meetings place
meetings_text-some names min max [] place games bare some one is_games is_bare = cc
meetings_text-some names min max (p ∷ []) place games bare some one is_games is_bare =
    let told : Bool → List ℕ = λ (b : Bool). if b
    then codes "the game " ++ (meeting_text names p ++ (codes ": " ++ (not_text max ++ (codes "in " ++ place))))
    else codes "of the games " ++ (meeting_text names p ++ (codes ": " ++ (bare_bounds_text min max ++ (codes " in " ++ place)))) in
    ap (λ (x : List ℕ). codes "of the games " ++ (x ++ (codes ": " ++ (bare ++ (codes " in " ++ place))))) is_games
    ∙ ap (λ (x : List ℕ). codes "of the games " ++ (meeting_text names p ++ (codes ": " ++ (x ++ (codes " in " ++ place))))) is_bare
    ∙ ap told (sym one)
meetings_text-some names min max (p ∷ q ∷ meetings) place games bare some one is_games is_bare =
    ap (λ (x : List ℕ). codes "of the games " ++ (x ++ (codes ": " ++ (bare ++ (codes " in " ++ place))))) is_games
    ∙ ap (λ (x : List ℕ). codes "of the games " ++ (listed (codes "and") (map (meeting_text names) (p ∷ q ∷ meetings)) ++ (codes ": " ++ (x ++ (codes " in " ++ place))))) is_bare
