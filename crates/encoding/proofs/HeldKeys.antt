-- Keys as they are held, and what they count.
use Rattle.std.proofs.Common.{◌≡◌, ℕ, ◌<◌, true, not, ◌==◌, List, [], ◌∷◌, ap, refl, sym, subst, ◌∙◌, arith}
use Rattle.std.proofs.lemmas.Bool.{le-ltb, lt-ltb}
use Rattle.std.proofs.lemmas.Bool.Decides.{nat_tests}
use Rattle.std.specs.List.{range_with_len}
use Rattle.league.specs.Capacity.{meetings_with}
use Rattle.league.specs.declared.class.Side.TheVariants.{Both}
use Rattle.rows.specs.Literals.{Literal}
use Rattle.encoding.specs.Ascending.{AreTeams}
use Rattle.encoding.specs.Keys.{Bounded, held, literals_of}
use Rattle.encoding.specs.Lists.{meetings_in_order}
use Rattle.encoding.specs.declared.keys.Counted.{Counted}
use Rattle.encoding.specs.declared.keys.Key.{Key}
use Rattle.encoding.proofs.AscendLemmas.{AscendsBy-low, AscendsBy-range}

abbrev pub bounded : ℕ → ℕ → List Literal → Bounded
bounded low high literals = record { low = low; high = high; literals = literals }

pub same_key : (n : ℕ) (key : Key) (counted : Counted) (low high : ℕ) (literals : List Literal) → key.low ≡ low
    → key.high ≡ high → key.counted ≡ counted → literals_of n counted ≡ literals
    → held n key ≡ bounded low high literals
same_key n key counted low high literals same_low same_high same_counted same_literals =
    ap (λ (k : ℕ). bounded k key.high (literals_of n key.counted)) same_low
    ∙ ap (λ (k : ℕ). bounded low k (literals_of n key.counted)) same_high
    ∙ ap (λ (c : Counted). bounded low high (literals_of n c)) same_counted
    ∙ ap (bounded low high) same_literals

-- the meetings of a team with one later team, in order
pub in_order-one : (i j : ℕ) → i < j → meetings_in_order Both i (j ∷ []) ≡ meetings_with Both i (j ∷ [])
in_order-one i j order =
    let other : not (j == i) ≡ true = grind (arith, nat_tests) in
    rw (le-ltb j i (omega (arith, order))) (rw (lt-ltb i j order) (rw other refl))

-- one team
pub one_team : (n j : ℕ) (teams : List ℕ) → j < n → teams ≡ range_with_len j 1 → AreTeams n teams
one_team n j teams within is =
    subst (λ (ts : List ℕ). AreTeams n ts) (sym is)
    (AscendsBy-low (λ t. t) 0 j (range_with_len j 1) n (omega arith) (AscendsBy-range j 1 n (omega (arith, within))))
