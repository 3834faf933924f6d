-- The rows of a league, group after group.
use Rattle.std.proofs.Common.{◌≡◌, ℕ, ◌-◌, Bool, List, [], ◌++◌, ap, ◌∙◌, sym, subst, append_assoc}
use Rattle.std.specs.List.{All}
use Rattle.league.specs.Instance.{Instance, class_fits}
use Rattle.league.specs.declared.class.Constraint.{Constraint}
use Rattle.std.specs.Prelude.{IsTrue}
use Rattle.rows.specs.Rows.{Row}
use Rattle.encoding.specs.Encoding.{constraint_rows, season_rows}
use Rattle.encoding.specs.Season.{both_needed, break_rows, break_rows_at, neither_needed}
use Rattle.encoding.specs.Variables.{ab_var, h_var, hb_var}

pub made_rows : (n m : ℕ) (phased asked breaks : Bool) (cs ds : List Constraint) (start season tied all : List Row)
    → all ≡ tied ++ constraint_rows m ds → tied ≡ season ++ break_rows m breaks
    → season ≡ start ++ season_rows m asked → start ≡ [] → m ≡ n → asked ≡ phased → ds ≡ cs
    → all ≡ season_rows n phased ++ break_rows n breaks ++ constraint_rows n cs
made_rows n m phased asked breaks cs ds start season tied all is_all is_tied is_season none same_n same_phased same =
    is_all
    ∙ ap (λ (rows : List Row). rows ++ constraint_rows m ds) is_tied
    ∙ ap (λ (rows : List Row). rows ++ break_rows m breaks ++ constraint_rows m ds) is_season
    ∙ ap (λ (rows : List Row). rows ++ season_rows m asked ++ break_rows m breaks ++ constraint_rows m ds) none
    ∙ ap (λ (k : ℕ). season_rows k asked ++ break_rows k breaks ++ constraint_rows k ds) same_n
    ∙ ap (λ (b : Bool). season_rows n b ++ break_rows n breaks ++ constraint_rows n ds) same_phased
    ∙ ap (λ (es : List Constraint). season_rows n phased ++ break_rows n breaks ++ constraint_rows n es) same

-- the same constraints fit
pub fit_alike : (league : Instance) (n : ℕ) (constraints : List Constraint) → n ≡ league.n
    → constraints ≡ league.constraints → All (λ c. IsTrue (class_fits league.n c.class)) league.constraints
    → All (λ c. IsTrue (class_fits n c.class)) constraints
fit_alike league n constraints same_n same_constraints fit =
    subst (λ (cs : List Constraint). All (λ c. IsTrue (class_fits n c.class)) cs) (sym same_constraints)
    (subst (λ (k : ℕ). All (λ c. IsTrue (class_fits k c.class)) league.constraints) (sym same_n) fit)

-- the rows of a break, clause after clause
pub break_rows_made : (n m i s p q home away : ℕ) (start first all : List Row)
    → m ≡ n → p ≡ h_var m i (s - 1) → q ≡ h_var m i s → home ≡ hb_var m i s → away ≡ ab_var m i s
    → first ≡ start ++ both_needed p q home → all ≡ first ++ neither_needed p q away
    → all ≡ start ++ break_rows_at n i s
break_rows_made n m i s p q home away start first all same is_p is_q is_home is_away is_first is_all =
    let before : ℕ = h_var m i (s - 1) in
    let now : ℕ = h_var m i s in
    is_all
    ∙ ap (λ (rows : List Row). rows ++ neither_needed p q away) is_first
    ∙ append_assoc start (both_needed p q home) (neither_needed p q away)
    ∙ ap (λ (x : ℕ). start ++ (both_needed x q home ++ neither_needed x q away)) is_p
    ∙ ap (λ (x : ℕ). start ++ (both_needed before x home ++ neither_needed before x away)) is_q
    ∙ ap (λ (x : ℕ). start ++ (both_needed before now x ++ neither_needed before now away)) is_home
    ∙ ap (λ (x : ℕ). start ++ (both_needed before now (hb_var m i s) ++ neither_needed before now x)) is_away
    ∙ ap (λ (k : ℕ). start ++ break_rows_at k i s) same
