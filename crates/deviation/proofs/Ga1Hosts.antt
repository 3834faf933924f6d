-- Whether a team is at home in one of some meetings, by its meetings with each team.
use Rattle.std.proofs.Common.{◌≡◌, ℕ, ◌<◌, Bool, true, ◌&&◌, ◌==◌, List, get_or, arith, ap, subst, sym, ◌∙◌, inl, inr}
use Rattle.std.proofs.Common.{zero-add}
use Rattle.std.proofs.lemmas.Bool.{cases_Bool}
use Rattle.std.proofs.lemmas.Bool.Decides.{nat_tests}
use Rattle.std.proofs.lemmas.List.Folds.{Any-from_list_any, list_any-from_Any, list_any_at, list_any_none}
use Rattle.std.proofs.lemmas.List.FromFn.{get_or-range_with_len, length-range_with_len}
use Rattle.std.specs.List.{All, list_any, range_with_len}
use Rattle.rule_core.specs.Meetings.{is_listed}
use Rattle.rule_core.specs.Touched.{is_host}
use Rattle.rule_core.proofs.WatchLemmas.{is_listed-no_host}

-- a meeting with its home team is that with both its teams
with_both : (home t away : ℕ) → (home == t) ≡ true → ((home == t) && (away == away)) ≡ true
with_both home t away same = grind (arith, nat_tests)

-- a team is at home in one of some meetings where it is at home to one of the teams of the league
pub is_host-each : (n : ℕ) (meetings : List (ℕ × ℕ)) (t : ℕ) → All (λ p. (p.0 < n) × (p.1 < n)) meetings
    → list_any (λ away. is_listed meetings t away) (range_with_len 0 n) ≡ is_host meetings t
is_host-each n meetings t inside =
    let test : ℕ → Bool = λ away. is_listed meetings t away in
    elim (cases_Bool (is_host meetings t)) [
      | inl hosts ↦
          let at = Any-from_list_any (λ (p : ℕ × ℕ). p.0 == t) meetings hosts in
          let p : ℕ × ℕ = at.1 in
          let below : p.1 < n = subst (λ (q : ℕ × ℕ). q.1 < n) at.3 (inside at.0 p at.2).1 in
          let listed : test p.1 ≡ true =
          list_any-from_Any (λ (q : ℕ × ℕ). (q.0 == t) && (q.1 == p.1)) meetings
          (at.0, p, at.2, at.3, with_both p.0 t p.1 at.4) in
          list_any_at test (range_with_len 0 n) p.1 0 (omega (arith, length-range_with_len 0 n, below))
          (ap test (get_or-range_with_len 0 n p.1 0 below ∙ zero-add p.1) ∙ listed)
          ∙ sym hosts
      | inr out ↦
          list_any_none test (range_with_len 0 n)
          (λ k d lt. is_listed-no_host meetings t (get_or (range_with_len 0 n) k d) out)
          ∙ sym out
    ]
