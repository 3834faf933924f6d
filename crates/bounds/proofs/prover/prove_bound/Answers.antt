use Rattle.std.proofs.Common.{◌≡◌, ℕ, inl, refl, subst, sym}
use Rattle.bounds.specs.Proofs.{IsSought}
use Rattle.bounds.specs.declared.proved.Proved.{Proved}
use Rattle.bounds.proofs.ProofLemmas.{none_below_0}
use Rattle.bounds.proofs.prover.prove_bound.Goals as goal

-- nothing costs less than 0
pub returns-then-bound-eq0 : goal.returns-then-bound-eq0
returns-then-bound-eq0 g c =
    let zero_bound : c.args.bound ≡ 0 = c.if-bound-eq0.true in (
      c.args.conflicts,
      inl refl,
      subst (λ (bound : ℕ). IsSought c.args.league.now bound c.args.conflicts c.least_of_all.result) (sym zero_bound)
          (subst (λ (p : Proved). IsSought c.args.league.now 0 c.args.conflicts p) (sym c.least_of_all.ensures)
          (refl, none_below_0 c.args.league.now c.args.conflicts)),
    )
