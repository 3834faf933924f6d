use Rattle.std.proofs.Common.{ℕ, cond, ap, arith}
use Rattle.rule_core.specs.Places.{hosts, visits}
use Rattle.rule_core.specs.declared.place.Place.{Place}
use Rattle.deviation.proofs.gaps.games_in.Goals as goal

pub returns-in-Free-clause-games : goal.returns-in-Free-clause-games
returns-in-Free-clause-games c =
    omega (
      arith,
      ap (λ (p : Place). cond {A = ℕ} (hosts p c.args.other.0) 1 0) c.in-Free.is,
      ap (λ (p : Place). cond {A = ℕ} (visits p c.args.other.0) 1 0) c.in-Free.is,
    )

pub returns-in-Home-clause-games : goal.returns-in-Home-clause-games
returns-in-Home-clause-games c =
    omega (
      arith,
      c.once_if.ensures.once,
      ap (λ (p : Place). cond {A = ℕ} (hosts p c.args.other.0) 1 0)
          c.in-Home.is,
      ap (λ (p : Place). cond {A = ℕ} (visits p c.args.other.0) 1 0) c.in-Home.is,
    )

pub returns-in-Away-clause-games : goal.returns-in-Away-clause-games
returns-in-Away-clause-games c =
    omega (
      arith,
      c.once_if-in-Away.ensures.once,
      ap (λ (p : Place). cond {A = ℕ} (hosts p c.args.other.0) 1 0)
          c.in-Away.is,
      ap (λ (p : Place). cond {A = ℕ} (visits p c.args.other.0) 1 0) c.in-Away.is,
    )
