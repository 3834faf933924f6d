use Rattle.std.proofs.Common.{◌≤◌, arith, inl, refl, subst, sym, ◌∙◌}
use Rattle.league.specs.Accepted.{objective}
use Rattle.league.specs.Counts.{counts_of}
use Rattle.robin_watch.specs.Limits.{IsKeptTo}
use Rattle.solve.proofs.FewLemmas.{round_robin-few}
use Rattle.bounds.specs.Proofs.{IsProved}
use Rattle.bounds.specs.declared.proved.Proved.{Proved}
use Rattle.bounds.proofs.ProofLemmas.{below-of, least_of_none, objective_small, proved-said}
use Rattle.bounds.proofs.prover.prove.Goals as goal

pub in_64_bits-objective-requires : goal.in_64_bits-objective-requires
in_64_bits-objective-requires g c =
    omega (
      arith,
      c.requires.assessed,
      objective_small c.args.league.now (counts_of c.args.schedule.now) c.args.counted.terms c.requires.terms
          c.requires.accepted,
    )

pub lowered_watched-requires-clause-few : goal.lowered_watched-requires-clause-few
lowered_watched-requires-clause-few g c =
    round_robin-few c.args.league.now.n c.args.league.now.phased c.args.schedule.now c.requires.terms.instance.teams
    c.requires.fit c.requires.accepted.round_robin

pub returns-then-objective-eq0 : goal.returns-then-objective-eq0
returns-then-objective-eq0 g c = (
  c.args.conflicts,
  inl refl,
  subst
      (λ (p : Proved). IsProved c.args.league.now (counts_of c.args.schedule.now) c.args.conflicts
      (g.W.Watch.may_stop c.args.watch.now) p) (sym c.least_of_all.ensures)
      (least_of_none c.args.league.now (counts_of c.args.schedule.now) c.args.conflicts
      (omega (arith, c.in_64_bits-objective.ensures, c.requires.assessed))),
)

pub returns-then-lower-from : goal.returns-then-lower-from
returns-then-lower-from g c = (
  c.args.conflicts,
  inl refl,
  subst
      (λ (p : Proved). IsProved c.args.league.now (counts_of c.args.schedule.now) c.args.conflicts
      (g.W.Watch.may_stop c.args.watch.now) p) (sym c.bettered.ensures)
      (below-of c.args.league.now (objective c.args.league.now (counts_of c.args.schedule.now))
      c.in_ok-lower.ensures.season.kept
      c.in_ok-lower.lower.objective c.in_ok-lower.lower.schedule c.in_ok-lower.lower.descent
      c.in_ok-lower.ensures.season.is_season
      (omega (arith, c.if-lower-from.true, c.from.ensures, c.in_64_bits-objective.ensures, c.requires.assessed))),
)

pub returns : goal.returns
returns g c =
    let no_lower : objective c.args.league.now (counts_of c.args.schedule.now) ≤ c.in_ok-lower.lower.objective =
    omega (arith, c.if-lower-from.false, c.from.ensures, c.in_64_bits-objective.ensures, c.requires.assessed) in
    let may_stop = g.W.Watch.may_stop c.args.watch.now in
    proved-said c.args.league.now (counts_of c.args.schedule.now) (IsKeptTo c.args.conflicts may_stop) may_stop _
    c.searched.result
    (sym (c.in_64_bits-objective.ensures ∙ c.requires.assessed)) (c.in_ok-lower.ensures.settles (omega arith) no_lower)
    c.searched.ensures
