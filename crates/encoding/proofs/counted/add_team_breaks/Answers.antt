use Rattle.std.proofs.Common.{ℕ, cond, map, refl, arith, List}
use Rattle.std.specs.List.{flat_map}
use Rattle.rows.specs.Literals.{Literal, yes}
use Rattle.encoding.specs.Lists.{after_first}
use Rattle.encoding.specs.Variables.{ab_var, hb_var}
use Rattle.encoding.proofs.AscendLemmas.{AscendsBy-below}
use Rattle.encoding.proofs.GrownLemmas.{grown, grown_by_all}
use Rattle.encoding.proofs.counted.add_team_breaks.Goals as goal

pub add_breaks_of-requires : goal.add_breaks_of-requires
add_breaks_of-requires c = record {
  n = c.requires.n;
  team = AscendsBy-below (λ t. t) 0 c.args.teams.now c.args.n c.requires.teams c.loop-team.team-index 0
      c.loop-team-test.true;
  slots = c.requires.slots;
}

pub loop-team-preserved : goal.loop-team-preserved
loop-team-preserved c =
    let n = c.args.n in
    let breaks : ℕ → List Literal = λ i.
    map (λ s. yes (cond c.args.home (hb_var n i s) (ab_var n i s))) (after_first c.args.slots.now) in
    grown breaks c.args.literals.now.items c.loop-team.literals.items c.add_breaks_of.new.literals.items _
    c.args.teams.now c.loop-team.team-index 0 c.loop-team-test.true c.loop-team.invariant
    c.in_ok-add_breaks_of.ensures refl

pub returns : goal.returns
returns c =
    let n = c.args.n in
    let breaks : ℕ → List Literal = λ i.
    map (λ s. yes (cond c.args.home (hb_var n i s) (ab_var n i s))) (after_first c.args.slots.now) in
    grown_by_all (flat_map breaks) c.args.literals.now.items c.loop-team.literals.items c.args.teams.now
    c.loop-team.team-index (omega arith) c.loop-team.invariant
