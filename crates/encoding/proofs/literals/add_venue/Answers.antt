use Rattle.std.proofs.Common.{ℕ, map, ap, arith, ◌∙◌}
use Rattle.league.specs.Counts.{slot_count}
use Rattle.rows.specs.Sums.{literal}
use Rattle.encoding.specs.Variables.{h_var}
use Rattle.encoding.proofs.AscendLemmas.{AscendsBy-below}
use Rattle.encoding.proofs.GrownLemmas.{grown_by_all, grown_by_one}
use Rattle.encoding.proofs.literals.add_venue.Goals as goal

pub h_at-requires : goal.h_at-requires
h_at-requires c = record {
  at_most = c.requires.teams;
  team = c.requires.team;
  slot = AscendsBy-below (λ s. s) 0 c.args.slots.now (slot_count c.args.n) c.requires.slots c.loop-slot.slot-index 0
      c.loop-slot-test.true;
}

pub loop-slot-preserved : goal.loop-slot-preserved
loop-slot-preserved c =
    grown_by_one (λ s. literal (h_var c.args.n c.args.team s) c.args.home) c.args.literals.now.items
    c.loop-slot.literals.items c.push.new.self.items c.new.result c.args.slots.now c.loop-slot.slot-index 0
    c.loop-slot-test.true c.loop-slot.invariant c.in_ok-push.ensures.items
    (c.new.ensures ∙ ap (λ (v : ℕ). literal v c.args.home) c.h_at.ensures.var)

pub returns : goal.returns
returns c =
    grown_by_all (map (λ s. literal (h_var c.args.n c.args.team s) c.args.home)) c.args.literals.now.items
    c.loop-slot.literals.items c.args.slots.now c.loop-slot.slot-index (omega arith) c.loop-slot.invariant
