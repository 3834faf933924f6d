use Rattle.std.proofs.Common.{ℕ, map, ap, arith, ◌∙◌}
use Rattle.league.specs.Counts.{slot_count}
use Rattle.rows.specs.Literals.{Literal, yes}
use Rattle.encoding.specs.Variables.{x_var}
use Rattle.encoding.proofs.AscendLemmas.{AscendsBy-below}
use Rattle.encoding.proofs.GrownLemmas.{grown_by_all, grown_by_one}
use Rattle.encoding.proofs.literals.add_games_of.Goals as goal

pub x_at-requires : goal.x_at-requires
x_at-requires c = record {
  at_most = c.requires.teams;
  home = c.requires.meeting.home;
  away = c.requires.meeting.away;
  differ = c.requires.meeting.differ;
  slot = AscendsBy-below (λ s. s) 0 c.args.slots.now (slot_count c.args.n) c.requires.slots c.loop-slot.slot-index 0
      c.loop-slot-test.true;
}

pub loop-slot-preserved : goal.loop-slot-preserved
loop-slot-preserved c =
    let game : ℕ → Literal = λ s. yes (x_var c.args.n c.args.meeting.0 c.args.meeting.1 s) in
    grown_by_one game c.args.literals.now.items c.loop-slot.literals.items c.push.new.self.items c.new.result
    c.args.slots.now c.loop-slot.slot-index 0 c.loop-slot-test.true c.loop-slot.invariant c.in_ok-push.ensures.items
    (c.new.ensures ∙ ap yes c.x_at.ensures.var)

pub returns : goal.returns
returns c =
    let game : ℕ → Literal = λ s. yes (x_var c.args.n c.args.meeting.0 c.args.meeting.1 s) in
    grown_by_all (map game) c.args.literals.now.items c.loop-slot.literals.items c.args.slots.now
    c.loop-slot.slot-index (omega arith) c.loop-slot.invariant
