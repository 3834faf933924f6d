use Rattle.std.proofs.Common.{ℕ, map, refl, arith, List}
use Rattle.std.specs.List.{flat_map}
use Rattle.rows.specs.Literals.{Literal, yes}
use Rattle.encoding.specs.Variables.{x_var}
use Rattle.encoding.proofs.GrownLemmas.{grown, grown_by_all}
use Rattle.encoding.proofs.literals.add_games.Goals as goal

pub add_games_of-requires : goal.add_games_of-requires
add_games_of-requires c = record {
  teams = c.requires.teams;
  meeting = c.requires.meetings.fit c.loop-meeting.meeting-index (0, 0) c.loop-meeting-test.true;
  slots = c.requires.slots;
}

pub loop-meeting-preserved : goal.loop-meeting-preserved
loop-meeting-preserved c =
    let games : ℕ × ℕ → List Literal = λ p. map (λ s. yes (x_var c.args.n p.0 p.1 s)) c.args.slots.now in
    grown games c.args.literals.now.items c.loop-meeting.literals.items c.add_games_of.new.literals.items _
    c.args.meetings.now c.loop-meeting.meeting-index (0, 0) c.loop-meeting-test.true c.loop-meeting.invariant
    c.in_ok-add_games_of.ensures refl

pub returns : goal.returns
returns c =
    let games : ℕ × ℕ → List Literal = λ p. map (λ s. yes (x_var c.args.n p.0 p.1 s)) c.args.slots.now in
    grown_by_all (flat_map games) c.args.literals.now.items c.loop-meeting.literals.items c.args.meetings.now
    c.loop-meeting.meeting-index (omega arith) c.loop-meeting.invariant
