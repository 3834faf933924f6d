use Rattle.std.proofs.Common.{ap, ◌∙◌}
use Rattle.rule_core.specs.Keys.{with_keys}
use Rattle.rule_core.proofs.KeyLemmas.{no_more}
use Rattle.deviation.proofs.TouchLemmas.{away-none, away-one, both-away, both-home, both-none, both-two, home-none, home-one}
use Rattle.deviation.proofs.opponents.Opponents.touched.Goals as goal

pub returns-then-has : goal.returns-then-has
returns-then-has c = c.push_key.ensures ∙ ap (with_keys c.args.keys.now) (home-one c.args.self.now.teams1 c.args.self.now.teams2 c.args.game c.args.self.now.side c.in-H.is c.if-has.ensures)

pub returns-else-has : goal.returns-else-has
returns-else-has c = no_more c.args.keys.now _ (home-none c.args.self.now.teams1 c.args.self.now.teams2 c.args.game c.args.self.now.side c.in-H.is c.if-has.ensures)

pub returns-then-has-2 : goal.returns-then-has-2
returns-then-has-2 c = c.push_key-then-has-2.ensures ∙ ap (with_keys c.args.keys.now) (away-one c.args.self.now.teams1 c.args.self.now.teams2 c.args.game c.args.self.now.side c.in-A.is c.if-has-2.ensures)

pub returns-else-has-2 : goal.returns-else-has-2
returns-else-has-2 c = no_more c.args.keys.now _ (away-none c.args.self.now.teams1 c.args.self.now.teams2 c.args.game c.args.self.now.side c.in-A.is c.if-has-2.ensures)

pub returns-in-true-true : goal.returns-in-true-true
returns-in-true-true c = c.push_keys.ensures ∙ ap (with_keys c.args.keys.now) (both-two c.args.self.now.teams1 c.args.self.now.teams2 c.args.game c.args.self.now.side c.in-Both.is c.in-true-true.ensures c.in-true-true.ensures')

pub returns-in-true-false : goal.returns-in-true-false
returns-in-true-false c = c.push_key-in-true-false.ensures ∙ ap (with_keys c.args.keys.now) (both-home c.args.self.now.teams1 c.args.self.now.teams2 c.args.game c.args.self.now.side c.in-Both.is c.in-true-false.ensures c.in-true-false.ensures')

pub returns-in-false-true : goal.returns-in-false-true
returns-in-false-true c = c.push_key-in-false-true.ensures ∙ ap (with_keys c.args.keys.now) (both-away c.args.self.now.teams1 c.args.self.now.teams2 c.args.game c.args.self.now.side c.in-Both.is c.in-false-true.ensures c.in-false-true.ensures')

pub returns-in-false-false : goal.returns-in-false-false
returns-in-false-false c = no_more c.args.keys.now _ (both-none c.args.self.now.teams1 c.args.self.now.teams2 c.args.game c.args.self.now.side c.in-Both.is c.in-false-false.ensures c.in-false-false.ensures')
