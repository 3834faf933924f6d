use Rattle.std.proofs.Common.{◌≡◌, length, arith}
use Rattle.rule_core.proofs.PairLemmas.{key_computed}
use Rattle.rule_core.proofs.pairs.Pairs.key.Goals as goal

pub overflow_sub-result-2 : goal.overflow_sub-result-2
overflow_sub-result-2 c =
    let inside = c.self.inside in
    let pairs_counted : c.len-2.result ≡ length inside.pairs.items = omega (arith, inside.pairs.ok) in
    (key_computed inside.teams inside.pairs.items c.args.self.now c.self.invariant c.self.view_is c.len.result c.len-2.result c.args.first c.args.second c.len.ensures pairs_counted c.requires.before c.requires.within).0

pub returns : goal.returns
returns c =
    let inside = c.self.inside in
    let pairs_counted : c.len-2.result ≡ length inside.pairs.items = omega (arith, inside.pairs.ok) in
    (key_computed inside.teams inside.pairs.items c.args.self.now c.self.invariant c.self.view_is c.len.result c.len-2.result c.args.first c.args.second c.len.ensures pairs_counted c.requires.before c.requires.within).1
