use Rattle.std.proofs.Common.{◌≡◌, ◌+◌, ℕ, List, length, arith, ap, ◌∙◌}
use Rattle.std.proofs.lemmas.List.{length-set}
use Rattle.rows.specs.Codes.{code_of}
use Rattle.propagate.proofs.ChainLemmas.{AreHung-pushed}
use Rattle.propagate.proofs.watches.Watches.push_pair.Goals as goal

pub returns-clause-hung : goal.returns-clause-hung
returns-clause-hung c =
    let slots : length c.push.new.self.firsts.items ≡ length c.args.self.now.firsts.items =
    ap (λ (ns : List ℕ). length ns) c.push.ensures.firsts
    ∙ length-set c.args.self.now.firsts.items (code_of c.args.pair.first) (length c.args.self.now.nodes.items + 1)
    in
    AreHung-pushed c.push.new.self.firsts.items c.push-2.new.self.firsts.items c.push.new.self.nodes.items
    c.push-2.new.self.nodes.items c.args.pair.second c.args.row
    (AreHung-pushed c.args.self.now.firsts.items c.push.new.self.firsts.items c.args.self.now.nodes.items
    c.push.new.self.nodes.items c.args.pair.first c.args.row c.requires.hung c.requires.first
    c.push.ensures.nodes c.push.ensures.firsts)
    (omega (arith, slots, c.requires.second)) c.push-2.ensures.nodes c.push-2.ensures.firsts
