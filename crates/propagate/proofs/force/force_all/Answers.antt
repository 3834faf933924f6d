use Rattle.std.proofs.Common.{◌<◌, ◌+◌, length, refl, arith, ap}
use Rattle.propagate.specs.Paths.{SeenPath}
use Rattle.propagate.proofs.LookLemmas.{AreSound-grown, IsForcedUpTo-more, IsForcedUpTo-none, IsQuietRow-forced, forced_known}
use Rattle.propagate.proofs.force.force_all.Goals as goal

pub terms-init : goal.terms-init
terms-init c = IsForcedUpTo-none c.args.place c.args.slack c.args.path.now c.requires.sound c.requires.slack

pub next_forced-requires-clause-sound : goal.next_forced-requires-clause-sound
next_forced-requires-clause-sound c = AreSound-grown c.args.path.now c.terms.path c.requires.sound c.terms.invariant.grown

pub force-requires-clause-known : goal.force-requires-clause-known
force-requires-clause-known c =
    let there : c.args.place < length c.terms.path.rows = omega (arith, c.requires.there, ap (λ (p : SeenPath). length p.rows) c.terms.invariant.grown.same) in
    forced_known c.terms.path c.args.place c.args.slack c.terms.from c.in-Some.forced (AreSound-grown c.args.path.now c.terms.path c.requires.sound c.terms.invariant.grown) there c.in-Some.ensures.some

pub overflow_add-from : goal.overflow_add-from
overflow_add-from c = omega (arith, c.in-Some.ensures.few)

pub terms-preserved : goal.terms-preserved
terms-preserved c =
    let there : c.args.place < length c.terms.path.rows = omega (arith, c.requires.there, ap (λ (p : SeenPath). length p.rows) c.terms.invariant.grown.same) in
    IsForcedUpTo-more c.args.place c.args.slack c.terms.from (c.args.place + 1) c.in-Some.forced c.args.path.now c.terms.path c.force.new.self c.requires.sound there refl c.force.ensures.from_one
    c.terms.invariant c.in-Some.ensures.some c.force.ensures.forced

pub returns-clause-quiet : goal.returns-clause-quiet
returns-clause-quiet c = IsQuietRow-forced c.args.place c.args.slack c.terms.from c.args.path.now c.terms.path c.terms.invariant (c.in_default.ensures.none refl)
