use Rattle.std.proofs.Common.{ℕ, ◌<◌, ◌+◌, ◌-◌, List, length, refl, arith, ap, subst}
use Rattle.propagate.specs.Links.{IsLastBelow, IsListed}
use Rattle.propagate.specs.Looks.{IsReady}
use Rattle.propagate.specs.Paths.{SeenPath}
use Rattle.propagate.specs.Trails.{values_of}
use Rattle.propagate.specs.declared.entry.Conflict.{Conflict}
use Rattle.propagate.specs.declared.link.Link.{Link}
use Rattle.propagate.proofs.LookLemmas.{AreGivenSeen-end, IsGrownOver-trans, IsReady-grown, IsVisiting}
use Rattle.propagate.proofs.LookLemmas.{IsVisiting-left, IsVisiting-more, IsVisiting-none, NamesConflict-at, visiting_last}
use Rattle.propagate.proofs.WalkLemmas.{falsified_known}
use Rattle.propagate.proofs.settle.visit_rows.Goals as goal

pub links-links-requires : goal.links-links-requires
links-links-requires c =
    falsified_known c.args.path.now c.args.looked.entries c.args.falsified c.requires.ready.sound c.requires.there
    c.requires.falsified

pub past_quiet-at-requires-clause-known : goal.past_quiet-at-requires-clause-known
past_quiet-at-requires-clause-known c =
    falsified_known c.args.path.now c.args.looked.entries c.args.falsified c.requires.ready.sound c.requires.there
    c.requires.falsified

pub past_quiet-at-requires-clause-within : goal.past_quiet-at-requires-clause-within
past_quiet-at-requires-clause-within c =
    omega (arith, ap (λ (ls : List Link). length ls) c.links-links.ensures.are)

pub rows-init : goal.rows-init
rows-init c =
    IsVisiting-left c.args.path.now c.args.path.now c.args.looked c.args.falsified (length c.links-links.result.now) c.past_quiet-at.result
    c.past_quiet-at.ensures.within
    (IsVisiting-none c.args.path.now c.args.looked c.args.falsified (length c.links-links.result.now) c.requires.ready c.requires.there
    c.requires.falsified
    (subst (λ (ls : List Link). IsListed c.args.path.now.rows c.args.path.now.given c.args.falsified ls)
    c.links-links.ensures.are c.links-links.ensures.listed)
    (ap (λ (ls : List Link). length ls) c.links-links.ensures.are))
    c.past_quiet-at.ensures.quiet

pub link-link-requires-clause-known : goal.link-link-requires-clause-known
link-link-requires-clause-known c =
    falsified_known c.rows.path c.args.looked.entries c.args.falsified c.rows.invariant.ready.sound
    c.rows.invariant.there c.rows.invariant.literal

pub link-link-requires-clause-there : goal.link-link-requires-clause-there
link-link-requires-clause-there c = omega (arith, c.rows.invariant.leads.within)

pub look-requires-clause-sound : goal.look-requires-clause-sound
look-requires-clause-sound c = c.rows.invariant.ready.sound

pub look-requires-clause-there : goal.look-requires-clause-there
look-requires-clause-there c =
    let last : IsLastBelow c.rows.path.rows c.args.falsified c.rows.invariant.bound c.link-link.result =
    visiting_last c.args.path.now c.rows.path c.args.looked c.args.falsified c.rows.at c.link-link.result
    c.rows.invariant (omega arith) c.link-link.ensures in
    omega (arith, last.below, c.rows.invariant.within)

pub past_quiet-at-requires-in-rows-clause-known : goal.past_quiet-at-requires-in-rows-clause-known
past_quiet-at-requires-in-rows-clause-known c =
    let ready : IsReady c.look.new.path c.args.looked =
    IsReady-grown c.rows.path c.look.new.path c.args.looked c.rows.invariant.ready c.look.ensures.grown in
    let more : IsVisiting c.args.path.now c.look.new.path c.args.looked c.args.falsified (c.rows.at - 1) =
    IsVisiting-more c.args.path.now c.rows.path c.look.new.path c.args.looked c.args.falsified c.rows.at
    c.link-link.result c.rows.invariant (omega arith) c.link-link.ensures c.look.ensures.grown
    (c.if-not-look.ensures.met refl) in
    falsified_known c.look.new.path c.args.looked.entries c.args.falsified ready.sound more.there more.literal

pub past_quiet-at-requires-in-rows-clause-within : goal.past_quiet-at-requires-in-rows-clause-within
past_quiet-at-requires-in-rows-clause-within c =
    let more : IsVisiting c.args.path.now c.look.new.path c.args.looked c.args.falsified (c.rows.at - 1) =
    IsVisiting-more c.args.path.now c.rows.path c.look.new.path c.args.looked c.args.falsified c.rows.at
    c.link-link.result c.rows.invariant (omega arith) c.link-link.ensures c.look.ensures.grown
    (c.if-not-look.ensures.met refl) in
    more.leads.within

pub rows-preserved : goal.rows-preserved
rows-preserved c =
    let more : IsVisiting c.args.path.now c.look.new.path c.args.looked c.args.falsified (c.rows.at - 1) =
    IsVisiting-more c.args.path.now c.rows.path c.look.new.path c.args.looked c.args.falsified c.rows.at
    c.link-link.result c.rows.invariant (omega arith) c.link-link.ensures c.look.ensures.grown
    (c.if-not-look.ensures.met refl) in
    IsVisiting-left c.args.path.now c.look.new.path c.args.looked c.args.falsified (c.rows.at - 1)
    c.past_quiet-at-in-rows.result c.past_quiet-at-in-rows.ensures.within more c.past_quiet-at-in-rows.ensures.quiet

pub returns-then-not-look-clause-grown : goal.returns-then-not-look-clause-grown
returns-then-not-look-clause-grown c =
    IsGrownOver-trans c.args.path.now c.rows.path c.look.new.path c.rows.invariant.grown c.look.ensures.grown

pub returns-then-not-look-clause-ready : goal.returns-then-not-look-clause-ready
returns-then-not-look-clause-ready c =
    IsReady-grown c.rows.path c.look.new.path c.args.looked c.rows.invariant.ready c.look.ensures.grown

pub returns-then-not-look-clause-conflict : goal.returns-then-not-look-clause-conflict
returns-then-not-look-clause-conflict c =
    let last : IsLastBelow c.rows.path.rows c.args.falsified c.rows.invariant.bound c.link-link.result =
    visiting_last c.args.path.now c.rows.path c.args.looked c.args.falsified c.rows.at c.link-link.result
    c.rows.invariant (omega arith) c.link-link.ensures in
    let there : c.link-link.result.row < length c.look.new.path.rows =
    omega (
      arith,
      last.below,
      c.rows.invariant.within,
      c.rows.invariant.ready.sound.given,
      ap (λ (p : SeenPath). length p.rows) c.look.ensures.grown.same,
    ) in
    NamesConflict-at c.look.new.path.rows (values_of c.look.new.path.entries) c.link-link.result.row
    (record { row = c.from.result + 1 }) there
    (ap (λ (n : ℕ). let x : Conflict = record { row = n + 1 } in x) c.from.ensures)
    (c.if-not-look.ensures.conflict refl)

pub returns-clause-grown : goal.returns-clause-grown
returns-clause-grown c = c.rows.invariant.grown

pub returns-clause-ready : goal.returns-clause-ready
returns-clause-ready c = c.rows.invariant.ready

pub returns-clause-visited : goal.returns-clause-visited
returns-clause-visited c =
    λ none. AreGivenSeen-end c.args.path.now c.rows.path c.args.looked c.args.falsified c.rows.at c.rows.invariant
    (omega arith)
