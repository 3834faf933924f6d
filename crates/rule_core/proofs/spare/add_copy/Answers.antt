use Rattle.std.proofs.Common.{ℕ, ◌+◌, ◌*◌, ◌<◌, List, length, arith, refl}
use Rattle.std.proofs.lemmas.List.{length-set}
use Rattle.rule_core.proofs.SpareLemmas.{more_written, read_counted, same_numbers}
use Rattle.rule_core.proofs.spare.add_copy.Goals as goal

pub index_mut-requires : goal.index_mut-requires
index_mut-requires c =
    omega (arith, c.reach.new.spare.ok, c.reach.ensures.reached, c.place_of.ensures, c.requires.home, c.requires.away)

pub overflow_add-index_mut : goal.overflow_add-index_mut
overflow_add-index_mut c =
    let xs : List ℕ = c.reach.new.spare.items in
    let inside : c.place_of.result < length xs = omega
    (arith, c.reach.ensures.reached, c.place_of.ensures, c.requires.home, c.requires.away) in
    omega (
      arith,
      read_counted xs c.args.game c.place_of.result c.index_mut.result.now c.requires.home c.requires.away
          c.place_of.ensures inside c.index_mut.ensures.value,
      same_numbers c.args.spare.now.items xs c.reach.ensures.same c.args.game.home.0 c.args.game.away.0
          c.args.game.slot.0,
      c.requires.few c.args.game.home.0 c.args.game.away.0 c.args.game.slot.0,
    )

pub returns-clause-counts : goal.returns-clause-counts
returns-clause-counts c =
    let xs : List ℕ = c.reach.new.spare.items in
    let inside : c.place_of.result < length xs = omega
    (arith, c.reach.ensures.reached, c.place_of.ensures, c.requires.home, c.requires.away) in
    more_written c.args.spare.now.items xs _ c.args.game c.place_of.result c.index_mut.result.now c.requires.home
    c.requires.away c.reach.ensures.same c.place_of.ensures inside c.index_mut.ensures.value refl

pub returns-clause-short : goal.returns-clause-short
returns-clause-short c slots in_slot old =
    let xs : List ℕ = c.reach.new.spare.items in
    omega (
      arith,
      length-set xs c.place_of.result (c.index_mut.result.now + 1),
      c.reach.ensures.short (slots * 1600) old (omega arith),
    )
