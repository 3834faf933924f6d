use Rattle.std.proofs.Common.{ℕ, ◌<◌, List, length, arith, refl}
use Rattle.rule_core.proofs.SpareLemmas.{less_written, read_counted, there_inside}
use Rattle.rule_core.proofs.spare.take_copy.Goals as goal

pub index_mut-requires : goal.index_mut-requires
index_mut-requires c =
    omega (
      arith,
      c.args.spare.now.ok,
      c.place_of.ensures,
      there_inside c.args.spare.now.items c.args.game c.requires.home c.requires.away c.requires.there,
    )

pub overflow_sub-index_mut : goal.overflow_sub-index_mut
overflow_sub-index_mut c =
    let xs : List ℕ = c.args.spare.now.items in
    let inside : c.place_of.result < length xs = omega (
      arith,
      c.place_of.ensures,
      there_inside xs c.args.game c.requires.home c.requires.away c.requires.there,
    ) in
    omega (
      arith,
      c.requires.there,
      read_counted xs c.args.game c.place_of.result c.index_mut.result.now c.requires.home c.requires.away
          c.place_of.ensures inside c.index_mut.ensures.value,
    )

pub returns-clause-counts : goal.returns-clause-counts
returns-clause-counts c =
    less_written c.args.spare.now.items _ c.args.game c.place_of.result c.index_mut.result.now c.requires.home
    c.requires.away c.place_of.ensures c.requires.there c.index_mut.ensures.value refl
