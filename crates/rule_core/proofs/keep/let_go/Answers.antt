use Rattle.std.proofs.Common.{length, arith}
use Rattle.rule_core.proofs.KeepLemmas.{put_counts, read_guest, read_home, spare_kept, spare_there, taken_kept}
use Rattle.rule_core.proofs.SpareLemmas.{AreSpare-less}
use Rattle.rule_core.proofs.TableLemmas.{place_in_rows}
use Rattle.rule_core.proofs.keep.let_go.Goals as goal

pub read_place-home-requires-clause-place : goal.read_place-home-requires-clause-place
read_place-home-requires-clause-place c = place_in_rows c.args.n c.args.game.home.0 c.args.game.slot.0
    c.slot_count-slots.result (length c.args.places.now.items) c.slot_count-slots.ensures c.requires.table.size
    c.requires.fits.home c.requires.fits.slot

pub take_off-requires-clause-home : goal.take_off-requires-clause-home
take_off-requires-clause-home c = place_in_rows c.args.n c.args.game.home.0 c.args.game.slot.0
    c.slot_count-slots.result (length c.args.places.now.items) c.slot_count-slots.ensures c.requires.table.size
    c.requires.fits.home c.requires.fits.slot

pub take_off-requires-clause-away : goal.take_off-requires-clause-away
take_off-requires-clause-away c = place_in_rows c.args.n c.args.game.away.0 c.args.game.slot.0
    c.slot_count-slots.result (length c.args.places.now.items) c.slot_count-slots.ensures c.requires.table.size
    c.requires.fits.away c.requires.fits.slot

pub take_off-requires-clause-at_home : goal.take_off-requires-clause-at_home
take_off-requires-clause-at_home c = read_home c.slot_count-slots.result c.args.game c.args.places.now.items
    c.read_place-home.result c.is_home_to.result c.read_place-home.ensures c.is_home_to.ensures c.if-is_home_to.true

pub take_off-requires-clause-is_away : goal.take_off-requires-clause-is_away
take_off-requires-clause-is_away c = read_guest c.args.n c.slot_count-slots.result c.args.game
    c.args.places.now.items c.args.spare.now.items c.read_place-home.result c.is_home_to.result
    c.slot_count-slots.ensures c.requires.table c.read_place-home.ensures c.is_home_to.ensures c.if-is_home_to.true

pub take_copy-requires-clause-there : goal.take_copy-requires-clause-there
take_copy-requires-clause-there c = spare_there c.args.n c.slot_count-slots.result c.args.game
    c.args.places.now.items c.args.spare.now.items c.read_place-home.result c.is_home_to.result
    c.slot_count-slots.ensures c.read_place-home.ensures c.is_home_to.ensures c.if-is_home_to.false c.requires.there

pub returns-then-is_home_to-clause-table : goal.returns-then-is_home_to-clause-table
returns-then-is_home_to-clause-table c = taken_kept c.args.n c.slot_count-slots.result c.args.game
    c.take_off.new.places.items c.args.places.now.items c.args.spare.now.items c.slot_count-slots.ensures
    c.requires.fits c.take_off.ensures.put c.take_off.ensures.size c.requires.table

pub returns-then-is_home_to-clause-counts : goal.returns-then-is_home_to-clause-counts
returns-then-is_home_to-clause-counts c = put_counts c.args.n c.slot_count-slots.result c.args.game
    c.take_off.new.places.items c.args.places.now.items c.args.spare.now.items c.slot_count-slots.ensures
    c.requires.fits c.take_off.ensures.put

pub returns-else-is_home_to-clause-counts : goal.returns-else-is_home_to-clause-counts
returns-else-is_home_to-clause-counts c = λ i j s. omega (arith, c.take_copy.ensures.counts i j s)

pub returns-else-is_home_to-clause-table : goal.returns-else-is_home_to-clause-table
returns-else-is_home_to-clause-table c =
    spare_kept c.args.n c.args.places.now.items c.args.spare.now.items c.take_copy.new.spare.items c.requires.table
    (AreSpare-less c.args.n c.args.game c.take_copy.new.spare.items c.args.spare.now.items c.take_copy.ensures.counts
    c.take_copy.ensures.short c.requires.table.counted)
