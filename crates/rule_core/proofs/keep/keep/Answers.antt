use Rattle.std.proofs.Common.{length, arith}
use Rattle.league.specs.Counts.{slot_count}
use Rattle.rule_core.proofs.KeepLemmas.{put_counts, put_kept, read_free, spare_kept}
use Rattle.rule_core.proofs.SpareLemmas.{AreSpare-more}
use Rattle.rule_core.proofs.TableLemmas.{place_in_rows}
use Rattle.rule_core.proofs.keep.keep.Goals as goal

pub read_place-home-requires-clause-place : goal.read_place-home-requires-clause-place
read_place-home-requires-clause-place c = place_in_rows c.args.n c.args.game.home.0 c.args.game.slot.0
    c.slot_count-slots.result (length c.args.places.now.items) c.slot_count-slots.ensures c.requires.table.size
    c.requires.fits.home c.requires.fits.slot

pub read_place-away-requires-clause-place : goal.read_place-away-requires-clause-place
read_place-away-requires-clause-place c = place_in_rows c.args.n c.args.game.away.0 c.args.game.slot.0
    c.slot_count-slots.result (length c.args.places.now.items) c.slot_count-slots.ensures c.requires.table.size
    c.requires.fits.away c.requires.fits.slot

pub put-requires-clause-home : goal.put-requires-clause-home
put-requires-clause-home c = place_in_rows c.args.n c.args.game.home.0 c.args.game.slot.0 c.slot_count-slots.result
    (length c.args.places.now.items) c.slot_count-slots.ensures c.requires.table.size c.requires.fits.home
    c.requires.fits.slot

pub put-requires-clause-away : goal.put-requires-clause-away
put-requires-clause-away c = place_in_rows c.args.n c.args.game.away.0 c.args.game.slot.0 c.slot_count-slots.result
    (length c.args.places.now.items) c.slot_count-slots.ensures c.requires.table.size c.requires.fits.away
    c.requires.fits.slot

pub returns-then-is_free-2-clause-table : goal.returns-then-is_free-2-clause-table
returns-then-is_free-2-clause-table c =
    put_kept c.args.n c.slot_count-slots.result c.args.game c.args.places.now.items c.put.new.places.items
    c.args.spare.now.items c.slot_count-slots.ensures c.requires.fits c.put.ensures.put c.put.ensures.size
    c.requires.table

pub returns-else-is_free-clause-table : goal.returns-else-is_free-clause-table
returns-else-is_free-clause-table c =
    spare_kept c.args.n c.args.places.now.items c.args.spare.now.items c.add_copy.new.spare.items c.requires.table
    (AreSpare-more c.args.n c.args.game c.args.spare.now.items c.add_copy.new.spare.items c.requires.fits
    c.add_copy.ensures.counts
    (c.add_copy.ensures.short (slot_count c.args.n) c.requires.fits.slot c.requires.table.counted.short)
    c.requires.table.counted)

pub put-requires-clause-home_free : goal.put-requires-clause-home_free
put-requires-clause-home_free c = read_free c.slot_count-slots.result c.args.game.home.0 c.args.game.slot.0
    c.args.places.now.items c.read_place-home.result c.is_free.result c.read_place-home.ensures c.is_free.ensures
    c.if-is_free.true

pub put-requires-clause-away_free : goal.put-requires-clause-away_free
put-requires-clause-away_free c = read_free c.slot_count-slots.result c.args.game.away.0 c.args.game.slot.0
    c.args.places.now.items c.read_place-away.result c.is_free-then-is_free.result c.read_place-away.ensures c.is_free-then-is_free.ensures
    c.if-is_free-2.true

pub add_copy-requires-clause-few : goal.add_copy-requires-clause-few
add_copy-requires-clause-few c = λ i j s. omega (arith, c.requires.few i j s)

pub add_copy-requires-clause-room : goal.add_copy-requires-clause-room
add_copy-requires-clause-room c = omega (arith, c.requires.room, c.requires.fits.slot)

pub returns-then-is_free-2-clause-counts : goal.returns-then-is_free-2-clause-counts
returns-then-is_free-2-clause-counts c = put_counts c.args.n c.slot_count-slots.result c.args.game
    c.args.places.now.items c.put.new.places.items c.args.spare.now.items c.slot_count-slots.ensures
    c.requires.fits c.put.ensures.put

pub returns-else-is_free-clause-counts : goal.returns-else-is_free-clause-counts
returns-else-is_free-clause-counts c = λ i j s. omega (arith, c.add_copy.ensures.counts i j s)
