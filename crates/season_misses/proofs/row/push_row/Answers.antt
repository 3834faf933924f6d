use Rattle.std.proofs.Common.{map, ap, ◌∙◌}
use Rattle.std.proofs.lemmas.List.{map_push}
use Rattle.season_misses.specs.SeenRow.{row_of}
use Rattle.season_misses.proofs.WalkLemmas.{row_skipped, row_begun}
use Rattle.season_misses.proofs.row.push_row.Goals as goal

pub returns-then-told-gt0 : goal.returns-then-told-gt0
returns-then-told-gt0 c = row_skipped c.args.told c.args.reason.now c.args.others.now (map row_of c.args.made.now.items) c.if-told-gt0.true

pub returns : goal.returns
returns c =
    row_begun c.args.told c.more_windows-more.result c.args.reason.now c.args.others.now (map row_of c.args.made.now.items) (map row_of c.push.new.self.items) c.if-told-gt0.false c.more_windows-more.ensures.value
    (ap (map row_of) c.in_ok-push.ensures.items ∙ map_push row_of c.args.made.now.items _)
