use Rattle.std.proofs.Common.{◌≡◌, ℕ, ◌-◌, ◌++◌, ap, ◌∙◌, arith, zero-add}
use Rattle.std.specs.Prelude.{codes}
use Rattle.std.specs.List.{flat_map, range_with_len}
use Rattle.command_show.specs.Widths.{spaces}
use Rattle.command_show.specs.Grid.{tally}
use Rattle.command_show.specs.SeenSeason.{season_of}
use Rattle.command_show.proofs.RangeLemmas.{part_after}
use Rattle.command_show.proofs.JoinedTexts.{join_four}
use Rattle.command_show.proofs.grid.push_tallies.Goals as goal

pub loop-number-preserved : goal.loop-number-preserved
loop-number-preserved c =
    let number = c.loop-number.number in
    part_after (tally c.args.columns (season_of c.args.season.now)) 0 number number
    (c.args.text.now.items ++ codes "team" ++ spaces (c.args.columns.front - 4) ++ codes " home 1st  home 2nd  breaks  run home  run away\n")
    c.loop-number.text.items c.push_tally.new.text.items (zero-add number) c.loop-number.invariant c.in_ok-push_tally.ensures

pub returns : goal.returns
returns c =
    let number = c.loop-number.number in
    let all : number ≡ c.args.season.now.cells.now.n = omega (arith, c.n-number-end.ensures.n, c.loop-number-test.false, c.loop-number.auto.number-end) in
    let parts = flat_map (tally c.args.columns (season_of c.args.season.now)) (range_with_len 0 number) in
    let front = spaces (c.args.columns.front - 4) in
    let words = codes " home 1st  home 2nd  breaks  run home  run away\n" in
    c.loop-number.invariant
    ∙ join_four c.args.text.now.items (codes "team") front words parts
    ∙ ap (λ (k : ℕ). c.args.text.now.items ++ (codes "team" ++ (front ++ (words ++ flat_map (tally c.args.columns (season_of c.args.season.now)) (range_with_len 0 k))))) all
