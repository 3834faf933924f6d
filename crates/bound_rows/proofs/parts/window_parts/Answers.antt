use Rattle.std.proofs.Common.{ℕ, List, [], ◌++◌, ap, arith, get_or, map, sym, take, ◌∙◌}
use Rattle.std.proofs.lemmas.List.{flat_map_more, take_all, take_more}
use Rattle.std.specs.List.{flat_map}
use Rattle.league.specs.Capacity.{windows_of}
use Rattle.league.specs.declared.class.Class.{Class}
use Rattle.bound_rows.specs.OneOf.{of_window}
use Rattle.bound_rows.proofs.PartLemmas.{no_windows}
use Rattle.bound_rows.proofs.parts.window_parts.Goals as goal

pub returns-then-intp-season : goal.returns-then-intp-season
returns-then-intp-season c =
    c.new-made.ensures.items
    ∙ no_windows c.args.n c.args.intp (λ i slots. of_window c.args.class.now i slots) c.args.teams.now
    (omega (arith, c.slot_count.ensures, c.from-season.ensures, c.if-intp-season.true))

pub loop-team-preserved : goal.loop-team-preserved
loop-team-preserved c =
    let teams = c.args.teams.now in
    let k = c.loop-team.team-index in
    let parts : ℕ → List Class = λ i.
    map (λ slots. of_window c.args.class.now i slots) (windows_of c.args.n c.args.intp) in
    c.in_ok-add_windows.ensures
    ∙ ap (λ (made : List Class). made ++ parts (get_or teams k 0)) c.loop-team.invariant
    ∙ flat_map_more parts [] (take k teams) (get_or teams k 0)
    ∙ ap (flat_map parts) (sym (take_more teams k 0 c.loop-team-test.true))

pub returns : goal.returns
returns c =
    let parts : ℕ → List Class = λ i.
    map (λ slots. of_window c.args.class.now i slots) (windows_of c.args.n c.args.intp) in
    c.loop-team.invariant
    ∙ ap (flat_map parts) (take_all c.loop-team.team-index c.args.teams.now (omega arith))
