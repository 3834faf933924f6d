use Rattle.bound_rows.specs.OneOf.{of_window}
use Rattle.bound_rows.proofs.PartLemmas.{windows-more}
use Rattle.bound_rows.proofs.parts.add_windows.Goals as goal

pub loop-first-preserved : goal.loop-first-preserved
loop-first-preserved c =
    windows-more (λ slots. of_window c.args.class.now c.args.team slots) c.args.window
    c.loop-first.first c.args.made.now.items c.loop-first.made.items _ _ c.loop-first.invariant
    c.in_ok-window_part.ensures c.in_ok-push.ensures.items
