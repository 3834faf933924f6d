use Rattle.std.proofs.Common.{◌≡◌, ◌++◌, take}
use Rattle.std.specs.List.{All, flat_map}
use Rattle.refutation.specs.Texts.{step_line_text}
use Rattle.refutation.specs.Written.{HasSmallNumbers}
use Rattle.refutation.proofs.text.put_steps.Given as goal

-- what is written so far
abbrev pub invariant-loop-k : goal.invariant-loop-k
invariant-loop-k l =
    (l.text.items ≡ l.fn.text.items ++ flat_map (step_line_text l.version) (take l.k l.log)) × All HasSmallNumbers
    (take l.k l.log)
