use Rattle.std.proofs.Common.{◌≡◌, ◌++◌, ◌<◌, ℕ, get_or, take}
use Rattle.explain.specs.declared.cases.Case.{Case}
use Rattle.command_explain.specs.Texts.{LogReadsBack, cases_text}
use Rattle.command_explain.proofs.texts.put_cases.Given as goal

-- the cases so far
abbrev pub invariant-loop-k : goal.invariant-loop-k
invariant-loop-k l = record {
  written : l.text.items ≡ l.fn.text.items ++ cases_text (take l.k l.members) (take l.k l.cases);
  reads_back : (j : ℕ) (d : Case) → j < l.k → LogReadsBack (get_or l.cases j d);
}
