use Rattle.std.proofs.Common.{◌≡◌, List, subst}
use Rattle.std.specs.Prelude.{IfOk}
use Rattle.league.specs.declared.class.Class.{Class}
use Rattle.bound_rows.proofs.PartLemmas.{ca3-parts}
use Rattle.bound_rows.proofs.parts.made_of.Goals as goal

pub returns-in-Ca3 : goal.returns-in-Ca3
returns-in-Ca3 c =
    subst (λ (parts : List Class). IfOk c.window_parts.result (λ made. made.items ≡ parts))
    (ca3-parts c.args.n c.args.constraint.now.class c.numbers-in-Ca3.result.now c.in-Ca3.teams1 c.in-Ca3.teams2
    c.in-Ca3.min c.in-Ca3.max c.in-Ca3.intp c.in-Ca3.side c.in-Ca3.is c.numbers-in-Ca3.ensures.numbers)
    c.window_parts.ensures
