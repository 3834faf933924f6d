use Rattle.std.proofs.Common.{◌≡◌, ℕ, ◌==◌, true, get_or, arith, ap, sym, ◌∙◌}
use Rattle.std.proofs.lemmas.Bool.Decides.{nat_tests}
use Rattle.std.proofs.lemmas.Option.{get_or_from_slice_get}
use Rattle.propagate.specs.Trails.{EachEntry, IsNew}
use Rattle.propagate.specs.declared.entry.Entry.{Entry}
use Rattle.propagate.proofs.CalmLemmas.{WasOpen-level, WasOpen-now}
use Rattle.propagate.proofs.LookLemmas.{news}
use Rattle.propagate.proofs.calm.was_open.Goals as goal

equal_from : (a b : ℕ) → (a == b) ≡ true → a ≡ b
equal_from a b is = grind (arith, nat_tests)

pub returns-in-False : goal.returns-in-False
returns-in-False c = λ is.
    let each : EachEntry (IsNew c.args.path.now.vars) c.args.path.now.entries = news c.args.path.now.rows c.args.path.now.vars c.args.path.now.entries c.requires.sound.lawful in
    let at : c.entry.result ≡ get_or c.args.path.now.entries c.place.result c.entry.result = sym (get_or_from_slice_get c.args.path.now.entries c.place.result c.entry.result c.entry.result c.entry.ensures) in
    WasOpen-level c.args.path.now.vars c.args.path.now.entries c.args.lit c.place.result c.entry.result each c.place.ensures.within at
    (ap (λ (e : Entry). e.lit.var) at ∙ c.place.ensures.there c.entry.result) (equal_from c.entry.result.level c.args.level is ∙ c.requires.level)

pub returns : goal.returns
returns c = λ is.
    WasOpen-now c.args.path.now.vars c.args.path.now.entries c.args.lit
    (news c.args.path.now.rows c.args.path.now.vars c.args.path.now.entries c.requires.sound.lawful)
    (λ is_false. c.in_default.not-False (c.value.ensures ∙ is_false))
