use Rattle.std.proofs.Common.{refl, sym, ◌∙◌}
use Rattle.propagate.specs.Trails.{EachEntry, IsNew, values_of}
use Rattle.propagate.specs.Numbered.{row_at}
use Rattle.propagate.specs.Watches.{IsLateIn, IsOpenIn}
use Rattle.propagate.proofs.CalmLemmas.{WasOpen-now}
use Rattle.propagate.proofs.LookLemmas.{news}
use Rattle.propagate.proofs.hang.pair_of.Goals as goal

pub returns-in-Some-next_open : goal.returns-in-Some-next_open
returns-in-Some-next_open c =
    let each : EachEntry (IsNew c.args.path.now.vars) c.args.path.now.entries =
    news c.args.path.now.rows c.args.path.now.vars c.args.path.now.entries c.requires.sound.lawful in
    let first : IsOpenIn (values_of c.args.path.now.entries) (row_at c.args.path.now.rows c.args.place) 0
    c.in-Some.found = c.in-Some.ensures.some in
    let second : IsOpenIn (values_of c.args.path.now.entries) (row_at c.args.path.now.rows c.args.place) c.var.result
    c.in-Some-next_open.second = c.in-Some-next_open.ensures.some in
    record {
      first_there = first.there;
      second_there = second.there;
      apart = λ same. second.other (same ∙ sym c.var.ensures.var);
      first_opened = WasOpen-now c.args.path.now.vars c.args.path.now.entries c.in-Some.found each first.not_false;
      second_opened =
          WasOpen-now c.args.path.now.vars c.args.path.now.entries c.in-Some-next_open.second each second.not_false;
      first_open = first.not_false;
      second_met = λ fell. absurd (second.not_false fell);
    }

pub returns-in-Some-next_late : goal.returns-in-Some-next_late
returns-in-Some-next_late c =
    let each : EachEntry (IsNew c.args.path.now.vars) c.args.path.now.entries =
    news c.args.path.now.rows c.args.path.now.vars c.args.path.now.entries c.requires.sound.lawful in
    let first : IsOpenIn (values_of c.args.path.now.entries) (row_at c.args.path.now.rows c.args.place) 0
    c.in-Some.found = c.in-Some.ensures.some in
    let second : IsLateIn c.args.path.now (row_at c.args.path.now.rows c.args.place) c.var-2.result
    c.in-Some-next_late.second = c.in-Some-next_late.ensures in
    record {
      first_there = first.there;
      second_there = second.there;
      apart = λ same. second.other (same ∙ sym c.var-2.ensures.var);
      first_opened = WasOpen-now c.args.path.now.vars c.args.path.now.entries c.in-Some.found each first.not_false;
      second_opened = second.opened;
      first_open = first.not_false;
      second_met = λ fell. sym c.value.ensures ∙ c.if-not-is_true.ensures refl;
    }
