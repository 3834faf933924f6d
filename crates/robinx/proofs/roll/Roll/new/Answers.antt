use Rattle.std.proofs.Common.{[], sym, subst}
use Rattle.std.specs.List.{All}
use Rattle.std.proofs.lemmas.List.Elements.{All-replicate}
use Rattle.robinx.specs.Plain.{IsPlain}
use Rattle.robinx.proofs.PlainLemmas.{IsPlain-nil}
use Rattle.robinx.proofs.roll.Roll.new.Goals as goal

pub invariant_of-result : goal.invariant_of-result
invariant_of-result c = record {
  teams = subst (All IsPlain) (sym c.in_ok-teams.ensures) (All-replicate IsPlain c.args.n [] IsPlain-nil);
  slots = subst (All IsPlain) (sym c.in_ok-slots.ensures) (All-replicate IsPlain c.slot_count.result [] IsPlain-nil);
}
