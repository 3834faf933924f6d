use Rattle.std.proofs.Common.{◌≡◌, ℕ, max, ap, ◌∙◌, arith}
use Rattle.command_show.specs.Widths.{width_of}
use Rattle.command_show.specs.Grid.{grid_name}
use Rattle.command_show.proofs.RangeLemmas.{folded}
use Rattle.command_show.proofs.head.name_width.Goals as goal

pub loop-number-preserved : goal.loop-number-preserved
loop-number-preserved c =
    let names = c.args.season.now.names.now in
    let number = c.loop-number.number in
    let width : c.width_of.result ≡ width_of (grid_name names number) = c.width_of.ensures.value ∙ ap width_of (c.deref.ensures ∙ c.in_ok-name.ensures) in
    let larger : c.max-widest.result ≡ max c.width_of.result c.loop-number.widest = c.max-widest.ensures in
    record {
      widest_is = folded (λ (widest i : ℕ). max widest (width_of (grid_name names i))) number c.loop-number.widest c.max-widest.result
          c.loop-number.invariant.widest_is (omega (arith, larger, width));
      short = omega (arith, larger, c.width_of.ensures.short, c.loop-number.invariant.short);
    }
