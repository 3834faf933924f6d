use Rattle.std.proofs.Common.{◌++◌, ℕ, ap, ◌∙◌}
use Rattle.robinx.specs.Texts.{id_line}
use Rattle.robinx.proofs.PartLemmas.{line_added}
use Rattle.robinx.proofs.write_instance.put_ids.Goals as goal

pub loop-id-preserved : goal.loop-id-preserved
loop-id-preserved c =
    line_added (id_line c.args.name.now) c.loop-id.id c.args.text.now.items c.loop-id.text.items c.put_tag.new.text.items c.loop-id.invariant
    (c.in_ok-put_tag.ensures ∙ ap (λ (n : ℕ). c.loop-id.text.items ++ id_line c.args.name.now n) c.from.ensures)
