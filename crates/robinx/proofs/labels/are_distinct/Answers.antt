use Rattle.std.proofs.Common.{string_bytes, sym, ◌∙◌}
use Rattle.robinx.proofs.LabelLemmas.{split_first, repeated, unrepeated}
use Rattle.robinx.proofs.labels.are_distinct.Goals as goal

pub returns-then-contains : goal.returns-then-contains
returns-then-contains c =
    let parts = split_first c.rest.rest.now c.text-item.result c.in-len1-up.len_at_least c.text-item.is in
    sym (repeated string_bytes c.rest.rest.now _ c.text-item.result c.deref.result.now c.contains.result parts c.deref.ensures c.contains.ensures c.if-contains.true)
    ∙ c.rest.invariant

pub rest-preserved : goal.rest-preserved
rest-preserved c =
    let parts = split_first c.rest.rest.now c.text-item.result c.in-len1-up.len_at_least c.text-item.is in
    unrepeated string_bytes c.rest.rest.now _ c.text-item.result c.deref.result.now c.contains.result parts c.deref.ensures c.contains.ensures c.if-contains.false
    ∙ c.rest.invariant
