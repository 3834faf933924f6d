use Rattle.std.proofs.Common.{string_bytes, ap, ◌∙◌}
use Rattle.robinx.specs.Plain.{shortened}
use Rattle.robinx.proofs.PlainLemmas.{characters_by, plain_if, IsPlain_if}
use Rattle.robinx.proofs.plain.plain_name.Goals as goal

pub returns-clause-value : goal.returns-clause-value
returns-clause-value c =
    plain_if c.spelled.result c.deref-3.result.now c.spelled.ensures c.args.value.now
    (characters_by c.args.value.now c.in_ok-bytes.bytes.items c.deref.result.now c.trimmed.result.now (string_bytes c.in_ok-text.text) c.deref-2.result.now
    c.in_ok-characters.characters.items c.shorten.new.characters.items c.deref-3.result.now
    c.in_ok-bytes.ensures c.deref.ensures.value c.trimmed.ensures c.in_ok-text.ensures.lossy c.deref-2.ensures c.in_ok-characters.ensures c.in_ok-shorten.ensures c.deref-3.ensures.value)

pub returns-clause-plain : goal.returns-clause-plain
returns-clause-plain c =
    IsPlain_if c.spelled.result c.deref-3.result.now c.spelled.ensures c.deref-2.result.now c.deref-2.utf8
    (c.deref-3.ensures.value ∙ c.in_ok-shorten.ensures ∙ ap shortened c.in_ok-characters.ensures)
