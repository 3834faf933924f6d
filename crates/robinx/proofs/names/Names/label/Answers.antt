use Rattle.std.proofs.Common.{◌<◌, length, map, string_bytes, ap, ◌∙◌, arith}
use Rattle.robinx.specs.Names.{Names, label}
use Rattle.robinx.proofs.LabelLemmas.{labels_len, label_read}
use Rattle.robinx.proofs.names.Names.label.Goals as goal

pub index-requires : goal.index-requires
index-requires c =
    let seen : Names = record { teams = map string_bytes c.self.inside.teams.items; slots = map string_bytes c.self.inside.slots.items } in
    let as_many = labels_len string_bytes c.self.inside.labels.items seen c.self.invariant.called in
    omega (arith, as_many, c.self.inside.labels.ok.0, ap (λ (n : Names). length n.teams) c.self.view_is, c.from.ensures, c.requires)

pub returns : goal.returns
returns c =
    let seen : Names = record { teams = map string_bytes c.self.inside.teams.items; slots = map string_bytes c.self.inside.slots.items } in
    let within : c.from.result < length seen.teams = omega (arith, ap (λ (n : Names). length n.teams) c.self.view_is, c.from.ensures, c.requires) in
    label_read string_bytes c.self.inside.labels.items seen c.from.result c.index.result.now c.deref.result.now c.self.invariant.called within c.index.ensures c.deref.ensures
    ∙ ap (λ i. label seen i) c.from.ensures
    ∙ ap (λ (n : Names). label n c.args.team.0) c.self.view_is
