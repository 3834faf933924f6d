use Rattle.std.proofs.Common.{ℕ, subst}
use Rattle.std.specs.Prelude.{IfOk}
use Rattle.robinx.specs.Pieces.{pieces}
use Rattle.robinx.specs.Walk.{reading}
use Rattle.robinx.specs.declared.element.Element.TheVariants.{InstanceFile}
use Rattle.robinx.specs.Answers.{Says}
use Rattle.robinx.specs.Names.{Names, IsNames}
use Rattle.robinx.specs.NamesFile.{names_meaning}
use Rattle.robinx.proofs.AnswerLemmas.{counts_if, whole_if}
use Rattle.robinx.proofs.names_file.read_names.Goals as goal

pub returns-in-Ok-clause-counts : goal.returns-in-Ok-clause-counts
returns-in-Ok-clause-counts c =
    let found = pieces c.args.bytes.now in
    let says = subst (λ (r : Names). Says (reading names_meaning InstanceFile r found) c.filled.result) c.in-Ok.ensures c.filled.ensures in
    subst (λ (n : ℕ). IfOk c.filled.result (IsNames n)) c.n.ensures.n (counts_if c.n.result found c.filled.result says)

pub returns-in-Ok-clause-whole : goal.returns-in-Ok-clause-whole
returns-in-Ok-clause-whole c =
    let found = pieces c.args.bytes.now in
    let says = subst (λ (r : Names). Says (reading names_meaning InstanceFile r found) c.filled.result) c.in-Ok.ensures c.filled.ensures in
    λ is. whole_if c.n.result found c.args.league.now c.filled.result says is
