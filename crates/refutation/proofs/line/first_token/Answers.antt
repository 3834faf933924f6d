use Rattle.std.proofs.Common.{◌+◌, ◌∷◌, take, sym, ap, ◌∙◌}
use Rattle.std.proofs.lemmas.List.{take_rest}
use Rattle.refutation.specs.Lines.{tokens_of}
use Rattle.refutation.proofs.FoundLemmas.{token-alone, token-found}
use Rattle.refutation.proofs.line.first_token.Goals as goal

pub returns-in-Some : goal.returns-in-Some
returns-in-Some c =
    let text = c.args.text.now in
    let at = c.in-Some.at in
    token-found text at c.in-Some.ensures ∙ ap (λ rest. take at text ∷ tokens_of rest) (sym (take_rest text (at + 1)))

pub returns-in-None : goal.returns-in-None
returns-in-None c = token-alone c.args.text.now c.in-None.ensures
