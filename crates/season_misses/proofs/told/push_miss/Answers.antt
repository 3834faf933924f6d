use Rattle.std.proofs.Common.{◌≡◌, List, ℕ, OnOk, length, string_bytes, subst, ap, ◌∙◌}
use Rattle.season_misses.specs.Reasons.{reasons_of}
use Rattle.season_misses.specs.declared.reason.Reason.{Reason}
use Rattle.season_misses.specs.Misses.{head_text, reasons_text}
use Rattle.season_misses.proofs.PartLemmas.{two_pieces}
use Rattle.season_misses.proofs.told.push_miss.Goals as goal

pub returns : goal.returns
returns c =
    let told = c.args.season.now in
    let n : ℕ = told.league.now.n in
    let names : List (List ℕ) = told.names.now in
    let class = c.args.constraint.now.class in
    subst (λ (t : List ℕ). OnOk c.push_reasons.result (string_bytes c.push_reasons.new.text ≡ t))
    (two_pieces (string_bytes c.args.text.now) (string_bytes c.push_head.new.text)
    (head_text (length names) names c.args.constraint.now c.args.miss) (reasons_text c.n-n.result names told.most class c.as_slice-list.result.now)
    (head_text n names c.args.constraint.now c.args.miss) (reasons_text n names told.most class (reasons_of n told.games.now class))
    c.in_ok-push_head.ensures
    (ap (λ (k : ℕ). head_text k names c.args.constraint.now c.args.miss) c.requires.season.names)
    (ap (λ (k : ℕ). reasons_text k names told.most class c.as_slice-list.result.now) c.n-n.ensures.n
    ∙ ap (λ (l : List Reason). reasons_text n names told.most class l) (c.as_slice-list.ensures.value ∙ c.in_ok-found.ensures.reasons ∙ ap (λ (k : ℕ). reasons_of k told.games.now class) c.requires.season.teams)))
    c.push_reasons.ensures
