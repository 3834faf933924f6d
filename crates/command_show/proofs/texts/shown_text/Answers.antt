use Rattle.std.proofs.Common.{◌++◌, List, ℕ, length, map, subst, ap, sym, ◌∙◌}
use Rattle.std.specs.List.{All}
use Rattle.std.proofs.lemmas.Result.{IfOk-weaker}
use Rattle.league.specs.Counts.{counts_of}
use Rattle.league.specs.Deviation.{vector_of}
use Rattle.league.specs.Instance.{IsGame}
use Rattle.league.specs.Order.{IsInOrder}
use Rattle.league.specs.declared.class.Constraint.{Constraint}
use Rattle.league.specs.declared.game.Game.{Game}
use Rattle.season_misses.specs.Own.{games_by_team}
use Rattle.command_show.specs.Show.{grid_of, labels_of, words_text}
use Rattle.command_show.proofs.TextLemmas.{labels-count, words-same}
use Rattle.command_show.proofs.texts.shown_text.Goals as goal

pub told_text-requires-clause-told : goal.told_text-requires-clause-told
told_text-requires-clause-told c = record {
  names = ap length (c.as_slice.ensures.value ∙ c.in_ok-labels.ensures) ∙ labels-count c.n-2.result c.args.names.now ∙ c.n-2.ensures.n;
  fit = subst (λ (games : List Game). All (IsGame c.args.league.now.n) games) (sym c.games-games.ensures) c.requires.fit;
  in_order = subst (λ (games : List Game). IsInOrder games) (sym c.games-games.ensures) c.requires.in_order;
  teams = c.in_ok-cells.ensures.n ∙ c.n.ensures.n;
  counted = c.in_ok-cells.ensures.counts;
  own = c.in_ok-own.ensures ∙ ap (λ (k : ℕ). games_by_team k c.games-games.result.now) c.n-3.ensures.n;
  vectors =
      c.requires.assessed.vectors
      ∙ ap (λ (games : List Game). map (λ (one : Constraint). vector_of c.args.league.now.n (counts_of games) one.class) c.args.league.now.constraints) (sym c.games-games.ensures);
}

pub returns : goal.returns
returns c =
    let league = c.args.league.now in
    let names = c.args.names.now in
    let games : List Game = c.args.schedule.now in
    let assessed = c.args.assessed.now in
    let most : ℕ = c.args.page.most in
    let text_of : List (List ℕ) → List Game → List ℕ =
    λ labels shown. grid_of league names shown c.args.page.width
    ++ words_text league labels most shown assessed.structure assessed.infeasibility assessed.objective assessed.feasible in
    IfOk-weaker c.told_text.result _ _
    (λ text is.
    is
    ∙ ap (λ (labels : List (List ℕ)). text_of labels c.games-games.result.now)
    (c.as_slice.ensures.value ∙ c.in_ok-labels.ensures ∙ ap (λ (k : ℕ). labels_of k names) c.n-2.ensures.n)
    ∙ ap (λ (l : List Game). text_of (labels_of league.n names) l) c.games-games.ensures
    ∙ ap (λ (l : List ℕ). grid_of league names games c.args.page.width ++ l)
    (words-same league (labels_of league.n names) most games assessed c.requires.assessed))
    c.told_text.ensures
