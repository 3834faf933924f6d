use Rattle.std.proofs.Common.{◌≡◌, ℕ, List, ap, subst, sym, ◌∙◌}
use Rattle.league.specs.declared.game.Game.{Game}
use Rattle.resume.specs.Near.{IsAtMost, changed}
use Rattle.resume.proofs.NearLemmas.{at-most, not-nearer}
use Rattle.resume.proofs.near.is_nearer.Goals as goal

pub returns-clause-second : goal.returns-clause-second
returns-clause-second c = λ is.
    let k = c.args.k in
    let first = c.args.first.now in
    let second = c.args.second.now in
    let before : c.changed_games-before.result ≡ changed k c.args.played.now first.schedule =
    c.changed_games-before.ensures
    ∙ ap (λ (old : List Game). changed k old c.games-2.result.now) c.games.ensures
    ∙ ap (λ (games : List Game). changed k c.args.played.now games) c.games-2.ensures in
    let after : c.changed_games-after.result ≡ changed k c.args.played.now second.schedule =
    c.changed_games-after.ensures
    ∙ ap (λ (old : List Game). changed k old c.games-4.result.now) c.games-3.ensures
    ∙ ap (λ (games : List Game). changed k c.args.played.now games) c.games-4.ensures in
    subst (λ (most : ℕ). IsAtMost (changed k c.args.played.now second.schedule) second.objective most first.objective)
    before
    (subst
    (λ (changes : ℕ). IsAtMost changes second.objective c.changed_games-before.result first.objective) after
    (at-most c.changed_games-after.result c.changed_games-before.result second.objective first.objective
    (sym c.is_less.ensures ∙ is)))

pub returns-clause-first : goal.returns-clause-first
returns-clause-first c = λ isnt.
    let k = c.args.k in
    let first = c.args.first.now in
    let second = c.args.second.now in
    let before : c.changed_games-before.result ≡ changed k c.args.played.now first.schedule =
    c.changed_games-before.ensures
    ∙ ap (λ (old : List Game). changed k old c.games-2.result.now) c.games.ensures
    ∙ ap (λ (games : List Game). changed k c.args.played.now games) c.games-2.ensures in
    let after : c.changed_games-after.result ≡ changed k c.args.played.now second.schedule =
    c.changed_games-after.ensures
    ∙ ap (λ (old : List Game). changed k old c.games-4.result.now) c.games-3.ensures
    ∙ ap (λ (games : List Game). changed k c.args.played.now games) c.games-4.ensures in
    subst (λ (most : ℕ). IsAtMost (changed k c.args.played.now first.schedule) first.objective most second.objective)
    after
    (subst
    (λ (changes : ℕ). IsAtMost changes first.objective c.changed_games-after.result second.objective) before
    (not-nearer c.changed_games-after.result c.changed_games-before.result second.objective first.objective
    (sym c.is_less.ensures ∙ isnt)))
