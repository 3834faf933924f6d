-- The text of an accepted season, whose games are put in order.
use Rattle.std.proofs.Common.{◌≡◌, ℕ, List, Some, sym, ap, subst, ◌∙◌}
use Rattle.std.specs.List.Sorted.{IsPermutation}
use Rattle.league.specs.Accepted.{IsAccepted, objective}
use Rattle.league.specs.Counts.{Counts, counts_of}
use Rattle.league.specs.Instance.{Instance}
use Rattle.league.specs.Order.{IsInOrder}
use Rattle.league.specs.declared.game.Game.{Game}
use Rattle.league.proofs.CountLemmas.{counts_of-permutation}
use Rattle.robinx.specs.Texts.{solution_text}
use Rattle.robin_host.specs.Season.{IsSeasonText}

pub season-text : (league : Instance) (games ordered : List Game) (cost : ℕ) (text : List ℕ)
    → IsAccepted league (counts_of games) → cost ≡ objective league (counts_of games)
    → IsPermutation games ordered → IsInOrder ordered → text ≡ solution_text ordered (Some (0, cost))
    → IsSeasonText text
season-text league games ordered cost text accepted costs same order is =
    let counts : counts_of ordered ≡ counts_of games = counts_of-permutation games ordered same in
    record {
      league = league;
      games = ordered;
      accepted = subst (λ (m : Counts). IsAccepted league m) (sym counts) accepted;
      in_order = order;
      is = is ∙ ap (λ (c : ℕ). solution_text ordered (Some (0, c))) (costs ∙ ap (objective league) (sym counts));
    }
