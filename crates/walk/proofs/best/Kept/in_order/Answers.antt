use Rattle.std.proofs.Common.{◌≡◌, List, ap, subst, sym, ◌∙◌}
use Rattle.std.specs.Prelude.{length}
use Rattle.std.specs.List.{All}
use Rattle.std.proofs.lemmas.List.Sorted.{All-permutation, length_permutation}
use Rattle.league.specs.Counts.{Counts, counts_of}
use Rattle.league.specs.Instance.{IsGame}
use Rattle.league.specs.Structure.{IsRoundRobin}
use Rattle.league.specs.declared.game.Game.{Game}
use Rattle.league.proofs.CountLemmas.{counts_of-permutation}
use Rattle.walk.specs.Walked.{league_score}
use Rattle.walk.proofs.best.Kept.in_order.Goals as goal

pub returns-clause-season : goal.returns-clause-season
returns-clause-season c league is =
    let listed : c.in_ok-games.games ≡ c.args.self.now.games.items = c.in_ok-games.ensures ∙ c.deref.ensures.value in
    let counts : counts_of c.put_in_order.new.self ≡ counts_of c.args.self.now.games.items =
    counts_of-permutation c.in_ok-games.games c.put_in_order.new.self c.put_in_order.ensures.permutation
    ∙ ap (λ (games : List Game). counts_of games) listed in
    record {
      fit = All-permutation (IsGame league.n) c.in_ok-games.games c.put_in_order.new.self
          c.put_in_order.ensures.permutation
          (subst (λ (games : List Game). All (IsGame league.n) games) (sym listed) is.fit);
      in_order = c.put_in_order.ensures.in_order;
      round_robin = subst (λ (m : Counts). IsRoundRobin league.n league.phased m) (sym counts) is.round_robin;
      score = is.score ∙ ap (λ (m : Counts). league_score league m) (sym counts);
    }

pub returns-clause-few : goal.returns-clause-few
returns-clause-few c =
    let listed : c.in_ok-games.games ≡ c.args.self.now.games.items = c.in_ok-games.ensures ∙ c.deref.ensures.value in
    length_permutation c.in_ok-games.games c.put_in_order.new.self c.put_in_order.ensures.permutation
    ∙ ap (λ (games : List Game). length games) listed
