use Rattle.std.proofs.Common.{◌≡◌, ℕ, ◌+◌, ◌-◌, ◌<◌, List, ◌++◌, [], ◌∷◌, get_or, length, drop, arith, ap, subst, ◌∙◌}
use Rattle.std.specs.List.{range_with_len}
use Rattle.std.proofs.lemmas.List.{length_push}
use Rattle.std.specs.Ordering.{nat_cmp}
use Rattle.league.specs.Meetings.{pairs_of}
use Rattle.league.specs.Sets.{IsAscending}
use Rattle.rule_core.specs.Keys.{KeyList, places_from}
use Rattle.rule_core.specs.KeptPairs.{first_key, key_at}
use Rattle.rule_core.specs.Pairs.{has_team, keys_with}
use Rattle.rule_core.proofs.KeyLemmas.{keys_are}
use Rattle.rule_core.proofs.PairLemmas.{earlier_more, later_done, later_left, later_more}
use Rattle.rule_core.proofs.pairs.Pairs.push_keys_at.Goals as goal

pub loop-first-preserved : goal.loop-first-preserved
loop-first-preserved c =
    let inside = c.self.inside in
    let teams = c.args.self.now in
    let place = c.args.place in
    let i = c.loop-first.first in
    let ascending : IsAscending nat_cmp teams = subst (λ (xs : List ℕ). IsAscending nat_cmp xs) c.self.view_is c.self.invariant.ascending in
    let pushed : c.push.new.self.list ≡ c.loop-first.keys.list ++ key_at teams i place ∷ [] =
    ap (λ (k : KeyList). k.list) c.push.ensures ∙ ap (λ (k : ℕ). c.loop-first.keys.list ++ k ∷ []) c.key.ensures in
    record {
      room = ap (λ (k : KeyList). k.room) c.push.ensures ∙ c.loop-first.invariant.room;
      counted = omega (arith, ap (λ (ks : List ℕ). length ks) pushed, length_push c.loop-first.keys.list (key_at teams i place), c.loop-first.invariant.counted);
      listed =
          ap (λ (ks : List ℕ). ks ++ places_from (first_key teams (i + 1)) (has_team (get_or teams place 0)) (pairs_of (drop (i + 1) teams))) pushed
          ∙ earlier_more teams place i c.loop-first.keys.list (c.args.keys.now.list ++ keys_with teams (get_or teams place 0)) ascending c.requires.place c.loop-first-test.true c.loop-first.invariant.listed;
    }

pub loop-second-init : goal.loop-second-init
loop-second-init c =
    let inside = c.self.inside in
    let teams = c.args.self.now in
    let place = c.args.place in
    let i = c.loop-first.first in
    let ascending : IsAscending nat_cmp teams = subst (λ (xs : List ℕ). IsAscending nat_cmp xs) c.self.view_is c.self.invariant.ascending in
    let done : i ≡ place = omega arith in
    record {
      room = c.loop-first.invariant.room;
      counted = omega (arith, c.loop-first.invariant.counted);
      listed = later_left teams place i c.loop-first.keys.list (c.args.keys.now.list ++ keys_with teams (get_or teams place 0)) ascending c.requires.place done c.loop-first.invariant.listed;
    }

pub loop-second-preserved : goal.loop-second-preserved
loop-second-preserved c =
    let inside = c.self.inside in
    let teams = c.args.self.now in
    let place = c.args.place in
    let j = c.loop-second.second in
    let size : length inside.teams ≡ length teams = ap (λ (xs : List ℕ). length xs) c.self.view_is in
    let before : j < length teams = omega arith in
    let pushed : c.push-in-loop-second.new.self.list ≡ c.loop-second.keys.list ++ key_at teams place j ∷ [] =
    ap (λ (k : KeyList). k.list) c.push-in-loop-second.ensures ∙ ap (λ (k : ℕ). c.loop-second.keys.list ++ k ∷ []) c.key-in-loop-second.ensures in
    record {
      room = ap (λ (k : KeyList). k.room) c.push-in-loop-second.ensures ∙ c.loop-second.invariant.room;
      counted = omega (arith, ap (λ (ks : List ℕ). length ks) pushed, length_push c.loop-second.keys.list (key_at teams place j), c.loop-second.invariant.counted);
      listed =
          ap (λ (ks : List ℕ). ks ++ range_with_len (key_at teams place (j + 1)) (length teams - (j + 1))) pushed
          ∙ later_more teams place j c.loop-second.keys.list (c.args.keys.now.list ++ keys_with teams (get_or teams place 0)) (omega arith) before c.loop-second.invariant.listed;
    }

pub returns : goal.returns
returns c =
    let inside = c.self.inside in
    let teams = c.args.self.now in
    let place = c.args.place in
    let j = c.loop-second.second in
    let whole = c.args.keys.now.list ++ keys_with teams (get_or teams place 0) in
    let size : length inside.teams ≡ length teams = ap (λ (xs : List ℕ). length xs) c.self.view_is in
    let none : length teams - j ≡ 0 = omega arith in
    keys_are c.loop-second.keys whole c.args.keys.now.room
    (later_done (key_at teams place j) (length teams - j) c.loop-second.keys.list whole none c.loop-second.invariant.listed)
    c.loop-second.invariant.room
