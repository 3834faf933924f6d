use Rattle.std.proofs.Common.{◌≡◌, ◌+◌, ◌-◌, ◌++◌, length, drop, get_or}
use Rattle.std.specs.List.{range_with_len}
use Rattle.league.specs.Meetings.{pairs_of}
use Rattle.rule_core.specs.KeptPairs.{first_key, key_at}
use Rattle.rule_core.specs.Pairs.{has_team, keys_with}
use Rattle.rule_core.specs.Keys.{places_from}
use Rattle.rule_core.proofs.pairs.Pairs.push_keys_at.Given as goal

abbrev pub invariant-loop-first : goal.invariant-loop-first
invariant-loop-first l = record {
  room : l.keys.room ≡ l.fn.keys.room;
  counted : length l.keys.list ≡ length l.fn.keys.list + l.first;
  listed : l.keys.list ++ places_from (first_key l.self l.first) (has_team (get_or l.self l.place 0)) (pairs_of (drop l.first l.self)) ≡ l.fn.keys.list ++ keys_with l.self (get_or l.self l.place 0);
}

abbrev pub invariant-loop-second : goal.invariant-loop-second
invariant-loop-second l = record {
  room : l.keys.room ≡ l.fn.keys.room;
  counted : length l.keys.list + 1 ≡ length l.fn.keys.list + l.second;
  listed : l.keys.list ++ range_with_len (key_at l.self l.place l.second) (length l.self - l.second) ≡ l.fn.keys.list ++ keys_with l.self (get_or l.self l.place 0);
}
