-- What a GA1 knows of its meetings.
use Rattle.std.proofs.Common.{◌≡◌, ◌<◌, true}
use Rattle.std.proofs.lemmas.Bool.{and_parts}
use Rattle.std.specs.List.{All, list_all}
use Rattle.league.specs.Instance.{are_meetings, are_slots, is_meeting}
use Rattle.league.specs.Sets.{IsAscending, ascends, pair_cmp}
use Rattle.league.proofs.AscendingLemmas.{IsAscending-ascends}
use Rattle.rule_core.proofs.KeptMeetingLemmas.{meetings-teams}
use Rattle.deviation.specs.declared.ga1.Ga1.{Ga1}

meetings_fit : (r : Ga1) → are_meetings r.meetings.n r.meetings.list ≡ true
meetings_fit r = (and_parts (are_meetings r.meetings.n r.meetings.list) (are_slots r.meetings.n r.slots) r.ready.fits).0

-- the meetings are in order, each once
pub meetings_ascend : (r : Ga1) → IsAscending pair_cmp r.meetings.list
meetings_ascend r =
    IsAscending-ascends pair_cmp r.meetings.list
    (and_parts (list_all (is_meeting r.meetings.n) r.meetings.list) (ascends pair_cmp r.meetings.list) (meetings_fit r)).1

-- the meetings are of teams of the league
pub meetings_inside : (r : Ga1) → All (λ p. (p.0 < r.meetings.n) × (p.1 < r.meetings.n)) r.meetings.list
meetings_inside r =
    meetings-teams r.meetings.n r.meetings.list
    (and_parts (list_all (is_meeting r.meetings.n) r.meetings.list) (ascends pair_cmp r.meetings.list) (meetings_fit r)).0
