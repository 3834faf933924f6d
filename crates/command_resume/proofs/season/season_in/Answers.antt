use Rattle.std.proofs.Common.{◌≡◌, ℕ, ◌+◌, List, Option, Ok, length, arith, codes, rules, subst, sym}
use Rattle.robin_io.specs.Outside.{Store, store_between}
use Rattle.robinx.specs.Pieces.{pieces}
use Rattle.robinx.specs.InstanceFile.{instance_of}
use Rattle.robinx.specs.SolutionFile.{solution_of}
use Rattle.robinx.specs.declared.instance.TheConstants.{INSTANCE_LIMIT, SOLUTION_LIMIT}
use Rattle.answers.specs.SeenReply.{IsMalformed}
use Rattle.answers.specs.Stages.{IsFile, IsUnread, Outcome}
use Rattle.command_check.proofs.StageLemmas.{stage-wider}
use Rattle.command_resume.specs.Seasons.{has_size, has_slots}
use Rattle.command_resume.specs.SeenSeason.{IsSaid}
use Rattle.command_resume.specs.declared.season.Season.{Season}
use Rattle.command_resume.proofs.StageLemmas.{plays-second_malformed, plays-second_unread, plays-too_long}
use Rattle.command_resume.proofs.StageLemmas.{raised-twice}
use Rattle.command_resume.proofs.season.season_in.Goals as goal

pub returns-clause-season : goal.returns-clause-season
returns-clause-season g c = record {
  first = c.in_ok-first.first.items;
  second = c.in_ok-second.second.items;
  first_file = c.in_ok-first.ensures.stage;
  second_file =
      subst (λ (known : Option (List ℕ)). IsFile known SOLUTION_LIMIT c.in_ok-second.second.items)
      (c.in_ok-first.ensures.contents c.args.solution.now) c.in_ok-second.ensures.stage;
  says_league =
      subst (λ (b : List ℕ). instance_of (pieces b) ≡ Ok c.in_ok-league.league) c.deref.ensures.value
      c.in_ok-league.ensures;
  says_played =
      subst (λ (b : List ℕ). solution_of c.in_ok-league.league.n (pieces b) ≡ Ok c.in_ok-played.played)
      c.deref-2.ensures.value c.in_ok-played.ensures.says;
  slots = c.in_ok-slots.ensures.1;
  small = c.in_ok-slots.ensures.2;
  slots_are = c.in_ok-slots.ensures.0;
  bytes_are = search rules;
}

pub returns-clause-count : goal.returns-clause-count
returns-clause-count g c =
    let told = raised-twice (g.S.Shelf.taken c.args.shelf.now) (g.S.Shelf.taken c.file.new.shelf)
    (g.S.Shelf.taken c.file-2.new.shelf) _ _
    c.in_ok-first.ensures.count c.in_ok-second.ensures.count in
    omega (arith, told, c.len.ensures, c.len-2.ensures)

-- more slots than the season has, or too many rows
pub returns-in_err-slots-clause-season : goal.returns-in_err-slots-clause-season
returns-in_err-slots-clause-season g c =
    let store : Store = store_between g.S.Shelf c.args.shelf.now c.file.new.shelf in
    let never : Season → Outcome = λ season answer. ⊥ in
    let said : Season → Type 0 = IsSaid store.contents c.args.instance.now c.args.solution.now c.args.k in
    let is_first : IsFile (store.contents c.args.instance.now) INSTANCE_LIMIT c.deref.result.now =
    subst (λ (bytes : List ℕ). IsFile (store.contents c.args.instance.now) INSTANCE_LIMIT bytes) (sym c.deref.ensures.value)
    c.in_ok-first.ensures.stage in
    stage-wider said said
    (has_slots c.in_ok-league.league c.args.k
    (λ slots. has_size c.in_ok-league.league c.args.k (λ size answer. ⊥)))
    _ (λ season is. is)
    (plays-too_long store c.args.instance.now c.args.solution.now c.args.k never
    c.deref.result.now c.in_ok-league.league is_first c.in_ok-league.ensures)
    c.from_residual-in_err-slots.result (search rules)

-- the solution file isn't read, or memory ran out
pub returns-in_err-second-clause-season : goal.returns-in_err-second-clause-season
returns-in_err-second-clause-season g c =
    let store : Store = store_between g.S.Shelf c.args.shelf.now c.file-2.new.shelf in
    let never : Season → Outcome = λ season answer. ⊥ in
    let said : Season → Type 0 = IsSaid store.contents c.args.instance.now c.args.solution.now c.args.k in
    let is_first : IsFile (store.contents c.args.instance.now) INSTANCE_LIMIT c.deref.result.now =
    subst (λ (bytes : List ℕ). IsFile (store.contents c.args.instance.now) INSTANCE_LIMIT bytes) (sym c.deref.ensures.value)
    c.in_ok-first.ensures.stage in
    stage-wider said said
    (λ answer. IsUnread (codes "solution") (store.contents c.args.solution.now) SOLUTION_LIMIT
    (store.took_more (length c.deref.result.now + SOLUTION_LIMIT)) (store.failed c.args.solution.now) answer)
    _ (λ season is. is)
    (plays-second_unread store c.args.instance.now c.args.solution.now c.args.k never
    c.deref.result.now c.in_ok-league.league is_first c.in_ok-league.ensures c.in_ok-slots.ensures.1
    c.in_ok-slots.ensures.2)
    c.from_residual-in_err-second.result (search rules)

-- the solution file says no games
pub returns-in_err-played-clause-season : goal.returns-in_err-played-clause-season
returns-in_err-played-clause-season g c =
    let store : Store = store_between g.S.Shelf c.args.shelf.now c.file-2.new.shelf in
    let never : Season → Outcome = λ season answer. ⊥ in
    let said : Season → Type 0 = IsSaid store.contents c.args.instance.now c.args.solution.now c.args.k in
    let is_first : IsFile (store.contents c.args.instance.now) INSTANCE_LIMIT c.deref.result.now =
    subst (λ (bytes : List ℕ). IsFile (store.contents c.args.instance.now) INSTANCE_LIMIT bytes) (sym c.deref.ensures.value)
    c.in_ok-first.ensures.stage in
    let is_second : IsFile (store.contents c.args.solution.now) SOLUTION_LIMIT c.deref-2.result.now =
    subst (λ (bytes : List ℕ). IsFile (store.contents c.args.solution.now) SOLUTION_LIMIT bytes)
    (sym c.deref-2.ensures.value)
    (subst (λ (known : Option (List ℕ)). IsFile known SOLUTION_LIMIT c.in_ok-second.second.items)
    (c.in_ok-first.ensures.contents c.args.solution.now) c.in_ok-second.ensures.stage) in
    stage-wider said said
    (IsMalformed (codes "solution") (solution_of c.in_ok-league.league.n (pieces c.deref-2.result.now))) _ (λ season is. is)
    (plays-second_malformed store c.args.instance.now c.args.solution.now c.args.k never
    c.deref.result.now c.deref-2.result.now c.in_ok-league.league is_first c.in_ok-league.ensures
    c.in_ok-slots.ensures.1 c.in_ok-slots.ensures.2 is_second)
    c.from_residual-in_err-played.result (search rules)
