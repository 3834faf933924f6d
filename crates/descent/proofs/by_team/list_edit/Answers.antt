use Rattle.std.proofs.Common.{◌≡◌, ◌*◌, ◌++◌, [], ℕ, List, length, ap, refl, subst, sym, arith}
use Rattle.std.proofs.lemmas.List.{take_all}
use Rattle.league.specs.declared.game.Game.{Game}
use Rattle.descent.specs.ByTeam.{AreByTeam, GameRoom}
use Rattle.descent.proofs.ByTeamLemmas.{AreByTeam-none}
use Rattle.descent.proofs.by_team.list_edit.Goals as goal

pub list_games-requires-2-clause-spare : goal.list_games-requires-2-clause-spare
list_games-requires-2-clause-spare c =
    c.list_games.ensures.spare (length c.args.into.now) (λ k d h. omega (
      arith,
      ap (λ (l : List Game). length l) (c.clear_lists.ensures.empty k d h),
      c.clear_lists.ensures.room (8 * c.args.n) c.requires.room k d h,
    ))

pub returns-clause-room : goal.returns-clause-room
returns-clause-room c =
    c.list_games-2.ensures.room (8 * c.args.n)
    (c.list_games.ensures.room (8 * c.args.n) (c.clear_lists.ensures.room (8 * c.args.n) c.requires.room))

pub returns-clause-listed : goal.returns-clause-listed
returns-clause-listed c = λ _.
    let n = c.args.n in
    let out = c.args.out.now in
    let into = c.args.into.now in
    let cleared = c.clear_lists.new.lists in
    let first = c.list_games.new.lists in
    let last = c.list_games-2.new.lists in
    let long : length cleared ≡ n = omega (arith, c.clear_lists.auto.lists, c.requires.teams) in
    let also : length first ≡ n = omega (arith, c.list_games.auto.lists, long) in
    let none : AreByTeam (length cleared) [] cleared =
    AreByTeam-none (length cleared) cleared refl c.clear_lists.ensures.empty in
    let some : AreByTeam (length first) out first =
    subst (λ (k : ℕ). AreByTeam k out first) (sym also)
    (subst (λ (k : ℕ). AreByTeam k out first) long (c.list_games.ensures.listed [] none)) in
    let all : AreByTeam n (out ++ into) last =
    subst (λ (k : ℕ). AreByTeam k (out ++ into) last) also (c.list_games-2.ensures.listed out some) in
    subst (λ (l : List GameRoom). AreByTeam n (out ++ into) l) (sym (take_all (length last) last (omega arith))) all
