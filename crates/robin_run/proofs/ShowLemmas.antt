-- What `show` promises is kept.
use Rattle.std.proofs.Common.{◌≡◌, ◌∷◌, [], ℕ, ◌+◌, ◌≤◌, List, length, codes, Ok, Option, Some}
use Rattle.robin_io.specs.Outside.{Store}
use Rattle.robinx.specs.Pieces.{pieces}
use Rattle.robinx.specs.InstanceFile.{instance_of}
use Rattle.robinx.specs.SolutionFile.{solution_of}
use Rattle.robinx.specs.declared.instance.TheConstants.{INSTANCE_LIMIT, SOLUTION_LIMIT}
use Rattle.league.specs.Instance.{Instance}
use Rattle.league.specs.declared.game.Game.{Game}
use Rattle.robinx.specs.Names.{Names}
use Rattle.robinx.specs.NamesFile.{names_of}
use Rattle.robinx.proofs.WholeLemmas.{names_whole}
use Rattle.command_line.specs.Words.Command.{Demands, Sheet, Show}
use Rattle.answers.specs.Reply.{Answer}
use Rattle.answers.specs.Stages.{NoneFails, Outcome, says, takes}
use Rattle.answers.proofs.StageLemmas.{first-works, says-known, second-works, takes-known}
use Rattle.command_check.specs.Validate.{IsWellFormedPair}
use Rattle.command_show.specs.Demands.{AreDemands, demanded}
use Rattle.command_show.specs.Show.{IsShown, form_text, shown}
use Rattle.command_show.specs.declared.form.Form.{Form}
use Rattle.command_show.specs.declared.form.Form.TheVariants.{Text, Csv}
use Rattle.robin_run.specs.Run.{Answered, Run}
use Rattle.robin_run.specs.Show.{AreDemandsNamed, IsShownNamed, Shows}
use Rattle.robin_run.proofs.RunLemmas.{writes}

-- the stages behind the solution file, behind the names, and behind the league
abbrev shown_from : Form → Instance → Names → List ℕ → Outcome
shown_from form league names second =
    says (codes "solution") (solution_of league.n (pieces second)) (IsShown league (form_text form league names))

abbrev read_from : Store → List ℕ → Form → List ℕ → Instance → Names → Outcome
read_from store solution form first league names =
    takes (codes "solution") (store.contents solution) SOLUTION_LIMIT (store.took_more (length first + SOLUTION_LIMIT))
    (store.failed solution) (shown_from form league names)

abbrev named_from : Store → List ℕ → Form → List ℕ → Instance → Outcome
named_from store solution form first league =
    says (codes "instance") (names_of league.n (pieces first)) (read_from store solution form first league)

shown-named : (store : Store) (instance solution : List ℕ) (form : Form) (league : Instance) (games : List Game)
    (answer : Answer) → (good : IsWellFormedPair store instance solution league games)
    → NoneFails store (instance ∷ solution ∷ []) → shown store instance solution form answer
    → IsShownNamed league good.first form games answer
shown-named store instance solution form league games answer good works given =
    let named = names_whole league.n (pieces good.first) league good.says_league in
    record {
      names = named.0;
      are_names = named.1;
      shown = says-known (codes "solution") (solution_of league.n (pieces good.second)) games
          (IsShown league (form_text form league named.0)) answer good.says_games
          (takes-known (codes "solution") (store.contents solution) SOLUTION_LIMIT
          (store.took_more (length good.first + SOLUTION_LIMIT)) (store.failed solution) (shown_from form league named.0)
          answer good.second good.second_known good.second_within (second-works store instance solution [] works)
          (says-known (codes "instance") (names_of league.n (pieces good.first)) named.0
          (read_from store solution form good.first league) answer named.1
          (says-known (codes "instance") (instance_of (pieces good.first)) league
          (named_from store solution form good.first) answer good.says_league
          (takes-known (codes "instance") (store.contents instance) INSTANCE_LIMIT (store.took_more INSTANCE_LIMIT)
          (store.failed instance)
          (λ first. says (codes "instance") (instance_of (pieces first)) (named_from store solution form first)) answer
          good.first good.first_known good.first_within (first-works store instance (solution ∷ []) works) given))));
    }

-- the stages behind the league
abbrev demanded_from : Option (List ℕ) → List ℕ → Instance → Outcome
demanded_from members bytes league =
    says (codes "instance") (names_of league.n (pieces bytes)) (AreDemands league members)

-- what a well-formed instance demands
demands-named : (store : Store) (instance bytes : List ℕ) (members : Option (List ℕ)) (league : Instance) (answer : Answer)
    → store.contents instance ≡ Some bytes → length bytes ≤ INSTANCE_LIMIT
    → instance_of (pieces bytes) ≡ Ok league → (store.failed instance → ⊥)
    → demanded store instance members answer → AreDemandsNamed league bytes members answer
demands-named store instance bytes members league answer known within says_league works given =
    let named = names_whole league.n (pieces bytes) league says_league in
    record {
      names = named.0;
      are_names = named.1;
      demands = says-known (codes "instance") (names_of league.n (pieces bytes)) named.0 (AreDemands league members) answer named.1
          (says-known (codes "instance") (instance_of (pieces bytes)) league (demanded_from members bytes) answer says_league
          (takes-known (codes "instance") (store.contents instance) INSTANCE_LIMIT (store.took_more INSTANCE_LIMIT)
          (store.failed instance)
          (λ first. says (codes "instance") (instance_of (pieces first)) (demanded_from members first)) answer
          bytes known within works given));
    }

pub shows : (run : Run) → Answered run → Shows run
shows run answered = record {
  text = λ instance solution most width is. record {
    shown = λ league games good works.
        writes run (instance ∷ solution ∷ []) (Show instance solution most width)
        (IsShownNamed league good.first (Text most width) games) answered is works
        (λ answer given. shown-named run.store instance solution (Text most width) league games answer good works.store given);
  };
  sheet = λ instance solution is. record {
    shown = λ league games good works.
        writes run (instance ∷ solution ∷ []) (Sheet instance solution)
        (IsShownNamed league good.first Csv games) answered is works
        (λ answer given. shown-named run.store instance solution Csv league games answer good works.store given);
  };
  demands = λ instance members is. record {
    told = λ league said within works.
        writes run (instance ∷ []) (Demands instance members) (AreDemandsNamed league said.bytes members) answered is works
        (λ answer given. demands-named run.store instance said.bytes members league answer said.known within
        said.says_league (first-works run.store instance [] works.store) given);
  };
}
