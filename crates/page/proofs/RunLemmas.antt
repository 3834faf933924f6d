-- A run over a store and a sink that were new.
use Rattle.std.proofs.Common.{◌≡◌, ◌≢◌, ℕ, List, [], ◌∷◌, subst, sym, arith}
use Rattle.std.specs.List.{All}
use Rattle.std.proofs.lemmas.List.Elements.{All-nil, All-cons}
use Rattle.robin_io.specs.Outside.{output_between, store_between}
use Rattle.command_line.specs.Words.{reading}
use Rattle.answers.specs.declared.status.Status.{Status}
use Rattle.answers.specs.declared.status.Status.TheVariants.{Memory}
use Rattle.page.specs.Files.{file_named}
use Rattle.page.specs.declared.files.Files.{Files}
use Rattle.robin_run.specs.Run.{NothingFails, Run, step_room}
use Rattle.page.specs.Ran.{IsPromised, Ran, files_told, run_over, text_told}
use Rattle.page.specs.Shown.{HasRun, lines}

-- the run from a store that gave so many bytes before, and a sink that held some and failed so often
abbrev pub run_from : List (List ℕ) → Files → ℕ → ℕ → List ℕ → List ℕ → ℕ → ℕ → Status → Run
run_from words files given taken first text was faults ended = record {
  command = reading words;
  room = step_room words;
  may_stop = ⊥;
  store = store_between (files_told files) given taken;
  output = output_between text_told (first, was) (text, faults);
  puts = 0;
  ended = ended;
}

-- where both were new it is the run of a page
promised-from-new : (words : List (List ℕ)) (files held : Files) (given taken : ℕ) (first text : List ℕ) (was faults : ℕ) (ended : Status)
    → held ≡ files → given ≡ 0 → first ≡ [] → was ≡ 0
    → IsPromised (run_from words held given taken first text was faults ended) → IsPromised (run_over words files taken text faults ended)
promised-from-new words files held given taken first text was faults ended same none empty well promised =
    subst (λ w. IsPromised (run_from words files 0 taken [] text w faults ended)) well
    (subst (λ f. IsPromised (run_from words files 0 taken f text was faults ended)) empty
    (subst (λ g. IsPromised (run_from words files g taken first text was faults ended)) none
    (subst (λ h. IsPromised (run_from words h given taken first text was faults ended)) same promised)))

-- a store of files that a page lends doesn't fail
never : (files : Files) (taken : ℕ) (name : List ℕ) → (store_between (files_told files) 0 taken).failed name → ⊥
never files taken name rose = omega (arith, rose)

fails-at-none : (files : Files) (taken : ℕ) (names : List (List ℕ))
    → All (λ name. (store_between (files_told files) 0 taken).failed name → ⊥) names
fails-at-none files taken [] = All-nil (λ name. (store_between (files_told files) 0 taken).failed name → ⊥)
fails-at-none files taken (name ∷ names) =
    All-cons (λ name. (store_between (files_told files) 0 taken).failed name → ⊥) name names (never files taken name)
    (fails-at-none files taken names)

-- unless memory ran out or the sink failed, nothing fails
works : (words : List (List ℕ)) (files : Files) (taken : ℕ) (text : List ℕ) (faults : ℕ) (ended : Status)
    → ended ≢ Memory → faults ≡ 0 → (names : List (List ℕ)) → NothingFails (run_over words files taken text faults ended) names
works words files taken text faults ended memory none names = record {
  memory = memory;
  sink = λ rose. omega (arith, rose, none);
  store = fails-at-none files taken names;
}

-- what is shown of the sink is what it holds
pub ran : (words : List (List ℕ)) (files held : Files) (given taken : ℕ) (first text : List ℕ) (was faults : ℕ) (ended : Status)
    → held ≡ files → given ≡ 0 → first ≡ [] → was ≡ 0
    → IsPromised (run_from words held given taken first text was faults ended)
    → (seen : List ℕ) (counted : ℕ) → seen ≡ text → counted ≡ faults → Ran words files seen counted ended
ran words files held given taken first text was faults ended same none empty well promised seen counted is_text is_count =
    let plain : Ran words files text faults ended = record {
      taken = taken;
      promised = promised-from-new words files held given taken first text was faults ended same none empty well promised;
      works = works words files taken text faults ended;
    } in
    subst (λ t. Ran words files t counted ended) (sym is_text) (subst (λ f. Ran words files text f ended) (sym is_count) plain)

-- a run of the lines of a text is one of the words that are its bytes
pub answered : (words text : List ℕ) (cut : List (List ℕ)) (files : Files) (status written : ℕ) (room : List ℕ)
    → text ≡ words → cut ≡ lines text → HasRun cut files status written room
    → HasRun (lines words) files status written room
answered words text cut files status written room same is_cut has =
    subst (λ w. HasRun (lines w) files status written room) same
    (subst (λ c. HasRun c files status written room) is_cut has)
