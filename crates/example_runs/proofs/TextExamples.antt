-- The text of a log of one step: its lines are short, it is one of the two texts of the log, it is read in pieces, and
-- what a reader answers of it.
use Rattle.std.proofs.Common.{◌≡◌, ℕ, ◌≤◌, true, false, List, [], ◌∷◌, ◌++◌, length, Option, Some, None, Ok, Err}
use Rattle.std.proofs.Common.{get_or, refl, ap, arith, lit<, lit≤}
use Rattle.std.specs.Prelude.{codes}
use Rattle.std.specs.Fmt.{digits}
use Rattle.std.proofs.lemmas.List.Elements.{All-from_recursion, All-nil}
use Rattle.rows.specs.Literals.{no}
use Rattle.refutation.specs.Answers.{Finishes, SaysLog}
use Rattle.refutation.specs.Feeding.{FeedsAll, ReadsOn}
use Rattle.refutation.specs.Logs.{Fault, Reading, lines_from, log_of, most_bytes, no_steps_but, nothing_more}
use Rattle.refutation.specs.Places.{Place}
use Rattle.refutation.specs.Steps.{Step}
use Rattle.refutation.specs.Steps.Step.{Clause, Linear}
use Rattle.refutation.specs.Texts.{step_text, text_in, version_of}
use Rattle.refutation.specs.Writable.{CanSay, HasShortLines, IsLogText}
use Rattle.refutation.specs.declared.fault.LogFault.TheVariants.{Form, Mem}
use Rattle.refutation.specs.declared.fault.LogKind.TheVariants.{BadLine, NoEnd}
use Rattle.refutation.specs.declared.version.Version.{Version}
use Rattle.refutation.specs.declared.version.Version.TheVariants.{One, Two}
use Rattle.refutation.proofs.LogTexts.{IsLine, lines_from-line}

abbrev step : Step
step = Clause (no 6 ∷ []) (14 ∷ 2 ∷ [])

abbrev log : List Step
log = step ∷ []

-- ---- lines: `-6 0 14 2 0` has 11 bytes

pub length-step : (length (step_text One step) ≡ 11) × (length (step_text Two step) ≡ 13)
unfolding digits
length-step = (refl, refl)

pub short_lines : HasShortLines log
unfolding digits
short_lines =
    All-from_recursion (λ (step : Step). length (step_text (version_of log) step) ≤ most_bytes) log (lit≤ tt, tt)

-- a log without steps has no line that could be too long
pub short_lines-none : HasShortLines []
short_lines-none = All-nil (λ (step : Step). length (step_text One step) ≤ most_bytes)

-- ---- texts: in either version

pub is_text : IsLogText (codes "refutation 1\n-6 0 14 2 0\nend\n") log
    × IsLogText (codes "refutation 2\nc -6 0 14 2 0\nend\n") log
unfolding digits
is_text = (
  (One, All-from_recursion (CanSay One) log (λ one. refl, tt), refl),
  (Two, All-from_recursion (CanSay Two) log (λ one. refl, tt), refl),
)

-- a sum has a text in version 2 alone
abbrev sum : List Step
sum = Linear (record { factor = 1; row = 2 } ∷ []) 1 ∷ []

pub sum_text : IsLogText (codes "refutation 2\nl 1 2 0 1\nend\n") sum
unfolding digits
sum_text = (Two, All-from_recursion (CanSay Two) sum (λ one. cc, tt), refl)

-- byte 11 says which version it is
no_heading : codes "refutation 1\nl 1 2 0 1\nend\n" ≡ text_in Two sum → ⊥
unfolding digits
no_heading is = omega (arith, ap (λ (xs : List ℕ). get_or xs 11 0) is)

pub no_sum_text : IsLogText (codes "refutation 1\nl 1 2 0 1\nend\n") sum → ⊥
no_sum_text (One, says, is) = let none : true ≡ false = says 0 (Linear [] 1) (lit< tt) refl in cc
no_sum_text (Two, says, is) = no_heading is

-- without its end it is none, whichever the version: it has 4 bytes less
no_end : (version : Version) → codes "refutation 1\n" ≡ text_in version [] → ⊥
no_end One is = omega (arith, ap length is)
no_end Two is = omega (arith, ap length is)

pub no_text : IsLogText (codes "refutation 1\n") [] → ⊥
no_text (version, says, is) = no_end version is

-- ---- pieces: the first line was read, and of the second `-6 0`

abbrev behind_heading : Place
behind_heading = record { line = 2; text = []; version = Some One; ended = false; fault = None }

abbrev within_line : Place
within_line = record { line = 2; text = codes "-6 0"; version = Some One; ended = false; fault = None }

abbrev behind_step : Place
behind_step = record { line = 3; text = []; version = Some One; ended = false; fault = None }

abbrev behind_end : Place
behind_end = record { line = 4; text = []; version = Some One; ended = true; fault = None }

-- bytes without LF are kept, and no step comes
pub reads-within : ReadsOn behind_heading [] (codes "-6 0") within_line []
reads-within = record { added = []; steps = refl; read = λ rest. refl }

-- a fault behind bytes without LF is in line 2 still
abbrev line_of_fault : Option Fault → ℕ
line_of_fault None = 0
line_of_fault (Some (kind, line)) = line

pub reads-other_line : ReadsOn behind_heading [] (codes "-6 0") behind_step [] → ⊥
unfolding lines_from
reads-other_line reads =
    let lines : ◌≡◌ {A = ℕ} 2 3 = ap (λ (read : Reading). line_of_fault read.fault) (reads.read []) in
    omega (arith, lines)

is_line : IsLine (codes "-6 0 14 2 0")
is_line = All-from_recursion (λ (b : ℕ). 32 ≤ b) (codes "-6 0 14 2 0") (omega arith)

-- with the rest of the line and its LF the step comes, behind what was read before
pub reads-step : (before : List Step) → ReadsOn within_line before (codes " 14 2 0\n") behind_step (before ++ log)
reads-step before = record {
  added = log;
  steps = refl;
  read = λ rest. lines_from-line (Some One) 2 (codes "-6 0 14 2 0") rest is_line;
}

is_end : IsLine (codes "end")
is_end = All-from_recursion (λ (b : ℕ). 32 ≤ b) (codes "end") (omega arith)

pub reads-end : ReadsOn behind_step log (codes "end\n") behind_end log
reads-end = record {
  added = [];
  steps = refl;
  read = λ rest. lines_from-line (Some One) 3 (codes "end") rest is_end;
}

-- all three in turn
pub feeds : FeedsAll behind_heading [] (codes "-6 0" ∷ codes " 14 2 0\n" ∷ codes "end\n" ∷ []) behind_end log
feeds = (
  within_line,
  ([], (reads-within, (behind_step, (log, (reads-step [], (behind_end, (log, (reads-end, (refl, refl))))))))),
)

-- ---- answers: at the end of the text nothing more may be read

pub finishes : Finishes nothing_more (Ok tt) × Finishes (no_steps_but NoEnd 3) (Err (Form NoEnd 3))
    × ((read : Reading) → Finishes read (Err Mem) → ⊥)
finishes = (refl, refl, λ read is. is)

some_none : {A : Type 0} {x : A} → Some x ≡ None → ⊥
some_none is = cc

-- a fault isn't passed over, and no step stands where the reader is at the end
pub no_finish : (Finishes (no_steps_but NoEnd 3) (Ok tt) → ⊥)
    × (Finishes (record { steps = log; fault = None }) (Ok tt) → ⊥)
no_finish = (
  λ is. some_none (ap (λ (read : Reading). read.fault) is),
  λ is. omega (arith, ap (λ (read : Reading). length read.steps) is),
)

pub says : SaysLog (log_of (codes "refutation 1\n-6 0 14 2 0\nend\n")) (Ok log)
    × SaysLog (log_of (codes "refutation 1\n-6 0 14 2 0 \nend\n")) (Err (Form BadLine 2))
unfolding lines_from
says = (refl, refl)

-- want of memory says nothing of the text; a fault doesn't stand for a log, nor a log for a fault
pub says-memory : SaysLog (Ok log) (Err Mem) × SaysLog (Err (BadLine, 2)) (Err Mem)
says-memory = (tt, tt)

pub says-fault : SaysLog (Ok log) (Err (Form NoEnd 1)) → ⊥
says-fault is = cc

pub says-log : SaysLog (Err (NoEnd, 1)) (Ok []) → ⊥
says-log is = cc
