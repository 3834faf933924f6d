-- Lines of steps that stand in front of bytes, read in turn.
use Rattle.std.proofs.Common.{◌≡◌, ℕ, ◌+◌, ◌<◌, ◌≤◌, false, List, [], ◌++◌, length, Option, Some, Ok}
use Rattle.std.proofs.Common.{refl, arith, ap, sym, ◌∙◌, append_assoc, length-append}
use Rattle.std.specs.Prelude.{codes, is_some}
use Rattle.std.proofs.lemmas.List.Elements.{All-weaker}
use Rattle.refutation.specs.Steps.{Step}
use Rattle.refutation.specs.Logs.{line_of}
use Rattle.refutation.specs.Logs.Line.{Says}
use Rattle.refutation.specs.Texts.{step_line_text, step_text}
use Rattle.refutation.specs.Places.{Place}
use Rattle.refutation.specs.Feeding.{ReadsOn}
use Rattle.refutation.specs.Cuts.{Lacks}
use Rattle.refutation.specs.Outcomes.{AddsLine}
use Rattle.refutation.specs.SeenPlace.{is_line_feed, next_place}
use Rattle.refutation.specs.Fronts.{AddsStepLine, IsAtLine, ReadsFront}
use Rattle.refutation.specs.declared.place.Outcome.TheVariants as outcomes
use Rattle.refutation.specs.declared.version.Version.{Version}
use Rattle.refutation.proofs.FeedLemmas.{IsPlace-empty, ReadsOn-then, fed-line, reads-same}
use Rattle.refutation.proofs.LogTexts.{line_feed-apart, line_of-step, step-line}
use Rattle.refutation.proofs.StepTexts.{step_line-step_text}

-- the next line
abbrev pub next_line : Place → Place
next_line at = record {
  line = at.line + 1;
  text = at.text;
  version = at.version;
  ended = at.ended;
  fault = at.fault;
}

module _ (version : Version) (bytes left : List ℕ) (old new : List Step)
    (adds : AddsStepLine version bytes left old new) where
  pub clause-shorter : length left < length bytes
  clause-shorter = omega (
    arith,
    ap length adds.line.written,
    length-append (step_line_text version adds.step) left,
    length-append (step_text version adds.step) (codes "\n"),
  )

  no-line_feed : Lacks is_line_feed (step_text version adds.step)
  no-line_feed = All-weaker (λ (b : ℕ). 32 ≤ b) (λ (b : ℕ). is_line_feed b ≡ false) line_feed-apart
      (step_text version adds.step)
      (step-line version adds.step adds.line.small)

  says-step : (at : Place) → IsAtLine at version
      → line_of at.version (at.text ++ step_text version adds.step)
      ≡ Ok (Says adds.step)
  says-step at is =
      let text : List ℕ = step_text version adds.step in
      ap (λ (known : Option Version). line_of known (at.text ++ text)) is.known
      ∙ ap (λ (front : List ℕ). line_of (Some version) (front ++ text)) is.text
      ∙ line_of-step version text adds.step
      (step_line-step_text version adds.step
      adds.line.of adds.line.small adds.line.rows) adds.line.short

  -- one line
  pub line-front : (at : Place) → IsAtLine at version → ReadsFront at old bytes left (next_line at) new
  line-front at is =
      let text : List ℕ = step_text version adds.step in
      let says : AddsLine (line_of at.version (at.text ++ text)) old new = record {
        step = adds.step;
        says = says-step at is;
        added = adds.added;
      } in
      let next : next_line at ≡ next_place at outcomes.Step = ap (λ (front : List ℕ). let p : Place = record {
        line = at.line + 1;
        text = front;
        version = at.version;
        ended = at.ended;
        fault = at.fault;
      } in p) is.text in
      record {
        front = step_line_text version adds.step;
        parts = adds.line.written;
        read = fed-line at text (ap is_some is.no_fault) is.within (IsPlace-empty at is.text (rw is.no_fault tt)) no-line_feed
            outcomes.Step (next_line at) old new says next;
        line = omega (arith, clause-shorter);
      }

-- what is behind it
pub next-at_line : (at : Place) (version : Version) → IsAtLine at version → IsAtLine (next_line at) version
next-at_line at version is = record {
  text = is.text;
  known = is.known;
  within = is.within;
  no_fault = is.no_fault;
}

-- nothing was read
pub front-none : (at : Place) (old : List Step) (bytes : List ℕ) → ReadsFront at old bytes bytes at old
front-none at old bytes = record {
  front = [];
  parts = refl;
  read = reads-same at at old old [] refl (λ rest. refl);
  line = omega arith;
}

-- more was read
pub front-then : (a b c : Place) (s t u : List Step) (bytes mid left : List ℕ) → ReadsFront a s bytes mid b t
    → ReadsFront b t mid left c u → ReadsFront a s bytes left c u
front-then a b c s t u bytes mid left first second = record {
  front = first.front ++ second.front;
  parts = first.parts ∙ ap (λ (bs : List ℕ). first.front ++ bs) second.parts
      ∙ sym (append_assoc first.front second.front left);
  read = ReadsOn-then a b c s t u (first.front ++ second.front) first.front second.front refl first.read second.read;
  line = let one = first.line in let other = second.line in omega arith;
}

-- what follows it
pub front-on : (a b c : Place) (s t u : List Step) (bytes left : List ℕ) → ReadsFront a s bytes left b t
    → ReadsOn b t left c u → ReadsOn a s bytes c u
front-on a b c s t u bytes left first next =
    ReadsOn-then a b c s t u bytes first.front left first.parts first.read next
