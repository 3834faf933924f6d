-- Lines of a log, taken from the front, and pieces of it.
use Rattle.std.proofs.Common.{◌≡◌, ℕ, ◌+◌, ◌-◌, ◌<◌, ◌≤◌, Bool, true, false, nat_le, List, [], ◌∷◌, ◌++◌}
use Rattle.std.proofs.Common.{length, take, drop, Option, IfSome, Some, None, Result, Ok, Err, refl, sym, ap}
use Rattle.std.proofs.Common.{◌∙◌, arith, append_assoc, length-append}
use Rattle.std.specs.Prelude.{is_some}
use Rattle.std.proofs.lemmas.Bool.{false≢true}
use Rattle.std.proofs.lemmas.Bool.Decides.{nat_tests}
use Rattle.std.proofs.lemmas.List.{append-nil}
use Rattle.std.proofs.lemmas.List.Elements.{All-append}
use Rattle.memchr.specs.Find.{IsFirstByte, is_byte}
use Rattle.refutation.specs.Steps.{Step}
use Rattle.refutation.specs.Logs.{Fault, Line, Reading, after, end_from, go_on, line_of, lines_from, lines_of}
use Rattle.refutation.specs.Logs.{most_bytes, no_steps_but, nothing_more, whole}
use Rattle.refutation.specs.Logs.Line.{End, Heading, Says}
use Rattle.refutation.specs.Places.{Place, log_from, read_at}
use Rattle.refutation.specs.Cuts.{Lacks}
use Rattle.refutation.specs.Feeding.{ReadsOn}
use Rattle.refutation.specs.SeenPlace.{IsPlace, is_line_feed, IsSameButText, SaysOutcome, next_place}
use Rattle.refutation.specs.declared.fault.LogKind.{LogKind}
use Rattle.refutation.specs.declared.fault.LogKind.TheVariants.{BadLine, NoEnd, TooLong}
use Rattle.refutation.specs.declared.place.Outcome.{Outcome}
use Rattle.refutation.specs.declared.place.Outcome.TheVariants as outcomes
use Rattle.refutation.specs.declared.version.Version.{Version}
use Rattle.refutation.proofs.SplitLemmas.{split-front, split-last, split-part, split-parts}
use Rattle.refutation.proofs.FoundLemmas.{found-none, found-some}

-- ---- lines

lines_from-more : (version : Option Version) (line : ℕ) (text next : List ℕ) (lines : List (List ℕ))
    → lines_from version line (text ∷ next ∷ lines) ≡ go_on (line_of version text) version line
    (λ known. lines_from known (line + 1) (next ∷ lines)) (end_from (line + 1) (next ∷ lines))
unfolding lines_from
lines_from-more version line text next lines = refl

-- a line and its LF
whole_line : (version : Option Version) (line : ℕ) (text rest : List ℕ) → Lacks is_line_feed text
    → lines_from version line (lines_of (text ++ 10 ∷ rest)) ≡ go_on (line_of version text) version line
    (λ known. lines_from known (line + 1) (lines_of rest)) (end_from (line + 1) (lines_of rest))
whole_line version line text rest lacks =
    let parts = split-parts is_line_feed rest in
    ap (lines_from version line) (split-part is_line_feed text 10 rest lacks refl)
    ∙ rw parts.are (lines_from-more version line text parts.first parts.others)

too_long : (version : Option Version) (text : List ℕ) → nat_le (length text) most_bytes ≡ false
    → line_of version text ≡ Err TooLong
too_long version text long = rw long refl

long-at : (version : Option Version) (line : ℕ) (text : List ℕ) (others : List (List ℕ))
    → nat_le (length text) most_bytes ≡ false → lines_from version line (text ∷ others) ≡ no_steps_but TooLong line
unfolding lines_from
long-at version line text [] long = rw long refl
long-at version line text (next ∷ others) long = rw long refl

over : (n m : ℕ) → m < n → nat_le n m ≡ false
over n m h = grind (arith, nat_tests)

-- a line that is too long, whatever follows
long_line : (version : Option Version) (line : ℕ) (text rest : List ℕ) → Lacks is_line_feed text
    → most_bytes < length text
    → lines_from version line (lines_of (text ++ rest)) ≡ no_steps_but TooLong line
long_line version line text rest lacks long =
    let parts = split-parts is_line_feed rest in
    let longer : most_bytes < length (text ++ parts.first) = omega (arith, length-append text parts.first) in
    ap (lines_from version line) (split-front is_line_feed text rest lacks)
    ∙ rw parts.are (long-at version line (text ++ parts.first) parts.others
    (over (length (text ++ parts.first)) most_bytes longer))

-- a byte behind `end`, whatever follows
end-bytes : (line : ℕ) (front rest : List ℕ) → Lacks is_line_feed front → (front ≡ [] → ⊥)
    → end_from line (lines_of (front ++ rest)) ≡ no_steps_but BadLine line
end-bytes line [] rest lacks some = absurd (some refl)
end-bytes line (b ∷ front) rest lacks some =
    let parts = split-parts is_line_feed rest in
    ap (end_from line) (split-front is_line_feed (b ∷ front) rest lacks) ∙ rw parts.are refl

end-line : (line : ℕ) (front rest : List ℕ) → Lacks is_line_feed front
    → end_from line (lines_of (front ++ 10 ∷ rest)) ≡ no_steps_but BadLine line
end-line line [] rest lacks =
    let parts = split-parts is_line_feed rest in
    ap (end_from line) (split-part is_line_feed [] 10 rest lacks refl) ∙ rw parts.are refl
end-line line (b ∷ front) rest lacks =
    ap (end_from line) (split-part is_line_feed (b ∷ front) 10 rest lacks refl)

-- ---- a fault, and what is passed over

none-is : (fault : Option Fault) → is_some fault ≡ false → fault ≡ None
none-is None h = refl
none-is (Some f) h = absurd (false≢true (sym h))

faulty : (fault : Option Fault) (ended : Bool) (version : Option Version) (line : ℕ) (these those : List (List ℕ))
    → is_some fault ≡ true → read_at fault ended version line these ≡ read_at fault ended version line those
faulty None ended version line these those h = absurd (false≢true h)
faulty (Some f) ended version line these those h = refl

pub keep-fault : (at : Place) (front rest : List ℕ) → is_some at.fault ≡ true
    → log_from at (front ++ rest) ≡ log_from at rest
keep-fault at front rest h = faulty at.fault at.ended at.version at.line (lines_of (at.text ++ (front ++ rest)))
    (lines_of (at.text ++ rest)) h

pub keep-nothing : (at : Place) (front rest : List ℕ) → front ≡ [] → log_from at (front ++ rest) ≡ log_from at rest
keep-nothing at front rest is = ap (λ bytes. log_from at (bytes ++ rest)) is

pub keep-ended : (at now : Place) (front rest : List ℕ) → is_some at.fault ≡ false → at.ended ≡ true → IsPlace at
    → Lacks is_line_feed front → (front ≡ [] → ⊥)
    → now ≡ next_place at (outcomes.Fault BadLine) → log_from at (front ++ rest) ≡ log_from now rest
keep-ended at now front rest none ended place lacks some is =
    rw (is, none-is at.fault none, ended, place.nothing ended) (end-bytes at.line front rest lacks some)

pub keep-long : (at now : Place) (front rest : List ℕ) → is_some at.fault ≡ false → at.ended ≡ false → IsPlace at
    → Lacks is_line_feed front → most_bytes - length at.text < length front
    → now ≡ next_place at (outcomes.Fault TooLong) → log_from at (front ++ rest) ≡ log_from now rest
keep-long at now front rest none within place lacks long is =
    let longer : most_bytes < length (at.text ++ front) = omega (arith, length-append at.text front, place.short) in
    rw (is, none-is at.fault none, within, ← append_assoc at.text front rest)
    (long_line at.version at.line (at.text ++ front) rest
    (All-append (λ b. is_line_feed b ≡ false) at.text front place.one_line lacks) longer)

-- bytes more
abbrev pub with_text : Place → List ℕ → Place
with_text at text = record { line = at.line; text = text; version = at.version; ended = at.ended; fault = at.fault }

pub keep-kept : (at now : Place) (front rest : List ℕ) → now ≡ with_text at (at.text ++ front)
    → log_from at (front ++ rest) ≡ log_from now rest
keep-kept at now front rest is =
    rw is (ap (λ bytes. read_at at.fault at.ended at.version at.line (lines_of bytes))
    (sym (append_assoc at.text front rest)))

pub IsPlace-kept : (at now : Place) (front : List ℕ) → at.ended ≡ false → IsPlace at → Lacks is_line_feed front
    → length front ≤ most_bytes - length at.text → now ≡ with_text at (at.text ++ front) → IsPlace now
IsPlace-kept at now front within place lacks short is = rw is (record {
  one_line = All-append (λ b. is_line_feed b ≡ false) at.text front place.one_line lacks;
  short = omega (arith, length-append at.text front, place.short);
  nothing = λ ended. absurd (false≢true (sym within ∙ ended));
  at_fault = place.at_fault;
})

-- a place whose line is empty
pub IsPlace-empty : (now : Place) → now.text ≡ [] → IfSome now.fault (λ fault. fault.1 ≡ now.line) → IsPlace now
IsPlace-empty now is faulty = record {
  one_line = rw is (λ k d below. absurd (omega arith));
  short = rw is (omega arith);
  nothing = λ ended. is;
  at_fault = faulty;
}

-- ---- a line and its LF

regroup : (text front rest : List ℕ) → text ++ ((front ++ 10 ∷ []) ++ rest) ≡ (text ++ front) ++ 10 ∷ rest
regroup text front rest = simp append_assoc

pub reads-same : (at now : Place) (old new : List Step) (piece : List ℕ) → new ≡ old
    → ((rest : List ℕ) → log_from at (piece ++ rest) ≡ log_from now rest) → ReadsOn at old piece now new
reads-same at now old new piece same read = record { added = []; steps = same ∙ sym (append-nil old); read = read }

pub end-fault : (at : Place) (old : List Step) (front : List ℕ) → is_some at.fault ≡ true
    → ReadsOn at old (front ++ 10 ∷ []) at old
end-fault at old front h = reads-same at at old old (front ++ 10 ∷ []) refl
    (λ rest. keep-fault at (front ++ 10 ∷ []) rest h)

pub end-ended : (at now : Place) (old : List Step) (front : List ℕ) → is_some at.fault ≡ false → at.ended ≡ true
    → IsPlace at → Lacks is_line_feed front
    → now ≡ next_place at (outcomes.Fault BadLine) → ReadsOn at old (front ++ 10 ∷ []) now old
end-ended at now old front none ended place lacks is = reads-same at now old old (front ++ 10 ∷ []) refl
    (λ rest. rw (is, none-is at.fault none, ended, place.nothing ended, append_assoc front (10 ∷ []) rest)
    (end-line at.line front rest lacks))

module _ (at : Place) (front : List ℕ) (none : is_some at.fault ≡ false) (within : at.ended ≡ false)
    (place : IsPlace at) (lacks : Lacks is_line_feed front) where
  line-read : (rest : List ℕ) → log_from at ((front ++ 10 ∷ []) ++ rest)
      ≡ go_on (line_of at.version (at.text ++ front)) at.version at.line
      (λ known. lines_from known (at.line + 1) (lines_of rest)) (end_from (at.line + 1) (lines_of rest))
  line-read rest =
      rw (none-is at.fault none, within, regroup at.text front rest)
      (whole_line at.version at.line (at.text ++ front) rest
      (All-append (λ b. is_line_feed b ≡ false) at.text front place.one_line lacks))

  line-said : (said : Result Line LogKind) (rest : List ℕ) → line_of at.version (at.text ++ front) ≡ said
      → log_from at ((front ++ 10 ∷ []) ++ rest)
      ≡ go_on said at.version at.line (λ known. lines_from known (at.line + 1) (lines_of rest))
      (end_from (at.line + 1) (lines_of rest))
  line-said said rest is =
      line-read rest
      ∙ ap
      (λ it. go_on it at.version at.line (λ known. lines_from known (at.line + 1) (lines_of rest))
      (end_from (at.line + 1) (lines_of rest)))
      is

  -- what a line did
  pub fed-line : (outcome : Outcome) (now : Place) (old new : List Step)
      → SaysOutcome (line_of at.version (at.text ++ front)) outcome old new → now ≡ next_place at outcome
      → ReadsOn at old (front ++ 10 ∷ []) now new
  fed-line (outcomes.Heading version) now old new says is = reads-same at now old new (front ++ 10 ∷ []) says.1
      (λ rest. line-said (Ok (Heading version)) rest says.0 ∙ rw (is, none-is at.fault none, within) refl)
  fed-line outcomes.End now old new says is = reads-same at now old new (front ++ 10 ∷ []) says.1
      (λ rest. line-said (Ok End) rest says.0 ∙ rw (is, none-is at.fault none) refl)
  fed-line outcomes.Step now old new says is = record {
    added = says.step ∷ [];
    steps = says.added;
    read = λ rest. line-said (Ok (Says says.step)) rest says.says ∙ rw (is, none-is at.fault none, within) refl;
  }
  fed-line (outcomes.Fault kind) now old new says is = reads-same at now old new (front ++ 10 ∷ []) says.1
      (λ rest. line-said (Err kind) rest says.0 ∙ rw is refl)

-- where a reader goes doesn't hang on the line's bytes
pub next-same : (a b : Place) (outcome : Outcome) → IsSameButText a b → (text : List ℕ)
    → next_place (with_text b text) outcome ≡ next_place a outcome
next-same a b (outcomes.Heading version) same text = rw (same.line, same.ended, same.fault) refl
next-same a b outcomes.End same text = rw (same.line, same.version, same.fault) refl
next-same a b outcomes.Step same text = rw (same.line, same.version, same.ended, same.fault) refl
next-same a b (outcomes.Fault kind) same text = rw (same.line, same.version, same.ended) refl

-- ---- pieces

pub ReadsOn-then : (a b c : Place) (s t u : List Step) (whole front rest : List ℕ) → whole ≡ front ++ rest
    → ReadsOn a s front b t → ReadsOn b t rest c u → ReadsOn a s whole c u
ReadsOn-then a b c s t u whole front rest is first second = record {
  added = first.added ++ second.added;
  steps = second.steps ∙ ap (λ steps. steps ++ second.added) first.steps ∙ append_assoc s first.added second.added;
  read = λ behind.
      ap (λ bytes. log_from a (bytes ++ behind)) is ∙ ap (log_from a) (append_assoc front rest behind)
      ∙ first.read (rest ++ behind)
      ∙ ap (after first.added) (second.read behind)
      ∙ ap (λ steps. let read : Reading = record { steps = steps; fault = (log_from c behind).fault } in read)
      (sym (append_assoc first.added second.added (log_from c behind).steps));
}

-- the bytes before the first LF
pub line-parts : (bytes : List ℕ) (at : ℕ) → IsFirstByte (is_byte 10) bytes (Some at)
    → bytes ≡ (take at bytes ++ 10 ∷ []) ++ drop (at + 1) bytes
line-parts bytes at found = (found-some 10 bytes at found).parts
    ∙ sym (append_assoc (take at bytes) (10 ∷ []) (drop (at + 1) bytes))

pub line-lacks : (bytes : List ℕ) (at : ℕ) → IsFirstByte (is_byte 10) bytes (Some at)
    → Lacks is_line_feed (take at bytes)
line-lacks bytes at found = (found-some 10 bytes at found).lacks

pub rest-lacks : (bytes : List ℕ) → IsFirstByte (is_byte 10) bytes None → Lacks is_line_feed bytes
rest-lacks bytes none = found-none 10 bytes none

-- ---- the end

pub finish-ended : (at : Place) → is_some at.fault ≡ false → at.ended ≡ true → IsPlace at
    → log_from at [] ≡ nothing_more
finish-ended at none ended place = rw (none-is at.fault none, ended, place.nothing ended) refl

lines_from-last : (version : Option Version) (line : ℕ) (text : List ℕ) → length text ≤ most_bytes
    → lines_from version line (text ∷ []) ≡ no_steps_but NoEnd line
unfolding lines_from
lines_from-last version line text short = let le : nat_le (length text) most_bytes ≡ true =
    grind (arith, nat_tests) in rw le refl

pub finish-open : (at : Place) → is_some at.fault ≡ false → at.ended ≡ false → IsPlace at
    → log_from at [] ≡ no_steps_but NoEnd at.line
finish-open at none within place =
    rw (none-is at.fault none, within, append-nil at.text)
    (ap (lines_from at.version at.line) (split-last is_line_feed at.text place.one_line)
    ∙ lines_from-last at.version at.line at.text place.short)
