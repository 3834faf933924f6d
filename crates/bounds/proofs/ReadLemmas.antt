-- What the text of a certificate is read as.
use Rattle.std.proofs.Common.{◌≡◌, ℕ, ◌+◌, ◌<◌, ◌==◌, Bool, true, false, List, [], ◌∷◌, take, drop, Option, Some}
use Rattle.std.proofs.Common.{◌≤◌, length, None, Ok, Err, refl, sym, ap, ◌∙◌, arith}
use Rattle.std.proofs.lemmas.Bool.Decides.{nat_tests}
use Rattle.std.proofs.lemmas.List.Splits.{slice_split-cons_no, slice_split-cons_yes}
use Rattle.memchr.specs.Find.{IsFirstByte, is_byte}
use Rattle.refutation.specs.Answers.{SaysLog}
use Rattle.refutation.specs.Logs.{end_from, lines_of, no_steps_but, whole}
use Rattle.refutation.specs.SeenPlace.{is_line_feed}
use Rattle.refutation.specs.Steps.{Step}
use Rattle.refutation.specs.declared.fault.LogFault.{LogFault}
use Rattle.refutation.specs.declared.fault.LogFault.TheVariants.{Form, Mem}
use Rattle.refutation.specs.declared.fault.LogKind.TheVariants.{BadLine, NoEnd}
use Rattle.refutation.proofs.FoundLemmas.{found-none, found-some}
use Rattle.refutation.proofs.SplitLemmas.{AreParts, split-last, split-part, split-parts}
use Rattle.bounds.specs.Answers.{SaysCertificate}
use Rattle.bounds.specs.Certificates.{bound_of, certificate_in, certificate_of, later_log, log_behind}
use Rattle.bounds.specs.Certificates.{nothing_behind, stated_by, with_log}

-- ---- lines

-- a first line, and those behind it
pub stated-first : (first : List ℕ) (lines : List (List ℕ)) → AreParts lines
    → certificate_in (first ∷ lines) ≡ stated_by (bound_of first) lines
stated-first first [] parts = let none : [] ≡ parts.first ∷ parts.others = parts.are in cc
stated-first first (next ∷ lines) parts = refl

-- the first LF ends the first line
pub certificate-cut : (bytes : List ℕ) (at : ℕ) → IsFirstByte (is_byte 10) bytes (Some at)
    → certificate_of bytes ≡ stated_by (bound_of (take at bytes)) (lines_of (drop (at + 1) bytes))
certificate-cut bytes at found =
    let is = found-some 10 bytes at found in
    ap certificate_in (ap lines_of is.parts
    ∙ split-part is_line_feed (take at bytes) 10 (drop (at + 1) bytes) is.lacks refl)
    ∙ stated-first (take at bytes) (lines_of (drop (at + 1) bytes)) (split-parts is_line_feed (drop (at + 1) bytes))

-- without one there is no first line
pub certificate-uncut : (bytes : List ℕ) → IsFirstByte (is_byte 10) bytes None → certificate_of bytes ≡ Err (NoEnd, 1)
certificate-uncut bytes none = ap certificate_in (split-last is_line_feed bytes (found-none 10 bytes none))

-- ---- the first line

-- a first line that states nothing
pub stated-none : (bytes line : List ℕ) (lines : List (List ℕ)) (found : Option ℕ)
    → certificate_of bytes ≡ stated_by (bound_of line) lines → found ≡ bound_of line → found ≡ None
    → certificate_of bytes ≡ Err (BadLine, 1)
stated-none bytes line lines found cut is none =
    cut ∙ ap (λ (bound : Option ℕ). stated_by bound lines) (sym is ∙ none)

-- one that states a bound
pub stated-some : (bytes line : List ℕ) (lines : List (List ℕ)) (bound : ℕ)
    → certificate_of bytes ≡ stated_by (bound_of line) lines → Some bound ≡ bound_of line
    → certificate_of bytes ≡ with_log bound (log_behind bound lines)
stated-some bytes line lines bound cut is =
    cut ∙ ap (λ (stated : Option ℕ). stated_by stated lines) (sym is)

-- ---- what comes behind it

pub log_behind-zero : (lines : List (List ℕ)) → log_behind 0 lines ≡ nothing_behind lines
log_behind-zero lines = refl

pub log_behind-some : (bound : ℕ) (lines : List (List ℕ)) → 0 < bound → log_behind bound lines ≡ later_log lines
log_behind-some bound lines some =
    let is : (bound == 0) ≡ false = grind (arith, nat_tests) in
    rw is refl

-- nothing is behind it
pub nothing_behind-empty : nothing_behind (lines_of []) ≡ Ok []
nothing_behind-empty = refl

end-cons : (b : ℕ) (bytes : List ℕ) (test : Bool) → is_line_feed b ≡ test
    → end_from 2 (lines_of (b ∷ bytes)) ≡ no_steps_but BadLine 2
end-cons b bytes true is =
    let parts = split-parts is_line_feed bytes in
    ap (end_from 2) (slice_split-cons_yes is_line_feed b bytes is) ∙ rw parts.are refl
end-cons b bytes false is =
    let parts = split-parts is_line_feed bytes in
    ap (end_from 2) (slice_split-cons_no is_line_feed b bytes is) ∙ rw parts.are refl

-- something is behind it
pub nothing_behind-some : (bytes : List ℕ) → (bytes ≡ [] → ⊥) → nothing_behind (lines_of bytes) ≡ Err (BadLine, 2)
nothing_behind-some [] some = absurd (some refl)
nothing_behind-some (b ∷ bytes) some = ap whole (end-cons b bytes (is_line_feed b) refl)

pub log_behind-empty : (bound : ℕ) (bytes : List ℕ) → bound ≤ 0 → (length bytes ≡ 0 → ⊥)
    → log_behind bound (lines_of bytes) ≡ Err (BadLine, 2)
log_behind-empty bound bytes none some =
    let zero_is : bound ≡ 0 = omega arith in
    ap (λ (b : ℕ). log_behind b (lines_of bytes)) zero_is
    ∙ nothing_behind-some bytes (λ empty. some (ap length empty))

-- ---- the whole

pub with_log-steps : (bytes : List ℕ) (bound : ℕ) (lines : List (List ℕ)) (steps : List Step)
    → certificate_of bytes ≡ with_log bound (log_behind bound lines) → log_behind bound lines ≡ Ok steps
    → certificate_of bytes ≡ Ok (record { bound = bound; log = steps })
with_log-steps bytes bound lines steps stated is = stated ∙ ap (with_log bound) is

-- the fault of the log, or want of memory
pub with_log-says : (bytes : List ℕ) (bound : ℕ) (lines : List (List ℕ)) (fault : LogFault)
    → certificate_of bytes ≡ with_log bound (log_behind bound lines)
    → SaysLog (log_behind bound lines) (Err fault) → SaysCertificate (certificate_of bytes) (Err fault)
with_log-says bytes bound lines (Form kind line) stated is = stated ∙ ap (with_log bound) is
with_log-says bytes bound lines Mem stated is = tt
