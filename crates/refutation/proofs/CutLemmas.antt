-- However a text is cut into pieces, it reads as the whole.
use Rattle.std.proofs.Common.{◌≡◌, ℕ, List, [], ◌∷◌, ◌++◌, Ok, Err, refl, sym, ap, ◌∙◌}
use Rattle.std.specs.List.{concat}
use Rattle.std.proofs.lemmas.List.{append-nil}
use Rattle.refutation.specs.Steps.{Step}
use Rattle.refutation.specs.Logs.{after, log_of, no_steps_but, nothing_more, whole}
use Rattle.refutation.specs.Places.{Place, log_from, start}
use Rattle.refutation.specs.Feeding.{FeedsAll, ReadsOn}
use Rattle.refutation.proofs.FeedLemmas.{ReadsOn-then, reads-same}
use Rattle.refutation.specs.declared.fault.LogKind.{LogKind}

-- pieces that are fed in turn are fed as one
pub one_piece : (pieces : List (List ℕ)) (a c : Place) (s u : List Step) → FeedsAll a s pieces c u
    → ReadsOn a s (concat pieces) c u
one_piece [] a c s u fed = rw fed.0 (reads-same a a s u [] fed.1 (λ rest. refl))
one_piece (piece ∷ pieces) a c s u fed =
    ReadsOn-then a fed.0 c s fed.1.0 u (piece ++ concat pieces) piece (concat pieces) refl fed.1.1.0
    (one_piece pieces fed.0 c fed.1.0 u fed.1.1.1)

-- from the front of a log on, the steps and then what the end says are the log, or its first fault
pub cut_as_whole : (pieces : List (List ℕ)) (now : Place) (steps : List Step) → FeedsAll start [] pieces now steps
    → log_of (concat pieces) ≡ whole (after steps (log_from now []))
cut_as_whole pieces now steps fed =
    let read = one_piece pieces start now [] steps fed in
    ap (λ bytes. whole (log_from start bytes)) (sym (append-nil (concat pieces))) ∙ ap whole (read.read [])
    ∙ ap (λ added. whole (after added (log_from now []))) (sym read.steps)

-- an end without a fault says that the pieces are a log, and a fault is the log's
pub cut-log : (pieces : List (List ℕ)) (now : Place) (steps : List Step) → FeedsAll start [] pieces now steps
    → log_from now [] ≡ nothing_more → log_of (concat pieces) ≡ Ok steps
cut-log pieces now steps fed end = cut_as_whole pieces now steps fed ∙ rw end (ap Ok (append-nil steps))

pub cut-fault : (pieces : List (List ℕ)) (now : Place) (steps : List Step) (kind : LogKind) (line : ℕ)
    → FeedsAll start [] pieces now steps → log_from now [] ≡ no_steps_but kind line
    → log_of (concat pieces) ≡ Err (kind, line)
cut-fault pieces now steps kind line fed end = cut_as_whole pieces now steps fed ∙ rw end refl

-- a text that is fed whole
pub whole-log : (bytes : List ℕ) (now : Place) (steps : List Step) → ReadsOn start [] bytes now steps
    → log_from now [] ≡ nothing_more → log_of bytes ≡ Ok steps
whole-log bytes now steps read end =
    ap (λ b. whole (log_from start b)) (sym (append-nil bytes)) ∙ ap whole (read.read [])
    ∙ rw end (ap Ok (append-nil read.added ∙ sym read.steps))
