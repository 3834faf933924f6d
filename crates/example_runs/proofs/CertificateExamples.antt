-- What `bound` says of certificates over the league that wants two teams even behind slot 0, and what runs of `prove`
-- and of `bound` say.
use Rattle.std.proofs.Common.{lit<, true, false, ◌≡◌, ℕ, ◌+◌, ◌<◌, ◌≤◌, if◌then◌else◌, List, [], ◌∷◌, ◌++◌, get_or, Option}
use Rattle.std.proofs.Common.{drop, zero, suc, Some, None, Result, Ok, codes, bytes_eq, decimal, ap, arith, le_of_eq}
use Rattle.std.proofs.Common.{refl, sym, ◌∙◌}
use Rattle.std.specs.Fmt.{digits}
use Rattle.answers.specs.Stages.{NoneFails}
use Rattle.example_runs.proofs.Runs.{ended_with, store_of, written_between}
use Rattle.robin_run.specs.Run.{Writes}
use Rattle.league.specs.Accepted.{objective}
use Rattle.league.specs.Counts.{counts_of}
use Rattle.league.specs.Instance.{Instance}
use Rattle.answers.specs.Reply.{Answer}
use Rattle.answers.specs.declared.status.Status.TheVariants.{Yes, No}
use Rattle.refutation.specs.Logs.{Fault}
use Rattle.refutation.specs.declared.verdict.Cause.TheVariants.{NoConflict}
use Rattle.refutation.specs.declared.verdict.Verdict.TheVariants.{Accepted, Rejected}
use Rattle.bounds.specs.Certificates.{certificate_of, certificate_text}
use Rattle.bounds.specs.declared.certificate.Certificate.{Certificate}
use Rattle.command_prove.specs.Bound.{IsBoundVerdict, IsPastRoom, IsWellFormedCertificate, bound_answer, bound_verdict}
use Rattle.robin_run.specs.Bound.{IsCertified}
use Rattle.robin_run.specs.Prove.{IsBettered, IsUnbettered}
use Rattle.example_runs.proofs.LeastExamples.{away-one, away-zero, away_first, even-accepted, even_soon, log}
use Rattle.example_runs.proofs.LeastExamples.{lower_bound, one-fit, one_first, zero_first}
use Rattle.example_runs.proofs.ProveExamples.{better-written, better_file, certificate, certificate-proves}
use Rattle.example_runs.proofs.ProveExamples.{certificate-read, certificate-written, certificate_file, league_file}
use Rattle.example_runs.proofs.ProveExamples.{says-league, small-even}

-- ---- verdicts

abbrev accepted_line : List ℕ
accepted_line = codes "accepted bound 4 steps 2\n"

abbrev accepted : Answer
accepted = record { status = Yes; text = accepted_line }

accepted-is : accepted ≡ bound_answer 4 2 Accepted
unfolding digits
accepted-is = refl

pub verdict-four : IsBoundVerdict even_soon None certificate accepted
verdict-four = record {
  verdict = accepted-is ∙ ap (bound_answer 4 2) (sym certificate-proves);
  within = λ some. refl;
  holds = λ yes. lower_bound;
}

-- a clause of one literal takes 64 bytes and 8 more, and the empty one 64
pub verdict-room : IsBoundVerdict even_soon (Some 136) certificate accepted
verdict-room = record {
  verdict = accepted-is ∙ ap (bound_answer 4 2) (sym certificate-proves);
  within = λ some. refl;
  holds = λ yes. lower_bound;
}

pub verdict-past : IsPastRoom even_soon (Some 135) certificate
verdict-past = (omega arith, (2, omega arith, refl))

pub verdict-little : (answer : Answer) → IsBoundVerdict even_soon (Some 135) certificate answer → ⊥
verdict-little answer is = let same : false ≡ true = is.within (omega arith) in cc

-- a certificate of 5 with the steps of the one before: at most 4 may be paid, so that row 31 demands nothing and the
-- unit 9 stays open
abbrev five : Certificate
five = record { bound = 5; log = log }

five-verdict : bound_verdict even_soon 5 log ≡ Rejected 1 NoConflict
five-verdict = refl

abbrev rejected : Answer
rejected = record { status = No; text = codes "rejected step 1 cause NoConflict\n" }

rejected-is : rejected ≡ bound_answer 5 2 (Rejected 1 NoConflict)
unfolding digits
rejected-is = refl

no_yes : No ≡ Yes → ⊥
no_yes is = cc

pub verdict-five : IsBoundVerdict even_soon None five rejected
verdict-five = record {
  verdict = rejected-is ∙ ap (bound_answer 5 2) (sym five-verdict);
  within = λ some. refl;
  holds = λ yes. absurd (no_yes yes);
}

-- that 5 is accepted is no verdict: the season costs 4
not_five : (n : ℕ) → n ≡ 4 → 5 ≤ n → ⊥
not_five n four enough = omega (arith, four, enough)

pub verdict-not_five : (room : Option ℕ) (text : List ℕ)
    → IsBoundVerdict even_soon room five (record { status = Yes; text = text }) → ⊥
verdict-not_five room text is = not_five 4 refl (is.holds refl (counts_of zero_first) even-accepted)

-- the certificate that proves 4 isn't refused
pub verdict-refused : (room : Option ℕ) → IsBoundVerdict even_soon room certificate rejected → ⊥
verdict-refused room is =
    no_yes (ap (λ (answer : Answer). answer.status) (is.verdict ∙ ap (bound_answer 4 2) certificate-proves))

-- 0 needs no step, and so no room
abbrev nothing : Certificate
nothing = record { bound = 0; log = [] }

abbrev nothing_line : List ℕ
nothing_line = codes "accepted bound 0 steps 0\n"

abbrev nothing_answer : Answer
nothing_answer = record { status = Yes; text = nothing_line }

nothing-is : nothing_answer ≡ bound_answer 0 0 Accepted
unfolding digits
nothing-is = refl

pub verdict-nothing : IsBoundVerdict away_first (Some 0) nothing nothing_answer
verdict-nothing = record {
  verdict = nothing-is;
  within = λ some. absurd (omega (arith, some));
  holds = λ yes m accepted. omega arith;
}

-- ---- files

abbrev contents : List ℕ → Option (List ℕ)
contents name =
    if bytes_eq name (codes "even") then Some league_file
    else if bytes_eq name (codes "four") then Some certificate_file
    else None

abbrev never : List ℕ → Type 0
never name = ⊥

pub certificate-four : IsWellFormedCertificate (store_of contents never) (codes "even") (codes "four") even_soon certificate
certificate-four = record {
  first = league_file;
  second = certificate_file;
  first_known = refl;
  second_known = refl;
  first_within = omega arith;
  second_within = omega arith;
  says_league = says-league;
  small = small-even;
  says_certificate = certificate-read;
}

-- no file of that name, and a store that failed
none_some : (bytes : List ℕ) → ◌≡◌ {A = Option (List ℕ)} None (Some bytes) → ⊥
none_some bytes is = cc

pub certificate-none : (league : Instance) (other : Certificate)
    → IsWellFormedCertificate (store_of contents never) (codes "even") (codes "five") league other → ⊥
certificate-none league other is = none_some is.second is.second_known

pub certificate-failed : NoneFails (store_of contents (λ name. Unit {0})) (codes "even" ∷ codes "four" ∷ []) → ⊥
certificate-failed works = works 1 [] (lit< tt) tt

-- the file states 4
known : (bytes : List ℕ) → Some certificate_file ≡ Some bytes → bytes ≡ certificate_file
known bytes is = cc

stated : (one other : Certificate) → ◌≡◌ {A = Result Certificate Fault} (Ok one) (Ok other) → one.bound ≡ other.bound
stated one other is = let same : one ≡ other = cc in ap (λ (c : Certificate). c.bound) same

pub certificate-five : (league : Instance)
    → IsWellFormedCertificate (store_of contents never) (codes "even") (codes "four") league five → ⊥
certificate-five league is =
    not_five 4 refl (
    let said : certificate_of certificate_file ≡ Ok five =
    ap certificate_of (sym (known is.second is.second_known)) ∙ is.says_certificate in
    le_of_eq (sym (stated certificate five (sym certificate-read ∙ said)))
    )

-- ---- runs of `bound`

pub bounded-four : Writes (ended_with Yes (Some (codes "> ")) (Some (codes "> accepted bound 4 steps 2\n"))) (IsBoundVerdict even_soon None certificate)
bounded-four = record { answer = accepted; of_kind = verdict-four; ended = refl; written = refl }

pub bounded-five : Writes (ended_with No (Some []) (Some (codes "rejected step 1 cause NoConflict\n"))) (IsBoundVerdict even_soon None five)
bounded-five = record { answer = rejected; of_kind = verdict-five; ended = refl; written = refl }

-- a run that says yes to 5 there is not, whatever it writes
pub bounded-not_five : (room : Option ℕ) (old new : Option (List ℕ))
    → Writes (ended_with Yes old new) (IsBoundVerdict even_soon room five) → ⊥
bounded-not_five room old new is =
    not_five 4 refl (is.of_kind.holds (sym is.ended) (counts_of zero_first) even-accepted)

accepted-line : accepted_line
    ≡ codes "accepted bound " ++ (decimal 4 ++ (codes " steps " ++ (decimal 2 ++ codes "\n")))
unfolding digits
accepted-line = refl

pub certified-four : IsCertified even_soon (written_between (Some []) (Some accepted_line))
certified-four = record { bound = 4; steps = 2; least = lower_bound; written = accepted-line }

-- a yes names no other bound than one that holds: the bound stands at place 15, and is at most 4
digit : (n : ℕ) (rest : List ℕ) → n ≤ 4 → get_or (codes "accepted bound " ++ (decimal n ++ rest)) 15 0 ≡ 48 + n
unfolding digits
digit zero rest low = refl
digit (suc zero) rest low = refl
digit (suc (suc zero)) rest low = refl
digit (suc (suc (suc zero))) rest low = refl
digit (suc (suc (suc (suc zero)))) rest low = refl
digit (suc (suc (suc (suc (suc n))))) rest low = absurd (omega (arith, low))

five_at : (n at : ℕ) → at ≡ 53 → at ≡ 48 + n → n ≤ 4 → ⊥
five_at n at five is low = omega (arith, five, is, low)

pub certified-five : IsCertified even_soon (written_between (Some []) (Some (codes "accepted bound 5 steps 2\n"))) → ⊥
certified-five is =
    let rest : List ℕ = codes " steps " ++ (decimal is.steps ++ codes "\n") in
    let low : is.bound ≤ 4 = is.least (counts_of zero_first) even-accepted in
    five_at is.bound 53 refl (ap (λ (text : List ℕ). get_or text 15 0) is.written ∙ digit is.bound rest low) low

-- a line is written
no_line : (b : ℕ) (rest : List ℕ) → [] ≡ b ∷ rest → ⊥
no_line b rest same = cc

pub certified-nothing : IsCertified even_soon (written_between (Some []) (Some [])) → ⊥
certified-nothing is =
    no_line 97
    (codes "ccepted bound " ++ (decimal is.bound ++ (codes " steps " ++ (decimal is.steps ++ codes "\n")))) is.written

-- ---- runs of `prove`

pub unbettered-four : IsUnbettered even_soon zero_first (written_between (Some []) (Some certificate_file))
unbettered-four = record {
  steps = log;
  accepted = even-accepted;
  least = lower_bound;
  certified = certificate-proves;
  written = certificate-written;
}

pub unbettered-nothing : IsUnbettered even_soon zero_first (written_between (Some []) (Some [])) → ⊥
unbettered-nothing is = no_line 98 (drop 1 (certificate_text 4 is.steps)) is.written

-- team 0 at home first costs 3, where nothing need be paid
none_below : (n : ℕ) → n ≡ 3 → n ≤ 0 → ⊥
none_below n three none = omega (arith, three, none)

pub unbettered-dear : (old new : Option (List ℕ)) → IsUnbettered away_first zero_first (written_between old new) → ⊥
unbettered-dear old new is = none_below 3 refl (is.least (counts_of one_first) away-one)

pub bettered-zero : IsBettered away_first zero_first (written_between (Some []) (Some better_file))
bettered-zero = record {
  better = one_first;
  accepted = away-zero;
  better_accepted = away-one;
  fit = one-fit;
  lower = let less : 0 < 3 = lit< tt in less;
  written = better-written;
}

nothing_below : (n : ℕ) → n < 0 → ⊥
nothing_below n less = omega (arith, less)

pub bettered-none : (old new : Option (List ℕ)) → IsBettered away_first one_first (written_between old new) → ⊥
bettered-none old new is = nothing_below (objective away_first (counts_of is.better)) is.lower
