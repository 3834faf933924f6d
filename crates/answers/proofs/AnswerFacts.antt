-- Worked statuses, texts that refuse, and stages, so that a wrong definition does not check.
use Rattle.std.proofs.Common.{◌≡◌, ℕ, ◌<◌, ◌≤◌, List, [], ◌∷◌, Some, None, codes, arith, inl, inr, refl}
use Rattle.std.specs.Fmt.{digits}
use Rattle.robinx.specs.declared.instance.TheConstants.{INSTANCE_LIMIT, SOLUTION_LIMIT}
use Rattle.robinx.specs.declared.tag_fault.FormKind.TheVariants.{BadTag, BadAttribute, RepeatedAttribute}
use Rattle.robinx.specs.declared.tag_fault.FormKind.TheVariants.{TooManyAttributes, Truncated, BadNesting}
use Rattle.robinx.specs.declared.tag_fault.FormKind.TheVariants.{MissingElement, RepeatedElement, MissingAttribute}
use Rattle.robinx.specs.declared.tag_fault.FormKind.TheVariants.{BadNumber, NumberTooLarge, UnknownTeam, UnknownSlot}
use Rattle.robinx.specs.declared.tag_fault.FormKind.TheVariants.{SameTeam, BadChoice, UnsupportedClass, WrongCounts}
use Rattle.robinx.specs.declared.tag_fault.FormKind.TheVariants.{TooMany}
use Rattle.refutation.specs.declared.fault.LogKind.TheVariants as log_kinds
use Rattle.answers.specs.Reply.{Answer, kind_word, log_kind_word, log_malformed, malformed, read_fault, refused_words, too_long}
use Rattle.answers.specs.Status.{status_code}
use Rattle.answers.specs.Stages.{IsFile, IsUnread, IsWritten}
use Rattle.answers.specs.declared.status.Status.{Status}
use Rattle.answers.specs.declared.status.Status.TheVariants.{Yes, No, Words, File, Refuted, Spent, ReadFault, WriteFault, Memory, Better}

-- statuses count from 0 in their order
pub status_code-all : (status_code Yes ≡ 0) × (status_code No ≡ 1) × (status_code Words ≡ 2) × (status_code File ≡ 3) × (status_code Refuted ≡ 4) × (status_code Spent ≡ 5) × (status_code ReadFault ≡ 6) × (status_code WriteFault ≡ 7) × (status_code Memory ≡ 8) × (status_code Better ≡ 9)
status_code-all = (refl, refl, refl, refl, refl, refl, refl, refl, refl, refl)

-- refusals
pub refused_words-is : refused_words ≡ record { status = Words; text = codes "refused words\n" }
refused_words-is = refl

pub read_fault-both : (read_fault (codes "instance") ≡ record { status = ReadFault; text = codes "read fault instance\n" }) × (read_fault (codes "solution") ≡ record { status = ReadFault; text = codes "read fault solution\n" })
read_fault-both = (refl, refl)

pub too_long-both : (too_long (codes "instance") INSTANCE_LIMIT ≡ record { status = File; text = codes "refused instance TooLong limit 16777216\n" }) × (too_long (codes "solution") SOLUTION_LIMIT ≡ record { status = File; text = codes "refused solution TooLong limit 1048576\n" })
unfolding digits
too_long-both = (refl, refl)

pub malformed-both : (malformed (codes "solution") BadNumber 12 ≡ record { status = File; text = codes "refused solution BadNumber line 12\n" }) × (malformed (codes "instance") Truncated 1 ≡ record { status = File; text = codes "refused instance Truncated line 1\n" })
unfolding digits
malformed-both = (refl, refl)

pub kind_word-tags : (kind_word BadTag ≡ codes "BadTag") × (kind_word BadAttribute ≡ codes "BadAttribute") × (kind_word RepeatedAttribute ≡ codes "RepeatedAttribute") × (kind_word TooManyAttributes ≡ codes "TooManyAttributes") × (kind_word Truncated ≡ codes "Truncated")
kind_word-tags = (refl, refl, refl, refl, refl)

pub kind_word-elements : (kind_word BadNesting ≡ codes "BadNesting") × (kind_word MissingElement ≡ codes "MissingElement") × (kind_word RepeatedElement ≡ codes "RepeatedElement") × (kind_word MissingAttribute ≡ codes "MissingAttribute")
kind_word-elements = (refl, refl, refl, refl)

pub kind_word-values : (kind_word BadNumber ≡ codes "BadNumber") × (kind_word NumberTooLarge ≡ codes "NumberTooLarge")
    × (kind_word UnknownTeam ≡ codes "UnknownTeam") × (kind_word UnknownSlot ≡ codes "UnknownSlot")
    × (kind_word SameTeam ≡ codes "SameTeam") × (kind_word BadChoice ≡ codes "BadChoice")
    × (kind_word UnsupportedClass ≡ codes "UnsupportedClass") × (kind_word WrongCounts ≡ codes "WrongCounts")
    × (kind_word TooMany ≡ codes "TooMany")
kind_word-values = (refl, refl, refl, refl, refl, refl, refl, refl, refl)

-- faults of a log
pub log_kind_word-all : (log_kind_word log_kinds.BadLine ≡ codes "BadLine") × (log_kind_word log_kinds.BadNumber ≡ codes "BadNumber") × (log_kind_word log_kinds.NoEnd ≡ codes "NoEnd") × (log_kind_word log_kinds.TooLong ≡ codes "TooLong")
log_kind_word-all = (refl, refl, refl, refl)

pub log_malformed-some : log_malformed log_kinds.BadLine 3 ≡ record { status = File; text = codes "refused log BadLine line 3\n" }
unfolding digits
log_malformed-some = refl

past : 2 ≤ 1 → ⊥
past h = omega arith

cut : (x y : ℕ) → x ∷ [] ≡ x ∷ y ∷ [] → ⊥
cut x y h = cc

-- a file of two bytes is read where the limit is two, and no others are its bytes
pub file-whole : IsFile (Some (7 ∷ 8 ∷ [])) 2 (7 ∷ 8 ∷ [])
file-whole = record { same = refl; within = omega arith }

pub file-others : (IsFile (Some (7 ∷ 8 ∷ [])) 9 (7 ∷ []) → ⊥) × (IsFile (Some (7 ∷ 8 ∷ [])) 1 (7 ∷ 8 ∷ []) → ⊥) × (IsFile None 1 (7 ∷ 8 ∷ []) → ⊥)
file-others = (λ h. cut 7 8 h.same, λ h. past h.within, λ h. past h.within)

-- a file isn't read where it has more bytes than the limit, or where the store failed
pub unread-long : (answer : Answer) → IsUnread (codes "instance") (Some (7 ∷ 8 ∷ [])) 1 (Unit {0}) ⊥ answer → answer ≡ too_long (codes "instance") 1
unread-long answer (inl h) = h.2
unread-long answer (inr h) = absurd h.0

pub unread-within : (answer : Answer) → IsUnread (codes "instance") (Some (7 ∷ 8 ∷ [])) 2 (Unit {0}) ⊥ answer → ⊥
unread-within answer (inl h) = let more : 2 < 2 = h.1 in absurd (omega arith)
unread-within answer (inr h) = h.0

pub unread-failed : (answer : Answer) → IsUnread (codes "solution") (Some (7 ∷ 8 ∷ [])) 2 ⊥ (Unit {0}) answer → answer ≡ read_fault (codes "solution")
unread-failed answer (inl h) = absurd h.0
unread-failed answer (inr h) = h.1

-- an answer is written whole behind what was there, unless the sink failed: then a front of it is
pub written-whole : (ended : Status) (new : List ℕ) → IsWritten refused_words ended (record { before = Some (codes "before "); after = Some new; failed = ⊥ }) → (ended ≡ Words) × (new ≡ codes "before refused words\n")
written-whole ended new (inl h) = (h.0, h.1)
written-whole ended new (inr h) = absurd h.1

pub written-front : IsWritten refused_words WriteFault (record { before = Some (codes "before "); after = Some (codes "before refu"); failed = Unit {0} })
written-front = inr (refl, tt, (4, omega arith, refl))
