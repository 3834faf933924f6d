-- What words and lines say, one after another.
use Rattle.std.proofs.Common.{◌≡◌, ℕ, ◌+◌, ◌==◌, List, [], ◌∷◌, ◌++◌, append-nil, append_assoc, take, drop}
use Rattle.std.proofs.Common.{refl, sym, ap, ◌∙◌, Option, Some, None, Result, Ok, Err}
use Rattle.std.specs.List.{slice_split}
use Rattle.memchr.specs.Find.{IsFirstByte, is_byte}
use Rattle.rows.specs.Literals.{Literal}
use Rattle.refutation.proofs.FoundLemmas.{found-none, found-some, token-alone, token-found}
use Rattle.refutation.proofs.SplitLemmas.{split-last, split-part}
use Rattle.opb_forms.specs.Answers.{Adds, AddsLine, SaysFault, behind}
use Rattle.opb_forms.specs.Values.{after, joined, said_by_line, said_by_word, said_by_words, said_from, words_of}
use Rattle.opb_forms.specs.declared.fault.ValuesFault.{ValuesFault}
use Rattle.opb_forms.specs.declared.fault.ValuesFault.TheVariants as values
use Rattle.opb_forms.specs.declared.fault.WordFault.{WordFault}
use Rattle.opb_forms.specs.declared.fault.WordFault.TheVariants.{Wrong, Mem}

abbrev pub Lits : Type 0
Lits = List Literal

-- ---- words

-- a fault behind literals is one of the whole
pub none-whole : (old : Lits) (whole : Option Lits) → behind old whole ≡ None → whole ≡ None
none-whole old None is = refl
none-whole old (Some lits) is = cc

-- what is said first is added, and the others are left
pub joined-added : (mid new : Lits) (said others : Option Lits) → behind mid said ≡ Some new
    → behind new others ≡ behind mid (joined said others)
joined-added mid new None others is = cc
joined-added mid new (Some lits) None is = refl
joined-added mid new (Some lits) (Some more) is =
    let same : mid ++ lits ≡ new = cc in
    ap Some (ap (λ (xs : Lits). xs ++ more) (sym same) ∙ append_assoc mid lits more)

joined-alone : (said : Option Lits) → joined said (Some []) ≡ said
joined-alone None = refl
joined-alone (Some lits) = ap Some (append-nil lits)

-- the last word
pub Adds-last : (old mid new : Lits) (whole said : Option Lits) (result : Result (Unit {0}) WordFault)
    → behind mid (joined said (Some [])) ≡ behind old whole → Adds said mid new result → Adds whole old new result
Adds-last old mid new whole said (Ok done) so_far adds =
    sym so_far ∙ ap (behind mid) (joined-alone said) ∙ adds
Adds-last old mid new whole said (Err Wrong) so_far adds =
    none-whole old whole (sym so_far ∙ ap (behind mid) (joined-alone said ∙ adds))
Adds-last old mid new whole said (Err Mem) so_far adds = tt

-- a word that is no literal
pub Adds-stop : (old mid new : Lits) (whole said others : Option Lits) (fault : WordFault)
    → behind mid (joined said others) ≡ behind old whole → Adds said mid new (Err fault) → Adds whole old new (Err fault)
Adds-stop old mid new whole said others Wrong so_far adds =
    none-whole old whole (sym so_far ∙ ap (λ (o : Option Lits). behind mid (joined o others)) adds)
Adds-stop old mid new whole said others Mem so_far adds = tt

pub words-found : (rest : List ℕ) (at : ℕ) → IsFirstByte (is_byte 32) rest (Some at)
    → said_by_words (words_of rest)
    ≡ joined (said_by_word (take at rest)) (said_by_words (words_of (drop (at + 1) rest)))
words-found rest at found = ap said_by_words (token-found rest at found)

pub words-alone : (rest : List ℕ) → IsFirstByte (is_byte 32) rest None
    → said_by_words (words_of rest) ≡ joined (said_by_word rest) (Some [])
words-alone rest none = ap said_by_words (token-alone rest none)

-- ---- lines

abbrev pub Said : Type 0
Said = Result Lits ℕ

-- what is said, with some literals in front of it
abbrev pub in_front : Lits → Said → Said
in_front lits (Ok more) = Ok (lits ++ more)
in_front lits (Err line) = Err line

abbrev pub lines_of : List ℕ → List (List ℕ)
lines_of bytes = slice_split (λ b. b == 10) bytes

pub in_front-none : (said : Said) → in_front [] said ≡ said
in_front-none (Ok lits) = refl
in_front-none (Err line) = refl

pub after-added : (mid new : Lits) (said : Option Lits) (line : ℕ) (others : Said) → behind mid said ≡ Some new
    → in_front new others ≡ in_front mid (after said line others)
after-added mid new None line others is = cc
after-added mid new (Some lits) line (Ok more) is =
    let same : mid ++ lits ≡ new = cc in
    ap Ok (ap (λ (xs : Lits). xs ++ more) (sym same) ∙ append_assoc mid lits more)
after-added mid new (Some lits) line (Err fault) is = refl

-- the last line
pub last-added : (mid new : Lits) (said : Option Lits) (line : ℕ) → behind mid said ≡ Some new
    → in_front mid (after said line (Ok [])) ≡ Ok new
last-added mid new said line is = sym (after-added mid new said line (Ok []) is) ∙ ap Ok (append-nil new)

-- a line in which a word is no literal
pub none-after : (mid : Lits) (said : Option Lits) (line : ℕ) (others : Said) → said ≡ None
    → in_front mid (after said line others) ≡ Err line
none-after mid said line others is = ap (λ (o : Option Lits). in_front mid (after o line others)) is

line-found : (rest : List ℕ) (at : ℕ) → IsFirstByte (is_byte 10) rest (Some at)
    → lines_of rest ≡ take at rest ∷ lines_of (drop (at + 1) rest)
line-found rest at found =
    let is = found-some 10 rest at found in
    ap lines_of is.parts ∙ split-part (λ b. b == 10) (take at rest) 10 (drop (at + 1) rest) is.lacks refl

pub lines-found : (line : ℕ) (rest : List ℕ) (at : ℕ) → IsFirstByte (is_byte 10) rest (Some at)
    → said_from line (lines_of rest)
    ≡ after (said_by_line (take at rest)) line (said_from (line + 1) (lines_of (drop (at + 1) rest)))
lines-found line rest at found = ap (said_from line) (line-found rest at found)

pub lines-alone : (line : ℕ) (rest : List ℕ) → IsFirstByte (is_byte 10) rest None
    → said_from line (lines_of rest) ≡ after (said_by_line rest) line (Ok [])
lines-alone line rest none = ap (said_from line) (split-last (λ b. b == 10) rest (found-none 10 rest none))

pub SaysFault-stop : (mid new : Lits) (whole : Said) (said : Option Lits) (line : ℕ) (others : Said)
    (fault : ValuesFault) → in_front mid (after said line others) ≡ whole → AddsLine said line mid new (Err fault)
    → SaysFault whole fault
SaysFault-stop mid new whole said line others (values.Form number) so_far adds =
    sym so_far ∙ none-after mid said line others adds.0 ∙ ap Err (sym adds.1)
SaysFault-stop mid new whole said line others values.Mem so_far adds = tt
