-- Answers, and those that refuse.
use Rattle.std.specs.Prelude.{ℕ, List, ◌++◌, codes, decimal}
use Rattle.robinx.specs.declared.tag_fault.FormKind.{FormKind}
use Rattle.robinx.specs.declared.tag_fault.FormKind.TheVariants.{BadTag, BadAttribute, RepeatedAttribute}
use Rattle.robinx.specs.declared.tag_fault.FormKind.TheVariants.{TooManyAttributes, Truncated, BadNesting}
use Rattle.robinx.specs.declared.tag_fault.FormKind.TheVariants.{MissingElement, RepeatedElement, MissingAttribute}
use Rattle.robinx.specs.declared.tag_fault.FormKind.TheVariants.{BadNumber, NumberTooLarge, UnknownTeam, UnknownSlot}
use Rattle.robinx.specs.declared.tag_fault.FormKind.TheVariants.{SameTeam, BadChoice, UnsupportedClass, WrongCounts}
use Rattle.robinx.specs.declared.tag_fault.FormKind.TheVariants.{TooMany}
use Rattle.refutation.specs.declared.fault.LogKind.{LogKind}
use Rattle.refutation.specs.declared.fault.LogKind.TheVariants as log_kinds
use Rattle.answers.specs.declared.status.Status.{Status}
use Rattle.answers.specs.declared.status.Status.TheVariants.{Words, File, ReadFault}

-- how a run ends, and the text that it writes
pub record Answer : Type 0 where
  pub status : Status
  pub text : List ℕ

-- the words are no command
abbrev pub refused_words : Answer
refused_words = record { status = Words; text = codes "refused words\n" }

-- the store failed at a file, which is called `instance` or `solution`
abbrev pub read_fault : List ℕ → Answer
read_fault which = record { status = ReadFault; text = codes "read fault " ++ (which ++ codes "\n") }

-- a file has more bytes than its limit
abbrev pub too_long : List ℕ → ℕ → Answer
too_long which limit = record {
  status = File;
  text = codes "refused " ++ (which ++ (codes " TooLong limit " ++ (decimal limit ++ codes "\n")));
}

-- the name of a fault of form
abbrev pub kind_word : FormKind → List ℕ
kind_word BadTag = codes "BadTag"
kind_word BadAttribute = codes "BadAttribute"
kind_word RepeatedAttribute = codes "RepeatedAttribute"
kind_word TooManyAttributes = codes "TooManyAttributes"
kind_word Truncated = codes "Truncated"
kind_word BadNesting = codes "BadNesting"
kind_word MissingElement = codes "MissingElement"
kind_word RepeatedElement = codes "RepeatedElement"
kind_word MissingAttribute = codes "MissingAttribute"
kind_word BadNumber = codes "BadNumber"
kind_word NumberTooLarge = codes "NumberTooLarge"
kind_word UnknownTeam = codes "UnknownTeam"
kind_word UnknownSlot = codes "UnknownSlot"
kind_word SameTeam = codes "SameTeam"
kind_word BadChoice = codes "BadChoice"
kind_word UnsupportedClass = codes "UnsupportedClass"
kind_word WrongCounts = codes "WrongCounts"
kind_word TooMany = codes "TooMany"

-- a file has this fault of form on this line, and none before it
abbrev pub malformed : List ℕ → FormKind → ℕ → Answer
malformed which kind line = record {
  status = File;
  text =
      codes "refused "
      ++ (which ++ (codes " " ++ (kind_word kind ++ (codes " line " ++ (decimal line ++ codes "\n")))));
}

-- the rows of a league have so many terms, which are too many
abbrev pub too_large : ℕ → Answer
too_large terms = record {
  status = File;
  text = codes "refused rows TooLarge terms " ++ (decimal terms ++ codes "\n");
}

-- the name of a fault of a log's form
abbrev pub log_kind_word : LogKind → List ℕ
log_kind_word log_kinds.BadLine = codes "BadLine"
log_kind_word log_kinds.BadNumber = codes "BadNumber"
log_kind_word log_kinds.NoEnd = codes "NoEnd"
log_kind_word log_kinds.TooLong = codes "TooLong"

-- a log has this fault of form on this line, and none before it
abbrev pub log_malformed : LogKind → ℕ → Answer
log_malformed kind line = record {
  status = File;
  text = codes "refused log " ++ (log_kind_word kind ++ (codes " line " ++ (decimal line ++ codes "\n")));
}
