-- What a contract sees of how often an option stands.
use Rattle.command_line.specs.Standing.{Standing}
use Rattle.command_line.specs.Standing.Standing.{Never, Once, Often}
use Rattle.answers.specs.declared.taken.Standing as code
use Rattle.answers.specs.declared.taken.Standing.TheVariants as variants

-- without where the value lies in memory
abbrev pub seen : code.Standing → Standing
seen variants.Never = Never
seen (variants.Once value) = Once value.now
seen variants.Often = Often
