use Rattle.std.proofs.Common.{List, ℕ, ap}
use Rattle.answers.specs.Reply.{Answer}
use Rattle.answers.specs.declared.status.Status.TheVariants.{File}
use Rattle.answers.proofs.reply.past_limit_reply.Goals as goal

abbrev refused_by : List ℕ → Answer
refused_by text = record { status = File; text = text }

pub returns : goal.returns
returns c = rw c.into_bytes.ensures.value (ap refused_by c.in_ok-text.ensures.ok)
