-- What a contract sees of a refusal: its answer.
use Rattle.std.specs.Prelude.{◌≡◌}
use Rattle.answers.specs.Reply.{Answer}
use Rattle.answers.specs.SeenReply.{answer_of}
use Rattle.answers.specs.declared.refusal.Refusal.{Refusal}

-- a run is refused with this answer
abbrev pub refused_with : Answer → Refusal → Type 0
refused_with answer refusal = answer_of refusal.reply ≡ answer
