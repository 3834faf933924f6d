-- An answer that a reply says, where there is a reply.
use Rattle.std.specs.Prelude.{◌≡◌, Result, Ok}
use Rattle.answers.specs.Reply.{Answer}
use Rattle.answers.specs.SeenReply.{answer_of}
use Rattle.answers.specs.declared.reply.Reply.{Reply}

abbrev pub IsReplied : {E : Type 0} → Result Reply E → Answer → Type 0
IsReplied result answer = (reply : Reply) × (result ≡ Ok reply) × (answer ≡ answer_of reply)
