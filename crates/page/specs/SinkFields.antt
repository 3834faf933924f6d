-- What a text shows of its fields.
use Rattle.std.specs.Prelude.{ℕ, List}
use Rattle.page.specs.declared.text.PageSink.{PageSink}

-- the bytes so far
abbrev pub text_of : PageSink → List ℕ
text_of sink = sink.text.items

-- how often memory ran out
abbrev pub faults_of : PageSink → ℕ
faults_of sink = sink.faults
