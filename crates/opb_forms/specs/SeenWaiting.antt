-- What the bytes that wait show of their fields.
use Rattle.std.specs.Prelude.{ℕ, List, take}
use Rattle.opb_forms.specs.declared.waiting.Waiting.TheInside.{Inside}

abbrev pub bytes_of : Inside → List ℕ
bytes_of w = take w.len w.bytes.items
