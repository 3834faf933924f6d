-- What functions answer of what is read.
use Rattle.std.specs.Prelude.{◌≡◌, ⊤, Result, Ok, Err}
use Rattle.robinx.specs.declared.tag_fault.FormKind.{FormKind}
use Rattle.robinx.specs.declared.tag_fault.Stop.{Stop}
use Rattle.robinx.specs.declared.tag_fault.Stop.TheVariants as stops

-- What a function that takes no memory answers, seen by view, is what is read.
abbrev pub Finds : {X Y : Type 0} → (X → Y) → Result X FormKind → Result Y FormKind → Type 0
Finds view (Ok x) read = read ≡ Ok (view x)
Finds view (Err kind) read = read ≡ Err kind

-- Why a function stopped: a fault of what is read, or want of memory, which says nothing of it.
abbrev pub Stops : {Y : Type 0} → Stop → Result Y FormKind → Type 0
Stops (stops.Form kind) read = read ≡ Err kind
Stops stops.Mem read = ⊤

-- What a function that takes memory answers, seen by view, is what is read.
abbrev pub Gives : {X Y : Type 0} → (X → Y) → Result X Stop → Result Y FormKind → Type 0
Gives view (Ok x) read = read ≡ Ok (view x)
Gives view (Err stop) read = Stops stop read
