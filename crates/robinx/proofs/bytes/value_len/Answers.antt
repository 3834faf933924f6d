use Rattle.std.proofs.Common.{ℕ, ◌||◌, eqb}
use Rattle.std.proofs.lemmas.List.{take_rest}
use Rattle.robinx.proofs.ByteSearch.{first_behind}
use Rattle.robinx.proofs.bytes.value_len.Goals as goal

pub returns-clause-value : goal.returns-clause-value
returns-clause-value c =
    let value = rw take_rest at c.long_value_len.ensures.value in
    let within = rw take_rest at c.long_value_len.ensures.within in
    first_behind (λ (b : ℕ). eqb b c.args.quote || eqb b 60) c.args.bytes.now c.loop-len.len c.long_value_len.result c.loop-len.invariant.within c.loop-len.invariant.before
    value within
