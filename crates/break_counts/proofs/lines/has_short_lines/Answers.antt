use Rattle.std.proofs.Common.{◌≡◌, ◌<◌, Bool, List, Option, Some, None, arith, length, subst, true}
use Rattle.std.specs.Prelude.{slice_get, IfSome, IsTrue}
use Rattle.std.specs.List.{All}
use Rattle.std.proofs.lemmas.List.{take_all}
use Rattle.refutation.specs.Steps.{Step}
use Rattle.refutation.specs.Texts.{version_of}
use Rattle.refutation.proofs.StepLemmas.{All-at}
use Rattle.break_counts.specs.Lines.{IsShort}
use Rattle.break_counts.proofs.lines.has_short_lines.Goals as goal

-- what a test says of a step, where it passed
passed : (o : Option Step) (b : Bool) → b ≡ true → IfSome o (λ step. IsTrue b → IsShort step) → IfSome o IsShort
passed None b is tells = tt
passed (Some step) b is tells = tells is

pub loop-k-preserved : goal.loop-k-preserved
loop-k-preserved c =
    let there : c.loop-k.k < length c.args.log.now = omega arith in
    All-at IsShort c.args.log.now c.loop-k.k there c.loop-k.invariant
    (passed (slice_get c.args.log.now c.loop-k.k) c.is_short.result c.if-not-is_short.false c.is_short.ensures)

pub returns : goal.returns
returns c _ k d within =
    let all : All IsShort c.args.log.now =
    subst (λ (steps : List Step). All IsShort steps) (take_all c.loop-k.k c.args.log.now (omega arith))
    c.loop-k.invariant in
    all k d within (version_of c.args.log.now)
