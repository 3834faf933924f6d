use Rattle.std.proofs.Common.{refl, arith, ap}
use Rattle.propagate.specs.Paths.{SeenPath}
use Rattle.propagate.proofs.EntryLemmas.{IsBackUpTo-more, IsBackUpTo-none}
use Rattle.propagate.proofs.PathLemmas.{same_but_entries}
use Rattle.propagate.proofs.path.Path.back_to.Goals as goal

pub levels-init : goal.levels-init
levels-init c = record { same = refl; back = IsBackUpTo-none c.args.level c.args.self.now.entries c.requires }

pub levels-preserved : goal.levels-preserved
levels-preserved c = record {
  same = same_but_entries c.args.self.now c.levels.self c.unset.new.self _ c.levels.invariant.same c.unset.ensures;
  back = IsBackUpTo-more c.args.level c.args.self.now.entries c.levels.self.entries c.unset.new.self.entries c.levels.invariant.back (omega arith)
      (ap (λ (p : SeenPath). p.entries) c.unset.ensures);
}
