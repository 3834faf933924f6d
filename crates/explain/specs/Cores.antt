-- A smaller contradiction inside another.
use Rattle.std.specs.Prelude.{◌<◌, ℕ, List, length}
use Rattle.std.specs.List.{filter}
use Rattle.league.specs.Instance.{Instance}
use Rattle.league.specs.Sets.{is_in}
use Rattle.explain.specs.Parts.{part_of}
use Rattle.solve.specs.Solutions.{RefutesLeague}
use Rattle.explain.specs.Standings.{numbers_of}
use Rattle.explain.specs.declared.member.Member.{Member}
use Rattle.explain.specs.declared.cores.Core.{Core}

-- the numbers of the members that are named
abbrev pub named_of : List ℕ → List Member → List ℕ
named_of named members = filter (λ k. is_in k named) (numbers_of members)

-- the members of a core are fewer, and a log of their own refutes them
pub record IsCore (league : Instance) (members : List Member) (core : Core) : Type 0 where
  pub fewer : length (named_of core.named.items members) < length members
  pub refuted : RefutesLeague (part_of league (named_of core.named.items members)) core.log
