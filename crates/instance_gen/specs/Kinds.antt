-- The kinds of constraints that are made of draws: what each makes of a generator, and how many words it takes.
use Rattle.std.specs.Prelude.{ℕ}
use Rattle.league.specs.declared.class.Constraint.{Constraint}
use Rattle.rand_pcg.specs.Lcg.{Lcg}
use Rattle.instance_gen.specs.Made.{made_ca1, made_ca2, made_ca4, made_ga1, made_br1}
use Rattle.instance_gen.specs.declared.kind.Kind.{Kind}
use Rattle.instance_gen.specs.declared.kind.Kind.TheVariants.{Ca1, Ca2, Ca4, Ga1, Br1}

abbrev pub made_of : Kind → ℕ → Lcg → Constraint
made_of Ca1 n g = made_ca1 n g
made_of Ca2 n g = made_ca2 n g
made_of Ca4 n g = made_ca4 n g
made_of Ga1 n g = made_ga1 n g
made_of Br1 n g = made_br1 n g

abbrev pub words_of : Kind → ℕ
words_of Ca1 = 5
words_of Ca2 = 5
words_of Ca4 = 6
words_of Ga1 = 2
words_of Br1 = 3
