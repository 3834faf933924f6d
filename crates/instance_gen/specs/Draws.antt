-- Draws from a generator of words: the PCG32 of a seed (O'Neill; `rand_pcg`).
use Rattle.std.specs.Prelude.{ℕ, zero, suc, ◌%◌, List, []}
use Rattle.std.specs.List.{fold}
use Rattle.std.specs.Ordering.{nat_cmp}
use Rattle.league.specs.Sets.{with_item}
use Rattle.rand_core.specs.Pcg32Seed.{pcg32_seed}
use Rattle.rand_pcg.specs.Lcg.{Lcg}
use Rattle.rand_pcg.specs.Pcg.{pcg32, pcg32_of_seed}

-- the generator that a seed makes: the seed is a number, which is expanded to the 16 bytes of a PCG32's
unfoldable pub seeded : ℕ → Lcg
seeded seed = pcg32_of_seed (pcg32_seed 16 seed)

-- the generator's next word, of 32 bits
unfoldable pub word : Lcg → ℕ
word g = (pcg32 g).0

-- the generator after that word
unfoldable pub next : Lcg → Lcg
next g = (pcg32 g).1

-- the generator after k words
abbrev pub after : ℕ → Lcg → Lcg
after zero g = g
after (suc k) g = next (after k g)

-- draw k of a generator, from 0: word k, modulo b
abbrev pub draw : Lcg → ℕ → ℕ → ℕ
draw g k b = word (after k g) % b

-- the set of some numbers, put in one by one: repeats are dropped
abbrev pub set_of : List ℕ → List ℕ
set_of numbers = fold (λ set number. with_item nat_cmp number set) [] numbers
