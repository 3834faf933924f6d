-- Which games pass a test.
use Rattle.std.specs.Prelude.{Bool}
use Rattle.league.specs.declared.class.Side.TheVariants.{Both}
use Rattle.league.specs.declared.game.Game.{Game}
use Rattle.rule_core.specs.Touched.{plays_against, plays_on}
use Rattle.season_misses.specs.Counting as counting
use Rattle.season_misses.specs.declared.game_test.GameTest.{GameTest}
use Rattle.season_misses.specs.declared.game_test.GameTest.TheVariants.{Own, Ca1, Ca2, Against, Window, Ca4, Ga1, Break, Fa2, Se1}

abbrev pub passes : GameTest → Game → Bool
passes (Own team) g = plays_on Both g team
passes (Ca1 player slots) g = counting.counts_in_ca1 player.side slots.now player.team g
passes (Ca2 player others slots) g = counting.counts_in_ca2 others.now player.side slots.now player.team g
passes (Against player others) g = plays_against player.side others.now g player.team
passes (Window intp first) g = counting.is_in_window intp first g
passes (Ca4 side teams1 teams2 slots) g = counting.counts_in_ca4 teams1.now teams2.now side slots.now g
passes (Ga1 meetings slots) g = counting.counts_in_ga1 meetings.now slots.now g
passes (Break player slot) g = counting.counts_in_break player.side player.team slot.0 g
passes (Fa2 team slot) g = counting.counts_in_fa2 team.0 slot g
passes (Se1 first second) g = counting.counts_in_se1 (first.0, second.0) g
