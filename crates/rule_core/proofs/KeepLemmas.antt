-- The table with its spare games, with one game more or less.
use Rattle.std.proofs.Common.{◌≡◌, ℕ, ◌<◌, Bool, true, false, List, length, arith, ap, subst, sym, ◌∙◌}
use Rattle.league.specs.Counts.{one_more, slot_count}
use Rattle.league.specs.Instance.{IsGame}
use Rattle.league.specs.declared.game.Game.{Game}
use Rattle.league.proofs.RangeLemmas.{one_if}
use Rattle.rule_core.proofs.PlaceLemmas.{AreMirrored-put, AreMirrored-taken, away_is, free_is, home_is, hosts-put}
use Rattle.rule_core.specs.Opponents.{IsPut, is_free, place_at}
use Rattle.rule_core.specs.Places.{hosts, visits}
use Rattle.rule_core.specs.Spare.{AreSpare, spare_counts}
use Rattle.rule_core.specs.Tables.{AreOpponents, kept_counts}
use Rattle.rule_core.specs.declared.place.Place.{Place}
use Rattle.rule_core.specs.declared.place.Place.TheVariants.{Free, Home, Away}

-- a game that is put in its two places
module _ (n w : ℕ) (g : Game) (ps qs : List Place) (xs : List ℕ) (wide : w ≡ slot_count n) (fits : IsGame n g)
    (put : IsPut g (place_at w ps) (place_at w qs)) where
  by_slots : IsPut g (place_at (slot_count n) ps) (place_at (slot_count n) qs)
  by_slots = subst (λ (v : ℕ). IsPut g (place_at v ps) (place_at v qs)) wide put

  pub put_kept : length qs ≡ length ps → AreOpponents n ps xs → AreOpponents n qs xs
  put_kept long table = record {
    size = long ∙ table.size;
    mirrored = AreMirrored-put n g (place_at (slot_count n) ps) (place_at (slot_count n) qs) fits by_slots
        table.mirrored;
    counted = table.counted;
  }

  pub taken_kept : length ps ≡ length qs → AreOpponents n qs xs → AreOpponents n ps xs
  taken_kept long table = record {
    size = long ∙ table.size;
    mirrored = AreMirrored-taken n g (place_at (slot_count n) ps) (place_at (slot_count n) qs) fits by_slots
        table.mirrored;
    counted = table.counted;
  }

  pub put_counts : (i j s : ℕ) → kept_counts n qs xs i j s ≡ one_more (kept_counts n ps xs) g i j s
  put_counts i j s = omega
      (arith, hosts-put g (place_at (slot_count n) ps) (place_at (slot_count n) qs) fits.differ by_slots i j s)

-- other spare games
pub spare_kept : (n : ℕ) (ps : List Place) (xs ys : List ℕ) → AreOpponents n ps xs → AreSpare n ys
    → AreOpponents n ps ys
spare_kept n ps xs ys table counted = record
    { size = table.size; mirrored = table.mirrored; counted = counted }

-- a place that was read as free, by its row
pub read_free : (w i s : ℕ) (ps : List Place) (p : Place) (free : Bool) → p ≡ place_at w ps i s → free ≡ is_free p
    → free ≡ true → place_at w ps i s ≡ Free
read_free w i s ps p free read test passes = sym read ∙ free_is p (sym test ∙ passes)

-- a place that was read as that of a home game, and the guest's
pub read_home : (w : ℕ) (g : Game) (ps : List Place) (p : Place) (hosted : Bool)
    → p ≡ place_at w ps g.home.0 g.slot.0 → hosted ≡ hosts p g.away.0 → hosted ≡ true
    → place_at w ps g.home.0 g.slot.0 ≡ Home g.away
read_home w g ps p hosted read test passes = sym read ∙ home_is p g.away (sym test ∙ passes)

pub read_guest : (n w : ℕ) (g : Game) (ps : List Place) (xs : List ℕ) (p : Place) (hosted : Bool)
    → w ≡ slot_count n → AreOpponents n ps xs → p ≡ place_at w ps g.home.0 g.slot.0 → hosted ≡ hosts p g.away.0
    → hosted ≡ true → place_at w ps g.away.0 g.slot.0 ≡ Away g.home
read_guest n w g ps xs p hosted wide table read test passes =
    away_is (place_at w ps g.away.0 g.slot.0) g.home
    (subst (λ (v : ℕ). visits (place_at v ps g.away.0 g.slot.0) g.home.0 ≡ true) (sym wide)
    (sym (table.mirrored.same g.home.0 g.away.0 g.slot.0)
    ∙ ap (λ (v : ℕ). hosts (place_at v ps g.home.0 g.slot.0) g.away.0) (sym wide)
    ∙ ap (λ (q : Place). hosts q g.away.0) (sym read)
    ∙ sym test
    ∙ passes))

-- a game that isn't in the table is a spare one
pub spare_there : (n w : ℕ) (g : Game) (ps : List Place) (xs : List ℕ) (p : Place) (hosted : Bool)
    → w ≡ slot_count n → p ≡ place_at w ps g.home.0 g.slot.0 → hosted ≡ hosts p g.away.0 → hosted ≡ false
    → 0 < kept_counts n ps xs g.home.0 g.away.0 g.slot.0 → 0 < spare_counts xs g.home.0 g.away.0 g.slot.0
spare_there n w g ps xs p hosted wide read test fails there =
    let none : one_if (hosts (place_at (slot_count n) ps g.home.0 g.slot.0) g.away.0) ≡ 0 =
    ap (λ (v : ℕ). one_if (hosts (place_at v ps g.home.0 g.slot.0) g.away.0)) (sym wide)
    ∙ ap (λ (q : Place). one_if (hosts q g.away.0)) (sym read)
    ∙ ap one_if (sym test ∙ fails) in
    omega (arith, none, there)
