-- Games that lie at least so many slots apart. There are c s games in slot s, at most one in each: what the slots
-- between neighbouring games lack is 0 exactly where after each game so many slots are free, and exactly where each
-- window of one slot more, or the season where it has no more, has at most one game.
use Rattle.std.proofs.Common.{◌≡◌, ℕ, zero, suc, ◌+◌, ◌-◌, ◌<◌, ◌≤◌, Bool, true, false, ◌&&◌, ◌||◌, ◌==◌}
use Rattle.std.proofs.Common.{min as smaller, ◌⊎◌, inl, inr, List, ◌∷◌, ◌++◌, replicate, refl, arith, ap, sym, ◌∙◌}
use Rattle.std.specs.Prelude.{nat_le}
use Rattle.std.proofs.lemmas.Bool.{eqb-true, leb-true, le-leb}
use Rattle.std.proofs.lemmas.Bool.Decides.{nat_tests}
use Rattle.std.proofs.lemmas.List.Sums.{sum_by-cons}
use Rattle.std.specs.List.{flat_map, list_all, range_with_len, sum_by}
use Rattle.league.specs.Bounds.{excess}
use Rattle.league.specs.Separation.{lacking, slots_between}
use Rattle.rows.proofs.ListLemmas.{list_all-at, list_all-range, sum_by-range-part}

-- the slots of the games in k slots from a on
abbrev pub slots_played : (ℕ → ℕ) → ℕ → ℕ → List ℕ
slots_played c a k = flat_map (λ s. replicate (c s) s) (range_with_len a k)

-- the games in the first d of k slots from b on
abbrev pub games_within : (ℕ → ℕ) → ℕ → ℕ → ℕ → ℕ
games_within c b d k = sum_by c (range_with_len b (smaller d k))

-- whether no game is within so many slots after a game in slot t, up to the end
abbrev pub is_clear_after : (ℕ → ℕ) → ℕ → ℕ → ℕ → Bool
is_clear_after c least end t = (c t == 0) || (games_within c (t + 1) least (end - (t + 1)) == 0)

-- whether the window from a slot on has at most one game
abbrev pub is_single : (ℕ → ℕ) → ℕ → ℕ → Bool
is_single c width first = nat_le (sum_by c (range_with_len first width)) 1

zero_or_one : (v : ℕ) → v ≤ 1 → (v ≡ 0) ⊎ (v ≡ 1)
zero_or_one v few = grind arith

-- two tests, each of which passes where the other does
same_test : (a b : Bool) → (a ≡ true → b ≡ true) → (b ≡ true → a ≡ true) → a ≡ b
same_test true b forth back = sym (forth refl)
same_test false true forth back = back refl
same_test false false forth back = refl

module _ (c : ℕ → ℕ) where
  -- a slot without a game, and one with a game
  slots_played-none : (a k : ℕ) → c a ≡ 0 → slots_played c a (suc k) ≡ slots_played c (a + 1) k
  slots_played-none a k none = ap (λ (v : ℕ). replicate v a ++ slots_played c (a + 1) k) none

  slots_played-one : (a k : ℕ) → c a ≡ 1 → slots_played c a (suc k) ≡ a ∷ slots_played c (a + 1) k
  slots_played-one a k one = ap (λ (v : ℕ). replicate v a ++ slots_played c (a + 1) k) one

  games_within-zero : (b k : ℕ) → games_within c b 0 k ≡ 0
  games_within-zero b k =
      let nothing : smaller 0 k ≡ 0 = omega arith in
      ap (λ (l : ℕ). sum_by c (range_with_len b l)) nothing

  games_within-suc : (b d k : ℕ) → games_within c b (suc d) (suc k) ≡ c b + games_within c (b + 1) d k
  games_within-suc b d k =
      let more : smaller (suc d) (suc k) ≡ suc (smaller d k) = omega arith in
      ap (λ (l : ℕ). sum_by c (range_with_len b l)) more ∙ sum_by-cons c b (range_with_len (b + 1) (smaller d k))

  games_within-none : (b d k : ℕ) → c b ≡ 0 → games_within c b d (suc k) ≡ games_within c (b + 1) (d - 1) k
  games_within-none b zero k none =
      let nothing : zero - 1 ≡ 0 = omega arith in
      games_within-zero b (suc k)
      ∙ sym (ap (λ (e : ℕ). games_within c (b + 1) e k) nothing ∙ games_within-zero (b + 1) k)
  games_within-none b (suc d) k none =
      let less : d ≡ suc d - 1 = omega arith in
      omega (arith, games_within-suc b d k, ap (λ (e : ℕ). games_within c (b + 1) e k) less)

  games_within-one : (b d k : ℕ) → c b ≡ 1 → (games_within c b d (suc k) == 0) ≡ (d == 0)
  games_within-one b zero k one = ap (λ (x : ℕ). x == 0) (games_within-zero b (suc k))
  games_within-one b (suc d) k one =
      some (games_within c b (suc d) (suc k)) d (omega (arith, games_within-suc b d k)) where
        some : (x d : ℕ) → 1 ≤ x → (x == 0) ≡ (suc d == 0)
        some x d least = grind (arith, nat_tests)

-- a sum is 0 where both parts are
sum_zero : (x y : ℕ) → (x + y == 0) ≡ ((x == 0) && (y == 0))
sum_zero x y = grind (arith, nat_tests)

-- between slots a and b nothing is lacking where b is not one of the first after a
far_enough : (least a b : ℕ) → a < b → (least - (b - a - 1) == 0) ≡ (least + a + 1 - b == 0)
far_enough least a b before = grind (arith, nat_tests)

module _ (c : ℕ → ℕ) (least : ℕ) where
  -- after a game in slot a, k slots from b on are played: the first games are late enough, and the others lie apart
  lacking-after : (k a b : ℕ) → a < b → ((s : ℕ) → b ≤ s → s < b + k → c s ≤ 1)
      → (lacking least (a ∷ slots_played c b k) == 0)
      ≡ ((games_within c b (least + a + 1 - b) k == 0) && (lacking least (slots_played c b k) == 0))
  lacking-after zero a b before few =
      let nothing : smaller (least + a + 1 - b) 0 ≡ 0 = omega arith in
      sym (ap (λ (l : ℕ). (sum_by c (range_with_len b l) == 0) && true) nothing)
  lacking-after (suc k) a b before few =
      elim (zero_or_one (c b) (few b (omega arith) (omega arith))) [
        | inl none ↦
            let rest : slots_played c b (suc k) ≡ slots_played c (b + 1) k = slots_played-none c b k none in
            let less : least + a + 1 - b - 1 ≡ least + a + 1 - (b + 1) = omega arith in
            let within : games_within c b (least + a + 1 - b) (suc k)
            ≡ games_within c (b + 1) (least + a + 1 - (b + 1)) k =
            games_within-none c b (least + a + 1 - b) k none ∙ ap (λ (d : ℕ). games_within c (b + 1) d k) less in
            ap (λ (xs : List ℕ). lacking least (a ∷ xs) == 0) rest
            ∙ lacking-after k a (b + 1) (omega arith) (λ s from to. few s (omega arith) (omega arith))
            ∙ ap (λ (x : ℕ). (x == 0) && (lacking least (slots_played c (b + 1) k) == 0)) (sym within)
            ∙ ap (λ (xs : List ℕ). (games_within c b (least + a + 1 - b) (suc k) == 0) && (lacking least xs == 0))
            (sym rest)
        | inr one ↦
            let rest : slots_played c b (suc k) ≡ b ∷ slots_played c (b + 1) k = slots_played-one c b k one in
            ap (λ (xs : List ℕ). lacking least (a ∷ xs) == 0) rest
            ∙ sum_zero (excess least (slots_between a b)) (lacking least (b ∷ slots_played c (b + 1) k))
            ∙ ap (λ (t : Bool). t && (lacking least (b ∷ slots_played c (b + 1) k) == 0))
            (far_enough least a b before ∙ sym (games_within-one c b (least + a + 1 - b) k one))
            ∙ ap (λ (xs : List ℕ). (games_within c b (least + a + 1 - b) (suc k) == 0) && (lacking least xs == 0))
            (sym rest)
      ]

  -- a slot with no game, and one with a game
  clear-none : (v : ℕ) (rest : Bool) → v ≡ 0 → ((v == 0) || rest) ≡ true
  clear-none v rest none = ap (λ (x : ℕ). (x == 0) || rest) none

  clear-one : (v : ℕ) (rest : Bool) → v ≡ 1 → ((v == 0) || rest) ≡ rest
  clear-one v rest one = ap (λ (x : ℕ). (x == 0) || rest) one

  lacking-clear : (k a end : ℕ) → end ≡ a + k → ((s : ℕ) → a ≤ s → s < a + k → c s ≤ 1)
      → (lacking least (slots_played c a k) == 0) ≡ list_all (is_clear_after c least end) (range_with_len a k)
  lacking-clear zero a end ends few = refl
  lacking-clear (suc k) a end ends few =
      let clear_rest : Bool = list_all (is_clear_after c least end) (range_with_len (a + 1) k) in
      let rest : (lacking least (slots_played c (a + 1) k) == 0) ≡ clear_rest =
      lacking-clear k (a + 1) end (omega arith) (λ s from to. few s (omega arith) (omega arith)) in
      elim (zero_or_one (c a) (few a (omega arith) (omega arith))) [
        | inl none ↦
            ap (λ (xs : List ℕ). lacking least xs == 0) (slots_played-none c a k none)
            ∙ rest
            ∙ ap (λ (t : Bool). t && clear_rest)
            (sym (clear-none (c a) (games_within c (a + 1) least (end - (a + 1)) == 0) none))
        | inr one ↦
            let whole : least + a + 1 - (a + 1) ≡ least = omega arith in
            let left : k ≡ end - (a + 1) = omega arith in
            ap (λ (xs : List ℕ). lacking least xs == 0) (slots_played-one c a k one)
            ∙ lacking-after k a (a + 1) (omega arith) (λ s from to. few s (omega arith) (omega arith))
            ∙ ap (λ (t : Bool). (games_within c (a + 1) (least + a + 1 - (a + 1)) k == 0) && t) rest
            ∙ ap (λ (d : ℕ). (games_within c (a + 1) d k == 0) && clear_rest) whole
            ∙ ap (λ (l : ℕ). (games_within c (a + 1) least l == 0) && clear_rest) left
            ∙ ap (λ (t : Bool). t && clear_rest)
            (sym (clear-one (c a) (games_within c (a + 1) least (end - (a + 1)) == 0) one))
      ]

  module _ (end : ℕ) (few : (s : ℕ) → s < end → c s ≤ 1) where
    -- where slots after each game are clear, so many have at most one game
    sum-le : (clear : (t : ℕ) → t < end → c t ≡ 1 → games_within c (t + 1) least (end - (t + 1)) ≡ 0) → (k a : ℕ)
        → k ≤ least + 1 → a + k ≤ end → sum_by c (range_with_len a k) ≤ 1
    sum-le clear zero a short inside = omega arith
    sum-le clear (suc k) a short inside =
        elim (zero_or_one (c a) (few a (omega arith))) [
          | inl none ↦
              let rest = sum-le clear k (a + 1) (omega arith) (omega arith) in
              omega (arith, sum_by-cons c a (range_with_len (a + 1) k), rest)
          | inr one ↦
              omega (
                arith,
                sum_by-cons c a (range_with_len (a + 1) k),
                sum_by-range-part c (a + 1) (smaller least (end - (a + 1))) (a + 1) k (omega arith) (omega arith),
                clear a (omega arith) one,
              )
        ]

    -- a window with at most one game, with a game in slot t, has none behind it
    clear-single : (width t : ℕ) → width ≡ smaller (least + 1) end → t < end → c t ≡ 1
        → sum_by c (range_with_len (smaller t (end - width)) width) ≤ 1
        → games_within c (t + 1) least (end - (t + 1)) ≡ 0
    clear-single width t is inside one single =
        let left : ℕ = smaller least (end - (t + 1)) in
        let part : sum_by c (range_with_len t (suc left))
        ≤ sum_by c (range_with_len (smaller t (end - width)) width) =
        sum_by-range-part c (smaller t (end - width)) width t (suc left) (omega arith) (omega arith) in
        omega (arith, sum_by-cons c t (range_with_len (t + 1) left))

    -- each window has at most one game exactly where the slots after each game are clear
    pub windows-clear : (width : ℕ) → width ≡ smaller (least + 1) end
        → list_all (is_single c width) (range_with_len 0 (end + 1 - width))
        ≡ list_all (is_clear_after c least end) (range_with_len 0 end)
    windows-clear width is = same_test _ _ forth back where
      single : list_all (is_single c width) (range_with_len 0 (end + 1 - width)) ≡ true → (t : ℕ) → t < end
          → sum_by c (range_with_len (smaller t (end - width)) width) ≤ 1
      single pass t inside =
          leb-true (sum_by c (range_with_len (smaller t (end - width)) width)) 1
          (list_all-at (is_single c width) 0 (end + 1 - width) (smaller t (end - width)) pass (omega arith)
          (omega arith))

      forth : list_all (is_single c width) (range_with_len 0 (end + 1 - width)) ≡ true
          → list_all (is_clear_after c least end) (range_with_len 0 end) ≡ true
      forth pass =
          list_all-range (is_clear_after c least end) 0 end
          (λ t from to.
          let inside : t < end = omega arith in
          elim (zero_or_one (c t) (few t inside)) [
            | inl none ↦ clear-none (c t) (games_within c (t + 1) least (end - (t + 1)) == 0) none
            | inr one ↦
                clear-one (c t) (games_within c (t + 1) least (end - (t + 1)) == 0) one
                ∙ ap (λ (x : ℕ). x == 0) (clear-single width t is inside one (single pass t inside))
          ])

      clear : list_all (is_clear_after c least end) (range_with_len 0 end) ≡ true → (t : ℕ) → t < end → c t ≡ 1
          → games_within c (t + 1) least (end - (t + 1)) ≡ 0
      clear pass t inside one =
          eqb-true (games_within c (t + 1) least (end - (t + 1))) 0
          (sym (clear-one (c t) (games_within c (t + 1) least (end - (t + 1)) == 0) one)
          ∙ list_all-at (is_clear_after c least end) 0 end t pass (omega arith) (omega arith))

      back : list_all (is_clear_after c least end) (range_with_len 0 end) ≡ true
          → list_all (is_single c width) (range_with_len 0 (end + 1 - width)) ≡ true
      back pass =
          list_all-range (is_single c width) 0 (end + 1 - width)
          (λ first from inside.
          le-leb (sum_by c (range_with_len first width)) 1
          (sum-le (clear pass) width first (omega arith) (omega arith)))

    -- nothing is lacking exactly where each window has at most one game
    pub lacking-windows : (lacking least (slots_played c 0 end) == 0)
        ≡ list_all (is_single c (smaller (least + 1) end)) (range_with_len 0 (end + 1 - smaller (least + 1) end))
    lacking-windows =
        lacking-clear end 0 end (omega arith) (λ s from to. few s (omega arith))
        ∙ sym (windows-clear (smaller (least + 1) end) refl)
