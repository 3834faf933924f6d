-- Where an entry is 0, nothing is said of it.
use Rattle.std.proofs.Common.{◌≡◌, ℕ, ◌+◌, ◌-◌, ◌<◌, ◌++◌, List, [], ◌∷◌, Option, Some, None, get_or, refl, arith, ap, sym, ◌∙◌, append-nil, IsTrue}
use Rattle.std.proofs.lemmas.List.Sums.{sum_by-append}
use Rattle.std.specs.List.{All, filter, flat_map, range_with_len}
use Rattle.league.specs.Bounds.{excess}
use Rattle.league.specs.Counts.{counts_of, slot_count}
use Rattle.league.specs.Deviation.{entry_of}
use Rattle.league.specs.Instance.{IsGame, class_fits}
use Rattle.league.specs.Meetings.{pairs_of}
use Rattle.league.specs.Order.{IsInOrder}
use Rattle.league.specs.declared.class.Class.{Class}
use Rattle.league.specs.declared.class.Class.TheVariants.{Ca1, Ca2, Ca3, Ca4, Ga1, Br1, Br2, Fa2, Se1}
use Rattle.league.specs.declared.game.Game.{Game}
use Rattle.rule_core.specs.Ready.{entry_count}
use Rattle.league.specs.Separation.{slots_between}
use Rattle.season_misses.specs.Counting.{counts_in_se1}
use Rattle.season_misses.specs.Reasons.{by_gap, by_lead, neighbours, reasons_at, where_missed}
use Rattle.season_misses.specs.declared.reason.Cause.TheVariants.{Gap}
use Rattle.season_misses.specs.declared.reason.Cause.{Cause}
use Rattle.season_misses.specs.declared.reason.Reason.{Reason}
use Rattle.season_misses.proofs.AddUpLemmas.{adds_up}
use Rattle.season_misses.proofs.LawLemmas.{missed, missed-where}
use Rattle.season_misses.proofs.ListLemmas.{made_more}

-- no reason amounts to nothing
none-where : (key amount : ℕ) (cause : Cause) → missed (where_missed key amount cause) ≡ 0 → where_missed key amount cause ≡ []
none-where key amount cause nothing = ap (λ (a : ℕ). where_missed key a cause) (sym (missed-where key amount cause) ∙ nothing)

-- nor do some of them
none-among : {X : Type 0} (f : X → List Reason) → ((x : X) → missed (f x) ≡ 0 → f x ≡ []) → (xs : List X) → missed (flat_map f xs) ≡ 0 → flat_map f xs ≡ []
none-among {X} f each [] nothing = refl
none-among {X} f each (x ∷ xs) nothing =
    let both : missed (f x ++ flat_map f xs) ≡ missed (f x) + missed (flat_map f xs) = sum_by-append (λ reason. reason.amount) (f x) (flat_map f xs) in
    let here : f x ≡ [] = each x (omega arith) in
    let rest : flat_map f xs ≡ [] = none-among f each xs (omega arith) in
    ap (λ (reasons : List Reason). reasons ++ flat_map f xs) here ∙ rest

none-lead : (key n intp : ℕ) (games : List Game) (p : ℕ × ℕ) (at : Option ℕ) → missed (by_lead key n intp games p at) ≡ 0 → by_lead key n intp games p at ≡ []
none-lead key n intp games p None nothing = refl
none-lead key n intp games p (Some s) nothing = none-where key _ _ nothing

none-gaps : (key min : ℕ) (pairs : List (Game × Game)) → missed (flat_map (by_gap key min) pairs) ≡ 0 → flat_map (by_gap key min) pairs ≡ []
none-gaps key min pairs nothing =
    none-among {X = Game × Game} (by_gap key min) (λ two. none-where key (excess min (slots_between two.0.slot.0 two.1.slot.0)) (Gap two.0 two.1)) pairs nothing

-- at a key
none-at : (n : ℕ) (games : List Game) (class : Class) (key : ℕ) → missed (reasons_at n games class key) ≡ 0 → reasons_at n games class key ≡ []
none-at n games (Ca1 teams min max side slots) key nothing = none-where key _ _ nothing
none-at n games (Ca2 teams1 teams2 min max side slots) key nothing = none-where key _ _ nothing
none-at n games (Ca3 teams1 teams2 min max intp side) key nothing =
    none-among _ (λ first. none-where key _ _) (range_with_len 0 (slot_count n + 1 - intp)) nothing
none-at n games (Ca4 teams1 teams2 min max side span slots) key nothing = none-where key _ _ nothing
none-at n games (Ga1 meetings min max slots) key nothing = none-where key _ _ nothing
none-at n games (Br1 teams intp side slots) key nothing = none-where key _ _ nothing
none-at n games (Br2 teams intp slots) key nothing = none-where key _ _ nothing
none-at n games (Fa2 teams intp slots) key nothing = none-lead key n intp games _ _ nothing
none-at n games (Se1 teams min) key nothing = none-gaps key min (neighbours (filter (counts_in_se1 (get_or (pairs_of teams) key (0, 0))) games)) nothing

-- the reasons so far, behind an entry that is 0
pub past_nothing : (n : ℕ) (games : List Game) (class : Class) (key : ℕ) (reasons : List Reason)
    → IsTrue (class_fits n class) → All (IsGame n) games → IsInOrder games → key < entry_count class
    → entry_of n (counts_of games) class key ≡ 0
    → reasons ≡ flat_map (reasons_at n games class) (range_with_len 0 key)
    → reasons ≡ flat_map (reasons_at n games class) (range_with_len 0 (key + 1))
past_nothing n games class key reasons fits fit ordered inside nothing so_far =
    made_more (reasons_at n games class) [] reasons reasons key so_far
    (sym (append-nil reasons)
    ∙ ap (λ (more : List Reason). reasons ++ more) (sym (none-at n games class key (adds_up n games class fits fit ordered key inside ∙ nothing))))
