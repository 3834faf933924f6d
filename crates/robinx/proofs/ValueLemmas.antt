-- What the readers of values answer.
use Rattle.std.proofs.Common.{◌≡◌, ◌≢◌, ℕ, ◌<◌, Bool, true, false, not, List, [], ◌∷◌, Ok, Err, refl, subst, arith}
use Rattle.std.specs.Prelude.{nat_lt, ◌==◌}
use Rattle.std.specs.List.{count_by, before_first, after_first}
use Rattle.std.proofs.lemmas.Bool.Decides.{nat_tests}
use Rattle.robinx.specs.Fronts.{◌>>=◌, check}
use Rattle.robinx.specs.declared.tag_fault.FormKind.{FormKind}
use Rattle.robinx.specs.declared.tag_fault.FormKind.TheVariants.{BadNumber, UnknownTeam, SameTeam}
use Rattle.robinx.specs.Values.{Reading, number, id, each, distinct, meeting, team}
use Rattle.robinx.proofs.SetLemmas.{Every}

-- what a number below a limit is
below_by : (unknown : FormKind) (limit n x : ℕ) (t : Bool) → nat_lt n limit ≡ t → (check t unknown >>= λ known. Ok n) ≡ Ok x → x < limit
below_by unknown limit n x true is h =
    let same : n ≡ x = cc in
    let less : n < limit = grind (arith, nat_tests) in
    subst (λ (k : ℕ). k < limit) same less
below_by unknown limit n x false is h = absurd cc

pub id_below : (unknown : FormKind) (limit : ℕ) (text : List ℕ) (x : ℕ) → id unknown limit text ≡ Ok x → x < limit
id_below unknown limit text x h = by_number (number text) h where
  by_number : (r : Reading ℕ) → (r >>= λ n. check (nat_lt n limit) unknown >>= λ known. Ok n) ≡ Ok x → x < limit
  by_number (Ok n) h = below_by unknown limit n x (nat_lt n limit) refl h
  by_number (Err kind) h = absurd cc

-- each item that was read is so, where it is so of each alone
pub each-every : {X : Type 0} (read : List ℕ → Reading X) (P : X → Type 0) → ((item : List ℕ) (x : X) → read item ≡ Ok x → P x)
    → (items : List (List ℕ)) (xs : List X) → each read items ≡ Ok xs → Every P xs
each-every {X} read P sound [] xs h =
    let none : [] ≡ xs = cc in
    subst (Every P) none tt
each-every {X} read P sound (item ∷ items) xs h = by_first (read item) refl (each read items) (λ others e. each-every read P sound items others e) h where
  by_first : (r : Reading X) → read item ≡ r → (rs : Reading (List X)) → ((others : List X) → rs ≡ Ok others → Every P others)
      → (r >>= λ first. rs >>= λ others. Ok (first ∷ others)) ≡ Ok xs → Every P xs
  by_first (Ok x) is (Ok others) known h =
      let whole : x ∷ others ≡ xs = cc in
      subst (Every P) whole (sound item x is, known others refl)
  by_first (Ok x) is (Err kind) known h = absurd cc
  by_first (Err kind) is rs known h = absurd cc

-- what a meeting is: two teams, and different ones
pub record IsMeeting (n : ℕ) (pair : ℕ × ℕ) : Type 0 where
  pub home : pair.0 < n
  pub away : pair.1 < n
  pub differ : pair.0 ≢ pair.1

distinct_by : (home away : ℕ) (pair : ℕ × ℕ) (t : Bool) → (home == away) ≡ t → (check (not t) SameTeam >>= λ differ. Ok (home, away)) ≡ Ok pair → ((home, away) ≡ pair) × (home ≢ away)
distinct_by home away pair true is h = absurd cc
distinct_by home away pair false is h = (cc, λ same. absurd (grind (arith, nat_tests)))

pub meeting-is : (n : ℕ) (item : List ℕ) (pair : ℕ × ℕ) → meeting n item ≡ Ok pair → IsMeeting n pair
meeting-is n item pair h = by_comma (count_by (λ b. b == 44) item == 1) h where
  by_distinct : (home away : ℕ) → home < n → away < n → distinct home away ≡ Ok pair → IsMeeting n pair
  by_distinct home away below_home below_away h =
      let both : ((home, away) ≡ pair) × (home ≢ away) = distinct_by home away pair (home == away) refl h in
      subst (IsMeeting n) both.0 (record { home = below_home; away = below_away; differ = both.1 })

  by_teams : (r s : Reading ℕ) → ((x : ℕ) → r ≡ Ok x → x < n) → ((x : ℕ) → s ≡ Ok x → x < n) → (r >>= λ home. s >>= λ away. distinct home away) ≡ Ok pair → IsMeeting n pair
  by_teams (Ok home) (Ok away) below_home below_away h = by_distinct home away (below_home home refl) (below_away away refl) h
  by_teams (Ok home) (Err kind) below_home below_away h = absurd cc
  by_teams (Err kind) s below_home below_away h = absurd cc

  by_comma : (t : Bool) → (check t BadNumber >>= λ one. team n (before_first (λ b. b == 44) item) >>= λ home. team n (after_first (λ b. b == 44) item) >>= λ away. distinct home away) ≡ Ok pair → IsMeeting n pair
  by_comma true h = by_teams (team n (before_first (λ b. b == 44) item)) (team n (after_first (λ b. b == 44) item)) (λ x e. id_below UnknownTeam n (before_first (λ b. b == 44) item) x e) (λ x e. id_below UnknownTeam n (after_first (λ b. b == 44) item) x e) h
  by_comma false h = absurd cc
