-- What the turns of a search come to.
use Rattle.std.proofs.Common.{◌≡◌, ℕ, ◌+◌, ◌-◌, ◌*◌, ◌^◌, ◌<◌, ◌≤◌, Bool, List, [], ◌∷◌, ◌++◌, length, map, Ok, Option}
use Rattle.std.proofs.Common.{Some, None}
use Rattle.std.proofs.Common.{refl, inl, inr, arith, lit<, ap, sym, subst, ◌∙◌, append_assoc}
use Rattle.std.specs.Prelude.{◌⊎◌, IfSome}
use Rattle.std.specs.List.{All}
use Rattle.std.proofs.Math.Nat.{pow-le-pow_right}
use Rattle.std.proofs.lemmas.Bool.{cases_lt}
use Rattle.std.proofs.lemmas.List.{append-nil, get_or_append_left, length-append, length-map, length_push, map-append}
use Rattle.std.proofs.lemmas.List.Elements.{All-contains_itself, All-nil, All-push}
use Rattle.rows.specs.Cardinality.{at_least}
use Rattle.rows.specs.Literals.{Literal}
use Rattle.rows.specs.Partials.{IsEmpowering, IsQuiet}
use Rattle.rows.specs.Rows.{Row, SatisfiesAll, Satisfies}
use Rattle.rows.specs.Values.{assigned}
use Rattle.rows.specs.declared.partial.Value.{Value}
use Rattle.propagate.specs.Trails.{IsQuietBelow, SeenTrail}
use Rattle.refutation.specs.Steps.{Step}
use Rattle.refutation.specs.Steps.Step.{Clause}
use Rattle.refutation.specs.Following.{clause_row, judged}
use Rattle.refutation.specs.Verdict.{verdict_of}
use Rattle.refutation.specs.declared.verdict.Verdict.TheVariants.{Accepted}
use Rattle.clause_search.specs.Answers.{IsSpentAt, Refutes}
use Rattle.clause_search.specs.Kept.{IsPart, few_variables, least_room, named, step_at, steps_at}
use Rattle.clause_search.specs.News.{AreNews, IsNews, IsTidy, kept_rows, row_of}
use Rattle.clause_search.specs.Turns.{Closes, HasForgotten, HasLearnt, IsDecided, IsLeft, IsLightened, Learns}
use Rattle.clause_search.specs.Turns.{Lightened, Turned}
use Rattle.clause_search.proofs.CountLemmas.{AreEmpowering, AreEmpowering-part, AreEmpowering-push, clause_row-differ}
use Rattle.clause_search.proofs.CountLemmas.{fewer_steps}
use Rattle.clause_search.proofs.KeptLemmas.{All-steps_at, part_map, steps_at-push}
use Rattle.clause_search.proofs.NameLemmas.{judged-named, named-row, named-tidy}
use Rattle.clause_search.proofs.SearchLemmas.{AreNews-forget, AreNews-none, AreNews-push, keeps-within, kept_left}
use Rattle.clause_search.proofs.SearchLemmas.{kept_now, quiet_below-root}
use Rattle.clause_search.proofs.SearchLemmas.{verdict_of-refuted}

-- ---- turns

abbrev pub turned : (given : ℕ) (steps more : List Step) (kept now : List ℕ) (room room_now : ℕ) → Turned
turned given steps more kept now room room_now = record {
  given = given;
  steps = steps;
  more = more;
  kept = kept;
  now = now;
  room = room;
  room_now = room_now;
}

abbrev pub lightened : (trail : SeenTrail) (kept now : List ℕ) (room room_now : ℕ) → Lightened
lightened trail kept now room room_now = record {
  trail = trail;
  kept = kept;
  now = now;
  room = room;
  room_now = room_now;
}

-- ---- what a turn learns

pub learned : (given : ℕ) (kept : List ℕ) (old mid new : SeenTrail) (steps more : List Step) (clause : List Literal)
    (hints names : List ℕ) → IsNews old.rows old.rows old.vars (Clause clause hints)
    → IsTidy old.vars (Clause clause hints) → names ≡ map (named given kept) hints
    → All (λ name. name < 2 ^ 64) names → mid.vars ≡ old.vars → mid.rows ≡ old.rows
    → IsQuietBelow new.rows new.entries
    → new ≡ record mid { rows = mid.rows ++ at_least 1 clause ∷ [] }
    → more ≡ steps ++ Clause clause names ∷ [] → Learns given kept old new steps more
learned given kept old mid new steps more clause hints names is_news tidy names_are small vars rows quiet new_is
    more_is =
    record {
      clause = clause;
      hints = hints;
      log = more_is ∙ ap (λ (ns : List ℕ). steps ++ Clause clause ns ∷ []) names_are;
      is_news = is_news;
      tidy = tidy;
      small = subst (λ (ns : List ℕ). All (λ name. name < 2 ^ 64) ns) names_are small;
      vars = ap (λ (t : SeenTrail). t.vars) new_is ∙ vars;
      rows =
          ap (λ (t : SeenTrail). t.rows) new_is ∙ ap (λ (rs : List Row). rs ++ at_least 1 clause ∷ []) rows
          ∙ ap (λ (row : Row). old.rows ++ row ∷ []) (sym (clause_row-differ clause tidy.variables));
      quiet = quiet;
    }

-- ---- where a search is

-- the steps so far are news over the rows, and the trail has those that are kept behind the rows
pub record IsUnder (rows : List Row) (vars given : ℕ) (steps : List Step) (kept : List ℕ) (trail : SeenTrail)
    : Type 0 where
  pub vars_are : trail.vars ≡ vars
  pub given_is : given ≡ length rows
  pub rows_are : trail.rows ≡ rows ++ map row_of (steps_at steps kept)
  pub news : AreNews rows vars steps
  pub keeps : news.keeps (length steps) ≡ kept
  pub chain : AreEmpowering rows (steps_at steps kept)
  pub all : vars ≤ few_variables → length kept ≡ length steps
  pub tidy : All (IsTidy vars) steps
  pub quiet : IsQuietBelow trail.rows trail.entries

pub under_start : (rows : List Row) (vars given : ℕ) (steps : List Step) (kept : List ℕ) (t : SeenTrail)
    → given ≡ length rows → steps ≡ [] → kept ≡ [] → t ≡ record { vars = vars; rows = rows; entries = [] }
    → IsUnder rows vars given steps kept t
under_start rows vars given steps kept t given_is none nothing is =
    subst (λ (ss : List Step). IsUnder rows vars given ss kept t) (sym none)
    (subst (λ (ks : List ℕ). IsUnder rows vars given [] ks t) (sym nothing)
    (subst (λ (u : SeenTrail). IsUnder rows vars given [] [] u) (sym is) (record {
      vars_are = refl;
      given_is = given_is;
      rows_are = sym (append-nil rows);
      news = AreNews-none rows vars;
      keeps = refl;
      chain = tt;
      all = λ few. refl;
      tidy = All-nil (IsTidy vars);
      quiet = quiet_below-root rows [] refl;
    })))

-- the kept steps are earlier ones
pub kept_there : (rows : List Row) (vars given : ℕ) (steps : List Step) (kept : List ℕ) (t : SeenTrail)
    → IsUnder rows vars given steps kept t → All (λ place. place < length steps) kept
kept_there rows vars given steps kept t under =
    subst (λ (ks : List ℕ). All (λ place. place < length steps) ks) under.keeps
    (keeps-within rows vars steps under.news (length steps) (omega arith))

-- the trail's entries changed
pub under_moved : (rows : List Row) (vars given : ℕ) (steps : List Step) (kept : List ℕ) (old new : SeenTrail)
    → IsUnder rows vars given steps kept old → new.vars ≡ old.vars → new.rows ≡ old.rows
    → IsQuietBelow new.rows new.entries → IsUnder rows vars given steps kept new
under_moved rows vars given steps kept old new under same_vars same_rows quiet = record {
  vars_are = same_vars ∙ under.vars_are;
  given_is = under.given_is;
  rows_are = same_rows ∙ under.rows_are;
  news = under.news;
  keeps = under.keeps;
  chain = under.chain;
  all = under.all;
  tidy = under.tidy;
  quiet = quiet;
}

-- propagation did so
pub under_run : (rows : List Row) (vars given : ℕ) (steps : List Step) (kept : List ℕ) (old new : SeenTrail)
    → IsUnder rows vars given steps kept old → new.vars ≡ old.vars → new.rows ≡ old.rows
    → (IsQuietBelow old.rows old.entries → IsQuietBelow new.rows new.entries) → IsUnder rows vars given steps kept new
under_run rows vars given steps kept old new under same_vars same_rows below =
    under_moved rows vars given steps kept old new under same_vars same_rows (below under.quiet)

-- the same with what was read after a turn
pub under_same : (rows : List Row) (vars given given' : ℕ) (steps more : List Step) (kept now : List ℕ) (t : SeenTrail)
    → given' ≡ given → more ≡ steps → now ≡ kept → IsUnder rows vars given steps kept t
    → IsUnder rows vars given' more now t
under_same rows vars given given' steps more kept now t same_given same same_kept under =
    subst (λ (g : ℕ). IsUnder rows vars g more now t) (sym same_given)
    (subst (λ (ss : List Step). IsUnder rows vars given ss now t) (sym same)
    (subst (λ (ks : List ℕ). IsUnder rows vars given steps ks t) (sym same_kept) under))

pub under_decided : (rows : List Row) (vars : ℕ) (t : Turned) (old new : SeenTrail)
    → IsUnder rows vars t.given t.steps t.kept old → IsLeft t → IsDecided old new
    → IsUnder rows vars t.given t.more t.now new
under_decided rows vars t old new under still decided =
    under_same rows vars t.given t.given t.steps t.more t.kept t.now new refl still.log still.keeps
    (under_moved rows vars t.given t.steps t.kept old new under decided.vars decided.rows decided.quiet)

-- ---- a step that was learnt

module _ (rows : List Row) (vars : ℕ) (t : Turned) (old new : SeenTrail) (limit : Option ℕ)
    (under : IsUnder rows vars t.given t.steps t.kept old) (learnt : HasLearnt t old new limit) where
  abbrev names : List ℕ
  names = map (named t.given t.kept) learnt.learns.hints

  abbrev step : Step
  step = Clause learnt.learns.clause names

  there : All (λ place. place < length t.steps) t.kept
  there = kept_there rows vars t.given t.steps t.kept old under

  step_tidy : IsTidy vars step
  step_tidy =
      named-tidy t.given t.kept vars learnt.learns.clause learnt.learns.hints
      (subst (λ (v : ℕ). IsTidy v (Clause learnt.learns.clause learnt.learns.hints)) under.vars_are
      learnt.learns.tidy) learnt.learns.small

  -- it is news over the rows, the steps, and what is kept
  step_news : IsNews (rows ++ map row_of t.steps) (rows ++ map row_of (steps_at t.steps t.kept)) vars step
  step_news = record {
    follows =
        judged-named (rows ++ map row_of (steps_at t.steps t.kept)) (rows ++ map row_of t.steps) (named t.given t.kept)
        (λ h row found. named-row rows t.steps t.kept t.given h row under.given_is there found) vars
        learnt.learns.clause learnt.learns.hints (clause_row learnt.learns.clause)
        (subst (λ (rs : List Row). judged rs vars (Clause learnt.learns.clause learnt.learns.hints)
        ≡ Ok (clause_row learnt.learns.clause)) under.rows_are
        (subst (λ (v : ℕ). judged old.rows v (Clause learnt.learns.clause learnt.learns.hints)
        ≡ Ok (clause_row learnt.learns.clause)) under.vars_are learnt.learns.is_news.follows));
    empowering =
        subst (λ (rs : List Row). IsEmpowering rs learnt.learns.clause) under.rows_are
        learnt.learns.is_news.empowering;
  }

  -- and kept with those that were
  rows_more : new.rows ≡ rows ++ map row_of (steps_at t.more (t.kept ++ length t.steps ∷ []))
  rows_more =
      learnt.learns.rows
      ∙ ap (λ (rs : List Row). rs ++ clause_row learnt.learns.clause ∷ []) under.rows_are
      ∙ append_assoc rows (map row_of (steps_at t.steps t.kept)) (row_of step ∷ [])
      ∙ ap (λ (rs : List Row). rows ++ rs)
      (sym (map-append row_of (steps_at t.steps t.kept) (step ∷ [])))
      ∙ ap (λ (ss : List Step). rows ++ map row_of ss) (sym (steps_at-push t.steps step t.kept there))
      ∙ ap (λ (ss : List Step). rows ++ map row_of (steps_at ss (t.kept ++ length t.steps ∷ [])))
      (sym learnt.learns.log)

  abbrev kept_before : List ℕ
  kept_before = under.news.keeps (length t.steps)

  news_here : IsNews (rows ++ map row_of t.steps) (kept_rows rows vars t.steps under.news) vars step
  news_here =
      subst (λ (ks : List ℕ). IsNews (rows ++ map row_of t.steps) (rows ++ map row_of (steps_at t.steps ks)) vars step)
      (sym under.keeps) step_news

  under_now : IsUnder rows vars t.given (t.steps ++ step ∷ []) (t.kept ++ length t.steps ∷ []) new
  under_now = record {
    vars_are = learnt.learns.vars ∙ under.vars_are;
    given_is = under.given_is;
    rows_are =
        rows_more
        ∙ ap (λ (ss : List Step). rows ++ map row_of (steps_at ss (t.kept ++ length t.steps ∷ []))) learnt.learns.log;
    news =
        AreNews-push rows vars t.steps step (kept_before ++ length t.steps ∷ []) under.news news_here (inl refl);
    keeps =
        kept_now rows vars t.steps step (kept_before ++ length t.steps ∷ []) under.news news_here (inl refl)
        ∙ ap (λ (ks : List ℕ). ks ++ length t.steps ∷ []) under.keeps;
    chain =
        subst (λ (ss : List Step). AreEmpowering rows ss) (sym (steps_at-push t.steps step t.kept there))
        (AreEmpowering-push rows (steps_at t.steps t.kept) step under.chain step_news.empowering);
    all = λ few.
        omega (arith, length_push t.kept (length t.steps), length_push t.steps step, under.all few);
    tidy = All-push (IsTidy vars) t.steps step under.tidy step_tidy;
    quiet = learnt.learns.quiet;
  }

  pub under_learnt : IsUnder rows vars t.given t.more t.now new
  under_learnt =
      under_same rows vars t.given t.given (t.steps ++ step ∷ []) t.more (t.kept ++ length t.steps ∷ []) t.now new refl
      learnt.learns.log learnt.keeps under_now

-- after a turn that goes on
pub under_turned : (rows : List Row) (vars : ℕ) (t : Turned) (old new : SeenTrail) (limit : Option ℕ)
    → IsUnder rows vars t.given t.steps t.kept old → (IsLeft t × IsDecided old new) ⊎ HasLearnt t old new limit
    → IsUnder rows vars t.given t.more t.now new
under_turned rows vars t old new limit under (inl (still, decided)) = under_decided rows vars t old new under still decided
under_turned rows vars t old new limit under (inr learnt) = under_learnt rows vars t old new limit under learnt

-- ---- steps that were forgotten

pub under_forgot : (rows : List Row) (vars given : ℕ) (steps : List Step) (l : Lightened) (new : SeenTrail)
    → IsUnder rows vars given steps l.kept l.trail → HasForgotten rows steps l new
    → IsUnder rows vars given steps l.now new
under_forgot rows vars given steps l new under forgot = record {
  vars_are = ap (λ (u : SeenTrail). u.vars) forgot.trail ∙ under.vars_are;
  given_is = under.given_is;
  rows_are = ap (λ (u : SeenTrail). u.rows) forgot.trail;
  news = AreNews-forget rows vars steps l.now under.news many long part;
  keeps = kept_left rows vars steps l.now under.news many long part;
  chain =
      AreEmpowering-part (steps_at steps l.now) (steps_at steps l.kept) rows rows (All-contains_itself rows) under.chain
      (part_map (step_at steps) l.now l.kept forgot.part);
  all = λ few. absurd (omega (arith, few, many));
  tidy = under.tidy;
  quiet =
      subst (λ (u : SeenTrail). IsQuietBelow u.rows u.entries) (sym forgot.trail)
      (quiet_below-root (rows ++ map row_of (steps_at steps l.now)) [] refl);
} where
  many : few_variables < vars
  many = subst (λ (v : ℕ). few_variables < v) under.vars_are forgot.many

  long : least_room < length (under.news.keeps (length steps))
  long = subst (λ (ks : List ℕ). least_room < length ks) (sym under.keeps) forgot.long

  part : IsPart l.now (under.news.keeps (length steps))
  part = subst (λ (ks : List ℕ). IsPart l.now ks) (sym under.keeps) forgot.part

-- a trail that may have been lightened
pub under_lightened : (rows : List Row) (vars given : ℕ) (steps : List Step) (l : Lightened) (new : SeenTrail)
    → IsUnder rows vars given steps l.kept l.trail → IsLightened rows steps l new
    → IsUnder rows vars given steps l.now new
under_lightened rows vars given steps l new under (inl (same, keeps, room)) =
    subst (λ (u : SeenTrail). IsUnder rows vars given steps l.now u) (sym same)
    (under_same rows vars given given steps steps l.kept l.now l.trail refl refl keeps under)
under_lightened rows vars given steps l new under (inr forgot) = under_forgot rows vars given steps l new under forgot

-- ---- how many steps

pub within_start : (limit : Option ℕ) (steps : List Step) → steps ≡ [] → IfSome limit (λ most. length steps ≤ most)
within_start None steps none = tt
within_start (Some most) steps none = omega (arith, ap length none)

same_within : (limit : Option ℕ) (m n : ℕ) → m ≡ n → IfSome limit (λ most. n ≤ most) → IfSome limit (λ most. m ≤ most)
same_within None m n same within = tt
same_within (Some most) m n same within = omega (arith, same, within)

pub within_decided : (limit : Option ℕ) (steps more : List Step)
    → more ≡ steps → IfSome limit (λ most. length steps ≤ most) → IfSome limit (λ most. length more ≤ most)
within_decided limit steps more same within = same_within limit (length more) (length steps) (ap length same) within

more_within : (limit : Option ℕ) (m n : ℕ) → m ≡ n + 1 → IfSome limit (λ most. n < most)
    → IfSome limit (λ most. m ≤ most)
more_within None m n same within = tt
more_within (Some most) m n same within = omega (arith, same, within)

pub learnt_length : (t : Turned) (old new : SeenTrail) (limit : Option ℕ) → HasLearnt t old new limit
    → length t.more ≡ length t.steps + 1
learnt_length t old new limit learnt =
    ap length learnt.learns.log
    ∙ length_push t.steps (Clause learnt.learns.clause (map (named t.given t.kept) learnt.learns.hints))

pub within_learnt : (t : Turned) (old new : SeenTrail) (limit most : Option ℕ) → HasLearnt t old new limit
    → IfSome most (λ n. length t.steps < n) → IfSome most (λ n. length t.more ≤ n)
within_learnt t old new limit most learnt room =
    more_within most (length t.more) (length t.steps) (learnt_length t old new limit learnt) room

pub within_turned : (t : Turned) (old new : SeenTrail) (limit most : Option ℕ)
    → (IsLeft t × IsDecided old new) ⊎ HasLearnt t old new limit → IfSome most (λ n. length t.steps ≤ n)
    → (IfSome limit (λ n. length t.steps < n) → IfSome most (λ n. length t.steps < n))
    → IfSome most (λ n. length t.more ≤ n)
within_turned t old new limit most (inl (still, decided)) within room = within_decided most t.steps t.more still.log within
within_turned t old new limit most (inr learnt) within room =
    within_learnt t old new limit most learnt (room learnt.within)

-- ---- what is left

-- A kept step pays for any number of literals, and each literal that is decided for itself. Where steps are forgotten
-- there is more room from then on, and this pays for them all.
abbrev pub left : ℕ → ℕ → ℕ → ℕ → ℕ
left vars room kept set =
    (3 ^ vars - room) * ((3 ^ vars + 1) * (vars + 1)) + ((3 ^ vars - kept) * (vars + 1) + (vars - set))

plus_less : (paid vars set now : ℕ) → set < now → now ≤ vars → paid + (vars - now) < paid + (vars - set)
plus_less paid vars set now longer within = omega arith

one_less : (b vars x y : ℕ) → b * (vars + 1) + (vars - x) < (b + 1) * (vars + 1) + (vars - y)
one_less b vars x y = omega arith

behind : (paid x y : ℕ) → x < y → paid + x < paid + y
behind paid x y less = omega arith

pub left_decided : (vars room same_room kept now_kept set now : ℕ) → same_room ≡ room → now_kept ≡ kept → set < now
    → now ≤ vars → left vars same_room now_kept now < left vars room kept set
left_decided vars room same_room kept now_kept set now rooms same longer within =
    subst (λ (r : ℕ). left vars r now_kept now < left vars room kept set) (sym rooms)
    (subst (λ (n : ℕ). left vars room n now < left vars room kept set) (sym same)
    (behind ((3 ^ vars - room) * ((3 ^ vars + 1) * (vars + 1))) ((3 ^ vars - kept) * (vars + 1) + (vars - now))
    ((3 ^ vars - kept) * (vars + 1) + (vars - set))
    (plus_less ((3 ^ vars - kept) * (vars + 1)) vars set now longer within)))

pub left_learnt : (vars room same_room kept more set now : ℕ) → same_room ≡ room → more ≡ kept + 1 → kept < 3 ^ vars
    → left vars same_room more now < left vars room kept set
left_learnt vars room same_room kept more set now rooms same few =
    let next : (3 ^ vars - more) + 1 ≡ 3 ^ vars - kept = omega (arith, same, few) in
    subst (λ (r : ℕ). left vars r more now < left vars room kept set) (sym rooms)
    (behind ((3 ^ vars - room) * ((3 ^ vars + 1) * (vars + 1))) ((3 ^ vars - more) * (vars + 1) + (vars - now))
    ((3 ^ vars - kept) * (vars + 1) + (vars - set))
    (subst (λ (n : ℕ). (3 ^ vars - more) * (vars + 1) + (vars - now) < n * (vars + 1) + (vars - set)) next
    (one_less (3 ^ vars - more) vars now set)))

bounded : (q e vars set : ℕ) → q * (vars + 1) + (vars - set) < (q + e + 1) * (vars + 1)
bounded q e vars set = omega arith

paid_once : (a d b x y : ℕ) → x < b → a * b + x < (a + 1 + d) * b + y
paid_once a d b x y less = omega (arith, less)

pub left_forgot : (vars room more_room kept less set now : ℕ) → room < more_room → room < 3 ^ vars
    → left vars more_room less now < left vars room kept set
left_forgot vars room more_room kept less set now grown few =
    let paid : (3 ^ vars - more_room) + 1 + ((3 ^ vars - room) - ((3 ^ vars - more_room) + 1)) ≡ 3 ^ vars - room =
    omega (arith, grown, few) in
    let all : (3 ^ vars - less) + (3 ^ vars - (3 ^ vars - less)) + 1 ≡ 3 ^ vars + 1 = omega arith in
    subst (λ (n : ℕ). left vars more_room less now
    < n * ((3 ^ vars + 1) * (vars + 1)) + ((3 ^ vars - kept) * (vars + 1) + (vars - set))) paid
    (paid_once (3 ^ vars - more_room) ((3 ^ vars - room) - ((3 ^ vars - more_room) + 1))
    ((3 ^ vars + 1) * (vars + 1)) ((3 ^ vars - less) * (vars + 1) + (vars - now))
    ((3 ^ vars - kept) * (vars + 1) + (vars - set))
    (subst (λ (n : ℕ). (3 ^ vars - less) * (vars + 1) + (vars - now) < n * (vars + 1)) all
    (bounded (3 ^ vars - less) (3 ^ vars - (3 ^ vars - less)) vars now)))

-- ---- how many steps are kept, and how many there are

pub few_kept : (rows : List Row) (vars given : ℕ) (steps : List Step) (kept : List ℕ) (t : SeenTrail)
    → IsUnder rows vars given steps kept t → length kept < 3 ^ vars
few_kept rows vars given steps kept t under =
    omega (
      arith,
      fewer_steps rows vars (steps_at steps kept) under.chain
          (All-steps_at (IsTidy vars) steps kept (kept_there rows vars given steps kept t under) under.tidy),
      length-map kept (step_at steps),
    )

-- less is left after a turn that goes on
pub left_turned : (rows : List Row) (vars : ℕ) (t : Turned) (old new : SeenTrail) (limit : Option ℕ) (set : ℕ)
    → IsUnder rows vars t.given t.steps t.kept old → (IsLeft t × IsDecided old new) ⊎ HasLearnt t old new limit
    → set ≤ length old.entries
    → left vars t.room_now (length t.now) (length new.entries) < left vars t.room (length t.kept) set
left_turned rows vars t old new limit set under (inl (still, decided)) grown =
    left_decided vars t.room t.room_now (length t.kept) (length t.now) set (length new.entries) still.room
    (ap (λ (ks : List ℕ). length ks) still.keeps) (omega (arith, grown, decided.longer))
    (omega (arith, decided.within, decided.vars, under.vars_are))
left_turned rows vars t old new limit set under (inr learnt) grown =
    left_learnt vars t.room t.room_now (length t.kept) (length t.now) set (length new.entries) learnt.room
    (ap (λ (ks : List ℕ). length ks) learnt.keeps ∙ length_push t.kept (length t.steps))
    (few_kept rows vars t.given t.steps t.kept old under)

-- where a trail may have been lightened no more is left
pub left_lightened : (rows : List Row) (vars given : ℕ) (steps : List Step) (l : Lightened) (new : SeenTrail) (was : ℕ)
    → IsUnder rows vars given steps l.kept l.trail → IsLightened rows steps l new
    → left vars l.room (length l.kept) (length l.trail.entries) < was
    → left vars l.room_now (length l.now) (length new.entries) < was
left_lightened rows vars given steps l new was under (inl (same, keeps, room)) less =
    subst (λ (u : SeenTrail). left vars l.room_now (length l.now) (length u.entries) < was) (sym same)
    (subst (λ (ks : List ℕ). left vars l.room_now (length ks) (length l.trail.entries) < was) (sym keeps)
    (subst (λ (r : ℕ). left vars r (length l.kept) (length l.trail.entries) < was) (sym room) less))
left_lightened rows vars given steps l new was under (inr forgot) less =
    between (left vars l.room_now (length l.now) (length new.entries))
    (left vars l.room (length l.kept) (length l.trail.entries)) was
    (left_forgot vars l.room l.room_now (length l.kept) (length l.now) (length l.trail.entries) (length new.entries)
    forgot.grown (omega (arith, forgot.full, few_kept rows vars given steps l.kept l.trail under))) less
  where
    between : (x y z : ℕ) → x < y → y < z → x < z
    between x y z one other = omega arith

-- With more variables than a search needs to forget anything, 3 to their number is no number of 64 bits.
words_few : 2 ^ 64 < 3 ^ 41
words_few = lit< tt

pub few_steps : (rows : List Row) (vars given : ℕ) (steps : List Step) (kept : List ℕ) (t : SeenTrail)
    → IsUnder rows vars given steps kept t → length steps < 2 ^ 64 → length steps < 3 ^ vars
few_steps rows vars given steps kept t under small =
    elim (cases_lt few_variables vars) [
      | inl many ↦
          let more : 40 < vars = many in
          let most : 3 ^ 41 ≤ 3 ^ vars = pow-le-pow_right {n = 3} (omega arith) {i = 41} {j = vars} (omega (arith, more)) in
          omega (arith, small, words_few, most)
      | inr few ↦ omega (arith, under.all few, few_kept rows vars given steps kept t under)
    ]

-- ---- the answers

-- what holds of all holds of those in front
pub All-front : (P : Row → Type 0) (xs ys : List Row) → All P (xs ++ ys) → All P xs
All-front P xs ys all = λ k d within.
    subst P (get_or_append_left xs ys d k within) (all k d (omega (arith, within, length-append xs ys)))

pub answer_satisfied : (rows : List Row) (vars given : ℕ) (steps : List Step) (kept : List ℕ) (t : SeenTrail)
    (filled : List Bool) → IsUnder rows vars given steps kept t
    → (length filled ≡ t.vars) × SatisfiesAll (assigned filled) t.rows → (length filled ≡ vars)
    × SatisfiesAll (assigned filled) rows
answer_satisfied rows vars given steps kept t filled under is = (
  is.0 ∙ under.vars_are,
  All-front (Satisfies (assigned filled)) rows (map row_of (steps_at steps kept))
      (subst (λ (rs : List Row). SatisfiesAll (assigned filled) rs) under.rows_are is.1),
)

pub answer_refuted : (rows : List Row) (vars given : ℕ) (kept : List ℕ) (limit : Option ℕ) (steps more : List Step)
    (t : SeenTrail) → IsUnder rows vars given steps kept t → IfSome limit (λ most. length steps ≤ most)
    → Closes given kept t steps more → Refutes rows vars limit more
answer_refuted rows vars given kept limit steps more t under within closes =
    let follows : judged (rows ++ map row_of steps) vars (Clause [] (map (named given kept) closes.hints))
    ≡ Ok (clause_row []) =
    judged-named (rows ++ map row_of (steps_at steps kept)) (rows ++ map row_of steps) (named given kept)
    (λ h row found. named-row rows steps kept given h row under.given_is
    (kept_there rows vars given steps kept t under) found) vars [] closes.hints (clause_row [])
    (subst (λ (rs : List Row). judged rs vars (Clause [] closes.hints) ≡ Ok (clause_row [])) under.rows_are
    (subst (λ (v : ℕ). judged t.rows v (Clause [] closes.hints) ≡ Ok (clause_row [])) under.vars_are
    closes.follows)) in
    record {
      accepted =
          subst (λ (ss : List Step). verdict_of rows vars ss ≡ Accepted) (sym closes.log)
          (verdict_of-refuted rows vars steps (map (named given kept) closes.hints) under.news follows);
      before = steps;
      hints = map (named given kept) closes.hints;
      last = closes.log;
      news = under.news;
      within = within;
      tidy =
          subst (λ (ss : List Step). All (IsTidy vars) ss) (sym closes.log)
          (All-push (IsTidy vars) steps (Clause [] (map (named given kept) closes.hints)) under.tidy
          (named-tidy given kept vars [] closes.hints
          (subst (λ (v : ℕ). IsTidy v (Clause [] closes.hints)) under.vars_are closes.tidy) closes.small));
    }

pub answer_spent : (rows : List Row) (vars given : ℕ) (kept : List ℕ) (limit : Option ℕ) (steps more : List Step)
    (t : SeenTrail) → IsUnder rows vars given steps kept t
    → (more ≡ steps) × (limit ≡ Some (length steps)) × (length steps < 2 ^ 64)
    × ((values : ℕ → Value) × IsQuiet values t.rows)
    → IsSpentAt rows vars limit more
answer_spent rows vars given kept limit steps more t under (same, limited, small, still) =
    subst (λ (ss : List Step). IsSpentAt rows vars limit ss) (sym same) (record {
      limited = limited;
      spent = record {
        count = refl;
        news = under.news;
        quiet = (
          still.0,
          subst (λ (ks : List ℕ). IsQuiet still.0 (rows ++ map row_of (steps_at steps ks))) (sym under.keeps)
              (subst (λ (rs : List Row). IsQuiet still.0 rs) under.rows_are still.1),
        );
      };
      few = few_steps rows vars given steps kept t under small;
      tidy = under.tidy;
    })
