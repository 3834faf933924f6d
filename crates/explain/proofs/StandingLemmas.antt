-- Contradictions that become smaller, and what is known of their members.
use Rattle.std.proofs.Common.{◌≡◌, ℕ, zero, suc, ◌+◌, ◌*◌, ◌<◌, ◌≤◌, Bool, true, false, cond, ◌==◌, not}
use Rattle.std.proofs.Common.{List, [], ◌∷◌, length, map, get_or, set}
use Rattle.std.proofs.Common.{Option, Some, None, refl, sym, ap, subst, ◌∙◌, arith}
use Rattle.std.specs.Prelude.{IfOk, IfSome, Result, Ok, Err, slice_get}
use Rattle.std.proofs.lemmas.Bool.Decides.{nat_tests}
use Rattle.std.specs.List.{All, count_by, filter}
use Rattle.std.specs.Ordering.{nat_cmp}
use Rattle.std.specs.declared.cmp.Ordering.TheVariants.{Less}
use Rattle.std.proofs.Math.Nat.{mul-le-mul}
use Rattle.std.proofs.Math.Seq.{map-set_same}
use Rattle.std.proofs.lemmas.List.{length-map, length-set}
use Rattle.std.proofs.lemmas.List.Elements.{All-filter, All-map, All-set, All-weaker}
use Rattle.std.proofs.lemmas.List.Kept.{AllPairs-filter}
use Rattle.std.proofs.lemmas.List.Sums.{count_by-le-length, length-filter, sum_by-set}
use Rattle.std.proofs.lemmas.Option.{get_or_from_slice_get, slice_get_within}
use Rattle.league.specs.Counts.{counts_of}
use Rattle.league.specs.Instance.{Instance}
use Rattle.league.specs.Sets.{IsAscending, is_in}
use Rattle.rows.specs.Rows.{Row, size_of}
use Rattle.encoding.specs.Encoding.{encoding_size, rows_of}
use Rattle.encoding.specs.Variables.{var_count}
use Rattle.explain.specs.Parts.{hard_numbers, is_hard_number, part_of, without}
use Rattle.explain.proofs.PartLemmas.{hard_numbers-ascending, hard_numbers-hard}
use Rattle.refutation.specs.Steps.{Step}
use Rattle.refutation.specs.Verdict.{verdict_of}
use Rattle.solve.specs.Solutions.{RefutesLeague}
use Rattle.explain.specs.Conflicts.{IsCase}
use Rattle.explain.specs.Cores.{IsCore, named_of}
use Rattle.explain.specs.Standings.{IsExplained, IsOpenAt, is_open, kept, loosened, numbers_of, open_member}
use Rattle.explain.specs.Standings.{reopened, work}
use Rattle.explain.specs.declared.cases.Case.{Case}
use Rattle.explain.specs.declared.cases.Case.TheVariants.{Without, Undecided}
use Rattle.explain.specs.declared.cores.Core.{Core}
use Rattle.explain.specs.declared.member.Contradiction.{Contradiction}
use Rattle.explain.specs.declared.member.Member.{Member}
use Rattle.explain.proofs.PartLaws.{fewer_terms, fewer_vars, still_accepted, whole_accepts, whole_rows, whole_vars}

-- ---- the numbers of those that are kept

put_number : (m : Member) (members : List Member) (numbers : List ℕ) (b : Bool)
    → numbers_of (map reopened members) ≡ numbers
    → numbers_of (map reopened (cond b (m ∷ members) members)) ≡ cond b (m.number ∷ numbers) numbers
put_number m members numbers true same = ap (λ (ks : List ℕ). m.number ∷ ks) same
put_number m members numbers false same = same

pub numbers-kept : (keep : ℕ → Bool) (members : List Member)
    → numbers_of (kept keep members) ≡ filter keep (numbers_of members)
numbers-kept keep [] = refl
numbers-kept keep (m ∷ members) =
    put_number m (filter (λ m. keep m.number) members) (filter keep (numbers_of members)) (keep m.number)
    (numbers-kept keep members)

-- ---- what stays known

stays : (league : Instance) (limit : Option ℕ) (may_stop : Type 0) (numbers : List ℕ) (keep : ℕ → Bool) (k : ℕ) (case : Option Case)
    → IfSome case (IsCase league limit may_stop numbers k) → IfSome (loosened case) (IsCase league limit may_stop (filter keep numbers) k)
stays league limit may_stop numbers keep k None known = tt
stays league limit may_stop numbers keep k (Some (Without games)) known = record {
  accepted = still_accepted league keep numbers k (counts_of games) known.accepted;
  fit = known.fit;
  in_order = known.in_order;
}
stays league limit may_stop numbers keep k (Some (Undecided log)) known = tt

all_stay : (league : Instance) (limit : Option ℕ) (may_stop : Type 0) (numbers : List ℕ) (keep : ℕ → Bool) (members : List Member)
    → All (λ m. IfSome m.case (IsCase league limit may_stop numbers m.number)) members
    → All (λ m. IfSome m.case (IsCase league limit may_stop (filter keep numbers) m.number)) (kept keep members)
all_stay league limit may_stop numbers keep members known =
    All-map (λ (m : Member). IfSome m.case (IsCase league limit may_stop (filter keep numbers) m.number)) reopened
    (filter (λ m. keep m.number) members)
    (All-weaker (λ (m : Member). IfSome m.case (IsCase league limit may_stop numbers m.number))
    (λ (m : Member). IfSome (loosened m.case) (IsCase league limit may_stop (filter keep numbers) m.number))
    (λ m. stays league limit may_stop numbers keep m.number m.case) (filter (λ m. keep m.number) members)
    (All-filter (λ (m : Member). keep m.number)
    (λ (m : Member). IfSome m.case (IsCase league limit may_stop numbers m.number)) members known))

-- some of the members, and a log of their own that refutes them
pub reduced : (league : Instance) (limit : Option ℕ) (may_stop : Type 0) (members : List Member) (log shorter : List Step)
    (keep : ℕ → Bool) → IsExplained league limit may_stop members log
    → RefutesLeague (part_of league (filter keep (numbers_of members))) shorter
    → IsExplained league limit may_stop (kept keep members) shorter
reduced league limit may_stop members log shorter keep is refuted =
    let numbers : List ℕ = numbers_of members in
    let same : filter keep numbers ≡ numbers_of (kept keep members) = sym (numbers-kept keep members) in
    record {
      ascending = subst (IsAscending nat_cmp) same
          (AllPairs-filter (λ a b. nat_cmp a b ≡ Less) keep numbers is.ascending);
      hard = subst (All (λ k. is_hard_number league.constraints k ≡ true)) same
          (All-filter keep (λ k. is_hard_number league.constraints k ≡ true) numbers is.hard);
      small = subst (λ (ks : List ℕ). encoding_size (part_of league ks) ≤ 40000000) same
          (omega (arith, fewer_terms league keep numbers, is.small));
      few = subst (λ (ks : List ℕ). var_count (part_of league ks) ≤ var_count league) same
          (omega (arith, fewer_vars league keep numbers, is.few));
      refuted = subst (λ (ks : List ℕ). RefutesLeague (part_of league ks) shorter) same refuted;
      known = subst (λ (ks : List ℕ).
          All (λ m. IfSome m.case (IsCase league limit may_stop ks m.number)) (kept keep members)) same
          (all_stay league limit may_stop numbers keep members is.known);
    }

-- ---- all hard constraints, of which nothing is known

numbers-open : (numbers : List ℕ) → numbers_of (map open_member numbers) ≡ numbers
numbers-open [] = refl
numbers-open (k ∷ numbers) = ap (λ (ks : List ℕ). k ∷ ks) (numbers-open numbers)

known-open : (league : Instance) (limit : Option ℕ) (may_stop : Type 0) (numbers whole : List ℕ)
    → All (λ m. IfSome m.case (IsCase league limit may_stop whole m.number)) (map open_member numbers)
known-open league limit may_stop numbers whole =
    All-map (λ (m : Member). IfSome m.case (IsCase league limit may_stop whole m.number)) open_member numbers (λ k d within. tt)

whole_refuted : (league : Instance) (log : List Step) → RefutesLeague league log
    → RefutesLeague (part_of league (hard_numbers league.constraints)) log
whole_refuted league log is =
    let part : Instance = part_of league (hard_numbers league.constraints) in
    record {
      accepted = ap (λ (rows : List Row). verdict_of rows (var_count part) log) (whole_rows league)
          ∙ ap (λ (vars : ℕ). verdict_of (rows_of league) vars log) (whole_vars league)
          ∙ is.accepted;
      none = λ games accepted. is.none games (whole_accepts league (counts_of games) accepted);
      writable = is.writable;
    }

pub first_explained : (league : Instance) (limit : Option ℕ) (may_stop : Type 0) (members : List Member) (log : List Step)
    → members ≡ map open_member (hard_numbers league.constraints) → encoding_size league ≤ 40000000
    → RefutesLeague league log → IsExplained league limit may_stop members log
first_explained league limit may_stop members log are small refuted =
    let numbers : List ℕ = hard_numbers league.constraints in
    let same : numbers ≡ numbers_of members = sym (ap numbers_of are ∙ numbers-open numbers) in
    record {
      ascending = subst (IsAscending nat_cmp) same (hard_numbers-ascending league.constraints);
      hard = subst (All (λ k. is_hard_number league.constraints k ≡ true)) same (hard_numbers-hard league.constraints);
      small = subst (λ (ks : List ℕ). encoding_size (part_of league ks) ≤ 40000000) same
          (omega (arith, ap size_of (whole_rows league), small));
      few = subst (λ (ks : List ℕ). var_count (part_of league ks) ≤ var_count league) same
          (omega (arith, whole_vars league));
      refuted = subst (λ (ks : List ℕ). RefutesLeague (part_of league ks) log) same (whole_refuted league log refuted);
      known = subst (λ (ms : List Member).
          All (λ m. IfSome m.case (IsCase league limit may_stop (numbers_of members) m.number)) ms) (sym are)
          (known-open league limit may_stop numbers (numbers_of members));
    }

-- ---- a member that is settled

pub settled : (league : Instance) (limit : Option ℕ) (may_stop : Type 0) (members : List Member) (log : List Step) (place : ℕ)
    (m : Member) (case : Case) → IsExplained league limit may_stop members log → slice_get members place ≡ Some m
    → IsCase league limit may_stop (numbers_of members) m.number case
    → IsExplained league limit may_stop (set members place (record { number = m.number; case = Some case })) log
settled league limit may_stop members log place m case is there said =
    let later : Member = record { number = m.number; case = Some case } in
    let same : numbers_of members ≡ numbers_of (set members place later) =
    sym (map-set_same (λ (x : Member). x.number) members place later m
    (ap (λ (x : Member). x.number) (sym (get_or_from_slice_get members place m m there)))) in
    record {
      ascending = subst (IsAscending nat_cmp) same is.ascending;
      hard = subst (All (λ k. is_hard_number league.constraints k ≡ true)) same is.hard;
      small = subst (λ (ks : List ℕ). encoding_size (part_of league ks) ≤ 40000000) same is.small;
      few = subst (λ (ks : List ℕ). var_count (part_of league ks) ≤ var_count league) same is.few;
      refuted = subst (λ (ks : List ℕ). RefutesLeague (part_of league ks) log) same is.refuted;
      known = subst (λ (ks : List ℕ).
          All (λ x. IfSome x.case (IsCase league limit may_stop ks x.number)) (set members place later)) same
          (All-set (λ (x : Member). IfSome x.case (IsCase league limit may_stop (numbers_of members) x.number)) members place
          later said is.known);
    }

less_work : (a b opens fewer : ℕ) → b ≡ a → fewer < opens → b * (b + 1) + fewer < a * (a + 1) + opens
less_work a b opens fewer same less = omega (arith, ap (λ (k : ℕ). k * (k + 1)) same, less)

lost_work : (a b opens left : ℕ) → b < a → left ≤ b → b * (b + 1) + left < a * (a + 1) + opens
lost_work a b opens left shorter most =
    let squares : (b + 1) * (b + 1) ≤ a * a = mul-le-mul {n₁ = b + 1} {m₁ = b + 1} (omega (arith, shorter))
    (omega (arith, shorter)) in
    omega (arith, squares, shorter, most)

one_open : (m : Member) → is_open m ≡ true → (let one : ℕ = cond (is_open m) 1 0 in one) ≡ 1
one_open m untried =
    let count : Bool → ℕ = λ b. cond b 1 0 in
    ap count untried

pub settled-less : (members : List Member) (place : ℕ) (m : Member) (case : Case) → slice_get members place ≡ Some m
    → is_open m ≡ true → work (set members place (record { number = m.number; case = Some case })) < work members
settled-less members place m case there untried =
    let later : Member = record { number = m.number; case = Some case } in
    let count : Member → ℕ = λ x. cond (is_open x) 1 0 in
    let one : count (get_or members place m) ≡ 1 =
    ap count (get_or_from_slice_get members place m m there) ∙ one_open m untried in
    let changed = sum_by-set count members place later m (slice_get_within members place m there) in
    let long : length (set members place later) ≡ length members = length-set members place later in
    less_work (length members) (length (set members place later)) (count_by is_open members)
    (count_by is_open (set members place later)) long (omega (arith, changed, one))

-- ---- a member that is lost

pub shorter-less : (members : List Member) (smaller : List Member) → length smaller < length members
    → work smaller < work members
shorter-less members smaller shorter =
    lost_work (length members) (length smaller) (count_by is_open members) (count_by is_open smaller) shorter
    (count_by-le-length is_open smaller)

-- ---- some of the numbers, of which the league is tried

-- the numbers that are tried are as they were made, of the members as they are seen
pub of_members : (keep : ℕ → Bool) (seen members : List Member) (made given : List ℕ) → seen ≡ members
    → made ≡ filter keep (numbers_of seen) → given ≡ made → given ≡ filter keep (numbers_of members)
of_members keep seen members made given same are is =
    is ∙ are ∙ ap (λ (ms : List Member). filter keep (numbers_of ms)) same

pub chosen-ascending : (league : Instance) (limit : Option ℕ) (may_stop : Type 0) (members : List Member) (log : List Step)
    (keep : ℕ → Bool) (chosen : List ℕ) → IsExplained league limit may_stop members log
    → chosen ≡ filter keep (numbers_of members) → IsAscending nat_cmp chosen
chosen-ascending league limit may_stop members log keep chosen is same =
    subst (IsAscending nat_cmp) (sym same)
    (AllPairs-filter (λ a b. nat_cmp a b ≡ Less) keep (numbers_of members) is.ascending)

pub chosen-hard : (league : Instance) (limit : Option ℕ) (may_stop : Type 0) (members : List Member) (log : List Step)
    (keep : ℕ → Bool) (chosen : List ℕ) → IsExplained league limit may_stop members log
    → chosen ≡ filter keep (numbers_of members) → All (λ k. is_hard_number league.constraints k ≡ true) chosen
chosen-hard league limit may_stop members log keep chosen is same =
    subst (All (λ k. is_hard_number league.constraints k ≡ true)) (sym same)
    (All-filter keep (λ k. is_hard_number league.constraints k ≡ true) (numbers_of members) is.hard)

pub chosen-small : (league : Instance) (limit : Option ℕ) (may_stop : Type 0) (members : List Member) (log : List Step)
    (keep : ℕ → Bool) (chosen : List ℕ) → IsExplained league limit may_stop members log
    → chosen ≡ filter keep (numbers_of members) → encoding_size (part_of league chosen) ≤ 40000000
chosen-small league limit may_stop members log keep chosen is same =
    omega (
      arith,
      ap (λ (ks : List ℕ). encoding_size (part_of league ks)) same,
      fewer_terms league keep (numbers_of members),
      is.small,
    )

-- ---- the members that a log names

pub is_core : (league : Instance) (members : List Member) (core : Core) (listed : List ℕ)
    → listed ≡ named_of core.named.items members → length listed < length (numbers_of members)
    → RefutesLeague (part_of league listed) core.log → IsCore league members core
is_core league members core listed same fewer refuted = record {
  fewer = omega (arith, ap (λ (ks : List ℕ). length ks) same, fewer, length-map members (λ (m : Member). m.number));
  refuted = subst (λ (ks : List ℕ). RefutesLeague (part_of league ks) core.log) same refuted;
}

length-kept : (keep : ℕ → Bool) (members : List Member)
    → length (kept keep members) ≡ length (filter keep (numbers_of members))
length-kept keep members =
    sym (length-map (kept keep members) (λ (m : Member). m.number))
    ∙ ap (λ (ks : List ℕ). length ks) (numbers-kept keep members)

pub core-shorter : (league : Instance) (members smaller : List Member) (core : Core) → IsCore league members core
    → smaller ≡ kept (λ k. is_in k core.named.items) members → length smaller < length members
core-shorter league members smaller core is same =
    omega (
      arith,
      ap (λ (ms : List Member). length ms) same,
      length-kept (λ k. is_in k core.named.items) members,
      is.fewer,
    )

pub core-explained : (league : Instance) (limit : Option ℕ) (may_stop : Type 0) (members smaller : List Member) (log shorter : List Step)
    (core : Core) → IsExplained league limit may_stop members log → IsCore league members core
    → smaller ≡ kept (λ k. is_in k core.named.items) members → shorter ≡ core.log
    → IsExplained league limit may_stop smaller shorter
core-explained league limit may_stop members smaller log shorter core is found same same_log =
    subst (λ (ms : List Member). IsExplained league limit may_stop ms shorter) (sym same)
    (subst (λ (steps : List Step). IsExplained league limit may_stop (kept (λ k. is_in k core.named.items) members) steps)
    (sym same_log)
    (reduced league limit may_stop members log core.log (λ k. is_in k core.named.items) is found.refuted))

-- ---- a try of a member

pub untried_at : (members : List Member) (place : ℕ) (found : Member) → found ≡ get_or members place found
    → IsOpenAt members place → (slice_get members place ≡ Some found) × (is_open found ≡ true)
untried_at members place found is (m, (there, untried)) =
    let same : found ≡ m = is ∙ get_or_from_slice_get members place m found there in
    let some : Member → Option Member = λ x. Some x in
    (there ∙ ap some (sym same), ap is_open same ∙ untried)

-- it is one of them
pub open_within : (members : List Member) (place : ℕ) → IsOpenAt members place → place < length members
open_within members place (m, (there, untried)) = slice_get_within members place m there

pub settled_so : (league : Instance) (limit : Option ℕ) (may_stop : Type 0) (members later : List Member) (log later_log : List Step)
    (place : ℕ) (m : Member) (case : Case) → IsExplained league limit may_stop members log → slice_get members place ≡ Some m
    → IsCase league limit may_stop (numbers_of members) m.number case
    → later ≡ set members place (record { number = m.number; case = Some case }) → later_log ≡ log
    → IsExplained league limit may_stop later later_log
settled_so league limit may_stop members later log later_log place m case is there said same same_log =
    subst (λ (ms : List Member). IsExplained league limit may_stop ms later_log) (sym same)
    (subst (λ (steps : List Step).
    IsExplained league limit may_stop (set members place (record { number = m.number; case = Some case })) steps)
    (sym same_log) (settled league limit may_stop members log place m case is there said))

pub settled_so-less : (members later : List Member) (place : ℕ) (m : Member) (case : Case)
    → slice_get members place ≡ Some m → is_open m ≡ true
    → later ≡ set members place (record { number = m.number; case = Some case }) → work later < work members
settled_so-less members later place m case there untried same =
    subst (λ (ms : List Member). work ms < work members) (sym same)
    (settled-less members place m case there untried)

pub dropped_explained : (league : Instance) (limit : Option ℕ) (may_stop : Type 0) (members later : List Member) (log shorter : List Step)
    (steps : List Step) (number : ℕ) → IsExplained league limit may_stop members log
    → RefutesLeague (part_of league (without number (numbers_of members))) steps
    → later ≡ kept (λ k. not (k == number)) members → shorter ≡ steps → IsExplained league limit may_stop later shorter
dropped_explained league limit may_stop members later log shorter steps number is refuted same same_log =
    subst (λ (ms : List Member). IsExplained league limit may_stop ms shorter) (sym same)
    (subst (λ (ss : List Step). IsExplained league limit may_stop (kept (λ k. not (k == number)) members) ss) (sym same_log)
    (reduced league limit may_stop members log steps (λ k. not (k == number)) is refuted))

put-shorter : (k : ℕ) (numbers : List ℕ) (most : ℕ) (b : Bool) → length numbers < most
    → length (cond b (k ∷ numbers) numbers) < most + 1
put-shorter k numbers most true fewer = omega (arith, fewer)
put-shorter k numbers most false fewer = omega (arith, fewer)

some_member : (x m : Member) → ◌≡◌ {A = Option Member} (Some x) (Some m) → x ≡ m
some_member x m is = cc

no_member : (m : Member) → ◌≡◌ {A = Option Member} None (Some m) → ⊥
no_member m is = cc

lost : (keep : ℕ → Bool) (members : List Member) (place : ℕ) (m : Member) → slice_get members place ≡ Some m
    → keep m.number ≡ false → length (filter keep (numbers_of members)) < length members
lost keep [] place m there fails = absurd (no_member m there)
lost keep (x ∷ members) zero m there fails =
    let rest : List ℕ = filter keep (numbers_of members) in
    let passes : keep x.number ≡ false = ap (λ (y : Member). keep y.number) (some_member x m there) ∙ fails in
    omega (
      arith,
      ap (λ (b : Bool). length (cond b (x.number ∷ rest) rest)) passes,
      length-filter keep (numbers_of members),
      count_by-le-length keep (numbers_of members),
      length-map members (λ (y : Member). y.number),
    )
lost keep (x ∷ members) (suc place) m there fails =
    let shorter = put-shorter x.number (filter keep (numbers_of members)) (length members) (keep x.number)
    (lost keep members place m there fails) in
    omega (arith, shorter)

itself : (k : ℕ) → not (k == k) ≡ false
itself k = grind (arith, nat_tests)

pub dropped-shorter : (members later : List Member) (place : ℕ) (m : Member) → slice_get members place ≡ Some m
    → later ≡ kept (λ k. not (k == m.number)) members → length later < length members
dropped-shorter members later place m there same =
    omega (
      arith,
      ap (λ (ms : List Member). length ms) same,
      length-kept (λ k. not (k == m.number)) members,
      lost (λ k. not (k == m.number)) members place m there (itself m.number),
    )

pub narrowed-less : {E : Type 0} (result : Result Contradiction E) (members smaller : List Member)
    → IfOk result (λ later. length later.members.items ≤ length smaller) → length smaller < length members
    → IfOk result (λ later. work later.members.items < work members)
narrowed-less {E} (Ok later) members smaller no_longer shorter =
    shorter-less members later.members.items (omega (arith, no_longer, shorter))
narrowed-less {E} (Err error) members smaller no_longer shorter = tt
