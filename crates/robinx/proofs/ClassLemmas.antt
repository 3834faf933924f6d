-- The line of each class of constraints, and what it is read as.
use Rattle.std.proofs.Common.{◌≡◌, ℕ, ◌≤◌, Bool, true, false, ◌&&◌, List, [], length, decimal, Ok, refl, arith}
use Rattle.std.specs.Prelude.{codes, nat_lt}
use Rattle.std.proofs.lemmas.Bool.{false≢true}
use Rattle.league.specs.Names.{name_of, name_text}
use Rattle.league.specs.Instance.{class_fits, is_one_side, are_teams, are_slots, are_meetings}
use Rattle.league.specs.declared.class.Class.{Class}
use Rattle.league.specs.declared.class.Class.TheVariants.{Ca1, Ca2, Ca3, Ca4, Ga1, Br1, Br2, Fa2, Se1}
use Rattle.league.specs.declared.class.Constraint.{Constraint}
use Rattle.league.specs.declared.class.Side.{Side}
use Rattle.league.specs.declared.class.Side.TheVariants.{H, A, Both}
use Rattle.league.specs.declared.class.Span.{Span}
use Rattle.league.specs.declared.class.Span.TheVariants.{Global, Every}
use Rattle.robinx.specs.Texts.{side_word, span_word, type_word, constraint_attributes}
use Rattle.robinx.specs.Values.{above_zero}
use Rattle.robinx.specs.Words as words
use Rattle.robinx.specs.Words.{hardness, home_or_away}
use Rattle.robinx.specs.Classes.{constraint_of}
use Rattle.league.specs.declared.class.ClassName.{ClassName}
use Rattle.league.specs.declared.class.ClassName.TheVariants as names
use Rattle.robinx.specs.Held.{IsHeld}
use Rattle.robinx.proofs.TagLemmas.{and_parts, is_plain_name, is_plain_value, are_new, are_plain_values}
use Rattle.robinx.proofs.NumberTexts.{number-decimal, decimal-plain}
use Rattle.robinx.proofs.ListTexts.{teams-joined, slots-joined, meetings-pairs, joined-plain, pairs-plain}

abbrev pub made : Bool → ℕ → Class → Constraint
made hard penalty class = record { hard = hard; penalty = penalty; class = class }

hard-read : (hard : Bool) → hardness (codes (type_word hard)) ≡ Ok hard
hard-read true = refl
hard-read false = refl

one_side-read : (side : Side) → is_one_side side ≡ true → home_or_away (codes (side_word side)) ≡ Ok side
one_side-read H one = refl
one_side-read A one = refl
one_side-read Both one = absurd (false≢true one)

side-read : (side : Side) → words.side (codes (side_word side)) ≡ Ok side
side-read H = refl
side-read A = refl
side-read Both = refl

span-read : (span : Span) → words.span (codes (span_word span)) ≡ Ok span
span-read Global = refl
span-read Every = refl

module _ (n : ℕ) (size : n ≤ 40) (hard : Bool) (penalty : ℕ) where
  abbrev Reads : ClassName → Class → Type 0
  Reads name class = IsHeld (made hard penalty class) → class_fits n class ≡ true → constraint_of name n ((constraint_attributes (made hard penalty class))) ≡ Ok (made hard penalty class)

  ca1-read : (i : List ℕ) (min max : ℕ) (side : Side) (s : List ℕ) → Reads names.Ca1 (Ca1 i min max side s)
  ca1-read i min max side s held fits =
      let all = and_parts (are_teams n i && are_slots n s) (is_one_side side) fits in
      let sets = and_parts (are_teams n i) (are_slots n s) all.0 in
      let is_hard = hard-read hard in
      let is_penalty = number-decimal penalty held.0 in
      let is_teams = teams-joined n i size sets.0 in
      let is_min = number-decimal min held.1.0 in
      let is_max = number-decimal max held.1.1 in
      let is_side = one_side-read side all.1 in
      let is_slots = slots-joined n s size sets.1 in
      rw (is_hard, is_penalty, is_teams, is_min, is_max, is_side, is_slots) refl

  ca2-read : (i j : List ℕ) (min max : ℕ) (side : Side) (s : List ℕ) → Reads names.Ca2 (Ca2 i j min max side s)
  ca2-read i j min max side s held fits =
      let all = and_parts (are_teams n i && are_teams n j) (are_slots n s) fits in
      let sets = and_parts (are_teams n i) (are_teams n j) all.0 in
      let is_hard = hard-read hard in
      let is_penalty = number-decimal penalty held.0 in
      let is_first = teams-joined n i size sets.0 in
      let is_second = teams-joined n j size sets.1 in
      let is_min = number-decimal min held.1.0 in
      let is_max = number-decimal max held.1.1 in
      let is_side = side-read side in
      let is_slots = slots-joined n s size all.1 in
      rw (is_hard, is_penalty, is_first, is_second, is_min, is_max, is_side, is_slots) refl

  ca3-read : (i j : List ℕ) (min max intp : ℕ) (side : Side) → Reads names.Ca3 (Ca3 i j min max intp side)
  ca3-read i j min max intp side held fits =
      let all = and_parts (are_teams n i && are_teams n j) (nat_lt 0 intp) fits in
      let sets = and_parts (are_teams n i) (are_teams n j) all.0 in
      let above : nat_lt 0 intp ≡ true = all.1 in
      let is_hard = hard-read hard in
      let is_penalty = number-decimal penalty held.0 in
      let is_first = teams-joined n i size sets.0 in
      let is_second = teams-joined n j size sets.1 in
      let is_min = number-decimal min held.1.0 in
      let is_max = number-decimal max held.1.1 in
      let is_side = side-read side in
      let is_number = number-decimal intp held.1.2 in
      let is_intp : above_zero (decimal intp) ≡ Ok intp = rw (is_number, above) refl in
      rw (is_hard, is_penalty, is_first, is_second, is_min, is_max, is_side, is_intp) refl

  ca4-read : (i j : List ℕ) (min max : ℕ) (side : Side) (span : Span) (s : List ℕ) → Reads names.Ca4 (Ca4 i j min max side span s)
  ca4-read i j min max side span s held fits =
      let all = and_parts (are_teams n i && are_teams n j) (are_slots n s) fits in
      let sets = and_parts (are_teams n i) (are_teams n j) all.0 in
      let is_hard = hard-read hard in
      let is_penalty = number-decimal penalty held.0 in
      let is_first = teams-joined n i size sets.0 in
      let is_second = teams-joined n j size sets.1 in
      let is_min = number-decimal min held.1.0 in
      let is_max = number-decimal max held.1.1 in
      let is_side = side-read side in
      let is_span = span-read span in
      let is_slots = slots-joined n s size all.1 in
      rw (is_hard, is_penalty, is_first, is_second, is_min, is_max, is_side, is_span, is_slots) refl

  ga1-read : (ps : List (ℕ × ℕ)) (min max : ℕ) (s : List ℕ) → Reads names.Ga1 (Ga1 ps min max s)
  ga1-read ps min max s held fits =
      let sets = and_parts (are_meetings n ps) (are_slots n s) fits in
      let is_hard = hard-read hard in
      let is_penalty = number-decimal penalty held.0 in
      let is_meetings = meetings-pairs n ps size sets.0 in
      let is_min = number-decimal min held.1.0 in
      let is_max = number-decimal max held.1.1 in
      let is_slots = slots-joined n s size sets.1 in
      rw (is_hard, is_penalty, is_meetings, is_min, is_max, is_slots) refl

  br1-read : (i : List ℕ) (intp : ℕ) (side : Side) (s : List ℕ) → Reads names.Br1 (Br1 i intp side s)
  br1-read i intp side s held fits =
      let sets = and_parts (are_teams n i) (are_slots n s) fits in
      let is_hard = hard-read hard in
      let is_penalty = number-decimal penalty held.0 in
      let is_teams = teams-joined n i size sets.0 in
      let is_intp = number-decimal intp held.1 in
      let is_side = side-read side in
      let is_slots = slots-joined n s size sets.1 in
      rw (is_hard, is_penalty, is_teams, is_intp, is_side, is_slots) refl

  br2-read : (i : List ℕ) (intp : ℕ) (s : List ℕ) → Reads names.Br2 (Br2 i intp s)
  br2-read i intp s held fits =
      let sets = and_parts (are_teams n i) (are_slots n s) fits in
      let is_hard = hard-read hard in
      let is_penalty = number-decimal penalty held.0 in
      let is_teams = teams-joined n i size sets.0 in
      let is_intp = number-decimal intp held.1 in
      let is_slots = slots-joined n s size sets.1 in
      rw (is_hard, is_penalty, is_teams, is_intp, is_slots) refl

  fa2-read : (i : List ℕ) (intp : ℕ) (s : List ℕ) → Reads names.Fa2 (Fa2 i intp s)
  fa2-read i intp s held fits =
      let sets = and_parts (are_teams n i) (are_slots n s) fits in
      let is_hard = hard-read hard in
      let is_penalty = number-decimal penalty held.0 in
      let is_teams = teams-joined n i size sets.0 in
      let is_intp = number-decimal intp held.1 in
      let is_slots = slots-joined n s size sets.1 in
      rw (is_hard, is_penalty, is_teams, is_intp, is_slots) refl

  se1-read : (i : List ℕ) (min : ℕ) → Reads names.Se1 (Se1 i min)
  se1-read i min held fits =
      let is_hard = hard-read hard in
      let is_penalty = number-decimal penalty held.0 in
      let is_teams = teams-joined n i size fits in
      let is_min = number-decimal min held.1 in
      rw (is_hard, is_penalty, is_teams, is_min) refl

read_by : (n : ℕ) (size : n ≤ 40) (hard : Bool) (penalty : ℕ) (c : Class) → Reads n size hard penalty (name_of c) c
read_by n size hard penalty (Ca1 i min max side s) = ca1-read n size hard penalty i min max side s
read_by n size hard penalty (Ca2 i j min max side s) = ca2-read n size hard penalty i j min max side s
read_by n size hard penalty (Ca3 i j min max intp side) = ca3-read n size hard penalty i j min max intp side
read_by n size hard penalty (Ca4 i j min max side span s) = ca4-read n size hard penalty i j min max side span s
read_by n size hard penalty (Ga1 ps min max s) = ga1-read n size hard penalty ps min max s
read_by n size hard penalty (Br1 i intp side s) = br1-read n size hard penalty i intp side s
read_by n size hard penalty (Br2 i intp s) = br2-read n size hard penalty i intp s
read_by n size hard penalty (Fa2 i intp s) = fa2-read n size hard penalty i intp s
read_by n size hard penalty (Se1 i min) = se1-read n size hard penalty i min

-- the attributes on the line of a constraint that fits are read as this constraint
pub constraint-read : (n : ℕ) (c : Constraint) → n ≤ 40 → IsHeld c → class_fits n c.class ≡ true → constraint_of (name_of c.class) n (constraint_attributes c) ≡ Ok c
constraint-read n c size held fits = read_by n size c.hard c.penalty c.class held fits

-- ---- the line can be written

hard-plain : (hard : Bool) → is_plain_value (codes (type_word hard)) ≡ true
hard-plain true = refl
hard-plain false = refl

side-plain : (side : Side) → is_plain_value (codes (side_word side)) ≡ true
side-plain H = refl
side-plain A = refl
side-plain Both = refl

span-plain : (span : Span) → is_plain_value (codes (span_word span)) ≡ true
span-plain Global = refl
span-plain Every = refl

plain_by : (hard : Bool) (penalty : ℕ) (c : Class) → are_plain_values (constraint_attributes (made hard penalty c)) ≡ true
plain_by hard penalty (Ca1 i min max side s) =
    rw (joined-plain i, decimal-plain min, decimal-plain max, side-plain side, joined-plain s, hard-plain hard, decimal-plain penalty) refl
plain_by hard penalty (Ca2 i j min max side s) =
    rw (joined-plain i, joined-plain j, decimal-plain min, decimal-plain max, side-plain side, joined-plain s, hard-plain hard, decimal-plain penalty) refl
plain_by hard penalty (Ca3 i j min max intp side) =
    rw (joined-plain i, joined-plain j, decimal-plain min, decimal-plain max, side-plain side, decimal-plain intp, hard-plain hard, decimal-plain penalty) refl
plain_by hard penalty (Ca4 i j min max side span s) =
    rw (joined-plain i, joined-plain j, decimal-plain min, decimal-plain max, side-plain side, span-plain span, joined-plain s, hard-plain hard, decimal-plain penalty) refl
plain_by hard penalty (Ga1 ps min max s) =
    rw (pairs-plain ps, decimal-plain min, decimal-plain max, joined-plain s, hard-plain hard, decimal-plain penalty) refl
plain_by hard penalty (Br1 i intp side s) =
    rw (joined-plain i, decimal-plain intp, side-plain side, joined-plain s, hard-plain hard, decimal-plain penalty) refl
plain_by hard penalty (Br2 i intp s) =
    rw (joined-plain i, decimal-plain intp, joined-plain s, hard-plain hard, decimal-plain penalty) refl
plain_by hard penalty (Fa2 i intp s) =
    rw (joined-plain i, decimal-plain intp, joined-plain s, hard-plain hard, decimal-plain penalty) refl
plain_by hard penalty (Se1 i min) =
    rw (joined-plain i, decimal-plain min, hard-plain hard, decimal-plain penalty) refl

pub values-plain : (c : Constraint) → are_plain_values (constraint_attributes c) ≡ true
values-plain c = plain_by c.hard c.penalty c.class

new_by : (hard : Bool) (penalty : ℕ) (c : Class) → are_new [] (constraint_attributes (made hard penalty c)) ≡ true
new_by hard penalty (Ca1 i min max side s) = refl
new_by hard penalty (Ca2 i j min max side s) = refl
new_by hard penalty (Ca3 i j min max intp side) = refl
new_by hard penalty (Ca4 i j min max side span s) = refl
new_by hard penalty (Ga1 ps min max s) = refl
new_by hard penalty (Br1 i intp side s) = refl
new_by hard penalty (Br2 i intp s) = refl
new_by hard penalty (Fa2 i intp s) = refl
new_by hard penalty (Se1 i min) = refl

pub names-new : (c : Constraint) → are_new [] (constraint_attributes c) ≡ true
names-new c = new_by c.hard c.penalty c.class

few_by : (hard : Bool) (penalty : ℕ) (c : Class) → length (constraint_attributes (made hard penalty c)) ≤ 64
few_by hard penalty (Ca1 i min max side s) = omega arith
few_by hard penalty (Ca2 i j min max side s) = omega arith
few_by hard penalty (Ca3 i j min max intp side) = omega arith
few_by hard penalty (Ca4 i j min max side span s) = omega arith
few_by hard penalty (Ga1 ps min max s) = omega arith
few_by hard penalty (Br1 i intp side s) = omega arith
few_by hard penalty (Br2 i intp s) = omega arith
few_by hard penalty (Fa2 i intp s) = omega arith
few_by hard penalty (Se1 i min) = omega arith

pub attributes-few : (c : Constraint) → length (constraint_attributes c) ≤ 64
attributes-few c = few_by c.hard c.penalty c.class

pub class_name-plain : (c : Class) → is_plain_name (codes (name_text (name_of c))) ≡ true
class_name-plain (Ca1 i min max side s) = refl
class_name-plain (Ca2 i j min max side s) = refl
class_name-plain (Ca3 i j min max intp side) = refl
class_name-plain (Ca4 i j min max side span s) = refl
class_name-plain (Ga1 ps min max s) = refl
class_name-plain (Br1 i intp side s) = refl
class_name-plain (Br2 i intp s) = refl
class_name-plain (Fa2 i intp s) = refl
class_name-plain (Se1 i min) = refl
