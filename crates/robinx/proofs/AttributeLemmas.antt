-- Attributes as they lie in memory and as they are seen.
use Rattle.std.proofs.Common.{◌≡◌, ◌≢◌, ℕ, length, zero, suc, ◌+◌, ◌-◌, true, false, List, [], ◌∷◌, ◌++◌, Ok, Err, arith, Option, Some, None, option_map, ◌||◌, cond, ap, add-zero, length-append, refl, sym, ◌∙◌}
use Rattle.std.specs.Prelude.{bytes_eq, Result, IfOk}
use Rattle.robinx.specs.Fronts.{Front, ◌>>=◌}
use Rattle.std.specs.List.{list_any, find}
use Rattle.std.specs.Result.{result_ok}
use Rattle.robinx.specs.Tags.{Attribute, has_name, value_of, name_at, end_at, attribute_at, attribute_by, attributes_at, more_attributes, attributes_behind, tag_attributes, start_tag}
use Rattle.robinx.specs.SeenAttr.{attribute_of, attributes_of}
use Rattle.robinx.specs.declared.attribute.Attr.{Attr}
use Rattle.robinx.specs.declared.tag_fault.FormKind.{FormKind}
use Rattle.robinx.specs.declared.tag_fault.FormKind.TheVariants.{TooManyAttributes}
use Rattle.robinx.specs.declared.tag.TagKind.{TagKind}

pub has_name_in : (name : List ℕ) (attrs : List Attr) → list_any (has_name name) (attributes_of attrs) ≡ list_any (λ a. bytes_eq a.name.now name) attrs
has_name_in name [] = refl
has_name_in name (a ∷ attrs) = ap (λ b. bytes_eq a.name.now name || b) (has_name_in name attrs)

pub value_in : (name : List ℕ) (attrs : List Attr) → value_of name (attributes_of attrs) ≡ option_map (λ a. a.value.now) (find (λ a. bytes_eq a.name.now name) attrs)
value_in name [] = refl
value_in name (a ∷ attrs) =
    elim (bytes_eq a.name.now name) as (λ b. option_map (λ attribute. attribute.value) (cond b (Some (attribute_of a)) (find (has_name name) (attributes_of attrs)))
    ≡ option_map (λ a. a.value.now) (cond b (Some a) (find (λ a. bytes_eq a.name.now name) attrs))) [
      | true ↦ refl
      | false ↦ value_in name attrs
    ]

-- ---- the attributes one by one

pub attributes_at-end : (left : ℕ) (earlier : List Attribute) (rest after : List ℕ) (kind : TagKind) → end_at rest ≡ Ok (Some kind, after)
    → attributes_at left earlier rest ≡ Ok ((kind, earlier), after)
unfolding attributes_at
attributes_at-end zero earlier rest after kind is = rw is refl
attributes_at-end (suc left) earlier rest after kind is = rw is refl

pub attributes_at-fault : (left : ℕ) (earlier : List Attribute) (rest : List ℕ) (kind : FormKind) → end_at rest ≡ Err kind → attributes_at left earlier rest ≡ Err kind
unfolding attributes_at
attributes_at-fault zero earlier rest kind is = rw is refl
attributes_at-fault (suc left) earlier rest kind is = rw is refl

pub attributes_at-too_many : (left : ℕ) (earlier : List Attribute) (rest begin : List ℕ) → left ≡ 0 → end_at rest ≡ Ok (None, begin)
    → attributes_at left earlier rest ≡ Err TooManyAttributes
unfolding attributes_at
attributes_at-too_many zero earlier rest begin none is = rw is refl
attributes_at-too_many (suc left) earlier rest begin none is = absurd (omega arith)

pub attributes_at-bad : (left : ℕ) (earlier : List Attribute) (rest begin : List ℕ) (kind : FormKind) → left ≢ 0 → end_at rest ≡ Ok (None, begin)
    → attribute_at earlier begin ≡ Err kind → attributes_at left earlier rest ≡ Err kind
unfolding attributes_at
attributes_at-bad zero earlier rest begin kind some is bad = absurd (some refl)
attributes_at-bad (suc left) earlier rest begin kind some is bad = rw (is, bad) refl

pub attributes_at-more : (left : ℕ) (earlier : List Attribute) (rest begin after : List ℕ) (attribute : Attribute) → left ≢ 0 → end_at rest ≡ Ok (None, begin)
    → attribute_at earlier begin ≡ Ok (attribute, after) → attributes_at left earlier rest ≡ attributes_at (left - 1) (earlier ++ attribute ∷ []) after
unfolding attributes_at
attributes_at-more zero earlier rest begin after attribute some is good = absurd (some refl)
attributes_at-more (suc left) earlier rest begin after attribute some is good =
    let less : suc left - 1 ≡ left = omega arith in
    rw (is, good, less) refl

-- ---- how many attributes stand before a tag's end or its fault

abbrev behind : ℕ → List Attribute → Option (Attribute × List ℕ) → ℕ
behind left earlier (Some found) = 1 + more_attributes left (earlier ++ found.0 ∷ []) found.1
behind left earlier None = 0

more_attributes-step : (left : ℕ) (earlier : List Attribute) (rest : List ℕ) → more_attributes (suc left) earlier rest ≡ behind left earlier (attribute_by earlier (end_at rest))
unfolding more_attributes
more_attributes-step left earlier rest = refl

pub more_attributes-end : (left : ℕ) (earlier : List Attribute) (rest after : List ℕ) (kind : TagKind) → end_at rest ≡ Ok (Some kind, after) → more_attributes left earlier rest ≡ 0
unfolding more_attributes
more_attributes-end zero earlier rest after kind is = refl
more_attributes-end (suc left) earlier rest after kind is = more_attributes-step left earlier rest ∙ ap (λ (r : Front (Option TagKind)). behind left earlier (attribute_by earlier r)) is

pub more_attributes-more : (left : ℕ) (earlier : List Attribute) (rest begin after : List ℕ) (attribute : Attribute) → left ≢ 0 → end_at rest ≡ Ok (None, begin)
    → attribute_at earlier begin ≡ Ok (attribute, after) → more_attributes left earlier rest ≡ 1 + more_attributes (left - 1) (earlier ++ attribute ∷ []) after
unfolding more_attributes
more_attributes-more zero earlier rest begin after attribute some is good = absurd (some refl)
more_attributes-more (suc left) earlier rest begin after attribute some is good =
    let less : suc left - 1 ≡ left = omega arith in
    more_attributes-step left earlier rest
    ∙ ap (λ (r : Front (Option TagKind)). behind left earlier (attribute_by earlier r)) is
    ∙ ap (λ (r : Front Attribute). behind left earlier (result_ok r)) good
    ∙ ap (λ (n : ℕ). 1 + more_attributes n (earlier ++ attribute ∷ []) after) (sym less)

IfOk-weaker : {A : Type 0} (P Q : A → Type 0) (r : Result A FormKind) → ((x : A) → P x → Q x) → IfOk r P → IfOk r Q
IfOk-weaker P Q (Ok x) weaker h = weaker x h
IfOk-weaker P Q (Err kind) weaker h = tt

-- a tag without a fault has them all
abbrev HasThem : ℕ → List Attribute → List ℕ → Type 0
HasThem left earlier rest = IfOk (attributes_at left earlier rest) (λ tag. length earlier + more_attributes left earlier rest ≡ length tag.0.1)

has_by : (left : ℕ) (earlier : List Attribute) (rest : List ℕ) (end : Front (Option TagKind)) → end_at rest ≡ end → HasThem left earlier rest
has_by left earlier rest (Ok (Some kind, after)) is =
    rw (attributes_at-end left earlier rest after kind is, more_attributes-end left earlier rest after kind is) (add-zero (length earlier))
has_by left earlier rest (Err kind) is = rw (attributes_at-fault left earlier rest kind is) tt
has_by zero earlier rest (Ok (None, begin)) is = rw (attributes_at-too_many zero earlier rest begin refl is) tt
has_by (suc left) earlier rest (Ok (None, begin)) is =
    let some : suc left ≢ 0 = λ none. absurd (omega arith) in
    let less : suc left - 1 ≡ left = omega arith in
    elim (attribute_at earlier begin) as (λ r. attribute_at earlier begin ≡ r → HasThem (suc left) earlier rest) [
      | Ok found ↦ λ good. rw (attributes_at-more (suc left) earlier rest begin found.1 found.0 some is good, more_attributes-more (suc left) earlier rest begin found.1 found.0 some is good, less)
          (IfOk-weaker (λ tag. length (earlier ++ found.0 ∷ []) + more_attributes left (earlier ++ found.0 ∷ []) found.1 ≡ length tag.0.1)
          (λ tag. length earlier + (1 + more_attributes left (earlier ++ found.0 ∷ []) found.1) ≡ length tag.0.1) (attributes_at left (earlier ++ found.0 ∷ []) found.1)
          (λ tag e. omega (arith, length-append earlier (found.0 ∷ []), e))
          (has_by left (earlier ++ found.0 ∷ []) found.1 (end_at found.1) refl))
      | Err kind ↦ λ bad. rw (attributes_at-bad (suc left) earlier rest begin kind some is bad) tt
    ] refl

all_attributes : (bytes : List ℕ) → IfOk (attributes_at 64 [] bytes) (λ tag. more_attributes 64 [] bytes ≡ length tag.0.1)
all_attributes bytes =
    IfOk-weaker (λ tag. 0 + more_attributes 64 [] bytes ≡ length tag.0.1) (λ tag. more_attributes 64 [] bytes ≡ length tag.0.1) (attributes_at 64 [] bytes)
    (λ tag e. omega (arith, e)) (has_by 64 [] bytes (end_at bytes) refl)

abbrev with_name : List ℕ → (TagKind × List Attribute) × List ℕ → Front (TagKind × List ℕ × List Attribute)
with_name name ending = Ok ((ending.0.0, name, ending.0.1), ending.1)

ending_by : (name : List ℕ) (count : ℕ) (ending : Front (TagKind × List Attribute)) → IfOk ending (λ tag. count ≡ length tag.0.1)
    → IfOk (ending >>= with_name name) (λ tag. count ≡ length tag.0.2)
ending_by name count (Ok e) h = h
ending_by name count (Err kind) h = tt

tag_by : (name : Front (List ℕ)) → IfOk (name >>= λ n. attributes_at 64 [] n.1 >>= with_name n.0) (λ tag. attributes_behind name ≡ length tag.0.2)
tag_by (Ok (name, bytes)) = ending_by name (more_attributes 64 [] bytes) (attributes_at 64 [] bytes) (all_attributes bytes)
tag_by (Err kind) = tt

pub tag_attributes-all : (bytes : List ℕ) → IfOk (start_tag bytes) (λ tag. tag_attributes bytes ≡ length tag.0.2)
tag_attributes-all bytes = tag_by (name_at bytes)
