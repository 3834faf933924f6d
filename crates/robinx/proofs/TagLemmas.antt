-- Tags at the front of bytes, as they are read.
use Rattle.std.proofs.Common.{◌≡◌, ℕ, zero, suc, ◌≤◌, Bool, true, false, not, ◌&&◌, ◌||◌, ◌==◌, List, [], ◌∷◌, ◌++◌, length, Some, None, Ok, refl, sym, ap, ◌∙◌, append_assoc, arith}
use Rattle.std.specs.List.{list_all, list_any, position_or_len, flat_map}
use Rattle.std.proofs.lemmas.Bool.{false≢true, not-true}
use Rattle.std.proofs.lemmas.List.{take_at, drop_at, append-nil}
use Rattle.league.proofs.AscendingLemmas.{first_true, second_true}
use Rattle.robinx.specs.Bytes.{is_white, is_name_byte, is_name_start}
use Rattle.robinx.specs.Fronts.{until}
use Rattle.robinx.specs.Tags.{name_at, value_to, has_name, attribute_at, end_at, attributes_at, start_tag}
use Rattle.robinx.specs.declared.tag.TagKind.{TagKind}
use Rattle.robinx.specs.Tags.{Attribute}
use Rattle.robinx.specs.Attributes.{attribute_text}

-- both parts of a test that passes
pub and_parts : (a b : Bool) → (a && b) ≡ true → (a ≡ true) × (b ≡ true)
and_parts a b h = (first_true a b h, second_true a b h)

-- ---- up to the first byte that passes

pub position-stop : (test : ℕ → Bool) (xs : List ℕ) (c : ℕ) (tail : List ℕ) → list_all (λ b. not (test b)) xs ≡ true → test c ≡ true → position_or_len test (xs ++ c ∷ tail) ≡ length xs
position-stop test [] c tail fail is = rw is refl
position-stop test (x ∷ xs) c tail fail is =
    let both = and_parts (not (test x)) (list_all (λ b. not (test b)) xs) fail in
    let here : not (test x) ≡ true = both.0 in
    let later : position_or_len test (xs ++ c ∷ tail) ≡ length xs = position-stop test xs c tail both.1 is in
    rw (here, later) (omega arith)

pub until-stop : (test : ℕ → Bool) (xs : List ℕ) (c : ℕ) (tail : List ℕ) → list_all (λ b. not (test b)) xs ≡ true → test c ≡ true → until test (xs ++ c ∷ tail) ≡ (xs, c ∷ tail)
until-stop test xs c tail fail is =
    let len = position-stop test xs c tail fail is in
    rw (len, take_at xs (c ∷ tail) (length xs) refl, drop_at xs (c ∷ tail) (length xs) refl) refl

-- ---- names and values

-- whether these bytes are a name that robin writes: it ends no tag, and begins no comment, declaration or end tag
abbrev pub is_plain_start : ℕ → Bool
is_plain_start b = is_name_start b && (not (is_white b) && (not (b == 62) && (not (b == 47) && (not (47 == b) && (not (33 == b) && not (63 == b))))))

abbrev pub is_plain_name : List ℕ → Bool
is_plain_name [] = false
is_plain_name (b ∷ name) = is_plain_start b && list_all (λ c. not (not (is_name_byte c))) (b ∷ name)

-- whether a value holds no quote and begins no tag
abbrev pub is_plain_value : List ℕ → Bool
is_plain_value value = list_all (λ b. not (b == 34 || b == 60)) value

pub name_at-plain : (name : List ℕ) (c : ℕ) (tail : List ℕ) → is_plain_name name ≡ true → is_name_byte c ≡ false → name_at (name ++ c ∷ tail) ≡ Ok (name, c ∷ tail)
name_at-plain [] c tail plain ends = absurd (false≢true plain)
name_at-plain (b ∷ name) c tail plain ends =
    let both = and_parts (is_plain_start b) (list_all (λ c. not (not (is_name_byte c))) (b ∷ name)) plain in
    let start : is_name_start b ≡ true = (and_parts (is_name_start b) _ both.0).0 in
    let stop : not (is_name_byte c) ≡ true = ap not ends in
    let whole : until (λ x. not (is_name_byte x)) ((b ∷ name) ++ c ∷ tail) ≡ (b ∷ name, c ∷ tail) = until-stop (λ x. not (is_name_byte x)) (b ∷ name) c tail both.1 stop in
    rw start (ap Ok whole)

pub value_to-plain : (value tail : List ℕ) → is_plain_value value ≡ true → value_to 34 (value ++ 34 ∷ tail) ≡ Ok (value, tail)
value_to-plain value tail plain =
    let len : position_or_len (λ b. b == 34 || b == 60) (value ++ 34 ∷ tail) ≡ length value = position-stop (λ b. b == 34 || b == 60) value 34 tail plain refl in
    rw (len, take_at value (34 ∷ tail) (length value) refl, drop_at value (34 ∷ tail) (length value) refl) refl

-- ---- attributes

-- the text of an attribute with what follows it
pub attribute_parts : (a : Attribute) (tail : List ℕ) → attribute_text a ++ tail ≡ 32 ∷ (a.name ++ (61 ∷ 34 ∷ (a.value ++ (34 ∷ tail))))
attribute_parts a tail = simp append_assoc

-- whether an attribute can be written behind others
abbrev pub is_new : List Attribute → Attribute → Bool
is_new earlier a = is_plain_name a.name && not (list_any (has_name a.name) earlier)

pub attribute_at-plain : (earlier : List Attribute) (a : Attribute) (tail : List ℕ) → is_plain_name a.name ≡ true → not (list_any (has_name a.name) earlier) ≡ true → is_plain_value a.value ≡ true
    → attribute_at earlier (a.name ++ (61 ∷ 34 ∷ (a.value ++ (34 ∷ tail)))) ≡ Ok (a, tail)
attribute_at-plain earlier a tail plain new value =
    let named = name_at-plain a.name 61 (34 ∷ (a.value ++ (34 ∷ tail))) plain refl in
    let valued = value_to-plain a.value tail value in
    rw (named, valued, new) refl

-- ---- where an attribute begins, or a tag ends

-- what is known of the first byte of a name
pub record IsPlainStart (b : ℕ) : Type 0 where
  pub start : is_name_start b ≡ true
  pub ink : is_white b ≡ false
  pub close : (b == 62) ≡ false
  pub slash : (b == 47) ≡ false
  pub end : (47 == b) ≡ false
  pub bang : (33 == b) ≡ false
  pub question : (63 == b) ≡ false

pub plain_start : (b : ℕ) (name : List ℕ) → is_plain_name (b ∷ name) ≡ true → IsPlainStart b
plain_start b name plain =
    let parts = and_parts (is_plain_start b) _ plain in
    let start = and_parts (is_name_start b) _ parts.0 in
    let ink = and_parts (not (is_white b)) _ start.1 in
    let close = and_parts (not (b == 62)) _ ink.1 in
    let slash = and_parts (not (b == 47)) _ close.1 in
    let end = and_parts (not (47 == b)) _ slash.1 in
    let bang = and_parts (not (33 == b)) _ end.1 in
    record {
      start = start.0;
      ink = not-true (is_white b) ink.0;
      close = not-true (b == 62) close.0;
      slash = not-true (b == 47) slash.0;
      end = not-true (47 == b) end.0;
      bang = not-true (33 == b) bang.0;
      question = not-true (63 == b) bang.1;
    }

end_at-begins : (name : List ℕ) (tail : List ℕ) → is_plain_name name ≡ true → end_at (32 ∷ (name ++ tail)) ≡ Ok (None, name ++ tail)
end_at-begins [] tail plain = absurd (false≢true plain)
end_at-begins (b ∷ name) tail plain =
    let first = plain_start b name plain in
    let ink : is_white b ≡ false = first.ink in
    let close : (b == 62) ≡ false = first.close in
    let slash : (b == 47) ≡ false = first.slash in
    let start : is_name_start b ≡ true = first.start in
    rw (ink, close, slash, start) refl

-- ---- all attributes of a tag

-- whether these attributes can be written behind others
abbrev pub are_new : List Attribute → List Attribute → Bool
are_new earlier [] = true
are_new earlier (a ∷ attributes) = is_plain_name a.name && (not (list_any (has_name a.name) earlier) && are_new (earlier ++ a ∷ []) attributes)

-- whether none of their values ends too early
abbrev pub are_plain_values : List Attribute → Bool
are_plain_values [] = true
are_plain_values (a ∷ attributes) = is_plain_value a.value && are_plain_values attributes

attributes_at-more : (left : ℕ) (earlier : List Attribute) (rest begin after : List ℕ) (attribute : Attribute) → end_at rest ≡ Ok (None, begin)
    → attribute_at earlier begin ≡ Ok (attribute, after) → attributes_at (suc left) earlier rest ≡ attributes_at left (earlier ++ attribute ∷ []) after
unfolding attributes_at
attributes_at-more left earlier rest begin after attribute is good = rw (is, good) refl

attributes_at-end : (left : ℕ) (earlier : List Attribute) (rest after : List ℕ) (kind : TagKind) → end_at rest ≡ Ok (Some kind, after)
    → attributes_at left earlier rest ≡ Ok ((kind, earlier), after)
unfolding attributes_at
attributes_at-end zero earlier rest after kind is = rw is refl
attributes_at-end (suc left) earlier rest after kind is = rw is refl

-- the attributes of a tag that ends so are read one by one
pub attributes_at-plain : (left : ℕ) (earlier : List Attribute) (attributes : List Attribute) (end tail : List ℕ) (kind : TagKind) → length attributes ≤ left
    → are_new earlier attributes ≡ true → are_plain_values attributes ≡ true → end_at end ≡ Ok (Some kind, tail)
    → attributes_at left earlier (flat_map attribute_text attributes ++ end) ≡ Ok ((kind, earlier ++ attributes), tail)
attributes_at-plain left earlier [] end tail kind few new plain ends =
    attributes_at-end left earlier end tail kind ends ∙ ap (λ (l : List Attribute). Ok ((kind, l), tail)) (sym (append-nil earlier))
attributes_at-plain zero earlier (a ∷ attributes) end tail kind few new plain ends = absurd (omega arith)
attributes_at-plain (suc left) earlier (a ∷ attributes) end tail kind few new plain ends =
    let named = and_parts (is_plain_name a.name) _ new in
    let fresh = and_parts (not (list_any (has_name a.name) earlier)) _ named.1 in
    let valued = and_parts (is_plain_value a.value) _ plain in
    let others : List ℕ = flat_map attribute_text attributes ++ end in
    let rest : List ℕ = 61 ∷ 34 ∷ (a.value ++ (34 ∷ others)) in
    ap (attributes_at (suc left) earlier) (append_assoc (attribute_text a) (flat_map attribute_text attributes) end ∙ attribute_parts a others)
    ∙ attributes_at-more left earlier (32 ∷ (a.name ++ rest)) (a.name ++ rest) others (a) (end_at-begins a.name rest named.0) (attribute_at-plain earlier a others named.0 fresh.0 valued.0)
    ∙ attributes_at-plain left (earlier ++ a ∷ []) attributes end tail kind (omega arith) fresh.1 valued.1 ends
    ∙ ap (λ (l : List Attribute). Ok ((kind, l), tail)) (append_assoc earlier (a ∷ []) attributes)

-- ---- whole tags

name_ends-attribute : (attributes : List Attribute) (end : List ℕ) → (c : ℕ) (tail : List ℕ) → end ≡ c ∷ tail → is_name_byte c ≡ false
    → (d : ℕ) × (rest : List ℕ) × ((flat_map attribute_text attributes ++ end ≡ d ∷ rest) × (is_name_byte d ≡ false))
name_ends-attribute [] end c tail is ends = (c, tail, (is, ends))
name_ends-attribute (a ∷ attributes) end c tail is ends = (
  32,
  a.name ++ (61 ∷ 34 ∷ (a.value ++ (34 ∷ (flat_map attribute_text attributes ++ end)))),
  (append_assoc (attribute_text a) (flat_map attribute_text attributes) end ∙ attribute_parts a (flat_map attribute_text attributes ++ end), refl),
)

pub start_tag-plain : (name : List ℕ) (attributes : List Attribute) (c : ℕ) (end tail : List ℕ) (kind : TagKind) → is_plain_name name ≡ true → length attributes ≤ 64
    → are_new [] attributes ≡ true → are_plain_values attributes ≡ true → is_name_byte c ≡ false → end_at (c ∷ end) ≡ Ok (Some kind, tail)
    → start_tag (name ++ (flat_map attribute_text attributes ++ c ∷ end)) ≡ Ok ((kind, name, attributes), tail)
start_tag-plain name attributes c end tail kind plain few new values stops ends =
    let next = name_ends-attribute attributes (c ∷ end) c end refl stops in
    let named : name_at (name ++ (flat_map attribute_text attributes ++ c ∷ end)) ≡ Ok (name, flat_map attribute_text attributes ++ c ∷ end) =
    ap (λ (l : List ℕ). name_at (name ++ l)) next.2.0 ∙ name_at-plain name next.0 next.1 plain next.2.1 ∙ ap (λ (l : List ℕ). Ok (name, l)) (sym next.2.0) in
    let all = attributes_at-plain 64 [] attributes (c ∷ end) tail kind few new values ends in
    rw (named, all) refl
