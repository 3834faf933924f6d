-- Worked examples, so that a wrong definition of the pieces does not check.
use Rattle.std.proofs.Common.{◌≡◌, ℕ, ◌+◌, ◌/◌, ◌%◌, Bool, true, false, List, [], ◌∷◌, ◌++◌, Some, None, map, take, refl, arith}
use Rattle.std.specs.List.{flat_map, list_all, range_with_len}
use Rattle.std.specs.Prelude.{codes, ◌==◌}
use Rattle.robinx.specs.Tags.{Attribute, attributes_at, more_attributes, tag_attributes, value_of}
use Rattle.robinx.specs.Next.{TakesMemory}
use Rattle.robinx.specs.Pieces.{Piece, Pieces, Last, none_but, fault_after, onto, Ends, Faulty, pieces, pieces_from}
use Rattle.robinx.specs.declared.tag_fault.FormKind.TheVariants.{BadTag, BadAttribute, RepeatedAttribute, TooManyAttributes, Truncated}
use Rattle.robinx.specs.declared.tag.TagKind.{TagKind}
use Rattle.robinx.specs.declared.tag.TagKind.TheVariants.{Start, End, Empty, Text}

abbrev tag : TagKind → List ℕ → List Attribute → ℕ → Piece
tag kind name attributes line = record { kind = kind; name = name; attributes = attributes; text = []; line = line }

abbrev text : List ℕ → ℕ → Piece
text bytes line = record { kind = Text; name = []; attributes = []; text = bytes; line = line }

abbrev is_truncated : Last → ℕ → Bool
is_truncated (Faulty Truncated line) at = line == at
is_truncated last at = false

abbrev is_cut : ℕ → Pieces → Bool
is_cut at pieces = is_truncated pieces.last at

abbrev attribute : List ℕ → List ℕ → Attribute
attribute name value = record { name = name; value = value }

pub pieces-empty : pieces [] ≡ none_but (Ends 1)
unfolding attributes_at more_attributes pieces_from
pieces-empty = refl

-- a byte order mark is passed over
pub pieces-mark : pieces (239 ∷ 187 ∷ 191 ∷ codes "<a/>") ≡ onto (tag Empty (codes "a") [] 1) (none_but (Ends 1))
unfolding attributes_at more_attributes pieces_from
pieces-mark = refl

-- a comment ends at the first end that begins after its own four bytes
pub pieces-comment : pieces (codes "<!-->-->x") ≡ onto (text (codes "x") 1) (none_but (Ends 1))
unfolding attributes_at more_attributes pieces_from
pieces-comment = refl

pub pieces-comment_open : pieces (codes "\n<!-->") ≡ onto (text (codes "\n") 1) (none_but (Faulty Truncated 2))
unfolding attributes_at more_attributes pieces_from
pieces-comment_open = refl

pub pieces-reserved : pieces (codes "<!-") ≡ none_but (Faulty BadTag 1)
unfolding attributes_at more_attributes pieces_from
pieces-reserved = refl

pub pieces-doctype : pieces (codes "<!DOCTYPE") ≡ none_but (Faulty BadTag 1)
unfolding attributes_at more_attributes pieces_from
pieces-doctype = refl

pub pieces-declaration : pieces (codes "<?a?><?>") ≡ none_but (Faulty Truncated 1)
unfolding attributes_at more_attributes pieces_from
pieces-declaration = refl

-- a tag over two lines counts on its first
pub pieces-lines : pieces (codes "<a\n b = '1\n'></a\n>\n") ≡ onto (tag Start (codes "a") (attribute (codes "b") (codes "1\n") ∷ []) 1) (onto (tag End (codes "a") [] 3) (onto (text (codes "\n") 4) (none_but (Ends 5))))
unfolding attributes_at more_attributes pieces_from
pieces-lines = refl

-- an attribute wants white bytes before it
pub pieces-no_white : pieces (codes "<a b=\"1\"c=\"2\">") ≡ fault_after 1 BadTag 1
unfolding attributes_at more_attributes pieces_from
pieces-no_white = refl

pub pieces-repeated : pieces (codes "<a b='1' b='2'") ≡ fault_after 1 RepeatedAttribute 1
unfolding attributes_at more_attributes pieces_from
pieces-repeated = refl

-- the quote has to close first
pub pieces-repeated_open : pieces (codes "<a b='1' b='2") ≡ fault_after 1 Truncated 1
unfolding attributes_at more_attributes pieces_from
pieces-repeated_open = refl

pub pieces-less_in_value : pieces (codes "<a b='<'>") ≡ none_but (Faulty BadAttribute 1)
unfolding attributes_at more_attributes pieces_from
pieces-less_in_value = refl

pub pieces-no_equals : pieces (codes "<a b>") ≡ none_but (Faulty BadAttribute 1)
unfolding attributes_at more_attributes pieces_from
pieces-no_equals = refl

pub pieces-cut : pieces (codes "<a b") ≡ none_but (Faulty Truncated 1)
unfolding attributes_at more_attributes pieces_from
pieces-cut = refl

pub pieces-slash : pieces (codes "<a/ >") ≡ none_but (Faulty BadTag 1)
unfolding attributes_at more_attributes pieces_from
pieces-slash = refl

pub pieces-digit : pieces (codes "</1>") ≡ none_but (Faulty BadTag 1)
unfolding attributes_at more_attributes pieces_from
pieces-digit = refl

pub pieces-comment_closed : pieces (codes "<!-- -->") ≡ none_but (Ends 1)
unfolding attributes_at more_attributes pieces_from
pieces-comment_closed = refl

pub pieces-declaration_closed : pieces (codes "<?x?>") ≡ none_but (Ends 1)
unfolding attributes_at more_attributes pieces_from
pieces-declaration_closed = refl

pub pieces-reserved_end : pieces (codes "<!") ≡ none_but (Faulty BadTag 1)
unfolding attributes_at more_attributes pieces_from
pieces-reserved_end = refl

pub pieces-comment_cut : pieces (codes "<!--") ≡ none_but (Faulty Truncated 1)
unfolding attributes_at more_attributes pieces_from
pieces-comment_cut = refl

pub pieces-declaration_cut : pieces (codes "<?") ≡ none_but (Faulty Truncated 1)
unfolding attributes_at more_attributes pieces_from
pieces-declaration_cut = refl

pub pieces-less_end : pieces (codes "<") ≡ none_but (Faulty Truncated 1)
unfolding attributes_at more_attributes pieces_from
pieces-less_end = refl

-- white bytes may stand behind an end tag's name, not before it
pub pieces-end_space : pieces (codes "</ a>") ≡ none_but (Faulty BadTag 1)
unfolding attributes_at more_attributes pieces_from
pieces-end_space = refl

pub pieces-end_attribute : pieces (codes "</a b>") ≡ none_but (Faulty BadTag 1)
unfolding attributes_at more_attributes pieces_from
pieces-end_attribute = refl

pub pieces-end : pieces (codes "</a\t >") ≡ onto (tag End (codes "a") [] 1) (none_but (Ends 1))
unfolding attributes_at more_attributes pieces_from
pieces-end = refl

pub pieces-quotes : pieces (codes "<a b = \"1\" c='2'/>") ≡ onto (tag Empty (codes "a") (attribute (codes "b") (codes "1") ∷ attribute (codes "c") (codes "2") ∷ []) 1) (none_but (Ends 1))
unfolding attributes_at more_attributes pieces_from
pieces-quotes = refl

pub pieces-no_quote : pieces (codes "<a b=1>") ≡ none_but (Faulty BadAttribute 1)
unfolding attributes_at more_attributes pieces_from
pieces-no_quote = refl

-- the other quote is a byte of the value
pub pieces-other_quote : pieces (codes "<a b='\"'>") ≡ onto (tag Start (codes "a") (attribute (codes "b") (codes "\"") ∷ []) 1) (none_but (Ends 1))
unfolding attributes_at more_attributes pieces_from
pieces-other_quote = refl

-- an ampersand is a byte like others
pub pieces-ampersand : pieces (codes "&amp;<a b='&'/>") ≡ onto (text (codes "&amp;") 1) (onto (tag Empty (codes "a") (attribute (codes "b") (codes "&") ∷ []) 1) (none_but (Ends 1)))
unfolding attributes_at more_attributes pieces_from
pieces-ampersand = refl

-- bytes from 128 up are name bytes and name starts
pub pieces-high : pieces (60 ∷ 195 ∷ 164 ∷ codes "/>") ≡ onto (tag Empty (195 ∷ 164 ∷ []) [] 1) (none_but (Ends 1))
unfolding attributes_at more_attributes pieces_from
pieces-high = refl

-- a comment's lines count
pub pieces-comment_lines : pieces (codes "<!--\n\n--><a/>") ≡ onto (tag Empty (codes "a") [] 3) (none_but (Ends 3))
unfolding attributes_at more_attributes pieces_from
pieces-comment_lines = refl

-- a fault stands on the line of the tag's first byte
pub pieces-fault_line : pieces (codes "\n\n<a\n b\n/>") ≡ onto (text (codes "\n\n") 1) (none_but (Faulty BadAttribute 3))
unfolding attributes_at more_attributes pieces_from
pieces-fault_line = refl

-- a name of two letters for each number below 100
abbrev name_of : ℕ → List ℕ
name_of n = (97 + n / 10) ∷ (97 + n % 10) ∷ []

-- `a` with so many attributes after it
abbrev many : ℕ → List ℕ
many n = codes "<a" ++ flat_map (λ k. codes " " ++ name_of k ++ codes "=\"\"") (range_with_len 0 n) ++ codes "/>"

pub pieces-64 : pieces (many 64) ≡ onto (tag Empty (codes "a") (map (λ k. attribute (name_of k) []) (range_with_len 0 64)) 1) (none_but (Ends 1))
unfolding attributes_at more_attributes pieces_from
pieces-64 = refl

pub pieces-65 : pieces (many 65) ≡ fault_after 64 TooManyAttributes 1
unfolding attributes_at more_attributes pieces_from
pieces-65 = refl

-- the 65th begins before its own faults
pub pieces-65_faulty : pieces (codes "<a" ++ flat_map (λ k. codes " " ++ name_of k ++ codes "=\"\"") (range_with_len 0 64) ++ codes " b>") ≡ fault_after 64 TooManyAttributes 1
unfolding attributes_at more_attributes pieces_from
pieces-65_faulty = refl

-- memory is wanted from the ninth attribute on, in a tag and before a fault, and only by what comes next
pub takes-9 : TakesMemory (pieces (many 9))
unfolding attributes_at more_attributes pieces_from
takes-9 = omega arith

pub takes-8 : TakesMemory (pieces (many 8)) → ⊥
unfolding attributes_at more_attributes pieces_from
takes-8 = λ takes. absurd (omega (arith, takes))

pub takes-later : TakesMemory (pieces (codes "x" ++ many 9)) → ⊥
unfolding attributes_at more_attributes pieces_from
takes-later = λ takes. absurd (omega (arith, takes))

-- `a` with so many attributes before one without a value
abbrev many_faulty : ℕ → List ℕ
many_faulty n = codes "<a" ++ flat_map (λ k. codes " " ++ name_of k ++ codes "=\"\"") (range_with_len 0 n) ++ codes " b>"

pub takes-faulty_9 : TakesMemory (pieces (many_faulty 9))
unfolding attributes_at more_attributes pieces_from
takes-faulty_9 = omega arith

pub takes-faulty_8 : TakesMemory (pieces (many_faulty 8)) → ⊥
unfolding attributes_at more_attributes pieces_from
takes-faulty_8 = λ takes. absurd (omega (arith, takes))

-- an end tag, a comment that isn't closed, and the file's end want none
pub takes-end : TakesMemory (pieces (codes "</a b>")) → ⊥
unfolding attributes_at more_attributes pieces_from
takes-end = λ takes. absurd (omega (arith, takes))

pub takes-comment : TakesMemory (pieces (codes "<!-- ")) → ⊥
unfolding attributes_at more_attributes pieces_from
takes-comment = λ takes. absurd (omega (arith, takes))

pub takes-nothing : TakesMemory (pieces []) → ⊥
unfolding attributes_at more_attributes pieces_from
takes-nothing = λ takes. absurd (omega (arith, takes))

-- a tag that is cut at any byte is cut on the line of its first
pub pieces-cut_anywhere : list_all (λ k. is_cut 2 (pieces (take k (codes "\n<a b = '1'\n c=\"\" />")))) (range_with_len 2 18) ≡ true
unfolding attributes_at more_attributes pieces_from
pieces-cut_anywhere = refl

pub pieces-comment_cut_anywhere : list_all (λ k. is_cut 1 (pieces (take k (codes "<!-- -->")))) (range_with_len 4 4) ≡ true
unfolding attributes_at more_attributes pieces_from
pieces-comment_cut_anywhere = refl

-- only one byte order mark is passed over: a second is text
pub pieces-two_marks : pieces (239 ∷ 187 ∷ 191 ∷ 239 ∷ 187 ∷ 191 ∷ codes "<a/>") ≡ onto (text (239 ∷ 187 ∷ 191 ∷ []) 1) (onto (tag Empty (codes "a") [] 1) (none_but (Ends 1)))
unfolding attributes_at more_attributes pieces_from
pieces-two_marks = refl

-- two of its three bytes are no mark
pub pieces-half_mark : pieces (239 ∷ 187 ∷ codes "<a/>") ≡ onto (text (239 ∷ 187 ∷ []) 1) (onto (tag Empty (codes "a") [] 1) (none_but (Ends 1)))
unfolding attributes_at more_attributes pieces_from
pieces-half_mark = refl

-- the end may begin right behind the comment's own four bytes
pub pieces-comment_empty : pieces (codes "<!---->x") ≡ onto (text (codes "x") 1) (none_but (Ends 1))
unfolding attributes_at more_attributes pieces_from
pieces-comment_empty = refl

-- three hyphens: the third and the `>` are no end, since `-->` has two hyphens of its own
pub pieces-comment_three : pieces (codes "<!--->x-->y") ≡ onto (text (codes "y") 1) (none_but (Ends 1))
unfolding attributes_at more_attributes pieces_from
pieces-comment_three = refl

-- tags within a comment are passed over with it, and its first end counts
pub pieces-comment_tags : pieces (codes "<!--<1>--><a/>-->") ≡ onto (tag Empty (codes "a") [] 1) (onto (text (codes "-->") 1) (none_but (Ends 1)))
unfolding attributes_at more_attributes pieces_from
pieces-comment_tags = refl

-- behind `<?` the next two bytes `?>` end it; a `>` alone does not
pub pieces-declaration_empty : pieces (codes "<??>x") ≡ onto (text (codes "x") 1) (none_but (Ends 1))
unfolding attributes_at more_attributes pieces_from
pieces-declaration_empty = refl

pub pieces-declaration_greater : pieces (codes "<?>x?>y") ≡ onto (text (codes "y") 1) (none_but (Ends 1))
unfolding attributes_at more_attributes pieces_from
pieces-declaration_greater = refl

-- an open comment counts on the line of its `<`, whatever lines it has
pub pieces-comment_line : pieces (codes "a\n<!--\n\n") ≡ onto (text (codes "a\n") 1) (none_but (Faulty Truncated 2))
unfolding attributes_at more_attributes pieces_from
pieces-comment_line = refl

pub pieces-cdata : pieces (codes "<![CDATA[x]]>") ≡ none_but (Faulty BadTag 1)
unfolding attributes_at more_attributes pieces_from
pieces-cdata = refl

-- LF alone ends a line: two CR end none, CR and LF one
pub pieces-returns : pieces (13 ∷ 13 ∷ codes "<a/>") ≡ onto (text (13 ∷ 13 ∷ []) 1) (onto (tag Empty (codes "a") [] 1) (none_but (Ends 1)))
unfolding attributes_at more_attributes pieces_from
pieces-returns = refl

pub pieces-return_and_feed : pieces (13 ∷ 10 ∷ codes "<a/>") ≡ onto (text (13 ∷ 10 ∷ []) 1) (onto (tag Empty (codes "a") [] 2) (none_but (Ends 2)))
unfolding attributes_at more_attributes pieces_from
pieces-return_and_feed = refl

-- the bytes 11 and 12 lie between LF and CR, and aren't white
pub pieces-tab_down : pieces (codes "<a" ++ 11 ∷ codes "/>") ≡ none_but (Faulty BadTag 1)
unfolding attributes_at more_attributes pieces_from
pieces-tab_down = refl

-- 127 is no name byte, 128 is one and may begin a name
pub pieces-127 : pieces (codes "<a" ++ 127 ∷ codes "/>") ≡ none_but (Faulty BadTag 1)
unfolding attributes_at more_attributes pieces_from
pieces-127 = refl

pub pieces-128 : pieces (60 ∷ 128 ∷ codes "/>") ≡ onto (tag Empty (128 ∷ []) [] 1) (none_but (Ends 1))
unfolding attributes_at more_attributes pieces_from
pieces-128 = refl

-- a colon may stand in a name, not before it; an underscore may
pub pieces-colon : pieces (codes "<_:/><:a/>") ≡ onto (tag Empty (codes "_:") [] 1) (none_but (Faulty BadTag 1))
unfolding attributes_at more_attributes pieces_from
pieces-colon = refl

-- names are compared byte by byte: `b` and `B`, `b` and `bb` differ
pub pieces-other_names : pieces (codes "<a b='1' B='2' bb='3'>") ≡ onto (tag Start (codes "a") (attribute (codes "b") (codes "1") ∷ attribute (codes "B") (codes "2") ∷ attribute (codes "bb") (codes "3") ∷ []) 1) (none_but (Ends 1))
unfolding attributes_at more_attributes pieces_from
pieces-other_names = refl

-- `>` and `/` are bytes of a value like others, and a value may be empty
pub pieces-in_value : pieces (codes "<a b='/>' c=\"\"/>") ≡ onto (tag Empty (codes "a") (attribute (codes "b") (codes "/>") ∷ attribute (codes "c") [] ∷ []) 1) (none_but (Ends 1))
unfolding attributes_at more_attributes pieces_from
pieces-in_value = refl

-- from left to right: `c` without white bytes before it is a fault before the file's end is one, and a `<` before a
-- name that was had
pub pieces-no_white_cut : pieces (codes "<a b='1'c") ≡ fault_after 1 BadTag 1
unfolding attributes_at more_attributes pieces_from
pieces-no_white_cut = refl

pub pieces-repeated_less : pieces (codes "<a b='1' b='<") ≡ fault_after 1 BadAttribute 1
unfolding attributes_at more_attributes pieces_from
pieces-repeated_less = refl

-- whole attributes count up to the tag's end, or up to its fault: `c` is none, nor is the second `b`
pub tag_attributes-two : tag_attributes (codes "a b='1' c=\"\"/>") ≡ 2
unfolding more_attributes
tag_attributes-two = refl

pub tag_attributes-cut : tag_attributes (codes "a b='1' c='") ≡ 1
unfolding more_attributes
tag_attributes-cut = refl

pub tag_attributes-repeated : tag_attributes (codes "a b='1' b='2' c='3'>") ≡ 1
unfolding more_attributes
tag_attributes-repeated = refl

pub tag_attributes-no_name : tag_attributes (codes "1 b='1'>") ≡ 0
unfolding more_attributes
tag_attributes-no_name = refl

-- a `/` behind the 64th attribute begins no 65th
pub pieces-64_slash : pieces (codes "<a" ++ flat_map (λ k. codes " " ++ name_of k ++ codes "=\"\"") (range_with_len 0 64) ++ codes " / >") ≡ fault_after 64 BadTag 1
unfolding attributes_at more_attributes pieces_from
pieces-64_slash = refl

-- the first fault ends the pieces: what stands behind it isn't looked at
pub pieces-first_fault : pieces (codes "<a/>\n<1>\n<2>") ≡ onto (tag Empty (codes "a") [] 1) (onto (text (codes "\n") 1) (none_but (Faulty BadTag 2)))
unfolding attributes_at more_attributes pieces_from
pieces-first_fault = refl

-- a tag wants a name, and `</` too
pub pieces-no_name : pieces (codes "<>") ≡ none_but (Faulty BadTag 1)
unfolding attributes_at more_attributes pieces_from
pieces-no_name = refl

pub pieces-end_no_name : pieces (codes "</>") ≡ none_but (Faulty BadTag 1)
unfolding attributes_at more_attributes pieces_from
pieces-end_no_name = refl

pub pieces-end_cut : pieces (codes "</") ≡ none_but (Faulty Truncated 1)
unfolding attributes_at more_attributes pieces_from
pieces-end_cut = refl

-- of two attributes of one name, which no piece has, the first would count; a name that isn't there has no value
pub value_of-first : value_of (codes "b") (attribute (codes "a") (codes "1") ∷ attribute (codes "b") (codes "2") ∷ attribute (codes "b") (codes "3") ∷ []) ≡ Some (codes "2")
value_of-first = refl

pub value_of-empty : value_of (codes "a") (attribute (codes "a") [] ∷ []) ≡ Some []
value_of-empty = refl

pub value_of-none : value_of (codes "A") (attribute (codes "a") (codes "1") ∷ []) ≡ None
value_of-none = refl
