-- The text of rows in OPB.
use Rattle.std.specs.Prelude.{ℕ, Bool, true, false, List, [], ◌∷◌, ◌++◌, length, codes, decimal, Option, Some, None}
use Rattle.std.specs.List.{flat_map}
use Rattle.rows.specs.Literals.{Literal}
use Rattle.rows.specs.Rows.{Row}
use Rattle.rows.specs.declared.lit.Term.{Term}
use Rattle.opb_forms.specs.Systems.{System}

abbrev pub sign_text : Bool → List ℕ
sign_text true = []
sign_text false = codes "~"

abbrev pub literal_text : Literal → List ℕ
literal_text l = sign_text l.positive ++ (codes "x" ++ decimal l.var)

-- a coefficient and its literal, with a space behind each
abbrev pub term_text : Term → List ℕ
term_text t = codes "+" ++ (decimal t.coef ++ (codes " " ++ (literal_text t.lit ++ codes " ")))

abbrev pub terms_text : List Term → List ℕ
terms_text terms = flat_map term_text terms

-- OPB has no sum without terms: 0 times a variable stands in its place
abbrev pub sum_text : List Term → List ℕ
sum_text [] = codes "+0 x1 "
sum_text (t ∷ terms) = terms_text (t ∷ terms)

abbrev pub end_text : ℕ → List ℕ
end_text degree = codes ">= " ++ (decimal degree ++ codes " ;\n")

abbrev pub row_text : Row → List ℕ
row_text row = sum_text row.terms ++ end_text row.degree

abbrev pub rows_text : List Row → List ℕ
rows_text rows = flat_map row_text rows

abbrev pub least_text : Option (List Term) → List ℕ
least_text None = []
least_text (Some terms) = codes "min: " ++ (sum_text terms ++ codes ";\n")

abbrev pub heading_text : ℕ → ℕ → List ℕ
heading_text vars count =
    codes "* #variable= " ++ (decimal vars ++ (codes " #constraint= " ++ (decimal count ++ codes "\n")))

abbrev pub opb_text : System → List ℕ
opb_text system =
    heading_text system.vars (length system.rows) ++ (least_text system.least ++ rows_text system.rows)
