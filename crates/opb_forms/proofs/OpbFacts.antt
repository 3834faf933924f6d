-- Texts in OPB, worked out by hand, so that a wrong definition does not check.
use Rattle.std.proofs.Common.{◌≡◌, List, [], ◌∷◌, Some, None, codes, refl}
use Rattle.std.specs.Fmt.{digits}
use Rattle.rows.specs.Literals.{no, yes}
use Rattle.rows.specs.Rows.{Row}
use Rattle.rows.specs.declared.lit.Term.{Term}
use Rattle.opb_forms.specs.Opb.{coef_in, least_in, literal_in, opb_of, row_in}
use Rattle.opb_forms.specs.Systems.{System}
use Rattle.opb_forms.specs.Texts.{opb_text}

-- x1 and twice the negation of x3 sum to at least 2
abbrev pub terms : List Term
terms = record { coef = 1; lit = yes 1 } ∷ record { coef = 2; lit = no 3 } ∷ []

abbrev pub row : Row
row = record { terms = terms; degree = 2 }

-- what nothing satisfies
abbrev pub never : Row
never = record { terms = []; degree = 1 }

pub words : (coef_in (codes "+12") ≡ Some 12) × (coef_in (codes "12") ≡ None) × (coef_in (codes "-1") ≡ None)
    × (coef_in (codes "+") ≡ None) × (literal_in (codes "x7") ≡ Some (yes 7)) × (literal_in (codes "~x7") ≡ Some (no 7))
    × (literal_in (codes "y7") ≡ None) × (literal_in (codes "~7") ≡ None) × (literal_in (codes "x") ≡ None)
    × (literal_in (codes "~~x7") ≡ None)
words = (refl, refl, refl, refl, refl, refl, refl, refl, refl, refl)

pub row_in-worked : (row_in (codes "+1 x1 +2 ~x3 >= 2 ;") ≡ Some row) × (row_in (codes "+0 x1 >= 1 ;") ≡ Some never)
    × (row_in (codes "+1 x1 +0 x2 +2 ~x3 >= 2 ;") ≡ Some row)
row_in-worked = (refl, refl, refl)

-- a sum without terms, without `;`, with a term cut short, of another relation, with two spaces, and a comment
pub row_in-refused : (row_in (codes ">= 1 ;") ≡ None) × (row_in (codes "+1 x1 >= 1") ≡ None)
    × (row_in (codes "+1 >= 1 ;") ≡ None) × (row_in (codes "+1 x1 = 1 ;") ≡ None)
    × (row_in (codes "+1  x1 >= 1 ;") ≡ None) × (row_in (codes "+1 x1 >= +1 ;") ≡ None)
    × (row_in (codes "+1 x1 >= 1 ; ") ≡ None) × (row_in (codes "* +1 x1 >= 1 ;") ≡ None) × (row_in [] ≡ None)
row_in-refused = (refl, refl, refl, refl, refl, refl, refl, refl, refl)

pub least_in-worked : (least_in (codes "min: +1 x1 +2 ~x3 ;") ≡ Some terms) × (least_in (codes "min: +0 x1 ;") ≡ Some [])
    × (least_in (codes "min: ;") ≡ None) × (least_in (codes "max: +1 x1 ;") ≡ None)
least_in-worked = (refl, refl, refl, refl)

abbrev pub system : System
system = record { vars = 3; least = None; rows = row ∷ never ∷ [] }

pub opb_of-worked :
    (opb_of (codes "* #variable= 3 #constraint= 2\n+1 x1 +2 ~x3 >= 2 ;\n+0 x1 >= 1 ;\n") ≡ Some system)
    × (opb_of (codes "* #variable= 3 #constraint= 1\nmin: +1 x1 +2 ~x3 ;\n+0 x1 >= 1 ;\n")
    ≡ Some (record { vars = 3; least = Some terms; rows = never ∷ [] }))
    × (opb_of (codes "* #variable= 0 #constraint= 0\n") ≡ Some (record { vars = 0; least = None; rows = [] }))
opb_of-worked = (refl, refl, refl)

-- one row less than is said, no LF at the end, another first line, what is to be least behind a row
pub opb_of-refused :
    (opb_of (codes "* #variable= 3 #constraint= 2\n+1 x1 +2 ~x3 >= 2 ;\n") ≡ None)
    × (opb_of (codes "* #variable= 3 #constraint= 1\n+1 x1 +2 ~x3 >= 2 ;") ≡ None)
    × (opb_of (codes "+1 x1 +2 ~x3 >= 2 ;\n") ≡ None)
    × (opb_of (codes "* #variable= 3 #constraint= 1\n+0 x1 >= 1 ;\nmin: +1 x1 ;\n") ≡ None)
    × (opb_of (codes "* #variable= 3 #constraint= 1\n+0 x1 >= 1 ;\n\n") ≡ None) × (opb_of [] ≡ None)
opb_of-refused = (refl, refl, refl, refl, refl, refl)

pub opb_text-worked :
    (opb_text system ≡ codes "* #variable= 3 #constraint= 2\n+1 x1 +2 ~x3 >= 2 ;\n+0 x1 >= 1 ;\n")
    × (opb_text (record { vars = 3; least = Some terms; rows = never ∷ [] })
    ≡ codes "* #variable= 3 #constraint= 1\nmin: +1 x1 +2 ~x3 ;\n+0 x1 >= 1 ;\n")
unfolding digits
opb_text-worked = (refl, refl)
