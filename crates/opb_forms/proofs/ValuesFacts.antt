-- Files of values, worked out by hand, so that a wrong definition does not check.
use Rattle.std.proofs.Common.{◌≡◌, true, false, [], ◌∷◌, Some, None, Ok, Err, codes, refl}
use Rattle.rows.specs.Literals.{no, yes}
use Rattle.opb_forms.specs.Values.{said_by_line, said_by_word, value_in, values_of}

pub said_by_word-worked : (said_by_word (codes "x7") ≡ Some (yes 7 ∷ [])) × (said_by_word (codes "-x7") ≡ Some (no 7 ∷ []))
    × (said_by_word (codes "~x7") ≡ Some (no 7 ∷ [])) × (said_by_word (codes "7") ≡ Some (yes 7 ∷ []))
    × (said_by_word (codes "-7") ≡ Some (no 7 ∷ [])) × (said_by_word (codes "0") ≡ Some []) × (said_by_word [] ≡ Some [])
    × (said_by_word (codes "2147483647") ≡ Some (yes 2147483647 ∷ []))
said_by_word-worked = (refl, refl, refl, refl, refl, refl, refl, refl)

pub said_by_word-refused : (said_by_word (codes "x0") ≡ None) × (said_by_word (codes "-0") ≡ None)
    × (said_by_word (codes "00") ≡ None) × (said_by_word (codes "x") ≡ None) × (said_by_word (codes "-") ≡ None)
    × (said_by_word (codes "+7") ≡ None) × (said_by_word (codes "--7") ≡ None) × (said_by_word (codes "x-7") ≡ None)
    × (said_by_word (codes "2147483648") ≡ None) × (said_by_word (codes "SAT") ≡ None)
said_by_word-refused = (refl, refl, refl, refl, refl, refl, refl, refl, refl, refl)

pub said_by_line-worked : (said_by_line (codes "v x1 -x2 ") ≡ Some (yes 1 ∷ no 2 ∷ []))
    × (said_by_line (codes "1 -2 0") ≡ Some (yes 1 ∷ no 2 ∷ [])) × (said_by_line (codes "s SATISFIABLE") ≡ Some [])
    × (said_by_line (codes "o 12") ≡ Some []) × (said_by_line (codes "c x1") ≡ Some []) × (said_by_line (codes "v") ≡ Some [])
    × (said_by_line [] ≡ Some []) × (said_by_line (codes "v x1 y2") ≡ None)
said_by_line-worked = (refl, refl, refl, refl, refl, refl, refl, refl)

pub values_of-worked :
    (values_of (codes "c made\ns SATISFIABLE\nv x1 -x2\nv x3\n") ≡ Ok (yes 1 ∷ no 2 ∷ yes 3 ∷ []))
    × (values_of (codes "1 -2\n3 0") ≡ Ok (yes 1 ∷ no 2 ∷ yes 3 ∷ [])) × (values_of [] ≡ Ok [])
    × (values_of (codes "v x1\nUNSAT\nv y\n") ≡ Err 2) × (values_of (codes "\n\n+1") ≡ Err 3)
values_of-worked = (refl, refl, refl, refl, refl)

-- the last literal says the value
pub value_in-worked : (value_in (yes 1 ∷ no 2 ∷ []) 1 ≡ true) × (value_in (yes 1 ∷ no 2 ∷ []) 2 ≡ false)
    × (value_in (yes 1 ∷ no 2 ∷ []) 3 ≡ false) × (value_in (yes 1 ∷ no 1 ∷ []) 1 ≡ false)
    × (value_in (no 1 ∷ yes 1 ∷ []) 1 ≡ true)
value_in-worked = (refl, refl, refl, refl, refl)
