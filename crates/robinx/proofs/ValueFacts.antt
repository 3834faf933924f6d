-- Worked examples of values, so that a wrong definition of a list or a number does not check.
use Rattle.std.proofs.Common.{◌≡◌, [], ◌∷◌, refl}
use Rattle.std.specs.Prelude.{Ok, Err, codes}
use Rattle.robinx.specs.declared.tag_fault.FormKind.TheVariants.{BadNumber, NumberTooLarge, UnknownTeam, UnknownSlot, SameTeam}
use Rattle.robinx.specs.Values.{number, teams, slots, meetings}

pub number-zeros : number (codes "0010") ≡ Ok 10
number-zeros = refl

pub number-empty : number [] ≡ Err BadNumber
number-empty = refl

pub number-greatest : number (codes "4294967295") ≡ Ok 4294967295
number-greatest = refl

pub number-too_large : number (codes "4294967296") ≡ Err NumberTooLarge
number-too_large = refl

-- digits alone: no sign, no point, no white byte
pub number-signs : (number (codes "+1") ≡ Err BadNumber) × (number (codes "-1") ≡ Err BadNumber) × (number (codes "1.0") ≡ Err BadNumber) × (number (codes " 1") ≡ Err BadNumber) × (number (codes "0x1") ≡ Err BadNumber)
number-signs = (refl, refl, refl, refl, refl)

-- zeros in front don't make it too large, and what isn't a number isn't too large either
pub number-long : (number (codes "0000000000004294967295") ≡ Ok 4294967295) × (number (codes "18446744073709551617") ≡ Err NumberTooLarge) × (number (codes "99999999999x") ≡ Err BadNumber)
number-long = (refl, refl, refl)

-- one `;` more is taken at the end alone
pub slots-ends : (slots 4 (codes "1;") ≡ Ok (1 ∷ [])) × (slots 4 (codes ";1") ≡ Err BadNumber) × (slots 4 (codes "1;2;;3") ≡ Err BadNumber)
slots-ends = (refl, refl, refl)

-- a league of n teams has the slots below 2 (n - 1), of four teams 0 to 5 and of two 0 and 1
pub slots-limit : (slots 4 (codes "5;0;05") ≡ Ok (0 ∷ 5 ∷ [])) × (slots 4 (codes "6") ≡ Err UnknownSlot) × (slots 2 (codes "1") ≡ Ok (1 ∷ [])) × (slots 2 (codes "2") ≡ Err UnknownSlot)
slots-limit = (refl, refl, refl, refl)

pub slots-repeats : slots 4 (codes "2;3;3;") ≡ Ok (2 ∷ 3 ∷ [])
slots-repeats = refl

pub slots-empty : slots 4 [] ≡ Ok []
slots-empty = refl

-- the one item of `;` is empty
pub slots-semicolon : slots 4 (codes ";") ≡ Err BadNumber
slots-semicolon = refl

pub slots-two_semicolons : slots 4 (codes "1;;") ≡ Err BadNumber
slots-two_semicolons = refl

-- from left to right
pub slots-first_fault : slots 4 (codes "6;x") ≡ Err UnknownSlot
slots-first_fault = refl

pub teams-order : teams 4 (codes "3;0") ≡ Ok (0 ∷ 3 ∷ [])
teams-order = refl

pub teams-unknown : teams 4 (codes "0;4") ≡ Err UnknownTeam
teams-unknown = refl

pub meetings-order : meetings 4 (codes "2,1;0,3;") ≡ Ok ((0, 3) ∷ (2, 1) ∷ [])
meetings-order = refl

-- one game alone, with the last `;` and without; a list with another between, and an empty one
pub meetings-ends : (meetings 4 (codes "0,1") ≡ Ok ((0, 1) ∷ [])) × (meetings 4 (codes "0,1;") ≡ Ok ((0, 1) ∷ [])) × (meetings 4 (codes "0,1;;1,0") ≡ Err BadNumber) × (meetings 4 [] ≡ Ok [])
meetings-ends = (refl, refl, refl, refl)

-- a list of teams is none of meetings; a team of a meeting has to be there, and to be one of the league: home first
pub meetings-teams : (meetings 4 (codes "0;1") ≡ Err BadNumber) × (meetings 4 (codes ",1") ≡ Err BadNumber) × (meetings 4 (codes "0,") ≡ Err BadNumber) × (meetings 4 (codes "4,x") ≡ Err UnknownTeam) × (meetings 4 (codes "0,4") ≡ Err UnknownTeam) × (meetings 4 (codes "4,4") ≡ Err UnknownTeam)
meetings-teams = (refl, refl, refl, refl, refl, refl)

-- the first fault from left to right, item by item
pub meetings-first : (meetings 4 (codes "1,1;x") ≡ Err SameTeam) × (meetings 4 (codes "0,1;2;1,1") ≡ Err BadNumber)
meetings-first = (refl, refl)

pub meetings-same : meetings 4 (codes "1,1;") ≡ Err SameTeam
meetings-same = refl

pub meetings-two_commas : meetings 4 (codes "1,2,3") ≡ Err BadNumber
meetings-two_commas = refl

pub meetings-no_comma : meetings 4 (codes "9") ≡ Err BadNumber
meetings-no_comma = refl
