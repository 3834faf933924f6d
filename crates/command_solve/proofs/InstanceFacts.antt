-- A worked instance file, so that a wrong definition does not check: the league of two teams of seed 0. Its words and
-- its text were worked out apart from this workspace.
use Rattle.std.proofs.Common.{◌≡◌, ℕ, List, [], ◌∷◌, ◌++◌, codes, refl}
use Rattle.std.specs.Fmt.{digits}
use Rattle.std.specs.List.{flat_map}
use Rattle.rand_core.specs.Pcg32Seed.{pcg32_seed}
use Rattle.rand_core.specs.Steps.{u32_at, word_bytes}
use Rattle.answers.specs.declared.status.Status.TheVariants.{Yes}
use Rattle.instance_gen.specs.Draws.{next, seeded, word}
use Rattle.command_solve.specs.MadeInstance.{made_instance}

-- each line ends with a line feed
abbrev lines : List (List ℕ) → List ℕ
lines texts = flat_map (λ text. text ++ 10 ∷ []) texts

abbrev head_lines : List (List ℕ)
head_lines =
    codes "<?xml version=\"1.0\" encoding=\"UTF-8\"?>" ∷
    codes "<Instance>" ∷
    codes "<Structure>" ∷
    codes "<Format leagueIds=\"0\">" ∷
    codes "<numberRoundRobin>2</numberRoundRobin>" ∷
    codes "<compactness>C</compactness>" ∷
    codes "<gameMode>P</gameMode>" ∷
    codes "</Format>" ∷
    codes "</Structure>" ∷
    codes "<Resources>" ∷
    codes "<Teams>" ∷
    codes "<team id=\"0\"/>" ∷
    codes "<team id=\"1\"/>" ∷
    codes "</Teams>" ∷
    codes "<Slots>" ∷
    codes "<slot id=\"0\"/>" ∷
    codes "<slot id=\"1\"/>" ∷
    codes "</Slots>" ∷
    codes "</Resources>" ∷
    []

abbrev constraint_lines : List (List ℕ)
constraint_lines =
    codes "<Constraints>" ∷
    codes "<CapacityConstraints>" ∷
    codes "<CA1 teams=\"1\" min=\"0\" max=\"1\" mode=\"A\" slots=\"0;1\" type=\"HARD\" penalty=\"1\"/>" ∷
    (codes "<CA2 teams1=\"1\" teams2=\"0\" min=\"0\" max=\"1\" mode1=\"HA\" mode2=\"GLOBAL\""
    ++ codes " slots=\"0\" type=\"SOFT\" penalty=\"9\"/>") ∷
    (codes "<CA2 teams1=\"1\" teams2=\"0;1\" min=\"0\" max=\"1\" mode1=\"HA\" mode2=\"GLOBAL\""
    ++ codes " slots=\"0\" type=\"SOFT\" penalty=\"1\"/>") ∷
    (codes "<CA2 teams1=\"1\" teams2=\"0;1\" min=\"0\" max=\"1\" mode1=\"HA\" mode2=\"GLOBAL\""
    ++ codes " slots=\"0\" type=\"SOFT\" penalty=\"9\"/>") ∷
    (codes "<CA2 teams1=\"1\" teams2=\"0;1\" min=\"0\" max=\"1\" mode1=\"HA\" mode2=\"GLOBAL\""
    ++ codes " slots=\"0\" type=\"SOFT\" penalty=\"7\"/>") ∷
    (codes "<CA3 teams1=\"0;1\" teams2=\"0;1\" min=\"0\" max=\"2\" mode1=\"H\" mode2=\"SLOTS\""
    ++ codes " intp=\"3\" type=\"SOFT\" penalty=\"5\"/>") ∷
    (codes "<CA3 teams1=\"0;1\" teams2=\"0;1\" min=\"0\" max=\"2\" mode1=\"A\" mode2=\"SLOTS\""
    ++ codes " intp=\"3\" type=\"SOFT\" penalty=\"5\"/>") ∷
    (codes "<CA4 teams1=\"0;1\" teams2=\"0\" min=\"0\" max=\"1\" mode1=\"H\" mode2=\"GLOBAL\""
    ++ codes " slots=\"0\" type=\"SOFT\" penalty=\"6\"/>") ∷
    (codes "<CA4 teams1=\"0;1\" teams2=\"0\" min=\"0\" max=\"0\" mode1=\"H\" mode2=\"GLOBAL\""
    ++ codes " slots=\"0\" type=\"SOFT\" penalty=\"4\"/>") ∷
    codes "</CapacityConstraints>" ∷
    codes "<GameConstraints>" ∷
    codes "<GA1 meetings=\"1,0;\" min=\"1\" max=\"1\" slots=\"0\" type=\"HARD\" penalty=\"1\"/>" ∷
    codes "<GA1 meetings=\"1,0;\" min=\"1\" max=\"1\" slots=\"0;1\" type=\"HARD\" penalty=\"1\"/>" ∷
    codes "<GA1 meetings=\"1,0;\" min=\"1\" max=\"1\" slots=\"0\" type=\"HARD\" penalty=\"1\"/>" ∷
    codes "<GA1 meetings=\"0,1;\" min=\"1\" max=\"1\" slots=\"0;1\" type=\"HARD\" penalty=\"1\"/>" ∷
    codes "</GameConstraints>" ∷
    codes "<BreakConstraints>" ∷
    codes "<BR1 teams=\"0\" intp=\"1\" mode1=\"LEQ\" mode2=\"HA\" slots=\"0;1\" type=\"SOFT\" penalty=\"5\"/>" ∷
    codes "<BR2 teams=\"0;1\" intp=\"0\" homeMode=\"HA\" mode2=\"LEQ\" slots=\"0;1\" type=\"HARD\" penalty=\"1\"/>" ∷
    codes "<BR2 teams=\"0;1\" intp=\"0\" homeMode=\"HA\" mode2=\"LEQ\" slots=\"0;1\" type=\"SOFT\" penalty=\"10\"/>" ∷
    codes "</BreakConstraints>" ∷
    codes "<FairnessConstraints>" ∷
    codes "<FA2 teams=\"0;1\" intp=\"2\" mode=\"H\" slots=\"0;1\" type=\"SOFT\" penalty=\"10\"/>" ∷
    codes "</FairnessConstraints>" ∷
    codes "<SeparationConstraints>" ∷
    codes "<SE1 teams=\"0;1\" min=\"0\" mode1=\"SLOTS\" type=\"HARD\" penalty=\"1\"/>" ∷
    codes "<SE1 teams=\"0;1\" min=\"1\" mode1=\"SLOTS\" type=\"SOFT\" penalty=\"2\"/>" ∷
    codes "</SeparationConstraints>" ∷
    codes "</Constraints>" ∷
    codes "</Instance>" ∷
    []

pub made_instance-two : made_instance 2 0 ≡ record { status = Yes; text = lines head_lines ++ lines constraint_lines }
unfolding seeded word next pcg32_seed u32_at word_bytes digits
made_instance-two = refl
