-- Whole files, line by line.
use Prim.Native.String.{String}
use Rattle.std.proofs.Common.{ℕ, ◌+◌, ◌-◌, List, [], ◌∷◌, ◌++◌, map, take, drop, if◌then◌else◌}
use Rattle.std.specs.Prelude.{codes, ◌==◌}

-- the lines, each with its end
abbrev pub text : List String → List ℕ
text [] = []
text (line ∷ lines) = codes line ++ (codes "\n" ++ text lines)

-- the lines, of which from this one on so many are others; the first is line 1
abbrev pub replaced : List String → ℕ → ℕ → List String → List String
replaced lines from count others = take (from - 1) lines ++ (others ++ drop (from - 1 + count) lines)

-- a phased league of four teams without constraints
abbrev pub league_lines : List String
league_lines =
    "<?xml version=\"1.0\" encoding=\"UTF-8\"?>"
    ∷ "<Instance>"
    ∷ "<Structure>"
    ∷ "<Format leagueIds=\"0\">"
    ∷ "<numberRoundRobin>2</numberRoundRobin>"
    ∷ "<compactness>C</compactness>"
    ∷ "<gameMode>P</gameMode>"
    ∷ "</Format>"
    ∷ "</Structure>"
    ∷ "<Resources>"
    ∷ "<Teams>"
    ∷ "<team id=\"0\"/>"
    ∷ "<team id=\"1\"/>"
    ∷ "<team id=\"2\"/>"
    ∷ "<team id=\"3\"/>"
    ∷ "</Teams>"
    ∷ "<Slots>"
    ∷ "<slot id=\"0\"/>"
    ∷ "<slot id=\"1\"/>"
    ∷ "<slot id=\"2\"/>"
    ∷ "<slot id=\"3\"/>"
    ∷ "<slot id=\"4\"/>"
    ∷ "<slot id=\"5\"/>"
    ∷ "</Slots>"
    ∷ "</Resources>"
    ∷ "<Constraints>"
    ∷ "</Constraints>"
    ∷ "</Instance>"
    ∷ []

abbrev pub i4 : List ℕ
i4 = text league_lines

-- the league of four teams with a CA1
abbrev pub i4_ca1 : List ℕ
i4_ca1 = text (replaced league_lines 27 0 (
    "<CapacityConstraints>"
    ∷ "<CA1 teams=\"0\" min=\"0\" max=\"0\" mode=\"H\" slots=\"2;3\" type=\"HARD\" penalty=\"1\"/>"
    ∷ "</CapacityConstraints>"
    ∷ []
    ))

-- the four teams in a league that isn't phased, with all nine classes in ten constraints
abbrev pub nine : List ℕ
nine = text (replaced (replaced league_lines 7 1 ("<gameMode>NULL</gameMode>" ∷ [])) 27 0 (
    "<CapacityConstraints>"
    ∷ "<CA1 teams=\"0\" min=\"0\" max=\"0\" mode=\"H\" slots=\"2;3\" type=\"HARD\" penalty=\"1\"/>"
    ∷ "<CA2 teams1=\"0\" teams2=\"1;2\" min=\"1\" max=\"1\" mode1=\"HA\" mode2=\"GLOBAL\" slots=\"0;1;2\" type=\"SOFT\" penalty=\"2\"/>"
    ∷ "<CA3 teams1=\"0\" teams2=\"1;2;3\" min=\"0\" max=\"2\" mode1=\"H\" mode2=\"SLOTS\" intp=\"3\" type=\"SOFT\" penalty=\"5\"/>"
    ∷ "<CA4 teams1=\"0;1\" teams2=\"0;1\" min=\"0\" max=\"0\" mode1=\"A\" mode2=\"EVERY\" slots=\"0;5\" type=\"HARD\" penalty=\"1\"/>"
    ∷ "</CapacityConstraints>"
    ∷ "<GameConstraints>"
    ∷ "<GA1 meetings=\"0,1;3,2;\" min=\"1\" max=\"1\" slots=\"0\" type=\"HARD\" penalty=\"1\"/>"
    ∷ "</GameConstraints>"
    ∷ "<BreakConstraints>"
    ∷ "<BR1 teams=\"0\" intp=\"1\" mode1=\"LEQ\" mode2=\"HA\" slots=\"0;1;2\" type=\"SOFT\" penalty=\"7\"/>"
    ∷ "<BR2 teams=\"0;1;2;3\" intp=\"4\" homeMode=\"HA\" mode2=\"LEQ\" slots=\"\" type=\"HARD\" penalty=\"1\"/>"
    ∷ "</BreakConstraints>"
    ∷ "<FairnessConstraints>"
    ∷ "<FA2 teams=\"0;1;2;3\" intp=\"2\" mode=\"H\" slots=\"0;1\" type=\"SOFT\" penalty=\"10\"/>"
    ∷ "</FairnessConstraints>"
    ∷ "<SeparationConstraints>"
    ∷ "<SE1 teams=\"0;1\" min=\"2\" mode1=\"SLOTS\" type=\"HARD\" penalty=\"10\"/>"
    ∷ "</SeparationConstraints>"
    ∷ "<CapacityConstraints>"
    ∷ "<CA1 teams=\"\" min=\"0\" max=\"4294967295\" mode=\"A\" slots=\"2\" type=\"HARD\" penalty=\"0\"/>"
    ∷ "</CapacityConstraints>"
    ∷ []
    ))

-- the double circle schedule of four teams, in its own order
abbrev pub season_lines : List String
season_lines =
    "<?xml version=\"1.0\" encoding=\"UTF-8\"?>"
    ∷ "<Solution>"
    ∷ "<Games>"
    ∷ "<ScheduledMatch home=\"3\" away=\"0\" slot=\"0\"/>"
    ∷ "<ScheduledMatch home=\"1\" away=\"2\" slot=\"0\"/>"
    ∷ "<ScheduledMatch home=\"1\" away=\"3\" slot=\"1\"/>"
    ∷ "<ScheduledMatch home=\"2\" away=\"0\" slot=\"1\"/>"
    ∷ "<ScheduledMatch home=\"3\" away=\"2\" slot=\"2\"/>"
    ∷ "<ScheduledMatch home=\"0\" away=\"1\" slot=\"2\"/>"
    ∷ "<ScheduledMatch home=\"0\" away=\"3\" slot=\"3\"/>"
    ∷ "<ScheduledMatch home=\"2\" away=\"1\" slot=\"3\"/>"
    ∷ "<ScheduledMatch home=\"3\" away=\"1\" slot=\"4\"/>"
    ∷ "<ScheduledMatch home=\"0\" away=\"2\" slot=\"4\"/>"
    ∷ "<ScheduledMatch home=\"2\" away=\"3\" slot=\"5\"/>"
    ∷ "<ScheduledMatch home=\"1\" away=\"0\" slot=\"5\"/>"
    ∷ "</Games>"
    ∷ "</Solution>"
    ∷ []

abbrev pub c4 : List ℕ
c4 = text season_lines

-- the games of the double circle schedule in order of slot, home and away
abbrev pub circle_lines : List String
circle_lines =
    "<?xml version=\"1.0\" encoding=\"UTF-8\"?>"
    ∷ "<Solution>"
    ∷ "<Games>"
    ∷ "<ScheduledMatch home=\"1\" away=\"2\" slot=\"0\"/>"
    ∷ "<ScheduledMatch home=\"3\" away=\"0\" slot=\"0\"/>"
    ∷ "<ScheduledMatch home=\"1\" away=\"3\" slot=\"1\"/>"
    ∷ "<ScheduledMatch home=\"2\" away=\"0\" slot=\"1\"/>"
    ∷ "<ScheduledMatch home=\"0\" away=\"1\" slot=\"2\"/>"
    ∷ "<ScheduledMatch home=\"3\" away=\"2\" slot=\"2\"/>"
    ∷ "<ScheduledMatch home=\"0\" away=\"3\" slot=\"3\"/>"
    ∷ "<ScheduledMatch home=\"2\" away=\"1\" slot=\"3\"/>"
    ∷ "<ScheduledMatch home=\"0\" away=\"2\" slot=\"4\"/>"
    ∷ "<ScheduledMatch home=\"3\" away=\"1\" slot=\"4\"/>"
    ∷ "<ScheduledMatch home=\"1\" away=\"0\" slot=\"5\"/>"
    ∷ "<ScheduledMatch home=\"2\" away=\"3\" slot=\"5\"/>"
    ∷ "</Games>"
    ∷ "</Solution>"
    ∷ []

abbrev pub circle : List ℕ
circle = text circle_lines

-- the season of the double circle schedule with a score
abbrev pub scored : List ℕ
scored = text (replaced circle_lines 3 0 (
    "<MetaData>"
    ∷ "<ObjectiveValue infeasibility=\"3\" objective=\"40\"/>"
    ∷ "</MetaData>"
    ∷ []
    ))

-- a league of four teams with constraints, and much that is passed over
abbrev pub f4 : List ℕ
f4 = text (
    "<?xml version=\"1.0\" encoding=\"UTF-8\" standalone=\"no\" ?>"
    ∷ "<!-- a league of four -->"
    ∷ "<Instance>"
    ∷ "<MetaData>"
    ∷ "<InstanceName>Four &amp; more</InstanceName>"
    ∷ "<Date day=\"15\" month=\"10\" year=\"2020\"/>"
    ∷ "</MetaData>"
    ∷ "<Structure>"
    ∷ "<Format leagueIds=\"0\">"
    ∷ "<numberRoundRobin>2</numberRoundRobin>"
    ∷ "<compactness>C</compactness>"
    ∷ "<gameMode>P</gameMode>"
    ∷ "</Format>"
    ∷ "<AdditionalGames/>"
    ∷ "</Structure>"
    ∷ "<ObjectiveFunction>"
    ∷ "<Objective>SC</Objective>"
    ∷ "</ObjectiveFunction>"
    ∷ "<Data/>"
    ∷ "<Resources>"
    ∷ "<Teams>"
    ∷ "<team id=\"0\" league=\"0\" name=\"North\"/>"
    ∷ "<team id=\"1\" league=\"0\" name=\"East\"/>"
    ∷ "<team id=\"2\" league=\"0\" name=\"South\"/>"
    ∷ "<team id=\"3\" league=\"0\" name=\"West\"/>"
    ∷ "</Teams>"
    ∷ "<Slots>"
    ∷ "<slot id=\"0\" name=\"Slot 0\"/>"
    ∷ "<slot id=\"1\" name=\"Slot 1\"/>"
    ∷ "<slot id=\"2\" name=\"Slot 2\"/>"
    ∷ "<slot id=\"3\" name=\"Slot 3\"/>"
    ∷ "<slot id=\"4\" name=\"Slot 4\"/>"
    ∷ "<slot id=\"5\" name=\"Slot 5\"/>"
    ∷ "</Slots>"
    ∷ "</Resources>"
    ∷ "<Constraints>"
    ∷ "<BasicConstraints/>"
    ∷ "<CapacityConstraints>"
    ∷ "<CA1 max=\"0\" min=\"0\" mode=\"H\" penalty=\"10\" slots=\"2;3\" teams=\"0\" type=\"SOFT\"/>"
    ∷ "</CapacityConstraints>"
    ∷ "<GameConstraints/>"
    ∷ "<BreakConstraints/>"
    ∷ "<FairnessConstraints>"
    ∷ "<FA2 intp=\"1\" mode=\"H\" penalty=\"10\" slots=\"0;1;2;3;4;5\" teams=\"0;1;2;3\" type=\"SOFT\"/>"
    ∷ "</FairnessConstraints>"
    ∷ "<SeparationConstraints>"
    ∷ "<SE1 min=\"2\" mode1=\"SLOTS\" penalty=\"10\" teams=\"0;1;2;3\" type=\"HARD\"/>"
    ∷ "</SeparationConstraints>"
    ∷ "</Constraints>"
    ∷ "</Instance>"
    ∷ []
    )

-- the phased league of four teams with the other quotes
abbrev pub single_quotes : List ℕ
single_quotes = map (λ b. if b == 34 then 39 else b) i4
