-- The names of the nine classes, byte by byte, and that each class has its own.
use Rattle.std.proofs.Common.{◌≡◌, List, [], ◌∷◌, map, refl}
use Rattle.std.specs.Prelude.{codes}
use Rattle.league.specs.Names.{name_of, name_text}
use Rattle.league.specs.declared.class.Class.{Class}
use Rattle.league.specs.declared.class.Class.TheVariants as class
use Rattle.league.specs.declared.class.ClassName.TheVariants.{Ca1, Ca2, Ca3, Ca4, Ga1, Br1, Br2, Fa2, Se1}
use Rattle.league.specs.declared.class.Side.TheVariants.{H}
use Rattle.league.specs.declared.class.Span.TheVariants.{Every}

pub name_text-capacity : map (λ name. codes (name_text name)) (Ca1 ∷ Ca2 ∷ Ca3 ∷ Ca4 ∷ [])
    ≡ (67 ∷ 65 ∷ 49 ∷ []) ∷ (67 ∷ 65 ∷ 50 ∷ []) ∷ (67 ∷ 65 ∷ 51 ∷ []) ∷ (67 ∷ 65 ∷ 52 ∷ []) ∷ []
name_text-capacity = refl

pub name_text-others : map (λ name. codes (name_text name)) (Ga1 ∷ Br1 ∷ Br2 ∷ Fa2 ∷ Se1 ∷ [])
    ≡ (71 ∷ 65 ∷ 49 ∷ []) ∷ (66 ∷ 82 ∷ 49 ∷ []) ∷ (66 ∷ 82 ∷ 50 ∷ []) ∷ (70 ∷ 65 ∷ 50 ∷ []) ∷ (83 ∷ 69 ∷ 49 ∷ []) ∷ []
name_text-others = refl

abbrev classes : List Class
classes = class.Ca1 [] 0 0 H [] ∷ class.Ca2 [] [] 0 0 H [] ∷ class.Ca3 [] [] 0 0 1 H ∷ class.Ca4 [] [] 0 0 H Every [] ∷ class.Ga1 [] 0 0 []
    ∷ class.Br1 [] 0 H [] ∷ class.Br2 [] 0 [] ∷ class.Fa2 [] 0 [] ∷ class.Se1 [] 0 ∷ []

pub name_of-each : map name_of classes ≡ Ca1 ∷ Ca2 ∷ Ca3 ∷ Ca4 ∷ Ga1 ∷ Br1 ∷ Br2 ∷ Fa2 ∷ Se1 ∷ []
name_of-each = refl
