-- The files that a page lends, by their names.
use Rattle.std.specs.Prelude.{ℕ, List, [], if◌then◌else◌, bytes_eq, codes}
use Rattle.page.specs.declared.files.Files.{Files}

-- the bytes of the file of a name
abbrev pub file_named : Files → List ℕ → List ℕ
file_named files name =
    if bytes_eq name (codes "1") then files.first.now
    else if bytes_eq name (codes "2") then files.second.now
    else if bytes_eq name (codes "3") then files.third.now
    else if bytes_eq name (codes "4") then files.fourth.now else []
