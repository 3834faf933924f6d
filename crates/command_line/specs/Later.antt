-- What a choice by names gives behind its first ones.
use Rattle.std.specs.Prelude.{ℕ, List, codes, bytes_eq, if◌then◌else◌, Option, Some, None}
use Rattle.command_line.specs.Words.{auditing, bounded_by, checking, Command, plain, resuming, rowing, showing, trying}
use Rattle.command_line.specs.declared.role.Role.{Role}
use Rattle.command_line.specs.declared.role.Role.TheVariants.{Patterns, Draws, Seconds}

-- of `following`, behind four commands, and behind eight
abbrev pub following_files : List ℕ → List (List ℕ) → Option Command
following_files command words =
    if bytes_eq command (codes "show") then showing words
    else (if bytes_eq command (codes "check") then checking words
    else (if bytes_eq command (codes "bound") then bounded_by words else plain command words))

abbrev pub following_season : List ℕ → List (List ℕ) → Option Command
following_season command words =
    if bytes_eq command (codes "resume") then resuming words
    else (if bytes_eq command (codes "audit") then auditing words
    else (if bytes_eq command (codes "trial") then trying words
    else (if bytes_eq command (codes "rows") then rowing words else following_files command words)))

-- of `solve_option`, behind three options
abbrev pub later_option : List ℕ → Option Role
later_option word =
    if bytes_eq word (codes "--patterns") then Some Patterns
    else (if bytes_eq word (codes "--seed") then Some Draws
    else (if bytes_eq word (codes "--seconds") then Some Seconds else None))
