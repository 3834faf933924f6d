-- Worked texts, so that a wrong definition of what `trial` writes does not check.
use Rattle.std.proofs.Common.{◌≡◌, true, false, codes, refl}
use Rattle.std.specs.Fmt.{digits}
use Rattle.command_solve.specs.Trial.{found_lines, league_lines}

pub league_lines-some : league_lines 8 7 25 ≡ codes "trial 8 7\nconstraints 25\n"
unfolding digits
league_lines-some = refl

-- the greatest numbers
pub league_lines-most : league_lines 40 18446744073709551615 57
    ≡ codes "trial 40 18446744073709551615\nconstraints 57\n"
unfolding digits
league_lines-most = refl

pub found_lines-some : found_lines 30 41 2 true
    ≡ codes "result schedule\nobjective 30\nfirst 41\nmoves 2\nsettled yes\n"
unfolding digits
found_lines-some = refl

-- a descent that stopped before its first move
pub found_lines-none : found_lines 0 0 0 false ≡ codes "result schedule\nobjective 0\nfirst 0\nmoves 0\nsettled no\n"
unfolding digits
found_lines-none = refl
