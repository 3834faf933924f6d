use Rattle.std.proofs.Common.{◌≡◌, ◌-◌, ◌*◌, arith}
use Rattle.resume.proofs.size.resume_size.Goals as goal

pub returns : goal.returns
returns c =
    let n = c.args.league.now.n in
    let same : c.from-n.result * (c.from-n.result - 1) * c.from.result ≡ n * (n - 1) * c.args.k = cc in
    omega (arith, c.encoding_size.ensures.terms, same)
