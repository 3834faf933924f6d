use Rattle.std.proofs.Common.{◌≡◌, ◌++◌, List, ℕ, OnOk, codes, decimal, string_bytes, subst}
use Rattle.season_misses.proofs.told.push_head.Goals as goal

pub returns : goal.returns
returns c =
    subst (λ (words : List ℕ). OnOk c.write.result (string_bytes c.write.new.self ≡ string_bytes c.args.text.now
    ++ (words ++ (codes "; missed by " ++ (decimal c.args.miss.deviation ++ (codes ", costs " ++ (decimal c.args.miss.cost ++ codes "\n")))))))
    c.in_ok-words.ensures c.write.ensures.bytes
