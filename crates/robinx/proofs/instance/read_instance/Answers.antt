use Rattle.std.proofs.Common.{◌≡◌, Ok, subst}
use Rattle.robinx.specs.Walk.{reading}
use Rattle.robinx.specs.InstanceFile.{Draft, instance_meaning, nothing}
use Rattle.robinx.specs.declared.element.Element.TheVariants.{InstanceFile}
use Rattle.robinx.proofs.SeasonLemmas.{teams_read}
use Rattle.robinx.proofs.instance.read_instance.Goals as goal

pub into_league-requires : goal.into_league-requires
into_league-requires c =
    let read : reading instance_meaning InstanceFile nothing c.new.result ≡ Ok c.read_file.new.read =
    subst (λ (d : Draft). reading instance_meaning InstanceFile d c.new.result ≡ Ok c.read_file.new.read) c.new-draft.ensures c.in_ok-read_file.ensures in
    teams_read c.new.result c.read_file.new.read read
