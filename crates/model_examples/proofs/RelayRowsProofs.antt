use Rattle.std.proofs.Common.{refl}
use Rattle.model_examples.specs.RelayRows.{Relay, RelayCrash}
use Rattle.model_examples.proofs.Opened.{opened}

pub relay : Relay
unfolding opened
relay = refl

pub relay_crash : RelayCrash
unfolding opened
relay_crash = refl
