use Rattle.std.proofs.Common.{refl}
use Rattle.model_examples.specs.StreamRows.{Streams, Joining, FedByAnyName}
use Rattle.model_examples.proofs.Opened.{opened}

pub streams : Streams
unfolding opened
streams = refl

pub joining : Joining
unfolding opened
joining = refl

pub fed_by_any_name : FedByAnyName
unfolding opened
fed_by_any_name = refl
