use Rattle.std.proofs.Common.{refl}
use Rattle.net_model.specs.Events.{is_valid_event}
use Rattle.network_tests.proofs.migrations.hands_the_key.Goals as goal

pub act-requires : goal.act-requires
unfolding is_valid_event
act-requires c = refl
