use Rattle.std.proofs.Common.{refl}
use Rattle.model_examples.specs.ManagerRows.{KeysFollowed, StreamsFollowed, GroupsFollowed, RelayFollowed}
use Rattle.model_examples.proofs.Opened.{opened}

pub keys_followed : KeysFollowed
unfolding opened
keys_followed = refl

pub streams_followed : StreamsFollowed
unfolding opened
streams_followed = refl

pub groups_followed : GroupsFollowed
unfolding opened
groups_followed = refl

pub relay_followed : RelayFollowed
unfolding opened
relay_followed = refl
