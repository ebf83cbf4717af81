use Rattle.std.proofs.Common.{refl}
use Rattle.model_examples.specs.GroupRows.{GroupKey, GroupWaits, GroupNames, TwoAtHome}
use Rattle.model_examples.proofs.Opened.{opened}

pub group_key : GroupKey
unfolding opened
group_key = refl

pub group_waits : GroupWaits
unfolding opened
group_waits = refl

pub group_names : GroupNames
unfolding opened
group_names = refl

pub two_at_home : TwoAtHome
unfolding opened
two_at_home = refl
