use Rattle.std.proofs.Common.{refl}
use Rattle.model_examples.specs.KeyRows.{Pools, Faults, Entitled, NotReady, ShownKeys, ShortEntropy, FullPool}
use Rattle.model_examples.proofs.Opened.{opened}

pub pools : Pools
unfolding opened
pools = refl

pub faults : Faults
unfolding opened
faults = refl

pub entitled : Entitled
unfolding opened
entitled = refl

pub not_ready : NotReady
unfolding opened
not_ready = refl

pub shown_keys : ShownKeys
unfolding opened
shown_keys = refl

pub short_entropy : ShortEntropy
unfolding opened
short_entropy = refl

pub full_pool : FullPool
unfolding opened
full_pool = refl
