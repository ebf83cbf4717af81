use Rattle.std.proofs.Common.{◌≡◌, drop}
use Rattle.world_state.specs.Sending.{repeats_on}
use Rattle.world_state.proofs.Goings.{Went}
use Rattle.world_state.proofs.lanes.put_repeats.Given as goal
use Rattle.world_state.specs.Outside.{outside}

abbrev pub invariant-loop-repeat : goal.invariant-loop-repeat
invariant-loop-repeat g l = record {
  site : l.state.site ≡ l.fn.state.site;
  posts : l.state.posts.items ≡ l.fn.state.posts.items;
  went : Went (outside g.K.Disk g.Q.Device g.E.Entropy g.X.Wire)
      l.fn.state l.state l.fn.node (repeats_on l.fn.lane l.fn.repeats) (repeats_on l.fn.lane (drop l.repeat-index l.fn.repeats)) l.fn.progress l.progress;
}
