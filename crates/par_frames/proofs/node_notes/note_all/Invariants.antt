use Rattle.std.proofs.Common.{◌≡◌, ◌≤◌, length, drop}
use Rattle.net_model.specs.World.{Network, World}
use Rattle.world_state.specs.Armed.{most_armed}
use Rattle.par_frames.specs.NodeFrames.{MayNoteAll}
use Rattle.par_frames.proofs.Notes.{Noted}
use Rattle.par_frames.proofs.node_notes.note_all.Given as goal
use Rattle.world_state.specs.Outside.{outside}

abbrev pub invariant-loop-placings : goal.invariant-loop-placings
invariant-loop-placings g l = record {
  site : l.state.site ≡ l.fn.state.site;
  armed : most_armed g.K.Disk l.state.posts.items ≡ most_armed g.K.Disk l.fn.state.posts.items;
  within : l.node ≤ length l.fn.all.items;
  rest : l.placings-iterator.rest.items ≡ drop l.node l.fn.all.items;
  went : (net : Network) (w : World) → MayNoteAll (outside g.K.Disk g.Q.Device g.E.Entropy g.X.Wire) l.fn.state net w l.fn.all.items → Noted (outside g.K.Disk g.Q.Device g.E.Entropy g.X.Wire) l.fn.state l.state net w l.node;
}
