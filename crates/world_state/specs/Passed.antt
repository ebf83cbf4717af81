-- Names of lower crates, passed on to the crates above that don't depend on them directly.
pub use Rattle.world_nodes.specs.Asking.{Asked, MayAsk}
pub use Rattle.world_nodes.specs.Counts.{Counts, disk_in, disk_of, entropy_of}
pub use Rattle.world_nodes.specs.Emitting.{frame_of, length_of, offset_of, wire_answer, wire_outcome}
pub use Rattle.world_nodes.specs.Handled.{Handled, Happens, MayHandle}
pub use Rattle.world_nodes.specs.Hearing.{HasHeard, MayHear}
pub use Rattle.world_nodes.specs.LaneStands.{IsRunning, LaneStands, WireStands, spelled_wire}
pub use Rattle.world_nodes.specs.Noting.{MayNote}
pub use Rattle.world_nodes.specs.Passed.{ManagerForm, WhereUp, is_up, lease_of, Post, Off, On, Standing, Between, Down, Up}
pub use Rattle.world_nodes.specs.Seeing.{IsSeen, IsTold}
pub use Rattle.world_nodes.specs.Stands.{DownStands, EntropyStands, HasStory, HoldsJournal, HoldsNothing, MayFind, PostStands, StandingStands, UpStands}
