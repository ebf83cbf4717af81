-- Names of lower crates, passed on to the crates above that don't depend on them directly.
pub use Rattle.world_nodes.proofs.Asks.{asked, may_handle}
pub use Rattle.world_nodes.proofs.Counted.{post_disk}
pub use Rattle.world_nodes.proofs.Delivered.{heard, may_handle as may_handle_of_Delivered}
pub use Rattle.world_nodes.proofs.Going.{post_on}
pub use Rattle.world_nodes.proofs.Handles.{valid_there}
pub use Rattle.world_nodes.proofs.LaneGoing.{get_within}
pub use Rattle.world_nodes.proofs.LaneStarts.{begins}
pub use Rattle.world_nodes.proofs.Passed.{post_field}
pub use Rattle.world_nodes.proofs.Ports.{port_there}
pub use Rattle.world_nodes.proofs.Puts.{short_frame}
pub use Rattle.world_nodes.proofs.Taking.{own_lane}
pub use Rattle.world_nodes.proofs.Wires.{IsNext, IsNumbered, added, get-map, index_from, is_next, tells_more, told_more}
