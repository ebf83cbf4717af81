-- What the answers to a start make of its node.
use Rattle.std.specs.Prelude.{◌≡◌, ℕ, ◌<◌, Bool, true, false, if◌then◌else◌}
use Rattle.net_model.specs.Premises.{IsNetwork}
use Rattle.net_model.specs.World.{Network, World, Journal}
use Rattle.net_model.specs.View.{View}
use Rattle.net_model.specs.Needed.{view_of}
use Rattle.net_model.specs.Invariant.{Conserved}
use Rattle.net_model.specs.Journal.{checkpoint_need, checkpointed, is_blank, is_checkpoint_due, recovered_journal}
use Rattle.net_model.specs.Fold.{view_batch, view_restarted}
use Rattle.net_model.specs.Start.{may_resolve, resolved_journal}
use Rattle.net_model.specs.Action.{Recovery, Start, Started, StartStopped}
use Rattle.net_model.specs.Step.{step, is_quiet, IsStep}
use Rattle.law_recovery.specs.Fitting.{AllFit}

-- The view of a node after its batch in doubt was committed or not.
abbrev pub resolved_view : Network → World → ℕ → (committed : Bool) → View
resolved_view net w v committed = if committed then view_batch (view_of net w v) (w.in_doubt v).batch else view_of net w v

-- The journal, read with the batch in doubt or without it, is due for a checkpoint.
pub record MayCheckpoint (net : Network) (w : World) (v : ℕ) (committed : Bool) : Type 0 where
  pub may : may_resolve (w.in_doubt v) committed ≡ true
  pub started : is_blank (w.journal v) ≡ false
  pub due : is_checkpoint_due (resolved_journal w v committed) (checkpoint_need (resolved_view net w v committed)) ≡ true

-- The journal after that checkpoint.
abbrev pub checkpoint_of : Network → World → ℕ → (committed : Bool) → Journal
checkpoint_of net w v committed = checkpointed (resolved_journal w v committed) (checkpoint_need (resolved_view net w v committed))

-- The node is down, nothing waits for its wires, and its batch in doubt fits.
pub record MayStart (net : Network) (w : World) (v : ℕ) : Type 0 where
  pub network : IsNetwork net
  pub conserved : Conserved net w
  pub node : v < net.site.nodes
  pub down : w.up v ≡ false
  pub quiet : is_quiet net w v ≡ true
  pub fits : AllFit net (view_of net w v) (w.in_doubt v).batch

-- The start succeeds on this journal, whose batches give back this view.
pub record Starts (net : Network) (w : World) (v : ℕ) (recovery : Recovery) (journal : Journal) (view : View) : Type 0 where
  pub may : IsStep net w (Start v recovery)
  pub said : (step net w (Start v recovery)).1 ≡ Started
  pub up : (step net w (Start v recovery)).0.up v ≡ true
  pub sees : view_of net (step net w (Start v recovery)).0 v ≡ view_restarted view
  pub journal' : (step net w (Start v recovery)).0.journal v ≡ recovered_journal journal (checkpoint_need view)
  pub drawn : (step net w (Start v recovery)).0.drawn v ≡ w.drawn v

-- The start is interrupted. The view of the node and its batch in doubt stay.
pub record Stops (net : Network) (w : World) (v : ℕ) (recovery : Recovery) : Type 0 where
  pub may : IsStep net w (Start v recovery)
  pub said : (step net w (Start v recovery)).1 ≡ StartStopped
  pub down : (step net w (Start v recovery)).0.up v ≡ false
  pub sees : view_of net (step net w (Start v recovery)).0 v ≡ view_of net w v
  pub doubt : ((step net w (Start v recovery)).0.in_doubt v).batch ≡ (w.in_doubt v).batch
  pub drawn : (step net w (Start v recovery)).0.drawn v ≡ w.drawn v
