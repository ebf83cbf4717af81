-- What an action or a script does to a network that carries it out.
use Rattle.std.specs.Prelude.{◌≡◌, ℕ, List, [], ◌∷◌}
use Rattle.disk_model.specs.declared.arm.Arm.{Arm}
use Rattle.disk_model.specs.declared.arm.Arm.TheVariants as arms
use Rattle.disk_model.specs.declared.arm.Image.{Image as DiskImage}
use Rattle.disk_model.specs.declared.arm.Image.TheVariants as images
use Rattle.net_model.specs.Site.{Site}
use Rattle.net_model.specs.World.{Network, World}
use Rattle.net_model.specs.Action.{Action, Outcome, Image, Fault, ForgedMatch}
use Rattle.net_model.specs.Action as actions
use Rattle.net_model.specs.Step.{step, IsStep}
use Rattle.run_types.specs.declared.item.Item.{Item}
use Rattle.run_ops.specs.Reported.{delivered}
use Rattle.run_model.specs.Script.{Script}
use Rattle.run_model.specs.Play.{Whole, plain, numbered, play, IsPlay}
use Rattle.run_ops.specs.Quiet.{IsQuiet}
use Rattle.run_ops.specs.declared.tampered.Tampered.{Tampered}
use Rattle.run_ops.specs.declared.tampered.Tampered.TheVariants as tamperings

-- The model's words for the two disk faults: what a crash leaves of a disk, and the fault that is set in it.
abbrev pub image_left : DiskImage → Image
image_left images.Lost = actions.Lost
image_left images.Kept = actions.Kept
image_left images.Torn = actions.Torn

abbrev pub fault_of : Arm → Fault
fault_of (arms.Cut call image) = actions.Cut call (image_left image)
fault_of (arms.Fail call) = actions.Fail call

-- The outcome of passing octets that need not be a frame.
abbrev pub tampered : Tampered → Outcome
tampered (tamperings.Came delivery) = delivered delivery
tampered tamperings.Matched = ForgedMatch

-- The value stands for this network and this world, between two lines of the scenario.
pub record IsReady {S : Type 0} (Stands : S → Network → World → Type 0) (s : S) (net : Network) (w : World) : Type 0 where
  pub stands : Stands s net w
  pub quiet : IsQuiet w

-- The requested action was carried out with some answers of the outside, and had this outcome. Between the old and
-- the new value, parts failed and disks were armed just as the action says.
pub record Does {S : Type 0} (Stands : S → Network → World → Type 0) (Tallied : S → S → Site → List Action → Type 0) (old new : S) (net : Network) (w : World)
    (asked : Action) (outcome : Outcome) : Type 0 where
  pub action : Action
  pub is : plain action ≡ asked
  pub may : IsStep net w action
  pub said : (step net w action).1 ≡ outcome
  pub ready : IsReady Stands new net (step net w action).0
  pub tallied : Tallied old new net.site (action ∷ [])

-- The first actions of a script were carried out, and the run ends there. The new value is left in the world after
-- them.
pub record Begins {S : Type 0} (Rests : S → Network → World → Type 0) (Tallied : S → S → Site → List Action → Type 0) (old new : S) (net : Network) (w : World)
    (script : Script) : Type 0 where
  pub actions : List Action
  pub is : IsPlay net w script actions
  pub rests : Rests new net (play net 0 w script actions).world
  pub tallied : Tallied old new net.site actions

-- The whole script was carried out, and reported these items.
pub record Plays {S : Type 0} (Stands : S → Network → World → Type 0) (Tallied : S → S → Site → List Action → Type 0) (old new : S) (net : Network) (w : World)
    (script : Script) (items : List Item) : Type 0 where
  pub actions : List Action
  pub after : World
  pub is : IsPlay net w script actions
  pub said : (number : ℕ) → play net number w script actions ≡ record { items = numbered number items; world = after; ending = Whole }
  pub ready : IsReady Stands new net after
  pub tallied : Tallied old new net.site actions
