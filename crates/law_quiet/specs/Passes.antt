-- Frames that were passed since a moment at which the network was at rest.
use Rattle.std.specs.Prelude.{◌≡◌, ℕ, ◌<◌, ◌≤◌, ◌==◌, ◌&&◌, ◌||◌, Bool, true, false, List, [], ◌∷◌, length, Some}
use Rattle.std.specs.List.{list_any}
use Rattle.qkd_base.specs.Lane.{lane_eq, reverse_lane}
use Rattle.qkd_base.specs.Route.{next_after}
use Rattle.qkd_base.specs.declared.lane.Lane.{Lane}
use Rattle.net_model.specs.declared.fact.Fact.{Fact}
use Rattle.net_model.specs.declared.reply.Reply.TheVariants.{HeardFact}
use Rattle.net_model.specs.Table.{route_of}
use Rattle.net_model.specs.Events.{is_lane}
use Rattle.net_model.specs.Site.{sender, receiver}
use Rattle.net_model.specs.World.{Network, World, first}
use Rattle.net_model.specs.Action.{Action, Start, Deliver, Outcome, Replies}
use Rattle.net_model.specs.Step.{step, run, IsRun}
use Rattle.law_locality.specs.Quiet.{IsQuiet}
use Rattle.law_quiet.specs.Still.{flies_on, IsStill}

-- A start brings a manager up without what its last life kept in memory.
abbrev pub is_start : Action → Bool
is_start (Start v recovery) = true
is_start _ = false

-- The action passes the frame of this number on the lane's wire as it is.
abbrev pub is_pass_of : Lane → ℕ → Action → Bool
is_pass_of l k (Deliver m number environment) = lane_eq m l && (k == number)
is_pass_of l k _ = false

-- The receiver took the frame, or it had it before.
abbrev pub is_heard : Outcome → Bool
is_heard (Replies (HeardFact is_new kind name)) = true
is_heard _ = false

-- The frame of this number was passed in the run, and heard.
unfoldable pub was_passed : Network → World → List Action → Lane → ℕ → Bool
was_passed net w [] l k = false
was_passed net w (a ∷ rest) l k = (is_pass_of l k a && is_heard (step net w a).1) || was_passed net (step net w a).0 rest l k

-- In a run from this world no manager starts, and each frame that was put was passed later, and heard.
pub record PassesAll (net : Network) (w : World) (actions : List Action) : Type 0 where
  pub starts : list_any is_start actions ≡ false
  pub passed : (l : Lane) (k : ℕ) → is_lane net.site l ≡ true → length (w.wire l) ≤ k → k < length ((run net w actions).wire l) → was_passed net w actions l k ≡ true

-- The lanes between the nodes of the fact's route are still, in both ways.
abbrev pub IsStillAlong : Network → World → Fact → Type 0
IsStillAlong net w f = (u v : ℕ) → next_after (route_of f) u ≡ Some v → (l : Lane) → is_lane net.site l ≡ true → sender net.site l ≡ u → receiver net.site l ≡ v →
    IsStill net w l × IsStill net w (reverse_lane l)

-- No fact is in flight on these lanes.
abbrev pub IsClearAlong : Network → World → Fact → Type 0
IsClearAlong net w f = (u v : ℕ) → next_after (route_of f) u ≡ Some v → (l : Lane) → is_lane net.site l ≡ true → sender net.site l ≡ u → receiver net.site l ≡ v →
    (list_any (flies_on l) (w.volatile (sender net.site l)).window ≡ false) × (list_any (flies_on (reverse_lane l)) (w.volatile (sender net.site (reverse_lane l))).window ≡ false)

-- At the end of the first run nothing was in flight on the lanes of the fact's route. In the run after it no manager starts, and
-- all frames are passed and heard. The fact may be made in either run.
pub record IsRested (net : Network) (earlier later : List Action) (f : Fact) : Type 0 where
  pub before : IsRun net first earlier
  pub quiet : IsQuiet (run net first earlier)
  pub clear : IsClearAlong net (run net first earlier) f
  pub since : IsRun net (run net first earlier) later
  pub passes : PassesAll net (run net first earlier) later

-- The world after both runs.
abbrev pub world_since : Network → (earlier later : List Action) → World
world_since net earlier later = run net (run net first earlier) later
