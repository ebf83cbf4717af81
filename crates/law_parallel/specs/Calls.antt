-- What each worker did on the lanes of a block: each deed with its place in the lane's log.
use Rattle.std.specs.Prelude.{◌≡◌, ℕ, ◌+◌, true, false, List, [], ◌∷◌, length, map, take, slice_get, Some}
use Rattle.std.specs.List.{list_all}
use Rattle.qkd_base.specs.declared.lane.Lane.{Lane}
use Rattle.net_model.specs.Site.{sender, count_up}
use Rattle.net_model.specs.World.{Network, World}
use Rattle.net_model.specs.Events.{is_lane}
use Rattle.net_model.specs.Frames.{octets_sent, frame_octets}
use Rattle.net_model.specs.Tick.{Emission, Again, New}
use Rattle.net_model.specs.Step.{IsRun}
use Rattle.net_model.specs.BlockOrder.{IsMerge}
use Rattle.run_model.specs.Works.{Work, actions_in, flat, plain_work, done_from}
use Rattle.run_ops.specs.declared.job.Job.{Job}
use Rattle.run_ops.specs.Jobs.{asked_by}
use Rattle.law_locality.specs.Sending.{IsEmission}
use Rattle.law_parallel.specs.Putting.{lane_of, wanted_by}
pub use Rattle.shared_objects.specs.Rising.{placed_from}
use Rattle.law_parallel.specs.Logs.{Deed, Claims, Puts, Repeats, claims_put, done_for_plans, is_answered, wanted_on}
use Rattle.law_parallel.specs.Puts.{LaneFrame, allocation_of}
use Rattle.law_parallel.specs.Workers.{of_worker}

abbrev pub deeds : List (ℕ × Deed) → List Deed
deeds calls = map (λ (c : ℕ × Deed). c.1) calls

-- The places of the claims among these deeds.
abbrev pub claims_made : List (ℕ × Deed) → List ℕ
claims_made [] = []
claims_made ((place, Claims line order) ∷ calls) = place ∷ claims_made calls
claims_made ((place, Puts claim answer) ∷ calls) = claims_made calls
claims_made ((place, Repeats line repeat answer) ∷ calls) = claims_made calls

-- The worker did on the lane what the plans of its lines order there, in their order. It put the frame of each of its
-- claims once, in the order of the claims, and names the claims by their places.
pub record DidItsOwn (workers k : ℕ) (wanted : List (ℕ × Emission)) (mine : List (ℕ × Deed)) : Type 0 where
  pub wants : done_for_plans (deeds mine) ≡ of_worker workers k wanted
  pub puts : claims_put (deeds mine) ≡ claims_made mine
  pub answered : list_all is_answered (deeds mine) ≡ true

-- The log of the lane is a merge of what all workers did.
pub record IsOfWorkers (workers : ℕ) (wanted : List (ℕ × Emission)) (calls : List (List (ℕ × Deed))) (log : List Deed) : Type 0 where
  pub callers : length calls ≡ workers
  pub merged : IsMerge calls (placed_from 0 log)
  pub each : (k : ℕ) (mine : List (ℕ × Deed)) → slice_get calls k ≡ Some mine → DidItsOwn workers k wanted mine

-- The managers' turns are those of a block, and each lane's log is what the workers did there.
pub record AreWorkersWorks (net : Network) (workers : ℕ) (w : World) (jobs : List Job) (histories : List (List Work)) (calls : Lane → List (List (ℕ × Deed))) (logs : Lane → List Deed) : Type 0 where
  pub nodes : length histories ≡ net.site.nodes
  pub merged : (v : ℕ) (h : List Work) → slice_get histories v ≡ Some h → IsMerge (map (λ k. asked_by net.site workers k v 0 jobs) (count_up workers)) (map plain_work h)
  pub turns : IsRun net w (actions_in (flat histories))
  pub lanes : (l : Lane) → is_lane net.site l ≡ true → IsOfWorkers workers (wanted_on l (wanted_by (done_from net w (flat histories)))) (calls l) (logs l)
  pub undeclared : (l : Lane) → is_lane net.site l ≡ false → logs l ≡ []

-- The frames that are put.

-- The octets given for a frame before it is put: an order's payload, sealed at the frame's offset, or the octets that
-- a repeat carries.
abbrev pub octets_given : Network → World → Lane → (offset : ℕ) → Emission → List ℕ
octets_given net w l offset (New o) = net.sealing.seal l (octets_sent net w l) offset o.payload
octets_given net w l offset (Again r) = take r.length r.frame.octets

-- The frame is one that its lane's sender is to send, and has just these octets.
pub record IsSealed (net : Network) (w : World) (l : Lane) (f : LaneFrame) : Type 0 where
  pub lane : lane_of f.emission ≡ l
  pub emission : IsEmission net w (sender net.site l) f.emission
  pub octets : frame_octets net w l (Some (allocation_of f)) ≡ octets_given net w l f.offset f.emission
