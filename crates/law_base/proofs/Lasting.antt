-- No action removes frames, wires, facts or knowledge.
use Rattle.std.proofs.Common.{◌≡◌, ℕ, ◌+◌, Bool, true, false, List, [], ◌∷◌, ◌++◌, length, arith, Option, Some, None}
use Rattle.std.specs.Prelude.{slice_get, if◌then◌else◌}
use Rattle.qkd_base.specs.Family.{lane_set}
use Rattle.qkd_base.specs.declared.lane.Lane.{Lane}
use Rattle.net_model.specs.declared.record.Record.{Record}
use Rattle.net_model.specs.World.{Network, World, Allocation}
use Rattle.net_model.specs.Records.{replay}
use Rattle.net_model.specs.Site.{Site}
use Rattle.net_model.specs.Action.{Action}
use Rattle.net_model.specs.Handle.{commit, stopped}
use Rattle.net_model.specs.Frames.{frame_octets, allocate}
use Rattle.net_model.specs.Start.{resolved, restarted, interrupted_start}
use Rattle.net_model.specs.Events.{is_lane}
use Rattle.net_model.specs.Premises.{IsNetwork}
use Rattle.net_model.specs.Invariant.{Conserved}
use Rattle.net_model.specs.Step.{step, run}
use Rattle.law_base.proofs.Base.{by_lane}
use Rattle.law_base.proofs.Growing.{replay_grows, replay_more_blocks}
use Rattle.law_base.proofs.Walks.{IsPreserved, step_walk}
use Rattle.law_base.proofs.Lists.{get_prefix}
use Rattle.law_base.proofs.Growth.{Outgrows, octets_stay}

-- A world that differs in none of these counts as one that has outgrown the other.
same_more : (w : World) → Outgrows w w
same_more w = record { facts = λ n f h. h; known = λ u n h. h; blocks = λ l. omega arith; frames = λ l j a h. h; wire = λ l n j h. h }

pub then_more : (a b c : World) → Outgrows a b → Outgrows b c → Outgrows a c
then_more a b c g h = record {
  facts = λ n f x. h.facts n f (g.facts n f x);
  known = λ u n x. h.known u n (g.known u n x);
  blocks = λ l. let x = g.blocks l in let y = h.blocks l in omega arith;
  frames = λ l j a x. h.frames l j a (g.frames l j a x);
  wire = λ l n j x. h.wire l n j (g.wire l n j x);
}

replayed_more : (s : Site) (w : World) (v : ℕ) (batch : List Record) → Outgrows w (record w { durable = replay s v batch w.durable })
replayed_more s w v batch =
    let grown = replay_grows s v batch w.durable in
    let blocks = replay_more_blocks s v batch w.durable in
    record { facts = grown.facts; known = grown.known; blocks = blocks; frames = λ l j a h. h; wire = λ l n j h. h }

module _ (net : Network) (w : World) where
  settled_more : (v : ℕ) (committed : Bool) → Outgrows w (resolved net.site w v committed)
  settled_more v true =
      let m = replayed_more net.site w v (w.in_doubt v).batch in record { facts = m.facts; known = m.known; blocks = m.blocks; frames = m.frames; wire = m.wire }
  settled_more v false = let m = same_more w in record { facts = m.facts; known = m.known; blocks = m.blocks; frames = m.frames; wire = m.wire }

  interrupted_more : (v : ℕ) (made : Option Bool) → Outgrows w (interrupted_start net w v made)
  interrupted_more v None = let m = same_more w in record { facts = m.facts; known = m.known; blocks = m.blocks; frames = m.frames; wire = m.wire }
  interrupted_more v (Some committed) = let m = same_more w in record { facts = m.facts; known = m.known; blocks = m.blocks; frames = m.frames; wire = m.wire }

-- An interrupted start, and the start after it that goes on from its checkpoint.
resumed_more : (net : Network) (w : World) (v : ℕ) (committed : Bool) → Outgrows w (resolved net.site (interrupted_start net w v (Some committed)) v committed)
resumed_more net w v committed =
    let halted : World = interrupted_start net w v (Some committed) in
    then_more w halted (resolved net.site halted v committed) (interrupted_more net w v (Some committed)) (settled_more net halted v committed)

module _ (net : Network) (w : World) where
  -- If one lane's wire gets longer, frames on all wires keep their places.
  wire_more : (l : Lane) (wire : List ℕ) → ((k j : ℕ) → slice_get (w.wire l) k ≡ Some j → slice_get wire k ≡ Some j) →
      (k : Lane) (i j : ℕ) → slice_get (w.wire k) i ≡ Some j → slice_get (lane_set w.wire l wire k) i ≡ Some j
  wire_more l wire more = by_lane (λ k b. (i j : ℕ) → slice_get (w.wire k) i ≡ Some j → slice_get (if b then wire else w.wire k) i ≡ Some j) l more (λ k i j h. h)

  lasts : IsPreserved net w (Outgrows w)
  unfolding commit stopped allocate restarted
  lasts =
      let m = same_more w in
      record {
        same = m;
        commits = λ v octets e. let x = replayed_more net.site w v e.batch in record { facts = x.facts; known = x.known; blocks = x.blocks; frames = x.frames; wire = x.wire };
        stops = λ v octets e. record { facts = m.facts; known = m.known; blocks = m.blocks; frames = m.frames; wire = m.wire };
        allocates = λ t.
            let new : Allocation = record { offset = length (w.durable.own t.lane); item = t.item } in
            record {
              facts = m.facts;
              known = m.known;
              blocks = m.blocks;
              frames = by_lane (λ k b. (j : ℕ) (a : Allocation) → slice_get (w.frames k) j ≡ Some a → slice_get (if b then w.frames t.lane ++ new ∷ [] else w.frames k) j ≡ Some a) t.lane
                  (λ j a h. get_prefix (w.frames t.lane) (new ∷ []) j a h) (λ k j a h. h);
              wire = m.wire;
            };
        refuses = λ l o. record { facts = m.facts; known = m.known; blocks = m.blocks; frames = m.frames; wire = wire_more l (w.wire l) (λ k j h. h) };
        puts = λ l o. record {
          facts = m.facts;
          known = m.known;
          blocks = m.blocks;
          frames = m.frames;
          wire = wire_more l (w.wire l ++ o.frame ∷ []) (λ k j h. get_prefix (w.wire l) (o.frame ∷ []) k j h);
        };
        notes = λ x v g. record { facts = g.facts; known = g.known; blocks = g.blocks; frames = g.frames; wire = g.wire };
        starts = λ v committed. let x = settled_more net w v committed in record { facts = x.facts; known = x.known; blocks = x.blocks; frames = x.frames; wire = x.wire };
        resumes = λ v committed. let x = resumed_more net w v committed in record { facts = x.facts; known = x.known; blocks = x.blocks; frames = x.frames; wire = x.wire };
        interrupts = interrupted_more net w;
        crashes = λ v. record { facts = m.facts; known = m.known; blocks = m.blocks; frames = m.frames; wire = m.wire };
        links = λ link up. record { facts = m.facts; known = m.known; blocks = m.blocks; frames = m.frames; wire = m.wire };
      }

pub step_more : (net : Network) (w : World) (a : Action) → Outgrows w (step net w a).0
step_more net w a = step_walk net w (Outgrows w) (lasts net w) a

pub run_more : (net : Network) (w : World) (actions : List Action) → Outgrows w (run net w actions)
unfolding run
run_more net w [] = same_more w
run_more net w (a ∷ rest) = then_more w (step net w a).0 (run net (step net w a).0 rest) (step_more net w a) (run_more net (step net w a).0 rest)

-- A frame on a wire stays there with its octets.

pub frames_stay : (net : Network) (w : World) (actions : List Action) (l : Lane) (j : ℕ) (a : Allocation) → slice_get (w.frames l) j ≡ Some a →
    slice_get ((run net w actions).frames l) j ≡ Some a
frames_stay net w actions l j a h = (run_more net w actions).frames l j a h

pub wire_stays : (net : Network) (w : World) (actions : List Action) (l : Lane) (n j : ℕ) → slice_get (w.wire l) n ≡ Some j → slice_get ((run net w actions).wire l) n ≡ Some j
wire_stays net w actions l n j h = (run_more net w actions).wire l n j h

pub octets_last : (net : Network) (w : World) (actions : List Action) (l : Lane) (j : ℕ) (a : Allocation) → IsNetwork net → Conserved net w → is_lane net.site l ≡ true →
    slice_get (w.frames l) j ≡ Some a → frame_octets net (run net w actions) l (Some a) ≡ frame_octets net w l (Some a)
octets_last net w actions l j a network c at there = octets_stay net w network c (run net w actions) (run_more net w actions) l j a at there
