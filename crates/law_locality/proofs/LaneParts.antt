-- Of a lane that an action touches, the parts that the action doesn't change stay as they were.
use Rattle.std.proofs.Common.{◌≡◌, ℕ, Bool, true, false, ◌&&◌, ◌||◌, List, [], ◌∷◌, ◌++◌, refl, sym, ap, subst, Option, Some, None}
use Rattle.std.specs.Prelude.{◌==◌, nat_lt, filter, if◌then◌else◌}
use Rattle.std.specs.List.{flat_map}
use Rattle.qkd_base.specs.declared.lane.Lane.{Lane}
use Rattle.net_model.specs.declared.event.Event.{Event}
use Rattle.net_model.specs.declared.event.Event.TheVariants.{Block, Plan}
use Rattle.net_model.specs.declared.record.Record.{Record}
use Rattle.net_model.specs.declared.record.Record.TheVariants.{Block as Block', Lease as Lease'}
use Rattle.net_model.specs.declared.reply.Reply.TheVariants.{LinkFull, Took}
use Rattle.net_model.specs.Premises.{IsNetwork}
use Rattle.net_model.specs.OctetSequence.{block_at}
use Rattle.net_model.specs.Site.{Site, sender}
use Rattle.net_model.specs.World.{Network, World, Durable, Transmission, Entry, Outgoing as Outgoing'}
use Rattle.net_model.specs.Records.{apply_record, replay}
use Rattle.net_model.specs.View.{View, Port, port_of, blocks_of, received_of}
use Rattle.net_model.specs.Needed.{view_of}
use Rattle.net_model.specs.Plan.{end_on, raise, leases_on, plan}
use Rattle.net_model.specs.Decision.{Refuses, Does, Effect, makes}
use Rattle.net_model.specs.Decide.{decide, random_need}
use Rattle.net_model.specs.Invariant.{Conserved}
use Rattle.net_model.specs.Action.{Environment, Action, Start, TakeBlock, Ask, Allocate, Transmit, Recovery, Recovers, Resumes, Interrupted, NoMemory, Foreign, Outcome, is_no_memory, is_io_fault}
use Rattle.net_model.specs.Handle.{with_orders, with_repeats, commit, stopped, perform, handle, blocks_at, take_block}
use Rattle.net_model.specs.Frames.{allocate, outgoing_of, put, transmit_one, transmit}
use Rattle.net_model.specs.Start.{restarted, recovers, start}
use Rattle.net_model.specs.Step.{step, is_enabled}
use Rattle.law_base.proofs.Base.{and_left, by_test}
use Rattle.law_base.proofs.Walks.{perform_walk, handle_walk, take_block_walk}
use Rattle.law_invariant.specs.May.{is_plan}
use Rattle.law_invariant.proofs.Decisions.{plan_is}
use Rattle.law_locality.specs.Touched.{touches_lane, LanePart, Blocks, Own, Lease, Recovered, Frames, Wire, Unclaimed, Outgoing, changes_part, PartStays, LaneStays}
use Rattle.law_locality.proofs.LaneSteps.{step_lane}

part_of_lane : (p : LanePart) (l : Lane) (w after : World) → LaneStays l w after → PartStays p l w after
part_of_lane Blocks l w after h = h.blocks
part_of_lane Own l w after h = h.own
part_of_lane Lease l w after h = h.lease
part_of_lane Recovered l w after h = h.recovered
part_of_lane Frames l w after h = h.frames
part_of_lane Wire l w after h = h.wire
part_of_lane Unclaimed l w after h = h.unclaimed
part_of_lane Outgoing l w after h = h.outgoing

-- Leases change neither blocks nor owners.

abbrev IsLease : Record → Type 0
IsLease (Lease' l end) = Unit {0}
IsLease _ = ⊥

abbrev AreLeases : List Record → Type 0
AreLeases [] = Unit {0}
AreLeases (r ∷ rs) = IsLease r × AreLeases rs

are_leases : (s : Site) (see : View) (ps : List Port) → AreLeases (flat_map (leases_on s see) ps)
are_leases s see [] = tt
are_leases s see (p ∷ ps) =
    elim (nat_lt p.lease (end_on s see p)) as (λ t. AreLeases ((if t then Lease' p.lane (raise (end_on s see p) (received_of p)) ∷ [] else []) ++ flat_map (leases_on s see) ps)) [
      | true ↦ (tt, are_leases s see ps)
      | false ↦ are_leases s see ps
    ]

record IsLeased (a b : Durable) : Type 0 where
  blocks : b.blocks ≡ a.blocks
  own : b.own ≡ a.own

leased : (s : Site) (v : ℕ) (rs : List Record) → AreLeases rs → (d : Durable) → IsLeased d (replay s v rs d)
unfolding replay apply_record
leased s v [] h d = record { blocks = refl; own = refl }
leased s v (Lease' l end ∷ rs) h d = let rest = leased s v rs h.1 (apply_record s v (Lease' l end) d) in record { blocks = rest.blocks; own = rest.own }
leased s v (_ ∷ rs) h d = absurd h.0

plan_leased : (s : Site) (up : ℕ → Bool) (see : View) (v : ℕ) (d : Durable) → IsLeased d (replay s v (plan s up see).batch d)
unfolding plan
plan_leased s up see v d = leased s v (flat_map (leases_on s see) (filter (λ (p : Port). up p.lane.link) see.ports)) (are_leases s see (filter (λ (p : Port). up p.lane.link) see.ports)) d

module _ (net : Network) (w : World) (l : Lane) where
  -- The parts that no effect changes.
  record IsFramed (after : World) : Type 0 where
    recovered : after.recovered l ≡ w.recovered l
    frames : after.frames l ≡ w.frames l
    wire : after.wire l ≡ w.wire l

  -- An effect without orders also leaves the lane's orders and waiting frames unchanged.
  record IsSilent (after : World) : Type 0 where
    framed : IsFramed after
    unclaimed : after.unclaimed l ≡ w.unclaimed l
    outgoing : after.outgoing l ≡ w.outgoing l

  -- An effect whose records are all leases also leaves the owners unchanged.
  record IsPlanned (after : World) : Type 0 where
    framed : IsFramed after
    blocks : after.durable.blocks l ≡ w.durable.blocks l
    own : after.durable.own l ≡ w.durable.own l

  silent : IsSilent w
  silent = record { framed = record { recovered = refl; frames = refl; wire = refl }; unclaimed = refl; outgoing = refl }

  planned : IsPlanned w
  planned = record { framed = record { recovered = refl; frames = refl; wire = refl }; blocks = refl; own = refl }

  stopped_silent : (v octets : ℕ) (e : Effect) → IsSilent (stopped w v octets e)
  unfolding stopped
  stopped_silent v octets e = record { framed = record { recovered = refl; frames = refl; wire = refl }; unclaimed = refl; outgoing = refl }

  commit_silent : (v octets : ℕ) (e : Effect) → e.orders ≡ [] → e.repeats ≡ [] → IsSilent (commit net.site w v octets e)
  unfolding commit
  commit_silent v octets e orders repeats =
      record {
        framed = record { recovered = refl; frames = refl; wire = refl };
        unclaimed = ap (λ (ts : List Transmission). with_orders ts w.unclaimed l) orders;
        outgoing = ap (λ (es : List Entry). with_repeats es w.frames w.outgoing l) repeats;
      }

  stopped_planned : (v octets : ℕ) (e : Effect) → IsPlanned (stopped w v octets e)
  unfolding stopped
  stopped_planned v octets e = record { framed = record { recovered = refl; frames = refl; wire = refl }; blocks = refl; own = refl }

  commit_planned : (v octets : ℕ) (e : Effect) → IsLeased w.durable (replay net.site v e.batch w.durable) → IsPlanned (commit net.site w v octets e)
  unfolding commit
  commit_planned v octets e h =
      record {
        framed = record { recovered = refl; frames = refl; wire = refl };
        blocks = ap (λ (f : Lane → ℕ). f l) h.blocks;
        own = ap (λ f. f l) h.own;
      }

  block_silent : (v link : ℕ) (environment : Environment) → IsSilent (take_block net w v link environment).0
  unfolding decide
  block_silent v link environment =
      let number : ℕ = blocks_at net w v link in
      let bytes : List ℕ = block_at (net.device link) number in
      let taken : Effect = record { batch = Block' link number bytes ∷ []; volatile = (view_of net w v).volatile; orders = []; repeats = []; reply = Took number } in
      let octets : ℕ = random_need (view_of net w v) (Block link number bytes) in
      take_block_walk net w IsSilent silent v link environment (λ not_full.
      handle_walk net w IsSilent silent v (Block link number bytes) environment (λ up e is.
      elim (blocks_of (port_of (view_of net w v) link) == 1024) as (λ t. (if t then Refuses LinkFull else makes (view_of net w v) (Block' link number bytes ∷ []) (Took number)) ≡ Does e →
      IsSilent (perform net w v octets environment e).0) [
        | true ↦ λ x. absurd (cc)
        | false ↦ λ x.
            let same : taken ≡ e = cc in
            subst (λ (k : Effect). IsSilent (perform net w v octets environment k).0) same
            (perform_walk net w IsSilent silent v octets environment taken (λ numbered fits. stopped_silent v octets taken) (λ numbered fits. commit_silent v octets taken refl refl))
      ] is))

  plan_planned : (v : ℕ) (environment : Environment) → IsPlanned (handle net w v Plan environment).0
  unfolding decide
  plan_planned v environment =
      let effect : Effect = plan net.site w.link_up (view_of net w v) in
      let octets : ℕ = random_need (view_of net w v) Plan in
      handle_walk net w IsPlanned planned v Plan environment (λ up e is.
      let same : effect ≡ e = cc in
      subst (λ (k : Effect). IsPlanned (perform net w v octets environment k).0) same
      (perform_walk net w IsPlanned planned v octets environment effect (λ numbered fits. stopped_planned v octets effect)
      (λ numbered fits. commit_planned v octets effect (plan_leased net.site w.link_up (view_of net w v) v w.durable))))

  -- Lemmas on the parts of a lane that is touched.

  start_framed : (p : LanePart) (v : ℕ) (recovery : Recovery) → changes_part p (Start v recovery) ≡ false → PartStays p l w (recovers net w v recovery).0
  unfolding restarted
  start_framed Frames v (Recovers committed) h = refl
  start_framed Frames v (Resumes committed) h = refl
  start_framed Frames v (Interrupted None) h = refl
  start_framed Frames v (Interrupted (Some committed)) h = refl
  start_framed Frames v NoMemory h = refl
  start_framed Frames v Foreign h = refl
  start_framed Wire v (Recovers committed) h = refl
  start_framed Wire v (Resumes committed) h = refl
  start_framed Wire v (Interrupted None) h = refl
  start_framed Wire v (Interrupted (Some committed)) h = refl
  start_framed Wire v NoMemory h = refl
  start_framed Wire v Foreign h = refl
  start_framed Unclaimed v (Recovers committed) h = refl
  start_framed Unclaimed v (Resumes committed) h = refl
  start_framed Unclaimed v (Interrupted None) h = refl
  start_framed Unclaimed v (Interrupted (Some committed)) h = refl
  start_framed Unclaimed v NoMemory h = refl
  start_framed Unclaimed v Foreign h = refl
  start_framed Outgoing v (Recovers committed) h = refl
  start_framed Outgoing v (Resumes committed) h = refl
  start_framed Outgoing v (Interrupted None) h = refl
  start_framed Outgoing v (Interrupted (Some committed)) h = refl
  start_framed Outgoing v NoMemory h = refl
  start_framed Outgoing v Foreign h = refl
  start_framed Blocks v recovery h = absurd (cc)
  start_framed Own v recovery h = absurd (cc)
  start_framed Lease v recovery h = absurd (cc)
  start_framed Recovered v recovery h = absurd (cc)

  same_part : (p : LanePart) → PartStays p l w w
  same_part p = part_of_lane p l w w (record { blocks = refl; own = refl; lease = refl; recovered = refl; frames = refl; wire = refl; unclaimed = refl; outgoing = refl })

  start_part : (p : LanePart) (v : ℕ) (recovery : Recovery) → changes_part p (Start v recovery) ≡ false → PartStays p l w (start net w v recovery).0
  unfolding start
  start_part p v recovery h = by_test (λ (r : World × Outcome). PartStays p l w r.0) (w.up v) _ _ (λ up. same_part p) (λ down. start_framed p v recovery h)

  block_part : (p : LanePart) (v link : ℕ) (environment : Environment) → changes_part p (TakeBlock v link environment) ≡ false →
      PartStays p l w (take_block net w v link environment).0
  block_part Recovered v link environment h = (block_silent v link environment).framed.recovered
  block_part Frames v link environment h = (block_silent v link environment).framed.frames
  block_part Wire v link environment h = (block_silent v link environment).framed.wire
  block_part Unclaimed v link environment h = (block_silent v link environment).unclaimed
  block_part Outgoing v link environment h = (block_silent v link environment).outgoing
  block_part Blocks v link environment h = absurd (cc)
  block_part Own v link environment h = absurd (cc)
  block_part Lease v link environment h = absurd (cc)

  plan_part : (p : LanePart) (v : ℕ) (environment : Environment) → changes_part p (Ask v Plan environment) ≡ false → PartStays p l w (handle net w v Plan environment).0
  plan_part Blocks v environment h = (plan_planned v environment).blocks
  plan_part Own v environment h = (plan_planned v environment).own
  plan_part Recovered v environment h = (plan_planned v environment).framed.recovered
  plan_part Frames v environment h = (plan_planned v environment).framed.frames
  plan_part Wire v environment h = (plan_planned v environment).framed.wire
  plan_part Lease v environment h = absurd (cc)
  plan_part Unclaimed v environment h = absurd (cc)
  plan_part Outgoing v environment h = absurd (cc)

  claim_part : (p : LanePart) (t : Transmission) → changes_part p (Allocate t) ≡ false → PartStays p l w (allocate w t).0
  unfolding allocate
  claim_part Blocks t h = refl
  claim_part Lease t h = refl
  claim_part Recovered t h = refl
  claim_part Wire t h = refl
  claim_part Own t h = absurd (cc)
  claim_part Frames t h = absurd (cc)
  claim_part Unclaimed t h = absurd (cc)
  claim_part Outgoing t h = absurd (cc)

  put_part : (p : LanePart) (k : Lane) (j : ℕ) (environment : Environment) → changes_part p (Transmit k j environment) ≡ false → (o : Outgoing') (wire : List ℕ) (number : Option ℕ) →
      PartStays p l w (put net w k o wire number)
  put_part Blocks k j environment h o wire number = refl
  put_part Own k j environment h o wire number = refl
  put_part Lease k j environment h o wire number = refl
  put_part Recovered k j environment h o wire number = refl
  put_part Frames k j environment h o wire number = refl
  put_part Unclaimed k j environment h o wire number = refl
  put_part Wire k j environment h o wire number = absurd (cc)
  put_part Outgoing k j environment h o wire number = absurd (cc)

  one_part : (p : LanePart) (k : Lane) (j : ℕ) (environment : Environment) → changes_part p (Transmit k j environment) ≡ false → (o : Option Outgoing') →
      PartStays p l w (transmit_one net w k environment o).0
  one_part p k j environment h None = same_part p
  one_part p k j environment h (Some o) =
      by_test (λ (r : World × Outcome). PartStays p l w r.0) (is_no_memory environment || is_io_fault environment) _ _
      (λ x. put_part p k j environment h o _ _) (λ x. put_part p k j environment h o _ _)

  sent_part : (p : LanePart) (k : Lane) (j : ℕ) (environment : Environment) → changes_part p (Transmit k j environment) ≡ false → PartStays p l w (transmit net w k j environment).0
  unfolding transmit
  sent_part p k j environment h = one_part p k j environment h (outgoing_of j (w.outgoing k))

  event_part : (p : LanePart) (v : ℕ) (event : Event) (environment : Environment) → is_plan event ≡ true → changes_part p (Ask v event environment) ≡ false →
      PartStays p l w (handle net w v event environment).0
  event_part p v event environment plans h =
      let is : event ≡ Plan = plan_is event plans in
      subst (λ (x : Event). PartStays p l w (handle net w v x environment).0) (sym is)
      (plan_part p v environment (subst (λ (x : Event). changes_part p (Ask v x environment) ≡ false) is h))

  touched_part : (p : LanePart) (a : Action) → touches_lane net.site a l ≡ true → changes_part p a ≡ false → PartStays p l w (step net w a).0
  unfolding step
  touched_part p (Start v recovery) touched h = start_part p v recovery h
  touched_part p (TakeBlock v link environment) touched h = block_part p v link environment h
  touched_part p (Ask v event environment) touched h = event_part p v event environment (and_left (is_plan event) (sender net.site l == v) touched) h
  touched_part p (Allocate t) touched h = claim_part p t h
  touched_part p (Transmit k j environment) touched h = sent_part p k j environment h
  touched_part p _ touched h = absurd (cc)

  pub step_part : IsNetwork net → Conserved net w → (p : LanePart) (a : Action) → is_enabled net w a ≡ true → (touches_lane net.site a l && changes_part p a) ≡ false →
      PartStays p l w (step net w a).0
  step_part network c p a may h =
      elim (touches_lane net.site a l) as (λ t. touches_lane net.site a l ≡ t → (t && changes_part p a) ≡ false → PartStays p l w (step net w a).0) [
        | true ↦ λ touched same. touched_part p a touched same
        | false ↦ λ apart same. part_of_lane p l w (step net w a).0 (step_lane net w l network c a may apart)
      ] refl h
