-- A node takes a block: first its post and the link's device change, and then the lane that leaves it.
use Rattle.std.proofs.Common.{◌≡◌, ℕ, ◌+◌, ◌<◌, ◌≤◌, Bool, true, false, ◌&&◌, ◌||◌, List, [], ◌∷◌, length, refl, sym, ap, subst, ◌∙◌, arith, Option, Some}
use Rattle.std.specs.Prelude.{◌==◌, nat_lt, cond, slice_get, slice_set}
use Rattle.std.proofs.lemmas.Bool.{ltb-true}
use Rattle.qkd_base.specs.Faults.{Rose}
use Rattle.qkd_base.specs.Lane.{lane_eq}
use Rattle.qkd_base.specs.declared.lane.Lane.{Lane}
use Rattle.net_model.specs.declared.record.Record.TheVariants.{Block}
use Rattle.net_model.specs.declared.reply.Reply.TheVariants.{Took}
use Rattle.net_model.specs.Table.{fact_at}
use Rattle.net_model.specs.Site.{Site, outgoing_lane, is_incident}
use Rattle.net_model.specs.OctetSequence.{block_at}
use Rattle.net_model.specs.World.{Network, World, Durable, Allocation}
use Rattle.net_model.specs.Events.{is_lane}
use Rattle.net_model.specs.Handle.{blocks_at}
use Rattle.net_model.specs.Action.{Environment, OutOfMemory, EntropyFault, IoFault, DeviceFault, Action, TakeBlock, Outcome, Replies, DeviceFailed, is_io_fault, is_device_fault, Ok as Fine}
use Rattle.net_model.specs.Faults.{is_block_fault, wire_faults}
use Rattle.net_model.specs.Step.{step, is_enabled}
use Rattle.declared_site.specs.SiteOf.{site_of}
use Rattle.declared_site.specs.declared.site.Site.{Site as Declared}
use Rattle.world_nodes.specs.Passed.{Post}
use Rattle.route_table.specs.Layer.{bit_is_set}
use Rattle.law_base.proofs.Base.{eq_same, and_left, and_right}
use Rattle.law_base.proofs.Extending.{end_of}
use Rattle.law_locality.proofs.Links.{step_link}
use Rattle.lane_sender.specs.Lane.{LaneForm}
use Rattle.run_model.specs.Play.{is_forged}
use Rattle.run_ops.specs.Fitting.{is_fit}
use Rattle.run_ops.specs.Acting.{IsReady, Does, Begins}
use Rattle.run_model.specs.Script.{asks}
use Rattle.world_nodes.specs.LaneStands.{IsRunning, LaneStands, WireStands}
use Rattle.world_nodes.specs.Going.{GoesOn, IsReplayed}
use Rattle.world_nodes.specs.Taking.{MayTake, TakesBlock, TakesOrStays}
use Rattle.world_nodes.proofs.LaneGoing.{goes_on, batch_goes_on}
use Rattle.world_nodes.proofs.TakeBlocks.{take_makes}
use Rattle.world_nodes.specs.Stands.{PostStands}
use Rattle.world_nodes.proofs.Counted.{here_too}
use Rattle.world_nodes.specs.Blocks.{MayTake as MayTakeBlock, IsTaken}
use Rattle.world_nodes.proofs.Going.{post_on}
use Rattle.world_state.specs.Blocks.{IsBlockTaken}
use Rattle.world_state.specs.Rests.{Rests}
use Rattle.world_state.specs.Stands.{Stands, place_of}
use Rattle.world_state.specs.Tallied.{Counted, Tallied}
use Rattle.world_state.specs.declared.state.State.{State}
use Rattle.world_state.proofs.Disks.{has_disks}
use Rattle.world_state.proofs.OneSide.{OneSide, each_side, sides_same, place_within}
use Rattle.world_state.proofs.OneTallied.{all_tallied, post_once, posts_one, counted_once, still_counted, wires_still}
use Rattle.world_state.proofs.Others.{each_placed, placed_length}
use Rattle.world_state.proofs.QuietStays.{quiet_stays}
use Rattle.world_state.proofs.Receivers.{elsewhere}
use Rattle.world_state.proofs.Resting.{post_rests, rests_after}
use Rattle.world_state.proofs.StateGoesOn.{running_on, enabled_of, manager_on}
use Rattle.world_state.specs.Outside.{Outside}

some_is : {A : Type 0} {a b : A} → ◌≡◌ {A = Option A} (Some a) (Some b) → a ≡ b
some_is h = cc

fails_device : (environment : Environment) → is_device_fault environment ≡ true → environment ≡ DeviceFault
fails_device Fine h = absurd (cc h)
fails_device OutOfMemory h = absurd (cc h)
fails_device EntropyFault h = absurd (cc h)
fails_device IoFault h = absurd (cc h)
fails_device DeviceFault h = refl

spares_device : (environment : Environment) → is_device_fault environment ≡ false → environment ≡ DeviceFault → ⊥
spares_device environment none is = let bad : true ≡ false = sym (ap is_device_fault is) ∙ none in cc bad

fit_enabled : (net : Network) (w : World) (v link : ℕ) → is_fit net.site (TakeBlock v link Fine) ≡ true → is_enabled net w (TakeBlock v link Fine) ≡ true
unfolding is_enabled
fit_enabled net w v link fit = fit

takes : (net : Network) (w : World) (r : IsRunning net w) (v link : ℕ) (environment : Environment) → is_incident net.site v link ≡ true → TakesOrStays net w v link (step net w (TakeBlock v link environment))
unfolding step
takes net w r v link environment incident = take_makes net w r v link incident environment

-- If no lane of the world changes, each lane goes on.
pub goes_same : (w after : World) (k : Lane) → after.durable ≡ w.durable → after.frames ≡ w.frames → after.wire ≡ w.wire → GoesOn w after k
goes_same w after k durable frames wire = record {
  facts = λ n f is. subst (λ (d : Durable). fact_at d.facts n ≡ Some f) (sym durable) is;
  blocks = ap (λ (d : Durable). d.blocks k) durable;
  own = ap (λ (d : Durable). d.own k) durable;
  lease = subst (λ (d : Durable). w.durable.lease k ≤ d.lease k) (sym durable) (omega arith);
  frames = λ j x is. ap (λ (f : Lane → List Allocation). slice_get (f k) j) frames ∙ is;
  wire = ap (λ (f : Lane → List ℕ). f k) wire;
}

module _ {K Q E X : Type 0} (outside : Outside K Q E X) (old : State K Q E X) (net : Network) (w : World) (v link : ℕ)
    (ready : IsReady (Stands outside) old net w) (fit : is_fit (site_of old.site) (TakeBlock v link Fine) ≡ true) where
  fits : is_fit net.site (TakeBlock v link Fine) ≡ true
  fits = subst (λ (s : Site). is_fit s (TakeBlock v link Fine) ≡ true) (sym ready.stands.sited) fit

  node_there : nat_lt v net.site.nodes ≡ true
  node_there = and_left (nat_lt v net.site.nodes) (nat_lt link net.site.links) (and_left (nat_lt v net.site.nodes && nat_lt link net.site.links) (is_incident net.site v link) fits)

  pub link_there : nat_lt link net.site.links ≡ true
  link_there = and_right (nat_lt v net.site.nodes) (nat_lt link net.site.links) (and_left (nat_lt v net.site.nodes && nat_lt link net.site.links) (is_incident net.site v link) fits)

  incident : is_incident net.site v link ≡ true
  incident = and_right (nat_lt v net.site.nodes && nat_lt link net.site.links) (is_incident net.site v link) fits

  -- ---- the node's post and the link's device

  pub post_below : v < length old.posts.items
  post_below = let below = ltb-true v net.site.nodes node_there in let nodes = ready.stands.nodes in omega (arith, below, nodes)

  pub device_below : link < length old.devices.items
  device_below = let below = ltb-true link net.site.links link_there in let links = ready.stands.links in omega (arith, below, links)

  module _ (p : Post K E) (there : slice_get old.posts.items v ≡ Some p) (d : Q) (at : slice_get old.devices.items link ≡ Some d) where
    pub may_take : MayTakeBlock outside.disk outside.entropy net w v p link old.up
    may_take = record { running = ready.stands.running; stands = ready.stands.posts v p there; enabled = fit_enabled net w v link fits; links = ready.stands.up }

    pub tells : outside.device.told d ≡ Some (net.device link)
    tells = ready.stands.devices link d at

    module _ (new : State K Q E X) (q : Post K E) (e : Q)
        (site : new.site ≡ old.site) (posts : new.posts.items ≡ slice_set old.posts.items v q) (devices : new.devices.items ≡ slice_set old.devices.items link e)
        (lanes : new.lanes.items ≡ old.lanes.items) (up : new.up ≡ old.up) (outcome : Outcome) (h : IsTaken outside.disk outside.entropy net w v link p q outcome)
        (cause : outcome ≡ DeviceFailed → Rose (outside.device.faults d) (outside.device.faults e)) (same : outside.device.told e ≡ outside.device.told d) (later : outside.device.faults d ≤ outside.device.faults e)
        (calm : (outcome ≡ DeviceFailed → ⊥) → outside.device.faults e ≡ outside.device.faults d) where
      abbrev a : Action
      a = TakeBlock v link h.environment

      device_counted : Counted (0 + cond (is_block_fault link a) 1 0) (outside.device.faults d) (outside.device.faults e)
      device_counted = counted_once (is_block_fault link a) (outside.device.faults d) (outside.device.faults e)
          (record {
            later = later;
            rose = λ fault. cause (h.device (fails_device h.environment (and_right (link == link) (is_device_fault h.environment) fault)));
            calm = λ none. calm (λ failed. spares_device h.environment (sym (here_too (link == link) (is_device_fault h.environment) (eq_same link)) ∙ none) (h.no_device failed));
          })

      tallied : Tallied outside old new net.site (a ∷ [])
      tallied =
          all_tallied outside net.site a old new (placed_length old.posts.items new.posts.items v q posts)
          (placed_length old.devices.items new.devices.items link e devices) (ap length lanes)
          (posts_one outside net.site a old new (has_disks outside old net w ready.stands) v p q there posts
          (post_once outside net.site a v (is_io_fault h.environment) false p q
          (here_too (v == v) (is_io_fault h.environment) (eq_same v)) refl refl h.counts)
          (λ u other. (ap (λ (b : Bool). b && is_io_fault h.environment) (elsewhere v u other), refl, refl)))
          (λ k x y was is.
          each_placed old.devices.items new.devices.items link e devices
          (λ n z. (t : Q) → slice_get old.devices.items n ≡ Some t → Counted (0 + cond (is_block_fault n a) 1 0) (outside.device.faults t) (outside.device.faults z))
          (λ t here. let one : d ≡ t = some_is (sym at ∙ here) in subst (λ (s : Q). Counted (0 + cond (is_block_fault link a) 1 0) (outside.device.faults s) (outside.device.faults e)) one device_counted)
          (λ n z other stood t here.
          let one : z ≡ t = some_is (sym stood ∙ here) in
          subst (λ (s : Q). Counted (0 + cond (is_block_fault n a) 1 0) (outside.device.faults s) (outside.device.faults z)) one
          (still_counted (is_block_fault n a) (outside.device.faults z) (ap (λ (b : Bool). b && is_device_fault h.environment) (elsewhere link n other))))
          k y is x was)
          (wires_still outside net.site a old new lanes (λ l. refl))

      pub block_taken : (block : List ℕ) → ((number : ℕ) → outcome ≡ Replies (Took number) → block ≡ block_at (net.device link) (blocks_at net w v link)) →
          IsBlockTaken outside old new net w v link block outcome
      block_taken block is = record {
        environment = h.environment;
        may = h.may;
        said = h.said;
        site = site;
        nodes = placed_length old.posts.items new.posts.items v q posts;
        posts = each_placed old.posts.items new.posts.items v q posts (λ u x. PostStands outside.disk outside.entropy net (step net w a).0 u x) h.stands
            (λ u x other stood.
            post_on outside.disk outside.entropy net w (step net w a).0 u (manager_on net w a u ready.stands.running (enabled_of net w a h.may) (elsewhere v u other)) x (ready.stands.posts u x stood));
        lanes = lanes;
        links = placed_length old.devices.items new.devices.items link e devices;
        devices = each_placed old.devices.items new.devices.items link e devices (λ k x. outside.device.told x ≡ Some (net.device k)) (same ∙ tells) (λ k x other stood. ready.stands.devices k x stood);
        up = up;
        octets = is;
        tallied = tallied;
      }

  -- ---- the lane

  module _ (mid : State K Q E X) (block : List ℕ) (outcome : Outcome)
      (h : IsBlockTaken outside old mid net w v link block outcome) where
    abbrev b : Action
    b = TakeBlock v link h.environment

    abbrev after : World
    after = (step net w b).0

    abbrev Done : State K Q E X → Type 0
    Done new = Does (Stands outside) (Tallied outside) old new net w (TakeBlock v link Fine) outcome

    made : TakesOrStays net w v link (step net w b)
    made = takes net w ready.stands.running v link h.environment incident

    stood : (k : Lane) (side : LaneForm X) → is_lane net.site k ≡ true → slice_get mid.lanes.items (place_of k) ≡ Some side → LaneStands outside.wire net w k side
    stood k side at there = ready.stands.lanes k side at (ap (λ (xs : List (LaneForm X)). slice_get xs (place_of k)) (sym h.lanes) ∙ there)

    -- all parts except the lanes
    others : (new : State K Q E X) → new.site ≡ mid.site → new.posts.items ≡ mid.posts.items → new.devices.items ≡ mid.devices.items → new.up ≡ mid.up → length new.lanes.items ≡ length mid.lanes.items →
        ((k : Lane) (side : LaneForm X) → is_lane net.site k ≡ true → slice_get new.lanes.items (place_of k) ≡ Some side → LaneStands outside.wire net after k side) →
        Tallied outside old new net.site (b ∷ []) → Done new
    others new site posts devices up sides lanes tallied = record {
      action = b;
      is = refl;
      may = h.may;
      said = h.said;
      ready = record {
        stands = record {
          running = running_on net w b ready.stands.running h.may;
          sited = ready.stands.sited ∙ sym (ap site_of (site ∙ h.site));
          nodes = ap length posts ∙ h.nodes ∙ ready.stands.nodes;
          posts = λ u p there. h.posts u p (ap (λ (xs : List (Post K E)). slice_get xs u) (sym posts) ∙ there);
          sides = sides ∙ ap length h.lanes ∙ ready.stands.sides;
          lanes = lanes;
          links = ap length devices ∙ h.links ∙ ready.stands.links;
          devices = λ k q there. h.devices k q (ap (λ (xs : List Q). slice_get xs k) (sym devices) ∙ there);
          up = λ k below. step_link net w b k refl ∙ ready.stands.up k below ∙ ap (λ (n : ℕ). bit_is_set n k) (sym (up ∙ h.up));
        };
        quiet = quiet_stays net w b ready.stands.running (enabled_of net w b h.may) refl ready.quiet;
      };
      tallied = tallied;
    }

    -- the lane that leaves the node
    pub lane_is : (l : Lane) → l ≡ outgoing_lane (site_of mid.site) v link → l ≡ outgoing_lane net.site v link
    lane_is l is = is ∙ ap (λ (d : Declared). outgoing_lane (site_of d) v link) h.site ∙ ap (λ (s : Site). outgoing_lane s v link) (sym ready.stands.sited)

    pub lane_below : place_of (outgoing_lane net.site v link) < length mid.lanes.items
    lane_below = place_within net.site (outgoing_lane net.site v link) _ link_there (ap length h.lanes ∙ ready.stands.sides)

    -- No block was taken.
    pub none_done : ((number : ℕ) → outcome ≡ Replies (Took number) → ⊥) → Done mid
    none_done none =
        let same = made.otherwise (λ number is. none number (sym h.said ∙ is)) in
        others mid refl refl refl refl refl
        (λ k side at there. goes_on outside.wire net w after k side ready.stands.running at (goes_same w after k same.0 same.1 same.2) (stood k side at there)) h.tallied

    -- A block was taken.

    module _ (number : ℕ) (took : outcome ≡ Replies (Took number)) where
      abbrev lane : Lane
      lane = outgoing_lane net.site v link

      made_here : (number ≡ blocks_at net w v link) × (number < 1024) × IsReplayed net w after v (Block link number (block_at (net.device link) number) ∷ [])
      made_here = made.took number (h.said ∙ took)

      octets : block ≡ block_at (net.device link) number
      octets = h.octets number took ∙ ap (block_at (net.device link)) (sym made_here.0)

      module _ (side : LaneForm X) (there : slice_get mid.lanes.items (place_of lane) ≡ Some side) where
        stands : LaneStands outside.wire net w lane side
        stands = stood lane side link_there there

        pub may_bring : MayTake outside.wire net w side number block
        may_bring = record {
          running = ready.stands.running;
          stands = subst (λ (l : Lane). LaneStands outside.wire net w l side) (sym stands.lane) stands;
          at = ap (is_lane net.site) stands.lane ∙ link_there;
          next = made_here.0 ∙ ap w.durable.blocks (sym stands.lane);
          few = made_here.1;
          bytes = octets ∙ ap (λ (l : Lane). block_at (net.device l.link) number) (sym stands.lane);
        }

        pub brings_block : TakesBlock net w after side.lane number block
        brings_block = subst (λ (l : Lane). TakesBlock net w after l number block) (sym stands.lane)
            (subst (λ (u : ℕ). IsReplayed net w after u (Block link number block ∷ [])) (sym (end_of net.site v link incident))
            (subst (λ (bytes : List ℕ). IsReplayed net w after v (Block link number bytes ∷ [])) (sym octets) made_here.2))

        -- another lane
        other_lane : (k : Lane) (x : LaneForm X) → lane_eq k lane ≡ false → is_lane net.site k ≡ true → slice_get mid.lanes.items (place_of k) ≡ Some x → LaneStands outside.wire net after k x
        other_lane k x apart at stood_there =
            goes_on outside.wire net w after k x ready.stands.running at
            (batch_goes_on net w after v (Block link number (block_at (net.device link) number) ∷ []) k made_here.2 (ap (λ (b : Bool). b || false) apart)) (stood k x at stood_there)

        module _ (new : State K Q E X) (now : LaneForm X) (one : OneSide mid new lane side now) (kept : now.wire ≡ side.wire) where
          all : Tallied outside old new net.site (b ∷ [])
          all = record {
            nodes = ap length one.posts ∙ h.tallied.nodes;
            posts = λ u p q was is. h.tallied.posts u p q was (ap (λ (xs : List (Post K E)). slice_get xs u) (sym one.posts) ∙ is);
            links = ap length one.devices ∙ h.tallied.links;
            devices = λ k p q was is. h.tallied.devices k p q was (ap (λ (xs : List Q). slice_get xs k) (sym one.devices) ∙ is);
            sides = sides_same mid new lane side now one ∙ h.tallied.sides;
            wires = λ k p q was is.
                each_side mid new lane side now one (λ m x. (y : LaneForm X) → slice_get old.lanes.items (place_of m) ≡ Some y → Counted (wire_faults m (b ∷ [])) (outside.wire.faults y.wire) (outside.wire.faults x.wire))
                (λ y at. subst (λ (z : X). Counted (wire_faults lane (b ∷ [])) (outside.wire.faults y.wire) (outside.wire.faults z)) (sym kept) (h.tallied.wires lane y side at there))
                (λ m x apart at y stood_there. h.tallied.wires m y x stood_there at) k q is p was;
          }

          pub took_done : LaneStands outside.wire net after side.lane now → Done new
          took_done lane_stands =
              others new one.site one.posts one.devices one.up (sides_same mid new lane side now one)
              (λ k x at at_place. each_side mid new lane side now one (λ m y. is_lane net.site m ≡ true → LaneStands outside.wire net after m y)
              (λ there_too. subst (λ (l : Lane). LaneStands outside.wire net after l now) stands.lane lane_stands) (λ m y apart stood_there there_too. other_lane m y apart there_too stood_there) k x at_place at) all

          pub took_rests : WireStands outside.wire net after side.lane now.wire →
              Begins (Rests outside) (Tallied outside) old new net w (asks (TakeBlock v link Fine) (λ o. []))
          took_rests wire =
              rests_after (Rests outside) (Tallied outside) old new net w (TakeBlock v link Fine) b refl h.may
              (ap is_forged (h.said ∙ took)) (record {
                running = running_on net w b ready.stands.running h.may;
                sited = ready.stands.sited ∙ sym (ap site_of (one.site ∙ h.site));
                nodes = ap length one.posts ∙ h.nodes ∙ ready.stands.nodes;
                posts = λ u p at. post_rests net u after (running_on net w b ready.stands.running h.may) outside.disk outside.entropy p (h.posts u p (ap (λ (xs : List (Post K E)). slice_get xs u) (sym one.posts) ∙ at));
                sides = sides_same mid new lane side now one ∙ ap length h.lanes ∙ ready.stands.sides;
                wires = λ k x at at_place. each_side mid new lane side now one (λ m y. is_lane net.site m ≡ true → WireStands outside.wire net after m y.wire)
                    (λ there_too. subst (λ (l : Lane). WireStands outside.wire net after l now.wire) stands.lane wire) (λ m y apart stood_there there_too. (other_lane m y apart there_too stood_there).wire) k x at_place at;
                links = ap length one.devices ∙ h.links ∙ ready.stands.links;
                devices = λ k q at. h.devices k q (ap (λ (xs : List Q). slice_get xs k) (sym one.devices) ∙ at);
              }) all
