-- The frames that a manager's turn sends.
use Rattle.std.proofs.Common.{◌≡◌, ℕ, ◌+◌, ◌*◌, ◌≤◌, Bool, true, false, not, ◌&&◌, ◌||◌, List, [], ◌∷◌, ◌++◌, length, map, refl, sym, subst, arith, length-append, Option, Some, None}
use Rattle.std.specs.Prelude.{nat_lt, filter, if◌then◌else◌}
use Rattle.std.specs.List.{list_all, flat_map, AllByRecursion}
use Rattle.std.proofs.lemmas.List.{length-map, length-take}
use Rattle.qkd_base.specs.Lane.{lane_eq}
use Rattle.qkd_base.specs.declared.lane.Lane.{Lane}
use Rattle.net_model.specs.declared.event.Event.{Event}
use Rattle.net_model.specs.declared.event.Event.TheVariants.{Plan}
use Rattle.net_model.specs.declared.fact.Fact.{Fact}
use Rattle.net_model.specs.declared.payload.Payload.{Payload}
use Rattle.net_model.specs.declared.payload.Payload.TheVariants.{Data, Ack}
use Rattle.net_model.specs.declared.repeat.Repeat.{Repeat}
use Rattle.net_model.specs.declared.reply.Reply.{Reply}
use Rattle.net_model.specs.declared.reply.Reply.TheVariants.{Planned}
use Rattle.net_model.specs.Facts.{IsWellFormed}
use Rattle.net_model.specs.Journal.{journal_limit, added_len, is_nil}
use Rattle.net_model.specs.OctetSequence.{has_octets}
use Rattle.net_model.specs.Item.{payload, data_payload}
use Rattle.net_model.specs.Table.{fact_at, name_of}
use Rattle.net_model.specs.Site.{Site, receiver, is_incident, count_up, outgoing_lane, outgoing_lanes}
use Rattle.net_model.specs.World.{Network, World, Entry}
use Rattle.net_model.specs.View.{View, Port}
use Rattle.net_model.specs.Needed.{view_of, masked, port_at}
use Rattle.net_model.specs.Decision.{Effect}
use Rattle.net_model.specs.Decide.{decide, random_need}
use Rattle.net_model.specs.Plan.{plan}
use Rattle.net_model.specs.Window.{age, by_offset, repeats_on, repeat_of}
use Rattle.net_model.specs.Action.{Environment, Ask, Outcome, Replies, is_no_memory, is_entropy_fault, is_io_fault}
use Rattle.net_model.specs.Frames.{receive_item}
use Rattle.net_model.specs.Handle.{is_numbered, commit, stopped, perform, handle}
use Rattle.net_model.specs.Step.{step}
use Rattle.net_model.specs.Tick.{Emission, Again, New, item_in}
use Rattle.run_model.specs.Works.{wanted_put}
use Rattle.run_ops.specs.declared.job.Job.{Job}
use Rattle.run_ops.specs.declared.job.Job.TheVariants as jobs
use Rattle.run_ops.specs.Jobs.{is_job}
use Rattle.law_base.proofs.Base.{by_test, by_number}
use Rattle.law_base.proofs.Walks.{perform_walk, handle_walk, deliver_walk}
use Rattle.law_invariant.specs.May.{is_plan}
use Rattle.law_invariant.proofs.Decisions.{plan_is}
use Rattle.law_locality.specs.Sending.{IsEmission}
use Rattle.law_parallel.proofs.Planned.{plan_adds}
use Rattle.world_state.specs.Passed.{IsRunning}
use Rattle.world_state.proofs.Passed.{short_frame}
use Rattle.par_managers.specs.Turning.{asked_with, planner}
use Rattle.par_managers.proofs.Histories.{length-count_up}
use Rattle.par_managers.proofs.Turning.{wants_none}
use Rattle.par_managers.specs.Wanted.{orders_replied, CanLeave}

-- ---- frames, by the reply

abbrev pub repeats_replied : Reply → List Repeat
repeats_replied (Planned orders repeats shorts) = repeats
repeats_replied _ = []

pub wanted_is : (reply : Reply) → wanted_put (Replies reply) ≡ map Again (repeats_replied reply) ++ map New (orders_replied reply)
wanted_is (Planned orders repeats shorts) = refl
wanted_is _ = refl

-- ---- each frame can be sent

module _ (net : Network) (w : World) (r : IsRunning net w) (v : ℕ) where
  found_fact : (found : Option Fact) (f : Fact) → data_payload found ≡ Some (Data f) → found ≡ Some f
  found_fact None f e = cc
  found_fact (Some g) f e = cc

  formed : (p : Payload) → payload w.durable.facts (item_in p) ≡ Some p → IsWellFormed p
  formed (Data f) h = (r.conserved.now.table (name_of f) f (found_fact (fact_at w.durable.facts (name_of f)) f h)).formed
  formed (Ack n) h = tt

  can_go : (e : Emission) → IsEmission net w v e → CanLeave net.site v e
  can_go (New o) h = (h.site, h.lane, formed o.payload h.spelled)
  can_go (Again again) h =
      let short = short_frame net w r h.entry.transmission.lane h.sent.site h.sent.number (record { offset = h.entry.offset; item = h.entry.transmission.item }) h.sent.frame in
      subst (λ (x : Repeat). CanLeave net.site v (Again x)) (sym h.is)
      (h.sent.site, h.sent.lane, subst (λ (xs : List ℕ). length xs ≤ 600) (sym h.sent.octets) short)

  can_all : (es : List Emission) → AllByRecursion (IsEmission net w v) es → AllByRecursion (CanLeave net.site v) es
  can_all [] h = tt
  can_all (e ∷ es) h = (can_go e h.0, can_all es h.1)

  module _ (environment : Environment) where
    plan_can : (out : Outcome) → (step net w (Ask v Plan environment)).1 ≡ out → AllByRecursion (CanLeave net.site v) (wanted_put out)
    unfolding step
    plan_can out said = subst (λ (x : Outcome). AllByRecursion (CanLeave net.site v) (wanted_put x)) said (can_all _ (plan_adds net w v r.conserved environment).each)

    none_can : (reply : Reply) → wanted_put (Replies reply) ≡ [] → AllByRecursion (CanLeave net.site v) (wanted_put (Replies reply))
    none_can reply none = subst (AllByRecursion (CanLeave net.site v)) (sym none) tt

-- ---- a plan has few repeats

abbrev repeats_said : Outcome → List Repeat
repeats_said (Replies reply) = repeats_replied reply
repeats_said _ = []

few_on : (window : List Entry) (l : Lane) → length (repeats_on window l) ≤ 16
unfolding repeats_on
few_on window l =
    let all = by_offset (filter (λ (e : Entry). lane_eq e.transmission.lane l && e.due) window) in
    let taken = length-take 16 all in
    omega (arith, taken)

few_all : (window : List Entry) (ps : List Port) → length (flat_map (λ (p : Port). repeats_on window p.lane) ps) ≤ 16 * length ps
few_all window [] = omega arith
few_all window (p ∷ ps) =
    let both = length-append (repeats_on window p.lane) (flat_map (λ (p : Port). repeats_on window p.lane) ps) in
    let one = few_on window p.lane in
    let rest = few_all window ps in
    omega (arith, both, one, rest)

fewer : {A : Type 0} (p : A → Bool) (xs : List A) → length (filter p xs) ≤ length xs
fewer p [] = omega arith
fewer p (x ∷ xs) =
    let rest = fewer p xs in
    elim (p x) as (λ t. length (if t then x ∷ filter p xs else filter p xs) ≤ length (x ∷ xs)) [ true ↦ omega (arith, rest) | false ↦ omega (arith, rest) ]

planned_few : (s : Site) (up : ℕ → Bool) (x : View) → length (repeats_replied (plan s up x).reply) ≤ 16 * length x.ports
unfolding plan
planned_few s up x =
    let ports = filter (λ (p : Port). up p.lane.link) x.ports in
    let window = map age x.volatile.window in
    let kept = fewer (λ (p : Port). up p.lane.link) x.ports in
    let all = few_all window ports in
    let same = length-map (flat_map (λ (p : Port). repeats_on window p.lane) ports) repeat_of in
    omega (arith, kept, all, same)

ports_few : (net : Network) (w : World) (v : ℕ) → length (view_of net w v).ports ≤ net.site.links
unfolding view_of masked outgoing_lanes
ports_few net w v =
    let links = filter (is_incident net.site v) (count_up net.site.links) in
    let few = fewer (is_incident net.site v) (count_up net.site.links) in
    let all = length-count_up net.site.links in
    let lanes = length-map links (outgoing_lane net.site v) in
    let ports = length-map (map (outgoing_lane net.site v) links) (port_at net w) in
    omega (arith, few, all, lanes, ports)

module _ (net : Network) (w : World) (v : ℕ) where
  abbrev Few : World × Outcome → Type 0
  Few out = length (repeats_said out.1) ≤ 16 * net.site.links

  performed_few : (octets : ℕ) (environment : Environment) (x : View) → length x.ports ≤ net.site.links → Few (perform net w v octets environment (plan net.site w.link_up x))
  unfolding perform
  performed_few octets environment x ports =
      let e : Effect = plan net.site w.link_up x in
      let few = planned_few net.site w.link_up x in
      by_test Few (is_no_memory environment || not (list_all is_numbered e.batch)) _ _ (λ t. omega arith)
      (λ t. by_test Few (nat_lt journal_limit ((w.journal v).length' + added_len (w.journal v).version e.batch)) _ _ (λ t. omega arith)
      (λ t. by_test Few (nat_lt 0 octets && (not (has_octets (net.entropy v) (w.drawn v + octets)) || is_entropy_fault environment)) _ _ (λ t. omega arith)
      (λ t. by_test Few (is_io_fault environment && not (is_nil e.batch)) _ _ (λ t. omega arith) (λ t. omega (arith, few, ports)))))

  plan_few : (environment : Environment) → Few (step net w (Ask v Plan environment))
  unfolding step handle decide random_need
  plan_few environment = by_test Few (w.up v) _ _ (λ t. performed_few 0 environment (view_of net w v) (ports_few net w v)) (λ t. omega arith)

-- ---- turns, by the job

no_planner : (v : ℕ) (event : Event) (reply : Reply) → is_plan event ≡ false → planner (jobs.Ask v event) reply ≡ None
no_planner v Plan reply other = cc
no_planner v _ reply other = refl

module _ (net : Network) (w : World) (r : IsRunning net w) (environment : Environment) where
  abbrev Says : Job → Reply → Type 0
  Says job reply = (step net w (asked_with job environment)).1 ≡ Replies reply

  -- What holds for each plan's reply, and for each reply without frames, holds for each reply.
  by_job : (P : ℕ → Reply → Type 0) → ((v : ℕ) (reply : Reply) → Says (jobs.Ask v Plan) reply → P v reply) → ((v : ℕ) (reply : Reply) → wanted_put (Replies reply) ≡ [] → P v reply) →
      (job : Job) (v : ℕ) (reply : Reply) → ((node : ℕ) (event : Event) → job ≡ jobs.Ask node event → node ≡ v) → is_job net.site job ≡ true → Says job reply → P v reply
  by_job P plan none jobs.Nothing v reply mine fit said = none v reply (wants_none net w r.network r.conserved jobs.Nothing environment reply fit refl said)
  by_job P plan none (jobs.Pass lane number) v reply mine fit said = none v reply (wants_none net w r.network r.conserved (jobs.Pass lane number) environment reply fit refl said)
  by_job P plan none (jobs.Ask node event) v reply mine fit said =
      elim (is_plan event) as (λ t. is_plan event ≡ t → P v reply) [
        | true ↦ λ is. plan v reply
            (subst (λ (u : ℕ). Says (jobs.Ask u Plan) reply) (mine node event refl) (subst (λ (x : Event). Says (jobs.Ask node x) reply) (plan_is event is) said))
        | false ↦ λ other. none v reply (wants_none net w r.network r.conserved (jobs.Ask node event) environment reply fit (no_planner node event reply other) said)
      ] refl

  module _ (job : Job) (v : ℕ) (reply : Reply) (mine : (node : ℕ) (event : Event) → job ≡ jobs.Ask node event → node ≡ v) (fit : is_job net.site job ≡ true) (said : Says job reply) where
    pub turn_can : AllByRecursion (CanLeave net.site v) (wanted_put (Replies reply))
    turn_can =
        by_job (λ v reply. AllByRecursion (CanLeave net.site v) (wanted_put (Replies reply)))
        (λ v reply said. plan_can net w r v environment (Replies reply) said) (λ v reply none. none_can net w r v environment reply none) job v reply mine fit said

    none_repeated : (reply : Reply) → wanted_put (Replies reply) ≡ [] → length (repeats_replied reply) ≤ 16 * net.site.links
    none_repeated (Planned orders [] shorts) none = omega arith
    none_repeated (Planned orders (x ∷ repeats) shorts) none = cc
    none_repeated _ none = omega arith

    pub turn_few : length (repeats_replied reply) ≤ 16 * net.site.links
    turn_few =
        by_job (λ v reply. length (repeats_replied reply) ≤ 16 * net.site.links)
        (λ v reply said. subst (λ (out : Outcome). length (repeats_said out) ≤ 16 * net.site.links) said (plan_few net w v environment)) (λ v reply none. none_repeated reply none) job v reply mine fit said

-- ---- a manager that is up was up before

module _ (net : Network) (w : World) (u : ℕ) where
  abbrev Ups : World → Type 0
  Ups x = x.up u ≡ true → w.up u ≡ true

  stopped_up : (v octets : ℕ) (e : Effect) → Ups (stopped w v octets e)
  unfolding stopped
  stopped_up v octets e = by_number (λ k b. (if b then false else w.up k) ≡ true → w.up k ≡ true) v (λ h. cc) (λ k other h. h) u

  commit_up : (v octets : ℕ) (e : Effect) → Ups (commit net.site w v octets e)
  unfolding commit
  commit_up v octets e h = h

  performed_up : (v octets : ℕ) (environment : Environment) (e : Effect) → Ups (perform net w v octets environment e).0
  performed_up v octets environment e = perform_walk net w Ups (λ h. h) v octets environment e (λ numbered fits. stopped_up v octets e) (λ numbered fits. commit_up v octets e)

  received_up : (l : Lane) (offset : ℕ) (environment : Environment) (o : Option Payload) → Ups (receive_item net w l offset environment o).0
  received_up l offset environment None h = h
  received_up l offset environment (Some p) h = performed_up (receiver net.site l) 0 environment _ h

  pub turn_up : (job : Job) (environment : Environment) → Ups (step net w (asked_with job environment)).0
  unfolding step
  turn_up jobs.Nothing environment h = h
  turn_up (jobs.Ask node event) environment h =
      handle_walk net w Ups (λ h. h) node event environment (λ up e is. performed_up node (random_need (view_of net w node) event) environment e) h
  turn_up (jobs.Pass lane number) environment h =
      deliver_walk net w Ups (λ h. h) lane environment (λ j a at up. received_up lane a.offset environment (payload w.durable.facts a.item)) number h
