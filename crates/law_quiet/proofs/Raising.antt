-- In starts, links that go up and settles, what is up stays up, but for managers that are reported as stopped.
use Rattle.std.proofs.Common.{◌≡◌, ℕ, ◌+◌, Bool, true, false, not, ◌&&◌, ◌||◌, List, [], ◌∷◌, refl, sym, ◌∙◌, ap, subst, ◌⊎◌, inl, inr, Option, Some, None}
use Rattle.std.specs.Prelude.{◌==◌, nat_lt, slice_get, if◌then◌else◌}
use Rattle.std.specs.List.{list_all}
use Rattle.qkd_base.specs.declared.lane.Lane.{Lane}
use Rattle.net_model.specs.declared.event.Event.{Event}
use Rattle.net_model.specs.declared.event.Event.TheVariants.{Plan}
use Rattle.net_model.specs.declared.payload.Payload.{Payload}
use Rattle.net_model.specs.declared.reply.Reply.TheVariants.{Planned, Stopped}
use Rattle.net_model.specs.Item.{need, payload}
use Rattle.net_model.specs.Journal.{journal_limit, added_len, is_nil}
use Rattle.net_model.specs.OctetSequence.{has_octets}
use Rattle.net_model.specs.Site.{receiver, outgoing_lanes}
use Rattle.net_model.specs.World.{Network, World, Allocation, Transmission, Outgoing, received_there}
use Rattle.net_model.specs.Decision.{Decision, Refuses, Does, Effect}
use Rattle.net_model.specs.Decide.{decide, random_need}
use Rattle.net_model.specs.Action.{Environment, Ok, Recovery, Recovers, Resumes, Interrupted, NoMemory, Foreign, Action, Start, SetLink, Ask, Allocate, Transmit, Complete, Deliver, Outcome, Replies, is_no_memory, is_entropy_fault, is_io_fault}
use Rattle.net_model.specs.Handle.{is_numbered, commit, perform, resolve, handle}
use Rattle.net_model.specs.Frames.{receive_item, deliver_frame, deliver_number, deliver, allocate, transmit_one, transmit, outgoing_of}
use Rattle.net_model.specs.Start.{restarted, recovers, start}
use Rattle.net_model.specs.Step.{step, IsStep}
use Rattle.net_model.specs.Tick.{Emission, Again, New, tick_order, ordered}
use Rattle.run_types.specs.declared.item.Item.TheVariants.{Passed}
use Rattle.run_model.specs.Outcomes.{plan_items, frame_items, start_items}
use Rattle.run_model.specs.Lines.{emitted, after_plan, ticked, settle}
use Rattle.run_model.specs.Play.{plain}
use Rattle.law_base.proofs.Base.{by_test, number_set_same}
use Rattle.law_quiet.specs.Raised.{is_well}
use Rattle.law_quiet.proofs.Leading.{Leads}
use Rattle.law_quiet.proofs.LeadingSettles.{leads_settle}
use Rattle.law_quiet.proofs.SilentPlans.{asked_plan, asked_note, asked_put, asked_claim}

-- What was up is up.
pub record IsHigher (w x : World) : Type 0 where
  pub nodes : (u : ℕ) → w.up u ≡ true → x.up u ≡ true
  pub links : (k : ℕ) → w.link_up k ≡ true → x.link_up k ≡ true

pub higher_same : (w : World) → IsHigher w w
higher_same w = record { nodes = λ u h. h; links = λ k h. h }

pub higher_then : (w x y : World) → IsHigher w x → IsHigher x y → IsHigher w y
higher_then w x y a b = record { nodes = λ u h. b.nodes u (a.nodes u h); links = λ k h. b.links k (a.links k h) }

module _ (net : Network) (w : World) where
  -- An event leaves up what was up, or its manager stopped.

  abbrev Stays : World → Type 0
  Stays x = (x.up ≡ w.up) × (x.link_up ≡ w.link_up)

  abbrev Or : World × Outcome → Type 0
  Or r = Stays r.0 ⊎ (r.1 ≡ Replies Stopped)

  performs_or : (v octets : ℕ) (environment : Environment) (e : Effect) → Or (perform net w v octets environment e)
  unfolding perform commit
  performs_or v octets environment e =
      by_test Or (is_no_memory environment || not (list_all is_numbered e.batch)) _ _ (λ t. inl (refl, refl))
      (λ t. by_test Or (nat_lt journal_limit ((w.journal v).length' + added_len (w.journal v).version e.batch)) _ _ (λ t. inl (refl, refl))
      (λ t. by_test Or (nat_lt 0 octets && (not (has_octets (net.entropy v) (w.drawn v + octets)) || is_entropy_fault environment)) _ _ (λ t. inl (refl, refl))
      (λ t. by_test Or (is_io_fault environment && not (is_nil e.batch)) _ _ (λ t. inr refl) (λ t. inl (refl, refl)))))

  resolves_or : (v octets : ℕ) (environment : Environment) (d : Decision) → Or (resolve net w v octets environment d)
  resolves_or v octets environment (Refuses reply) = inl (refl, refl)
  resolves_or v octets environment (Does e) = performs_or v octets environment e

  handles_or : (v : ℕ) (event : Event) (environment : Environment) → Or (handle net w v event environment)
  unfolding handle
  handles_or v event environment = by_test Or (w.up v) _ _ (λ up. resolves_or v _ environment _) (λ down. inl (refl, refl))

  item_or : (l : Lane) (environment : Environment) (offset : ℕ) (o : Option Payload) → Or (receive_item net w l offset environment o)
  item_or l environment offset None = inl (refl, refl)
  item_or l environment offset (Some p) = performs_or (receiver net.site l) 0 environment _

  frame_or : (l : Lane) (environment : Environment) (o : Option Allocation) → Or (deliver_frame net w l environment o)
  unfolding deliver_frame
  frame_or l environment None = inl (refl, refl)
  frame_or l environment (Some a) =
      by_test Or (not (w.up (receiver net.site l))) _ _ (λ t. inl (refl, refl))
      (λ t. by_test Or (nat_lt (received_there w.durable l) (a.offset + need w.durable.facts a.item)) _ _ (λ k. inl (refl, refl)) (λ k. item_or l environment a.offset (payload w.durable.facts a.item)))

  number_or : (l : Lane) (environment : Environment) (o : Option ℕ) → Or (deliver_number net w l environment o)
  number_or l environment None = inl (refl, refl)
  number_or l environment (Some j) = frame_or l environment (slice_get (w.frames l) j)

  passes_or : (l : Lane) (number : ℕ) (environment : Environment) → Or (step net w (Deliver l number environment))
  unfolding step deliver
  passes_or l number environment = number_or l environment (slice_get (w.wire l) number)

  plans_or : (v : ℕ) (environment : Environment) → Or (step net w (Ask v Plan environment))
  unfolding step
  plans_or v environment = handles_or v Plan environment

  -- Notes stop no manager, and frames that are claimed and put don't either.

  abbrev StaysAt : World × Outcome → Type 0
  StaysAt r = Stays r.0

  told : (v : ℕ) (e : Effect) → e.batch ≡ [] → StaysAt (perform net w v 0 Ok e)
  unfolding perform commit
  told v e none =
      by_test StaysAt (is_no_memory Ok || not (list_all is_numbered e.batch)) _ _ (λ t. (refl, refl))
      (λ t. by_test StaysAt (nat_lt journal_limit ((w.journal v).length' + added_len (w.journal v).version e.batch)) _ _ (λ t. (refl, refl)) (λ t. (refl, refl)))

  notes : (v : ℕ) → StaysAt (step net w (Complete v))
  unfolding step handle decide random_need
  notes v = by_test (λ (r : World × Outcome). Stays (record (r.0) { placings = λ u. if u == v then [] else w.placings u })) (w.up v) _ _ (λ up. told v _ refl) (λ down. (refl, refl))

  claims : (t : Transmission) → StaysAt (step net w (Allocate t))
  unfolding step allocate
  claims t = (refl, refl)

  puts_one : (l : Lane) (environment : Environment) (o : Option Outgoing) → StaysAt (transmit_one net w l environment o)
  puts_one l environment None = (refl, refl)
  puts_one l environment (Some o) = by_test StaysAt (is_no_memory environment || is_io_fault environment) _ _ (λ t. (refl, refl)) (λ t. (refl, refl))

  puts : (l : Lane) (j : ℕ) (environment : Environment) → StaysAt (step net w (Transmit l j environment))
  unfolding step transmit
  puts l j environment = puts_one l environment (outgoing_of j (w.outgoing l))

  stays_higher : (x : World) → Stays x → IsHigher w x
  stays_higher x s = record { nodes = λ u h. ap (λ (f : ℕ → Bool). f u) s.0 ∙ h; links = λ k h. ap (λ (f : ℕ → Bool). f k) s.1 ∙ h }

  -- A start that is reported as `started` or `up` brings its node up.

  pub record IsUpAt (v : ℕ) (x : World) : Type 0 where
    pub higher : IsHigher w x
    pub here : x.up v ≡ true

  abbrev pub Well : ℕ → World × Outcome → Type 0
  Well v r = list_all is_well (start_items r.1) ≡ true → IsUpAt v r.0

  set_up : (v u : ℕ) → w.up u ≡ true → (if u == v then true else w.up u) ≡ true
  set_up v u h = by_test (λ (b : Bool). b ≡ true) (u == v) true (w.up u) (λ t. refl) (λ t. h)

  recovers_well : (v : ℕ) (recovery : Recovery) → Well v (recovers net w v recovery)
  unfolding restarted
  recovers_well v (Recovers committed) told = record { higher = record { nodes = set_up v; links = λ k h. h }; here = number_set_same w.up v true }
  recovers_well v (Resumes committed) told = record { higher = record { nodes = set_up v; links = λ k h. h }; here = number_set_same w.up v true }
  recovers_well v (Interrupted made) told = cc
  recovers_well v NoMemory told = cc
  recovers_well v Foreign told = cc

  pub starts_well : (v : ℕ) (recovery : Recovery) → Well v (step net w (Start v recovery))
  unfolding step start
  starts_well v recovery = by_test (Well v) (w.up v) _ _ (λ up told. record { higher = higher_same w; here = up }) (λ down. recovers_well v recovery)

  pub record IsUpLink (k : ℕ) (x : World) : Type 0 where
    pub higher : IsHigher w x
    pub here : x.link_up k ≡ true

  pub raises : (k : ℕ) → IsUpLink k (step net w (SetLink k true)).0
  unfolding step
  raises k = record {
    higher = record { nodes = λ u h. h; links = λ j h. by_test (λ (b : Bool). b ≡ true) (j == k) true (w.link_up j) (λ t. refl) (λ t. h) };
    here = number_set_same w.link_up k true;
  }

-- A settle in which no manager stops.

module _ (net : Network) (base : World) where
  abbrev Q : World → Type 0
  Q x = IsHigher base x

  keeps : (w x : World) → Q w → Stays net w x → Q x
  keeps w x h s = higher_then base w x h (stays_higher net w x s)

  emits_higher : (v : ℕ) (es : List Emission) (w : World) → Q w → Leads net is_well Q w (emitted v es)
  unfolding emitted
  emits_higher v [] w h = λ a asked may. subst (λ (x : Action). Q (step net w x).0) (sym (asked_note a v asked)) (keeps w (step net w (Complete v)).0 h (notes net w v))
  emits_higher v (Again r ∷ es) w h = λ a asked may told.
      let is = asked_put a r.lane _ asked in
      emits_higher v es (step net w a).0 (subst (λ (x : Action). Q (step net w x).0) (sym is.1) (keeps w (step net w (Transmit r.lane _ is.0)).0 h (puts net w r.lane _ is.0)))
  emits_higher v (New o ∷ es) w h = λ a asked may b put may' told.
      let is = asked_claim a (ordered o) asked in
      let middle : World = (step net w a).0 in
      let h' : Q middle = subst (λ (x : Action). Q (step net w x).0) (sym is) (keeps w (step net w (Allocate (ordered o))).0 h (claims net w (ordered o))) in
      let is' = asked_put b o.lane _ put in
      emits_higher v es (step net middle b).0 (subst (λ (x : Action). Q (step net middle x).0) (sym is'.1) (keeps middle (step net middle (Transmit o.lane _ is'.0)).0 h' (puts net middle o.lane _ is'.0)))

  after_higher : (v : ℕ) (out : Outcome) (w : World) → Q w → Leads net is_well Q w (after_plan net.site v out)
  after_higher v (Replies (Planned orders repeats shorts)) w h = emits_higher v (tick_order (outgoing_lanes net.site v) repeats orders) w h
  after_higher v _ w h = h

  tick_higher : (v : ℕ) (w : World) → Q w → Leads net is_well Q w (ticked net.site true v)
  unfolding ticked
  tick_higher v w h = λ a asked may told.
      let is = asked_plan a v asked in
      let or' = subst (λ (x : Action). Or net w (step net w x)) (sym is.is) (plans_or net w v is.environment) in
      by_cases (step net w a) or' told
    where
      by_cases : (r : World × Outcome) → Or net w r → list_all is_well (plan_items true v r.1) ≡ true → Leads net is_well Q r.0 (after_plan net.site v r.1)
      by_cases r (inl same) told = after_higher v r.1 r.0 (keeps w r.0 h same)
      by_cases r (inr stopped') told = let no : false ≡ true = sym (ap (λ (out : Outcome). list_all is_well (plan_items true v out)) stopped') ∙ told in cc

  asked_pass : (a : Action) (l : Lane) (number : ℕ) → plain a ≡ Deliver l number Ok → (environment : Environment) × (a ≡ Deliver l number environment)
  asked_pass (Deliver k i environment) l number h = (environment, cc)
  asked_pass _ l number h = cc

  pass_higher : (l : Lane) (number : ℕ) (w : World) (a : Action) → Q w → plain a ≡ Deliver l number Ok → IsStep net w a →
      list_all is_well (frame_items (Passed l number) (step net w a).1) ≡ true → Q (step net w a).0
  pass_higher l number w a h asked may told =
      let is = asked_pass a l number asked in
      by_cases (step net w a) (subst (λ (x : Action). Or net w (step net w x)) (sym is.1) (passes_or net w l number is.0)) told
    where
      by_cases : (r : World × Outcome) → Or net w r → list_all is_well (frame_items (Passed l number) r.1) ≡ true → Q r.0
      by_cases r (inl same) told = keeps w r.0 h same
      by_cases r (inr stopped') told = let no : false ≡ true = sym (ap (λ (out : Outcome). list_all is_well (frame_items (Passed l number) out)) stopped') ∙ told in cc

  pub settle_higher : (rounds : ℕ) (w : World) → Q w → Leads net is_well Q w (settle net.site rounds)
  settle_higher rounds w h = leads_settle net is_well Q tick_higher pass_higher rounds w h
