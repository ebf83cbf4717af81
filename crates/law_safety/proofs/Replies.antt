-- What a reply hands out is marked in the same step, and is true.
use Rattle.std.proofs.Common.{not, ◌≡◌, ℕ, zero, suc, ◌+◌, ◌<◌, Bool, true, ◌&&◌, ◌||◌, List, [], ◌∷◌, ◌++◌, refl, sym, ◌∙◌, ap, subst, Some}
use Rattle.std.specs.Prelude.{nat_lt, slice_get}
use Rattle.std.specs.List.{list_all}
use Rattle.std.proofs.lemmas.List.{append-nil}
use Rattle.qkd_base.specs.Name.{Name}
use Rattle.qkd_base.specs.declared.lane.Lane.{Lane}
use Rattle.net_model.specs.declared.event.Event.{Event}
use Rattle.net_model.specs.declared.event.Event.TheVariants.{Block, Fill, Feed, Plan, Heard, Enc, Dec, Status, Open, Join, Get, Close, Show, Ledger, FillGroup, EncGroup, Note}
use Rattle.net_model.specs.declared.fact.Fact.{Fact}
use Rattle.net_model.specs.declared.reply.Reply.{Reply}
use Rattle.net_model.specs.declared.reply.Reply.TheVariants.{Down, Stopped, Memory, JournalFull, NoRandom}
use Rattle.net_model.specs.Site.{Site}
use Rattle.net_model.specs.Sealing.{Sealing}
use Rattle.net_model.specs.OctetSequence.{has_octets, octets_from}
use Rattle.net_model.specs.World.{Network, World, Durable, Allocation, Transmission}
use Rattle.net_model.specs.Journal.{journal_limit, added_len, is_nil}
use Rattle.net_model.specs.Invariant.{Invariant, Conserved}
use Rattle.net_model.specs.Premises.{IsNetwork, IsSite}
use Rattle.net_model.specs.Decision.{Decision, Refuses, Does, Effect}
use Rattle.net_model.specs.Decide.{decide, random_need}
use Rattle.net_model.specs.Events.{is_valid_event, is_count, are_slaves}
use Rattle.net_model.specs.Streams.{is_size}
use Rattle.net_model.specs.Step.{is_asked}
use Rattle.net_model.specs.View.{View}
use Rattle.net_model.specs.Needed.{view_of}
use Rattle.net_model.specs.Action.{Environment, Outcome, Ask, Replies, is_no_memory, is_entropy_fault, is_io_fault}
use Rattle.net_model.specs.Handle.{is_numbered, commit, stopped, perform, resolve, handle}
use Rattle.net_model.specs.Deliveries.{Delivery, delivered, of_step, IsTrueDelivery, pairs_of}
use Rattle.law_base.proofs.Base.{and_left, by_test}
use Rattle.law_base.proofs.Seen.{Sees, bare_view, view_sees, view_me}
use Rattle.law_invariant.proofs.Decisions.{slaves_are}
use Rattle.law_safety.specs.Truth.{IsTrueReply}
use Rattle.law_safety.proofs.Marks.{replay_marks}
use Rattle.law_safety.proofs.TrueDecisions.{AllTrue, IsTrueEffect, IsTrueDecision, enc_true, group_true, dec_true, get_true}
use Rattle.law_safety.proofs.Silent.{Unmarked, fill_unmarked, feed_unmarked, fill_group_unmarked, open_unmarked, join_unmarked, close_unmarked, status_unmarked, plan_unmarked}

silent : (s : Site) (T seen : List Fact) (v : ℕ) (event : Event) (decision : Decision) → ((reply : Reply) → delivered seen event reply ≡ []) → Unmarked decision →
    IsTrueDecision s T seen v event decision
silent s T seen v event (Refuses reply) none h = none reply
silent s T seen v event (Does e) none h = record { marked = h ∙ ap pairs_of (sym (none e.reply)); true' = subst (AllTrue s T v) (sym (none e.reply)) tt }

module _ (s : Site) (d : Durable) (frames : Lane → List Allocation) (unclaimed : Lane → List Transmission) (inv : Invariant s d frames unclaimed) (see bare : View)
    (h : Sees s d see bare) (site : IsSite s) (here : see.me < s.nodes) where
  asked_true : (sealing : Sealing) (up : ℕ → Bool) (random : List ℕ) (event : Event) → is_asked event ≡ true → is_valid_event s see.me event ≡ true →
      IsTrueDecision s d.facts see.facts see.me event (decide s sealing up see random event)
  unfolding decide is_valid_event
  asked_true sealing up random (Enc m t n bits) asked valid = enc_true s d frames unclaimed inv see bare h site here m t n bits
  asked_true sealing up random (Dec t m names) asked valid = dec_true s d frames unclaimed inv see bare h site here t m names
  asked_true sealing up random (EncGroup m slaves n bits) asked valid =
      let prefix = and_left (are_slaves slaves && is_count n) (is_size bits) valid in
      group_true s d frames unclaimed inv see bare h site here m slaves n bits (slaves_are slaves (and_left (are_slaves slaves) (is_count n) prefix)).0
  asked_true sealing up random (Get caller stream index) asked valid = get_true s d frames unclaimed inv see bare h site here caller stream index
  asked_true sealing up random (Fill m t bits count) asked valid =
      silent s d.facts see.facts see.me (Fill m t bits count) _ (λ reply. refl) (fill_unmarked s up see m t bits count random)
  asked_true sealing up random (Feed stream count) asked valid = silent s d.facts see.facts see.me (Feed stream count) _ (λ reply. refl) (feed_unmarked s up see stream count random)
  asked_true sealing up random (FillGroup m slaves bits count) asked valid =
      silent s d.facts see.facts see.me (FillGroup m slaves bits count) _ (λ reply. refl) (fill_group_unmarked s up see m slaves bits count random)
  asked_true sealing up random Plan asked valid = silent s d.facts see.facts see.me Plan (decide s sealing up see random Plan) (λ reply. refl) (plan_unmarked s up see)
  asked_true sealing up random (Status m t) asked valid = silent s d.facts see.facts see.me (Status m t) _ (λ reply. refl) (status_unmarked s up see m t)
  asked_true sealing up random (Open source peer bits) asked valid = silent s d.facts see.facts see.me (Open source peer bits) _ (λ reply. refl) (open_unmarked s up see source peer bits)
  asked_true sealing up random (Join caller other stream bits) asked valid =
      silent s d.facts see.facts see.me (Join caller other stream bits) _ (λ reply. refl) (join_unmarked s up see caller other stream bits)
  asked_true sealing up random (Close caller stream) asked valid = silent s d.facts see.facts see.me (Close caller stream) _ (λ reply. refl) (close_unmarked s up see caller stream)
  asked_true sealing up random (Show name) asked valid = silent s d.facts see.facts see.me (Show name) (decide s sealing up see random (Show name)) (λ reply. refl) refl
  asked_true sealing up random (Ledger lane) asked valid = silent s d.facts see.facts see.me (Ledger lane) (decide s sealing up see random (Ledger lane)) (λ reply. refl) refl
  asked_true sealing up random (Block link number bytes) asked valid = cc
  asked_true sealing up random (Heard lane bytes) asked valid = cc
  asked_true sealing up random (Note placings) asked valid = cc

-- Replies that come without a decision hand out nothing.

-- The reply that takes the place of an event's own one hands out nothing.
pub record AreBare (T : List Fact) (event : Event) : Type 0 where
  pub down : delivered T event Down ≡ []
  pub memory : delivered T event Memory ≡ []
  pub full : (length' added : ℕ) → delivered T event (JournalFull length' added) ≡ []
  pub random : delivered T event NoRandom ≡ []
  pub stopped' : delivered T event Stopped ≡ []

bare_of : (T : List Fact) (event : Event) → AreBare T event
bare_of T (Enc m t n bits) = record { down = refl; memory = refl; full = λ a b. refl; random = refl; stopped' = refl }
bare_of T (Dec t m names) = record { down = refl; memory = refl; full = λ a b. refl; random = refl; stopped' = refl }
bare_of T (EncGroup m slaves n bits) = record { down = refl; memory = refl; full = λ a b. refl; random = refl; stopped' = refl }
bare_of T (Get caller stream index) = record { down = refl; memory = refl; full = λ a b. refl; random = refl; stopped' = refl }
bare_of T _ = record { down = refl; memory = refl; full = λ a b. refl; random = refl; stopped' = refl }

-- The truth of replies, stated for a world.

abbrev TrueOut : Network → World → ℕ → Event → Environment → World × Outcome → Type 0
TrueOut net w v event environment out = IsTrueReply net w out.0 v (of_step net w (Ask v event environment) out.1)

nothing_true : (net : Network) (w new : World) (v : ℕ) (ds : List Delivery) → ds ≡ [] → new.durable.handed ≡ w.durable.handed → IsTrueReply net w new v ds
nothing_true net w new v ds none same =
    subst (λ (x : List Delivery). IsTrueReply net w new v x) (sym none) (record {
      marked = same ∙ sym (append-nil w.durable.handed);
      bytes = λ n d e. cc;
      home = λ n d e. cc;
    })

each_true : (s : Site) (T : List Fact) (v : ℕ) (ds : List Delivery) (n : ℕ) (d : Delivery) → AllTrue s T v ds → slice_get ds n ≡ Some d → IsTrueDelivery T d × (s.home d.sae ≡ v)
each_true s T v [] n d h e = cc
each_true s T v (x ∷ ds) zero d h e = let is : x ≡ d = cc in subst (λ (y : Delivery). IsTrueDelivery T y × (s.home y.sae ≡ v)) is (h.0, h.1)
each_true s T v (x ∷ ds) (suc n) d h e = each_true s T v ds n d h.2 e

committed_true : (net : Network) (w : World) (v octets : ℕ) (event : Event) (environment : Environment) (e : Effect) → IsTrueEffect net.site w.durable.facts (view_of net w v).facts v event e →
    TrueOut net w v event environment (commit net.site w v octets e, Replies e.reply)
unfolding commit
committed_true net w v octets event environment e h =
    record {
      marked = replay_marks net.site v e.batch w.durable ∙ ap (λ (hs : List (Name × ℕ)). w.durable.handed ++ hs) h.marked;
      bytes = λ n d at. (each_true net.site w.durable.facts v (delivered (view_of net w v).facts event e.reply) n d h.true' at).0;
      home = λ n d at. (each_true net.site w.durable.facts v (delivered (view_of net w v).facts event e.reply) n d h.true' at).1;
    }

stopped_same : (w : World) (v octets : ℕ) (e : Effect) → (stopped w v octets e).durable.handed ≡ w.durable.handed
unfolding stopped
stopped_same w v octets e = refl

performed_true : (net : Network) (w : World) (v octets : ℕ) (event : Event) (environment : Environment) (e : Effect) → IsTrueEffect net.site w.durable.facts (view_of net w v).facts v event e →
    TrueOut net w v event environment (perform net w v octets environment e)
unfolding perform
performed_true net w v octets event environment e h =
    let P : World × Outcome → Type 0 = TrueOut net w v event environment in
    let added : ℕ = added_len (w.journal v).version e.batch in
    let bare = bare_of (view_of net w v).facts event in
    by_test P (is_no_memory environment || not (list_all is_numbered e.batch)) _ _ (λ e1. nothing_true net w w v _ bare.memory refl) (λ e1.
    by_test P (nat_lt journal_limit ((w.journal v).length' + added)) _ _ (λ e2. nothing_true net w w v _ (bare.full (w.journal v).length' added) refl) (λ e2.
    by_test P (nat_lt 0 octets && (not (has_octets (net.entropy v) (w.drawn v + octets)) || is_entropy_fault environment)) _ _ (λ e3. nothing_true net w w v _ bare.random refl) (λ e3.
    by_test P (is_io_fault environment && not (is_nil e.batch)) _ _
    (λ e4. nothing_true net w (stopped w v octets e) v _ bare.stopped' (stopped_same w v octets e))
    (λ e4. committed_true net w v octets event environment e h))))

resolved_true : (net : Network) (w : World) (v octets : ℕ) (event : Event) (environment : Environment) (decision : Decision) → IsTrueDecision net.site w.durable.facts (view_of net w v).facts v event decision →
    TrueOut net w v event environment (resolve net w v octets environment decision)
resolved_true net w v octets event environment (Refuses reply) h = nothing_true net w w v (delivered (view_of net w v).facts event reply) h refl
resolved_true net w v octets event environment (Does e) h = performed_true net w v octets event environment e h

pub handled_true : (net : Network) (w : World) (v : ℕ) (event : Event) (environment : Environment) → IsNetwork net → Conserved net w → v < net.site.nodes → is_asked event ≡ true → is_valid_event net.site v event ≡ true →
    IsTrueReply net w (handle net w v event environment).0 v (of_step net w (Ask v event environment) (handle net w v event environment).1)
unfolding handle
handled_true net w v event environment good c here asked valid =
    let see : View = view_of net w v in
    let me = view_me net w v in
    by_test (TrueOut net w v event environment) (w.up v) _ _
    (λ up. resolved_true net w v (random_need see event) event environment _
    (subst (λ (u : ℕ). IsTrueDecision net.site w.durable.facts see.facts u event (decide net.site net.sealing w.link_up see (octets_from (net.entropy v).octet (w.drawn v) (random_need see event)) event)) me
    (asked_true net.site w.durable w.frames w.unclaimed c.now see (bare_view net w v) (view_sees net w v) good.site (subst (λ (u : ℕ). u < net.site.nodes) (sym me) here)
    net.sealing w.link_up _ event asked (ap (λ (u : ℕ). is_valid_event net.site u event) me ∙ valid))))
    (λ down. nothing_true net w w v _ (bare_of (view_of net w v).facts event).down refl)
