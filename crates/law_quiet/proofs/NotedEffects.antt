-- Each decision of a manager notes what it teaches a target: only a received fact teaches one.
use Rattle.std.proofs.Common.{◌≡◌, ℕ, zero, suc, ◌+◌, ◌<◌, ◌≤◌, Bool, true, false, not, List, [], ◌∷◌, refl, sym, ◌∙◌, ap, subst, arith, Some, None, inl, inr}
use Rattle.std.specs.Prelude.{◌==◌, slice_get, reverse, length, if◌then◌else◌}
use Rattle.std.specs.List.{list_all}
use Rattle.qkd_base.specs.Name.{Name, has}
use Rattle.qkd_base.specs.declared.lane.Lane.{Lane}
use Rattle.qkd_base.specs.declared.key_name.NameKind.TheVariants.{Note as NoteKind}
use Rattle.net_model.specs.declared.event.Event.{Event}
use Rattle.net_model.specs.declared.event.Event.TheVariants.{Plan}
use Rattle.net_model.specs.declared.fact.Fact.{Fact}
use Rattle.net_model.specs.declared.fact.Fact.TheVariants.{Stored}
use Rattle.net_model.specs.declared.payload.Payload.{Payload}
use Rattle.net_model.specs.declared.payload.Payload.TheVariants.{Data, Ack}
use Rattle.net_model.specs.declared.record.Record.{Record}
use Rattle.net_model.specs.declared.record.Record.TheVariants.{Learned, Acked}
use Rattle.net_model.specs.Table.{name_of, route_of, bytes_of, origin, target, is_secret}
use Rattle.net_model.specs.Premises.{IsNetwork}
use Rattle.net_model.specs.OctetSequence.{octets_from}
use Rattle.net_model.specs.World.{Network, World}
use Rattle.net_model.specs.View.{View}
use Rattle.net_model.specs.Needed.{view_of}
use Rattle.net_model.specs.Doubt.{MayReplay}
use Rattle.net_model.specs.Relay.{owed, stored_note, receive_fact, receive_ack, receive}
use Rattle.net_model.specs.Decision.{Decision, Refuses, Does, Effect, fresh_name, knows, last_count}
use Rattle.net_model.specs.Decide.{decide, random_need}
use Rattle.net_model.specs.Events.{is_valid_event}
use Rattle.net_model.specs.Invariant.{Conserved}
use Rattle.net_model.specs.Action.{Environment}
use Rattle.net_model.specs.Handle.{is_numbered, commit, stopped, perform, handle}
use Rattle.net_model.specs.Site.{sender}
use Rattle.net_model.specs.Step.{is_asked}
use Rattle.law_base.proofs.Base.{by_number, and_both, eq_same}
use Rattle.law_base.proofs.Walks.{perform_walk, handle_walk}
use Rattle.law_base.proofs.Keeping.{replay_keeps}
use Rattle.law_base.proofs.Seen.{view_me}
use Rattle.law_invariant.specs.May.{MayDecide, is_plan, decided}
use Rattle.law_invariant.proofs.Made.{ranged_route}
use Rattle.law_invariant.proofs.Decisions.{event_may, plan_is}
use Rattle.law_invariant.proofs.Orders.{plan_may}
use Rattle.law_invariant.proofs.Draws.{Draws, DecidesDrawn, event_draws}
use Rattle.law_invariant.proofs.Cuts.{IsCutUp, DecidesCut, event_cuts}
use Rattle.law_invariant.proofs.Receiving.{note_not_secret}
use Rattle.law_safety.proofs.Names.{learned_own, formed_size, older, last}
use Rattle.law_quiet.specs.Noted.{NotesAll, IsNoted}
use Rattle.law_quiet.proofs.Routes.{ends_differ}
use Rattle.law_quiet.proofs.Noting.{taught_there, replay_notes}

-- The batch is permitted, and notes what it teaches.
pub record MayNote (net : Network) (w : World) (v : ℕ) (batch : List Record) : Type 0 where
  pub may : MayReplay net.site w.durable v batch
  pub notes : NotesAll v batch

-- If the decision has an effect whose names have valid counts, its batch is such a one.
abbrev pub DecidesNoted : Network → World → ℕ → Decision → Type 0
DecidesNoted net w v (Refuses reply) = Unit {0}
DecidesNoted net w v (Does e) = list_all is_numbered e.batch ≡ true → MayNote net w v e.batch

module _ (net : Network) (w : World) (c : Conserved net w) (noted : IsNoted w) (v : ℕ) where
  commit_noted : (octets : ℕ) (e : Effect) → MayNote net w v e.batch → IsNoted (commit net.site w v octets e)
  unfolding commit
  commit_noted octets e h = record { table = replay_notes net.site w.durable v e.batch h.may c.now.knowledge noted.table h.notes; doubts = noted.doubts }

  stopped_noted : (octets : ℕ) (e : Effect) → MayNote net w v e.batch → IsNoted (stopped w v octets e)
  unfolding stopped
  stopped_noted octets e h = record {
    table = noted.table;
    doubts = by_number (λ u t. NotesAll u (if t then record { batch = e.batch; checkpointed = None } else w.in_doubt u).batch) v h.notes (λ u ne. noted.doubts u);
  }

  pub perform_noted : (octets : ℕ) (environment : Environment) (e : Effect) → (list_all is_numbered e.batch ≡ true → MayNote net w v e.batch) →
      IsNoted (perform net w v octets environment e).0
  perform_noted octets environment e may =
      perform_walk net w IsNoted noted v octets environment e (λ numbered fits. stopped_noted octets e (may numbered)) (λ numbered fits. commit_noted octets e (may numbered))

  effect_noted : (x : Decision) (e : Effect) → DecidesNoted net w v x → x ≡ Does e → DecidesNoted net w v (Does e)
  effect_noted x e h is = subst (DecidesNoted net w v) is h

  pub handle_noted : (event : Event) (environment : Environment) → (w.up v ≡ true → DecidesNoted net w v (decided net w v event)) → IsNoted (handle net w v event environment).0
  handle_noted event environment may =
      handle_walk net w IsNoted noted v event environment
      (λ up e is. perform_noted (random_need (view_of net w v) event) environment e (effect_noted (decided net w v event) e (may up) is))

-- An event that isn't a frame teaches its node only keys, chunks and parts of its own, which go elsewhere.

nothing_drawn : (octet : ℕ → ℕ) (a b n : ℕ) → n ≡ 0 → octets_from octet a n ≡ octets_from octet b n
unfolding octets_from
nothing_drawn octet a b zero e = refl
nothing_drawn octet a b (suc n) e = absurd (omega (arith, e))

module _ (net : Network) (w : World) (network : IsNetwork net) (c : Conserved net w) (v : ℕ) (up : w.up v ≡ true) where
  abbrev see : View
  see = view_of net w v

  abbrev octet : ℕ → ℕ
  octet = (net.entropy v).octet

  module _ (batch : List Record) (may : MayReplay net.site w.durable v batch) where
    -- The node isn't the target of a fact that it taught itself under a name of its own.
    not_here : (k : ℕ) (f : Fact) → slice_get batch k ≡ Some (Learned f) → origin f ≡ v → target f ≡ v → ⊥
    not_here k f at from to =
        let inv = replay_keeps net.site w.durable w.frames w.unclaimed c.now v batch may in
        let made = inv.table (name_of f) f (taught_there net.site v batch w.durable may k f at) in
        ends_differ (route_of f) (ranged_route f made.ranged).0 (from ∙ sym to)

    cut_notes : (from to : ℕ) → IsCutUp octet v (last net w c v) from to batch → NotesAll v batch
    cut_notes from to cut k f at secret here =
        let x = cut.each k f at secret in
        absurd (not_here k f at (elim (learned_own net.site w.durable v batch may k f at) [
          | inl came ↦ sym (older net w c v up f (inl (name_of f, came))).named ∙ x.node
          | inr own ↦ own.starts
        ]) here)

    idle_notes : Draws octet 0 batch → NotesAll v batch
    idle_notes drawn k f at secret here =
        let none = (drawn k f at secret).within in
        let some : 8 ≤ length (bytes_of f) = elim (learned_own net.site w.durable v batch may k f at) [
          | inl came ↦ formed_size f (c.now.table (name_of f) f came).formed secret
          | inr own ↦ formed_size f own.formed secret
        ] in
        absurd (omega (arith, none, some))

  -- If the decision has an effect, its batch is permitted.
  abbrev Replays : Decision → Type 0
  Replays (Refuses reply) = Unit {0}
  Replays (Does e) = list_all is_numbered e.batch ≡ true → MayReplay net.site w.durable v e.batch

  decided_replays : (x : Decision) → MayDecide net w v x → Replays x
  decided_replays (Refuses reply) may = tt
  decided_replays (Does e) may = may.batch

  plan_replays : Replays (decided net w v Plan)
  unfolding decide random_need
  plan_replays numbered = plan_may net w v c

  event_replays : (event : Event) → v < net.site.nodes → is_asked event ≡ true → is_valid_event net.site v event ≡ true → Replays (decided net w v event)
  event_replays event here asked valid = elim (is_plan event) as (λ t. is_plan event ≡ t → Replays (decided net w v event)) [
    | true ↦ λ is. subst (λ (x : Event). Replays (decided net w v x)) (sym (plan_is event is)) plan_replays
    | false ↦ λ other. decided_replays (decided net w v event) (event_may net w v event network c here asked other valid)
  ] refl

  idle_drawn : (event : Event) → is_asked event ≡ true → random_need see event ≡ 0 → DecidesDrawn octet 0 (decided net w v event)
  idle_drawn event asked none =
      let from_zero : DecidesDrawn octet (0 + random_need see event) (decide net.site net.sealing w.link_up see (octets_from octet 0 (random_need see event)) event) =
      event_draws net.site net.sealing w.link_up see octet 0 event asked in
      let limit : 0 + random_need see event ≡ 0 = omega (arith, none) in
      subst (λ (random : List ℕ). DecidesDrawn octet 0 (decide net.site net.sealing w.link_up see random event)) (nothing_drawn octet 0 (w.drawn v) (random_need see event) none)
      (subst (λ (k : ℕ). DecidesDrawn octet k (decide net.site net.sealing w.link_up see (octets_from octet 0 (random_need see event)) event)) limit from_zero)

  idle_decides : (x : Decision) → Replays x → DecidesDrawn octet 0 x → DecidesNoted net w v x
  idle_decides (Refuses reply) may drawn = tt
  idle_decides (Does e) may drawn = λ numbered. record { may = may numbered; notes = idle_notes e.batch (may numbered) drawn }

  cut_decides : (from to : ℕ) (x : Decision) → Replays x → DecidesCut octet v (last net w c v) from to x → DecidesNoted net w v x
  cut_decides from to (Refuses reply) may cut = tt
  cut_decides from to (Does e) may cut = λ numbered. record { may = may numbered; notes = cut_notes e.batch (may numbered) from to cut }

  pub event_notes : (event : Event) → v < net.site.nodes → is_asked event ≡ true → is_valid_event net.site v event ≡ true → DecidesNoted net w v (decided net w v event)
  event_notes event here asked valid =
      let may = event_replays event here asked valid in
      elim (event_cuts net.site net.sealing w.link_up see octet (w.drawn v) event asked) [
        | inl none ↦ idle_decides (decided net w v event) may (idle_drawn event asked none)
        | inr cut ↦ cut_decides (w.drawn v) (w.drawn v + random_need see event) (decided net w v event) may
            (subst (λ (u : ℕ). DecidesCut octet u (last_count u see.facts + 0) (w.drawn v) (w.drawn v + random_need see event) (decided net w v event)) (view_me net w v) cut)
      ]

-- A received fact comes with its note where this node is its target.

module _ (see : View) (l : Lane) (from offset : ℕ) where
  abbrev note : Fact → Fact
  note f = Stored (fresh_name see NoteKind 0) (name_of f) (reverse (route_of f))

  -- The batch has the note at its second place.
  noted_next : (f : Fact) → is_secret f ≡ true → target f ≡ see.me → slice_get (Learned f ∷ stored_note see f) 1 ≡ Some (Learned (note f))
  noted_next f secret here =
      ap (λ (t : Bool). slice_get (Learned f ∷ (if t then Learned (note f) ∷ [] else [])) 1)
      (and_both (is_secret f) (target f == see.me) secret (ap (λ (u : ℕ). u == see.me) here ∙ eq_same see.me))

  fact_notes : (f : Fact) → NotesAll see.me (receive_fact see l offset f).batch
  unfolding receive_fact
  fact_notes f k g at secret here = by_cases (not (knows see (name_of f))) k at
    where
      by_cases : (t : Bool) (k : ℕ) → slice_get (if t then Learned f ∷ stored_note see f else []) k ≡ Some (Learned g) →
          (n : Name) × (j : ℕ) × (slice_get (if t then Learned f ∷ stored_note see f else []) j ≡ Some (Learned (Stored n (name_of g) (reverse (route_of g)))))
      by_cases true zero e =
          let same : f ≡ g = cc in
          let next = noted_next f (ap is_secret same ∙ secret) (ap target same ∙ here) in
          (fresh_name see NoteKind 0, 1, next ∙ ap (λ (h : Fact). Some (Learned (Stored (fresh_name see NoteKind 0) (name_of h) (reverse (route_of h))))) same)
      by_cases true (suc k) e = absurd (note_not_secret see f g k e secret)
      by_cases false k e = cc

  ack_notes : (n : Name) → NotesAll see.me (receive_ack see l from n).batch
  unfolding receive_ack
  ack_notes n k g at secret here = by_cases (has (owed see from) n) k at
    where
      by_cases : (t : Bool) (k : ℕ) → slice_get (if t then Acked n ∷ [] else []) k ≡ Some (Learned g) →
          (m : Name) × (j : ℕ) × (slice_get (if t then Acked n ∷ [] else []) j ≡ Some (Learned (Stored m (name_of g) (reverse (route_of g)))))
      by_cases true zero e = cc
      by_cases true (suc k) e = cc
      by_cases false k e = cc

pub receive_notes : (net : Network) (w : World) (v : ℕ) (l : Lane) (offset : ℕ) (p : Payload) → NotesAll v (receive net.site (view_of net w v) l offset p).batch
receive_notes net w v l offset (Data f) =
    subst (λ (u : ℕ). NotesAll u (receive_fact (view_of net w v) l offset f).batch) (view_me net w v) (fact_notes (view_of net w v) l (sender net.site l) offset f)
receive_notes net w v l offset (Ack n) =
    subst (λ (u : ℕ). NotesAll u (receive_ack (view_of net w v) l (sender net.site l) n).batch) (view_me net w v) (ack_notes (view_of net w v) l (sender net.site l) offset n)
