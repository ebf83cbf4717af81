-- A tick as a play: a plan, the frames that it puts, and its note.
use Rattle.std.proofs.Common.{◌≡◌, ℕ, Bool, true, false, ◌&&◌, ◌||◌, not, ◌+◌, List, [], ◌∷◌, ◌++◌, refl, sym, ap, subst, ◌∙◌, append-nil}
use Rattle.std.specs.Prelude.{nat_lt}
use Rattle.std.specs.List.{list_all}
use Rattle.net_model.specs.declared.event.Event.TheVariants.{Plan}
use Rattle.net_model.specs.declared.order.Order.{Order}
use Rattle.net_model.specs.declared.repeat.Repeat.{Repeat}
use Rattle.net_model.specs.declared.short_of.ShortOf.{ShortOf}
use Rattle.net_model.specs.declared.placing.Placing.{Placing}
use Rattle.net_model.specs.declared.reply.Reply.{Reply}
use Rattle.net_model.specs.declared.reply.Reply.TheVariants.{Planned}
use Rattle.net_model.specs.OctetSequence.{has_octets}
use Rattle.net_model.specs.Site.{Site, outgoing_lanes}
use Rattle.net_model.specs.World.{Network, World}
use Rattle.net_model.specs.Action.{Environment, Action, Ask, Complete, Outcome, Replies, is_no_memory, is_entropy_fault, is_io_fault, Ok as Fine}
use Rattle.net_model.specs.Journal.{journal_limit, added_len, is_nil}
use Rattle.net_model.specs.Decision.{Effect}
use Rattle.net_model.specs.Decide.{decide, random_need}
use Rattle.net_model.specs.Handle.{is_numbered, commit, stopped, perform, handle}
use Rattle.net_model.specs.Step.{step}
use Rattle.net_model.specs.Tick.{Emission, tick_order}
use Rattle.run_types.specs.declared.item.Item.{Item}
use Rattle.run_model.specs.Outcomes.{plan_items}
use Rattle.run_model.specs.Script.{Script, Reports, Ends as Ended}
use Rattle.run_model.specs.Play.{Played, Whole, numbered, reporting, play, IsPlay, stopped_at, is_forged}
use Rattle.run_model.specs.Lines.{emitted, after_plan, ticked}
use Rattle.law_base.proofs.Base.{by_test}
use Rattle.law_locality.specs.Quiet.{IsQuiet as IsQuietBefore}
use Rattle.law_locality.proofs.Planning.{plan_noted, plan_rests, plan_goes}
use Rattle.run_ops.specs.Quiet.{IsQuiet}
use Rattle.run_ops.specs.Acting.{IsReady, Begins, Plays}
use Rattle.world_state.specs.Rests.{Rests}
use Rattle.world_state.proofs.Resting.{post_rests}
use Rattle.world_state.specs.Stands.{Stands}
use Rattle.world_state.specs.Tallied.{Tallied}
use Rattle.world_state.specs.Sending.{Sending, Puts, Breaks}
use Rattle.world_state.specs.Ticking.{HasPlanned, HasNoted, HasStayed}
use Rattle.world_state.specs.declared.state.State.{State}
use Rattle.world_state.proofs.Plays.{asks_is, asks_said, none_is, none_said, numbered_both}
use Rattle.world_state.proofs.Tallies.{tallied_more}
use Rattle.world_state.specs.Outside.{Outside}

-- The reply isn't a plan.
abbrev pub IsOther : Reply → Type 0
IsOther (Planned orders repeats shorts) = ⊥
IsOther _ = Unit {0}

pub other_of : (reply : Reply) → ((orders : List Order) (repeats : List Repeat) (shorts : List ShortOf) → reply ≡ Planned orders repeats shorts → ⊥) → IsOther reply
other_of (Planned orders repeats shorts) h = h orders repeats shorts refl
other_of _ h = tt

other_ends : (s : Site) (v : ℕ) (reply : Reply) → IsOther reply → after_plan s v (Replies reply) ≡ Ended
other_ends s v (Planned orders repeats shorts) other = absurd other
other_ends s v _ other = refl

other_said : (reply : Reply) → IsOther reply → (orders : List Order) (repeats : List Repeat) (shorts : List ShortOf) → Replies reply ≡ Replies (Planned orders repeats shorts) → ⊥
other_said (Planned a b d) other orders repeats shorts h = other
other_said _ other orders repeats shorts h = cc

-- ---- a quiet network

quiet_before : (w : World) → IsQuiet w → IsQuietBefore w
quiet_before w q = record { claimed = q.claimed; put = q.put; noted = q.noted }

quiet_after : (w : World) → IsQuietBefore w → IsQuiet w
quiet_after w q = record { claimed = q.claimed; put = q.put; noted = q.noted }

-- A manager that replies with its plan is up.

module _ (net : Network) (w : World) (v : ℕ) where
  abbrev StaysUp : World × Outcome → Type 0
  StaysUp r = (orders : List Order) (repeats : List Repeat) (shorts : List ShortOf) → r.1 ≡ Replies (Planned orders repeats shorts) → r.0.up v ≡ true

  up_other : (x : World) (reply : Reply) → IsOther reply → StaysUp (x, Replies reply)
  up_other x reply other orders repeats shorts h = absurd (other_said reply other orders repeats shorts h)

  up_committed : (octets : ℕ) (e : Effect) → w.up v ≡ true → StaysUp (commit net.site w v octets e, Replies e.reply)
  unfolding commit
  up_committed octets e up orders repeats shorts h = up

  up_performed : (octets : ℕ) (environment : Environment) (e : Effect) → w.up v ≡ true → StaysUp (perform net w v octets environment e)
  unfolding perform
  up_performed octets environment e up =
      by_test StaysUp (is_no_memory environment || not (list_all is_numbered e.batch)) _ _ (λ t. up_other w _ tt)
      (λ t. by_test StaysUp (nat_lt journal_limit ((w.journal v).length' + added_len (w.journal v).version e.batch)) _ _ (λ t. up_other w _ tt)
      (λ t. by_test StaysUp (nat_lt 0 octets && (not (has_octets (net.entropy v) (w.drawn v + octets)) || is_entropy_fault environment)) _ _ (λ t. up_other w _ tt)
      (λ t. by_test StaysUp (is_io_fault environment && not (is_nil e.batch)) _ _ (λ t. up_other (stopped w v octets e) _ tt) (λ t. up_committed octets e up))))

  planned_up : (environment : Environment) → StaysUp (step net w (Ask v Plan environment))
  unfolding step handle decide random_need
  planned_up environment = by_test StaysUp (w.up v) _ _ (λ t. up_performed 0 environment _ t) (λ t. up_other w _ tt)

module _ {K Q E X : Type 0} (outside : Outside K Q E X) where
  abbrev Standing : State K Q E X → Network → World → Type 0
  Standing s net w = Stands outside s net w

  abbrev Counted : State K Q E X → State K Q E X → Site → List Action → Type 0
  Counted old new site actions = Tallied outside old new site actions

  abbrev Resting : State K Q E X → Network → World → Type 0
  Resting s net w = Rests outside s net w

  pub rests_of : (s : State K Q E X) (net : Network) (w : World) → Standing s net w → Resting s net w
  rests_of s net w h = record {
    running = h.running;
    sited = h.sited;
    nodes = h.nodes;
    posts = λ v p at. post_rests net v w h.running outside.disk outside.entropy p (h.posts v p at);
    sides = h.sides;
    wires = λ l side at there. (h.lanes l side at there).wire;
    links = h.links;
    devices = h.devices;
  }

  -- ---- the last action

  module _ (old mid new : State K Q E X) (net : Network) (w : World) (v : ℕ) (from : List Emission) (reported : List Item) (placings : List Placing)
      (h : Puts outside old mid net w v from [] reported placings) where
    abbrev last : Outcome → Script
    last out = Ended

    module _ (k : HasNoted outside mid new net h.after v) where
      abbrev x : World
      x = (step net h.after (Complete v)).0

      open_last : is_forged (step net h.after (Complete v)).1 ≡ false
      open_last = ap is_forged k.said

      noted_is : IsPlay net h.after (emitted v []) (Complete v ∷ [])
      unfolding emitted
      noted_is = asks_is net h.after (Complete v) last (Complete v) [] open_last refl k.may refl

      noted_said : (number : ℕ) → play net number h.after (emitted v []) (Complete v ∷ []) ≡ stopped_at x Whole
      unfolding emitted play
      noted_said number = asks_said net h.after (Complete v) last (Complete v) [] open_last number

      none_more : (number : ℕ) → reporting (numbered number reported) (stopped_at x Whole) ≡ record { items = numbered number reported; world = x; ending = Whole }
      none_more number = λ i. record { items = append-nil (numbered number reported) i; world = x; ending = Whole }

      pub all_played : Plays Standing Counted old new net w (emitted v from) reported
      all_played = record {
        actions = h.actions ++ Complete v ∷ [];
        after = x;
        is = h.is (Complete v ∷ []) noted_is;
        said = λ number. h.said number (Complete v ∷ []) ∙ ap (reporting (numbered number reported)) (noted_said number) ∙ none_more number;
        ready = k.ready;
        tallied = tallied_more outside net.site old mid new h.actions (Complete v ∷ []) h.tallied k.tallied;
      }

    pub stayed_breaks : HasStayed outside mid new net h.after →
        Breaks outside old new net w v from
    stayed_breaks k = record {
      actions = h.actions ++ [];
      is = h.is [] (none_is net h.after v []);
      rests = subst (λ (y : World). Standing new net y) (sym (ap (λ (p : Played). p.world) (h.said 0 [] ∙ ap (reporting (numbered 0 reported)) (none_said net h.after v [])))) k.stands;
      tallied = tallied_more outside net.site old mid new h.actions [] h.tallied k.tallied;
    }

  -- ---- the first action

  module _ (old mid : State K Q E X) (net : Network) (w : World) (v : ℕ) (reply : Reply)
      (h : HasPlanned outside old mid net w v reply) where
    abbrev first : Action
    first = Ask v Plan h.environment

    abbrev w₁ : World
    w₁ = (step net w first).0

    abbrev out : Outcome
    out = (step net w first).1

    abbrev next : Site → Bool → Outcome → Script
    next s quiet out = Reports (plan_items quiet v out) (after_plan s v out)

    open_first : is_forged out ≡ false
    open_first = ap is_forged h.said

    planned_is : (s : Site) (quiet : Bool) (rest : List Action) → IsPlay net w₁ (after_plan s v (Replies reply)) rest → IsPlay net w (ticked s quiet v) (first ∷ rest)
    unfolding ticked
    planned_is s quiet rest k =
        asks_is net w (Ask v Plan Fine) (next s quiet) first rest open_first refl h.may (subst (λ (y : Outcome). IsPlay net w₁ (after_plan s v y) rest) (sym h.said) k)

    planned_said : (s : Site) (quiet : Bool) (number : ℕ) (rest : List Action) → play net number w (ticked s quiet v) (first ∷ rest) ≡
        reporting (numbered number (plan_items quiet v (Replies reply))) (play net number w₁ (after_plan s v (Replies reply)) rest)
    unfolding ticked play
    planned_said s quiet number rest =
        asks_said net w (Ask v Plan Fine) (next s quiet) first rest open_first number
        ∙ ap (λ (y : Outcome). reporting (numbered number (plan_items quiet v y)) (play net number w₁ (after_plan s v y) rest)) h.said

    nothing_is : (s : Site) (y : Outcome) → IsPlay net w₁ (after_plan s v y) []
    nothing_is s (Replies (Planned orders repeats shorts)) = none_is net w₁ v _
    nothing_is s _ = refl

    nothing_said : (s : Site) (y : Outcome) → (play net 0 w₁ (after_plan s v y) []).world ≡ w₁
    unfolding play
    nothing_said s (Replies (Planned orders repeats shorts)) = ap (λ (p : Played). p.world) (none_said net w₁ v _)
    nothing_said s _ = refl

    ended : (quiet : Bool) (number : ℕ) → reporting (numbered number (plan_items quiet v (Replies reply))) (play net number w₁ Ended []) ≡
        record { items = numbered number (plan_items quiet v (Replies reply)); world = w₁; ending = Whole }
    unfolding play
    ended quiet number = λ i. record { items = append-nil (numbered number (plan_items quiet v (Replies reply))) i; world = w₁; ending = Whole }

    -- The run ends after the plan.

    pub first_breaks : (s : Site) (quiet : Bool) → Begins Resting Counted old mid net w (ticked s quiet v)
    first_breaks s quiet = record {
      actions = first ∷ [];
      is = planned_is s quiet [] (nothing_is s (Replies reply));
      rests = subst (λ (y : World). Resting mid net y) (sym (ap (λ (p : Played). p.world) (planned_said s quiet 0 []) ∙ nothing_said s (Replies reply))) (rests_of mid net w₁ h.stands);
      tallied = h.tallied;
    }

    -- a tick with nothing to put

    pub nothing_planned : (quiet : Bool) → IsReady Standing old net w → IsOther reply → Plays Standing Counted old mid net w (ticked net.site quiet v) (plan_items quiet v (Replies reply))
    nothing_planned quiet ready other = record {
      actions = first ∷ [];
      after = w₁;
      is = planned_is net.site quiet [] (subst (λ (s : Script). IsPlay net w₁ s []) (sym (other_ends net.site v reply other)) refl);
      said = λ number. planned_said net.site quiet number [] ∙ ap (λ (s : Script). reporting (numbered number (plan_items quiet v (Replies reply))) (play net number w₁ s [])) (other_ends net.site v reply other) ∙ ended quiet number;
      ready = record {
        stands = h.stands;
        quiet = quiet_after w₁ (plan_rests net w v h.environment (quiet_before w ready.quiet) (λ orders repeats shorts e. other_said reply other orders repeats shorts (sym h.said ∙ e)));
      };
      tallied = h.tallied;
    }

  -- ---- a tick with frames to put

  module _ (old mid : State K Q E X) (net : Network) (w : World) (v : ℕ) (orders : List Order) (repeats : List Repeat) (shorts : List ShortOf)
      (h : HasPlanned outside old mid net w v (Planned orders repeats shorts)) where
    abbrev w₂ : World
    w₂ = (step net w (Ask v Plan h.environment)).0

    abbrev wanted : Site → List Emission
    wanted s = tick_order (outgoing_lanes s v) repeats orders

    pub planned_sending : IsReady Standing old net w → (s : Site) → net.site ≡ s → Sending outside mid net w₂ v (wanted s) []
    planned_sending ready s sited = subst (λ (t : Site). Sending outside mid net w₂ v (wanted t) []) sited (record {
      stands = h.stands;
      sends = plan_goes net w v h.environment orders repeats shorts ready.stands.running.network ready.stands.running.conserved (quiet_before w ready.quiet) h.may h.said;
      up = planned_up net w v h.environment orders repeats shorts h.said;
      placed = sym (plan_noted net w v h.environment v (quiet_before w ready.quiet));
      sized = refl;
    })

    pub tick_played : (new : State K Q E X) (quiet : Bool) (reported : List Item) (s : Site) → net.site ≡ s → Plays Standing Counted mid new net w₂ (emitted v (wanted s)) reported →
        Plays Standing Counted old new net w (ticked net.site quiet v) (plan_items quiet v (Replies (Planned orders repeats shorts)) ++ reported)
    tick_played new quiet reported s sited k' =
        let k : Plays Standing Counted mid new net w₂ (emitted v (wanted net.site)) reported = subst (λ (t : Site). Plays Standing Counted mid new net w₂ (emitted v (wanted t)) reported) (sym sited) k' in
        let head = plan_items quiet v (Replies (Planned orders repeats shorts)) in
        record {
          actions = Ask v Plan h.environment ∷ k.actions;
          after = k.after;
          is = planned_is old mid net w v (Planned orders repeats shorts) h net.site quiet k.actions k.is;
          said = λ number. planned_said old mid net w v (Planned orders repeats shorts) h net.site quiet number k.actions ∙ ap (reporting (numbered number head)) (k.said number)
              ∙ λ i. record { items = numbered_both number head reported i; world = k.after; ending = Whole };
          ready = k.ready;
          tallied = tallied_more outside net.site old mid new (Ask v Plan h.environment ∷ []) k.actions h.tallied k.tallied;
        }

    pub tick_breaks : (new : State K Q E X) (quiet : Bool) (s : Site) → net.site ≡ s →
        Breaks outside mid new net w₂ v (wanted s) → Begins Resting Counted old new net w (ticked net.site quiet v)
    tick_breaks new quiet s sited k' =
        let k : Begins Standing Counted mid new net w₂ (emitted v (wanted net.site)) = subst (λ (t : Site). Begins Standing Counted mid new net w₂ (emitted v (wanted t))) (sym sited) k' in
        record {
          actions = Ask v Plan h.environment ∷ k.actions;
          is = planned_is old mid net w v (Planned orders repeats shorts) h net.site quiet k.actions k.is;
          rests = subst (λ (y : World). Resting new net y) (sym (ap (λ (p : Played). p.world) (planned_said old mid net w v (Planned orders repeats shorts) h net.site quiet 0 k.actions))) (rests_of new net _ k.rests);
          tallied = tallied_more outside net.site old mid new (Ask v Plan h.environment ∷ []) k.actions h.tallied k.tallied;
        }
