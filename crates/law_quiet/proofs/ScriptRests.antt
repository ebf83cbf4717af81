-- Every script leaves a quiet network quiet: a tick notes all that it sends, and other lines send nothing.
use Rattle.std.proofs.Common.{◌≡◌, ℕ, zero, suc, ◌-◌, Bool, true, false, List, [], ◌∷◌, ◌++◌, length, refl, sym, ◌∙◌, ap, subst, arith, length-append}
use Rattle.net_model.specs.declared.event.Event.TheVariants as events
use Rattle.net_model.specs.declared.reply.Reply.TheVariants.{Planned}
use Rattle.net_model.specs.Premises.{IsNetwork}
use Rattle.net_model.specs.Site.{outgoing_lanes}
use Rattle.net_model.specs.World.{Network, World, Allocation, Transmission}
use Rattle.net_model.specs.Invariant.{Conserved}
use Rattle.net_model.specs.Frames.{allocate}
use Rattle.net_model.specs.Handle.{frame_at}
use Rattle.net_model.specs.Action.{Environment, Ok, Recovers, Action, Start, Crash, Arm, SetLink, TakeBlock, Ask, Allocate, Transmit, Complete, Deliver, Flip, Forge, Outcome, Replies, StartStopped, StartMemory, ForeignAt, is_shown, environment_of}
use Rattle.net_model.specs.Step.{step, is_enabled, IsStep, run}
use Rattle.net_model.specs.Tick.{Emission, Again, New, tick_order, ordered}
use Rattle.run_types.specs.declared.item.Item.{Item}
use Rattle.run_model.specs.Script.{Script}
use Rattle.run_model.specs.Lines.{emitted, after_plan, ticked, settle, block_at_end, blocks, is_taken, begun, begins}
use Rattle.run_types.specs.declared.end.End.{End}
use Rattle.run_types.specs.declared.end.End.TheVariants.{Low, High}
use Rattle.run_model.specs.Play.{plain}
use Rattle.law_base.proofs.Base.{and_left}
use Rattle.law_base.proofs.Lists.{lane_set_same}
use Rattle.law_invariant.proofs.Steps.{step_keeps}
use Rattle.law_locality.specs.Quiet.{IsQuiet}
use Rattle.law_locality.specs.Sending.{Sends}
use Rattle.law_locality.proofs.Completing.{completes}
use Rattle.law_locality.proofs.Orders.{order_goes}
use Rattle.law_locality.proofs.Planning.{plan_goes, plan_rests}
use Rattle.law_locality.proofs.Runs.{run_none, run_one}
use Rattle.law_locality.proofs.TickRepeats.{again_goes}
use Rattle.law_quiet.proofs.KeptQuiet.{sends_nothing, stays_quiet}
use Rattle.law_quiet.proofs.SilentPlans.{asked_plan, asked_note, asked_put, asked_claim}
use Rattle.law_quiet.proofs.Leading.{Leads}
use Rattle.law_quiet.proofs.LeadingSettles.{leads_settle}

module _ (net : Network) (network : IsNetwork net) where
  -- The network is quiet between lines.
  abbrev pub Rests : World → Type 0
  Rests w = Conserved net w × IsQuiet w

  enabled : (w : World) (a : Action) → IsStep net w a → is_enabled net w a ≡ true
  enabled w a may = and_left (is_enabled net w a) (is_shown (environment_of a) (step net w a).1) may

  abbrev any : Item → Bool
  any item = true

  -- Whether an action sends anything doesn't depend on what the outside answers.
  pub plain_sends : (a : Action) → sends_nothing a ≡ sends_nothing (plain a)
  plain_sends (Start v recovery) = refl
  plain_sends (Crash v) = refl
  plain_sends (Arm v fault) = refl
  plain_sends (SetLink link up) = refl
  plain_sends (TakeBlock v link environment) = refl
  plain_sends (Ask v event environment) = refl
  plain_sends (Allocate t) = refl
  plain_sends (Transmit l j environment) = refl
  plain_sends (Complete v) = refl
  plain_sends (Deliver l number environment) = refl
  plain_sends (Flip l number bit environment) = refl
  plain_sends (Forge l octets environment) = refl

  pub rests_on : (w : World) → Rests w → (a action : Action) → plain a ≡ action → IsStep net w a → sends_nothing action ≡ true → Rests (step net w a).0
  rests_on w h a action asked may none = (
    step_keeps net w a network may h.0,
    stays_quiet net w h.0 h.1 network a (enabled w a may) (plain_sends a ∙ ap sends_nothing asked ∙ none),
  )

  -- A tick.

  one_frame : (w : World) (t : Transmission) → length ((step net w (Allocate t)).0.frames t.lane) - 1 ≡ length (w.frames t.lane)
  unfolding step allocate
  one_frame w t =
      let room : Allocation = record { offset = length (w.durable.own t.lane); item = t.item } in
      let set : (step net w (Allocate t)).0.frames t.lane ≡ w.frames t.lane ++ room ∷ [] = lane_set_same w.frames t.lane (w.frames t.lane ++ room ∷ []) in
      let more = ap length set ∙ length-append (w.frames t.lane) (room ∷ []) in
      omega (arith, more)

  emits : (v : ℕ) (es : List Emission) (w : World) → Conserved net w → Sends net w v es → Leads net any Rests w (emitted v es)
  unfolding emitted
  emits v [] w c s = λ a asked may.
      let is = asked_note a v asked in (
        step_keeps net w a network may c,
        subst (λ (x : Action). IsQuiet (step net w x).0) (sym is) (completes net w v s),
      )
  emits v (Again r ∷ es) w c s = λ a asked may.
      let is = asked_put a r.lane (frame_at (w.frames r.lane) r.offset) asked in
      λ told.
      emits v es (step net w a).0 (step_keeps net w a network may c)
      (subst (λ (x : Action). Sends net (step net w x).0 v es) (sym is.1) (again_goes net w v r es s is.0 network c))
  emits v (New o ∷ es) w c s = λ a asked may.
      let is = asked_claim a (ordered o) asked in
      let middle : World = (step net w a).0 in
      let c' : Conserved net middle = step_keeps net w a network may c in
      λ b put may'.
      let number : length (middle.frames o.lane) - 1 ≡ length (w.frames o.lane) = ap (λ (x : Action). length ((step net w x).0.frames o.lane) - 1) is ∙ one_frame w (ordered o) in
      let put' = asked_put b o.lane (length (w.frames o.lane)) (put ∙ ap (λ (j : ℕ). Transmit o.lane j Ok) number) in
      let sent : Sends net (run net w (Allocate (ordered o) ∷ Transmit o.lane (length (w.frames o.lane)) put'.0 ∷ [])) v es = order_goes net w v o es s put'.0 network c in
      let both : run net w (Allocate (ordered o) ∷ Transmit o.lane (length (w.frames o.lane)) put'.0 ∷ []) ≡ (step net middle b).0 =
      run_one net w (Allocate (ordered o)) (Transmit o.lane (length (w.frames o.lane)) put'.0 ∷ []) ∙
      run_one net (step net w (Allocate (ordered o))).0 (Transmit o.lane (length (w.frames o.lane)) put'.0) [] ∙
      run_none net (step net (step net w (Allocate (ordered o))).0 (Transmit o.lane (length (w.frames o.lane)) put'.0)).0 ∙
      ap (λ (x : Action). (step net (step net w x).0 (Transmit o.lane (length (w.frames o.lane)) put'.0)).0) (sym is) ∙
      ap (λ (x : Action). (step net middle x).0) (sym put'.1) in
      λ told. emits v es (step net middle b).0 (step_keeps net middle b network may' c') (subst (λ (x : World). Sends net x v es) both sent)

  planned : (w : World) → Rests w → (v : ℕ) (environment : Environment) → IsStep net w (Ask v events.Plan environment) → (out : Outcome) →
      (step net w (Ask v events.Plan environment)).1 ≡ out → Leads net any Rests (step net w (Ask v events.Plan environment)).0 (after_plan net.site v out)
  planned w h v environment may (Replies (Planned orders repeats shorts)) said =
      emits v (tick_order (outgoing_lanes net.site v) repeats orders) (step net w (Ask v events.Plan environment)).0 (step_keeps net w (Ask v events.Plan environment) network may h.0)
      (plan_goes net w v environment orders repeats shorts network h.0 h.1 may said)
  planned w h v environment may _ said =
      (step_keeps net w (Ask v events.Plan environment) network may h.0, plan_rests net w v environment h.1 (λ orders repeats shorts other. cc))

  pub ticks_once : (quiet : Bool) (v : ℕ) (w : World) → Rests w → Leads net any Rests w (ticked net.site quiet v)
  unfolding ticked
  ticks_once quiet v w h = λ a asked may.
      let is = asked_plan a v asked in
      λ told.
      subst (λ (x : Action). IsStep net w x → Leads net any Rests (step net w x).0 (after_plan net.site v (step net w x).1)) (sym is.is)
      (λ may'. planned w h v is.environment may' (step net w (Ask v events.Plan is.environment)).1 refl) may

  -- A settle.

  pub settles : (rounds : ℕ) (w : World) → Rests w → Leads net any Rests w (settle net.site rounds)
  settles rounds w h =
      leads_settle net any Rests (ticks_once true) (λ l number x a q asked may told. rests_on x q a (Deliver l number Ok) asked may refl) rounds w h

  -- Blocks of link bytes, and the starts at the beginning of a run.

  one_block : (link : ℕ) (end : End) (goes_on : Bool) (next : Bool → Script) → ((b : Bool) (x : World) → Rests x → Leads net any Rests x (next b)) → (w : World) → Rests w →
      Leads net any Rests w (block_at_end net.site link end goes_on next)
  one_block link end false next more w h = more false w h
  one_block link end true next more w h = λ a asked may told. more (is_taken (step net w a).1) (step net w a).0 (rests_on w h a _ asked may refl)

  pub takes_blocks : (link : ℕ) (low high : Bool) (count : ℕ) (w : World) → Rests w → Leads net any Rests w (blocks net.site link low high count)
  unfolding blocks
  takes_blocks link low high zero w h = h
  takes_blocks link low high (suc n) w h =
      one_block link Low low _ (λ l x q. one_block link High high _ (λ k y r. takes_blocks link l k n y r) x q) w h

  pub starts_once : (v : ℕ) (w : World) → Rests w → Leads net any Rests w (begins v)
  starts_once v w h = λ a asked may. any_begun (step net w a).1 (step net w a).0 (rests_on w h a (Start v (Recovers false)) asked may refl)
    where
      any_begun : (out : Outcome) (x : World) → Rests x → Leads net any Rests x (begun out)
      any_begun StartStopped x q = λ told. q
      any_begun (ForeignAt place) x q = λ told. q
      any_begun StartMemory x q = tt
      any_begun _ x q = q
