-- Every action keeps the places of keys, so every run does.
use Rattle.std.proofs.Common.{◌≡◌, ℕ, Bool, true, false, ◌&&◌, ◌||◌, List, [], ◌∷◌, refl, sym, ◌∙◌, ap, arith, Option, Some, None, inl, inr}
use Rattle.std.specs.Prelude.{slice_get, if◌then◌else◌}
use Rattle.qkd_base.specs.Name.{Name}
use Rattle.qkd_base.specs.Family.{number_set}
use Rattle.net_model.specs.declared.fact.Fact.{Fact}
use Rattle.net_model.specs.declared.record.Record.TheVariants.{Learned}
use Rattle.net_model.specs.Premises.{IsNetwork}
use Rattle.net_model.specs.Table.{fact_at}
use Rattle.net_model.specs.Site.{is_incident}
use Rattle.net_model.specs.World.{Network, World, Durable, InDoubt, Transmission, Outgoing, no_doubt, first}
use Rattle.net_model.specs.Action.{Environment, Action, Start, Crash, Arm, SetLink, TakeBlock, Ask, Allocate, Transmit, Complete, Deliver, Flip, Forge, Recovery, Recovers, Resumes, Interrupted, NoMemory, Foreign, Outcome, is_no_memory, is_io_fault, is_shown, environment_of}
use Rattle.net_model.specs.Invariant.{Conserved}
use Rattle.net_model.specs.Frames.{allocate, transmit_one, transmit, outgoing_of}
use Rattle.net_model.specs.Start.{resolved, restarted, interrupted_start, recovers, start}
use Rattle.net_model.specs.Step.{crash, step, is_node, is_link, is_enabled, is_step, run, is_run, IsRun}
use Rattle.qkd_base.specs.declared.lane.Lane.{Lane}
use Rattle.law_base.proofs.Base.{by_number, by_test, and_left, and_right}
use Rattle.law_base.proofs.Growing.{replay_cases}
use Rattle.law_base.proofs.Resuming.{resumed_durable}
use Rattle.law_invariant.proofs.Steps.{step_keeps}
use Rattle.law_safety.specs.Places.{ArePlaced}
use Rattle.law_safety.proofs.Laid.{laid_stays}
use Rattle.law_safety.proofs.Names.{IsThere}
use Rattle.law_safety.proofs.Effects.{AreLaid}
use Rattle.law_safety.proofs.Asking.{ask_lays}
use Rattle.law_safety.proofs.Receiving.{deliver_lays, tampered_lays, flip_lays, take_block_lays, complete_lays}

-- A world without new facts in which the same octets were drawn keeps the places.
nothing_new : (net : Network) (w w' : World) → ((f : Fact) → IsThere w' f → IsThere w f) → ((u : ℕ) → w'.drawn u ≡ w.drawn u) → AreLaid net w → AreLaid net w'
nothing_new net w w' back same laid =
    laid_stays net (IsThere w) (IsThere w') w.drawn w'.drawn (λ f t secret. back f t) (λ u. let e = same u in omega (arith, e)) laid

module _ (net : Network) (w : World) (network : IsNetwork net) (c : Conserved net w) (laid : AreLaid net w) where
  abbrev Kept : World × Outcome → Type 0
  Kept r = AreLaid net r.0

  -- Lemmas on starts.

  doubt_back : (v k : ℕ) (f : Fact) (u : ℕ) → slice_get (number_set w.in_doubt v no_doubt u).batch k ≡ Some (Learned f) → IsThere w f
  doubt_back v k f =
      by_number (λ u t. slice_get (if t then no_doubt else w.in_doubt u).batch k ≡ Some (Learned f) → IsThere w f) v (λ at. absurd (cc)) (λ u ne at. inr (u, k, at))

  resolved_back : (v : ℕ) (committed : Bool) (f : Fact) → IsThere (resolved net.site w v committed) f → IsThere w f
  resolved_back v true f (inl (n, there)) = elim (replay_cases net.site v (w.in_doubt v).batch w.durable (c.doubts v) n f there) [
    | inl old ↦ inl (n, old)
    | inr (k, at) ↦ inr (v, k, at)
  ]
  resolved_back v false f (inl there) = inl there
  resolved_back v true f (inr doubt) = inr doubt
  resolved_back v false f (inr doubt) = inr doubt

  restarted_back : (v : ℕ) (committed : Bool) (f : Fact) → IsThere (restarted net (resolved net.site w v committed) v) f → IsThere w f
  unfolding restarted
  restarted_back v committed f (inl there) = resolved_back v committed f (inl there)
  restarted_back v committed f (inr (u, k, at)) = doubt_back v k f u at

  restarted_lays : (v : ℕ) (committed : Bool) → AreLaid net (restarted net (resolved net.site w v committed) v)
  unfolding restarted
  restarted_lays v committed = nothing_new net w (restarted net (resolved net.site w v committed) v) (restarted_back v committed) (λ u. refl) laid

  -- A start that goes on from a checkpoint has no further doubt to settle.
  resumed_doubt : (v : ℕ) (d : InDoubt) (k : ℕ) (f : Fact) (u : ℕ) → slice_get (number_set (number_set w.in_doubt v d) v no_doubt u).batch k ≡ Some (Learned f) → IsThere w f
  resumed_doubt v d k f =
      by_number (λ u t. slice_get (if t then no_doubt else if t then d else w.in_doubt u).batch k ≡ Some (Learned f) → IsThere w f) v
      (λ at. absurd (cc)) (λ u ne at. inr (u, k, at))

  resumed_back : (v : ℕ) (committed : Bool) (f : Fact) →
      IsThere (restarted net (resolved net.site (interrupted_start net w v (Some committed)) v committed) v) f → IsThere w f
  unfolding restarted
  resumed_back v committed f (inl (n, there)) =
      resolved_back v committed f (inl (n, ap (λ (d : Durable). fact_at d.facts n) (sym (resumed_durable net w v committed)) ∙ there))
  resumed_back v committed f (inr (u, k, at)) = resumed_doubt v (record (w.in_doubt v) { checkpointed = Some committed }) k f u at

  resumed_lays : (v : ℕ) (committed : Bool) → AreLaid net (restarted net (resolved net.site (interrupted_start net w v (Some committed)) v committed) v)
  unfolding restarted
  resumed_lays v committed =
      nothing_new net w (restarted net (resolved net.site (interrupted_start net w v (Some committed)) v committed) v) (resumed_back v committed) (λ u. refl) laid

  moved_back : (v : ℕ) (committed : Bool) (k : ℕ) (f : Fact) (u : ℕ) →
      slice_get (number_set w.in_doubt v (record (w.in_doubt v) { checkpointed = Some committed }) u).batch k ≡ Some (Learned f) → IsThere w f
  moved_back v committed k f =
      by_number (λ u t. slice_get (if t then record (w.in_doubt v) { checkpointed = Some committed } else w.in_doubt u).batch k ≡ Some (Learned f) → IsThere w f) v
      (λ at. inr (v, k, at)) (λ u ne at. inr (u, k, at))

  interrupted_back : (v : ℕ) (made : Option Bool) (f : Fact) → IsThere (interrupted_start net w v made) f → IsThere w f
  interrupted_back v None f there = there
  interrupted_back v (Some committed) f (inl there) = inl there
  interrupted_back v (Some committed) f (inr (u, k, at)) = moved_back v committed k f u at

  interrupted_same : (v : ℕ) (made : Option Bool) (u : ℕ) → (interrupted_start net w v made).drawn u ≡ w.drawn u
  interrupted_same v None u = refl
  interrupted_same v (Some committed) u = refl

  recovers_lays : (v : ℕ) (recovery : Recovery) → Kept (recovers net w v recovery)
  recovers_lays v (Recovers committed) = restarted_lays v committed
  recovers_lays v (Resumes committed) = resumed_lays v committed
  recovers_lays v (Interrupted made) = nothing_new net w (interrupted_start net w v made) (interrupted_back v made) (interrupted_same v made) laid
  recovers_lays v NoMemory = laid
  recovers_lays v Foreign = laid

  start_lays : (v : ℕ) (recovery : Recovery) → Kept (start net w v recovery)
  unfolding start
  start_lays v recovery = by_test Kept (w.up v) _ _ (λ e. laid) (λ e. recovers_lays v recovery)

  -- Lemmas on actions that change neither facts nor doubts.

  crash_lays : (v : ℕ) → Kept (crash w v)
  crash_lays v = by_test Kept (w.up v) _ _ (λ e. record { place = laid.place; each = laid.each; apart = laid.apart }) (λ e. laid)

  allocate_lays : (t : Transmission) → Kept (allocate w t)
  unfolding allocate
  allocate_lays t = record { place = laid.place; each = laid.each; apart = laid.apart }

  put_lays : (l : Lane) (environment : Environment) (o : Option Outgoing) → Kept (transmit_one net w l environment o)
  put_lays l environment None = laid
  put_lays l environment (Some o) =
      by_test Kept (is_no_memory environment || is_io_fault environment) _ _ (λ e. record { place = laid.place; each = laid.each; apart = laid.apart })
      (λ e. record { place = laid.place; each = laid.each; apart = laid.apart })

  transmit_lays : (l : Lane) (j : ℕ) (environment : Environment) → Kept (transmit net w l j environment)
  unfolding transmit
  transmit_lays l j environment = put_lays l environment (outgoing_of j (w.outgoing l))

  incident_is : (v link : ℕ) (environment : Environment) → is_enabled net w (TakeBlock v link environment) ≡ true → is_incident net.site v link ≡ true
  unfolding is_enabled
  incident_is v link environment may = and_right (is_node net v && is_link net link) (is_incident net.site v link) may

  action_lays : (a : Action) → is_enabled net w a ≡ true → Kept (step net w a)
  unfolding step
  action_lays (Start v recovery) may = start_lays v recovery
  action_lays (Crash v) may = crash_lays v
  action_lays (Arm v fault) may = laid
  action_lays (SetLink link up) may = record { place = laid.place; each = laid.each; apart = laid.apart }
  action_lays (TakeBlock v link environment) may = take_block_lays net w c laid v link environment (incident_is v link environment may)
  action_lays (Ask v event environment) may = ask_lays net w network c v laid event environment may
  action_lays (Allocate t) may = allocate_lays t
  action_lays (Transmit l j environment) may = transmit_lays l j environment
  action_lays (Complete v) may = complete_lays net w c laid v
  action_lays (Deliver l number environment) may = deliver_lays net w c laid l environment number
  action_lays (Flip l number bit environment) may = flip_lays net w c laid l environment number bit
  action_lays (Forge l octets environment) may = tampered_lays net w c laid l environment octets

-- Lemmas on runs.

-- Where no batch is in doubt, all facts are in the table.
certain_lays : (net : Network) (w : World) → ((v : ℕ) → w.in_doubt v ≡ no_doubt) → ArePlaced net w → AreLaid net w
certain_lays net w certain h =
    record {
      place = h.place;
      each = λ f there secret. let t = in_table f there in h.each t.0 f t.1 secret;
      apart = λ f g there there' secret secret'. let t = in_table f there in let u = in_table g there' in h.apart t.0 u.0 f g t.1 u.1 secret secret';
    }
  where
    in_table : (f : Fact) → IsThere w f → (n : Name) × (fact_at w.durable.facts n ≡ Some f)
    in_table f (inl there) = there
    in_table f (inr (v, k, at)) =
        let none : slice_get no_doubt.batch k ≡ Some (Learned f) = ap (λ (d : InDoubt). slice_get d.batch k) (sym (certain v)) ∙ at in absurd (cc)

run_lays : (net : Network) → IsNetwork net → (actions : List Action) (w : World) → Conserved net w → AreLaid net w → IsRun net w actions → AreLaid net (run net w actions)
unfolding run is_run
run_lays net network [] w c laid h = laid
run_lays net network (a ∷ actions) w c laid h =
    let new : World = (step net w a).0 in
    let here = and_left (is_step net w a) (is_run net new actions) h in
    run_lays net network actions new (step_keeps net w a network here c)
    (action_lays net w network c laid a (and_left (is_enabled net w a) (is_shown (environment_of a) (step net w a).1) here))
    (and_right (is_step net w a) (is_run net new actions) h)

placed : (net : Network) (w : World) → AreLaid net w → ArePlaced net w
placed net w h =
    record {
      place = h.place;
      each = λ n f there secret. h.each f (inl (n, there)) secret;
      apart = λ n m f g there there' secret secret'. h.apart f g (inl (n, there)) (inl (m, there')) secret secret';
    }

pub octets_placed : (net : Network) (w : World) (actions : List Action) → IsNetwork net → Conserved net w → ((v : ℕ) → w.in_doubt v ≡ no_doubt) → ArePlaced net w → IsRun net w actions →
    ArePlaced net (run net w actions)
octets_placed net w actions network c certain h r = placed net (run net w actions) (run_lays net network actions w c (certain_lays net w certain h) r)

pub first_placed : (net : Network) → ArePlaced net first
unfolding first
first_placed net = record { place = λ n. 0; each = λ n f there. cc; apart = λ n m f g there. cc }
