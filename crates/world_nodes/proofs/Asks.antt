-- Asking a node's manager to handle an event.
use Rattle.std.proofs.Common.{◌≡◌, ℕ, ◌<◌, true, ◌&&◌, refl, sym, ap, subst, ◌∙◌, arith}
use Rattle.std.specs.Prelude.{◌==◌, nat_lt}
use Rattle.std.proofs.lemmas.Bool.Decides.{nat_tests}
use Rattle.net_model.specs.declared.event.Event.{Event}
use Rattle.net_model.specs.declared.reply.Reply.{Reply}
use Rattle.net_model.specs.World.{Network, World}
use Rattle.net_model.specs.Events.{is_valid_event}
use Rattle.net_model.specs.Handle.{handle}
use Rattle.net_model.specs.Action.{Environment, Ask, Outcome, is_shown, is_io_fault, is_entropy_fault, Ok as Fine}
use Rattle.net_model.specs.Faults.{is_random_fault}
use Rattle.net_model.specs.Step.{step, is_enabled, is_node, is_asked}
use Rattle.law_base.proofs.Base.{and_left, and_right, and_both, eq_same}
use Rattle.law_recovery.proofs.Asked.{event_goes, event_fits}
use Rattle.kme_store.specs.declared.post.Post.{Post}
use Rattle.world_nodes.specs.Stands.{PostStands}
use Rattle.world_nodes.specs.Handled.{MayHandle, Handled}
use Rattle.world_nodes.specs.Asking.{MayAsk, Asked}
use Rattle.world_nodes.proofs.Counted.{here_too, spared}
use Rattle.disk_model.specs.declared.disk.Disk as Disk
use Rattle.source_devices.specs.declared.entropy.Entropy as Entropy

module _ (net : Network) (w : World) (v : ℕ) (event : Event) where
  parts : is_enabled net w (Ask v event Fine) ≡ true → ((is_node net v && is_asked event) && is_valid_event net.site v event) ≡ true
  unfolding is_enabled
  parts h = h

  may_ask : is_enabled net w (Ask v event Fine) ≡ true → (environment : Environment) → is_enabled net w (Ask v event environment) ≡ true
  unfolding is_enabled
  may_ask h environment = h

  asks_as : (environment : Environment) → step net w (Ask v event environment) ≡ handle net w v event environment
  unfolding step
  asks_as environment = refl

module _ {K E : Type 0} (disk_says : Disk.Ghosts K) (entropy_says : Entropy.Ghosts E) (net : Network) (w : World) (v : ℕ) (event : Event) (up : ℕ) where
  -- The event may be given to the manager.
  pub may_handle : (post : Post K E) → MayAsk disk_says entropy_says net w v post event up → MayHandle disk_says entropy_says net w v post event up
  may_handle post m =
      let all = parts net w v event m.enabled in
      let both = and_left (is_node net v && is_asked event) (is_valid_event net.site v event) all in
      let valid = and_right (is_node net v && is_asked event) (is_valid_event net.site v event) all in
      let here : nat_lt v net.site.nodes ≡ true = and_left (is_node net v) (is_asked event) both in
      let below : v < net.site.nodes = grind (arith, nat_tests) in
      record {
        running = m.running;
        stands = m.stands;
        valid = valid;
        goes = λ octets e is numbered. event_goes net w v m.running.network m.running.conserved below event e octets (and_right (is_node net v) (is_asked event) both) valid is numbered;
        fits = λ e is. event_fits net w v m.running.network m.running.conserved event e (and_right (is_node net v) (is_asked event) both) is;
        links = m.links;
      }

  -- Handling the event is an action of the network.
  pub asked : (old new : Post K E) (reply : Reply) → MayAsk disk_says entropy_says net w v old event up →
      Handled disk_says entropy_says net w v event old new reply → Asked disk_says entropy_says net w v event old new reply
  asked old new reply m h =
      let same = asks_as net w v event h.environment in
      record {
        environment = h.environment;
        may = and_both (is_enabled net w (Ask v event h.environment)) (is_shown h.environment (step net w (Ask v event h.environment)).1)
            (may_ask net w v event m.enabled h.environment)
            (ap (λ (x : World × Outcome). is_shown h.environment x.1) same ∙ ap (is_shown h.environment) h.said ∙ h.shown);
        said = ap (λ (x : World × Outcome). x.1) same ∙ h.said;
        stands = subst (λ (x : World × Outcome). PostStands disk_says entropy_says net x.0 v new) (sym same) h.stands;
        counts = spared disk_says entropy_says (is_io_fault h.environment) (is_entropy_fault h.environment) (is_random_fault v (Ask v event h.environment)) old new
            (sym (here_too (v == v) (is_entropy_fault h.environment) (eq_same v))) h.counts;
      }
