-- A state whose managers are served.
use Rattle.std.proofs.Common.{◌≡◌, ◌∙◌, inl, inr, ℕ, ◌+◌, ◌<◌, min, Bool, true, false, List, [], length, take, refl, sym, ap, subst, arith}
use Rattle.std.specs.Prelude.{Result, Ok, Err, is_ok}
use Rattle.std.proofs.lemmas.List.{take_all}
use Rattle.edge_io.specs.Writes.{Adds}
use Rattle.net_model.specs.World.{Network, World}
use Rattle.run_model.specs.Headline.{Stop, Done, ListenFault, Memory}
use Rattle.law_locality.proofs.Runs.{run_none}
use Rattle.kme_serve.specs.Door.{Door}
use Rattle.kme_serve.specs.Doors.{PortsTold, ports_of, AreOpened, WereOpened}
use Rattle.kme_serve.proofs.Rooms.{length-ports}
use Rattle.kme_serve.specs.declared.refusal.ServeRefusal.{ServeRefusal}
use Rattle.kme_serve.specs.declared.refusal.ServeRefusal.TheVariants as refusals
use Rattle.world_state.specs.Stands.{Stands}
use Rattle.world_state.specs.declared.state.State.{State}
use Rattle.world_state.proofs.Disks.{has_disks}
use Rattle.world_state.proofs.Tallies.{none_tallied}
use Rattle.net_serve.specs.Served.{Serves}
use Rattle.net_serve.specs.BenchServing.{WereServed, ServedBehind}
use Rattle.net_serve.specs.Behind.{IsServed, served_as}
use Rattle.world_state.specs.Outside.{Outside}

-- listeners at which nothing was served
module _ {D : Type 0} (tell : D → Door) (failed : D → ℕ) (told_ports : Type 0) (workers port nodes : ℕ) (before after : PortsTold D) where
  all_ports : take (workers + 1) (ports_of port workers nodes) ≡ ports_of port workers nodes
  all_ports = take_all (workers + 1) (ports_of port workers nodes) (omega (arith, length-ports port (min workers nodes)))

  pub all_unused : (doors : List D) → AreOpened tell failed told_ports before.queues port workers nodes doors → Adds before.asked after.asked (ports_of port workers nodes) → Adds before.back after.back doors →
      WereOpened tell failed port workers nodes before after
  all_unused doors opened asked given = record {
    doors = doors;
    few = omega (arith, opened.many);
    unused = λ k d at. let new = opened.new k d at in (new.same_port, new.none_accepted, new.none_finished);
    asked = subst (λ (ports : List ℕ). Adds before.asked after.asked ports) (sym (ap (λ (n : ℕ). take (n + 1) (ports_of port workers nodes)) opened.many ∙ all_ports)) asked;
    given = given;
  }

module _ {K Q E X D : Type 0} (outside : Outside K Q E X) (tell : D → Door) (failed : D → ℕ) (told_ports : Type 0) (workers connections port : ℕ)
    (old : State K Q E X) (net : Network) (w : World) (before after : PortsTold D) where
  abbrev Goes : State K Q E X → Stop → Type 0
  Goes new stop = IsServed outside tell failed told_ports workers connections port old new net w before after stop

  pub nothing_served : Stands outside old net w → (new : State K Q E X) → new ≡ old → (stop : Stop) → ServedBehind tell failed told_ports workers connections port old.site before after stop net w [] → Goes new stop
  nothing_served stands new same stop ports =
      subst (λ (s : State K Q E X). Goes s stop) (sym same)
      (record {
        served = [];
        asked = inl refl;
        stands = subst (λ (x : World). Stands outside old net x) (sym (run_none net w)) stands;
        tallied = none_tallied outside net.site old (has_disks outside old net w stands);
        ports = ports;
      })

  module _ (new : State K Q E X) (opened closed : List D) (all : Bool) (serves : Serves outside tell failed old new net w connections opened closed all) where
    pub were_served : 0 < length old.site.nodes → AreOpened tell failed told_ports before.queues port workers (length old.site.nodes) opened → Adds before.asked after.asked (ports_of port workers (length old.site.nodes)) →
        Adds before.back after.back closed → WereServed tell failed told_ports workers connections port old.site before after all net w serves.histories
    were_served some new asked given = record { nodes = some; opened = opened; new = new; asked = asked; closed = closed; given = given; connected = serves.connected }

    pub goes_on : (stop : Stop) → ServedBehind tell failed told_ports workers connections port old.site before after stop net w serves.histories → Goes new stop
    goes_on stop ports = record {
      served = serves.histories;
      asked = inr (record { nodes = serves.nodes; chains = serves.chains; requests = serves.requests });
      stands = serves.stands;
      tallied = serves.tallied;
      ports = ports;
    }

  -- the state and the ports, by how the connections ended; if memory ran out the listeners came back as they were
  pub served_over : {T : Type 0} → Stands outside old net w → (new : State K Q E X) (opened closed : List D) → 0 < length old.site.nodes → AreOpened tell failed told_ports before.queues port workers (length old.site.nodes) opened →
      Adds before.asked after.asked (ports_of port workers (length old.site.nodes)) → Adds before.back after.back closed → (result : Result T ServeRefusal) →
      (result ≡ Err refusals.Memory → (new ≡ old) × (closed ≡ opened)) →
      ((result ≡ Err refusals.Memory → ⊥) → Serves outside tell failed old new net w connections opened closed (is_ok result)) → Goes new (served_as result)
  served_over stands new opened closed some are asked given (Ok done) memory serves =
      let h = serves (λ wrong. cc) in
      goes_on new opened closed true h Done (inr (were_served new opened closed true h some are asked given))
  served_over stands new opened closed some are asked given (Err refusals.Listen) memory serves =
      let h = serves (λ wrong. cc) in
      goes_on new opened closed false h ListenFault (inr (were_served new opened closed false h some are asked given))
  served_over stands new opened closed some are asked given (Err refusals.Memory) memory serves =
      let same = memory refl in
      let back : Adds before.back after.back opened = subst (λ (doors : List D). Adds before.back after.back doors) same.1 given in
      nothing_served stands new same.0 Memory
      (inr (inl (record { nodes = some; opened = all_unused tell failed told_ports workers port (length old.site.nodes) before after opened are asked back; none = refl })))
