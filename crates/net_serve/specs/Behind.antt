-- The state, the ports and the sink after the lines of a scenario.
use Rattle.std.specs.Prelude.{◌≡◌, ◌⊎◌, ℕ, true, List, [], ◌∷◌, length, Result, Ok, Err, MatchResult, is_ok}
use Rattle.std.specs.List.{flat_map, list_all}
use Rattle.net_model.specs.World.{Network, World}
use Rattle.net_model.specs.Action.{Action}
use Rattle.net_model.specs.Step.{run}
use Rattle.net_model.specs.BlockOrder.{AreChains}
use Rattle.run_model.specs.Course.{is_request_of}
use Rattle.run_model.specs.Headline.{Stop, Done, ForgedMatch, ListenFault, WriteFault, Memory, Given, Took, TookFirst}
use Rattle.run_lines.specs.declared.stop.Stop.{Stop as LinesStop}
use Rattle.kme_serve.specs.Door.{Door}
use Rattle.kme_serve.specs.Doors.{PortsTold}
use Rattle.kme_serve.specs.declared.refusal.ServeRefusal.{ServeRefusal}
use Rattle.kme_serve.specs.declared.refusal.ServeRefusal.TheVariants as refusals
use Rattle.world_state.specs.Rests.{Rests}
use Rattle.world_state.specs.Stands.{Stands}
use Rattle.world_state.specs.Tallied.{Tallied}
use Rattle.world_state.specs.declared.state.State.{State}
use Rattle.net_serve.specs.BenchServing.{ended, ServedBehind}
use Rattle.net_serve.specs.declared.stop.ServeStop.{ServeStop}
use Rattle.net_serve.specs.declared.stop.ServeStop.TheVariants.{Stopped}
use Rattle.world_state.specs.Outside.{Outside}

-- how the connections ended
abbrev pub served_as : {T : Type 0} → Result T ServeRefusal → Stop
served_as (Ok done) = Done
served_as (Err refusals.Listen) = ListenFault
served_as (Err refusals.Memory) = Memory

-- each manager took the turns of its own history, all of them requests
pub record AreRequests (net : Network) (w : World) (served : List (List Action)) : Type 0 where
  pub nodes : length served ≡ net.site.nodes
  pub chains : AreChains net w 0 served
  pub requests : list_all (list_all is_request_of) served ≡ true

-- What the sink took of the last line, which is one piece. If a port or listener failed it took nothing.
abbrev pub IsLineTold : Stop → (old new : Given) → (text : List ℕ) → Type 0
IsLineTold Done old new text = Took old new (text ∷ [])
IsLineTold ListenFault old new text = new ≡ old
IsLineTold WriteFault old new text = TookFirst old new (text ∷ [])
IsLineTold Memory old new text = TookFirst old new (text ∷ [])
IsLineTold (ForgedMatch line) old new text = ⊥

module _ {K Q E X D : Type 0} (outside : Outside K Q E X)
    (tell : D → Door) (failed : D → ℕ) (told_ports : Type 0) (workers connections port : ℕ) (old new : State K Q E X) (net : Network) (w : World) (before after : PortsTold D) where
  -- from a state that stands for a world, the managers took turns for connections, or did not; the new state stands for the world after these turns
  pub record IsServed (stop : Stop) : Type 0 where
    pub served : List (List Action)
    pub asked : (served ≡ []) ⊎ AreRequests net w served
    pub stands : Stands outside new net (run net w (flat_map (λ h. h) served))
    pub tallied : Tallied outside old new net.site (flat_map (λ h. h) served)
    pub ports : ServedBehind tell failed told_ports workers connections port old.site before after stop net w served

  -- If the lines came to their end, their managers are served, and the sink takes the last line. Otherwise nothing more is done.
  pub record Ends {T U : Type 0} (sink_before sink_after : Given) (text : List ℕ) (lines : Result T LinesStop) (result : Result U ServeStop) : Type 0 where
    pub served : List (List Action)
    pub asked : (served ≡ []) ⊎ ((is_ok lines ≡ true) × AreRequests net w served)
    pub rests : Rests outside new net (run net w (flat_map (λ h. h) served))
    pub tallied : Tallied outside old new net.site (flat_map (λ h. h) served)
    pub ports : ServedBehind tell failed told_ports workers connections port old.site before after (ended result) net w served
    pub line : MatchResult lines (λ done. IsLineTold (ended result) sink_before sink_after text) (λ stop. (result ≡ Err (Stopped stop)) × (sink_after ≡ sink_before))
