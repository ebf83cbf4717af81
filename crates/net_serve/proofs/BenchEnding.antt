-- The state and the sink after the lines of a scenario.
use Rattle.std.proofs.Common.{◌≡◌, ◌∙◌, inl, inr, ℕ, ◌*◌, List, [], Some, Result, Ok, Err, refl, sym, ap, subst}
use Rattle.std.specs.Prelude.{slice_get, MatchResult}
use Rattle.std.specs.List.{flat_map}
use Rattle.declared_site.specs.SiteOf.{site_of}
use Rattle.declared_site.specs.declared.site.Site.{Site as Declared}
use Rattle.net_model.specs.World.{Network, World}
use Rattle.net_model.specs.Site.{Site}
use Rattle.net_model.specs.Action.{Action}
use Rattle.net_model.specs.Step.{run}
use Rattle.run_model.specs.Headline as headline
use Rattle.run_model.specs.Headline.{Given}
use Rattle.run_lines.specs.declared.stop.Stop.{Stop}
use Rattle.run_lines.specs.declared.stop.Stop.TheVariants as stops
use Rattle.law_locality.proofs.Runs.{run_none}
use Rattle.kme_serve.specs.Door.{Door}
use Rattle.world_state.specs.Passed.{Post, disk_of}
use Rattle.kme_serve.specs.Doors.{PortsTold}
use Rattle.world_state.proofs.Passed.{post_disk}
use Rattle.world_state.specs.Sized.{IsSized}
use Rattle.world_state.specs.Rests.{Rests}
use Rattle.world_state.specs.Tallied.{Tallied}
use Rattle.world_state.specs.declared.state.State.{State}
use Rattle.world_state.proofs.Resting.{comes_to_rest}
use Rattle.world_state.proofs.Tallies.{none_tallied}
use Rattle.net_serve.specs.BenchServing.{ended, ServedBehind}
use Rattle.net_serve.specs.Behind.{IsLineTold, IsServed, Ends}
use Rattle.net_serve.specs.declared.stop.ServeStop.{ServeStop}
use Rattle.net_serve.specs.declared.stop.ServeStop.TheVariants.{Stopped, Listen}
use Rattle.world_state.specs.Outside.{Outside}

-- the state has as many parts as before
pub still_sized : {K Q E X : Type 0} (outside : Outside K Q E X) (old new : State K Q E X) (site : Site) (actions : List Action) →
    Tallied outside old new site actions → new.site ≡ old.site → IsSized old → IsSized new
still_sized outside old new site actions t same sized = record {
  nodes = t.nodes ∙ sized.nodes ∙ ap (λ (s : Declared). (site_of s).nodes) (sym same);
  sides = t.sides ∙ sized.sides ∙ ap (λ (s : Declared). 2 * (site_of s).links) (sym same);
  links = t.links ∙ sized.links ∙ ap (λ (s : Declared). (site_of s).links) (sym same);
}

module _ {K Q E X D : Type 0} (outside : Outside K Q E X) (tell : D → Door) (failed : D → ℕ) (told_ports : Type 0) (workers connections port : ℕ)
    (old new : State K Q E X) (net : Network) (w : World) (before after : PortsTold D) where
  abbrev Behind : headline.Stop → List (List Action) → Type 0
  Behind stop served = ServedBehind tell failed told_ports workers connections port old.site before after stop net w served

  -- if everything was served, or there was no node, the last line changes nothing about ports
  last_ports : {U : Type 0} (result : Result U ServeStop) (served : List (List Action)) (a b : Given) (text : List ℕ) → (result ≡ Err Listen → ⊥) → IsLineTold (ended result) a b text →
      Behind headline.Done served → Behind (ended result) served
  last_ports (Ok done) served a b text calm line ports = ports
  last_ports (Err Listen) served a b text calm line ports = absurd (calm refl)
  last_ports (Err (Stopped stops.WriteFault)) served a b text calm line (inl none) = inl none.1
  last_ports (Err (Stopped stops.WriteFault)) served a b text calm line (inr all) = inr all
  last_ports (Err (Stopped stops.Memory)) served a b text calm line (inl none) = inl none.1
  last_ports (Err (Stopped stops.Memory)) served a b text calm line (inr all) = inr (inr all)
  last_ports (Err (Stopped (stops.Forged number))) served a b text calm line ports = absurd line

  ports_kept : (U : Type 0) (stop : Stop) → after ≡ before → Behind (ended {T = U} (Err (Stopped stop))) []
  ports_kept U stops.WriteFault same = inl (record { same = same; none = refl })
  ports_kept U stops.Memory same = inl (record { same = same; none = refl })
  ports_kept U (stops.Forged number) same = record { same = same; none = refl }

  module _ (a b : Given) (text : List ℕ) where
    abbrev AllEnds : {T U : Type 0} → Result T Stop → Result U ServeStop → Type 0
    AllEnds {T} {U} lines result = Ends outside tell failed told_ports workers connections port old new net w before after {T = T} {U = U} a b text lines result

    -- the lines came to their end
    ends_so : {T U : Type 0} (done : T) (stop : headline.Stop) (result : Result U ServeStop) → (s : IsServed outside tell failed told_ports workers connections port old new net w before after stop) →
        Behind (ended result) s.served → IsLineTold (ended result) a b text → AllEnds {T = T} {U = U} (Ok done) result
    ends_so done stop result s ports line = record {
      served = s.served;
      asked = elim s.asked [ inl none ↦ inl none | inr asked ↦ inr (refl, asked) ];
      rests = comes_to_rest outside net (run net w (flat_map (λ h. h) s.served)) new s.stands;
      tallied = s.tallied;
      ports = ports;
      line = line;
    }

    ends_last : {T U : Type 0} (done : T) (result : Result U ServeStop) → IsServed outside tell failed told_ports workers connections port old new net w before after headline.Done →
        (result ≡ Err Listen → ⊥) → IsLineTold (ended result) a b text → AllEnds {T = T} {U = U} (Ok done) result
    ends_last done result s calm line = ends_so done headline.Done result s (last_ports result s.served a b text calm line s.ports) line

    -- the lines came to their end, but not all connections were served
    pub ends_there : {T U : Type 0} (lines : Result T Stop) (done : T) → lines ≡ Ok done → (stop : headline.Stop) (result : Result U ServeStop) → ended result ≡ stop →
        IsServed outside tell failed told_ports workers connections port old new net w before after stop →
        IsLineTold (ended result) a b text → AllEnds {T = T} {U = U} lines result
    ends_there {T} {U} lines done is stop result so s line =
        subst (λ (r : Result T Stop). AllEnds {T = T} {U = U} r result) (sym is)
        (ends_so done stop result s (subst (λ (e : headline.Stop). Behind e s.served) (sym so) s.ports) line)

    -- all connections were served, whether or not the last line was written
    pub ends_at_last : {T U : Type 0} (lines : Result T Stop) (done : T) → lines ≡ Ok done → (result : Result U ServeStop) →
        IsServed outside tell failed told_ports workers connections port old new net w before after headline.Done →
        (result ≡ Err Listen → ⊥) → IsLineTold (ended result) a b text → AllEnds {T = T} {U = U} lines result
    ends_at_last {T} {U} lines done is result s calm line = subst (λ (r : Result T Stop). AllEnds {T = T} {U = U} r result) (sym is) (ends_last done result s calm line)

    -- the lines ended early
    ends_amid : {T U : Type 0} (stop : Stop) (result : Result U ServeStop) → result ≡ Err (Stopped stop) → new ≡ old → after ≡ before → b ≡ a → Rests outside old net w →
        AllEnds {T = T} {U = U} (Err stop) result
    ends_amid {T} {U} stop result is state ports sink rests = record {
      served = [];
      asked = inl refl;
      rests = subst (λ (s : State K Q E X). Rests outside s net (run net w [])) (sym state) (subst (λ (x : World). Rests outside old net x) (sym (run_none net w)) rests);
      tallied = subst (λ (s : State K Q E X). Tallied outside old s net.site []) (sym state) (none_tallied outside net.site old disks);
      ports = subst (λ (r : Result U ServeStop). Behind (ended r) []) (sym is) (ports_kept U stop ports);
      line = (is, sink);
    }
      where
        disks : (v : ℕ) (p : Post K E) → slice_get old.posts.items v ≡ Some p → (k : K) × (disk_of p ≡ Some k)
        disks v p at = let r = rests.posts v p at in post_disk outside.disk net r.0 v outside.entropy p r.2

    pub ends_with_lines : {T U : Type 0} (lines : Result T Stop) (stop : Stop) → lines ≡ Err stop → (result : Result U ServeStop) → result ≡ Err (Stopped stop) → new ≡ old → after ≡ before → b ≡ a →
        Rests outside old net w → AllEnds {T = T} {U = U} lines result
    ends_with_lines {T} {U} lines stop amid result is state ports sink rests = subst (λ (r : Result T Stop). AllEnds {T = T} {U = U} r result) (sym amid) (ends_amid stop result is state ports sink rests)

-- if the lines came to their end, the case for that end holds

pub of_all : {T : Type 0} (A B : Type 0) (lines : Result T Stop) (done : T) → lines ≡ Ok done → MatchResult lines (λ x. A) (λ stop. B) → A
of_all {T} A B lines done is h = subst (λ (r : Result T Stop). MatchResult r (λ x. A) (λ stop. B)) is h

pub of_some : {T : Type 0} (A B : Type 0) (lines : Result T Stop) (stop : Stop) → lines ≡ Err stop → MatchResult lines (λ x. A) (λ stop. B) → B
of_some {T} A B lines stop is h = subst (λ (r : Result T Stop). MatchResult r (λ x. A) (λ stop. B)) is h
