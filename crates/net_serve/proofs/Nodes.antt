-- For each node, the requests that its manager took are actions of the run's network.
use Rattle.std.proofs.Common.{◌≡◌, ℕ, ◌+◌, true, List, [], ◌∷◌, ◌++◌, length, map, refl, sym, ap, subst, ◌∙◌, arith, append_assoc, length-append}
use Rattle.std.specs.Prelude.{nat_lt}
use Rattle.std.specs.List.{list_all, flat_map}
use Rattle.std.proofs.lemmas.Bool.Decides.{nat_tests}
use Rattle.net_model.specs.declared.event.Event.{Event}
use Rattle.net_model.specs.Site.{Site}
use Rattle.net_model.specs.World.{Network, World}
use Rattle.net_model.specs.Action.{Action}
use Rattle.net_model.specs.Step.{run, IsRun}
use Rattle.world_state.specs.Passed.{Post}
use Rattle.law_base.proofs.Base.{and_both}
use Rattle.law_locality.proofs.Runs.{nothing_runs, run_none, runs-append, run-append}
use Rattle.run_model.specs.Course.{is_request_of}
use Rattle.turnstile.specs.Turns.{Leads}
use Rattle.world_state.specs.Armed.{most_armed}
use Rattle.world_state.specs.Stands.{Stands}
use Rattle.world_state.specs.Tallied.{Tallied}
use Rattle.world_state.specs.declared.state.State.{State}
use Rattle.world_state.proofs.Disks.{has_disks}
use Rattle.world_state.proofs.Tallies.{none_tallied, tallied_more}
use Rattle.net_serve.specs.Serving.{Said}
use Rattle.net_serve.specs.Served.{AllAreSaid}
use Rattle.net_serve.proofs.Alone.{AreOf}
use Rattle.net_serve.proofs.Replaying.{Took, said_of, Replayed, replay}
use Rattle.world_state.specs.Outside.{Outside}

below : (v n m : ℕ) → v + (n + 1) ≡ m → nat_lt v m ≡ true
below v n m h = grind (arith, nat_tests)

module _ {K Q E X : Type 0} (outside : Outside K Q E X)
    (s₀ : Site) {M A : Type 0} (up : M → ℕ) (post : M → Post K E) (said_in : A → Said) (links : ℕ) where
  abbrev pub Leading : (v : ℕ) → M → List (Event × A) → M → Type 0
  Leading v m log n =
      Leads (Took outside s₀ up post said_in v) m log n

  -- the managers from node `v` on, each with its history and with the links that are up
  abbrev pub AllLead : (v : ℕ) → List M → List (List (Event × A)) → List M → Type 0
  AllLead v [] [] [] = Unit {0}
  AllLead v (m ∷ ms) (log ∷ logs) (n ∷ ns) = Leading v m log n × (up m ≡ links) × AllLead (v + 1) ms logs ns
  AllLead v _ _ _ = ⊥

  abbrev pub all_said : List (List (Event × A)) → List (List Said)
  all_said logs = map (map (said_of outside s₀ up post said_in)) logs

  module _ (net : Network) (sited : net.site ≡ s₀) where
    abbrev StandsHere : State K Q E X → World → Type 0
    StandsHere s w = Stands outside s net w

    abbrev TalliedHere : State K Q E X → State K Q E X → List Action → Type 0
    TalliedHere s t actions = Tallied outside s t net.site actions

    abbrev flat : List (List Action) → List Action
    flat hs = flat_map (λ h. h) hs

    pub record AllReplayed (v : ℕ) (s : State K Q E X) (w : World) (front : List (Post K E)) (logs : List (List (Event × A))) (ns : List M) : Type 0 where
      pub histories : List (List Action)
      pub now : State K Q E X
      pub site : now.site ≡ s.site
      pub posts : now.posts.items ≡ front ++ map post ns
      pub lanes : now.lanes.items ≡ s.lanes.items
      pub devices : now.devices.items ≡ s.devices.items
      pub links' : now.up ≡ s.up
      pub armings : most_armed outside.disk now.posts.items ≡ most_armed outside.disk s.posts.items
      pub long : length histories ≡ length ns
      pub runs : IsRun net w (flat histories)
      pub of : AreOf net v histories
      pub requests : list_all (list_all is_request_of) histories ≡ true
      pub said : AllAreSaid net w v histories (all_said logs)
      pub stands : StandsHere now (run net w (flat histories))
      pub tallied : TalliedHere s now (flat histories)

    pub replay_all : (ms : List M) (logs : List (List (Event × A))) (ns : List M) (v : ℕ) (s : State K Q E X) (w : World) (front : List (Post K E)) → AllLead v ms logs ns → StandsHere s w →
        s.posts.items ≡ front ++ map post ms → length front ≡ v → s.up ≡ links → v + length ms ≡ net.site.nodes → AllReplayed v s w front logs ns
    replay_all [] [] [] v s w front lead stands posts at ups few = record {
      histories = [];
      now = s;
      site = refl;
      posts = posts;
      lanes = refl;
      devices = refl;
      links' = refl;
      armings = refl;
      long = refl;
      runs = nothing_runs net w;
      of = tt;
      requests = refl;
      said = tt;
      stands = subst (λ (x : World). StandsHere s x) (sym (run_none net w)) stands;
      tallied = none_tallied outside net.site s (has_disks outside s net w stands);
    }
    replay_all (m ∷ ms) (log ∷ logs) (n ∷ ns) v s w front lead stands posts at ups few =
        let r : Replayed outside s₀ up post said_in net sited v (below v (length ms) net.site.nodes (omega (arith, few)))
        front (map post ms) at s w log n =
        replay outside s₀ up post said_in net sited v (below v (length ms) net.site.nodes (omega (arith, few)))
        front (map post ms) at log s w m n lead.0 stands posts (ups ∙ sym lead.1) in
        let later : World = run net w r.history in
        let moved : r.now.posts.items ≡ (front ++ post n ∷ []) ++ map post ms = r.posts ∙ sym (append_assoc front (post n ∷ []) (map post ms)) in
        let one_more : length (front ++ post n ∷ []) ≡ v + 1 = length-append front (post n ∷ []) ∙ ap (λ (k : ℕ). k + 1) at in
        let rest : AllReplayed (v + 1) r.now later (front ++ post n ∷ []) logs ns =
        replay_all ms logs ns (v + 1) r.now later (front ++ post n ∷ []) lead.2 r.stands moved one_more (r.links ∙ ups) (omega (arith, few)) in
        record {
          histories = r.history ∷ rest.histories;
          now = rest.now;
          site = rest.site ∙ r.site;
          posts = rest.posts ∙ append_assoc front (post n ∷ []) (map post ns);
          lanes = rest.lanes ∙ r.lanes;
          devices = rest.devices ∙ r.devices;
          links' = rest.links' ∙ r.links;
          armings = rest.armings ∙ r.armings;
          long = omega (arith, rest.long);
          runs = runs-append net r.history (flat rest.histories) w r.runs rest.runs;
          of = (r.turns, rest.of);
          requests = and_both (list_all is_request_of r.history) (list_all (list_all is_request_of) rest.histories) r.requests rest.requests;
          said = (r.said, rest.said);
          stands = subst (λ (x : World). StandsHere rest.now x) (sym (run-append net r.history (flat rest.histories) w)) rest.stands;
          tallied = tallied_more outside net.site s r.now rest.now r.history (flat rest.histories) r.tallied rest.tallied;
        }
    replay_all [] [] (n ∷ ns) v s w front lead stands posts at ups few = absurd lead
    replay_all [] (log ∷ logs) ns v s w front lead stands posts at ups few = absurd lead
    replay_all (m ∷ ms) [] ns v s w front lead stands posts at ups few = absurd lead
    replay_all (m ∷ ms) (log ∷ logs) [] v s w front lead stands posts at ups few = absurd lead
