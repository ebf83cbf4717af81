-- The managers behind their turnstiles are at the end of one history each, and the run's state is at the end of all histories.
use Rattle.std.proofs.Common.{◌≡◌, ℕ, zero, suc, ◌+◌, ◌%◌, Bool, List, [], ◌∷◌, length, map, refl, sym, ap, subst, ◌∙◌, arith, Option, Some, Result}
use Rattle.std.specs.Prelude.{slice_get}
use Rattle.std.proofs.lemmas.List.{length-map}
use Rattle.edge_io.specs.declared.failed.Failed.{Failed}
use Rattle.net_model.specs.declared.event.Event.{Event}
use Rattle.net_model.specs.Site.{Site}
use Rattle.net_model.specs.World.{Network, World}
use Rattle.declared_site.specs.SiteOf.{site_of}
use Rattle.declared_site.specs.declared.site.Site.{Site as Declared}
use Rattle.world_state.specs.Passed.{Post}
use Rattle.kme_serve.specs.Door.{Door}
use Rattle.turnstile.specs.declared.machine.Machine.{Ghosts}
use Rattle.turnstile.specs.declared.turnstile.Turnstile.{Turnstile}
use Rattle.turnstile.specs.Names.{opening as first_of}
use Rattle.turnstile.specs.Turns.{Leads}
use Rattle.turnstile.specs.Views.{IsWhole}
use Rattle.shared_objects.specs.declared.pass.Post.{Post as Kept}
use Rattle.shared_objects.specs.Seats.{calls_at, EndAll}
use Rattle.world_state.specs.Armed.{most_armed}
use Rattle.world_state.specs.Stands.{Stands}
use Rattle.world_state.specs.declared.state.State.{State}
use Rattle.kme_serve.specs.Workers.{HasServed}
use Rattle.net_serve.specs.Serving.{Said, Call, IsNextCall, next_place, IsRequestTo, TookRequest}
use Rattle.net_serve.specs.Asked.{HaveAsked}
use Rattle.net_serve.specs.Served.{calls_of, AreConnected, Serves}
use Rattle.net_serve.proofs.Alone.{are_chains}
use Rattle.net_serve.proofs.Nodes.{AllLead, all_said, AllReplayed, replay_all}
use Rattle.net_serve.proofs.Parts.{SameParts, same_stands, same_tallied}
use Rattle.net_serve.proofs.Replaying.{Took}
use Rattle.net_serve.proofs.Whole.{told as in_place, whole_told}
use Rattle.world_state.specs.Outside.{Outside}

some_is : {A : Type 0} {a b : A} → ◌≡◌ {A = Option A} (Some a) (Some b) → a ≡ b
some_is h = cc

record Imaged {A B : Type 0} (f : A → B) (xs : List A) (k : ℕ) (y : B) : Type 0 where
  x : A
  at : slice_get xs k ≡ Some x
  is : f x ≡ y

imaged : {A B : Type 0} (f : A → B) (xs : List A) (k : ℕ) (y : B) → slice_get (map f xs) k ≡ Some y → Imaged f xs k y
imaged f [] k y h = cc
imaged f (x ∷ xs) zero y h = record { x = x; at = refl; is = some_is h }
imaged f (x ∷ xs) (suc k) y h = let rest = imaged f xs k y h in record { x = rest.x; at = rest.at; is = rest.is }

module _ {K Q E X : Type 0} (outside : Outside K Q E X)
    (opening : State K Q E X) {M A : Type 0} (up : M → ℕ) (post : M → Post K E) (said_in : A → Said) (charter : M → Declared × ℕ) (turn : M → Event → A → M → Type 0) where
  -- a turn of the manager, under its charter
  pub record Turns (m : M) (event : Event) (a : A) (n : M) : Type 0 where
    pub may : IsRequestTo (site_of (charter m).0) (charter m).1 event
    pub took : TookRequest outside.disk outside.entropy (charter m).1 (up m) (post m) event (said_in a) (up n) (post n)
    pub kept : charter n ≡ charter m

  abbrev site : Site
  site = site_of opening.site

  abbrev Under : (v : ℕ) → M → Type 0
  Under v m = charter m ≡ (opening.site, v)

  abbrev TookHere : (v : ℕ) → M → Event → A → M → Type 0
  TookHere v m event a n = Took outside site up post said_in v m event a n

  abbrev LeadHere : (v : ℕ) → List M → List (List (Event × A)) → List M → Type 0
  LeadHere v ms logs ns = AllLead outside site up post said_in opening.up v ms logs ns

  abbrev SaidHere : List (List (Event × A)) → List (List Said)
  SaidHere logs = all_said outside site up post said_in opening.up logs

  module _ (turns : (m : M) (event : Event) (a : A) (n : M) → turn m event a n → Turns m event a n) where
    took : (v : ℕ) (m : M) (event : Event) (a : A) (n : M) → Under v m → Turns m event a n → TookHere v m event a n
    took v m event a n is h = record {
      may = subst (λ (c : Declared × ℕ). IsRequestTo (site_of c.0) c.1 event) is h.may;
      took = subst (λ (c : Declared × ℕ). TookRequest outside.disk outside.entropy c.1 (up m) (post m) event (said_in a) (up n) (post n)) is h.took;
    }

    leads_of : (v : ℕ) (m n : M) (log : List (Event × A)) → Under v m → Leads turn m log n → Leads (TookHere v) m log n
    leads_of v m n [] is leads = leads
    leads_of v m n (e ∷ log) is leads =
        let h = turns m e.0 e.1 leads.0 leads.1 in
        (leads.0, took v m e.0 e.1 leads.0 is h, leads_of v leads.0 n log (h.kept ∙ is) leads.2)

    module _ {C : Type 0} {g : Ghosts M Event A C} where
      -- the histories of the managers, one by one

      pub record Logs (v : ℕ) (ts : List (Turnstile M Event A C)) (ps : List (Kept M Event A C g)) (ns : List M) : Type 0 where
        pub logs : List (List (Event × A))
        pub lead : LeadHere v (map first_of ts) logs ns
        pub long : length ns ≡ length ts
        pub whole : (i : ℕ) (log : List (Event × A)) → slice_get logs i ≡ Some log → IsWhole (calls_at i ps) log

      pub logs_of : (v : ℕ) (ts : List (Turnstile M Event A C)) (ps : List (Kept M Event A C g)) (ns : List M) → EndAll turn ts ps ns →
          ((i : ℕ) (t : Turnstile M Event A C) → slice_get ts i ≡ Some t → Under (v + i) (first_of t) × (up (first_of t) ≡ opening.up)) → Logs v ts ps ns
      logs_of v [] [] [] ends under = record { logs = []; lead = tt; long = refl; whole = λ i log at. cc }
      logs_of v (t ∷ ts) (p ∷ ps) (n ∷ ns) ends under =
          let here : Under v (first_of t) × (up (first_of t) ≡ opening.up) = subst (λ (u : ℕ). Under u (first_of t) × (up (first_of t) ≡ opening.up)) (none v) (under 0 t refl) in
          let rest = logs_of (v + 1) ts ps ns ends.1 (λ i x at. subst (λ (u : ℕ). Under u (first_of x) × (up (first_of x) ≡ opening.up)) (next v i) (under (suc i) x at)) in
          record {
            logs = ends.0.log ∷ rest.logs;
            lead = (leads_of v (first_of t) n ends.0.log here.0 ends.0.leads, here.1, rest.lead);
            long = ap suc rest.long;
            whole = each p ps ends.0.log rest.logs ends.0.whole rest.whole;
          }
        where
          none : (v : ℕ) → v + 0 ≡ v
          none v = omega arith

          next : (v i : ℕ) → v + suc i ≡ v + 1 + i
          next v i = omega arith

          each : (p : Kept M Event A C g) (ps : List (Kept M Event A C g)) (log : List (Event × A)) (logs : List (List (Event × A))) → IsWhole (calls_at 0 (p ∷ ps)) log →
              ((i : ℕ) (x : List (Event × A)) → slice_get logs i ≡ Some x → IsWhole (calls_at i ps) x) → (i : ℕ) (x : List (Event × A)) → slice_get (log ∷ logs) i ≡ Some x → IsWhole (calls_at i (p ∷ ps)) x
          each p ps log logs one more zero x at = subst (IsWhole (calls_at 0 (p ∷ ps))) (some_is at) one
          each p ps log logs one more (suc i) x at = more i x at
      logs_of v [] [] (n ∷ ns) ends under = absurd ends
      logs_of v [] (p ∷ ps) ns ends under = absurd ends
      logs_of v (t ∷ ts) [] ns ends under = absurd ends
      logs_of v (t ∷ ts) (p ∷ ps) [] ends under = absurd ends

      -- the histories of all managers

      module _ (ts : List (Turnstile M Event A C)) (ps : List (Kept M Event A C g)) (ns : List M) (ends : EndAll turn ts ps ns)
          (under : (i : ℕ) (t : Turnstile M Event A C) → slice_get ts i ≡ Some t → Under i (first_of t) × (up (first_of t) ≡ opening.up)) (posts : map post (map first_of ts) ≡ opening.posts.items) where
        l : Logs 0 ts ps ns
        l = logs_of 0 ts ps ns ends (λ i t at. subst (λ (u : ℕ). Under u (first_of t) × (up (first_of t) ≡ opening.up)) (zero_more i) (under i t at))
          where
            zero_more : (i : ℕ) → i ≡ 0 + i
            zero_more i = omega arith

        module _ (net : Network) (w : World) (stands : Stands outside opening net w) where
          many : length ts ≡ net.site.nodes
          many = sym (length-map ts first_of) ∙ sym (length-map (map first_of ts) post) ∙ ap (λ (xs : List (Post K E)). length xs) posts ∙ stands.nodes

          r : AllReplayed outside site up post said_in opening.up net stands.sited 0 opening w [] l.logs ns
          r = replay_all outside site up post said_in opening.up net stands.sited (map first_of ts) l.logs ns 0 opening w []
              l.lead stands (sym posts) refl refl (few (length (map first_of ts)) (length-map ts first_of ∙ many))
            where
              few : (n : ℕ) → n ≡ net.site.nodes → 0 + n ≡ net.site.nodes
              few n h = omega (arith, h)

          -- the largest count of armings of a disk is as before
          pub armed_all : most_armed outside.disk (map post ns) ≡ most_armed outside.disk opening.posts.items
          armed_all = ap (most_armed outside.disk) (sym r.posts) ∙ r.armings

          module _ (call_in : ℕ × (Event × A) → Call) (in_call : (c : ℕ × (Event × A)) → call_in c ≡ (c.0, said_in c.1.1)) {D : Type 0} (tell : D → Door) (failed : D → ℕ) (connections : ℕ) (before after : List D) (all : Bool)
              (asked : HaveAsked tell failed opening.site.nodes opening.site.entitlements (length ts) connections before after (λ v. map call_in (calls_at v ps)) all) where
            in_form : (calls : List (ℕ × (Event × A))) → map call_in calls ≡ map (in_place (λ (e : Event × A). said_in e.1)) calls
            in_form [] = refl
            in_form (c ∷ calls) = let one = in_call c in let rest = in_form calls in λ i. one i ∷ rest i

            whole : (v : ℕ) (log : List Said) → slice_get (SaidHere l.logs) v ≡ Some log → IsWhole (calls_of v net.site.nodes 0 asked.calls) log
            whole v log at =
                let o = imaged (map (λ (e : Event × A). said_in e.1)) l.logs v log at in
                let told_so : IsWhole (map (in_place (λ (e : Event × A). said_in e.1)) (calls_at v ps)) (map (λ (e : Event × A). said_in e.1) o.x) =
                whole_told (λ (e : Event × A). said_in e.1) (calls_at v ps) o.x (l.whole v o.x o.at) in
                subst (IsWhole (calls_of v net.site.nodes 0 asked.calls)) o.is
                (subst (λ (cs : List Call). IsWhole cs (map (λ (e : Event × A). said_in e.1) o.x)) (sym (in_form (calls_at v ps)) ∙ asked.own v ∙ ap (λ (n : ℕ). calls_of v n 0 asked.calls) many) told_so)

            abbrev ServedBy : ℕ → Type 0
            ServedBy n =
                (k : ℕ) (b a : D) (c : List Call) (outcome : Result (Unit {0}) Failed) → slice_get before k ≡ Some b → slice_get after k ≡ Some a → slice_get asked.calls k ≡ Some c →
                slice_get asked.outcomes k ≡ Some outcome →
                HasServed (λ p. Unit {0}) IsNextCall next_place opening.site.nodes opening.site.entitlements (k % n) connections (tell b) (tell a) (failed b) (failed a) [] c outcome

            connected : AreConnected tell failed opening.site.nodes opening.site.entitlements net w r.histories connections before after all
            connected = record {
              calls = asked.calls;
              workers = asked.workers;
              doors = asked.doors;
              logs = SaidHere l.logs;
              said = r.said;
              whole = whole;
              outcomes = asked.outcomes;
              ended = asked.ended;
              served = subst ServedBy many asked.served;
              came = asked.came;
            }

            pub serves_all : (new : State K Q E X) → new.site ≡ opening.site → new.posts.items ≡ map post ns → new.lanes.items ≡ opening.lanes.items → new.devices.items ≡ opening.devices.items → new.up ≡ opening.up →
                Serves outside tell failed opening new net w connections before after all
            serves_all new sited posts' lanes devices links =
                let same : SameParts r.now new = record {
                  site = sited ∙ sym r.site;
                  posts = posts' ∙ sym r.posts;
                  lanes = lanes ∙ sym r.lanes;
                  devices = devices ∙ sym r.devices;
                  links = links ∙ sym r.links';
                } in
                record {
                  histories = r.histories;
                  nodes = r.long ∙ l.long ∙ many;
                  requests = r.requests;
                  chains = are_chains net w stands.running.network stands.running.conserved r.histories r.of r.runs;
                  steps = r.runs;
                  stands = same_stands outside net r.now new same _ r.stands;
                  tallied = same_tallied outside net r.now new same opening _ r.tallied;
                  connected = connected;
                }
