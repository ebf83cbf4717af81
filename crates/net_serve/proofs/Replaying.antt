-- The requests that a node's manager took are consecutive actions of the run's network, in each world for which the run's state stands.
use Rattle.std.proofs.Common.{◌≡◌, ℕ, true, ◌&&◌, List, [], ◌∷◌, ◌++◌, length, map, refl, sym, ap, subst, ◌∙◌, Some}
use Rattle.std.specs.Prelude.{slice_get, slice_set, ◌==◌, nat_lt}
use Rattle.std.specs.List.{list_all}
use Rattle.std.proofs.Math.Seq.{set-append_seam}
use Rattle.net_model.specs.declared.event.Event.{Event}
use Rattle.net_model.specs.declared.event.Event.TheVariants.{Enc, Dec, Status, EncGroup}
use Rattle.net_model.specs.Site.{Site}
use Rattle.net_model.specs.World.{Network, World}
use Rattle.net_model.specs.Action.{Action, Ask, Ok}
use Rattle.net_model.specs.BlockOrder.{is_block_event, is_turn_of}
use Rattle.net_model.specs.Events.{is_valid_event}
use Rattle.net_model.specs.Step.{step, is_asked, is_enabled, run, IsRun}
use Rattle.world_state.specs.Passed.{Post, MayAsk, Asked}
use Rattle.law_base.proofs.Base.{and_both, eq_same}
use Rattle.law_locality.proofs.Runs.{one_more, nothing_runs, run_none, run_one}
use Rattle.run_model.specs.Course.{is_request, is_request_of}
use Rattle.turnstile.specs.Turns.{Leads}
use Rattle.world_state.specs.Armed.{most_armed}
use Rattle.world_state.specs.Stands.{Stands}
use Rattle.world_state.specs.Tallied.{Tallied}
use Rattle.world_state.specs.declared.state.State.{State}
use Rattle.world_state.proofs.Armed.{most_same, times_same}
use Rattle.world_state.proofs.AsksOne.{asks_post}
use Rattle.world_state.proofs.Changes.{OnePost, state_with, with_post}
use Rattle.world_state.proofs.Disks.{has_disks}
use Rattle.world_state.proofs.OnePost.{stands_after}
use Rattle.world_state.proofs.PostTallies.{asked_tallied}
use Rattle.world_state.proofs.Tallies.{none_tallied, tallied_more}
use Rattle.net_serve.specs.Serving.{Said, IsRequestTo, TookRequest}
use Rattle.net_serve.specs.Served.{AreSaid}
use Rattle.world_state.specs.Outside.{Outside}

get_seam : {A : Type 0} (xs : List A) (x : A) (ys : List A) (n : ℕ) → length xs ≡ n → slice_get (xs ++ x ∷ ys) n ≡ Some x
get_seam {A} xs x ys n long = subst (λ (k : ℕ). slice_get (xs ++ x ∷ ys) k ≡ Some x) long (here xs)
  where
    here : (zs : List A) → slice_get (zs ++ x ∷ ys) (length zs) ≡ Some x
    here [] = refl
    here (z ∷ zs) = here zs

set_seam : {A : Type 0} (xs : List A) (x y : A) (ys : List A) (n : ℕ) → length xs ≡ n → slice_set (xs ++ x ∷ ys) n y ≡ xs ++ y ∷ ys
set_seam xs x y ys n long = ap (λ (k : ℕ). slice_set (xs ++ x ∷ ys) k y) (sym long) ∙ set-append_seam xs x ys y

-- a request is an event that may be asked, also by a line of a block

asked_request : (event : Event) → is_request event ≡ true → is_asked event ≡ true
asked_request (Enc m s n bits) h = refl
asked_request (Dec s m names) h = refl
asked_request (Status m s) h = refl
asked_request (EncGroup m slaves n bits) h = refl
asked_request _ h = cc

block_request : (event : Event) → is_request event ≡ true → is_block_event event ≡ true
block_request (Enc m s n bits) h = refl
block_request (Dec s m names) h = refl
block_request (Status m s) h = refl
block_request (EncGroup m slaves n bits) h = refl
block_request _ h = cc

request_enabled : (net : Network) (w : World) (v : ℕ) (event : Event) → nat_lt v net.site.nodes ≡ true → IsRequestTo net.site v event → is_enabled net w (Ask v event Ok) ≡ true
unfolding is_enabled
request_enabled net w v event node h =
    and_both (nat_lt v net.site.nodes && is_asked event) (is_valid_event net.site v event) (and_both (nat_lt v net.site.nodes) (is_asked event) node (asked_request event h.request)) h.valid

module _ {K Q E X : Type 0} (outside : Outside K Q E X)
    (s₀ : Site) {M A : Type 0} (up : M → ℕ) (post : M → Post K E) (said_in : A → Said) where
  -- a node's manager took one request
  pub record Took (v : ℕ) (m : M) (event : Event) (a : A) (n : M) : Type 0 where
    pub may : IsRequestTo s₀ v event
    pub took : TookRequest outside.disk outside.entropy v (up m) (post m) event (said_in a) (up n) (post n)

  -- the event and the reply of an entry of its history
  abbrev pub said_of : Event × A → Said
  said_of e = said_in e.1

  module _ (net : Network) (sited : net.site ≡ s₀) (v : ℕ) (node : nat_lt v net.site.nodes ≡ true) (front back : List (Post K E)) (before : length front ≡ v) where
    abbrev StandsHere : State K Q E X → World → Type 0
    StandsHere s w = Stands outside s net w

    abbrev TalliedHere : State K Q E X → State K Q E X → List Action → Type 0
    TalliedHere s t actions = Tallied outside s t net.site actions

    -- one request

    module _ (s : State K Q E X) (w : World) (m k : M) (event : Event) (a : A) (h : Took v m event a k) (stands : StandsHere s w) (is : s.posts.items ≡ front ++ post m ∷ back) (ups : s.up ≡ up m) where
      at : slice_get s.posts.items v ≡ Some (post m)
      at = ap (λ (ps : List (Post K E)). slice_get ps v) is ∙ get_seam front (post m) back v before

      mine : IsRequestTo net.site v event
      mine = subst (λ (x : Site). IsRequestTo x v event) (sym sited) h.may

      may_ask : MayAsk outside.disk outside.entropy net w v (post m) event (up m)
      may_ask = subst (λ (n : ℕ). MayAsk outside.disk outside.entropy net w v (post m) event n) ups
          (record { running = stands.running; stands = stands.posts v (post m) at; enabled = request_enabled net w v event node mine; links = stands.up })

      pub asked : Asked outside.disk outside.entropy net w v event (post m) (post k) (said_in a).1
      asked = h.took.asked net w may_ask

      abbrev pub goes : State K Q E X
      goes = state_with s v (post k)

      change : OnePost s goes v (post m) (post k)
      change = with_post s v v (post m) (post k) refl at

      abbrev pub action : Action
      action = Ask v event asked.environment

      abbrev pub after : World
      after = (step net w action).0

      pub one_posts : goes.posts.items ≡ front ++ post k ∷ back
      one_posts = ap (λ (ps : List (Post K E)). slice_set ps v (post k)) is ∙ set_seam front (post m) (post k) back v before

      pub one_stands : StandsHere goes after
      one_stands =
          stands_after outside s goes net w v (post m) (post k) change stands action asked.may (asks_post net.site v event asked.environment) asked.stands

      pub one_tallied : TalliedHere s goes (action ∷ [])
      one_tallied =
          asked_tallied outside net.site s goes v (post m) (post k) change (has_disks outside s net w stands) event
          asked.environment asked.counts

      pub one_armed : most_armed outside.disk goes.posts.items ≡ most_armed outside.disk s.posts.items
      one_armed =
          most_same outside.disk s.posts.items v (post m) (post k) at
          (times_same outside.disk outside.entropy _ _ (post m) (post k) asked.counts)

      pub one_turn : is_turn_of net.site v action ≡ true
      one_turn = and_both (v == v) (is_block_event event) (eq_same v) (block_request event h.may.request)

    -- all requests of a history

    pub record Replayed (s : State K Q E X) (w : World) (log : List (Event × A)) (n : M) : Type 0 where
      pub history : List Action
      pub now : State K Q E X
      pub site : now.site ≡ s.site
      pub posts : now.posts.items ≡ front ++ post n ∷ back
      pub lanes : now.lanes.items ≡ s.lanes.items
      pub devices : now.devices.items ≡ s.devices.items
      pub links : now.up ≡ s.up
      pub armings : most_armed outside.disk now.posts.items ≡ most_armed outside.disk s.posts.items
      pub runs : IsRun net w history
      pub turns : list_all (is_turn_of net.site v) history ≡ true
      pub requests : list_all is_request_of history ≡ true
      pub said : AreSaid net w v history (map said_of log)
      pub stands : StandsHere now (run net w history)
      pub tallied : TalliedHere s now history

    pub replay : (log : List (Event × A)) (s : State K Q E X) (w : World) (m n : M) → Leads (Took v) m log n → StandsHere s w → s.posts.items ≡ front ++ post m ∷ back → s.up ≡ up m → Replayed s w log n
    replay [] s w m n same stands is ups =
        let here : Replayed s w [] m = record {
          history = [];
          now = s;
          site = refl;
          posts = is;
          lanes = refl;
          devices = refl;
          links = refl;
          armings = refl;
          runs = nothing_runs net w;
          turns = refl;
          requests = refl;
          said = tt;
          stands = subst (λ (x : World). StandsHere s x) (sym (run_none net w)) stands;
          tallied = none_tallied outside net.site s (has_disks outside s net w stands);
        } in
        subst (λ (x : M). Replayed s w [] x) same here
    replay (e ∷ log) s w m n leads stands is ups =
        let k : M = leads.0 in
        let h : Took v m e.0 e.1 k = leads.1 in
        let mid : State K Q E X = goes s w m k e.0 e.1 h stands is ups in
        let next : World = after s w m k e.0 e.1 h stands is ups in
        let did : Asked outside.disk outside.entropy net w v e.0 (post m) (post k) (said_in e.1).1 = asked s w m k e.0 e.1 h stands is ups in
        let x : Action = action s w m k e.0 e.1 h stands is ups in
        let r : Replayed mid next log n =
        replay log mid next k n leads.2 (one_stands s w m k e.0 e.1 h stands is ups) (one_posts s w m k e.0 e.1 h stands is ups) (ups ∙ sym h.took.links) in
        record {
          history = x ∷ r.history;
          now = r.now;
          site = r.site;
          posts = r.posts;
          lanes = r.lanes;
          devices = r.devices;
          links = r.links;
          armings = r.armings ∙ one_armed s w m k e.0 e.1 h stands is ups;
          runs = one_more net w x r.history did.may r.runs;
          turns = and_both (is_turn_of net.site v x) (list_all (is_turn_of net.site v) r.history) (one_turn s w m k e.0 e.1 h stands is ups) r.turns;
          requests = and_both (is_request_of x) (list_all is_request_of r.history) h.may.request r.requests;
          said = ((did.environment, ap (λ (event : Event). Ask v event did.environment) (sym h.took.event_is)), did.said, r.said);
          stands = subst (λ (y : World). StandsHere r.now y) (sym (run_one net w x r.history)) r.stands;
          tallied = tallied_more outside net.site s mid r.now (x ∷ []) r.history (one_tallied s w m k e.0 e.1 h stands is ups) r.tallied;
        }
