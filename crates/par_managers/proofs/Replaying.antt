-- The turns that a node's manager took are consecutive turns of the run's state that has its post.
use Rattle.std.proofs.Common.{◌≡◌, ℕ, zero, suc, List, [], ◌∷◌, ◌++◌, map, refl, sym, ap, subst, ◌∙◌, append_assoc, append-nil, Option, Some}
use Rattle.std.specs.Prelude.{slice_get, slice_set}
use Rattle.std.specs.List.{AllByRecursion}
use Rattle.net_model.specs.declared.reply.Reply.{Reply}
use Rattle.net_model.specs.Site.{Site}
use Rattle.net_model.specs.World.{Network, World}
use Rattle.net_model.specs.Step.{run}
use Rattle.world_state.specs.Passed.{Post}
use Rattle.run_ops.specs.Acting.{IsReady}
use Rattle.run_model.specs.Works.{Work, actions_in}
use Rattle.run_ops.specs.declared.job.Job.{Job}
use Rattle.run_ops.specs.declared.done_block.Turned.{Turned}
use Rattle.turnstile.specs.Turns.{Leads}
use Rattle.world_state.specs.declared.state.State.{State}
use Rattle.world_state.specs.Stands.{Stands}
use Rattle.world_state.specs.Armed.{most_armed}
use Rattle.world_state.proofs.Armed.{most_same, times_same}
use Rattle.world_state.proofs.Changes.{state_with, with_post}
use Rattle.par_managers.specs.declared.next.Next.{Next}
use Rattle.par_managers.specs.TurnTaking.{MayTurn, TookTurn}
use Rattle.par_managers.proofs.TurnTakes.{may_take}
use Rattle.par_managers.specs.Taking.{MayCome, MayTurnAt, HappensAt, IsTurnAt}
use Rattle.par_managers.proofs.State.{may_turn_at, took_turn}
use Rattle.par_managers.proofs.SoFar.{Far, far_more}
use Rattle.world_state.specs.Outside.{Outside}

get_set : {A : Type 0} (xs : List A) (i : ℕ) (x y : A) → slice_get xs i ≡ Some x → slice_get (slice_set xs i y) i ≡ Some y
get_set [] i x y h = cc
get_set (z ∷ zs) zero x y h = refl
get_set (z ∷ zs) (suc i) x y h = get_set zs i x y h

set_again : {A : Type 0} (xs : List A) (i : ℕ) (x y : A) → slice_set (slice_set xs i x) i y ≡ slice_set xs i y
set_again [] i x y = refl
set_again (z ∷ zs) zero x y = refl
set_again {A} (z ∷ zs) (suc i) x y = ap (λ (ws : List A). z ∷ ws) (set_again zs i x y)

set_same : {A : Type 0} (xs : List A) (i : ℕ) (x : A) → slice_get xs i ≡ Some x → slice_set xs i x ≡ xs
set_same [] i x h = refl
set_same {A} (z ∷ zs) zero x h = let is : z ≡ x = cc in ap (λ (w : A). w ∷ zs) (sym is)
set_same {A} (z ∷ zs) (suc i) x h = ap (λ (ws : List A). z ∷ ws) (set_same zs i x h)

module _ {K Q E X : Type 0} (outside : Outside K Q E X)
    (opening : State K Q E X) {D A B : Type 0} (up : D → ℕ) (post : D → Post K E) (place : A → ℕ) (job : A → Job) (octets : A → Option (List ℕ)) (reply : B → Reply) where
  -- A manager at its desk took a turn that may come.
  pub record Takes (v : ℕ) (d : D) (q : A) (a : B) (n : D) : Type 0 where
    pub come : MayCome outside opening v (place q) (job q) (octets q)
    pub happens : (net : Network) (w : World) → MayTurnAt outside.disk outside.entropy net w v (place q) (post d) (job q) (octets q) (up d) →
        HappensAt outside.disk outside.entropy net w v (post d) (post n) (job q) (reply a)
    pub linked : up n ≡ up d

  -- the turn as one that is still to be taken, and its reply
  abbrev pub next_of : A × B → Next
  next_of e = record { place = place e.0; octets = octets e.0 }

  abbrev pub turned_of : A × B → Turned
  turned_of e = record { place = place e.0; reply = reply e.1 }

  -- The turn is that of the job at its place.
  abbrev pub IsOf : List Job → A × B → Type 0
  IsOf all e = slice_get all (place e.0) ≡ Some (job e.0)

  module _ (net : Network) (w : World) (ready : IsReady (Stands outside) opening net w) (all : List Job) (order : List Work) where
    abbrev FarHere : State K Q E X → List Next → List Turned → Type 0
    FarHere s rest replies = Far outside opening net w all order s rest replies

    -- ---- one turn

    module _ (v : ℕ) (s : State K Q E X) (d n : D) (e : A × B) (rest : List Next) (before : List Turned) (h : Takes v d e.0 e.1 n) (there : IsOf all e)
        (at : slice_get s.posts.items v ≡ Some (post d)) (ups : s.up ≡ up d) (so : FarHere s (next_of e ∷ rest) before) where
      abbrev here : World
      here = run net w (actions_in so.works)

      abbrev pub goes : State K Q E X
      goes = state_with s v (post n)

      mine : IsTurnAt net.site v (place e.0) (job e.0)
      mine = subst (λ (x : Site). IsTurnAt x v (place e.0) (job e.0)) (sym ready.stands.sited) h.come.mine

      may : MayTurn outside s net here (job e.0) (octets e.0)
      may = may_take outside s net here so.stands all (next_of e) so.due.0 (job e.0) there

      may_at : MayTurnAt outside.disk outside.entropy net here v (place e.0) (post d) (job e.0) (octets e.0) (up d)
      may_at = subst (λ (n : ℕ). MayTurnAt outside.disk outside.entropy net here v (place e.0) (post d) (job e.0) (octets e.0) n) ups
          (may_turn_at outside s net here (job e.0) (octets e.0) may v (place e.0) (post d) at mine)

      happens : HappensAt outside.disk outside.entropy net here v (post d) (post n) (job e.0) (reply e.1)
      happens = h.happens net here may_at

      took : TookTurn outside s goes net here (job e.0) (reply e.1)
      took = took_turn outside s net here goes (reply e.1) (job e.0) (octets e.0) may v (place e.0) (post d) (post n) mine
          (with_post s v v (post d) (post n) refl at) happens

      pub at_more : slice_get goes.posts.items v ≡ Some (post n)
      at_more = get_set s.posts.items v (post d) (post n) at

      pub one_far : FarHere goes rest (before ++ turned_of e ∷ [])
      one_far = far_more outside opening net w all order s (next_of e) rest before so goes (job e.0) (reply e.1) there took

      pub one_armed : most_armed outside.disk goes.posts.items ≡ most_armed outside.disk s.posts.items
      one_armed =
          most_same outside.disk s.posts.items v (post d) (post n) at
          (times_same outside.disk outside.entropy _ _ (post d) (post n) happens.counts)

    -- ---- all turns

    pub record Replayed (v : ℕ) (s : State K Q E X) (n : D) (rest : List Next) (replies : List Turned) : Type 0 where
      pub now : State K Q E X
      pub site : now.site ≡ s.site
      pub posts : now.posts.items ≡ slice_set s.posts.items v (post n)
      pub lanes : now.lanes.items ≡ s.lanes.items
      pub devices : now.devices.items ≡ s.devices.items
      pub links : now.up ≡ s.up
      pub armings : most_armed outside.disk now.posts.items ≡ most_armed outside.disk s.posts.items
      pub far : FarHere now rest replies

    pub replay : (log : List (A × B)) (v : ℕ) (s : State K Q E X) (d n : D) (rest : List Next) (before : List Turned) → Leads (Takes v) d log n → AllByRecursion (IsOf all) log →
        slice_get s.posts.items v ≡ Some (post d) → s.up ≡ up d → FarHere s (map next_of log ++ rest) before → Replayed v s n rest (before ++ map turned_of log)
    replay [] v s d n rest before same there at ups so =
        let here : Replayed v s d rest (before ++ []) = record {
          now = s;
          site = refl;
          posts = sym (set_same s.posts.items v (post d) at);
          lanes = refl;
          devices = refl;
          links = refl;
          armings = refl;
          far = subst (FarHere s rest) (sym (append-nil before)) so;
        } in
        subst (λ (x : D). Replayed v s x rest (before ++ [])) same here
    replay (e ∷ log) v s d n rest before leads there at ups so =
        let k : D = leads.0 in
        let h : Takes v d e.0 e.1 k = leads.1 in
        let later : List Next = map next_of log ++ rest in
        let mid : State K Q E X = goes v s d k e later before h there.0 at ups so in
        let r : Replayed v mid n rest ((before ++ turned_of e ∷ []) ++ map turned_of log) =
        replay log v mid k n rest (before ++ turned_of e ∷ []) leads.2 there.1 (at_more v s d k e later before h there.0 at ups so) (ups ∙ sym h.linked) (one_far v s d k e later before h there.0 at ups so) in
        record {
          now = r.now;
          site = r.site;
          posts = r.posts ∙ set_again s.posts.items v (post k) (post n);
          lanes = r.lanes;
          devices = r.devices;
          links = r.links;
          armings = r.armings ∙ one_armed v s d k e later before h there.0 at ups so;
          far = subst (FarHere r.now rest) (append_assoc before (turned_of e ∷ []) (map turned_of log)) r.far;
        }
