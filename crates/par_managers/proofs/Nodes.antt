-- Node by node, the managers' deeds are turns of the run's state.
use Rattle.std.proofs.Common.{◌≡◌, ℕ, zero, suc, ◌+◌, List, [], ◌∷◌, ◌++◌, length, map, refl, sym, ap, subst, ◌∙◌, arith, append_assoc, append-nil, length-append, Option, Some}
use Rattle.std.specs.Prelude.{slice_get, slice_set}
use Rattle.std.specs.List.{AllByRecursion}
use Rattle.std.proofs.lemmas.List.{map-append}
use Rattle.net_model.specs.declared.reply.Reply.{Reply}
use Rattle.net_model.specs.World.{Network, World}
use Rattle.world_state.specs.Passed.{Post}
use Rattle.run_ops.specs.Acting.{IsReady}
use Rattle.run_model.specs.Works.{Work, flat}
use Rattle.run_ops.specs.declared.job.Job.{Job}
use Rattle.run_ops.specs.declared.done_block.Turned.{Turned}
use Rattle.turnstile.specs.Turns.{Leads}
use Rattle.world_state.specs.declared.state.State.{State}
use Rattle.world_state.specs.Stands.{Stands}
use Rattle.world_state.specs.Armed.{most_armed}
use Rattle.par_managers.specs.declared.next.Next.{Next}
use Rattle.par_managers.proofs.Replaying.{Takes, next_of, turned_of, IsOf, Replayed, replay}
use Rattle.par_managers.proofs.SoFar.{Far}
use Rattle.world_state.specs.Outside.{Outside}

get_seam : {A : Type 0} (xs : List A) (x : A) (ys : List A) (n : ℕ) → length xs ≡ n → slice_get (xs ++ x ∷ ys) n ≡ Some x
get_seam [] x ys zero long = refl
get_seam [] x ys (suc n) long = absurd (omega (arith, long))
get_seam (z ∷ zs) x ys zero long = absurd (omega (arith, long))
get_seam (z ∷ zs) x ys (suc n) long = get_seam zs x ys n (omega (arith, long))

set_seam : {A : Type 0} (xs : List A) (x y : A) (ys : List A) (n : ℕ) → length xs ≡ n → slice_set (xs ++ x ∷ ys) n y ≡ xs ++ y ∷ ys
set_seam [] x y ys zero long = refl
set_seam [] x y ys (suc n) long = absurd (omega (arith, long))
set_seam (z ∷ zs) x y ys zero long = absurd (omega (arith, long))
set_seam {A} (z ∷ zs) x y ys (suc n) long = ap (λ (ws : List A). z ∷ ws) (set_seam zs x y ys n (omega (arith, long)))

module _ {K Q E X : Type 0} (outside : Outside K Q E X)
    (opening : State K Q E X) {D A B : Type 0} (up : D → ℕ) (post : D → Post K E) (place : A → ℕ) (job : A → Job) (octets : A → Option (List ℕ)) (reply : B → Reply) (all : List Job) where
  abbrev TakesHere : (v : ℕ) → D → A → B → D → Type 0
  TakesHere v d q a n = Takes outside opening up post place job octets reply v d q a n

  abbrev next_here : A × B → Next
  next_here e = next_of outside opening up post place job octets reply e

  abbrev turned_here : A × B → Turned
  turned_here e = turned_of outside opening up post place job octets reply e

  abbrev IsOfHere : A × B → Type 0
  IsOfHere e = IsOf outside opening up post place job octets reply all e

  -- The deeds of one manager at its desk, from the block's start on.
  pub record Serves (v : ℕ) (d : D) (log : List (A × B)) (n : D) : Type 0 where
    pub leads : Leads (TakesHere v) d log n
    pub there : AllByRecursion IsOfHere log
    pub links : up d ≡ opening.up

  -- the deeds of the managers from a node on
  abbrev pub AllServe : (v : ℕ) → List D → List (List (A × B)) → List D → Type 0
  AllServe v [] [] [] = Unit {0}
  AllServe v (d ∷ ds) (log ∷ logs) (n ∷ ns) = Serves v d log n × AllServe (v + 1) ds logs ns
  AllServe v _ _ _ = ⊥

  module _ (net : Network) (w : World) (ready : IsReady (Stands outside) opening net w) (order : List Work) where
    abbrev FarHere : State K Q E X → List Next → List Turned → Type 0
    FarHere s rest replies = Far outside opening net w all order s rest replies

    pub record AllReplayed (s : State K Q E X) (front : List (Post K E)) (ns : List D) (replies : List Turned) : Type 0 where
      pub now : State K Q E X
      pub site : now.site ≡ s.site
      pub posts : now.posts.items ≡ front ++ map post ns
      pub lanes : now.lanes.items ≡ s.lanes.items
      pub devices : now.devices.items ≡ s.devices.items
      pub links : now.up ≡ s.up
      pub armings : most_armed outside.disk now.posts.items ≡ most_armed outside.disk s.posts.items
      pub far : FarHere now [] replies

    pub replay_all : (ds : List D) (logs : List (List (A × B))) (ns : List D) (v : ℕ) (s : State K Q E X) (front : List (Post K E)) (before : List Turned) → AllServe v ds logs ns →
        s.posts.items ≡ front ++ map post ds → length front ≡ v → s.up ≡ opening.up → FarHere s (map next_here (flat logs)) before → AllReplayed s front ns (before ++ map turned_here (flat logs))
    replay_all [] [] [] v s front before serve posts at ups so = record {
      now = s;
      site = refl;
      posts = posts;
      lanes = refl;
      devices = refl;
      links = refl;
      armings = refl;
      far = subst (FarHere s []) (sym (append-nil before)) so;
    }
    replay_all (d ∷ ds) (log ∷ logs) (n ∷ ns) v s front before serve posts at ups so =
        let h : Serves v d log n = serve.0 in
        let later : List Next = map next_here (flat logs) in
        let here_at : slice_get s.posts.items v ≡ Some (post d) = ap (λ (ps : List (Post K E)). slice_get ps v) posts ∙ get_seam front (post d) (map post ds) v at in
        let r : Replayed outside opening up post place job octets reply net w ready all order v s n later (before ++ map turned_here log) =
        replay outside opening up post place job octets reply net w ready all order log v s d n later before h.leads h.there here_at
        (ups ∙ sym h.links) (subst (λ (xs : List Next). FarHere s xs before) (map-append next_here log (flat logs)) so) in
        let all_posts : r.now.posts.items ≡ (front ++ post n ∷ []) ++ map post ds =
        r.posts ∙ ap (λ (ps : List (Post K E)). slice_set ps v (post n)) posts ∙ set_seam front (post d) (post n) (map post ds) v at ∙ sym (append_assoc front (post n ∷ []) (map post ds)) in
        let one_more : length (front ++ post n ∷ []) ≡ v + 1 = length-append front (post n ∷ []) ∙ ap (λ (m : ℕ). m + 1) at in
        let rest : AllReplayed r.now (front ++ post n ∷ []) ns ((before ++ map turned_here log) ++ map turned_here (flat logs)) =
        replay_all ds logs ns (v + 1) r.now (front ++ post n ∷ []) (before ++ map turned_here log) serve.1 all_posts one_more (r.links ∙ ups) r.far in
        record {
          now = rest.now;
          site = rest.site ∙ r.site;
          posts = rest.posts ∙ append_assoc front (post n ∷ []) (map post ns);
          lanes = rest.lanes ∙ r.lanes;
          devices = rest.devices ∙ r.devices;
          links = rest.links ∙ r.links;
          armings = rest.armings ∙ r.armings;
          far = subst (FarHere rest.now [])
              (append_assoc before (map turned_here log) (map turned_here (flat logs)) ∙ ap (λ (xs : List Turned). before ++ xs) (sym (map-append turned_here log (flat logs)))) rest.far;
        }
    replay_all [] [] (n ∷ ns) v s front before serve posts at ups so = absurd serve
    replay_all [] (log ∷ logs) ns v s front before serve posts at ups so = absurd serve
    replay_all (d ∷ ds) [] ns v s front before serve posts at ups so = absurd serve
    replay_all (d ∷ ds) (log ∷ logs) [] v s front before serve posts at ups so = absurd serve
