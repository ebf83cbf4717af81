-- All turns for which the workers ask were taken.
use Rattle.std.proofs.Common.{◌≡◌, ℕ, zero, suc, ◌+◌, true, List, [], ◌∷◌, ◌++◌, length, map, refl, sym, ap, subst, ◌∙◌, arith, append-nil, Option, Some}
use Rattle.std.specs.Prelude.{slice_get}
use Rattle.std.specs.List.{AllByRecursion}
use Rattle.std.specs.Option.{option_map}
use Rattle.std.proofs.lemmas.List.{length-map, map-append}
use Rattle.std.proofs.lemmas.Option.{slice_get-map}
use Rattle.net_model.specs.declared.reply.Reply.{Reply}
use Rattle.net_model.specs.Site.{Site, count_up}
use Rattle.net_model.specs.World.{Network, World}
use Rattle.net_model.specs.Action.{Action, Ok, Outcome, Replies}
use Rattle.net_model.specs.BlockOrder.{IsMerge}
use Rattle.net_model.specs.Step.{run, IsRun}
use Rattle.declared_site.specs.SiteOf.{site_of}
use Rattle.kme_base.specs.Up.{AreUp}
use Rattle.world_state.specs.Passed.{Post}
use Rattle.shared_objects.proofs.Mapping.{merge_map}
use Rattle.shared_objects.proofs.Holding.{all_of_merge}
use Rattle.run_ops.specs.Acting.{IsReady}
use Rattle.run_model.specs.Works.{Work, actions_in, flat, plain_work, done_from}
use Rattle.run_ops.specs.declared.job.Job.{Job}
use Rattle.run_ops.specs.declared.done_block.Turned.{Turned}
use Rattle.run_ops.specs.Jobs.{is_job, asked_by}
use Rattle.run_ops.specs.Together.{turned, turn_done}
use Rattle.turnstile.specs.Turns.{Leads}
use Rattle.par_managers.specs.Taking.{MayCome, MayTurnAt, HappensAt}
use Rattle.world_state.specs.declared.state.State.{State}
use Rattle.world_state.specs.Stands.{Stands, place_of}
use Rattle.world_state.specs.Tallied.{Tallied}
use Rattle.world_state.specs.Armed.{most_armed}
use Rattle.par_managers.specs.declared.next.Next.{Next}
use Rattle.par_managers.specs.Order.{IsDue, AreDue}
use Rattle.par_managers.specs.Turning.{asked_with, action_at, work_of as planned_work}
use Rattle.par_managers.proofs.Histories.{Pieces, pieces}
use Rattle.par_managers.specs.Turns.{TookAllTurns}
use Rattle.par_managers.proofs.Nodes.{Serves, AllServe, AllReplayed, replay_all}
use Rattle.par_managers.proofs.Replaying.{Takes}
use Rattle.par_managers.proofs.SoFar.{Far, far_none}
use Rattle.world_state.specs.Outside.{Outside}

some_is : {A : Type 0} {a b : A} → ◌≡◌ {A = Option A} (Some a) (Some b) → a ≡ b
some_is h = cc

-- The element of a list's image at a place is the image of the list's element there.
record HasImage {A B : Type 0} (f : A → B) (xs : List A) (i : ℕ) (y : B) : Type 0 where
  x : A
  at : slice_get xs i ≡ Some x
  is : f x ≡ y

imaged : {A B : Type 0} (f : A → B) (xs : List A) (i : ℕ) (y : B) → slice_get (map f xs) i ≡ Some y → HasImage f xs i y
imaged f [] i y h = cc
imaged f (x ∷ xs) zero y h = record { x = x; at = refl; is = some_is h }
imaged f (x ∷ xs) (suc i) y h = let rest = imaged f xs i y h in record { x = rest.x; at = rest.at; is = rest.is }

flat_image : {A B : Type 0} (f : A → B) (xss : List (List A)) → flat (map (map f) xss) ≡ map f (flat xss)
flat_image f [] = refl
flat_image {A} {B} f (xs ∷ xss) = ap (λ (ys : List B). map f xs ++ ys) (flat_image f xss) ∙ sym (map-append f xs (flat xss))

both : {A : Type 0} (P : A → Type 0) (xs ys : List A) → AllByRecursion P xs → AllByRecursion P ys → AllByRecursion P (xs ++ ys)
both P [] ys h k = k
both P (x ∷ xs) ys h k = (h.0, both P xs ys h.1 k)

maps_as_one : {A B C : Type 0} (f : B → C) (g : A → B) (xs : List A) → map f (map g xs) ≡ map (λ x. f (g x)) xs
maps_as_one f g [] = refl
maps_as_one {A} {B} {C} f g (x ∷ xs) = ap (λ (ys : List C). f (g x) ∷ ys) (maps_as_one f g xs)

module _ {K Q E X : Type 0} (outside : Outside K Q E X)
    (opening : State K Q E X) {D A B : Type 0} (up : D → ℕ) (post : D → Post K E) (place : A → ℕ) (job : A → Job) (octets : A → Option (List ℕ)) (reply : B → Reply) (all : List Job) where
  -- the turn that was asked for, and its reply
  abbrev pub work_of : A → Work
  work_of q = record { place = place q; action = asked_with (job q) Ok }

  abbrev pub said_of : A × B → ℕ × Outcome
  said_of e = (place e.0, Replies (reply e.1))

  abbrev ServesHere : (v : ℕ) → D → List (A × B) → D → Type 0
  ServesHere v d log n = Serves outside opening up post place job octets reply all v d log n

  abbrev AllServeHere : (v : ℕ) → List D → List (List (A × B)) → List D → Type 0
  AllServeHere v ds logs ns = AllServe outside opening up post place job octets reply all v ds logs ns

  abbrev works : List (A × B) → List Work
  works log = map (λ e. work_of e.0) log

  -- The turns are a merge of what the workers ask of a manager.
  abbrev pub IsMerged : (workers v : ℕ) → List (A × B) → Type 0
  IsMerged workers v log = IsMerge (map (λ k. asked_by (site_of opening.site) workers k v 0 all) (count_up workers)) (works log)

  -- the turns of one manager
  pub record IsServed (workers : ℕ) (v : ℕ) (d : D) (log : List (A × B)) (n : D) : Type 0 where
    pub serves : ServesHere v d log n
    pub merged : IsMerged workers v log

  -- the turns of the managers from a node on
  abbrev pub AreServed : (workers v : ℕ) → List D → List (List (A × B)) → List D → Type 0
  AreServed workers v [] [] [] = Unit {0}
  AreServed workers v (d ∷ ds) (log ∷ logs) (n ∷ ns) = IsServed workers v d log n × AreServed workers (v + 1) ds logs ns
  AreServed workers v _ _ _ = ⊥

  all_serve : (workers v : ℕ) (ds : List D) (logs : List (List (A × B))) (ns : List D) → AreServed workers v ds logs ns → AllServeHere v ds logs ns
  all_serve workers v [] [] [] h = tt
  all_serve workers v (d ∷ ds) (log ∷ logs) (n ∷ ns) h = (h.0.serves, all_serve workers (v + 1) ds logs ns h.1)
  all_serve workers v [] [] (n ∷ ns) h = absurd h
  all_serve workers v [] (log ∷ logs) ns h = absurd h
  all_serve workers v (d ∷ ds) [] ns h = absurd h
  all_serve workers v (d ∷ ds) (log ∷ logs) [] h = absurd h

  as_many : (workers v : ℕ) (ds : List D) (logs : List (List (A × B))) (ns : List D) → AreServed workers v ds logs ns → length logs ≡ length ds
  as_many workers v [] [] [] h = refl
  as_many workers v (d ∷ ds) (log ∷ logs) (n ∷ ns) h = ap suc (as_many workers (v + 1) ds logs ns h.1)
  as_many workers v [] [] (n ∷ ns) h = absurd h
  as_many workers v [] (log ∷ logs) ns h = absurd h
  as_many workers v (d ∷ ds) [] ns h = absurd h
  as_many workers v (d ∷ ds) (log ∷ logs) [] h = absurd h

  all_merged : (workers v : ℕ) (ds : List D) (logs : List (List (A × B))) (ns : List D) → AreServed workers v ds logs ns → (i : ℕ) (log : List (A × B)) → slice_get logs i ≡ Some log → IsMerged workers (v + i) log
  all_merged workers v [] [] ns h i log at = cc
  all_merged workers v (d ∷ ds) (x ∷ logs) (n ∷ ns) h zero log at = subst (λ (u : ℕ). IsMerged workers u log) (none v) (subst (IsMerged workers v) (some_is at) h.0.merged)
    where
      none : (v : ℕ) → v ≡ v + 0
      none v = omega arith
  all_merged workers v (d ∷ ds) (x ∷ logs) (n ∷ ns) h (suc i) log at = subst (λ (u : ℕ). IsMerged workers u log) (next v i) (all_merged workers (v + 1) ds logs ns h.1 i log at)
    where
      next : (v i : ℕ) → v + 1 + i ≡ v + suc i
      next v i = omega arith
  all_merged workers v [] (x ∷ logs) ns h i log at = absurd h
  all_merged workers v (d ∷ ds) [] ns h i log at = cc
  all_merged workers v (d ∷ ds) (x ∷ logs) [] h i log at = absurd h

  -- ---- what was asked

  abbrev IsOfHere : A × B → Type 0
  IsOfHere e = slice_get all (place e.0) ≡ Some (job e.0)

  module _ (net : Network) (w : World) (ready : IsReady (Stands outside) opening net w) where
    abbrev next_here : A × B → Next
    next_here e = record { place = place e.0; octets = octets e.0 }

    abbrev turned_here : A × B → Turned
    turned_here e = record { place = place e.0; reply = reply e.1 }

    due_of : (v : ℕ) (d n : D) (log : List (A × B)) →
        Leads (Takes outside opening up post place job octets reply v) d log n → AllByRecursion IsOfHere log → AreDue net w all (map next_here log)
    due_of v d n [] leads there = tt
    due_of v d n (e ∷ log) leads there =
        let one : IsDue net w all (next_here e) = record {
          job = job e.0;
          there = there.0;
          fit = subst (λ (s : Site). is_job s (job e.0) ≡ true) (sym ready.stands.sited) leads.1.come.fit;
          has = leads.1.come.has net w ready;
        } in
        (one, due_of v leads.0 n log leads.2 there.1)

    due_all : (v : ℕ) (ds : List D) (logs : List (List (A × B))) (ns : List D) → AllServeHere v ds logs ns → AreDue net w all (map next_here (flat logs))
    due_all v [] [] [] serve = tt
    due_all v [] [] (n ∷ ns) serve = absurd serve
    due_all v [] (log ∷ logs) ns serve = absurd serve
    due_all v (d ∷ ds) [] ns serve = absurd serve
    due_all v (d ∷ ds) (log ∷ logs) [] serve = absurd serve
    due_all v (d ∷ ds) (log ∷ logs) (n ∷ ns) serve =
        subst (AreDue net w all) (sym (map-append next_here log (flat logs)))
        (both (IsDue net w all) (map next_here log) (map next_here (flat logs)) (due_of v d n log serve.0.leads serve.0.there) (due_all (v + 1) ds logs ns serve.1))

    there_all : (v : ℕ) (ds : List D) (logs : List (List (A × B))) (ns : List D) → AllServeHere v ds logs ns → AllByRecursion IsOfHere (flat logs)
    there_all v [] [] [] serve = tt
    there_all v [] [] (n ∷ ns) serve = absurd serve
    there_all v [] (log ∷ logs) ns serve = absurd serve
    there_all v (d ∷ ds) [] ns serve = absurd serve
    there_all v (d ∷ ds) (log ∷ logs) [] serve = absurd serve
    there_all v (d ∷ ds) (log ∷ logs) (n ∷ ns) serve = both IsOfHere log (flat logs) serve.0.there (there_all (v + 1) ds logs ns serve.1)

    -- The turn that is taken next is the one that was asked for.
    planned_is : (e : A × B) → IsOfHere e → planned_work all (next_here e) ≡ work_of e.0
    planned_is e there i = record { place = place e.0; action = action_at (there i) }

    all_planned : (log : List (A × B)) → AllByRecursion IsOfHere log → map (planned_work all) (map next_here log) ≡ works log
    all_planned [] there = refl
    all_planned (e ∷ log) there =
        ap (λ (x : Work). x ∷ map (planned_work all) (map next_here log)) (planned_is e there.0) ∙ ap (λ (xs : List Work). work_of e.0 ∷ xs) (all_planned log there.1)

    -- Two states with the same parts.

    pub record SameParts (s t : State K Q E X) : Type 0 where
      pub site : t.site ≡ s.site
      pub posts : t.posts.items ≡ s.posts.items
      pub lanes : t.lanes.items ≡ s.lanes.items
      pub devices : t.devices.items ≡ s.devices.items
      pub links : t.up ≡ s.up

    abbrev StandsHere : State K Q E X → World → Type 0
    StandsHere s u = Stands outside s net u

    same_stands : (s t : State K Q E X) (u : World) → SameParts s t → StandsHere s u → StandsHere t u
    same_stands s t u same h = record {
      running = h.running;
      sited = h.sited ∙ ap site_of (sym same.site);
      nodes = ap (λ (ps : List (Post K E)). length ps) same.posts ∙ h.nodes;
      posts = λ v p at. h.posts v p (sym (ap (λ (ps : List (Post K E)). slice_get ps v) same.posts) ∙ at);
      sides = ap (λ ls. length ls) same.lanes ∙ h.sides;
      lanes = λ l side is at. h.lanes l side is (sym (ap (λ ls. slice_get ls (place_of l)) same.lanes) ∙ at);
      links = ap (λ qs. length qs) same.devices ∙ h.links;
      devices = λ link q at. h.devices link q (sym (ap (λ qs. slice_get qs link) same.devices) ∙ at);
      up = subst (λ (n : ℕ). AreUp n u.link_up) (sym same.links) h.up;
    }

    abbrev TalliedHere : State K Q E X → List Action → Type 0
    TalliedHere s actions = Tallied outside opening s net.site actions

    same_tallied : (s t : State K Q E X) (actions : List Action) → SameParts s t → TalliedHere s actions → TalliedHere t actions
    same_tallied s t actions same h = record {
      nodes = ap (λ (ps : List (Post K E)). length ps) same.posts ∙ h.nodes;
      posts = λ v p q was is. h.posts v p q was (sym (ap (λ (ps : List (Post K E)). slice_get ps v) same.posts) ∙ is);
      links = ap (λ qs. length qs) same.devices ∙ h.links;
      devices = λ link p q was is. h.devices link p q was (sym (ap (λ qs. slice_get qs link) same.devices) ∙ is);
      sides = ap (λ ls. length ls) same.lanes ∙ h.sides;
      wires = λ l p q was is. h.wires l p q was (sym (ap (λ ls. slice_get ls (place_of l)) same.lanes) ∙ is);
    }

    module _ (workers : ℕ) (ds : List D) (logs : List (List (A × B))) (ns : List D) (starts : map post ds ≡ opening.posts.items) (served : AreServed workers 0 ds logs ns) where
      serve : AllServeHere 0 ds logs ns
      serve = all_serve workers 0 ds logs ns served

      abbrev order : List Work
      order = map (planned_work all) (map next_here (flat logs))

      begun : Far outside opening net w all order opening (map next_here (flat logs)) []
      begun =
          far_none outside opening net w all order (map next_here (flat logs)) ready.stands ready.quiet.noted refl
          (due_all 0 ds logs ns serve)

      ends_all : AllReplayed outside opening up post place job octets reply all net w ready order opening [] ns (map turned_here (flat logs))
      ends_all =
          replay_all outside opening up post place job octets reply all net w ready order ds logs ns 0 opening [] [] serve (sym starts) refl refl begun

      -- The disks are armed as often as before.
      pub armed_all : most_armed outside.disk (map post ns) ≡ most_armed outside.disk opening.posts.items
      armed_all = ap (most_armed outside.disk) (sym ends_all.posts) ∙ ends_all.armings

      all_plain : map plain_work ends_all.far.works ≡ flat (map works logs)
      all_plain =
          sym (append-nil (map plain_work ends_all.far.works)) ∙ ends_all.far.asked ∙ all_planned (flat logs) (there_all 0 ds logs ns serve) ∙ sym (flat_image (λ (e : A × B). work_of e.0) logs)

      pub took_all : (new : State K Q E X) → new.site ≡ opening.site → new.posts.items ≡ map post ns → new.lanes.items ≡ opening.lanes.items → new.devices.items ≡ opening.devices.items → new.up ≡ opening.up →
          TookAllTurns outside opening new net w workers all (map said_of (flat logs))
      took_all new site posts lanes devices links =
          let e = ends_all in
          let far = e.far in
          let same : SameParts e.now new = record {
            site = site ∙ sym e.site;
            posts = posts ∙ sym e.posts;
            lanes = lanes ∙ sym e.lanes;
            devices = devices ∙ sym e.devices;
            links = links ∙ sym e.links;
          } in
          let p : Pieces plain_work (map works logs) far.works = pieces plain_work (map works logs) far.works all_plain in
          let nodes : length p.parts ≡ net.site.nodes =
          sym (length-map p.parts (map plain_work)) ∙ ap (λ (xs : List (List Work)). length xs) p.are ∙ length-map logs works ∙ as_many workers 0 ds logs ns served ∙ sym (length-map ds post)
          ∙ ap (λ (ps : List (Post K E)). length ps) starts ∙ ready.stands.nodes in
          record {
            histories = p.parts;
            nodes = nodes;
            merged = λ v h at.
                let there : slice_get (map works logs) v ≡ Some (map plain_work h) =
                sym (ap (λ (xs : List (List Work)). slice_get xs v) p.are) ∙ slice_get-map (map plain_work) p.parts v ∙ ap (option_map (map plain_work)) at in
                let i = imaged works logs v (map plain_work h) there in
                let merged : IsMerge (map (λ k. asked_by (site_of opening.site) workers k v 0 all) (count_up workers)) (works i.x) =
                subst (λ (u : ℕ). IsMerge (map (λ k. asked_by (site_of opening.site) workers k u 0 all) (count_up workers)) (works i.x)) (zero_less v) (all_merged workers 0 ds logs ns served v i.x i.at) in
                subst (λ (s : Site). IsMerge (map (λ k. asked_by s workers k v 0 all) (count_up workers)) (map plain_work h)) (sym ready.stands.sited)
                (subst (IsMerge (map (λ k. asked_by (site_of opening.site) workers k v 0 all) (count_up workers))) i.is merged);
            turns = subst (λ (xs : List Work). IsRun net w (actions_in xs)) (sym p.whole) far.is;
            said = sym (maps_as_one turned turned_here (flat logs)) ∙ far.said ∙ ap (λ (xs : List Work). map turn_done (done_from net w xs)) (sym p.whole);
            stands = subst (λ (xs : List Work). StandsHere new (run net w (actions_in xs))) (sym p.whole) (same_stands e.now new (run net w (actions_in far.works)) same far.stands);
            tallied = subst (λ (xs : List Work). TalliedHere new (actions_in xs)) (sym p.whole) (same_tallied e.now new (actions_in far.works) same far.tallied);
            noted = subst (λ (xs : List Work). (v : ℕ) → (run net w (actions_in xs)).placings v ≡ []) (sym p.whole) far.noted;
          }
        where
          zero_less : (v : ℕ) → 0 + v ≡ v
          zero_less v = omega arith

  -- ---- a machine's history, as a history of a desk

  module _ (charter : D → State K Q E X × ℕ) (turn : D → A → B → D → Type 0) where
    -- a turn, as the desk's charter says
    pub record Turns (d : D) (q : A) (a : B) (n : D) : Type 0 where
      pub come : MayCome outside (charter d).0 (charter d).1 (place q) (job q) (octets q)
      pub happens : (net : Network) (w : World) → MayTurnAt outside.disk outside.entropy net w (charter d).1 (place q) (post d) (job q) (octets q) (up d) →
          HappensAt outside.disk outside.entropy net w (charter d).1 (post d) (post n) (job q) (reply a)
      pub linked : up n ≡ up d
      pub kept : charter n ≡ charter d

    module _ (turns : (d : D) (q : A) (a : B) (n : D) → turn d q a n → Turns d q a n) where
      abbrev Under : (v : ℕ) → D → Type 0
      Under v d = charter d ≡ (opening, v)

      abbrev TakesAt : (v : ℕ) → D → A → B → D → Type 0
      TakesAt v d q a n = Takes outside opening up post place job octets reply v d q a n

      takes_at : (v : ℕ) (d : D) (q : A) (a : B) (n : D) → Under v d → Turns d q a n → TakesAt v d q a n
      takes_at v d q a n is h = record {
        come = subst (λ (c : State K Q E X × ℕ). MayCome outside c.0 c.1 (place q) (job q) (octets q)) is h.come;
        happens = subst (λ (c : State K Q E X × ℕ). (net : Network) (w : World) → MayTurnAt outside.disk outside.entropy net w c.1 (place q) (post d) (job q) (octets q) (up d) →
            HappensAt outside.disk outside.entropy net w c.1 (post d) (post n) (job q) (reply a)) is h.happens;
        linked = h.linked;
      }

      leads_at : (v : ℕ) (d n : D) (log : List (A × B)) → Under v d → Leads turn d log n → Leads (TakesAt v) d log n
      leads_at v d n [] is leads = leads
      leads_at v d n (e ∷ log) is leads =
          let h = turns d e.0 e.1 leads.0 leads.1 in
          (leads.0, takes_at v d e.0 e.1 leads.0 is h, leads_at v leads.0 n log (h.kept ∙ is) leads.2)

      -- The history of a manager is a merge of the workers' calls of it.
      pub is_served : (workers v : ℕ) (d n : D) (log : List (A × B)) (said : List (List (A × B))) → Under v d → up d ≡ opening.up → Leads turn d log n → IsMerge said log →
          map works said ≡ map (λ k. asked_by (site_of opening.site) workers k v 0 all) (count_up workers) → AllByRecursion (λ mine. AllByRecursion IsOfHere mine) said → IsServed workers v d log n
      is_served workers v d n log said is links leads merged asked there = record {
        serves = record { leads = leads_at v d n log is leads; there = all_of_merge IsOfHere merged there; links = links };
        merged = subst (λ (xss : List (List Work)). IsMerge xss (works log)) asked (merge_map (λ (e : A × B). work_of e.0) merged);
      }
