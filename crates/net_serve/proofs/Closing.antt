-- Turnstiles in front of a state's managers are opened, and closed again.
use Rattle.std.proofs.Common.{◌≡◌, ℕ, zero, suc, ◌*◌, ◌<◌, ◌≤◌, ◌^◌, Bool, List, [], ◌∷◌, ◌++◌, length, map, reverse, refl, sym, ap, subst, ◌∙◌, arith, append-nil, length-append, Option, Some, Vec, Global}
use Rattle.std.specs.Prelude.{slice_get}
use Rattle.std.specs.List.{AllByRecursion}
use Rattle.std.specs.Option.{option_map}
use Rattle.std.proofs.Math.Nat.{mul-le-mul_right}
use Rattle.std.proofs.lemmas.List.{length-map, length-reverse}
use Rattle.std.proofs.lemmas.Option.{slice_get-map, slice_get_within}
use Rattle.net_model.specs.declared.event.Event.{Event}
use Rattle.net_model.specs.Site.{count_up}
use Rattle.net_model.specs.World.{Network, World}
use Rattle.declared_site.specs.declared.site.Site.{Site as Declared}
use Rattle.world_state.specs.Passed.{Post}
use Rattle.kme_serve.specs.Door.{Door}
use Rattle.kme_serve.specs.Endless.{endless}
use Rattle.turnstile.specs.declared.machine.Machine.{Ghosts}
use Rattle.turnstile.specs.declared.turnstile.Turnstile.{Turnstile}
use Rattle.turnstile.specs.Names.{opening as first_of}
use Rattle.turnstile.specs.Views.{IsWhole}
use Rattle.shared_objects.specs.declared.pass.Post.{Post as Kept}
use Rattle.shared_objects.specs.Seats.{calls_at, Closes, EndAll}
use Rattle.shared_objects.proofs.Ending.{come_back, turned_round, as_many as as_many_in}
use Rattle.shared_objects.proofs.Lasts.{all_reversed}
use Rattle.shared_objects.proofs.Merging.{none_whole}
use Rattle.world_state.specs.Armed.{most_armed}
use Rattle.world_state.specs.Stands.{Stands}
use Rattle.world_state.specs.declared.state.State.{State}
use Rattle.par_managers.proofs.Histories.{counted_at, length-count_up}
use Rattle.net_serve.specs.Serving.{Said, Call}
use Rattle.net_serve.specs.Asked.{HaveAsked}
use Rattle.net_serve.specs.Served.{Serves}
use Rattle.net_serve.proofs.Ending.{Turns, armed_all, serves_all}
use Rattle.world_state.specs.Outside.{Outside}

some_is : {A : Type 0} {a b : A} → ◌≡◌ {A = Option A} (Some a) (Some b) → a ≡ b
some_is h = cc

all_at : {A : Type 0} (P : A → Type 0) (xs : List A) (i : ℕ) (x : A) → AllByRecursion P xs → slice_get xs i ≡ Some x → P x
all_at P [] i x h at = cc
all_at P (y ∷ ys) zero x h at = subst P (some_is at) h.0
all_at P (y ∷ ys) (suc i) x h at = all_at P ys i x h.1 at

-- item `i` of a list that is numbered from 0 has the number `i`
numbered : {A : Type 0} (f : A → ℕ) (xs : List A) (n i : ℕ) (x : A) → map f xs ≡ count_up n → slice_get xs i ≡ Some x → f x ≡ i
numbered f xs n i x are at =
    let within = slice_get_within xs i x at in
    let same = sym (length-map xs f) ∙ ap (λ (ns : List ℕ). length ns) are ∙ length-count_up n in
    some_is (sym (slice_get-map f xs i ∙ ap (option_map f) at) ∙ ap (λ (ns : List ℕ). slice_get ns i) are ∙ counted_at n i (omega (arith, within, same)))

-- the number of all calls is in range
pub few_calls : (workers connections : ℕ) → workers ≤ 32 → connections ≤ endless → workers * (1000 * connections) < 2 ^ 63
few_calls workers connections few some =
    let product : workers * (1000 * connections) ≤ 32 * (1000 * connections) = mul-le-mul_right (1000 * connections) few in
    omega (arith, product, some)

module _ {K Q E X : Type 0} (outside : Outside K Q E X)
    (opening : State K Q E X) where
  -- each node of the site has its manager
  pub as_many_nodes : (net : Network) (w : World) → Stands outside opening net w → length opening.posts.items ≡ length opening.site.nodes
  as_many_nodes net w stands = stands.nodes ∙ ap (λ s. s.nodes) stands.sited

  module _ {M A : Type 0} (node : M → ℕ) (site_in : M → Declared) (up : M → ℕ) (post : M → Post K E) (said_in : A → Said) {C : Type 0} (ts : List (Turnstile M Event A C)) (first rest : List M)
      (opened : map first_of ts ++ reverse rest ≡ reverse first) (nodes : map node (reverse first) ≡ count_up (length opening.posts.items))
      (charters : AllByRecursion (λ m. (site_in m ≡ opening.site) × (up m ≡ opening.up)) first) (posts : map post (reverse first) ≡ opening.posts.items) where
    module _ (none : rest ≡ []) where
      openings : map first_of ts ≡ reverse first
      openings = sym (append-nil (map first_of ts)) ∙ ap (λ (ms : List M). map first_of ts ++ reverse ms) (sym none) ∙ opened

      pub as_many : length ts ≡ length opening.posts.items
      as_many = sym (length-map ts first_of) ∙ ap (λ (ms : List M). length ms) openings ∙ sym (length-map (reverse first) post) ∙ ap (λ (ps : List (Post K E)). length ps) posts

      module _ (v : ℕ) (t : Turnstile M Event A C) (at : slice_get ts v ≡ Some t) where
        there : slice_get (reverse first) v ≡ Some (first_of t)
        there = sym (ap (λ (ms : List M). slice_get ms v) openings) ∙ slice_get-map first_of ts v ∙ ap (option_map first_of) at

        pub its_charter : (site_in (first_of t) ≡ opening.site) × (up (first_of t) ≡ opening.up)
        its_charter = all_at (λ m. (site_in m ≡ opening.site) × (up m ≡ opening.up)) (reverse first) v (first_of t)
            (all_reversed (λ m. (site_in m ≡ opening.site) × (up m ≡ opening.up)) first (reverse first) refl charters) there

        pub its_node : node (first_of t) ≡ v
        its_node = numbered node (reverse first) (length opening.posts.items) v (first_of t) nodes there

    module _ {g : Ghosts M Event A C} (turn : M → Event → A → M → Type 0) (kept : List (Kept M Event A C g)) (after : List M) (closed : Closes turn ts kept rest after) where
      -- if no manager was asked, all managers are back as they were
      pub came_back : ((v : ℕ) → calls_at v kept ≡ []) → map post (reverse after) ≡ opening.posts.items
      came_back none =
          ap (map post)
          (come_back turn ts kept (reverse first) rest after (reverse after) opened closed refl
          (λ v log whole. none_whole log (subst (λ (calls : List (ℕ × (Event × A))). IsWhole calls log) (none v) whole)))
          ∙ posts

      module _ (turns : (m : M) (event : Event) (a : A) (n : M) → turn m event a n →
          Turns outside opening up post said_in (λ m. (site_in m, node m)) turn m event a n) (none : rest ≡ []) where
        ended : reverse after ≡ closed.ended
        ended = turned_round rest closed.ended after (reverse after) closed.behind refl ∙ ap (λ (ms : List M). closed.ended ++ reverse ms) none ∙ append-nil closed.ended

        under : (v : ℕ) (t : Turnstile M Event A C) → slice_get ts v ≡ Some t → (◌≡◌ {A = Declared × ℕ} (site_in (first_of t), node (first_of t)) (opening.site, v)) × (up (first_of t) ≡ opening.up)
        under v t at = let c = its_charter none v t at in let n = its_node none v t at in let s = c.0 in ((λ i. (s i, n i)), c.1)

        all_posts : map post (map first_of ts) ≡ opening.posts.items
        all_posts = ap (map post) (openings none) ∙ posts

        pub armed_after : (net : Network) (w : World) → Stands outside opening net w →
            most_armed outside.disk (map post (reverse after)) ≡ most_armed outside.disk opening.posts.items
        armed_after net w stands =
            ap (λ (ms : List M). most_armed outside.disk (map post ms)) ended
            ∙ armed_all outside opening up post said_in (λ m. (site_in m, node m)) turn turns ts kept closed.ended closed.ends under
            all_posts net w stands

        pub served_after : (net : Network) (w : World) → Stands outside opening net w → (call_in : ℕ × (Event × A) → Call) →
            ((c : ℕ × (Event × A)) → call_in c ≡ (c.0, said_in c.1.1)) → {D : Type 0} (tell : D → Door) (failed : D → ℕ) (connections : ℕ) (before back : List D) (all : Bool) →
            HaveAsked tell failed opening.site.nodes opening.site.entitlements (length ts) connections before back (λ v. map call_in (calls_at v kept)) all → (new : State K Q E X) → new.site ≡ opening.site →
            new.posts.items ≡ map post (reverse after) → new.lanes.items ≡ opening.lanes.items → new.devices.items ≡ opening.devices.items → new.up ≡ opening.up →
            Serves outside tell failed opening new net w connections before back all
        served_after net w stands call_in in_call tell failed connections before back all asked new sited are lanes devices links =
            serves_all outside opening up post said_in (λ m. (site_in m, node m)) turn turns ts kept closed.ended closed.ends under
            all_posts net w stands call_in in_call tell failed connections before back all asked new sited (are ∙ ap (map post) ended) lanes devices links

-- a copy of a state stands where the state does
pub stands_at : {K Q E X : Type 0} (outside : Outside K Q E X) (s copy : State K Q E X) → copy ≡ s → (net : Network) (w : World) → Stands outside s net w → Stands outside copy net w
stands_at {K} {Q} {E} {X} outside s copy is net w stands = subst (λ (x : State K Q E X). Stands outside x net w) (sym is) stands

-- the result for the state itself, of which the opening is a copy
pub of_state : {K Q E X D : Type 0} (outside : Outside K Q E X) (tell : D → Door) (failed : D → ℕ)
    (Done : Type 0) (s copy : State K Q E X) (posts : Vec (Post K E) Global) (connections : ℕ) (before back : List D) (all : Bool) → copy ≡ s →
    (Done → (net : Network) (w : World) → Stands outside copy net w →
    Serves outside tell failed copy (record copy { posts = posts }) net w connections before back all) →
    Done → (net : Network) (w : World) → Stands outside s net w →
    Serves outside tell failed s (record s { posts = posts }) net w connections before back all
of_state {K} {Q} {E} {X} outside tell failed Done s copy posts connections before back all is h =
    subst
    (λ (x : State K Q E X). Done → (net : Network) (w : World) → Stands outside x net w →
    Serves outside tell failed x (record x { posts = posts }) net w connections before back all)
    is h

-- closing gives back as many machines as there are turnstiles

ends_long : {M Q A C : Type 0} {g : Ghosts M Q A C} (turn : M → Q → A → M → Type 0) (ts : List (Turnstile M Q A C)) (ps : List (Kept M Q A C g)) (ns : List M) → EndAll turn ts ps ns → length ns ≡ length ts
ends_long turn [] [] [] h = refl
ends_long turn [] [] (n ∷ ns) h = absurd h
ends_long turn [] (p ∷ ps) ns h = absurd h
ends_long turn (t ∷ ts) [] ns h = absurd h
ends_long turn (t ∷ ts) (p ∷ ps) [] h = absurd h
ends_long turn (t ∷ ts) (p ∷ ps) (n ∷ ns) h = ap suc (ends_long turn ts ps ns h.1)

pub closed_long : {M Q A C : Type 0} {g : Ghosts M Q A C} (turn : M → Q → A → M → Type 0) (ts : List (Turnstile M Q A C)) (ps : List (Kept M Q A C g)) (first rest after : List M) →
    Closes turn ts ps rest after → map first_of ts ++ reverse rest ≡ reverse first → length after ≡ length first
closed_long turn ts ps first rest after closed opened =
    let ended = ends_long turn ts ps closed.ended closed.ends in
    let behind = ap length closed.behind in
    let both = length-append rest (reverse closed.ended) in
    let turned = length-reverse closed.ended in
    let many = as_many_in ts first rest opened in
    omega (arith, ended, behind, both, turned, many)
