-- The bench has room for the parts of a run, and no disk was armed before it.
use Rattle.std.proofs.Common.{◌≡◌, ℕ, zero, suc, ◌*◌, ◌≤◌, List, [], ◌∷◌, ◌++◌, map, length, take, drop, refl, sym, ap, ◌∙◌, arith, Some}
use Rattle.std.specs.Prelude.{max}
use Rattle.std.specs.List.{All}
use Rattle.std.proofs.lemmas.List.{length-map, length-append, length-drop, map-id}
use Rattle.net_model.specs.World.{first}
use Rattle.net_model.specs.Premises.{IsSite}
use Rattle.declared_site.specs.SiteOf.{site_of, IsDeclared}
use Rattle.declared_site.specs.declared.site.Site.{Site as Declared}
use Rattle.declared_site.proofs.Sites.{is_site}
use Rattle.run_ops.specs.Quiet.{IsQuiet}
use Rattle.world_state.specs.Armed.{most_armed}
use Rattle.world_state.specs.declared.state.State.{State}
use Rattle.lane_sender.specs.Lane.{LaneForm}
use Rattle.world_state.specs.Passed.{disk_of, entropy_of}
use Rattle.net_world.specs.Laid.{unstarted, IsWhole, IsLaidOut, IsPutBack, HasRoomFor}
use Rattle.net_world.specs.declared.bench.Bench.{Bench}
use Rattle.world_state.specs.Sized.{IsSized}
use Rattle.disk_model.specs.declared.disk.Disk as Disk

pub has_room : {K Q E X : Type 0} (b : Bench K Q E X) (old new : State K Q E X) → IsSized old → IsSized new → new.site ≡ old.site → HasRoomFor b old → HasRoomFor b new
has_room b old new before after same room =
    let nodes : length new.posts.items ≡ length old.posts.items = after.nodes ∙ ap (λ s. (site_of s).nodes) same ∙ sym before.nodes in
    let sides : length new.lanes.items ≡ length old.lanes.items = after.sides ∙ ap (λ s. 2 * (site_of s).links) same ∙ sym before.sides in
    let links : length new.devices.items ≡ length old.devices.items = after.links ∙ ap (λ s. (site_of s).links) same ∙ sym before.links in
    record {
      disks = omega (arith, room.disks, nodes);
      entropies = omega (arith, room.entropies, nodes);
      devices = omega (arith, room.devices, links);
      wires = omega (arith, room.wires, sides);
    }

pub none_armed : {K E : Type 0} (disk_says : Disk.Ghosts K) (n m : ℕ) (ks : List K) (es : List E) → All (λ k. (disk_says.armings k).count ≡ 0) ks →
    most_armed disk_says (unstarted (take n ks) (take m es)) ≡ 0
none_armed disk_says zero m ks es h = refl
none_armed disk_says (suc n) m [] es h = refl
none_armed disk_says (suc n) zero (k ∷ ks) es h = refl
none_armed disk_says (suc n) (suc m) (k ∷ ks) [] h = refl
none_armed disk_says (suc n) (suc m) (k ∷ ks) (e ∷ es) h =
    ap (λ c. max c (most_armed disk_says (unstarted (take n ks) (take m es)))) (h zero k (omega arith)) ∙ ap (λ c. max 0 c) (none_armed disk_says n m ks es (λ i x below. h (suc i) x (omega (arith, below))))

pub first_is_quiet : IsQuiet first
unfolding first
first_is_quiet = record { claimed = λ l. refl; put = λ l. refl; noted = λ v. refl }

-- if the first items of a list leave and come back, its length is as before
after : {A B C : Type 0} (mark : A → C) (of : B → C) (new old stayed : List A) (parts : List B) (n : ℕ) → map mark new ≡ map of parts ++ map mark stayed →
    length parts ≡ n → stayed ≡ drop n old → n ≤ length old → length new ≡ length old
after mark of new old stayed parts n is count rest within =
    sym (length-map new mark) ∙ ap length is ∙
    omega (arith, length-append (map of parts) (map mark stayed), length-map parts of, length-map stayed mark, count, ap length rest ∙ length-drop n old, within)

after_own : {A B : Type 0} (of : B → A) (new old stayed : List A) (parts : List B) (n : ℕ) → new ≡ map of parts ++ stayed →
    length parts ≡ n → stayed ≡ drop n old → n ≤ length old → length new ≡ length old
after_own of new old stayed parts n is count rest within =
    ap length is ∙ omega (arith, length-append (map of parts) stayed, length-map parts of, count, ap length rest ∙ length-drop n old, within)

-- the bench is whole again after the run
pub whole_again : {K Q E X : Type 0} (disk_says : Disk.Ghosts K)
    (old stayed new : Bench K Q E X) (site : Declared) (begin end : State K Q E X) → IsDeclared site → IsWhole old → IsLaidOut old stayed site begin → IsSized end → end.site ≡ site →
    IsPutBack disk_says end stayed new → IsWhole new
whole_again {X = X} disk_says old stayed new site begin end declared whole laid sized same back =
    let limits : IsSite (site_of site) = is_site site declared in
    let nodes : length end.posts.items ≡ (site_of site).nodes = sized.nodes ∙ ap (λ s. (site_of s).nodes) same in
    let sides : length end.lanes.items ≡ 2 * (site_of site).links = sized.sides ∙ ap (λ s. 2 * (site_of s).links) same in
    let links : length end.devices.items ≡ (site_of site).links = sized.links ∙ ap (λ s. (site_of s).links) same in
    record {
      disks = after Some disk_of new.disks.items old.disks.items stayed.disks.items end.posts.items (site_of site).nodes back.disks nodes laid.other_disks (omega (arith, whole.disks, limits.nodes)) ∙ whole.disks;
      entropies = after_own entropy_of new.entropies.items old.entropies.items stayed.entropies.items end.posts.items (site_of site).nodes back.entropies nodes laid.other_entropies
          (omega (arith, whole.entropies, limits.nodes)) ∙ whole.entropies;
      devices = after_own (λ q. q) new.devices.items old.devices.items stayed.devices.items end.devices.items (site_of site).links
          (back.devices ∙ ap (λ qs. qs ++ stayed.devices.items) (sym (map-id end.devices.items))) links laid.other_devices (omega (arith, whole.devices, limits.links)) ∙ whole.devices;
      wires = after_own (λ (side : LaneForm X). side.wire) new.wires.items old.wires.items stayed.wires.items end.lanes.items (2 * (site_of site).links) back.wires sides laid.other_wires
          (omega (arith, whole.wires, limits.links)) ∙ whole.wires;
    }
