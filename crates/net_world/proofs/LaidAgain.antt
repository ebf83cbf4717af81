-- The state that is laid out again, once its lanes went on.
use Rattle.std.proofs.Common.{◌≡◌, ◌⊎◌, inl, inr, ℕ, zero, suc, ◌+◌, ◌*◌, ◌<◌, List, length, take, refl, sym, ap, subst, ◌∙◌, arith, Some}
use Rattle.std.specs.Prelude.{slice_get}
use Rattle.std.specs.Option.{option_map}
use Rattle.qkd_base.specs.declared.lane.Way.TheVariants.{Up, Down}
use Rattle.qkd_base.specs.declared.lane.Lane.{Lane}
use Rattle.declared_site.specs.SiteOf.{IsDeclared, site_of}
use Rattle.declared_site.specs.declared.site.Site.{Site as Declared}
use Rattle.declared_site.proofs.Sites.{is_site}
use Rattle.lane_sender.specs.Lane.{LaneForm}
use Rattle.net_model.specs.Premises.{IsSite}
use Rattle.world_state.specs.Sized.{IsSized}
use Rattle.world_state.specs.Stands.{place_of}
use Rattle.world_state.specs.declared.state.State.{State}
use Rattle.net_world.specs.Laid.{IsWhole, IsLaidOut, without_bytes}
use Rattle.net_world.specs.Kept.{going_on, WentOn, IsLaidAgain}
use Rattle.net_world.specs.declared.bench.Bench.{Bench}
use Rattle.net_world.specs.declared.kept_lane.KeptLane.{KeptLane}
use Rattle.net_world.proofs.Firsts.{taken_length, unstarted_length}
use Rattle.net_world.proofs.Lists.{mapped, there, within}
use Rattle.net_world.proofs.Told.{pair_place}

halves : (p : ℕ) → (n : ℕ) × ((p ≡ 2 * n + 0) ⊎ (p ≡ 2 * n + 1))
halves zero = (0, inl refl)
halves (suc zero) = (0, inr refl)
halves (suc (suc p)) = let h = halves p in (suc h.0, more h.0 h.1)
  where
    more : (n : ℕ) → (p ≡ 2 * n + 0) ⊎ (p ≡ 2 * n + 1) → (suc (suc p) ≡ 2 * suc n + 0) ⊎ (suc (suc p) ≡ 2 * suc n + 1)
    more n (inl is) = inl (omega (arith, is))
    more n (inr is) = inr (omega (arith, is))

module _ {K Q E X : Type 0} (old stayed : Bench K Q E X) (site : Declared) (fresh : State K Q E X) (laid : IsLaidOut old stayed site fresh) where
  empty_by : (l : Lane) (side : LaneForm X) → l.link < (site_of site).links → slice_get fresh.lanes.items (place_of l) ≡ Some side → side ≡ without_bytes side.lane side.wire
  empty_by l side below at =
      let m = mapped (without_bytes l) (slice_get old.wires.items (place_of l)) side (sym (laid.lanes l below) ∙ at) in
      subst (λ (s : LaneForm X). s ≡ without_bytes s.lane s.wire) (sym m.2) refl

  pub all_empty : (p : ℕ) (side : LaneForm X) → slice_get fresh.lanes.items p ≡ Some side → side ≡ without_bytes side.lane side.wire
  all_empty p side at = by (halves p).0 (halves p).1
    where
      inside : p < 2 * (site_of site).links
      inside = let low = within fresh.lanes.items p side at in omega (arith, low, laid.sides)

      by : (n : ℕ) → (p ≡ 2 * n + 0) ⊎ (p ≡ 2 * n + 1) → side ≡ without_bytes side.lane side.wire
      by n (inl is) = empty_by (record { link = n; way = Up }) side (omega (arith, is, inside)) (ap (slice_get fresh.lanes.items) (sym is) ∙ at)
      by n (inr is) = empty_by (record { link = n; way = Down }) side (omega (arith, is, inside)) (ap (slice_get fresh.lanes.items) (sym is) ∙ at)

  pub sized_laid : IsDeclared site → IsWhole old → (s : State K Q E X) → s.site ≡ fresh.site → s.posts ≡ fresh.posts → s.devices ≡ fresh.devices → length s.lanes.items ≡ length fresh.lanes.items → IsSized s
  sized_laid declared whole s sited posts devices sides =
      let nodes = (site_of site).nodes in
      let links = (site_of site).links in
      let limits : IsSite (site_of site) = is_site site declared in
      let same : site ≡ s.site = sym (sited ∙ laid.sited) in
      record {
        nodes = ap (λ ps. length ps.items) posts ∙ ap length laid.posts ∙ unstarted_length (take nodes old.disks.items) (take nodes old.entropies.items) nodes
            (taken_length nodes old.disks.items (omega (arith, limits.nodes, whole.disks))) (taken_length nodes old.entropies.items (omega (arith, limits.nodes, whole.entropies)))
            ∙ ap (λ d. (site_of d).nodes) same;
        sides = sides ∙ laid.sides ∙ ap (λ d. 2 * (site_of d).links) same;
        links = ap (λ qs. length qs.items) devices ∙ ap length laid.devices ∙ taken_length links old.devices.items (omega (arith, limits.links, whole.devices)) ∙ ap (λ d. (site_of d).links) same;
      }

  pub laid_again : (kept : List KeptLane) (s : State K Q E X) → s.site ≡ fresh.site → s.posts ≡ fresh.posts → s.devices ≡ fresh.devices → s.up ≡ fresh.up → length s.lanes.items ≡ length fresh.lanes.items →
      ((place : ℕ) (side : LaneForm X) → slice_get s.lanes.items place ≡ Some side → WentOn kept fresh.lanes.items place side) → IsLaidAgain old stayed site kept s
  laid_again kept s sited posts devices up sides went = record {
    fresh = fresh;
    laid = laid;
    sited = sited;
    posts = ap (λ xs. xs.items) posts;
    devices = ap (λ xs. xs.items) devices;
    up = up;
    sides = sides;
    lanes = λ l below.
        let place = pair_place (site_of site).links l below in
        let now = there s.lanes.items (place_of l) (omega (arith, place, sides, laid.sides)) in
        let w = went (place_of l) now.0 now.1 in
        let m = mapped (without_bytes l) (slice_get old.wires.items (place_of l)) w.before (sym (laid.lanes l below) ∙ w.at) in
        now.1 ∙ ap Some (w.is ∙ ap (λ (b : LaneForm X). going_on b.lane (slice_get kept (place_of l)) b.wire) m.2) ∙ sym (ap (option_map (going_on l (slice_get kept (place_of l)))) m.1);
  }
