-- A world at rest is one of each network that follows.
use Rattle.std.proofs.Common.{◌≡◌, ℕ, ◌<◌, List, [], ◌∷◌, map, refl, sym, ◌∙◌, ap, subst, Some}
use Rattle.std.specs.Prelude.{slice_get}
use Rattle.qkd_base.specs.declared.lane.Lane.{Lane}
use Rattle.net_model.specs.declared.placing.Placing.{Placing}
use Rattle.net_model.specs.Site.{Site, outgoing_lanes}
use Rattle.net_model.specs.World.{Network, World, Volatile}
use Rattle.net_model.specs.View.{handed_at}
use Rattle.net_model.specs.Needed.{masked, view_of, port_at}
use Rattle.net_model.specs.Doubt.{MayReplay}
use Rattle.net_model.specs.Invariant.{Invariant, Conserved}
use Rattle.net_model.specs.Windows.{IsVolatile, IsPlaced}
use Rattle.law_base.proofs.Seen.{bare_view}
use Rattle.law_invariant.proofs.Volatiles.{nothing_kept}
use Rattle.net_model.specs.Fold.{recovered_view}
use Rattle.run_model.specs.Begin.{IsAtRest, MayBegin}
use Rattle.law_lives.specs.NextNetwork.{with_drawn, IsNextNetwork, GoesOnIn}

-- The counts of what is drawn are aside.
pub drawn_aside : (counts : ℕ → ℕ) (w : World) → IsAtRest w → IsAtRest (with_drawn counts w)
drawn_aside counts w r = record {
  down = r.down;
  certain = r.certain;
  unbroken = r.unbroken;
  empty = r.empty;
  noted = r.noted;
  linked = r.linked;
  claimed = r.claimed;
  put = r.put;
  framed = r.framed;
  wired = r.wired;
  owned = r.owned;
  recovered = r.recovered;
}

module _ (earlier later : Network) (drawn : ℕ → ℕ) (w : World) (h : IsNextNetwork earlier later drawn w) where
  abbrev after : World
  after = with_drawn drawn w

  port_same : (l : Lane) → port_at later after l ≡ port_at earlier w l
  port_same l = let blocks = h.blocks l in λ i. record (port_at earlier w l) { blocks = blocks i }

  ports_same : (ls : List Lane) → map (port_at later after) ls ≡ map (port_at earlier w) ls
  ports_same [] = refl
  ports_same (l ∷ ls) = let one = port_same l in let rest = ports_same ls in λ i. one i ∷ rest i

  all_ports : (v : ℕ) → map (port_at later after) (outgoing_lanes later.site v) ≡ map (port_at earlier w) (outgoing_lanes earlier.site v)
  all_ports v = ports_same (outgoing_lanes later.site v) ∙ ap (λ (s : Site). map (port_at earlier w) (outgoing_lanes s v)) h.site

  bare_same : (v : ℕ) → bare_view later after v ≡ bare_view earlier w v
  bare_same v =
      let ports = all_ports v in
      let site = h.site in
      λ i. record (bare_view earlier w v) { handed = handed_at (site i) v w.durable.handed; ports = ports i }

  sees_same : (v : ℕ) → view_of later after v ≡ view_of earlier w v
  unfolding view_of
  sees_same v = ap masked (bare_same v)

  module _ (rest : IsAtRest w) (c : Conserved earlier w) where
    none_kept : (v : ℕ) → IsVolatile later after v (w.volatile v)
    none_kept v = subst (λ (vol : Volatile). IsVolatile later after v vol) (sym (rest.empty v)) (nothing_kept later after v)

    none_placed : (v n : ℕ) (p : Placing) → slice_get (w.placings v) n ≡ Some p → IsPlaced later after v p
    none_placed v n p at = let none = rest.noted v in let no : slice_get {X = Placing} [] n ≡ Some p = ap (λ (ps : List Placing). slice_get ps n) (sym none) ∙ at in absurd (cc)

    pub goes_on : GoesOnIn earlier later drawn w
    goes_on = record {
      conserved = record {
        now = subst (λ (s : Site). Invariant s w.durable w.frames w.unclaimed) (sym h.site) c.now;
        doubts = λ v. subst (λ (s : Site). MayReplay s w.durable v (w.in_doubt v).batch) (sym h.site) (c.doubts v);
        doubtful = c.doubtful;
        resting = c.resting;
        volatile = none_kept;
        placed = none_placed;
        posted = c.posted;
        wired = c.wired;
        journals = c.journals;
        started = c.started;
        doubt_room = c.doubt_room;
        drawn = h.drawn;
        few_blocks = c.few_blocks;
        recovered = c.recovered;
      };
      sees = sees_same;
    }

-- The next life may begin there.
pub begins_next : (earlier later : Network) (counts : ℕ → ℕ) (w : World) → MayBegin earlier w → IsNextNetwork earlier later counts w → MayBegin later (with_drawn counts w)
begins_next earlier later counts w b h =
    let on = goes_on earlier later counts w h b.rest b.conserved in
    record {
      rest = drawn_aside counts w b.rest;
      conserved = on.conserved;
      given = λ v less.
          let g = b.given v (subst (λ (s : Site). v < s.nodes) h.site less) in
          (g.0, on.sees v ∙ g.1 ∙ ap (λ (s : Site). recovered_view s v g.0) (sym h.site));
    }
