-- A quiet node has no orders on the lanes that leave it.
use Rattle.std.proofs.Common.{◌≡◌, ℕ, zero, suc, ◌<◌, Bool, true, false, cond, ◌&&◌, List, [], ◌∷◌, refl, sym, ◌∙◌, ap, arith, inl, inr}
use Rattle.std.specs.Prelude.{◌==◌, nat_lt, map, filter, if◌then◌else◌}
use Rattle.std.specs.List.{list_all}
use Rattle.std.proofs.lemmas.Bool.{ltb-true}
use Rattle.std.proofs.lemmas.List.{map-append}
use Rattle.std.proofs.lemmas.List.Folds.{list_all-append}
use Rattle.std.proofs.lemmas.List.Elements.{filter-append}
use Rattle.qkd_base.specs.declared.lane.Way.{Way}
use Rattle.qkd_base.specs.declared.lane.Way.TheVariants.{Up, Down}
use Rattle.qkd_base.specs.declared.lane.Lane.{Lane}
use Rattle.net_model.specs.Premises.{IsSite}
use Rattle.net_model.specs.Site.{Site, sender, lane_of, count_up, outgoing_lane, is_incident, outgoing_lanes}
use Rattle.net_model.specs.World.{Network, World, Transmission}
use Rattle.net_model.specs.Journal.{is_nil}
use Rattle.net_model.specs.Start.{leaves}
use Rattle.net_model.specs.Step.{is_sent, is_quiet}
use Rattle.law_base.proofs.Base.{eq_from, eq_same, and_left, and_right, or_left, or_right, split, not_false}

-- A test that the lanes of all chosen links pass is passed by the lane of each chosen link.
all_lanes : (P : Lane → Bool) (f : ℕ → Lane) (p : ℕ → Bool) (n : ℕ) → list_all P (map f (filter p (count_up n))) ≡ true → (x : ℕ) → x < n → p x ≡ true →
    P (f x) ≡ true
all_lanes P f p zero h x below is = absurd (omega (arith, below))
all_lanes P f p (suc n) h x below is =
    let both : (list_all P (map f (filter p (count_up n))) && list_all P (map f (filter p (n ∷ [])))) ≡ true =
    sym (ap (λ (ys : List ℕ). list_all P (map f ys)) (filter-append p (count_up n) (n ∷ [])) ∙
    ap (list_all P) (map-append f (filter p (count_up n)) (filter p (n ∷ []))) ∙ list_all-append P (map f (filter p (count_up n))) (map f (filter p (n ∷ [])))) ∙ h in
    elim (split x n) [
      | inl less ↦ all_lanes P f p n (and_left (list_all P (map f (filter p (count_up n)))) _ both) x less is
      | inr (k, at) ↦
          let same : x ≡ n = omega (arith, at, below) in
          let last : list_all P (map f (filter p (n ∷ []))) ≡ true = and_right (list_all P (map f (filter p (count_up n)))) _ both in
          let here : p n ≡ true = ap p (sym same) ∙ is in
          let one : (P (f n) && true) ≡ true = sym (ap (λ (t : Bool). list_all P (map f (cond t (n ∷ []) []))) here) ∙ last in
          ap (λ (y : ℕ). P (f y)) same ∙ and_left (P (f n)) true one
    ]

no_orders : (unclaimed : List Transmission) → is_nil unclaimed ≡ true → unclaimed ≡ []
no_orders [] h = refl
no_orders (t ∷ ts) h = cc

record IsOutgoing (s : Site) (v : ℕ) (l : Lane) : Type 0 where
  incident : is_incident s v l.link ≡ true
  lane : outgoing_lane s v l.link ≡ l

-- Each lane that a node sends on is one of the lanes that leave it.
outgoing : (s : Site) → IsSite s → (v link : ℕ) (way : Way) → link < s.links → sender s (lane_of link way) ≡ v → IsOutgoing s v (lane_of link way)
outgoing s site v link Up below at =
    let low : (s.low link == v) ≡ true = ap (λ (n : ℕ). n == v) at ∙ eq_same v in
    record { incident = or_left (s.low link == v) (s.high link == v) low; lane = ap (λ (t : Bool). lane_of link (if t then Up else Down)) low }
outgoing s site v link Down below at =
    let high : (s.high link == v) ≡ true = ap (λ (n : ℕ). n == v) at ∙ eq_same v in
    let order = (site.ends link below).order in
    let low : (s.low link == v) ≡ false = not_false (s.low link == v) (λ e. let x = eq_from (s.low link) v e in omega (arith, x, at, order)) in
    record { incident = or_right (s.low link == v) (s.high link == v) high; lane = ap (λ (t : Bool). lane_of link (if t then Up else Down)) low }

pub quiet_lane : (net : Network) (w : World) (v : ℕ) → IsSite net.site → is_quiet net w v ≡ true → (l : Lane) → leaves net.site v l ≡ true → w.unclaimed l ≡ []
unfolding outgoing_lanes
quiet_lane net w v site quiet l h =
    let below : l.link < net.site.links = ltb-true l.link net.site.links (and_left (nat_lt l.link net.site.links) _ h) in
    let at : sender net.site l ≡ v = eq_from (sender net.site l) v (and_right (nat_lt l.link net.site.links) _ h) in
    let out = outgoing net.site site v l.link l.way below at in
    let sent : is_sent net w v ≡ true = and_left (is_sent net w v) _ quiet in
    let nil = all_lanes (λ k. is_nil (w.unclaimed k) && is_nil (w.outgoing k)) (outgoing_lane net.site v) (is_incident net.site v) net.site.links sent l.link below out.incident in
    let here : is_nil (w.unclaimed (outgoing_lane net.site v l.link)) ≡ true = and_left (is_nil (w.unclaimed (outgoing_lane net.site v l.link))) _ nil in
    no_orders (w.unclaimed l) (ap (λ (k : Lane). is_nil (w.unclaimed k)) (sym out.lane) ∙ here)
