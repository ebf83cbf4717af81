-- What a node sees of a world is what it knows there, but for bytes that it doesn't need.
use Rattle.std.proofs.Common.{◌≡◌, ℕ, Bool, true, false, ◌&&◌, List, [], ◌∷◌, map, refl, sym, ◌∙◌, ap, Some, inl, inr}
use Rattle.std.specs.Prelude.{◌==◌, if◌then◌else◌}
use Rattle.qkd_base.specs.Name.{Name, name_eq, has}
use Rattle.net_model.specs.declared.fact.Fact.{Fact}
use Rattle.net_model.specs.Table.{without_bytes, fact_at, was_handed}
use Rattle.net_model.specs.Site.{Site, outgoing_lanes}
use Rattle.net_model.specs.World.{Network, World}
use Rattle.net_model.specs.View.{View, handed_at}
use Rattle.net_model.specs.Needed.{is_needed, masked, masked_fact, view_of, port_at}
use Rattle.law_base.proofs.Base.{eq_from, and_right, or_cases, or_left, or_right}
use Rattle.law_base.proofs.Blind.{shape_blind, needed_blind, needed_alike, masked_alike}
use Rattle.law_base.proofs.Masked.{masked_same}
use Rattle.law_base.proofs.Seen.{seen_at, seen_there, bare_view, view_sees, view_me}
use Rattle.law_lives.proofs.LikeFacts.{AreAlike, alike_same}

-- What a filter keeps of handings passes its test.
pub handed_home : (s : Site) (v : ℕ) (hs : List (Name × ℕ)) (n : Name) (sae : ℕ) → was_handed (handed_at s v hs) n sae ≡ true → (s.home sae ≡ v) × (was_handed hs n sae ≡ true)
handed_home s v [] n sae h = cc
handed_home s v (x ∷ hs) n sae h =
    elim (s.home x.1 == v) as (λ t. (s.home x.1 == v) ≡ t → was_handed (if t then x ∷ handed_at s v hs else handed_at s v hs) n sae ≡ true → (s.home sae ≡ v) × (was_handed (x ∷ hs) n sae ≡ true)) [
      | false ↦ λ e k. let r = handed_home s v hs n sae k in (r.0, or_right (name_eq x.0 n && (x.1 == sae)) (was_handed hs n sae) r.1)
      | true ↦ λ e k. elim (or_cases (name_eq x.0 n && (x.1 == sae)) (was_handed (handed_at s v hs) n sae) k) [
        | inl first ↦
            let is : x.1 ≡ sae = eq_from x.1 sae (and_right (name_eq x.0 n) (x.1 == sae) first) in
            (ap s.home (sym is) ∙ eq_from (s.home x.1) v e, or_left (name_eq x.0 n && (x.1 == sae)) (was_handed hs n sae) first)
        | inr later ↦ let r = handed_home s v hs n sae later in (r.0, or_right (name_eq x.0 n && (x.1 == sae)) (was_handed hs n sae) r.1)
      ]
    ] refl h

module _ (net : Network) (w : World) (v : ℕ) where
  abbrev T : List Fact
  T = w.durable.facts

  -- A node's fact is the world's, but for bytes.
  pub record IsSeenAs (n : Name) (f : Fact) : Type 0 where
    pub fact : Fact
    pub there : fact_at T n ≡ Some fact
    pub knows : has (w.durable.known v) n ≡ true
    pub alike : AreAlike f fact
    pub is : f ≡ masked_fact (bare_view net w v) fact

  pub seen_as : (n : Name) (f : Fact) → fact_at (view_of net w v).facts n ≡ Some f → IsSeenAs n f
  seen_as n f h =
      let r = seen_at net.site w.durable (view_of net w v) (bare_view net w v) (view_sees net w v) n f h in
      let x = r.1 in
      record {
        fact = x.fact;
        there = ap (fact_at T) (sym r.0) ∙ x.there;
        knows = ap (λ (u : ℕ). has (w.durable.known u) n) (sym (view_me net w v)) ∙ ap (has (w.durable.known (view_of net w v).me)) (sym r.0) ∙ x.knows;
        alike = ap without_bytes x.is ∙ masked_same without_bytes shape_blind (bare_view net w v) x.fact;
        is = x.is;
      }

  pub shown_as : (n : Name) (g : Fact) → fact_at T n ≡ Some g → has (w.durable.known v) n ≡ true → fact_at (view_of net w v).facts n ≡ Some (masked_fact (bare_view net w v) g)
  shown_as n g e h =
      seen_there net.site w.durable (view_of net w v) (bare_view net w v) (view_sees net w v) n g e (ap (λ (u : ℕ). has (w.durable.known u) n) (view_me net w v) ∙ h)

  view_masked : view_of net w v ≡ masked (bare_view net w v)
  unfolding view_of
  view_masked = refl

  need_bare : (f : Fact) → is_needed (view_of net w v) f ≡ true → is_needed (bare_view net w v) f ≡ true
  need_bare f h =
      let bare : View = bare_view net w v in
      sym (needed_alike (masked bare) bare f (masked_alike bare)) ∙ ap (λ (y : View). is_needed y f) (sym view_masked) ∙ h

  -- Where a node needs the bytes of its fact, that is the world's.
  pub needed_as : (n : Name) (f : Fact) (x : IsSeenAs n f) → is_needed (view_of net w v) f ≡ true → f ≡ x.fact
  needed_as n f x h =
      let bare : View = bare_view net w v in
      let need : is_needed bare x.fact ≡ true = sym (alike_same (is_needed bare) (needed_blind bare) f x.fact x.alike) ∙ need_bare f h in
      x.is ∙ ap (λ (t : Bool). if t then x.fact else without_bytes x.fact) need

  pub shown_needed : (n : Name) (f : Fact) → fact_at T n ≡ Some f → has (w.durable.known v) n ≡ true → is_needed (view_of net w v) f ≡ true → fact_at (view_of net w v).facts n ≡ Some f
  shown_needed n f there knows h = shown_as n f there knows ∙ ap (λ (t : Bool). Some (if t then f else without_bytes f)) (need_bare f h)

  pub view_acked : (view_of net w v).acked ≡ w.durable.acked v
  unfolding view_of masked
  view_acked = refl

  pub view_closed : (view_of net w v).closed ≡ w.durable.closed v
  unfolding view_of masked
  view_closed = refl

  pub view_handed : (view_of net w v).handed ≡ handed_at net.site v w.durable.handed
  unfolding view_of masked
  view_handed = refl

  pub view_ports : (view_of net w v).ports ≡ map (port_at net w) (outgoing_lanes net.site v)
  unfolding view_of masked
  view_ports = refl
