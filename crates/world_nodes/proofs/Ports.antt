-- What a manager's view has of its end of a link.
use Rattle.std.proofs.Common.{◌≡◌, inl, inr, ℕ, zero, suc, ◌<◌, ◌≤◌, Bool, true, false, List, [], ◌∷◌, ◌++◌, map, refl, ap, subst, ◌∙◌, arith}
use Rattle.std.specs.Prelude.{◌==◌, filter, find, Option, Some, None, if◌then◌else◌}
use Rattle.std.specs.Option.{option_or}
use Rattle.std.proofs.lemmas.Bool.{cases_lt}
use Rattle.std.proofs.lemmas.Bool.Decides.{nat_tests}
use Rattle.std.proofs.lemmas.List.{map-append}
use Rattle.std.proofs.lemmas.List.Elements.{filter-append}
use Rattle.std.proofs.lemmas.List.Folds.{find-append}
use Rattle.net_model.specs.Site.{outgoing_lane, outgoing_lanes, is_incident, count_up}
use Rattle.net_model.specs.World.{Network, World}
use Rattle.net_model.specs.View.{Port, port_of, blocks_of}
use Rattle.net_model.specs.Needed.{view_of, masked, port_at}
use Rattle.net_model.specs.Handle.{blocks_at}
use Rattle.law_base.proofs.Base.{eq_same}
use Rattle.law_base.proofs.LaneBlocks.{count_blocks}

module _ (net : Network) (w : World) (v link : ℕ) (incident : is_incident net.site v link ≡ true) where
  abbrev is_here : Port → Bool
  is_here p = p.lane.link == link

  abbrev port : ℕ → Port
  port k = port_at net w (outgoing_lane net.site v k)

  abbrev ports : List ℕ → List Port
  ports ks = map (port_at net w) (map (outgoing_lane net.site v) (filter (is_incident net.site v) ks))

  split : (n : ℕ) → find is_here (ports (count_up n ++ n ∷ [])) ≡ option_or (find is_here (ports (count_up n))) (find is_here (ports (n ∷ [])))
  split n =
      ap (find is_here)
      (ap (λ (ks : List ℕ). map (port_at net w) (map (outgoing_lane net.site v) ks)) (filter-append (is_incident net.site v) (count_up n) (n ∷ []))
      ∙ ap (map (port_at net w)) (map-append (outgoing_lane net.site v) (filter (is_incident net.site v) (count_up n)) (filter (is_incident net.site v) (n ∷ [])))
      ∙ map-append (port_at net w) (map (outgoing_lane net.site v) (filter (is_incident net.site v) (count_up n))) (map (outgoing_lane net.site v) (filter (is_incident net.site v) (n ∷ []))))
      ∙ find-append is_here (ports (count_up n)) (ports (n ∷ []))

  other : (m : ℕ) → (m == link) ≡ false → find is_here (ports (m ∷ [])) ≡ None
  other m e =
      elim (is_incident net.site v m) as (λ t. find is_here (map (port_at net w) (map (outgoing_lane net.site v) (if t then m ∷ [] else []))) ≡ None) [
        | true ↦ ap (λ (t : Bool). if t then Some (port m) else None) e
        | false ↦ refl
      ]

  it : find is_here (ports (link ∷ [])) ≡ Some (port link)
  it =
      ap (λ (t : Bool). find is_here (map (port_at net w) (map (outgoing_lane net.site v) (if t then link ∷ [] else [])))) incident
      ∙ ap (λ (t : Bool). if t then Some (port link) else None) (eq_same link)

  none : (m : ℕ) → m ≤ link → find is_here (ports (count_up m)) ≡ None
  none zero few = refl
  none (suc m) few =
      let apart : (m == link) ≡ false = grind (arith, nat_tests) in
      split m ∙ ap (λ (o : Option Port). option_or o (find is_here (ports (m ∷ [])))) (none m (omega (arith, few))) ∙ other m apart

  found : (n : ℕ) → link < n → find is_here (ports (count_up n)) ≡ Some (port link)
  found zero more = absurd (omega (arith, more))
  found (suc n) more = elim (cases_lt link n) [
    | inl less ↦ split n ∙ ap (λ (o : Option Port). option_or o (find is_here (ports (n ∷ [])))) (found n less)
    | inr least ↦
        let same : link ≡ n = omega (arith, more, least) in
        subst (λ (k : ℕ). find is_here (ports (count_up k ++ k ∷ [])) ≡ Some (port link)) same
        (split link ∙ ap (λ (o : Option Port). option_or o (find is_here (ports (link ∷ [])))) (none link (omega arith)) ∙ it)
  ]

  -- A link that joins the node has an end there.
  pub port_there : link < net.site.links → port_of (view_of net w v) link ≡ Some (port link)
  unfolding view_of masked outgoing_lanes
  port_there below = found net.site.links below

  pub blocks_there : link < net.site.links → blocks_of (port_of (view_of net w v) link) ≡ blocks_at net w v link
  blocks_there below = ap blocks_of (port_there below) ∙ count_blocks (net.device link) (blocks_at net w v link)
