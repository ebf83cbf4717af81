-- Frames in order of lane: what their nodes are to note, and what is reported.
use Rattle.std.proofs.Common.{◌≡◌, ℕ, zero, suc, ◌+◌, ◌<◌, ◌≤◌, Bool, true, false, ◌&&◌, List, [], ◌∷◌, ◌++◌, map, refl, sym, ◌∙◌, ap, arith}
use Rattle.std.specs.Prelude.{◌==◌, ◌*◌, nat_lt, filter, if◌then◌else◌}
use Rattle.std.specs.List.{list_all, flat_map}
use Rattle.std.proofs.lemmas.Bool.{ltb-true}
use Rattle.std.proofs.lemmas.Bool.Decides.{nat_tests}
use Rattle.std.proofs.lemmas.List.{map-append}
use Rattle.std.proofs.lemmas.List.Elements.{filter-append}
use Rattle.std.proofs.lemmas.List.Folds.{list_all-append}
use Rattle.qkd_base.specs.Lane.{lane_eq, way_number}
use Rattle.qkd_base.specs.declared.lane.Way.TheVariants.{Up, Down}
use Rattle.qkd_base.specs.declared.lane.Lane.{Lane}
use Rattle.net_model.specs.declared.placing.Placing.{Placing}
use Rattle.net_model.specs.Events.{is_lane}
use Rattle.net_model.specs.Site.{Site, sender}
use Rattle.net_model.specs.BlockOrder.{lane_number, is_by_lane}
use Rattle.run_model.specs.Block.{PutDone, puts_on}
use Rattle.run_model.specs.Lines.{all_lanes}
use Rattle.law_base.proofs.Base.{and_both, and_left, and_right, lane_eq_from}
use Rattle.law_locality.proofs.Lists.{map_kept}
use Rattle.law_parallel.proofs.InOrder.{lanes_in_order}
use Rattle.law_parallel.proofs.Lanes.{are_on}
use Rattle.law_parallel.proofs.Reports.{on_its_lane}
use Rattle.par_lanes.specs.declared.emitted.Emitted.{Emitted}
use Rattle.par_frames.proofs.Rows.{lane_at, row, within, row_more, all_lanes_are}
use Rattle.par_frames.specs.Frames.{frame_done, frame_placing, on_lane, from_node}
use Rattle.par_frames.proofs.Lanes.{AllBelow, is_below}

abbrev lane_in : Emitted → Lane
lane_in e = e.lane

-- ---- all lanes are declared

module _ (s : Site) where
  abbrev pub AreDeclared : List Lane → Type 0
  AreDeclared ls = list_all (is_lane s) ls ≡ true

  rows_declared : (k : ℕ) → k ≤ 2 * s.links → AreDeclared (row 0 k)
  rows_declared zero h = refl
  rows_declared (suc k) h =
      let one : suc k ≡ k + 1 = omega arith in
      let same : 0 + k ≡ k = omega arith in
      ap (λ (n : ℕ). list_all (is_lane s) (row 0 n)) one ∙ ap (list_all (is_lane s)) (row_more 0 k) ∙ list_all-append (is_lane s) (row 0 k) (lane_at (0 + k) ∷ [])
      ∙ and_both (list_all (is_lane s) (row 0 k)) (is_lane s (lane_at (0 + k)) && true) (rows_declared k (omega (arith, h)))
      (and_both (is_lane s (lane_at (0 + k))) true (within s (0 + k) (omega (arith, h, same))) refl)

  pub all_declared : AreDeclared (all_lanes s)
  all_declared = ap (list_all (is_lane s)) (all_lanes_are s) ∙ rows_declared (2 * s.links) (omega arith)

  pub few : (l : Lane) → is_lane s l ≡ true → nat_lt (lane_number l) (2 * s.links) ≡ true
  few l at =
      let below = ltb-true l.link s.links at in
      elim l.way as (λ way. nat_lt (2 * l.link + way_number way) (2 * s.links) ≡ true) [ Up ↦ up l.link s.links below | Down ↦ down l.link s.links below ]
    where
      up : (a b : ℕ) → a < b → nat_lt (2 * a + 0) (2 * b) ≡ true
      up a b h = grind (arith, nat_tests)

      down : (a b : ℕ) → a < b → nat_lt (2 * a + 1) (2 * b) ≡ true
      down a b h = grind (arith, nat_tests)

  abbrev is_there : Emitted → Bool
  is_there e = is_lane s e.lane

  pub all_few : (put : List Emitted) → list_all is_there put ≡ true → AllBelow (2 * s.links) (map frame_done put)
  all_few [] h = refl
  all_few (e ∷ put) h =
      and_both (is_below (2 * s.links) (frame_done e)) (list_all (is_below (2 * s.links)) (map frame_done put)) (few e.lane (and_left (is_there e) (list_all is_there put) h))
      (all_few put (and_right (is_there e) (list_all is_there put) h))

  -- ---- what is made lane by lane, and node by node

  module _ (put : List Emitted) where
    abbrev mine : Lane → List Emitted
    mine l = on_lane l put

    one_there : (l : Lane) → is_lane s l ≡ true → (es : List Emitted) → list_all is_there (on_lane l es) ≡ true
    one_there l at [] = refl
    one_there l at (e ∷ es) = elim (lane_eq e.lane l) as (λ t. lane_eq e.lane l ≡ t → list_all is_there (if t then e ∷ on_lane l es else on_lane l es) ≡ true) [
      | true ↦ λ is. and_both (is_there e) (list_all is_there (on_lane l es)) (ap (is_lane s) (lane_eq_from e.lane l is) ∙ at) (one_there l at es)
      | false ↦ λ is. one_there l at es
    ] refl

    each_there : (ls : List Lane) → AreDeclared ls → list_all is_there (flat_map mine ls) ≡ true
    each_there [] h = refl
    each_there (l ∷ ls) h =
        list_all-append is_there (mine l) (flat_map mine ls)
        ∙ and_both (list_all is_there (mine l)) (list_all is_there (flat_map mine ls)) (one_there l (and_left (is_lane s l) (list_all (is_lane s) ls) h) put)
        (each_there ls (and_right (is_lane s l) (list_all (is_lane s) ls) h))

    -- the frames that leave one node
    module _ (v : ℕ) where
      abbrev leaves : Lane → Bool
      leaves l = sender s l == v

      of_lane : (l : Lane) (es : List Emitted) → from_node s v (on_lane l es) ≡ (if leaves l then on_lane l es else [])
      of_lane l [] = elim (leaves l) as (λ t. ◌≡◌ {A = List Emitted} [] (if t then [] else [])) [ true ↦ refl | false ↦ refl ]
      of_lane l (e ∷ es) =
          elim (lane_eq e.lane l) as (λ t. lane_eq e.lane l ≡ t → from_node s v (if t then e ∷ on_lane l es else on_lane l es) ≡ (if leaves l then (if t then e ∷ on_lane l es else on_lane l es) else [])) [
            | true ↦ λ is.
                ap (λ (k : Lane). if leaves k then e ∷ from_node s v (on_lane l es) else from_node s v (on_lane l es)) (lane_eq_from e.lane l is)
                ∙ (elim (leaves l) as (λ t. from_node s v (on_lane l es) ≡ (if t then on_lane l es else []) → (if t then e ∷ from_node s v (on_lane l es) else from_node s v (on_lane l es)) ≡ (if t then e ∷ on_lane l es else [])) [
                  | true ↦ λ rest. ap (λ (xs : List Emitted). e ∷ xs) rest
                  | false ↦ λ rest. rest
                ] (of_lane l es))
            | false ↦ λ is. of_lane l es
          ] refl

      of_lanes : (ls : List Lane) → from_node s v (flat_map mine ls) ≡ flat_map mine (filter leaves ls)
      of_lanes [] = refl
      of_lanes (l ∷ ls) =
          filter-append (λ (e : Emitted). leaves e.lane) (mine l) (flat_map mine ls)
          ∙ (λ i. of_lane l put i ++ of_lanes ls i)
          ∙ (elim (leaves l) as (λ t. (if t then mine l else []) ++ flat_map mine (filter leaves ls) ≡ flat_map mine (if t then l ∷ filter leaves ls else filter leaves ls)) [ true ↦ refl | false ↦ refl ])

      module _ (notes : Lane → List Placing) (are : (l : Lane) → is_lane s l ≡ true → map frame_placing (mine l) ≡ notes l) where
        noted_on : (ls : List Lane) → AreDeclared ls → map frame_placing (flat_map mine (filter leaves ls)) ≡ flat_map notes (filter leaves ls)
        noted_on [] h = refl
        noted_on (l ∷ ls) h =
            let rest = noted_on ls (and_right (is_lane s l) (list_all (is_lane s) ls) h) in
            let one = are l (and_left (is_lane s l) (list_all (is_lane s) ls) h) in
            elim (leaves l) as (λ t. map frame_placing (flat_map mine (if t then l ∷ filter leaves ls else filter leaves ls)) ≡ flat_map notes (if t then l ∷ filter leaves ls else filter leaves ls)) [
              | true ↦ map-append frame_placing (mine l) (flat_map mine (filter leaves ls)) ∙ λ i. one i ++ rest i
              | false ↦ rest
            ]

    -- the reports of the frames
    module _ (reported : Lane → List PutDone) (are : (l : Lane) → is_lane s l ≡ true → map frame_done (mine l) ≡ reported l) where
      one_reported : (l : Lane) → is_lane s l ≡ true → puts_on (map frame_done put) l ≡ puts_on (reported l) l
      one_reported l at =
          on_its_lane l (map frame_done put) ∙ ap (λ (ds : List PutDone). puts_on ds l) (map_kept (λ (d : PutDone). lane_eq d.lane l) frame_done put ∙ are l at)

      each_reported : (ls : List Lane) → AreDeclared ls → flat_map (puts_on (map frame_done put)) ls ≡ flat_map (λ l. puts_on (reported l) l) ls
      each_reported [] h = refl
      each_reported (l ∷ ls) h =
          let one = one_reported l (and_left (is_lane s l) (list_all (is_lane s) ls) h) in
          let rest = each_reported ls (and_right (is_lane s l) (list_all (is_lane s) ls) h) in
          λ i. one i ++ rest i

      pub all_reported : flat_map (puts_on (map frame_done put)) (all_lanes s) ≡ flat_map (λ l. puts_on (reported l) l) (all_lanes s)
      all_reported = each_reported (all_lanes s) all_declared

    module _ (in_lanes : put ≡ flat_map (λ l. on_lane l put) (all_lanes s)) where
      pub lanes_there : list_all (λ (e : Emitted). is_lane s e.lane) put ≡ true
      lanes_there = ap (list_all is_there) in_lanes ∙ each_there (all_lanes s) all_declared

      pub in_order : is_by_lane (map (λ (e : Emitted). e.lane) put) ≡ true
      in_order = ap (λ (es : List Emitted). is_by_lane (map lane_in es)) in_lanes ∙ lanes_in_order lane_in mine (λ l. are_on lane_in l put) s

      pub noted_by_nodes : (notes : Lane → List Placing) → ((l : Lane) → is_lane s l ≡ true → map frame_placing (on_lane l put) ≡ notes l) → (v : ℕ) →
          flat_map notes (filter (λ (l : Lane). sender s l == v) (all_lanes s)) ≡ map frame_placing (from_node s v put)
      noted_by_nodes notes are v =
          sym (ap (λ (es : List Emitted). map frame_placing (from_node s v es)) in_lanes ∙ ap (map frame_placing) (of_lanes v (all_lanes s)) ∙ noted_on v notes are (all_lanes s) all_declared)
