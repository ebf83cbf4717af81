-- A plan repeats each frame at most once.
use Rattle.std.proofs.Common.{◌≡◌, ℕ, ◌+◌, ◌≤◌, Bool, true, false, ◌&&◌, List, [], ◌∷◌, map, refl, ◌∙◌, ap, arith}
use Rattle.std.specs.Prelude.{◌==◌, nat_lt, count_by, filter, if◌then◌else◌}
use Rattle.std.specs.List.{AllByRecursion}
use Rattle.qkd_base.specs.Lane.{lane_eq}
use Rattle.qkd_base.specs.declared.lane.Lane.{Lane}
use Rattle.net_model.specs.World.{Network, World, Entry}
use Rattle.net_model.specs.Invariant.{Conserved}
use Rattle.net_model.specs.Window.{insert_entry, by_offset, repeats_on}
use Rattle.net_model.specs.Windows.{place_of}
use Rattle.law_locality.proofs.Counting.{one_if, count_more}
use Rattle.law_invariant.proofs.Entries.{age_keeps}
use Rattle.law_invariant.proofs.Outgoing.{outgoing_each}
use Rattle.law_locality.proofs.Again.{aged, IsOn, lane_repeats}
use Rattle.law_locality.proofs.Plans.{lanes, entries}
use Rattle.law_parallel.proofs.ByLane.{once_by_lane}
use Rattle.law_parallel.proofs.Counting.{count-map, count_fewer, count_taken, one_false}
use Rattle.law_parallel.proofs.Differing.{is_at, place_once}

module _ (p : Entry → Bool) where
  count_inserted : (e : Entry) (es : List Entry) → count_by p (insert_entry e es) ≡ one_if (p e) + count_by p es
  count_inserted e [] = count_more p e []
  count_inserted e (x ∷ xs) =
      elim (nat_lt e.offset x.offset) as (λ t. count_by p (if t then e ∷ x ∷ xs else x ∷ insert_entry e xs) ≡ one_if (p e) + count_by p (x ∷ xs)) [
        | true ↦ count_more p e (x ∷ xs)
        | false ↦
            let rest = count_inserted e xs in
            let one = count_more p x (insert_entry e xs) in
            let two = count_more p x xs in
            omega (arith, rest, one, two)
      ]

  count_sorted : (es : List Entry) → count_by p (by_offset es) ≡ count_by p es
  count_sorted [] = refl
  count_sorted (e ∷ es) =
      let rest = count_sorted es in
      let one = count_inserted e (by_offset es) in
      let two = count_more p e es in
      omega (arith, rest, one, two)

  repeats_fewer : (window : List Entry) (l : Lane) → count_by p (repeats_on window l) ≤ count_by p window
  unfolding repeats_on
  repeats_fewer window l =
      let due : Entry → Bool = λ e. lane_eq e.transmission.lane l && e.due in
      let one = count_taken p 16 (by_offset (filter due window)) in
      let two = count_sorted (filter due window) in
      let three = count_fewer due p window in
      omega (arith, one, two, three)

module _ (net : Network) (w : World) (v : ℕ) (c : Conserved net w) (q : Lane × ℕ) where
  abbrev stands : Entry → Bool
  stands e = is_at q (place_of e)

  none_there : (l : Lane) → lane_eq l q.0 ≡ false → (es : List Entry) → AllByRecursion (IsOn net w v c l) es → count_by stands es ≡ 0
  none_there l away [] h = refl
  none_there l away (e ∷ es) h =
      let rest = none_there l away es h.1 in
      let more = count_more stands e es in
      let none = one_false (stands e) (ap (λ (k : Lane). lane_eq k q.0 && (e.offset == q.1)) h.0.lane ∙ ap (λ (b : Bool). b && (e.offset == q.1)) away) in
      omega (arith, rest, more, none)

  pub repeat_once : count_by stands (entries net w v) ≤ 1
  repeat_once =
      once_by_lane (repeats_on (aged w v)) stands q.0 (λ l away. none_there l away (repeats_on (aged w v) l) (lane_repeats net w v c l)) here net.site v (lanes net w v)
      (outgoing_each net.site v (λ (l : Lane). w.link_up l.link))
    where
      here : count_by stands (repeats_on (aged w v) q.0) ≤ 1
      here =
          let fewer = repeats_fewer stands (aged w v) q.0 in
          let mapped = count-map (is_at q) place_of (aged w v) in
          let once = place_once q (map place_of (aged w v)) (age_keeps net w v (w.volatile v) (c.volatile v)).places in
          omega (arith, fewer, mapped, once)
