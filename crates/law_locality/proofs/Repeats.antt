-- A plan repeats only frames on lanes that leave its node.
use Rattle.std.proofs.Common.{◌≡◌, ◌≢◌, ℕ, zero, suc, true, false, ◌&&◌, List, [], ◌∷◌, ◌++◌, refl, sym, ◌∙◌, ap, subst, append-nil}
use Rattle.std.specs.Prelude.{nat_lt, map, filter, take, if◌then◌else◌}
use Rattle.std.specs.List.{flat_map, AllByRecursion}
use Rattle.qkd_base.specs.Lane.{lane_eq}
use Rattle.qkd_base.specs.declared.lane.Lane.{Lane}
use Rattle.net_model.specs.Site.{Site, sender}
use Rattle.net_model.specs.World.{Network, World, Allocation, Entry, Outgoing}
use Rattle.net_model.specs.View.{Port}
use Rattle.net_model.specs.Needed.{view_of}
use Rattle.net_model.specs.Handle.{outgoing_repeat, with_repeats}
use Rattle.net_model.specs.Window.{age, insert_entry, by_offset, repeats_on}
use Rattle.net_model.specs.Plan.{plan}
use Rattle.net_model.specs.Invariant.{Conserved}
use Rattle.law_base.proofs.Base.{lane_eq_from, not_false}
use Rattle.law_base.proofs.Lists.{all_both, all_kept, all_from}
use Rattle.law_base.proofs.Seen.{view_volatile}
use Rattle.law_invariant.proofs.Entries.{age_keeps}

-- What holds of all window entries holds of those that are sent again.

all_taken : {A : Type 0} (P : A → Type 0) (n : ℕ) (xs : List A) → AllByRecursion P xs → AllByRecursion P (take n xs)
all_taken P zero xs h = tt
all_taken P (suc n) [] h = tt
all_taken P (suc n) (x ∷ xs) h = (h.0, all_taken P n xs h.1)

module _ (P : Entry → Type 0) where
  inserted : (e : Entry) (es : List Entry) → P e → AllByRecursion P es → AllByRecursion P (insert_entry e es)
  inserted e [] p h = (p, tt)
  inserted e (x ∷ xs) p h = elim (nat_lt e.offset x.offset) as (λ t. AllByRecursion P (if t then e ∷ x ∷ xs else x ∷ insert_entry e xs)) [
    | true ↦ (p, h)
    | false ↦ (h.0, inserted e xs p h.1)
  ]

  sorted : (es : List Entry) → AllByRecursion P es → AllByRecursion P (by_offset es)
  sorted [] h = tt
  sorted (e ∷ es) h = inserted e (by_offset es) h.0 (sorted es h.1)

  all_repeated : (window : List Entry) (ps : List Port) → AllByRecursion P window → AllByRecursion P (flat_map (λ (p : Port). repeats_on window p.lane) ps)
  unfolding repeats_on
  all_repeated window [] h = tt
  all_repeated window (p ∷ ps) h =
      all_both P (repeats_on window p.lane) _ (all_taken P 16 _ (sorted _ (all_kept P (λ e. lane_eq e.transmission.lane p.lane && e.due) window h))) (all_repeated window ps h)

abbrev pub IsOf : Site → ℕ → Entry → Type 0
IsOf s v e = sender s e.transmission.lane ≡ v

pub plan_repeats_of : (net : Network) (w : World) (v : ℕ) → Conserved net w → AllByRecursion (IsOf net.site v) (plan net.site w.link_up (view_of net w v)).repeats
unfolding plan
plan_repeats_of net w v c =
    let mine : AllByRecursion (IsOf net.site v) (map age (w.volatile v).window) =
    all_from (IsOf net.site v) (map age (w.volatile v).window) (λ n e at. ((age_keeps net w v (w.volatile v) (c.volatile v)).entries n e at).lane) in
    all_repeated (IsOf net.site v) (map age (view_of net w v).volatile.window) _
    (subst (λ vol. AllByRecursion (IsOf net.site v) (map age vol.window)) (sym (view_volatile net w v)) mine)

-- On lanes of other nodes no further frame waits.

none_on : (s : Site) (v : ℕ) (l : Lane) → sender s l ≢ v → (es : List Entry) → AllByRecursion (IsOf s v) es → filter (λ (x : Entry). lane_eq x.transmission.lane l) es ≡ []
none_on s v l apart [] h = refl
none_on s v l apart (e ∷ es) h =
    let away : lane_eq e.transmission.lane l ≡ false =
    not_false (lane_eq e.transmission.lane l) (λ x. apart (ap (sender s) (sym (lane_eq_from e.transmission.lane l x)) ∙ h.0)) in
    rw away (none_on s v l apart es h.1)

pub repeats_elsewhere : (s : Site) (v : ℕ) (l : Lane) → sender s l ≢ v → (es : List Entry) (frames : Lane → List Allocation) (outgoing : Lane → List Outgoing) →
    AllByRecursion (IsOf s v) es → with_repeats es frames outgoing l ≡ outgoing l
repeats_elsewhere s v l apart [] frames outgoing h = refl
repeats_elsewhere s v l apart (e ∷ es) frames outgoing h =
    ap (λ (xs : List Entry). outgoing l ++ map (outgoing_repeat (frames l)) xs) (none_on s v l apart (e ∷ es) h) ∙ append-nil (outgoing l)
