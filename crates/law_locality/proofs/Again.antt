-- The repeats of a plan belong to window entries, each on its own lane.
use Rattle.std.proofs.Common.{◌≡◌, ℕ, zero, suc, true, false, ◌&&◌, List, [], ◌∷◌, map, take}
use Rattle.std.specs.Prelude.{nat_lt, filter, if◌then◌else◌}
use Rattle.std.specs.List.{AllByRecursion}
use Rattle.qkd_base.specs.Lane.{lane_eq}
use Rattle.qkd_base.specs.declared.lane.Lane.{Lane}
use Rattle.net_model.specs.World.{Network, World, Entry}
use Rattle.net_model.specs.Window.{age, insert_entry, by_offset, repeats_on}
use Rattle.net_model.specs.Windows.{IsEntry}
use Rattle.net_model.specs.Invariant.{Conserved}
use Rattle.law_base.proofs.Base.{and_left, lane_eq_from}
use Rattle.law_base.proofs.Lists.{all_from, kept_at}
use Rattle.law_invariant.proofs.Entries.{age_keeps}

all_taken : {A : Type 0} (P : A → Type 0) (n : ℕ) (xs : List A) → AllByRecursion P xs → AllByRecursion P (take n xs)
all_taken P zero xs h = tt
all_taken P (suc n) [] h = tt
all_taken P (suc n) (x ∷ xs) h = (h.0, all_taken P n xs h.1)

module _ (P : Entry → Type 0) where
  inserted : (e : Entry) (es : List Entry) → P e → AllByRecursion P es → AllByRecursion P (insert_entry e es)
  inserted e [] p h = (p, tt)
  inserted e (x ∷ xs) p h = elim (nat_lt e.offset x.offset) as (λ t. AllByRecursion P (if t then e ∷ x ∷ xs else x ∷ insert_entry e xs)) [
    | true ↦ (p, h)
    | false ↦ (h.0, inserted e xs p h.1)
  ]

  sorted : (es : List Entry) → AllByRecursion P es → AllByRecursion P (by_offset es)
  sorted [] h = tt
  sorted (e ∷ es) h = inserted e (by_offset es) h.0 (sorted es h.1)

-- The window after it aged by one tick.
abbrev pub aged : World → ℕ → List Entry
aged w v = map age (w.volatile v).window

module _ (net : Network) (w : World) (v : ℕ) (c : Conserved net w) where
  pub record IsOn (l : Lane) (e : Entry) : Type 0 where
    pub lane : e.transmission.lane ≡ l
    pub known : IsEntry net w v e

  pub lane_repeats : (l : Lane) → AllByRecursion (IsOn l) (repeats_on (aged w v) l)
  unfolding repeats_on
  lane_repeats l =
      let due = filter (λ (e : Entry). lane_eq e.transmission.lane l && e.due) (aged w v) in
      all_taken (IsOn l) 16 _ (sorted (IsOn l) due (all_from (IsOn l) due (λ i e at.
      let k = kept_at (λ (x : Entry). lane_eq x.transmission.lane l && x.due) (aged w v) e i at in
      record {
        lane = lane_eq_from e.transmission.lane l (and_left (lane_eq e.transmission.lane l) e.due k.2);
        known = (age_keeps net w v (w.volatile v) (c.volatile v)).entries k.0 e k.1;
      })))
