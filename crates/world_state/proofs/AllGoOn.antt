-- All lanes that leave a node go on, in order.
use Rattle.std.proofs.Common.{◌≡◌, inl, inr, ℕ, ◌+◌, ◌<◌, ◌≤◌, true, false, List, length, refl, sym, ap, ◌∙◌, arith, Option, Some}
use Rattle.std.specs.Prelude.{◌==◌, slice_get, slice_set, if◌then◌else◌}
use Rattle.std.proofs.lemmas.Bool.{cases_lt}
use Rattle.std.proofs.lemmas.Option.{slice_get_within}
use Rattle.net_model.specs.Site.{Site, sender}
use Rattle.net_model.specs.View.{View}
use Rattle.lane_sender.specs.Lane.{LaneForm}
use Rattle.law_base.proofs.Base.{eq_from, when_true, when_false}
use Rattle.world_state.specs.Starting.{octets_in, lease_in, gone_on, gone_with, MayGoOn, MayAllGoOn, AllWentOn, WiresKept}
use Rattle.world_state.proofs.Others.{each_placed, placed_length}

some_is : {A : Type 0} {a b : A} → ◌≡◌ {A = Option A} (Some a) (Some b) → a ≡ b
some_is h = cc

module _ {X : Type 0} (s : Site) (v : ℕ) (view : View) (old : List (LaneForm X)) where
  -- The lanes at the first n places went on, and the others are as they were.
  pub record WentTo (n : ℕ) (now : List (LaneForm X)) : Type 0 where
    pub sides : length now ≡ length old
    pub done : (place : ℕ) (side : LaneForm X) → place < n → slice_get now place ≡ Some side → (before : LaneForm X) × (slice_get old place ≡ Some before) × (side ≡ gone_with s v view before)
    pub left : (place : ℕ) (side : LaneForm X) → n ≤ place → slice_get now place ≡ Some side → slice_get old place ≡ Some side

  pub went_none : WentTo 0 old
  went_none = record { sides = refl; done = λ place side few at. absurd (omega (arith, few)); left = λ place side few at. at }

  pub went_all : (n : ℕ) (now : List (LaneForm X)) → WentTo n now → length old ≤ n → AllWentOn s v view old now
  went_all n now w all = record {
    sides = w.sides;
    each = λ place side at. w.done place side (let below = slice_get_within now place side at in let same = w.sides in omega (arith, below, same, all)) at;
  }

  pub gone_wire : (side : LaneForm X) → (gone_with s v view side).wire ≡ side.wire
  gone_wire side = elim (sender s side.lane == v) as (λ t. (if t then gone_on (octets_in view side.lane) (lease_in view side.lane) side else side).wire ≡ side.wire) [ true ↦ refl | false ↦ refl ]

  wire_there : (n : ℕ) (now : List (LaneForm X)) → WentTo n now → (k : ℕ) (y : LaneForm X) → slice_get now k ≡ Some y → (before : LaneForm X) × (slice_get old k ≡ Some before) × (y.wire ≡ before.wire)
  wire_there n now w k y stood = elim (cases_lt k n) [
    | inl less ↦ let d = w.done k y less stood in (d.0, d.1, ap (λ (x : LaneForm X). x.wire) d.2 ∙ gone_wire d.0)
    | inr more ↦ (y, w.left k y more stood, refl)
  ]

  module _ (n : ℕ) (now : List (LaneForm X)) (w : WentTo n now) (side : LaneForm X) (at : slice_get now n ≡ Some side) where
    before : slice_get old n ≡ Some side
    before = w.left n side (omega arith) at

    pub may_next : MayAllGoOn s v view old → (sender s side.lane == v) ≡ true → MayGoOn (octets_in view side.lane) (lease_in view side.lane) side
    may_next may is = may n side before (eq_from (sender s side.lane) v is)

    -- The lane at the next place was put back after it went on.
    went_put : (next : LaneForm X) (after : List (LaneForm X)) → next ≡ gone_with s v view side → after ≡ slice_set now n next → WentTo (n + 1) after
    went_put next after is put = record {
      sides = placed_length now after n next put ∙ w.sides;
      done = λ place x few there.
          each_placed now after n next put (λ k y. k < n + 1 → (before : LaneForm X) × (slice_get old k ≡ Some before) × (y ≡ gone_with s v view before))
          (λ few. (side, before, is)) (λ k y other stood few. w.done k y (let less = few in omega (arith, less, other)) stood) place x there few;
      left = λ place x more there.
          each_placed now after n next put (λ k y. n + 1 ≤ k → slice_get old k ≡ Some y) (λ more. absurd (omega (arith, more))) (λ k y other stood more. w.left k y (omega (arith, more)) stood) place x there more;
    }

    pub went_on : (next : LaneForm X) (after : List (LaneForm X)) → (sender s side.lane == v) ≡ true → next ≡ gone_on (octets_in view side.lane) (lease_in view side.lane) side → after ≡ slice_set now n next →
        WentTo (n + 1) after
    went_on next after mine is put = went_put next after (is ∙ sym (when_true (sender s side.lane == v) _ _ mine)) put

    pub went_past : (after : List (LaneForm X)) → (sender s side.lane == v) ≡ false → after ≡ slice_set now n side → WentTo (n + 1) after
    went_past after other put = went_put side after (sym (when_false (sender s side.lane == v) _ _ other)) put

    -- The lane at the next place was put back with its wire, whatever else it took.
    pub wires_broken : (next : LaneForm X) (after : List (LaneForm X)) → next.wire ≡ side.wire → after ≡ slice_set now n next → WiresKept old after
    wires_broken next after wire put = record {
      sides = placed_length now after n next put ∙ w.sides;
      each = each_placed now after n next put (λ k y. (before : LaneForm X) × (slice_get old k ≡ Some before) × (y.wire ≡ before.wire)) (side, before, wire) (λ k y other stood. wire_there n now w k y stood);
    }

  pub wires_kept : (n : ℕ) (now : List (LaneForm X)) → WentTo n now → WiresKept old now
  wires_kept n now w = record { sides = w.sides; each = wire_there n now w }
