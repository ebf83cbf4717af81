-- Which facts before a place are on their way, and which must be sent from it on.
use Rattle.std.proofs.Common.{◌≡◌, ℕ, zero, suc, ◌+◌, ◌<◌, ◌≤◌, Bool, true, false, ◌||◌, List, [], ◌∷◌, length, drop, refl, sym, ◌∙◌, ap, arith, Some, ◌⊎◌, inl, inr}
use Rattle.std.specs.Prelude.{map, filter, slice_get, slice_index, replicate, not, option_map, if◌then◌else◌}
use Rattle.qkd_base.specs.Name.{Name}
use Rattle.qkd_base.specs.declared.lane.Lane.{Lane}
use Rattle.net_model.specs.declared.fact.Fact.{Fact}
use Rattle.net_model.specs.Table.{name_of}
use Rattle.net_model.specs.World.{Transmission, Volatile}
use Rattle.relay_core.specs.Firsts.{IsFirstFrom, IsNoneFrom}
use Rattle.relay_core.specs.Index.{is_owed_to}
use Rattle.relay_core.specs.Knowledge.{Knowledge}
use Rattle.kme_relay.specs.UnderWay.{AreUnderWay, is_under_way}
use Rattle.kme_relay.specs.Wanted.{data_on, is_awaited, is_held, not_awaited, facts_from}

-- what must be sent of these facts
abbrev sent_of : ℕ → List Name → Volatile → Lane → ℕ → List Fact → List Transmission
sent_of me acked vol l to fs = not_awaited vol (map (data_on l) (filter (λ n. not (is_held vol l n)) (map name_of (filter (is_owed_to me acked to) fs))))

module _ (me : ℕ) (acked : List Name) (vol : Volatile) (l : Lane) (to : ℕ) where
  passed : (f : Fact) (fs : List Fact) → (is_owed_to me acked to f ≡ true → is_under_way vol l (name_of f) ≡ true) → sent_of me acked vol l to (f ∷ fs) ≡ sent_of me acked vol l to fs
  passed f fs h = by_owed (is_owed_to me acked to f) refl
    where
      n : Name
      n = name_of f

      rest : List Name
      rest = map name_of (filter (is_owed_to me acked to) fs)

      by_held : (b : Bool) → is_held vol l n ≡ b → (b || is_awaited vol (data_on l n)) ≡ true → not_awaited vol (map (data_on l) (filter (λ n. not (is_held vol l n)) (n ∷ rest))) ≡ sent_of me acked vol l to fs
      by_held true e w = ap (λ (b : Bool). not_awaited vol (map (data_on l) (if not b then n ∷ filter (λ n. not (is_held vol l n)) rest else filter (λ n. not (is_held vol l n)) rest))) e
      by_held false e w =
          ap (λ (b : Bool). not_awaited vol (map (data_on l) (if not b then n ∷ filter (λ n. not (is_held vol l n)) rest else filter (λ n. not (is_held vol l n)) rest))) e
          ∙ ap (λ (b : Bool). if not b then data_on l n ∷ sent_of me acked vol l to fs else sent_of me acked vol l to fs) w

      by_owed : (b : Bool) → is_owed_to me acked to f ≡ b → sent_of me acked vol l to (f ∷ fs) ≡ sent_of me acked vol l to fs
      by_owed true e =
          ap (λ (b : Bool). not_awaited vol (map (data_on l) (filter (λ n. not (is_held vol l n)) (map name_of (if b then f ∷ filter (is_owed_to me acked to) fs else filter (is_owed_to me acked to) fs))))) e
          ∙ by_held (is_held vol l n) refl (h e)
      by_owed false e =
          ap (λ (b : Bool). not_awaited vol (map (data_on l) (filter (λ n. not (is_held vol l n)) (map name_of (if b then f ∷ filter (is_owed_to me acked to) fs else filter (is_owed_to me acked to) fs))))) e

  passed_all : (fs : List Fact) (place : ℕ) → ((p : ℕ) (f : Fact) → p < place → slice_get fs p ≡ Some f → is_owed_to me acked to f ≡ true → is_under_way vol l (name_of f) ≡ true) →
      sent_of me acked vol l to fs ≡ sent_of me acked vol l to (drop place fs)
  passed_all [] zero h = refl
  passed_all [] (suc place) h = refl
  passed_all (f ∷ fs) zero h = refl
  passed_all (f ∷ fs) (suc place) h = passed f fs (h 0 f (omega arith) refl) ∙ passed_all fs place (λ p g lt there. h (suc p) g (omega arith) there)

-- nothing before the place must be sent
pub from_front : (k : Knowledge) (vol : Volatile) (l : Lane) (to place : ℕ) → AreUnderWay k.me k.acked k.facts vol l to place → facts_from k vol l to 0 ≡ facts_from k vol l to place
from_front k vol l to place way = passed_all k.me k.acked vol l to k.facts place way.each

-- moving the place on

either : (a b : ℕ) → (a < b) ⊎ (b ≤ a)
either a zero = inr (omega arith)
either zero (suc b) = inl (omega arith)
either (suc a) (suc b) = elim (either a b) [ inl h ↦ inl (omega arith) | inr h ↦ inr (omega arith) ]

same_place : (p q : ℕ) → p < q + 1 → q ≤ p → p ≡ q
same_place p q a b = omega arith

not_owed : (b : Bool) → b ≡ false → b ≡ true → ⊥
not_owed b e h = let t : true ≡ false = sym h ∙ e in let u : ⊥ = cc in u

-- if no fact from a place on is owed, the place may move to the end
pub past_all : (me : ℕ) (acked : List Name) (facts : List Fact) (vol : Volatile) (l : Lane) (to from count : ℕ) → AreUnderWay me acked facts vol l to from → IsNoneFrom (is_owed_to me acked to) facts from →
    count ≡ length facts → AreUnderWay me acked facts vol l to count
past_all me acked facts vol l to from count way none all = record {
  within = omega (arith, all);
  each = λ p f lt there owed. elim (either p from) [
    | inl low ↦ way.each p f low there owed
    | inr high ↦ absurd (not_owed (is_owed_to me acked to f) (none.none p f high there) owed)
  ];
}

module _ (me : ℕ) (acked : List Name) (facts : List Fact) (vol : Volatile) (l : Lane) (to from place : ℕ) (way : AreUnderWay me acked facts vol l to from) (first : IsFirstFrom (is_owed_to me acked to) facts from place) where
  within : place < length facts
  within = by facts place first.there
    where
      by : (fs : List Fact) (p : ℕ) → slice_get fs p ≡ Some first.item → p < length fs
      by [] p h = cc
      by (f ∷ fs) zero h = omega arith
      by (f ∷ fs) (suc p) h = let r = by fs p h in omega arith

  pub up_to_next : AreUnderWay me acked facts vol l to place
  up_to_next = record {
    within = let w = within in omega arith;
    each = λ p f lt there owed. elim (either p from) [
      | inl low ↦ way.each p f low there owed
      | inr high ↦ absurd (not_owed (is_owed_to me acked to f) (first.before p f high lt there) owed)
    ];
  }

  pub over_next : (n : Name) → Some n ≡ option_map name_of (slice_get facts place) → is_under_way vol l n ≡ true → AreUnderWay me acked facts vol l to (place + 1)
  over_next n named on = record {
    within = let w = within in omega arith;
    each = λ p f lt there owed. elim (either p place) [
      | inl low ↦ up_to_next.each p f low there owed
      | inr high ↦
          let at : Some n ≡ Some (name_of f) = named ∙ ap (λ (q : ℕ). option_map name_of (slice_get facts q)) (sym (same_place p place lt high)) ∙ ap (option_map name_of) there in
          let is : n ≡ name_of f = cc in
          ap (is_under_way vol l) (sym is) ∙ on
    ];
  }

  pub next_within : place < length facts
  next_within = within

-- a fact is on its way if it is in the window or awaits its placing

pub is_one : (a b : Bool) → a ≡ true → (a || b) ≡ true
is_one true b h = refl
is_one false b h = cc

pub is_other : (a b : Bool) → b ≡ true → (a || b) ≡ true
is_other true b h = refl
is_other false b h = h

pub nowhere : (size place : ℕ) → slice_index (replicate size 0) place ≡ 0
nowhere zero zero = refl
nowhere zero (suc place) = refl
nowhere (suc size) zero = refl
nowhere (suc size) (suc place) = nowhere size place
