-- What becomes of each frame of one lane that may be put again: it is due, it is put again, its number wasn't passed yet, or what
-- its passing does is done.
use Rattle.std.proofs.Common.{◌≡◌, ℕ, ◌<◌, Bool, true, false, not, ◌&&◌, ◌||◌, List, [], ◌∷◌, map, refl, sym, ◌∙◌, ap, subst, ◌⊎◌, inl, inr, Option, Some, None}
use Rattle.std.specs.Prelude.{◌==◌, suc, zero, length, slice_get}
use Rattle.std.specs.List.{list_any, AllByRecursion}
use Rattle.std.proofs.lemmas.Option.{slice_get_within}
use Rattle.qkd_base.specs.Name.{Name}
use Rattle.qkd_base.specs.Lane.{lane_eq}
use Rattle.qkd_base.specs.declared.lane.Lane.{Lane}
use Rattle.net_model.specs.declared.placing.Placing.{Placing}
use Rattle.net_model.specs.Item.{Item}
use Rattle.net_model.specs.Site.{sender}
use Rattle.net_model.specs.World.{Network, World, Allocation, Entry, Outgoing, Volatile, Transmission}
use Rattle.net_model.specs.Window.{answers_frame, mark_due, acknowledge, transmission_of}
use Rattle.net_model.specs.Frames.{offset_or_zero}
use Rattle.net_model.specs.Windows.{IsOnWire, IsEntry, IsPlaced}
use Rattle.net_model.specs.Invariant.{Conserved}
use Rattle.law_base.proofs.Base.{by_test, or_cases, eq_from, lane_eq_from}

-- The frame at this offset waits to be put again, or the placing of such a frame waits to be noted.

abbrev pub puts_again : List Allocation → ℕ → Outgoing → Bool
puts_again frames x o = not o.fresh && (offset_or_zero (slice_get frames o.frame) == x)

abbrev pub tells_again : Lane → ℕ → Placing → Bool
tells_again l x p = not p.fresh && (lane_eq p.lane l && (p.offset == x))

abbrev pub again_at : Lane → List Allocation → List Outgoing → List Placing → ℕ → Bool
again_at l frames outgoing placings x = list_any (puts_again frames x) outgoing || list_any (tells_again l x) placings

pub data IsFollowed (again passed : ℕ → Bool) (done : Item → ℕ → Bool) (e : Entry) : Type 0 where
  Due : (is : e.due ≡ true) → IsFollowed again passed done e
  Again : (is : again e.offset ≡ true) → IsFollowed again passed done e
  Waits : (number : ℕ) → (put : e.number ≡ Some number) → (waits : passed number ≡ false) → IsFollowed again passed done e
  Done : (is : done e.transmission.item e.offset ≡ true) → IsFollowed again passed done e

-- It is so of the entry, and the like of the placing, if it is one of the lane and its item is of this class.

abbrev pub IsEntryKept : Lane → (Transmission → Bool) → (again passed : ℕ → Bool) → (done : Item → ℕ → Bool) → Entry → Type 0
IsEntryKept l class again passed done e = lane_eq e.transmission.lane l ≡ true → class e.transmission ≡ true → IsFollowed again passed done e

abbrev pub IsPlacingKept : Lane → (Item → Bool) → (passed : ℕ → Bool) → (done : Item → ℕ → Bool) → Placing → Type 0
IsPlacingKept l kind passed done p = lane_eq p.lane l ≡ true → kind (transmission_of p).item ≡ true → (k : ℕ) → p.number ≡ Some k →
    (passed k ≡ false) ⊎ (done (transmission_of p).item p.offset ≡ true)

abbrev pub again_in : Network → Lane → World → ℕ → Bool
again_in net l w x = again_at l (w.frames l) (w.outgoing l) (w.placings (sender net.site l)) x

pub record IsTracked (net : Network) (l : Lane) (class : Transmission → Bool) (kind : Item → Bool) (passed : ℕ → Bool) (done : Item → ℕ → Bool) (w : World) : Type 0 where
  pub entries : AllByRecursion (IsEntryKept l class (again_in net l w) passed done) (w.volatile (sender net.site l)).window
  pub placings : AllByRecursion (IsPlacingKept l kind passed done) (w.placings (sender net.site l))
  pub within : (k : ℕ) → passed k ≡ true → k < length (w.wire l)

pub all_more : {A : Type 0} (P Q : A → Type 0) (xs : List A) → ((i : ℕ) (a : A) → slice_get xs i ≡ Some a → P a → Q a) → AllByRecursion P xs → AllByRecursion Q xs
all_more P Q [] so h = tt
all_more P Q (a ∷ xs) so h = (so zero a refl h.0, all_more P Q xs (λ i b at. so (suc i) b at) h.1)

-- Where more is put again, and more is done, it stays so.

pub still_followed : (again again' passed : ℕ → Bool) (done done' : Item → ℕ → Bool) (e : Entry) → (again e.offset ≡ true → again' e.offset ≡ true) →
    (done e.transmission.item e.offset ≡ true → done' e.transmission.item e.offset ≡ true) → IsFollowed again passed done e → IsFollowed again' passed done' e
still_followed again again' passed done done' e more further (Due due) = Due due
still_followed again again' passed done done' e more further (Again at) = Again (more at)
still_followed again again' passed done done' e more further (Waits number put waits) = Waits number put waits
still_followed again again' passed done done' e more further (Done is) = Done (further is)

module _ (l : Lane) (class : Transmission → Bool) (passed : ℕ → Bool) (done : Item → ℕ → Bool) where
  pub more_again : (again again' : ℕ → Bool) → ((x : ℕ) → again x ≡ true → again' x ≡ true) → (es : List Entry) → AllByRecursion (IsEntryKept l class again passed done) es →
      AllByRecursion (IsEntryKept l class again' passed done) es
  more_again again again' more es h =
      all_more (IsEntryKept l class again passed done) (IsEntryKept l class again' passed done) es
      (λ i e at kept lane of. still_followed again again' passed done done e (more e.offset) (λ x. x) (kept lane of)) h

  -- A frame that is heard makes entries due.
  one_marked : (again : ℕ → Bool) (m : Lane) (offset : ℕ) (e : Entry) → IsEntryKept l class again passed done e → IsEntryKept l class again passed done (mark_due m offset e)
  one_marked again m offset e kept = by_test (IsEntryKept l class again passed done) (answers_frame m offset e.transmission) _ e (λ t lane of. Due refl) (λ t. kept)

  marked : (again : ℕ → Bool) (m : Lane) (offset : ℕ) (es : List Entry) → AllByRecursion (IsEntryKept l class again passed done) es →
      AllByRecursion (IsEntryKept l class again passed done) (map (mark_due m offset) es)
  marked again m offset [] h = tt
  marked again m offset (e ∷ es) h = (one_marked again m offset e h.0, marked again m offset es h.1)

  pub heard_kept : (again : ℕ → Bool) (vol : Volatile) (m : Lane) (offset : ℕ) (n : Name) → AllByRecursion (IsEntryKept l class again passed done) vol.window →
      AllByRecursion (IsEntryKept l class again passed done) (acknowledge vol m offset n).window
  unfolding acknowledge
  heard_kept again vol m offset n h =
      by_test (λ (y : Volatile). AllByRecursion (IsEntryKept l class again passed done) y.window) (list_any (λ (e : Entry). answers_frame m offset e.transmission) vol.window) _ _
      (λ t. marked again m offset vol.window h)
      (λ t. by_test (λ (y : Volatile). AllByRecursion (IsEntryKept l class again passed done) y.window) (list_any _ vol.pending_acks) _ _ (λ k. h) (λ k. h))

-- More is done.
pub done_more : (net : Network) (l : Lane) (class : Transmission → Bool) (kind : Item → Bool) (passed : ℕ → Bool) (done done' : Item → ℕ → Bool) (w : World) → ((i : Item) (x : ℕ) → done i x ≡ true → done' i x ≡ true) →
    IsTracked net l class kind passed done w → IsTracked net l class kind passed done' w
done_more net l class kind passed done done' w more h = record {
  entries = all_more _ _ (w.volatile (sender net.site l)).window
      (λ i e at kept lane of. still_followed (again_in net l w) (again_in net l w) passed done done' e (λ x. x) (more e.transmission.item e.offset) (kept lane of)) h.entries;
  placings = all_more _ _ (w.placings (sender net.site l)) (λ i p at kept lane of k put. elim (kept lane of k put) [ inl waits ↦ inl waits | inr is ↦ inr (more (transmission_of p).item p.offset is) ]) h.placings;
  within = h.within;
}

pub on_wire : (wire : List ℕ) (j : ℕ) (o : Option ℕ) (k : ℕ) → o ≡ Some k → IsOnWire wire j o → slice_get wire k ≡ Some j
on_wire wire j None k e h = cc
on_wire wire j (Some n) k e h = let is : n ≡ k = cc in ap (slice_get wire) (sym is) ∙ h

-- What a frame's passing does is done, so its number is passed.
module _ (net : Network) (l : Lane) (class : Transmission → Bool) (kind : Item → Bool) (of_kind : (t : Transmission) → class t ≡ true → kind t.item ≡ true) (passed : ℕ → Bool) (done : Item → ℕ → Bool) (w : World) (c : Conserved net w) (number j : ℕ) (a : Allocation)
    (put : slice_get (w.wire l) number ≡ Some j) (framed : slice_get (w.frames l) j ≡ Some a) (settles : kind a.item ≡ true → done a.item a.offset ≡ true) where
  abbrev further : ℕ → Bool
  further k = passed k || (k == number)

  is_settled : (k f : ℕ) (x : ℕ) (i : Item) → (k == number) ≡ true → slice_get (w.wire l) k ≡ Some f → slice_get (w.frames l) f ≡ Some (record { offset = x; item = i }) →
      kind i ≡ true → done i x ≡ true
  is_settled k f x i same there at of =
      let is : slice_get (w.wire l) number ≡ Some f = ap (slice_get (w.wire l)) (sym (eq_from k number same)) ∙ there in
      let frame : Some j ≡ Some f = sym put ∙ is in
      let frame' : j ≡ f = cc in
      let all : ◌≡◌ {A = Option Allocation} (Some a) (Some (record { offset = x; item = i })) = sym framed ∙ ap (slice_get (w.frames l)) frame' ∙ at in
      let alike : a ≡ record { offset = x; item = i } = some_in a (record { offset = x; item = i }) all in
      ap (λ (y : Allocation). done y.item y.offset) (sym alike) ∙ settles (ap (λ (y : Allocation). kind y.item) alike ∙ of)
    where
      some_in : (b d : Allocation) → Some b ≡ Some d → b ≡ d
      some_in b d h = cc

  one_passed : (k : ℕ) → passed k ≡ false → (further k ≡ false) ⊎ ((k == number) ≡ true)
  one_passed k waits = elim (k == number) as (λ t. (k == number) ≡ t → ((passed k || t) ≡ false) ⊎ (t ≡ true)) [
    | true ↦ λ e. inr refl
    | false ↦ λ e. inl (rw waits refl)
  ] refl

  entry_passed : (e : Entry) → IsEntry net w (sender net.site l) e → lane_eq e.transmission.lane l ≡ true → class e.transmission ≡ true → IsFollowed (again_in net l w) passed done e →
      IsFollowed (again_in net l w) further done e
  entry_passed e is lane of (Due due) = Due due
  entry_passed e is lane of (Again at) = Again at
  entry_passed e is lane of (Done x) = Done x
  entry_passed e is lane of (Waits k at waits) = elim (one_passed k waits) [
    | inl still ↦ Waits k at still
    | inr same ↦
        let on : e.transmission.lane ≡ l = lane_eq_from e.transmission.lane l lane in
        let wired : slice_get (w.wire e.transmission.lane) k ≡ Some is.number = on_wire (w.wire e.transmission.lane) is.number e.number k at is.wire in
        Done (is_settled k is.number e.offset e.transmission.item same (ap (λ (m : Lane). slice_get (w.wire m) k) (sym on) ∙ wired)
        (ap (λ (m : Lane). slice_get (w.frames m) is.number) (sym on) ∙ is.frame) (of_kind e.transmission of))
  ]

  placing_passed : (p : Placing) → IsPlaced net w (sender net.site l) p → IsPlacingKept l kind passed done p → IsPlacingKept l kind further done p
  placing_passed p is kept lane of k at = elim (kept lane of k at) [
    | inr x ↦ inr x
    | inl waits ↦ elim (one_passed k waits) [
      | inl still ↦ inl still
      | inr same ↦
          let on : p.lane ≡ l = lane_eq_from p.lane l lane in
          let wired : slice_get (w.wire p.lane) k ≡ Some is.number = on_wire (w.wire p.lane) is.number p.number k at is.wire in
          inr (is_settled k is.number p.offset (transmission_of p).item same (ap (λ (m : Lane). slice_get (w.wire m) k) (sym on) ∙ wired)
          (ap (λ (m : Lane). slice_get (w.frames m) is.number) (sym on) ∙ is.frame) of)
    ]
  ]

  pub now_passed : IsTracked net l class kind passed done w → IsTracked net l class kind further done w
  now_passed h = record {
    entries = all_more _ _ (w.volatile (sender net.site l)).window
        (λ i e at kept lane of. entry_passed e ((c.volatile (sender net.site l)).entries i e at) lane of (kept lane of)) h.entries;
    placings = all_more _ _ (w.placings (sender net.site l)) (λ i p at kept. placing_passed p (c.placed (sender net.site l) i p at) kept) h.placings;
    within = λ k is. elim (or_cases (passed k) (k == number) is) [
      | inl old ↦ h.within k old
      | inr same ↦ subst (λ (x : ℕ). x < length (w.wire l)) (sym (eq_from k number same)) (slice_get_within (w.wire l) number j put)
    ];
  }
