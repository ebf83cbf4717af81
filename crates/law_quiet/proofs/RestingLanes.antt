-- A lane on which no fact flies is passing: all that its receiver acknowledged was in older frames.
use Rattle.std.proofs.Common.{◌≡◌, ℕ, Bool, true, false, not, refl, sym, ◌∙◌, ap, subst, arith, Option, Some, None}
use Rattle.std.specs.Prelude.{◌==◌, nat_lt, length, slice_get, is_none}
use Rattle.std.specs.List.{list_any, AllByRecursion}
use Rattle.std.proofs.lemmas.Bool.{ltb-true}
use Rattle.qkd_base.specs.Lane.{lane_eq, reverse_lane}
use Rattle.qkd_base.specs.declared.lane.Lane.{Lane}
use Rattle.net_model.specs.Item.{Item, AckItem, item_of, item_name}
use Rattle.net_model.specs.Site.{sender}
use Rattle.net_model.specs.World.{Network, World, Allocation, Transmission, Entry}
use Rattle.net_model.specs.Window.{is_data_entry}
use Rattle.net_model.specs.Windows.{IsShaped}
use Rattle.net_model.specs.Invariant.{Conserved}
use Rattle.law_base.proofs.Base.{and_left, and_right, and_both, not_both, eq_same, lane_eq_from}
use Rattle.law_base.proofs.Lists.{all_at, all_from, any_of, reverse_twice}
use Rattle.law_locality.specs.Quiet.{IsQuiet}
use Rattle.law_quiet.specs.Named.{HasFrameOf, AnswersFrameOf, NamesItsFrame, AreNaming}
use Rattle.law_quiet.specs.Still.{flies_on}
use Rattle.law_quiet.proofs.FreshFrames.{IsNewEntry, IsNewPlacing, IsNewWaiting}
use Rattle.law_quiet.proofs.Passing.{is_fact, is_ack, is_at, is_new_ack, sends_fact, fact_done, ack_done, IsPassing}
use Rattle.law_quiet.proofs.Tracks.{IsEntryKept, IsPlacingKept, again_in}

-- A fact was sent in answer to nothing.
fact_answers : (t : Transmission) → IsShaped t → is_fact t.item ≡ true → (o : Option ℕ) → t.received_offset ≡ o → is_none o ≡ true
fact_answers t shaped of None is = refl
fact_answers t shaped of (Some x) is =
    let item : t.item ≡ AckItem (item_name t.item) = shaped ∙ ap (λ (o : Option ℕ). item_of o (item_name t.item)) is in
    absurd (not_both (is_fact t.item) of (ap is_fact item))

ack_answers : (t : Transmission) → IsShaped t → is_ack t.item ≡ true → (o : Option ℕ) → t.received_offset ≡ o → (x : ℕ) × (o ≡ Some x)
ack_answers t shaped of None is = absurd (not_both (is_ack t.item) of (ap is_ack (shaped ∙ ap (λ (o : Option ℕ). item_of o (item_name t.item)) is)))
ack_answers t shaped of (Some x) is = (x, refl)

module _ (net : Network) (w : World) (c : Conserved net w) (quiet : IsQuiet w) (naming : AreNaming w) (l : Lane) (clear : list_any (flies_on l) (w.volatile (sender net.site l)).window ≡ false) where
  -- The frames on the wires so far.
  abbrev pub older : Lane → ℕ → Bool
  older m k = nat_lt k (length (w.wire m))

  none_told : (m : Lane) (kind : Item → Bool) (done : Item → ℕ → Bool) → AllByRecursion (IsPlacingKept m kind (older m) done) (w.placings (sender net.site m))
  none_told m kind done = subst (AllByRecursion (IsPlacingKept m kind (older m) done)) (sym (quiet.noted (sender net.site m))) tt

  no_flight : (i : ℕ) (e : Entry) → slice_get (w.volatile (sender net.site l)).window i ≡ Some e → flies_on l e ≡ true → ⊥
  no_flight i e at flies = not_both (list_any (flies_on l) (w.volatile (sender net.site l)).window) (any_of (flies_on l) (w.volatile (sender net.site l)).window e i at flies) clear

  none_flies : (i : ℕ) (e : Entry) → slice_get (w.volatile (sender net.site l)).window i ≡ Some e → IsEntryKept l sends_fact (again_in net l w) (older l) (fact_done net l w) e
  none_flies i e at on of =
      let shaped = ((c.volatile (sender net.site l)).entries i e at).shaped in
      absurd (no_flight i e at (and_both (lane_eq e.transmission.lane l) (is_data_entry e) on (fact_answers e.transmission shaped of e.transmission.received_offset refl)))

  abbrev back : Lane
  back = reverse_lane l

  -- Each acknowledgement answers one of the lane's frames so far.
  all_older : (i : ℕ) (e : Entry) → slice_get (w.volatile (sender net.site back)).window i ≡ Some e → IsEntryKept back (is_new_ack (w.frames l)) (again_in net back w) (older back) (ack_done net l w) e
  all_older i e at on of =
      let shaped = ((c.volatile (sender net.site back)).entries i e at).shaped in
      let x = ack_answers e.transmission shaped (and_left (is_ack e.transmission.item) _ of) e.transmission.received_offset refl in
      let names : AnswersFrameOf w.frames e.transmission.lane (Some x.0) (item_name e.transmission.item) =
      subst (λ (o : Option ℕ). AnswersFrameOf w.frames e.transmission.lane o (item_name e.transmission.item)) x.1
      (all_at (λ (y : Entry). NamesItsFrame w.frames y.transmission) (w.volatile (sender net.site back)).window i e (naming (sender net.site back)).sent at) in
      let turned : reverse_lane e.transmission.lane ≡ l = ap reverse_lane (lane_eq_from e.transmission.lane back on) ∙ reverse_twice l in
      let frame : HasFrameOf (w.frames l) x.0 (item_name e.transmission.item) = subst (λ (m : Lane). HasFrameOf (w.frames m) x.0 (item_name e.transmission.item)) turned names in
      let old : is_at (w.frames l) e.transmission.received_offset ≡ true =
      ap (is_at (w.frames l)) x.1 ∙ any_of (λ (a : Allocation). a.offset == x.0) (w.frames l) _ frame.number frame.there (eq_same x.0) in
      absurd (not_both (not (is_at (w.frames l) e.transmission.received_offset)) (and_right (is_ack e.transmission.item) _ of) (ap not old))

  pub rest_passing : IsPassing net l older w
  rest_passing = record {
    older = w.frames l;
    stay = λ j a at. at;
    fresh = record {
      entries = all_from (IsNewEntry l (length (w.frames l)) (w.frames l)) (w.volatile (sender net.site l)).window (λ i e at flies. absurd (no_flight i e at flies));
      placings = subst (AllByRecursion (IsNewPlacing l (length (w.frames l)) (w.frames l))) (sym (quiet.noted (sender net.site l))) tt;
      waiting = subst (AllByRecursion (IsNewWaiting (length (w.frames l)))) (sym (quiet.put l)) tt;
      above = omega arith;
    };
    facts = record {
      entries = all_from (IsEntryKept l sends_fact (again_in net l w) (older l) (fact_done net l w)) (w.volatile (sender net.site l)).window none_flies;
      placings = none_told l is_fact (fact_done net l w);
      within = λ k is. ltb-true k (length (w.wire l)) is;
    };
    acks = record {
      entries = all_from (IsEntryKept back (is_new_ack (w.frames l)) (again_in net back w) (older back) (ack_done net l w)) (w.volatile (sender net.site back)).window all_older;
      placings = none_told back is_ack (ack_done net l w);
      within = λ k is. ltb-true k (length (w.wire back)) is;
    };
  }
