-- In a quiet network where a lane is idle both ways and all that was put there was passed, nothing is in flight there.
use Rattle.std.proofs.Common.{◌≡◌, ℕ, ◌<◌, Bool, true, false, not, ◌&&◌, List, [], ◌∷◌, map, refl, sym, ◌∙◌, ap, subst, arith, Option, Some, None, inl, inr}
use Rattle.std.specs.Prelude.{◌==◌, zero, suc, length, slice_get, is_none}
use Rattle.std.specs.List.{list_any}
use Rattle.std.proofs.lemmas.Option.{slice_get_within}
use Rattle.qkd_base.specs.Name.{Name, has}
use Rattle.qkd_base.specs.Lane.{lane_eq, reverse_lane}
use Rattle.qkd_base.specs.declared.lane.Lane.{Lane}
use Rattle.net_model.specs.Item.{DataItem, AckItem, item_of, item_name}
use Rattle.net_model.specs.Site.{sender}
use Rattle.net_model.specs.World.{Network, World, Allocation, Transmission, Entry, PendingAck}
use Rattle.net_model.specs.Window.{offset_eq, is_data_entry, age, is_acked_item}
use Rattle.net_model.specs.Windows.{IsShaped, IsEntry}
use Rattle.net_model.specs.Invariant.{Conserved}
use Rattle.law_base.proofs.Base.{by_test, and_left, and_right, and_both, or_cases, or_left, or_right, or_both, not_false, not_both, eq_from, lane_eq_from}
use Rattle.law_base.proofs.Lists.{all_at, any_at, any_of, offset_from, reverse_twice}
use Rattle.law_base.proofs.Owners.{same_frame}
use Rattle.law_invariant.proofs.Outgoing.{sender_back}
use Rattle.law_locality.specs.Quiet.{IsQuiet}
use Rattle.law_quiet.specs.Flying.{IsUnanswered, AreUnanswered}
use Rattle.law_quiet.specs.Named.{HasFrameOf, AnswersFrameOf, NamesItsFrame, AreNaming}
use Rattle.law_quiet.specs.Still.{flies_on}
use Rattle.law_quiet.proofs.Hearing.{is_sent_for, pends_for, is_answered}
use Rattle.law_quiet.proofs.IdleLanes.{IsIdleOn}
use Rattle.law_quiet.proofs.FreshFrames.{IsNewEntry}
use Rattle.law_quiet.proofs.Passing.{is_fact, is_ack, is_at, is_new_ack, sends_fact, fact_done, ack_done, IsPassing}
use Rattle.law_quiet.proofs.Tracks.{puts_again, tells_again, again_in, IsFollowed, Due, Again, Waits, Done, IsEntryKept, on_wire}

-- An entry that is due stays so in the next plan.

aged_due : (m : Lane) (e : Entry) → lane_eq e.transmission.lane m ≡ true → e.due ≡ true → (lane_eq (age e).transmission.lane m && (age e).due) ≡ true
aged_due m e lane is = by_test (λ (x : Entry). (lane_eq x.transmission.lane m && x.due) ≡ true) (is_data_entry e) _ e
    (λ t. and_both (lane_eq e.transmission.lane m) _ lane (or_left e.due _ is)) (λ t. and_both (lane_eq e.transmission.lane m) e.due lane is)

due_found : (m : Lane) (es : List Entry) (i : ℕ) (e : Entry) → slice_get es i ≡ Some e → lane_eq e.transmission.lane m ≡ true → e.due ≡ true →
    list_any (λ (x : Entry). lane_eq x.transmission.lane m && x.due) (map age es) ≡ true
due_found m [] i e at lane is = cc
due_found m (x ∷ es) zero e at lane is =
    let same : x ≡ e = cc in
    or_left (lane_eq (age x).transmission.lane m && (age x).due) _ (ap (λ (y : Entry). lane_eq (age y).transmission.lane m && (age y).due) same ∙ aged_due m e lane is)
due_found m (x ∷ es) (suc i) e at lane is = or_right (lane_eq (age x).transmission.lane m && (age x).due) _ (due_found m es i e at lane is)

is_none_from : (o : Option ℕ) → is_none o ≡ true → o ≡ None
is_none_from None h = refl
is_none_from (Some x) h = cc

-- What was sent has an offset that it answers exactly where it is no fact.

pub fact_of : (t : Transmission) → IsShaped t → is_none t.received_offset ≡ true → t.item ≡ DataItem (item_name t.item)
fact_of t shaped none = shaped ∙ ap (λ (o : Option ℕ). item_of o (item_name t.item)) (is_none_from t.received_offset none)

pub ack_of : (t : Transmission) (x : ℕ) → IsShaped t → t.received_offset ≡ Some x → t.item ≡ AckItem (item_name t.item)
ack_of t x shaped at = shaped ∙ ap (λ (o : Option ℕ). item_of o (item_name t.item)) at

module _ (net : Network) (w : World) (c : Conserved net w) (quiet : IsQuiet w) (unanswered : AreUnanswered w) (naming : AreNaming w) where
  -- Nothing is put again.
  none_again : (m : Lane) (x : ℕ) → again_in net m w x ≡ true → ⊥
  none_again m x is = not_both (again_in net m w x) is
      (or_both (list_any (puts_again (w.frames m) x) (w.outgoing m)) _ (ap (list_any (puts_again (w.frames m) x)) (quiet.put m)) (ap (list_any (tells_again m x)) (quiet.noted (sender net.site m))))

  on_wires : (v k : ℕ) (e : Entry) (m : Lane) → IsEntry net w v e → lane_eq e.transmission.lane m ≡ true → e.number ≡ Some k → k < length (w.wire m)
  on_wires v k e m is lane at =
      subst (λ (x : Lane). k < length (w.wire x)) (lane_eq_from e.transmission.lane m lane)
      (slice_get_within (w.wire e.transmission.lane) k is.number (on_wire (w.wire e.transmission.lane) is.number e.number k at is.wire))

  -- A fact in flight was not acknowledged.
  never_acked : (v i : ℕ) (e : Entry) (n : Name) → slice_get (w.volatile v).window i ≡ Some e → e.transmission.item ≡ DataItem n → has (w.durable.acked v) n ≡ true → ⊥
  never_acked v i e n at item acked =
      not_both (has (w.durable.acked v) n) acked
      (sym (ap (is_acked_item (w.durable.acked v)) item) ∙ all_at (IsUnanswered (w.durable.acked v)) (w.volatile v).window i e (unanswered.flying v) at)

  module _ (l : Lane) (passed : Lane → ℕ → Bool) (h : IsPassing net l passed w) (here : IsIdleOn net w l) (back : IsIdleOn net w (reverse_lane l))
      (all : (k : ℕ) → k < length (w.wire l) → passed l k ≡ true) (all_back : (k : ℕ) → k < length (w.wire (reverse_lane l)) → passed (reverse_lane l) k ≡ true) where
    abbrev from : ℕ
    from = sender net.site l

    abbrev to : ℕ
    to = sender net.site (reverse_lane l)

    module _ (i : ℕ) (e : Entry) (at : slice_get (w.volatile from).window i ≡ Some e) (flies : flies_on l e ≡ true) (on : lane_eq e.transmission.lane l ≡ true) (item : e.transmission.item ≡ DataItem (item_name e.transmission.item)) where
      entry : IsEntry net w from e
      entry = (c.volatile from).entries i e at

      -- It isn't answered by an acknowledgement that was sent,
      module _ (j : ℕ) (a : Entry) (there : slice_get (w.volatile to).window j ≡ Some a) (answers : is_sent_for l e.offset a ≡ true) where
        answer : IsEntry net w to a
        answer = (c.volatile to).entries j a there

        lane : lane_eq a.transmission.lane (reverse_lane l) ≡ true
        lane = and_left (lane_eq a.transmission.lane (reverse_lane l)) (offset_eq a.transmission.received_offset (Some e.offset)) answers

        heard : a.transmission.received_offset ≡ Some e.offset
        heard = offset_from a.transmission.received_offset (Some e.offset) (and_right (lane_eq a.transmission.lane (reverse_lane l)) (offset_eq a.transmission.received_offset (Some e.offset)) answers)

        -- It answers none of the older frames, of which this isn't one.
        not_older : list_any (λ (b : Allocation). b.offset == e.offset) h.older ≡ false
        not_older = not_false (list_any (λ (b : Allocation). b.offset == e.offset) h.older) (λ was.
            let x = any_at (λ (b : Allocation). b.offset == e.offset) h.older was in
            let mine = all_at (IsNewEntry l (length h.older) (w.frames l)) (w.volatile from).window i e h.fresh.entries at flies in
            let same : x.0 ≡ mine.number =
            same_frame w.durable.facts (w.durable.own l) (w.frames l) _ (c.now.owned l) x.0 mine.number x.1 mine.frame (h.stay x.0 x.1 x.2) mine.there (eq_from x.1.offset e.offset x.3 ∙ sym mine.place) in
            let within = slice_get_within h.older x.0 x.1 x.2 in
            let new = mine.new in
            omega (arith, same, within, new))

        kept : IsFollowed (again_in net (reverse_lane l) w) (passed (reverse_lane l)) (ack_done net l w) a
        kept =
            all_at (IsEntryKept (reverse_lane l) (is_new_ack h.older) (again_in net (reverse_lane l) w) (passed (reverse_lane l)) (ack_done net l w)) (w.volatile to).window j a h.acks.entries there lane
            (and_both (is_ack a.transmission.item) _ (ap is_ack (ack_of a.transmission e.offset answer.shaped heard)) (ap not (ap (is_at h.older) heard ∙ not_older)))

        -- The acknowledgement names the fact.
        named : e.transmission.item ≡ DataItem (item_name a.transmission.item)
        named =
            let m : Name = item_name a.transmission.item in
            let names : AnswersFrameOf w.frames a.transmission.lane (Some e.offset) m =
            subst (λ (o : Option ℕ). AnswersFrameOf w.frames a.transmission.lane o m) heard (all_at (λ (x : Entry). NamesItsFrame w.frames x.transmission) (w.volatile to).window j a (naming to).sent there) in
            let turned : reverse_lane a.transmission.lane ≡ l = ap reverse_lane (lane_eq_from a.transmission.lane (reverse_lane l) lane) ∙ reverse_twice l in
            let frame : HasFrameOf (w.frames l) e.offset m = subst (λ (x : Lane). HasFrameOf (w.frames x) e.offset m) turned names in
            let mine : slice_get (w.frames l) entry.number ≡ Some (record { offset = e.offset; item = e.transmission.item }) =
            ap (λ (x : Lane). slice_get (w.frames x) entry.number) (sym (lane_eq_from e.transmission.lane l on)) ∙ entry.frame in
            let same : frame.number ≡ entry.number = same_frame w.durable.facts (w.durable.own l) (w.frames l) _ (c.now.owned l) frame.number entry.number _ _ frame.there mine refl in
            sym (items (record { offset = e.offset; item = DataItem m }) (record { offset = e.offset; item = e.transmission.item }) (sym frame.there ∙ ap (slice_get (w.frames l)) same ∙ mine))
          where
            items : (b d : Allocation) → Some b ≡ Some d → b.item ≡ d.item
            items b d k = let is : b ≡ d = cc in ap (λ (x : Allocation). x.item) is

        not_sent : IsFollowed (again_in net (reverse_lane l) w) (passed (reverse_lane l)) (ack_done net l w) a → ⊥
        not_sent (Due is) = not_both _ (due_found (reverse_lane l) (w.volatile to).window j a there lane is) back.due
        not_sent (Again is) = none_again (reverse_lane l) a.offset is
        not_sent (Waits k put waits) = not_both (passed (reverse_lane l) k) (all_back k (on_wires to k a (reverse_lane l) answer lane put)) waits
        not_sent (Done is) = never_acked from i e (item_name a.transmission.item) at named is

      -- nor by one that is pending.
      not_pending : (j : ℕ) (a : PendingAck) → slice_get (w.volatile to).pending_acks j ≡ Some a → pends_for l e.offset a ≡ true → ⊥
      not_pending j a there is =
          not_both _ (any_of (λ (x : PendingAck). lane_eq x.lane (reverse_lane (reverse_lane l))) (w.volatile to).pending_acks a j there
          (ap (lane_eq a.lane) (reverse_twice l) ∙ and_left (lane_eq a.lane l) (a.offset == e.offset) is)) back.pending

      not_answered : is_answered l e.offset (w.volatile to) ≡ true → ⊥
      not_answered is = elim (or_cases (list_any (is_sent_for l e.offset) (w.volatile to).window) _ is) [
        | inl sent ↦ let x = any_at (is_sent_for l e.offset) (w.volatile to).window sent in not_sent x.0 x.1 x.2 x.3 (kept x.0 x.1 x.2 x.3)
        | inr pends ↦ let x = any_at (pends_for l e.offset) (w.volatile to).pending_acks pends in not_pending x.0 x.1 x.2 x.3
      ]

      not_followed : IsFollowed (again_in net l w) (passed l) (fact_done net l w) e → ⊥
      not_followed (Due is) = not_both _ (due_found l (w.volatile from).window i e at on is) here.due
      not_followed (Again is) = none_again l e.offset is
      not_followed (Waits k put waits) = not_both (passed l k) (all k (on_wires from k e l entry on put)) waits
      not_followed (Done is) = elim (or_cases (has (w.durable.acked from) (item_name e.transmission.item)) _ is) [
        | inl acked ↦ never_acked from i e (item_name e.transmission.item) at item acked
        | inr answered ↦ not_answered (ap (λ (u : ℕ). is_answered l e.offset (w.volatile u)) (sender_back net.site l) ∙ answered)
      ]

    pub none_flies : list_any (flies_on l) (w.volatile from).window ≡ false
    none_flies = not_false (list_any (flies_on l) (w.volatile from).window) (λ some.
        let x = any_at (flies_on l) (w.volatile from).window some in
        let e : Entry = x.1 in
        let on = and_left (lane_eq e.transmission.lane l) (is_data_entry e) x.3 in
        let item = fact_of e.transmission ((c.volatile from).entries x.0 e x.2).shaped (and_right (lane_eq e.transmission.lane l) (is_data_entry e) x.3) in
        not_followed x.0 e x.2 x.3 on item
        (all_at (IsEntryKept l sends_fact (again_in net l w) (passed l) (fact_done net l w)) (w.volatile from).window x.0 e h.facts.entries x.2 on (ap is_fact item)))
