-- While no fact of an earlier time flies on a lane, each fact that flies there has a frame of a later time.
use Rattle.std.proofs.Common.{◌≡◌, ℕ, ◌≤◌, true, false, not, ◌&&◌, List, [], ◌∷◌, ◌++◌, length, map, refl, sym, ◌∙◌, ap, subst, arith, length-append, Option, Some}
use Rattle.std.specs.Prelude.{◌==◌, slice_get, is_some, is_none, if◌then◌else◌}
use Rattle.std.specs.List.{list_any, AllByRecursion}
use Rattle.qkd_base.specs.Family.{number_set}
use Rattle.qkd_base.specs.Lane.{lane_eq}
use Rattle.qkd_base.specs.Name.{Name, has}
use Rattle.qkd_base.specs.declared.lane.Lane.{Lane}
use Rattle.net_model.specs.declared.fact.Fact.{Fact}
use Rattle.net_model.specs.declared.placing.Placing.{Placing}
use Rattle.net_model.specs.Premises.{IsNetwork}
use Rattle.net_model.specs.Table.{name_of}
use Rattle.net_model.specs.Site.{sender, receiver}
use Rattle.net_model.specs.World.{Network, World, Allocation, Transmission, Entry, PendingAck, Outgoing, Volatile, no_volatile}
use Rattle.net_model.specs.Needed.{masked, view_of}
use Rattle.net_model.specs.Window.{transmission_eq, answers_frame, mark_due, acknowledge, is_data_entry, age, sent_again, stands_at, record_retransmission, transmission_of, entry_of, is_acked_item, complete_one, complete}
use Rattle.net_model.specs.Decision.{Effect}
use Rattle.net_model.specs.Plan.{plan}
use Rattle.net_model.specs.Relay.{owed, receive_fact, receive_ack}
use Rattle.net_model.specs.Invariant.{Conserved}
use Rattle.net_model.specs.Action.{Action, Allocate}
use Rattle.net_model.specs.Handle.{outgoing_repeat, with_repeats, commit, stopped}
use Rattle.net_model.specs.Frames.{offset_or_zero, allocate, without_frame, outgoing_of, placing_of, put}
use Rattle.net_model.specs.Step.{step, is_enabled}
use Rattle.law_base.proofs.Base.{by_lane, by_number, by_test, and_left, and_right, lane_eq_from}
use Rattle.law_base.proofs.Lists.{all_at, all_both, all_kept, found_at}
use Rattle.law_base.proofs.Lasting.{step_more}
use Rattle.law_quiet.specs.Passes.{is_start}
use Rattle.law_quiet.specs.Still.{flies_on}
use Rattle.law_quiet.proofs.LifeWalks.{IsLifelong, planned_by, noted_by, life_walk}
use Rattle.law_quiet.proofs.Tracks.{all_more}

-- The frame at this offset is none of the first `base` ones.
pub record IsNewAt (base : ℕ) (frames : List Allocation) (offset : ℕ) : Type 0 where
  pub number : ℕ
  pub new : base ≤ number
  pub frame : Allocation
  pub there : slice_get frames number ≡ Some frame
  pub place : frame.offset ≡ offset

abbrev pub IsNewEntry : Lane → ℕ → List Allocation → Entry → Type 0
IsNewEntry l base frames e = flies_on l e ≡ true → IsNewAt base frames e.offset

abbrev pub IsNewPlacing : Lane → ℕ → List Allocation → Placing → Type 0
IsNewPlacing l base frames p = p.fresh ≡ true → lane_eq p.lane l ≡ true → is_none p.ack_of ≡ true → IsNewAt base frames p.offset

abbrev pub IsNewWaiting : ℕ → Outgoing → Type 0
IsNewWaiting base o = o.fresh ≡ true → is_none o.transmission.received_offset ≡ true → base ≤ o.frame

pub record IsFresh (net : Network) (l : Lane) (base : ℕ) (w : World) : Type 0 where
  pub entries : AllByRecursion (IsNewEntry l base (w.frames l)) (w.volatile (sender net.site l)).window
  pub placings : AllByRecursion (IsNewPlacing l base (w.frames l)) (w.placings (sender net.site l))
  pub waiting : AllByRecursion (IsNewWaiting base) (w.outgoing l)
  pub above : base ≤ length (w.frames l)

none_repeated : (base : ℕ) (frames : List Allocation) (es : List Entry) → AllByRecursion (IsNewWaiting base) (map (outgoing_repeat frames) es)
none_repeated base frames [] = tt
none_repeated base frames (e ∷ es) = (λ fresh. cc, none_repeated base frames es)

all_without : (P : Outgoing → Type 0) (j : ℕ) (os : List Outgoing) → AllByRecursion P os → AllByRecursion P (without_frame j os)
all_without P j [] h = tt
all_without P j (o ∷ os) h = by_test (AllByRecursion P) (o.frame == j) os (o ∷ without_frame j os) (λ t. h.1) (λ t. (h.0, all_without P j os h.1))

module _ (l : Lane) (base : ℕ) (frames : List Allocation) where
  abbrev AllNew : List Entry → Type 0
  AllNew es = AllByRecursion (IsNewEntry l base frames) es

  changed : (g : Entry → Entry) → ((e : Entry) → IsNewEntry l base frames e → IsNewEntry l base frames (g e)) → (es : List Entry) → AllNew es → AllNew (map g es)
  changed g so [] h = tt
  changed g so (e ∷ es) h = (so e h.0, changed g so es h.1)

  marked : (m : Lane) (offset : ℕ) (e : Entry) → IsNewEntry l base frames e → IsNewEntry l base frames (mark_due m offset e)
  marked m offset e h = by_test (IsNewEntry l base frames) (answers_frame m offset e.transmission) _ e (λ t. h) (λ t. h)

  aged : (e : Entry) → IsNewEntry l base frames e → IsNewEntry l base frames (age e)
  aged e h = by_test (IsNewEntry l base frames) (is_data_entry e) _ e (λ t. h) (λ t. h)

  again : (out : List Entry) (e : Entry) → IsNewEntry l base frames e → IsNewEntry l base frames (sent_again out e)
  again out e h = by_test (IsNewEntry l base frames) (list_any (λ (x : Entry). lane_eq x.transmission.lane e.transmission.lane && (x.offset == e.offset)) out) _ e (λ t. h) (λ t. h)

  put_again : (p : Placing) (e : Entry) → IsNewEntry l base frames e → IsNewEntry l base frames (record_retransmission p e)
  put_again p e h = by_test (IsNewEntry l base frames) (stands_at p e) (if is_some p.number then record e { number = p.number } else record e { due = true }) e
      (λ t. by_test (IsNewEntry l base frames) (is_some p.number) (record e { number = p.number }) (record e { due = true }) (λ k. h) (λ k. h)) (λ t. h)

  heard : (vol : Volatile) (m : Lane) (offset : ℕ) (n : Name) → AllNew vol.window → AllNew (acknowledge vol m offset n).window
  unfolding acknowledge
  heard vol m offset n h =
      by_test (λ (y : Volatile). AllNew y.window) (list_any (λ (e : Entry). answers_frame m offset e.transmission) vol.window) _ _ (λ t. changed (mark_due m offset) (marked m offset) vol.window h)
      (λ t. by_test (λ (y : Volatile). AllNew y.window) (list_any (λ (a : PendingAck). lane_eq a.lane m && (a.offset == offset)) vol.pending_acks) _ _ (λ k. h) (λ k. h))

  noted_one : (acked : List Name) (vol : Volatile) (p : Placing) → IsNewPlacing l base frames p → AllNew vol.window → AllNew (complete_one acked vol p).window
  unfolding complete_one
  noted_one acked vol p new h =
      by_test (λ (y : Volatile). AllNew y.window) p.fresh _ _
      (λ fresh. by_test (λ (y : Volatile). AllNew y.window) (list_any (transmission_eq (transmission_of p)) vol.awaiting && not (list_any (stands_at p) vol.window)) _ _
      (λ t. by_test AllNew (is_acked_item acked (transmission_of p).item) vol.window (vol.window ++ entry_of p ∷ []) (λ k. h)
      (λ k. all_both (IsNewEntry l base frames) vol.window (entry_of p ∷ []) h ((λ flies. new fresh (and_left (lane_eq p.lane l) (is_none p.ack_of) flies) (and_right (lane_eq p.lane l) (is_none p.ack_of) flies)), tt)))
      (λ t. h)) (λ repeat. changed (record_retransmission p) (put_again p) vol.window h)

  noted : (acked : List Name) (ps : List Placing) (vol : Volatile) → AllByRecursion (IsNewPlacing l base frames) ps → AllNew vol.window → AllNew (complete acked vol ps).window
  unfolding complete
  noted acked [] vol new h = h
  noted acked (p ∷ ps) vol new h = noted acked ps (complete_one acked vol p) new.1 (noted_one acked vol p new.0 h)

module _ (net : Network) (w : World) (network : IsNetwork net) (c : Conserved net w) (l : Lane) (base : ℕ) (h : IsFresh net l base w) where
  abbrev from : ℕ
  from = sender net.site l

  abbrev New : List Entry → Type 0
  New es = AllByRecursion (IsNewEntry l base (w.frames l)) es

  mine : (v : ℕ) → from ≡ v → New (w.volatile v).window
  mine v is = subst (λ (u : ℕ). New (w.volatile u).window) is h.entries

  told : (v : ℕ) → from ≡ v → AllByRecursion (IsNewPlacing l base (w.frames l)) (w.placings v)
  told v is = subst (λ (u : ℕ). AllByRecursion (IsNewPlacing l base (w.frames l)) (w.placings u)) is h.placings

  repeats : (es : List Entry) → AllByRecursion (IsNewWaiting base) (with_repeats es w.frames w.outgoing l)
  repeats [] = h.waiting
  repeats (e ∷ es) = all_both (IsNewWaiting base) (w.outgoing l) _ h.waiting (none_repeated base (w.frames l) _)

  commits : (v octets : ℕ) (e : Effect) → (from ≡ v → New e.volatile.window) → IsFresh net l base (commit net.site w v octets e)
  unfolding commit
  commits v octets e new = record {
    entries = by_number (λ u b. from ≡ u → New (if b then e.volatile else w.volatile u).window) v new (λ u ne is. mine u is) from refl;
    placings = h.placings;
    waiting = repeats e.repeats;
    above = h.above;
  }

  left : (v : ℕ) → New (if from == v then no_volatile else w.volatile from).window
  left v = by_number (λ u b. from ≡ u → New (if b then no_volatile else w.volatile u).window) v (λ is. tt) (λ u ne is. mine u is) from refl

  stops : (v octets : ℕ) (e : Effect) → IsFresh net l base (stopped w v octets e)
  unfolding stopped
  stops v octets e = record { entries = left v; placings = h.placings; waiting = h.waiting; above = h.above }

  plan_new : (v : ℕ) → from ≡ v → New (planned_by net w v).volatile.window
  unfolding plan view_of masked
  plan_new v is = changed l base (w.frames l) (sent_again _) (again l base (w.frames l) _) (map age (w.volatile v).window) (changed l base (w.frames l) age (aged l base (w.frames l)) (w.volatile v).window (mine v is))

  fact_new : (v : ℕ) (m : Lane) (offset : ℕ) (f : Fact) → from ≡ v → New (receive_fact (view_of net w v) m offset f).volatile.window
  unfolding receive_fact view_of masked
  fact_new v m offset f is = heard l base (w.frames l) (w.volatile v) m offset (name_of f) (mine v is)

  ack_new : (v : ℕ) (m : Lane) (u : ℕ) (n : Name) → from ≡ v → New (receive_ack (view_of net w v) m u n).volatile.window
  unfolding receive_ack view_of masked
  ack_new v m u n is = by_test (λ (vol : Volatile). New vol.window) (has (owed (view_of net w v) u) n) _ _ (λ t. all_kept (IsNewEntry l base (w.frames l)) _ (w.volatile v).window (mine v is)) (λ t. mine v is)

  -- Placings are noted.

  left_told : (v : ℕ) → AllByRecursion (IsNewPlacing l base (w.frames l)) (number_set w.placings v [] from)
  left_told v = by_number (λ u b. from ≡ u → AllByRecursion (IsNewPlacing l base (w.frames l)) (if b then [] else w.placings u)) v (λ is. tt) (λ u ne is. told u is) from refl

  notes : (v : ℕ) → IsFresh net l base (record (commit net.site w v 0 (noted_by w v)) { placings = number_set w.placings v [] })
  unfolding commit
  notes v =
      let x = commits v 0 (noted_by w v) (λ is. noted l base (w.frames l) (w.durable.acked v) (w.placings v) (w.volatile v) (told v is) (mine v is)) in
      record { entries = x.entries; placings = left_told v; waiting = x.waiting; above = x.above }

  -- Orders get their bytes, and frames are put.

  framed_on : (t : Transmission) (j : ℕ) (a : Allocation) → slice_get (w.frames l) j ≡ Some a → slice_get ((allocate w t).0.frames l) j ≡ Some a
  unfolding step
  framed_on t j a at = (step_more net w (Allocate t)).frames l j a at

  claims : (t : Transmission) → IsFresh net l base (allocate w t).0
  unfolding allocate
  claims t =
      let stays : (j : ℕ) (a : Allocation) → slice_get (w.frames l) j ≡ Some a → slice_get ((allocate w t).0.frames l) j ≡ Some a = framed_on t in
      let new : (x : ℕ) → IsNewAt base (w.frames l) x → IsNewAt base ((allocate w t).0.frames l) x =
      λ x k. record { number = k.number; new = k.new; frame = k.frame; there = stays k.number k.frame k.there; place = k.place } in
      record {
        entries = all_more (IsNewEntry l base (w.frames l)) (IsNewEntry l base ((allocate w t).0.frames l)) (w.volatile from).window (λ i e at old flies. new e.offset (old flies)) h.entries;
        placings = all_more (IsNewPlacing l base (w.frames l)) (IsNewPlacing l base ((allocate w t).0.frames l)) (w.placings from) (λ i p at old fresh lane none. new p.offset (old fresh lane none)) h.placings;
        waiting = by_lane (λ k b. base ≤ length (w.frames k) → AllByRecursion (IsNewWaiting base) (w.outgoing k) →
            AllByRecursion (IsNewWaiting base) (if b then w.outgoing t.lane ++ record { frame = length (w.frames t.lane); transmission = t; fresh = true } ∷ [] else w.outgoing k)) t.lane
            (λ above old. all_both (IsNewWaiting base) (w.outgoing t.lane) _ old ((λ fresh none. above), tt)) (λ k above old. old) l h.above h.waiting;
        above = by_lane (λ k b. base ≤ length (w.frames k) → base ≤ length (if b then w.frames t.lane ++ record { offset = length (w.durable.own t.lane); item = t.item } ∷ [] else w.frames k)) t.lane
            (λ old. let more = length-append (w.frames t.lane) (record { offset = length (w.durable.own t.lane); item = t.item } ∷ []) in omega (arith, old, more)) (λ k old. old) l h.above;
      }

  told_new : (m : Lane) (o : Outgoing) (i : ℕ) (number : Option ℕ) → slice_get (w.outgoing m) i ≡ Some o → IsNewPlacing l base (w.frames l) (placing_of net w m o number)
  told_new m o i number at fresh lane none =
      let on : m ≡ l = lane_eq_from m l lane in
      let here : slice_get (w.outgoing l) i ≡ Some o = ap (λ (x : Lane). slice_get (w.outgoing x) i) (sym on) ∙ at in
      let carried = (c.wired l).put i o here in
      record {
        number = o.frame;
        new = all_at (IsNewWaiting base) (w.outgoing l) i o h.waiting here fresh none;
        frame = carried.0;
        there = carried.1;
        place = sym (ap (λ (x : Lane). offset_or_zero (slice_get (w.frames x) o.frame)) on ∙ ap offset_or_zero carried.1);
      }

  puts : (m : Lane) (j : ℕ) (o : Outgoing) (wire : List ℕ) (number : Option ℕ) → outgoing_of j (w.outgoing m) ≡ Some o → IsFresh net l base (put net w m o wire number)
  puts m j o wire number is =
      let at = found_at (λ (y : Outgoing). y.frame == j) (w.outgoing m) o is in
      record {
        entries = h.entries;
        placings = by_number (λ u b. from ≡ u → AllByRecursion (IsNewPlacing l base (w.frames l)) (if b then w.placings (sender net.site m) ++ placing_of net w m o number ∷ [] else w.placings u)) (sender net.site m)
            (λ own. all_both (IsNewPlacing l base (w.frames l)) (w.placings (sender net.site m)) (placing_of net w m o number ∷ []) (told (sender net.site m) own) (told_new m o at.0 number at.1, tt)) (λ u ne own. told u own) from refl;
        waiting = by_lane (λ k b. AllByRecursion (IsNewWaiting base) (w.outgoing k) → AllByRecursion (IsNewWaiting base) (if b then without_frame o.frame (w.outgoing m) else w.outgoing k)) m
            (λ old. all_without (IsNewWaiting base) o.frame (w.outgoing m) old) (λ k old. old) l h.waiting;
        above = h.above;
      }

  life : IsLifelong net w (IsFresh net l base)
  life = record {
    same = h;
    stops = stops;
    does = λ v octets e same. commits v octets e (λ is. subst (λ (vol : Volatile). New vol.window) (sym same) (mine v is));
    plans = λ v. commits v 0 (planned_by net w v) (plan_new v);
    hears = λ m j a f at is. commits (receiver net.site m) 0 _ (fact_new (receiver net.site m) m a.offset f);
    answers = λ m n. commits (receiver net.site m) 0 _ (ack_new (receiver net.site m) m (sender net.site m) n);
    notes = notes;
    unheard = λ v down. record { entries = h.entries; placings = left_told v; waiting = h.waiting; above = h.above };
    allocates = claims;
    refuses = λ m j o is. puts m j o _ _ is;
    puts = λ m j o is. puts m j o _ _ is;
    crashes = λ v. record { entries = left v; placings = h.placings; waiting = h.waiting; above = h.above };
    links = λ link b. record { entries = h.entries; placings = h.placings; waiting = h.waiting; above = h.above };
  }

  pub step_fresh : (a : Action) → is_start a ≡ false → is_enabled net w a ≡ true → IsFresh net l base (step net w a).0
  step_fresh a other may = life_walk net w network c (IsFresh net l base) life a other may
