-- Every action but a start keeps the frames of a lane followed, while the lane's sender stays up.
use Rattle.std.proofs.Common.{◌≡◌, ℕ, ◌+◌, Bool, true, false, List, [], ◌∷◌, ◌++◌, length, refl, sym, subst, arith, Some, None, length-append}
use Rattle.std.specs.Prelude.{◌==◌, suc, zero, slice_get, if◌then◌else◌}
use Rattle.std.specs.List.{AllByRecursion}
use Rattle.qkd_base.specs.Family.{number_set}
use Rattle.qkd_base.specs.Name.{Name, has}
use Rattle.qkd_base.specs.declared.lane.Lane.{Lane}
use Rattle.net_model.specs.declared.fact.Fact.{Fact}
use Rattle.net_model.specs.declared.placing.Placing.{Placing}
use Rattle.net_model.specs.Premises.{IsNetwork}
use Rattle.net_model.specs.Item.{Item}
use Rattle.net_model.specs.Table.{name_of}
use Rattle.net_model.specs.Site.{sender, receiver}
use Rattle.net_model.specs.World.{Network, World, Entry, Outgoing, Volatile, no_volatile, Transmission}
use Rattle.net_model.specs.Needed.{masked, view_of}
use Rattle.net_model.specs.Window.{complete_one, complete}
use Rattle.net_model.specs.Windows.{IsPlaced, IsVolatile}
use Rattle.net_model.specs.Decision.{Effect}
use Rattle.net_model.specs.Relay.{owed, receive_fact, receive_ack}
use Rattle.net_model.specs.Invariant.{Conserved}
use Rattle.net_model.specs.Action.{Action}
use Rattle.net_model.specs.Handle.{with_repeats, commit, stopped}
use Rattle.net_model.specs.Step.{step, is_enabled}
use Rattle.law_base.proofs.Base.{by_number, by_test, not_both}
use Rattle.law_base.proofs.Lists.{all_kept}
use Rattle.law_invariant.proofs.Completing.{placings_keep}
use Rattle.law_quiet.specs.Passes.{is_start}
use Rattle.law_quiet.proofs.LifeWalks.{IsLifelong, planned_by, noted_by, life_walk}
use Rattle.law_quiet.proofs.Tracks.{again_at, again_in, IsEntryKept, IsPlacingKept, IsTracked, more_again, heard_kept}
use Rattle.law_quiet.proofs.TrackRepeats.{committed_again, plan_kept}
use Rattle.law_quiet.proofs.TrackNotes.{one_noted}
use Rattle.law_quiet.proofs.TrackPuts.{claimed, put_kept}

module _ (net : Network) (w : World) (c : Conserved net w) (l : Lane) (class : Transmission → Bool) (kind : Item → Bool) (of_kind : (t : Transmission) → class t ≡ true → kind t.item ≡ true) (passed : ℕ → Bool) (done : Item → ℕ → Bool) (h : IsTracked net l class kind passed done w) where
  abbrev from : ℕ
  from = sender net.site l

  abbrev AllKept : (ℕ → Bool) → List Entry → Type 0
  AllKept again es = AllByRecursion (IsEntryKept l class again passed done) es

  abbrev AllTold : List Placing → Type 0
  AllTold ps = AllByRecursion (IsPlacingKept l kind passed done) ps

  -- It is so while the sender is up.
  abbrev Kept : World → Type 0
  Kept x = x.up from ≡ true → IsTracked net l class kind passed done x

  mine : (v : ℕ) → from ≡ v → AllKept (again_in net l w) (w.volatile v).window
  mine v is = subst (λ (u : ℕ). AllKept (again_in net l w) (w.volatile u).window) is h.entries

  told : (v : ℕ) → from ≡ v → AllTold (w.placings v)
  told v is = subst (λ (u : ℕ). AllTold (w.placings u)) is h.placings

  abbrev after : List Entry → ℕ → Bool
  after out x = again_at l (w.frames l) (with_repeats out w.frames w.outgoing l) (w.placings from) x

  commits : (v octets : ℕ) (e : Effect) → (from ≡ v → AllKept (after e.repeats) e.volatile.window) → IsTracked net l class kind passed done (commit net.site w v octets e)
  unfolding commit
  commits v octets e new = record {
    entries = by_number (λ u b. from ≡ u → AllKept (after e.repeats) (if b then e.volatile else w.volatile u).window) v new
        (λ u ne is. more_again l class passed done (again_in net l w) (after e.repeats) (committed_again net w c l e.repeats) (w.volatile u).window (mine u is)) from refl;
    placings = h.placings;
    within = h.within;
  }

  -- A manager that goes down isn't the sender.
  left_up : (v : ℕ) → (if from == v then false else w.up from) ≡ true → AllKept (again_in net l w) (if from == v then no_volatile else w.volatile from).window
  left_up v up = by_number (λ u b. (if b then false else w.up u) ≡ true → from ≡ u → AllKept (again_in net l w) (if b then no_volatile else w.volatile u).window) v
      (λ down is. cc) (λ u ne yes is. mine u is) from up refl

  stops : (v octets : ℕ) (e : Effect) → Kept (stopped w v octets e)
  unfolding stopped
  stops v octets e up = record { entries = left_up v up; placings = h.placings; within = h.within }

  same_kept : (v octets : ℕ) (e : Effect) → e.volatile ≡ w.volatile v → Kept (commit net.site w v octets e)
  same_kept v octets e same up =
      commits v octets e (λ is. subst (λ (vol : Volatile). AllKept (after e.repeats) vol.window) (sym same)
      (more_again l class passed done (again_in net l w) (after e.repeats) (committed_again net w c l e.repeats) (w.volatile v).window (mine v is)))

  planned : (v : ℕ) → Kept (commit net.site w v 0 (planned_by net w v))
  planned v up = commits v 0 (planned_by net w v)
      (λ is. subst (λ (u : ℕ). AllKept (after (planned_by net w u).repeats) (planned_by net w u).volatile.window) is (plan_kept net w c l class passed done h.entries))

  fact_kept : (v : ℕ) (m : Lane) (offset : ℕ) (f : Fact) → from ≡ v → AllKept (after (receive_fact (view_of net w v) m offset f).repeats) (receive_fact (view_of net w v) m offset f).volatile.window
  unfolding receive_fact view_of masked
  fact_kept v m offset f is = heard_kept l class passed done (again_in net l w) (w.volatile v) m offset (name_of f) (mine v is)

  ack_kept : (v : ℕ) (m : Lane) (u : ℕ) (n : Name) → from ≡ v → AllKept (after (receive_ack (view_of net w v) m u n).repeats) (receive_ack (view_of net w v) m u n).volatile.window
  unfolding receive_ack view_of masked
  ack_kept v m u n is = by_test (λ (vol : Volatile). AllKept (again_in net l w) vol.window) (has (owed (view_of net w v) u) n) _ _
      (λ t. all_kept (IsEntryKept l class (again_in net l w) passed done) _ (w.volatile v).window (mine v is)) (λ t. mine v is)

  -- The manager is told of its frames.

  all_noted : (v : ℕ) → from ≡ v → (acked : List Name) (ps : List Placing) (vol : Volatile) → ((n : ℕ) (p : Placing) → slice_get ps n ≡ Some p → IsPlaced net w v p) → IsVolatile net w v vol →
      AllTold ps → AllKept (again_at l (w.frames l) (w.outgoing l) ps) vol.window → AllKept (again_at l (w.frames l) (w.outgoing l) []) (complete acked vol ps).window
  unfolding complete
  all_noted v is acked [] vol placed good kept all = all
  all_noted v is acked (p ∷ ps) vol placed good kept all =
      all_noted v is acked ps (complete_one acked vol p) (λ n q at. placed (suc n) q at) (placings_keep net w v c acked vol (p ∷ []) (one p (placed zero p refl)) good) kept.1
      (one_noted net w c l class kind of_kind passed done acked vol p ps (subst (λ (u : ℕ). IsPlaced net w u p) (sym is) (placed zero p refl)) kept.0
      (λ i e at. (subst (λ (u : ℕ). IsVolatile net w u vol) (sym is) good).entries i e at) all)
    where
      one : (p : Placing) → IsPlaced net w v p → (n : ℕ) (q : Placing) → slice_get (p ∷ []) n ≡ Some q → IsPlaced net w v q
      one p at zero q e = let same : p ≡ q = cc in subst (IsPlaced net w v) same at
      one p at (suc n) q e = cc

  noted : (v : ℕ) → Kept (record (commit net.site w v 0 (noted_by w v)) { placings = number_set w.placings v [] })
  unfolding commit
  noted v up = record {
    entries = by_number (λ u b. from ≡ u → AllKept (again_at l (w.frames l) (w.outgoing l) (if b then [] else w.placings u)) (if b then (noted_by w v).volatile else w.volatile u).window) v
        (λ is. all_noted v is (w.durable.acked v) (w.placings v) (w.volatile v) (c.placed v) (c.volatile v) (told v is)
        (subst (λ (u : ℕ). AllKept (again_at l (w.frames l) (w.outgoing l) (w.placings u)) (w.volatile u).window) is h.entries))
        (λ u ne is. subst (λ (x : ℕ). AllKept (again_at l (w.frames l) (w.outgoing l) (w.placings x)) (w.volatile x).window) is h.entries) from refl;
    placings = by_number (λ u b. from ≡ u → AllTold (if b then [] else w.placings u)) v (λ is. tt) (λ u ne is. told u is) from refl;
    within = h.within;
  }

  unheard : (v : ℕ) → w.up v ≡ false → Kept (record w { placings = number_set w.placings v [] })
  unheard v down up = record {
    entries = by_number (λ u b. from ≡ u → w.up u ≡ true → AllKept (again_at l (w.frames l) (w.outgoing l) (if b then [] else w.placings u)) (w.volatile u).window) v
        (λ is alive. absurd (not_both (w.up v) alive down))
        (λ u ne is alive. subst (λ (x : ℕ). AllKept (again_at l (w.frames l) (w.outgoing l) (w.placings x)) (w.volatile x).window) is h.entries) from refl up;
    placings = by_number (λ u b. from ≡ u → AllTold (if b then [] else w.placings u)) v (λ is. tt) (λ u ne is. told u is) from refl;
    within = h.within;
  }

  longer : (m : Lane) (o : Outgoing) → length (w.wire m ++ o.frame ∷ []) ≡ length (w.wire m) + 1
  longer m o = length-append (w.wire m) (o.frame ∷ [])

  life : IsLifelong net w Kept
  life = record {
    same = λ up. h;
    stops = stops;
    does = same_kept;
    plans = planned;
    hears = λ m j a f at is up. commits (receiver net.site m) 0 _ (fact_kept (receiver net.site m) m a.offset f);
    answers = λ m n up. commits (receiver net.site m) 0 _ (ack_kept (receiver net.site m) m (sender net.site m) n);
    notes = noted;
    unheard = unheard;
    allocates = λ t up. claimed net w c l class kind passed done h t;
    refuses = λ m j o is up. put_kept net w c l class kind passed done h m j o is (w.wire m) None (omega arith) (λ k none. cc);
    puts = λ m j o is up. put_kept net w c l class kind passed done h m j o is (w.wire m ++ o.frame ∷ []) (Some (length (w.wire m))) (let more = longer m o in omega (arith, more)) (λ k at. cc);
    crashes = λ v up. record { entries = left_up v up; placings = h.placings; within = h.within };
    links = λ link b up. record { entries = h.entries; placings = h.placings; within = h.within };
  }

  pub step_kept : IsNetwork net → (a : Action) → is_start a ≡ false → is_enabled net w a ≡ true → (step net w a).0.up (sender net.site l) ≡ true → IsTracked net l class kind passed done (step net w a).0
  step_kept network a other may = life_walk net w network c Kept life a other may
