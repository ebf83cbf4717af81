-- Every action but a start keeps frames answered while their receiver stays up, and all that was acknowledged.
use Rattle.std.proofs.Common.{◌≡◌, ℕ, true, false, List, [], ◌∷◌, ◌++◌, refl, sym, ◌∙◌, subst}
use Rattle.std.specs.Prelude.{◌==◌, if◌then◌else◌}
use Rattle.qkd_base.specs.Name.{Name, name_eq, has}
use Rattle.qkd_base.specs.declared.lane.Lane.{Lane}
use Rattle.net_model.specs.declared.fact.Fact.{Fact}
use Rattle.net_model.specs.declared.record.Record.{Record}
use Rattle.net_model.specs.declared.record.Record.TheVariants.{Block as Block', Lease, Learned, Acked, Handed, Closed, Bare}
use Rattle.net_model.specs.Premises.{IsNetwork}
use Rattle.net_model.specs.Table.{name_of}
use Rattle.net_model.specs.Site.{Site, sender, receiver}
use Rattle.net_model.specs.World.{Network, World, Durable, Volatile, no_volatile}
use Rattle.net_model.specs.Needed.{masked, view_of}
use Rattle.net_model.specs.Records.{block_taken, apply_record, replay}
use Rattle.net_model.specs.Decision.{Effect}
use Rattle.net_model.specs.Plan.{plan}
use Rattle.net_model.specs.Relay.{owed, receive_fact, receive_ack}
use Rattle.net_model.specs.Invariant.{Conserved}
use Rattle.net_model.specs.Action.{Action}
use Rattle.net_model.specs.Frames.{allocate}
use Rattle.net_model.specs.Handle.{commit, stopped}
use Rattle.net_model.specs.Step.{step, is_enabled}
use Rattle.law_base.proofs.Base.{by_number, by_test, or_left}
use Rattle.law_base.proofs.Tables.{has-push}
use Rattle.law_quiet.specs.Passes.{is_start}
use Rattle.law_quiet.proofs.LifeWalks.{IsLifelong, planned_by, noted_by, life_walk}
use Rattle.law_quiet.proofs.Hearing.{is_answered, heard_stays, cleared_stays, planned_stays, noted_stays}

-- What was acknowledged stays so.

module _ (s : Site) (v u : ℕ) (n : Name) where
  one_more : (r : Record) (d : Durable) → has (d.acked u) n ≡ true → has ((apply_record s v r d).acked u) n ≡ true
  unfolding apply_record block_taken
  one_more (Block' link number bytes) d h = h
  one_more (Lease lane end) d h = h
  one_more (Learned f) d h = h
  one_more (Acked m) d h = by_number (λ k b. has (d.acked k) n ≡ true → has (if b then d.acked v ++ m ∷ [] else d.acked k) n ≡ true) v
      (λ old. has-push (d.acked v) m n ∙ or_left (has (d.acked v) n) (name_eq m n) old) (λ k ne old. old) u h
  one_more (Handed m sae) d h = h
  one_more (Closed m sae) d h = h
  one_more (Bare f) d h = h

  all_more : (rs : List Record) (d : Durable) → has (d.acked u) n ≡ true → has ((replay s v rs d).acked u) n ≡ true
  unfolding replay
  all_more [] d h = h
  all_more (r ∷ rs) d h = all_more rs (apply_record s v r d) (one_more r d h)

module _ (net : Network) (w : World) (network : IsNetwork net) (c : Conserved net w) where
  module _ (u : ℕ) (n : Name) (h : has (w.durable.acked u) n ≡ true) where
    abbrev IsAcked : World → Type 0
    IsAcked x = has (x.durable.acked u) n ≡ true

    commits_acked : (v octets : ℕ) (e : Effect) → IsAcked (commit net.site w v octets e)
    unfolding commit
    commits_acked v octets e = all_more net.site v u n e.batch w.durable h

    acked_life : IsLifelong net w IsAcked
    unfolding stopped allocate
    acked_life = record {
      same = h;
      stops = λ v octets e. h;
      does = λ v octets e is. commits_acked v octets e;
      plans = λ v. commits_acked v 0 _;
      hears = λ l j a f at is. commits_acked (receiver net.site l) 0 _;
      answers = λ l m. commits_acked (receiver net.site l) 0 _;
      notes = λ v. commits_acked v 0 _;
      unheard = λ v down. h;
      allocates = λ t. h;
      refuses = λ l j o is. h;
      puts = λ l j o is. h;
      crashes = λ v. h;
      links = λ link b. h;
    }

    pub step_acked : (a : Action) → is_start a ≡ false → is_enabled net w a ≡ true → has ((step net w a).0.durable.acked u) n ≡ true
    step_acked a other may = life_walk net w network c IsAcked acked_life a other may

  -- A frame that was answered stays so while its receiver lives.

  module _ (u : ℕ) (l : Lane) (x : ℕ) (h : is_answered l x (w.volatile u) ≡ true) where
    abbrev Answered : Volatile → Type 0
    Answered vol = is_answered l x vol ≡ true

    abbrev Lives : World → Type 0
    Lives y = y.up u ≡ true → Answered (y.volatile u)

    mine : (v : ℕ) → u ≡ v → Answered (w.volatile v)
    mine v is = subst (λ (k : ℕ). Answered (w.volatile k)) is h

    commits : (v octets : ℕ) (e : Effect) → (u ≡ v → Answered e.volatile) → Lives (commit net.site w v octets e)
    unfolding commit
    commits v octets e new up = by_number (λ k b. u ≡ k → Answered (if b then e.volatile else w.volatile k)) v new (λ k ne is. mine k is) u refl

    left_up : (v : ℕ) → (if u == v then false else w.up u) ≡ true → Answered (if u == v then no_volatile else w.volatile u)
    left_up v up = by_number (λ k b. (if b then false else w.up k) ≡ true → u ≡ k → Answered (if b then no_volatile else w.volatile k)) v (λ down is. cc) (λ k ne yes is. mine k is) u up refl

    stops : (v octets : ℕ) (e : Effect) → Lives (stopped w v octets e)
    unfolding stopped
    stops v octets e up = left_up v up

    plan_answers : (v : ℕ) → u ≡ v → Answered (planned_by net w v).volatile
    unfolding plan view_of masked
    plan_answers v is = planned_stays l x (w.volatile v) _ (planned_by net w v).volatile.awaiting (mine v is)

    fact_answers : (v : ℕ) (m : Lane) (offset : ℕ) (f : Fact) → u ≡ v → Answered (receive_fact (view_of net w v) m offset f).volatile
    unfolding receive_fact view_of masked
    fact_answers v m offset f is = heard_stays l x (w.volatile v) m offset (name_of f) (mine v is)

    ack_answers : (v : ℕ) (m : Lane) (from : ℕ) (n : Name) → u ≡ v → Answered (receive_ack (view_of net w v) m from n).volatile
    unfolding receive_ack view_of masked
    ack_answers v m from n is = by_test Answered (has (owed (view_of net w v) from) n) _ _
        (λ t. cleared_stays l x (w.volatile v) m n (λ i e at. ((c.volatile v).entries i e at).shaped) (mine v is)) (λ t. mine v is)

    life : IsLifelong net w Lives
    unfolding allocate
    life = record {
      same = λ up. h;
      stops = stops;
      does = λ v octets e same. commits v octets e (λ is. subst Answered (sym same) (mine v is));
      plans = λ v. commits v 0 _ (plan_answers v);
      hears = λ m j a f at is. commits (receiver net.site m) 0 _ (fact_answers (receiver net.site m) m a.offset f);
      answers = λ m n. commits (receiver net.site m) 0 _ (ack_answers (receiver net.site m) m (sender net.site m) n);
      notes = λ v. commits v 0 (noted_by w v) (λ is. noted_stays l x (w.durable.acked v) (w.placings v) (w.volatile v) (mine v is));
      unheard = λ v down up. h;
      allocates = λ t up. h;
      refuses = λ m j o is up. h;
      puts = λ m j o is up. h;
      crashes = λ v up. left_up v up;
      links = λ link b up. h;
    }

    pub step_answered : (a : Action) → is_start a ≡ false → is_enabled net w a ≡ true → (step net w a).0.up u ≡ true → is_answered l x ((step net w a).0.volatile u) ≡ true
    step_answered a other may = life_walk net w network c Lives life a other may

  -- Only a start brings a manager up.

  module _ (u : ℕ) where
    abbrev WasUp : World → Type 0
    WasUp y = y.up u ≡ true → w.up u ≡ true

    down_before : (v : ℕ) → (if u == v then false else w.up u) ≡ true → w.up u ≡ true
    down_before v up = by_number (λ k b. (if b then false else w.up k) ≡ true → w.up k ≡ true) v (λ down. cc) (λ k ne yes. yes) u up

    commits_up : (v octets : ℕ) (e : Effect) → WasUp (commit net.site w v octets e)
    unfolding commit
    commits_up v octets e up = up

    stops_up : (v octets : ℕ) (e : Effect) → WasUp (stopped w v octets e)
    unfolding stopped
    stops_up v octets e up = down_before v up

    up_life : IsLifelong net w WasUp
    unfolding allocate
    up_life = record {
      same = λ up. up;
      stops = stops_up;
      does = λ v octets e same. commits_up v octets e;
      plans = λ v. commits_up v 0 _;
      hears = λ m j a f at is. commits_up (receiver net.site m) 0 _;
      answers = λ m n. commits_up (receiver net.site m) 0 _;
      notes = λ v. commits_up v 0 (noted_by w v);
      unheard = λ v down up. up;
      allocates = λ t up. up;
      refuses = λ m j o is up. up;
      puts = λ m j o is up. up;
      crashes = λ v up. down_before v up;
      links = λ link b up. up;
    }

    pub step_up : (a : Action) → is_start a ≡ false → is_enabled net w a ≡ true → (step net w a).0.up u ≡ true → w.up u ≡ true
    step_up a other may = life_walk net w network c WasUp up_life a other may
