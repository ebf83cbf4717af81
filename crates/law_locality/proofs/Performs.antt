-- The same effect in both worlds has the same outcome, and a node doesn't see effects of other nodes.
use Rattle.std.proofs.Common.{◌≡◌, ◌≢◌, ℕ, suc, ◌+◌, Bool, true, false, ◌&&◌, ◌||◌, not, List, [], ◌∷◌, ◌++◌, refl, sym, ◌∙◌, ap, Some}
use Rattle.std.specs.Prelude.{◌==◌, nat_lt, filter, slice_get, if◌then◌else◌}
use Rattle.std.specs.List.{list_all}
use Rattle.qkd_base.specs.Family.{number_set}
use Rattle.qkd_base.specs.Lane.{lane_eq}
use Rattle.qkd_base.specs.declared.lane.Lane.{Lane}
use Rattle.net_model.specs.declared.reply.Reply.TheVariants.{JournalFull}
use Rattle.net_model.specs.OctetSequence.{has_octets}
use Rattle.net_model.specs.Site.{sender}
use Rattle.net_model.specs.World.{Network, World, Transmission, Journal, no_volatile}
use Rattle.net_model.specs.Journal.{journal_limit, added_len, is_nil, extended}
use Rattle.net_model.specs.Doubt.{MayReplay}
use Rattle.net_model.specs.Decision.{Effect}
use Rattle.net_model.specs.Invariant.{Conserved}
use Rattle.net_model.specs.Action.{Environment, Outcome, Replies, is_no_memory, is_entropy_fault, is_io_fault}
use Rattle.net_model.specs.Handle.{is_numbered, with_orders, commit, stopped, perform}
use Rattle.law_base.proofs.Base.{number_set_same, eq_from, not_false, not_true, or_second, by_test, lane_eq_from}
use Rattle.law_locality.proofs.Durables.{both_replay, other_replay, same_durable}
use Rattle.law_locality.proofs.Views.{SameFor, same_for}

-- The outcomes are equal, and the node sees the same of both worlds afterwards.
pub record SameResult (net : Network) (v : ℕ) (x y : World × Outcome) : Type 0 where
  pub outcome : y.1 ≡ x.1
  pub world : SameFor net v x.0 y.0

pub both_tests : {A : Type 0} (R : A → A → Type 0) (t t' : Bool) (x y x' y' : A) → t' ≡ t → (t ≡ true → R x x') → (t ≡ false → R y y') →
    R (if t then x else y) (if t' then x' else y')
both_tests R true true x y x' y' e h k = h refl
both_tests R false false x y x' y' e h k = k refl
both_tests R true false x y x' y' e h k = absurd (cc)
both_tests R false true x y x' y' e h k = absurd (cc)

-- What a node may do in one turn: permitted records, and orders on its own lanes.
pub record IsTurn (net : Network) (w : World) (v : ℕ) (e : Effect) : Type 0 where
  pub batch : list_all is_numbered e.batch ≡ true → MayReplay net.site w.durable v e.batch
  pub orders : (n : ℕ) (t : Transmission) → slice_get e.orders n ≡ Some t → sender net.site t.lane ≡ v

module _ (net : Network) (v : ℕ) (a b : World) (c : Conserved net a) (d : Conserved net b) (h : SameFor net v a b) (octets : ℕ) (e : Effect) where
  set_same : {A : Type 0} (f g : ℕ → A) (x y : A) → y ≡ x → number_set g v y v ≡ number_set f v x v
  set_same f g x y e = number_set_same g v y ∙ e ∙ sym (number_set_same f v x)

  orders_same : (ts : List Transmission) (l : Lane) → sender net.site l ≡ v → with_orders ts b.unclaimed l ≡ with_orders ts a.unclaimed l
  orders_same [] l at = h.unclaimed l at
  orders_same (t ∷ ts) l at = ap (λ us. us ++ filter (λ (x : Transmission). lane_eq x.lane l) (t ∷ ts)) (h.unclaimed l at)

  added_same : added_len (b.journal v).version e.batch ≡ added_len (a.journal v).version e.batch
  added_same = ap (λ (j : Journal). added_len j.version e.batch) h.journal

  commit_same : MayReplay net.site a.durable v e.batch → SameFor net v (commit net.site a v octets e) (commit net.site b v octets e)
  unfolding commit
  commit_same m =
      record {
        durable = both_replay net.site v a.frames b.frames a.unclaimed b.unclaimed a.durable b.durable c.now d.now h.durable e.batch m;
        unclaimed = λ l at. orders_same e.orders l at;
        links = h.links;
        frames = h.frames;
        wire = h.wire;
        recovered = h.recovered;
        up = h.up;
        drawn = set_same a.drawn b.drawn _ _ (ap (λ n. n + octets) h.drawn);
        journal = set_same a.journal b.journal _ _ (ap (λ (j : Journal). extended j (added_len j.version e.batch)) h.journal);
        volatile = set_same a.volatile b.volatile e.volatile e.volatile refl;
      }

  stopped_same : SameFor net v (stopped a v octets e) (stopped b v octets e)
  unfolding stopped
  stopped_same =
      record {
        durable = h.durable;
        unclaimed = h.unclaimed;
        links = h.links;
        frames = h.frames;
        wire = h.wire;
        recovered = h.recovered;
        up = set_same a.up b.up false false refl;
        drawn = set_same a.drawn b.drawn _ _ (ap (λ n. n + octets) h.drawn);
        journal = h.journal;
        volatile = set_same a.volatile b.volatile no_volatile no_volatile refl;
      }

  pub performs_same : (environment : Environment) → (list_all is_numbered e.batch ≡ true → MayReplay net.site a.durable v e.batch) →
      SameResult net v (perform net a v octets environment e) (perform net b v octets environment e)
  unfolding perform
  performs_same environment m =
      both_tests (SameResult net v) (is_no_memory environment || not (list_all is_numbered e.batch)) _ _ _ _ _ refl (λ x. record { outcome = refl; world = h })
      (λ numbered. let may = m (not_true (list_all is_numbered e.batch) (or_second (is_no_memory environment) _ numbered)) in
      both_tests (SameResult net v) (nat_lt journal_limit ((a.journal v).length' + added_len (a.journal v).version e.batch)) _ _ _ _ _
      (ap (λ (j : Journal). nat_lt journal_limit (j.length' + added_len j.version e.batch)) h.journal)
      (λ x. record { outcome = ap (λ (j : Journal). Replies (JournalFull j.length' (added_len j.version e.batch))) h.journal; world = h })
      (λ x. both_tests (SameResult net v) (nat_lt 0 octets && (not (has_octets (net.entropy v) (a.drawn v + octets)) || is_entropy_fault environment)) _ _ _ _ _
      (ap (λ n. nat_lt 0 octets && (not (has_octets (net.entropy v) (n + octets)) || is_entropy_fault environment)) h.drawn)
      (λ y. record { outcome = refl; world = h })
      (λ y. both_tests (SameResult net v) (is_io_fault environment && not (is_nil e.batch)) _ _ _ _ _ refl
      (λ z. record { outcome = refl; world = stopped_same }) (λ z. record { outcome = refl; world = commit_same may }))))

-- Lemmas on the effect of another node.

module _ (net : Network) (v u : ℕ) (apart : v ≢ u) (w : World) (c : Conserved net w) (octets : ℕ) (e : Effect) (m : IsTurn net w u e) where
  other_set : {A : Type 0} (f : ℕ → A) (x : A) → number_set f u x v ≡ f v
  other_set f x = ap (λ (t : Bool). if t then x else f v) (not_false (v == u) (λ e. apart (eq_from v u e)))

  none_here : (ts : List Transmission) → ((n : ℕ) (t : Transmission) → slice_get ts n ≡ Some t → sender net.site t.lane ≡ u) → (l : Lane) → sender net.site l ≡ v →
      filter (λ (x : Transmission). lane_eq x.lane l) ts ≡ []
  none_here [] each l at = refl
  none_here (t ∷ ts) each l at =
      let away : lane_eq t.lane l ≡ false = not_false (lane_eq t.lane l) (λ e. apart (sym at ∙ ap (sender net.site) (sym (lane_eq_from t.lane l e)) ∙ each 0 t refl)) in
      rw away (none_here ts (λ n x y. each (suc n) x y) l at)

  nothing_after : {A : Type 0} (xs : List A) → xs ++ [] ≡ xs
  nothing_after [] = refl
  nothing_after (x ∷ xs) = ap (λ ys. x ∷ ys) (nothing_after xs)

  orders_elsewhere : (ts : List Transmission) → ((n : ℕ) (t : Transmission) → slice_get ts n ≡ Some t → sender net.site t.lane ≡ u) → (l : Lane) → sender net.site l ≡ v →
      with_orders ts w.unclaimed l ≡ w.unclaimed l
  orders_elsewhere [] each l at = refl
  orders_elsewhere (t ∷ ts) each l at = ap (λ xs. w.unclaimed l ++ xs) (none_here (t ∷ ts) each l at) ∙ nothing_after (w.unclaimed l)

  commit_unseen : MayReplay net.site w.durable u e.batch → SameFor net v w (commit net.site w u octets e)
  unfolding commit
  commit_unseen may =
      record {
        durable = other_replay net.site v u apart w.durable w.frames w.unclaimed c.now e.batch may;
        unclaimed = λ l at. orders_elsewhere e.orders m.orders l at;
        links = refl;
        frames = refl;
        wire = refl;
        recovered = refl;
        up = refl;
        drawn = other_set w.drawn _;
        journal = other_set w.journal _;
        volatile = other_set w.volatile _;
      }

  stopped_unseen : SameFor net v w (stopped w u octets e)
  unfolding stopped
  stopped_unseen =
      record {
        durable = same_durable net.site v w.durable;
        unclaimed = λ l at. refl;
        links = refl;
        frames = refl;
        wire = refl;
        recovered = refl;
        up = other_set w.up _;
        drawn = other_set w.drawn _;
        journal = refl;
        volatile = other_set w.volatile _;
      }

  pub performs_unseen : (environment : Environment) → SameFor net v w (perform net w u octets environment e).0
  unfolding perform
  performs_unseen environment =
      let P : World × Outcome → Type 0 = λ r. SameFor net v w r.0 in
      by_test P (is_no_memory environment || not (list_all is_numbered e.batch)) _ _ (λ x. same_for net v w)
      (λ numbered. let may = m.batch (not_true (list_all is_numbered e.batch) (or_second (is_no_memory environment) _ numbered)) in
      by_test P (nat_lt journal_limit ((w.journal u).length' + added_len (w.journal u).version e.batch)) _ _ (λ x. same_for net v w)
      (λ x. by_test P (nat_lt 0 octets && (not (has_octets (net.entropy u) (w.drawn u + octets)) || is_entropy_fault environment)) _ _ (λ y. same_for net v w)
      (λ y. by_test P (is_io_fault environment && not (is_nil e.batch)) _ _ (λ z. stopped_unseen) (λ z. commit_unseen may))))
