-- The handings of a run are marked in order, each pair once, and have the bytes of their names.
use Rattle.std.proofs.Common.{◌≡◌, ℕ, ◌<◌, true, false, ◌&&◌, ◌||◌, List, [], ◌∷◌, ◌++◌, refl, sym, ◌∙◌, ap, subst, append_assoc, Some, inl, inr, arith}
use Rattle.std.specs.Prelude.{◌==◌, nat_lt, length, drop, slice_get}
use Rattle.std.proofs.lemmas.Bool.Decides.{nat_tests}
use Rattle.std.proofs.lemmas.List.{append-nil}
use Rattle.qkd_base.specs.Name.{Name, name_eq}
use Rattle.net_model.specs.Table.{was_handed}
use Rattle.net_model.specs.World.{Network, World}
use Rattle.net_model.specs.Knowledge.{IsGroups}
use Rattle.net_model.specs.Handings.{PairsDiffer}
use Rattle.net_model.specs.Invariant.{Conserved}
use Rattle.net_model.specs.Premises.{IsNetwork}
use Rattle.net_model.specs.Events.{is_valid_event}
use Rattle.net_model.specs.Action.{Action, Start, Crash, Arm, SetLink, TakeBlock, Ask, Allocate, Transmit, Complete, Deliver, Flip, Forge, is_shown, environment_of}
use Rattle.net_model.specs.Handle.{handle}
use Rattle.net_model.specs.Step.{step, is_asked, is_node, is_enabled, is_step, run, is_run, IsRun}
use Rattle.net_model.specs.Deliveries.{Delivery, of_step, deliveries, IsTrueDelivery, pairs_of, IsWithin, Empty, Next, Skip, AreTrueDeliveries}
use Rattle.law_base.proofs.Base.{and_left, and_right, or_right, not_false, not_both, get_cases}
use Rattle.law_base.proofs.Grow.{Grows}
use Rattle.law_safety.specs.Truth.{IsTrueReply, AreNew}
use Rattle.law_safety.proofs.Bytes.{true_grows}
use Rattle.law_safety.proofs.Replies.{handled_true}
use Rattle.law_invariant.proofs.Steps.{step_keeps}
use Rattle.law_safety.proofs.Worlds.{grows_step, IsLonger, longer_step}

-- Lemmas on lists that are contained, in order, in other lists.

within_append : {A : Type 0} (xs ys xs' ys' : List A) → IsWithin xs ys → IsWithin xs' ys' → IsWithin (xs ++ xs') (ys ++ ys')
within_append _ _ xs' ys' (Empty ys) k = skip_all ys xs' ys' k
  where
    skip_all : {A : Type 0} (ys xs' ys' : List A) → IsWithin xs' ys' → IsWithin xs' (ys ++ ys')
    skip_all [] xs' ys' k = k
    skip_all (y ∷ ys) xs' ys' k = Skip y xs' (ys ++ ys') (skip_all ys xs' ys' k)
within_append _ _ xs' ys' (Next x xs ys h) k = Next x (xs ++ xs') (ys ++ ys') (within_append xs ys xs' ys' h k)
within_append _ _ xs' ys' (Skip y xs ys h) k = Skip y (xs ++ xs') (ys ++ ys') (within_append xs ys xs' ys' h k)

within_same : {A : Type 0} (xs : List A) → IsWithin xs xs
within_same [] = Empty []
within_same (x ∷ xs) = Next x xs xs (within_same xs)

handed_within : (xs ys : List (Name × ℕ)) (n : Name) (sae : ℕ) → IsWithin xs ys → was_handed xs n sae ≡ true → was_handed ys n sae ≡ true
handed_within _ _ n sae (Empty ys) h = cc
handed_within _ _ n sae (Next x xs ys k) h =
    elim (name_eq x.0 n && (x.1 == sae)) as (λ t. (t || was_handed xs n sae) ≡ true → (t || was_handed ys n sae) ≡ true) [
      | true ↦ λ e. refl
      | false ↦ λ e. handed_within xs ys n sae k e
    ] h
handed_within _ _ n sae (Skip y xs ys k) h = or_right (name_eq y.0 n && (y.1 == sae)) (was_handed ys n sae) (handed_within xs ys n sae k h)

differ_within : (xs ys : List (Name × ℕ)) → IsWithin xs ys → PairsDiffer ys → PairsDiffer xs
differ_within _ _ (Empty ys) d = tt
differ_within _ _ (Next x xs ys k) d = (
  not_false (was_handed xs x.0 x.1) (λ e. not_both (was_handed ys x.0 x.1) (handed_within xs ys x.0 x.1 k e) d.0),
  differ_within xs ys k d.1,
)
differ_within _ _ (Skip y xs ys k) d = differ_within xs ys k d.1

drop_prefix : {A : Type 0} (xs ys : List A) → drop (length xs) (xs ++ ys) ≡ ys
drop_prefix [] ys = refl
drop_prefix (x ∷ xs) ys = drop_prefix xs ys

within_later : {A : Type 0} (before xs ys : List A) → IsWithin xs ys → IsWithin xs (before ++ ys)
within_later [] xs ys k = k
within_later (b ∷ before) xs ys k = Skip b xs (before ++ ys) (within_later before xs ys k)

differ_behind : (before xs : List (Name × ℕ)) → PairsDiffer (before ++ xs) → PairsDiffer xs
differ_behind [] xs d = d
differ_behind (b ∷ before) xs d = differ_behind before xs d.1

pairs_append : (xs ys : List Delivery) → pairs_of (xs ++ ys) ≡ pairs_of xs ++ pairs_of ys
pairs_append [] ys = refl
pairs_append (x ∷ xs) ys = ap (λ (hs : List (Name × ℕ)). (x.name, x.sae) ∷ hs) (pairs_append xs ys)

-- One step hands out true bytes and marks them.

pub record IsTrueStep (w new : World) (ds : List Delivery) : Type 0 where
  pub more : List (Name × ℕ)
  pub longer : new.durable.handed ≡ w.durable.handed ++ more
  pub within : IsWithin (pairs_of ds) more
  pub bytes : (n : ℕ) (d : Delivery) → slice_get ds n ≡ Some d → IsTrueDelivery new.durable.facts d

silent_step : (w new : World) → IsLonger w.durable.handed new.durable.handed → IsTrueStep w new []
silent_step w new h = record { more = h.more; longer = h.is; within = Empty h.more; bytes = λ n d e. cc }

told_step : (net : Network) (w new : World) (v : ℕ) (ds : List Delivery) → IsGroups new.durable.facts → Grows w.durable.facts new.durable.facts → IsTrueReply net w new v ds →
    IsTrueStep w new ds
told_step net w new v ds groups grows h =
    record {
      more = pairs_of ds;
      longer = h.marked;
      within = within_same (pairs_of ds);
      bytes = λ n d e. true_grows w.durable.facts new.durable.facts d groups grows (h.bytes n d e);
    }

true_step : (net : Network) (w : World) (action : Action) → IsNetwork net → Conserved net w → Conserved net (step net w action).0 → is_enabled net w action ≡ true →
    IsTrueStep w (step net w action).0 (of_step net w action (step net w action).1)
unfolding step is_enabled
true_step net w (Ask v event environment) good c after enabled =
    let prefix = and_left (is_node net v && is_asked event) (is_valid_event net.site v event) enabled in
    let node : v < net.site.nodes = below v net.site.nodes (and_left (is_node net v) (is_asked event) prefix) in
    told_step net w (handle net w v event environment).0 v _ after.now.groups (grows_step net w (Ask v event environment))
    (handled_true net w v event environment good c node (and_right (is_node net v) (is_asked event) prefix)
    (and_right (is_node net v && is_asked event) (is_valid_event net.site v event) enabled))
  where
    below : (a b : ℕ) → nat_lt a b ≡ true → a < b
    below a b h = grind (arith, nat_tests)
true_step net w (Start v recovery) good c after enabled = silent_step w _ (longer_step net w (Start v recovery))
true_step net w (Crash v) good c after enabled = silent_step w _ (longer_step net w (Crash v))
true_step net w (Arm v fault) good c after enabled = silent_step w _ (longer_step net w (Arm v fault))
true_step net w (SetLink link up) good c after enabled = silent_step w _ (longer_step net w (SetLink link up))
true_step net w (TakeBlock v link environment) good c after enabled = silent_step w _ (longer_step net w (TakeBlock v link environment))
true_step net w (Allocate t) good c after enabled = silent_step w _ (longer_step net w (Allocate t))
true_step net w (Transmit l j environment) good c after enabled = silent_step w _ (longer_step net w (Transmit l j environment))
true_step net w (Complete v) good c after enabled = silent_step w _ (longer_step net w (Complete v))
true_step net w (Deliver l number environment) good c after enabled = silent_step w _ (longer_step net w (Deliver l number environment))
true_step net w (Flip l number bit environment) good c after enabled = silent_step w _ (longer_step net w (Flip l number bit environment))
true_step net w (Forge l octets environment) good c after enabled = silent_step w _ (longer_step net w (Forge l octets environment))

-- A run hands out true bytes and marks them.

pub record IsTrueRun (net : Network) (w end' : World) (ds : List Delivery) : Type 0 where
  pub step : IsTrueStep w end' ds
  pub facts : Grows w.durable.facts end'.durable.facts
  pub conserved : Conserved net end'

-- A first step and the rest of a run make a run.
true_cons : (net : Network) (w new end' : World) (ds rest : List Delivery) → Grows w.durable.facts new.durable.facts → IsTrueStep w new ds → IsTrueRun net new end' rest →
    IsTrueRun net w end' (ds ++ rest)
true_cons net w new end' ds rest grows h k =
    record {
      step = record {
        more = h.more ++ k.step.more;
        longer = k.step.longer ∙ ap (λ (hs : List (Name × ℕ)). hs ++ k.step.more) h.longer ∙ append_assoc w.durable.handed h.more k.step.more;
        within = subst (λ (ps : List (Name × ℕ)). IsWithin ps (h.more ++ k.step.more)) (sym (pairs_append ds rest))
            (within_append (pairs_of ds) h.more (pairs_of rest) k.step.more h.within k.step.within);
        bytes = λ n d e. elim (get_cases ds rest n) [
          | inl (below, at) ↦ true_grows new.durable.facts end'.durable.facts d k.conserved.now.groups k.facts (h.bytes n d (sym at ∙ e))
          | inr (i, is, at) ↦ k.step.bytes i d (sym at ∙ e)
        ];
      };
      facts = λ n f e. k.facts n f (grows n f e);
      conserved = k.conserved;
    }

true_run : (net : Network) (w : World) (actions : List Action) → IsNetwork net → Conserved net w → IsRun net w actions → IsTrueRun net w (run net w actions) (deliveries net w actions)
unfolding run is_run deliveries
true_run net w [] good c runs =
    record { step = silent_step w w (record { more = []; is = sym (append-nil w.durable.handed) }); facts = λ n f e. e; conserved = c }
true_run net w (a ∷ rest) good c runs =
    let new : World = (step net w a).0 in
    let here = and_left (is_step net w a) (is_run net new rest) runs in
    let after : Conserved net new = step_keeps net w a good here c in
    let enabled = and_left (is_enabled net w a) (is_shown (environment_of a) (step net w a).1) here in
    true_cons net w new (run net new rest) (of_step net w a (step net w a).1) (deliveries net new rest) (grows_step net w a)
    (true_step net w a good c after enabled) (true_run net new rest good after (and_right (is_step net w a) (is_run net new rest) runs))

module _ (net : Network) (w : World) (actions : List Action) (good : IsNetwork net) (c : Conserved net w) (runs : IsRun net w actions) where
  abbrev last : World
  last = run net w actions

  abbrev out : List Delivery
  out = deliveries net w actions

  true_out : IsTrueRun net w last out
  true_out = true_run net w actions good c runs

  -- the earlier marks, and then those of the run
  all_within : IsWithin (w.durable.handed ++ pairs_of out) last.durable.handed
  all_within = subst (IsWithin (w.durable.handed ++ pairs_of out)) (sym true_out.step.longer)
      (within_append w.durable.handed w.durable.handed (pairs_of out) true_out.step.more (within_same w.durable.handed) true_out.step.within)

  all_differ : PairsDiffer (w.durable.handed ++ pairs_of out)
  all_differ = differ_within (w.durable.handed ++ pairs_of out) last.durable.handed all_within true_out.conserved.now.handings.differ

  pub deliveries_new : AreNew w last out
  deliveries_new =
      let h = true_out.step in
      record {
        marked = subst (λ (hs : List (Name × ℕ)). IsWithin (pairs_of out) (drop (length w.durable.handed) hs)) (sym h.longer)
            (subst (IsWithin (pairs_of out)) (sym (drop_prefix w.durable.handed h.more)) h.within);
        once = all_differ;
      }

  pub deliveries_true : AreTrueDeliveries last out
  deliveries_true = record {
    marked = subst (IsWithin (pairs_of out)) (sym true_out.step.longer) (within_later w.durable.handed (pairs_of out) true_out.step.more true_out.step.within);
    once = differ_behind w.durable.handed (pairs_of out) all_differ;
    bytes = true_out.step.bytes;
  }
