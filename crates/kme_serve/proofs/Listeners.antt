-- Listeners that were opened, one after another.
use Rattle.std.proofs.Common.{◌≡◌, ◌⊎◌, inl, inr, ℕ, zero, suc, ◌+◌, ◌%◌, ◌<◌, ◌≤◌, List, [], ◌∷◌, ◌++◌, length, drop, take, append_assoc, refl, sym, ap, subst, ◌∙◌, arith}
use Rattle.std.specs.Prelude.{Option, Some, None, IsSome, Result, Ok, Err, MatchResult, IfOk, slice_get, slice_set}
use Rattle.std.proofs.Math.Nat.{mod-mod, mod-eq_of_lt}
use Rattle.std.proofs.lemmas.List.{length-set, take_at, append-nil}
use Rattle.std.proofs.lemmas.Option.{slice_get_within}
use Rattle.qkd_base.specs.Faults.{Rose}
use Rattle.kme_serve.specs.Door.{Door}
use Rattle.kme_serve.specs.Doors.{Queues, IsNew, IsUnused, AreNew, AreUnused, AreQueued, AreOpened, HasFailed}
use Rattle.kme_serve.specs.Twins.{IsTwinned}

some_is : {A : Type 0} {a b : A} → ◌≡◌ {A = Option A} (Some a) (Some b) → a ≡ b
some_is h = cc

-- An item of a list with one more appended is an older item or the new one.
pub last_cases : {A : Type 0} (xs : List A) (y : A) (k : ℕ) (a : A) → slice_get (xs ++ y ∷ []) k ≡ Some a → (slice_get xs k ≡ Some a) ⊎ ((k ≡ length xs) × (a ≡ y))
last_cases [] y zero a h = inr (refl, sym (some_is h))
last_cases [] y (suc k) a h = absurd (let wrong : ◌≡◌ {A = Option _} None (Some a) = h in cc)
last_cases (x ∷ xs) y zero a h = inl h
last_cases (x ∷ xs) y (suc k) a h = elim (last_cases xs y k a h) [ inl old ↦ inl old | inr last ↦ inr (ap suc last.0, last.1) ]

-- After an item was replaced, each index has the new item or the old one.
pub placed : {A : Type 0} (xs : List A) (i : ℕ) (x : A) (k : ℕ) (y : A) → slice_get (slice_set xs i x) k ≡ Some y → ((k ≡ i) × (y ≡ x)) ⊎ (slice_get xs k ≡ Some y)
placed [] i x k y h = inr h
placed (a ∷ xs) zero x zero y h = inl (refl, sym (some_is h))
placed (a ∷ xs) zero x (suc k) y h = inr h
placed (a ∷ xs) (suc i) x zero y h = inr h
placed (a ∷ xs) (suc i) x (suc k) y h = elim (placed xs i x k y h) [ inl here ↦ inl (ap suc here.0, here.1) | inr there ↦ inr there ]

pub set_there : {A : Type 0} (xs : List A) (i : ℕ) (x y : A) → slice_get xs i ≡ Some y → slice_get (slice_set xs i x) i ≡ Some x
set_there [] i x y h = absurd (let wrong : ◌≡◌ {A = Option _} None (Some y) = h in cc)
set_there (a ∷ xs) zero x y h = refl
set_there (a ∷ xs) (suc i) x y h = set_there xs i x y h

-- A list written over another of the same length.
pub written_back : {A : Type 0} (n : ℕ) (xs ys : List A) → length xs ≡ n → take n (xs ++ drop (length xs) ys) ≡ xs
written_back n xs ys long = take_at xs (drop (length xs) ys) n long

-- One more item moves from the rest to the items done.
pub moved_on : {A : Type 0} (before rest next all : List A) (x : A) → rest ≡ x ∷ next → before ++ rest ≡ all → (before ++ x ∷ []) ++ next ≡ all
moved_on {A} before rest next all x is whole = append_assoc before (x ∷ []) next ∙ ap (λ (l : List A). before ++ l) (sym is) ∙ whole

pub all_moved : {A : Type 0} (before rest all : List A) → rest ≡ [] → before ++ rest ≡ all → before ≡ all
all_moved {A} before rest all none whole = sym (append-nil before) ∙ ap (λ (l : List A). before ++ l) (sym none) ∙ whole

module _ {D : Type 0} (tell : D → Door) (failed : D → ℕ) where
  -- A listener that tells the same as a new one, and has not failed, is new.
  as_new : (told : Type 0) (port : ℕ) (d e : D) → tell e ≡ tell d → failed e ≡ failed d → IsNew tell failed told port d → IsNew tell failed told port e
  as_new told port d e same calm new = record {
    same_port = ap (λ (door : Door). door.port) same ∙ new.same_port;
    none_accepted = ap (λ (door : Door). door.accepted) same ∙ new.none_accepted;
    none_finished = ap (λ (door : Door). door.finished) same ∙ new.none_finished;
    no_fault = calm ∙ new.no_fault;
    tells = λ t. let h = new.tells t in
        (subst (λ (door : Door). IsSome door.waiting) (sym same) h.0, ap (λ (door : Door). door.done) same ∙ h.1);
  }

  -- what is told under a weaker condition is also told under this one
  pub told_too : (told wider : Type 0) (port : ℕ) (d : D) → (told → wider) → IsNew tell failed wider port d → IsNew tell failed told port d
  told_too told wider port d widens new = record {
    same_port = new.same_port;
    none_accepted = new.none_accepted;
    none_finished = new.none_finished;
    no_fault = new.no_fault;
    tells = λ t. new.tells (widens t);
  }

  unused_of : (told : Type 0) (port : ℕ) (d e : D) → tell e ≡ tell d → IsNew tell failed told port d → IsUnused tell failed port e
  unused_of told port d e same new =
      (ap (λ (door : Door). door.port) same ∙ new.same_port, ap (λ (door : Door). door.accepted) same ∙ new.none_accepted, ap (λ (door : Door). door.finished) same ∙ new.none_finished)

  module _ (told : Type 0) (port : ℕ) where
    -- ports opened one after another

    pub no_doors : (doors : List D) → doors ≡ [] → (k : ℕ) (d : D) → slice_get doors k ≡ Some d → IsNew tell failed told (port + k) d
    no_doors doors none k d at = absurd (let here : ◌≡◌ {A = Option D} None (Some d) = subst (λ (ds : List D). slice_get ds k ≡ Some d) none at in cc)

    pub next_door : (doors after : List D) (door : D) → after ≡ doors ++ door ∷ [] → ((k : ℕ) (d : D) → slice_get doors k ≡ Some d → IsNew tell failed told (port + k) d) →
        IsNew tell failed told (port + length doors) door → (k : ℕ) (d : D) → slice_get after k ≡ Some d → IsNew tell failed told (port + k) d
    next_door doors after door is new last k d at = elim (last_cases doors door k d (subst (λ (ds : List D). slice_get ds k ≡ Some d) is at)) [
      | inl old ↦ new k d old
      | inr here ↦ subst (λ (e : D). IsNew tell failed told (port + k) e) (sym here.1) (subst (λ (n : ℕ). IsNew tell failed told (port + n) door) (sym here.0) last)
    ]

    -- If there are no more listeners than nodes, each is at the port of its worker's node.
    pub of_nodes : (nodes : ℕ) (doors : List D) → length doors ≤ nodes → ((k : ℕ) (d : D) → slice_get doors k ≡ Some d → IsNew tell failed told (port + k) d) → AreNew tell failed told port nodes doors
    of_nodes nodes doors few new k d at =
        let within = slice_get_within doors k d at in
        let below : k < nodes = omega (arith, within, few) in
        subst (λ (n : ℕ). IsNew tell failed told (port + n) d) (sym (mod-eq_of_lt below)) (new k d at)

    pub new_unused : (nodes : ℕ) (doors : List D) → AreNew tell failed told port nodes doors → AreUnused tell failed port nodes doors
    new_unused nodes doors new k d at = unused_of told (port + k % nodes) d d refl (new k d at)

    -- making twins

    module _ (twins : D → Queues) (nodes place : ℕ) (before after : List D) (new : AreNew tell failed told port nodes before) where
      pub twin_came : {E : Type 0} (all : List D) (twin : D) → IsTwinned {E = E} tell failed twins (place % nodes) before after (Ok twin) → all ≡ after ++ twin ∷ [] → length before ≡ place → AreNew tell failed told port nodes all
      twin_came all twin t is long k d at = elim (last_cases after twin k d (subst (λ (ds : List D). slice_get ds k ≡ Some d) is at)) [
        | inl there ↦ elim (placed before (place % nodes) t.left k d (subst (λ (ds : List D). slice_get ds k ≡ Some d) t.after_is there)) [
          | inl asked ↦
              subst (λ (e : D). IsNew tell failed told (port + k % nodes) e) (sym asked.1)
              (subst (λ (n : ℕ). IsNew tell failed told (port + n % nodes) t.left) (sym asked.0)
              (as_new told (port + place % nodes % nodes) t.asked t.left t.same t.gives.1 (new (place % nodes) t.asked t.asked_is)))
          | inr old ↦ new k d old
        ]
        | inr last ↦
            let at_place : k ≡ place = last.0 ∙ ap length t.after_is ∙ length-set before (place % nodes) t.left ∙ long in
            subst (λ (e : D). IsNew tell failed told (port + k % nodes) e) (sym last.1) (subst (λ (n : ℕ). IsNew tell failed told (port + n % nodes) twin) (sym at_place) twin_new)
      ] where
        asked_new : IsNew tell failed told (port + place % nodes % nodes) t.asked
        asked_new = new (place % nodes) t.asked t.asked_is

        twin_new : IsNew tell failed told (port + place % nodes) twin
        twin_new = record {
          same_port = t.gives.0.same_port ∙ asked_new.same_port ∙ ap (λ (n : ℕ). port + n) (mod-mod place nodes);
          none_accepted = t.gives.0.none_accepted;
          none_finished = t.gives.0.none_finished;
          no_fault = t.gives.0.no_fault;
          tells = λ h. t.gives.0.tells ((asked_new.tells h).0, subst (λ (o : Option (List _)). IsSome o) (sym (asked_new.tells h).1) refl);
        }

      pub twin_unused : {E : Type 0} (e : E) → IsTwinned tell failed twins (place % nodes) before after (Err e) → AreUnused tell failed port nodes after
      twin_unused e t k d at = elim (placed before (place % nodes) t.left k d (subst (λ (ds : List D). slice_get ds k ≡ Some d) t.after_is at)) [
        | inl asked ↦
            subst (λ (f : D). IsUnused tell failed (port + k % nodes) f) (sym asked.1)
            (subst (λ (n : ℕ). IsUnused tell failed (port + n % nodes) t.left) (sym asked.0)
            (unused_of told (port + place % nodes % nodes) t.asked t.left t.same (new (place % nodes) t.asked t.asked_is)))
        | inr old ↦ unused_of told (port + k % nodes) d d refl (new k d old)
      ]

      pub twin_failed : {E : Type 0} (e : E) → IsTwinned tell failed twins (place % nodes) before after (Err e) → HasFailed failed after
      twin_failed e t =
          let calm = (new (place % nodes) t.asked t.asked_is).no_fault in
          let rose = t.gives in (
            place % nodes,
            (
              t.left,
              ap (λ (ds : List D). slice_get ds (place % nodes)) t.after_is ∙ set_there before (place % nodes) t.left t.asked t.asked_is,
              omega (arith, calm, rose),
            ),
          )

-- Either all listeners were opened, or only some.

pub either : {T E P Q : Type 0} (r : Result T E) → P → Q → MatchResult r (λ _. P) (λ _. Q)
either (Ok x) p q = p
either (Err e) p q = q

module _ {D T E : Type 0} (tell : D → Door) (failed : D → ℕ) (told : Type 0) (port workers nodes : ℕ) (doors : List D) where
  pub came : (queues : ℕ → Queues) (r : Result T E) → MatchResult r (λ _. AreNew tell failed told port nodes doors) (λ _. AreUnused tell failed port nodes doors × HasFailed failed doors) →
      IfOk r (λ _. AreQueued tell queues port nodes doors) → IfOk r (λ _. length doors ≡ workers) → length doors ≤ workers →
      MatchResult r (λ _. AreOpened tell failed told queues port workers nodes doors) (λ _. (length doors ≤ workers) × AreUnused tell failed port nodes doors)
  came queues (Ok x) new queued all few = record { many = all; new = new; queued = queued }
  came queues (Err e) unused queued all few = (few, unused.0)

  pub blamed : (before after : ℕ) (r : Result T E) → MatchResult r (λ _. AreNew tell failed told port nodes doors) (λ _. AreUnused tell failed port nodes doors × HasFailed failed doors) → after ≡ before →
      MatchResult r (λ _. after ≡ before) (λ _. Rose before after ⊎ HasFailed failed doors)
  blamed before after (Ok x) new calm = calm
  blamed before after (Err e) unused calm = inr unused.1
