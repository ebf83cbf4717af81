-- The number of keys that a run hands to masters and to slaves.
use Rattle.std.proofs.Common.{◌≡◌, ◌∙◌, ℕ, ◌+◌, not, Bool, true, false, cond, List, [], ◌∷◌, ◌++◌, length, map, refl, sym, ap, arith}
use Rattle.std.specs.Prelude.{count_by}
use Rattle.std.specs.List.{list_all, AllByRecursion}
use Rattle.std.proofs.lemmas.List.Sums.{sum_by-cons, sum_by-append}
use Rattle.qkd_base.specs.Name.{Name}
use Rattle.net_model.specs.declared.event.Event.TheVariants.{Enc, Dec, Get, EncGroup}
use Rattle.net_model.specs.declared.reply.Reply.TheVariants.{Handed}
use Rattle.net_model.specs.Premises.{IsNetwork}
use Rattle.net_model.specs.World.{Network, World, first}
use Rattle.net_model.specs.Invariant.{Conserved}
use Rattle.net_model.specs.Action.{Action, Ask, Environment, Outcome, Replies}
use Rattle.net_model.specs.Step.{step, run, is_step, is_run, IsRun}
use Rattle.net_model.specs.Deliveries.{Delivery, to_one, of_step, deliveries}
use Rattle.run_model.specs.Left.{is_to_first, to_masters, to_slaves}
use Rattle.law_base.proofs.Base.{and_left, and_right}
use Rattle.law_base.proofs.Grow.{Grows}
use Rattle.law_invariant.proofs.Steps.{first_keeps, step_keeps}
use Rattle.law_safety.proofs.Worlds.{grows_step}
use Rattle.law_run.specs.Handed.{keys_in, enc_in, dec_in, counted, enc_keys, dec_keys, asks_no_key, is_of_pairs}
use Rattle.law_run.proofs.Singles.{NamesDiffer, differ_step, differ_run, grows_run}
use Rattle.law_run.proofs.Firsts.{first_grows, other_grows, to_first, to_other}
use Rattle.law_run.proofs.Said.{ToFirst, ToOther, enc_hands, dec_hands}

-- Lemmas on counting in lists.

each_more : {A : Type 0} (P Q : A → Type 0) (xs : List A) → ((x : A) → P x → Q x) → AllByRecursion P xs → AllByRecursion Q xs
each_more P Q [] h a = tt
each_more P Q (x ∷ xs) h a = (h x a.0, each_more P Q xs h a.1)

count_cons : {A : Type 0} (p : A → Bool) (x : A) (xs : List A) → count_by p (x ∷ xs) ≡ cond (p x) 1 0 + count_by p xs
count_cons p x xs = sum_by-cons (λ y. cond (p y) 1 0) x xs

count_append : {A : Type 0} (p : A → Bool) (xs ys : List A) → count_by p (xs ++ ys) ≡ count_by p xs + count_by p ys
count_append p xs ys = sum_by-append (λ y. cond (p y) 1 0) xs ys

all_counted : {A : Type 0} (p : A → Bool) (xs : List A) → AllByRecursion (λ x. p x ≡ true) xs → count_by p xs ≡ length xs
all_counted p [] a = refl
all_counted p (x ∷ xs) a =
    let rest = all_counted p xs a.1 in
    let here : cond {A = ℕ} (p x) 1 0 ≡ 1 = ap (λ (t : Bool). cond {A = ℕ} t 1 0) a.0 in
    let more = count_cons p x xs in
    omega (arith, rest, here, more)

none_counted : {A : Type 0} (p : A → Bool) (xs : List A) → AllByRecursion (λ x. p x ≡ false) xs → count_by p xs ≡ 0
none_counted p [] a = refl
none_counted p (x ∷ xs) a =
    let rest = none_counted p xs a.1 in
    let here : cond {A = ℕ} (p x) 1 0 ≡ 0 = ap (λ (t : Bool). cond {A = ℕ} t 1 0) a.0 in
    let more = count_cons p x xs in
    omega (arith, rest, here, more)

length_mapped : {A B : Type 0} (f : A → B) (xs : List A) → length (map f xs) ≡ length xs
length_mapped f [] = refl
length_mapped f (x ∷ xs) = let rest = length_mapped f xs in omega (arith, rest)

-- Lemmas on one step.

enc_length : (net : Network) (w : World) (v m t n bits : ℕ) (e : Environment) (out : Outcome) → length (of_step net w (Ask v (Enc m t n bits) e) out) ≡ keys_in out
enc_length net w v m t n bits e (Replies (Handed keys)) = length_mapped (to_one m) keys
enc_length net w v m t n bits e out = refl

dec_length : (net : Network) (w : World) (v t m : ℕ) (names : List Name) (e : Environment) (out : Outcome) → length (of_step net w (Ask v (Dec t m names) e) out) ≡ keys_in out
dec_length net w v t m names e (Replies (Handed keys)) = length_mapped (to_one t) keys
dec_length net w v t m names e out = refl

none_of_step : (net : Network) (w : World) (a : Action) (out : Outcome) → asks_no_key a ≡ true → is_of_pairs a ≡ true → of_step net w a out ≡ []
none_of_step net w (Ask v (Enc m s n bits) e) out h k = cc
none_of_step net w (Ask v (Dec s m names) e) out h k = cc
none_of_step net w (Ask v (EncGroup m slaves n bits) e) out h k = cc
none_of_step net w (Ask v (Get caller stream index) e) out h k = cc
none_of_step net w (Ask v event e) (Replies reply) h k = refl
none_of_step net w (Ask v event e) out h k = refl
none_of_step net w a out h k = refl

pub none_enc : (a : Action) (out : Outcome) → asks_no_key a ≡ true → enc_in a out ≡ 0
none_enc (Ask v (Enc m s n bits) e) out h = cc
none_enc (Ask v event e) out h = refl
none_enc a out h = refl

pub none_dec : (a : Action) (out : Outcome) → asks_no_key a ≡ true → dec_in a out ≡ 0
none_dec (Ask v (Dec s m names) e) out h = cc
none_dec (Ask v event e) out h = refl
none_dec a out h = refl

-- The counts in a world that has all facts of the step's world.
pub record IsCounted (last : World) (ds : List Delivery) (encs decs : ℕ) : Type 0 where
  pub masters : count_by (is_to_first last) ds ≡ encs
  pub slaves : count_by (λ d. not (is_to_first last d)) ds ≡ decs

nothing_counted : (last : World) (ds : List Delivery) (encs decs : ℕ) → ds ≡ [] → encs ≡ 0 → decs ≡ 0 → IsCounted last ds encs decs
nothing_counted last ds encs decs none a b = record {
  masters = ap (count_by (is_to_first last)) none ∙ sym a;
  slaves = ap (count_by (λ d. not (is_to_first last d))) none ∙ sym b;
}

module _ (net : Network) (good : IsNetwork net) (last : World) (c : Conserved net last) (differ : NamesDiffer last.durable.facts) where
  first_counted : (w : World) (ds : List Delivery) (n : ℕ) → Grows w.durable.facts last.durable.facts → AllByRecursion (ToFirst w.durable.facts) ds → length ds ≡ n → IsCounted last ds n 0
  first_counted w ds n grows all is =
      let firsts : AllByRecursion (λ d. is_to_first last d ≡ true) ds =
      each_more (ToFirst w.durable.facts) (λ d. is_to_first last d ≡ true) ds (λ d h. to_first last d c.now.groups differ (first_grows w.durable.facts last.durable.facts d.name d.sae grows h)) all in
      record {
        masters = all_counted (is_to_first last) ds firsts ∙ is;
        slaves = none_counted (λ d. not (is_to_first last d)) ds (each_more (λ d. is_to_first last d ≡ true) (λ d. not (is_to_first last d) ≡ false) ds (λ d h. ap not h) firsts);
      }

  other_counted : (w : World) (ds : List Delivery) (n : ℕ) → Grows w.durable.facts last.durable.facts → AllByRecursion (ToOther w.durable.facts) ds → length ds ≡ n → IsCounted last ds 0 n
  other_counted w ds n grows all is =
      let others : AllByRecursion (λ d. is_to_first last d ≡ false) ds =
      each_more (ToOther w.durable.facts) (λ d. is_to_first last d ≡ false) ds
      (λ d h. to_other last d c.now.groups differ (other_grows w.durable.facts last.durable.facts d.name d.sae grows h)) all in
      record {
        masters = none_counted (is_to_first last) ds others;
        slaves = all_counted (λ d. not (is_to_first last d)) ds (each_more (λ d. is_to_first last d ≡ false) (λ d. not (is_to_first last d) ≡ true) ds (λ d h. ap not h) others) ∙ is;
      }

  quiet_counted : (w : World) (a : Action) → asks_no_key a ≡ true → is_of_pairs a ≡ true →
      IsCounted last (of_step net w a (step net w a).1) (enc_in a (step net w a).1) (dec_in a (step net w a).1)
  quiet_counted w a keys pairs =
      let out : Outcome = (step net w a).1 in
      nothing_counted last (of_step net w a out) (enc_in a out) (dec_in a out) (none_of_step net w a out keys pairs) (none_enc a out keys) (none_dec a out keys)

  step_counted : (w : World) (a : Action) → Grows w.durable.facts last.durable.facts → is_of_pairs a ≡ true →
      IsCounted last (of_step net w a (step net w a).1) (enc_in a (step net w a).1) (dec_in a (step net w a).1)
  unfolding step
  step_counted w (Ask v (Enc m t n bits) e) grows pairs =
      first_counted w _ (keys_in (step net w (Ask v (Enc m t n bits) e)).1) grows (enc_hands net w v m t n bits e) (enc_length net w v m t n bits e (step net w (Ask v (Enc m t n bits) e)).1)
  step_counted w (Ask v (Dec t m names) e) grows pairs =
      other_counted w _ (keys_in (step net w (Ask v (Dec t m names) e)).1) grows (dec_hands net w v t m names e good) (dec_length net w v t m names e (step net w (Ask v (Dec t m names) e)).1)
  step_counted w (Ask v event e) grows pairs = quiet_counted w (Ask v event e) refl pairs
  step_counted w a grows pairs = quiet_counted w a refl pairs

-- Lemmas on a run.

both_counted : (last : World) (xs ys : List Delivery) (a b c d : ℕ) → IsCounted last xs a b → IsCounted last ys c d → IsCounted last (xs ++ ys) (a + c) (b + d)
both_counted last xs ys a b c d h k =
    let masters = count_append (is_to_first last) xs ys in
    let slaves = count_append (λ e. not (is_to_first last e)) xs ys in
    record { masters = omega (arith, masters, h.masters, k.masters); slaves = omega (arith, slaves, h.slaves, k.slaves) }

run_conserved : (net : Network) (good : IsNetwork net) (w : World) (actions : List Action) → Conserved net w → IsRun net w actions → Conserved net (run net w actions)
unfolding run is_run
run_conserved net good w [] c runs = c
run_conserved net good w (a ∷ rest) c runs =
    let here = and_left (is_step net w a) (is_run net (step net w a).0 rest) runs in
    run_conserved net good (step net w a).0 rest (step_keeps net w a good here c) (and_right (is_step net w a) (is_run net (step net w a).0 rest) runs)

run_counted : (net : Network) (good : IsNetwork net) (w : World) (actions : List Action) → Conserved net w → NamesDiffer w.durable.facts → IsRun net w actions → list_all is_of_pairs actions ≡ true →
    IsCounted (run net w actions) (deliveries net w actions) (enc_keys net w actions) (dec_keys net w actions)
unfolding run is_run deliveries counted
run_counted net good w [] c differ runs pairs = record { masters = refl; slaves = refl }
run_counted net good w (a ∷ rest) c differ runs pairs =
    let new : World = (step net w a).0 in
    let out : Outcome = (step net w a).1 in
    let here = and_left (is_step net w a) (is_run net new rest) runs in
    let later = and_right (is_step net w a) (is_run net new rest) runs in
    let after : Conserved net new = step_keeps net w a good here c in
    let last : World = run net new rest in
    let still : NamesDiffer new.durable.facts = differ_step net w a differ in
    both_counted last (of_step net w a out) (deliveries net new rest) (enc_in a out) (dec_in a out) (enc_keys net new rest) (dec_keys net new rest)
    (step_counted net good last (run_conserved net good new rest after later) (differ_run net new rest still) w a
    (λ n f e. grows_run net new rest n f (grows_step net w a n f e)) (and_left (is_of_pairs a) (list_all is_of_pairs rest) pairs))
    (run_counted net good new rest after still later (and_right (is_of_pairs a) (list_all is_of_pairs rest) pairs))

first_differ : NamesDiffer first.durable.facts
unfolding first
first_differ = tt

pub masters_are : (net : Network) (actions : List Action) → IsNetwork net → IsRun net first actions → list_all is_of_pairs actions ≡ true →
    to_masters (run net first actions) (deliveries net first actions) ≡ enc_keys net first actions
unfolding to_masters
masters_are net actions good runs pairs = (run_counted net good first actions (first_keeps net) first_differ runs pairs).masters

pub slaves_are : (net : Network) (actions : List Action) → IsNetwork net → IsRun net first actions → list_all is_of_pairs actions ≡ true →
    to_slaves (run net first actions) (deliveries net first actions) ≡ dec_keys net first actions
unfolding to_slaves
slaves_are net actions good runs pairs = (run_counted net good first actions (first_keeps net) first_differ runs pairs).slaves

-- Lemmas on two runs in sequence.

pub counted_append : (count : Action → Outcome → ℕ) (net : Network) (w : World) (xs ys : List Action) →
    counted count net w (xs ++ ys) ≡ counted count net w xs + counted count net (run net w xs) ys
unfolding counted run
counted_append count net w [] ys = omega arith
counted_append count net w (x ∷ xs) ys = let rest = counted_append count net (step net w x).0 xs ys in omega (arith, rest)

pub none_in_run : (count : Action → Outcome → ℕ) → ((a : Action) (out : Outcome) → asks_no_key a ≡ true → count a out ≡ 0) → (net : Network) (w : World) (actions : List Action) →
    list_all asks_no_key actions ≡ true → counted count net w actions ≡ 0
unfolding counted
none_in_run count none net w [] h = refl
none_in_run count none net w (a ∷ rest) h =
    let here = none a (step net w a).1 (and_left (asks_no_key a) (list_all asks_no_key rest) h) in
    let later = none_in_run count none net (step net w a).0 rest (and_right (asks_no_key a) (list_all asks_no_key rest) h) in
    omega (arith, here, later)
