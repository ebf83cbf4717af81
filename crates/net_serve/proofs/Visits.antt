-- The results at the workers' doors.
use Rattle.std.proofs.Common.{◌≡◌, ℕ, zero, suc, ◌+◌, ◌<◌, ◌%◌, Bool, true, false, ◌&&◌, List, [], ◌∷◌, length, map, is_ok, refl, sym, ap, subst, ◌∙◌, arith, Option, Some, Result, Ok, Err}
use Rattle.std.specs.Prelude.{slice_get, OnErr}
use Rattle.std.specs.List.{list_all, flat_map}
use Rattle.std.specs.Option.{option_map}
use Rattle.std.proofs.lemmas.List.{length-map}
use Rattle.std.proofs.lemmas.Option.{slice_get-map, slice_get_within}
use Rattle.qkd_base.specs.Faults.{Rose}
use Rattle.edge_io.specs.declared.failed.Failed.{Failed}
use Rattle.sae_entitlements.specs.Grants.{Grants}
use Rattle.kme_serve.specs.declared.turn.Turn.{Turn}
use Rattle.kme_serve.specs.Door.{Door}
use Rattle.net_serve.specs.Serving.{Call, IsNextCall}
use Rattle.net_serve.specs.Asked.{HaveAsked, DoorFailed}
use Rattle.net_serve.proofs.Gathering.{AreInTurn, Shares, raw_at, gathered}
use Rattle.net_serve.proofs.Passing.{Keeps, Served, ServedCalls, served_keeps, served_calls}

some_is : {A : Type 0} {a b : A} → ◌≡◌ {A = Option A} (Some a) (Some b) → a ≡ b
some_is h = cc

-- an item of a mapped list is the image of the item at the same index
record Imaged {A B : Type 0} (f : A → B) (xs : List A) (k : ℕ) (y : B) : Type 0 where
  x : A
  at : slice_get xs k ≡ Some x
  is : f x ≡ y

imaged : {A B : Type 0} (f : A → B) (xs : List A) (k : ℕ) (y : B) → slice_get (map f xs) k ≡ Some y → Imaged f xs k y
imaged f [] k y h = cc
imaged f (x ∷ xs) zero y h = record { x = x; at = refl; is = some_is h }
imaged f (x ∷ xs) (suc k) y h = let rest = imaged f xs k y h in record { x = rest.x; at = rest.at; is = rest.is }

image_at : {A B : Type 0} (f : A → B) (xs : List A) (k : ℕ) (x : A) (y : B) → slice_get xs k ≡ Some x → slice_get (map f xs) k ≡ Some y → f x ≡ y
image_at f xs k x y at there = some_is (sym (slice_get-map f xs k ∙ ap (option_map f) at) ∙ there)

-- if not all items pass a test, there is one that does not
record Failing {A : Type 0} (p : A → Bool) (xs : List A) : Type 0 where
  k : ℕ
  x : A
  at : slice_get xs k ≡ Some x
  no : p x ≡ false

failing : {A : Type 0} (p : A → Bool) (xs : List A) → list_all p xs ≡ false → Failing p xs
failing p [] h = cc
failing {A} p (x ∷ xs) h = elim (p x) as (λ t. p x ≡ t → (t && list_all p xs) ≡ false → Failing p (x ∷ xs)) [
  | true ↦ λ e f. let rest = failing p xs f in record { k = suc rest.k; x = rest.x; at = rest.at; no = rest.no }
  | false ↦ λ e f. record { k = 0; x = x; at = refl; no = e }
] refl h

all_image : {A B : Type 0} (p : B → Bool) (f : A → B) (xs : List A) → list_all p (map f xs) ≡ list_all (λ x. p (f x)) xs
all_image p f [] = refl
all_image p f (x ∷ xs) = ap (λ (t : Bool). p (f x) && t) (all_image p f xs)

module _ {P R W D : Type 0} (node : P → ℕ) (raw : P → List R) (told : R → Call) (left : P → ℕ) (Fits : P → Type 0) (answers : P → Turn → P → Type 0)
    (keeps : (p : P) (turn : Turn) (q : P) → answers p turn q → Keeps node (λ p. map told (raw p)) left Fits answers p q)
    (next : (p : P) (turn : Turn) (q : P) → answers p turn q → IsNextCall (map told (raw p)) turn (map told (raw q)))
    (pass : W → P) (door : W → D) (outcome : W → Result (Unit {0}) Failed) (tell : D → Door) (failed : D → ℕ) (names : List (List ℕ)) (g : Grants) (nodes connections : ℕ) (ws ts : List W) (long : length ts ≡ length ws) where
  abbrev made : P → List Call
  made p = map told (raw p)

  abbrev pub node_in : W → ℕ
  node_in w = node (pass w)

  abbrev pub raw_in : W → List R
  raw_in w = raw (pass w)

  abbrev pub left_in : W → ℕ
  left_in w = left (pass w)

  -- a worker before its first connection
  pub record Starts (k : ℕ) (w : W) : Type 0 where
    pub at : node (pass w) ≡ k % nodes
    pub none : raw (pass w) ≡ []

  abbrev pub DoorServed : (k : ℕ) → W → W → Type 0
  DoorServed k w t =
      Served node made left Fits answers names g (k % nodes) connections (tell (door w)) (tell (door t)) (failed (door w)) (failed (door t)) (pass w) (pass t) (outcome t)

  module _ (starts : (k : ℕ) (w : W) → slice_get ws k ≡ Some w → Starts k w) where
    -- if no connection was served, all is as it was
    pub idle : ts ≡ ws → (k : ℕ) (w t : W) → slice_get ws k ≡ Some w → slice_get ts k ≡ Some t → Shares node_in raw_in left_in w t
    idle same k w t was is =
        let one : t ≡ w = some_is (sym is ∙ ap (λ (xs : List W). slice_get xs k) same ∙ was) in
        record { same = ap node_in one; share = ap (λ (x : W). left (pass x) + length (raw (pass x))) one }

    pub idle_none : ts ≡ ws → (k : ℕ) (t : W) → slice_get ts k ≡ Some t → raw (pass t) ≡ []
    idle_none same k t is = (starts k t (sym (ap (λ (xs : List W). slice_get xs k) same) ∙ is)).none

    module _ (served : (k : ℕ) (w t : W) → slice_get ws k ≡ Some w → slice_get ts k ≡ Some t → DoorServed k w t) where
      kept : (k : ℕ) (w t : W) → slice_get ws k ≡ Some w → slice_get ts k ≡ Some t → Keeps node made left Fits answers (pass w) (pass t)
      kept k w t was is =
          served_keeps node made left Fits answers keeps next names g (k % nodes) connections (tell (door w)) (tell (door t)) (failed (door w)) (failed (door t)) (pass w) (pass t) (outcome t) (served k w t was is)

      pub shares : (k : ℕ) (w t : W) → slice_get ws k ≡ Some w → slice_get ts k ≡ Some t → Shares node_in raw_in left_in w t
      shares k w t was is =
          let h = kept k w t was is in
          let a = length-map (raw (pass t)) told in
          let b = length-map (raw (pass w)) told in
          record { same = h.same; share = omega (arith, h.share, a, b) }

      was_there : (k : ℕ) (t : W) → slice_get ts k ≡ Some t → (w : W) × (slice_get ws k ≡ Some w)
      was_there k t is = let within = slice_get_within ts k t is in item ws k (omega (arith, within, long))
        where
          item : (xs : List W) (k : ℕ) → k < length xs → (w : W) × (slice_get xs k ≡ Some w)
          item [] k h = absurd (omega (arith, h))
          item (x ∷ xs) zero h = (x, refl)
          item (x ∷ xs) (suc k) h = item xs k (omega (arith, h))

      in_turn : AreInTurn node_in raw_in left_in nodes 0 ts
      in_turn k t is =
          let w = was_there k t is in
          (kept k w.0 t w.1 is).same ∙ (starts k w.0 w.1).at ∙ ap (λ (n : ℕ). n % nodes) (zero_more k)
        where
          zero_more : (k : ℕ) → k ≡ 0 + k
          zero_more k = omega arith

      -- the calls of all managers
      pub have_asked : (doors back : List D) (known : ℕ → List R) (all : Bool) → map door ws ≡ doors → back ≡ map door ts → ((v : ℕ) → known v ≡ flat_map (raw_at node_in raw_in left_in v) ts) →
          list_all (λ t. is_ok (outcome t)) ts ≡ all → HaveAsked tell failed names g nodes connections doors back (λ v. map told (known v)) all
      have_asked doors back known all were are own came = record {
        calls = map (λ t. made (pass t)) ts;
        workers = length-map ts (λ t. made (pass t)) ∙ many;
        doors = ap (λ (xs : List D). length xs) are ∙ length-map ts door ∙ many;
        own = λ v. ap (map told) (own v) ∙ gathered node_in raw_in left_in told v nodes 0 ts in_turn;
        outcomes = map outcome ts;
        ended = length-map ts outcome ∙ many;
        served = λ k b a c o was is asked ended.
            let w = imaged door ws k b (ap (λ (xs : List D). slice_get xs k) were ∙ was) in
            let t = imaged door ts k a (sym (ap (λ (xs : List D). slice_get xs k) are) ∙ is) in
            let calls_are : made (pass t.x) ≡ c = image_at (λ t. made (pass t)) ts k t.x c t.at asked in
            let outcome_is : outcome t.x ≡ o = image_at outcome ts k t.x o t.at ended in
            let did : ServedCalls node made left Fits answers names g (k % nodes) connections (tell (door w.x)) (tell (door t.x)) (failed (door w.x)) (failed (door t.x)) [] (made (pass t.x)) (outcome t.x) =
            served_calls node made left Fits answers keeps next names g (k % nodes) connections (tell (door w.x)) (tell (door t.x)) (failed (door w.x)) (failed (door t.x)) (pass w.x) (pass t.x) (outcome t.x)
            (served k w.x t.x w.at t.at) (ap (map told) (starts k w.x w.at).none) in
            subst (λ (x : D). ServedCalls node made left Fits answers names g (k % nodes) connections (tell x) (tell a) (failed x) (failed a) [] c o) w.is
            (subst (λ (x : D). ServedCalls node made left Fits answers names g (k % nodes) connections (tell (door w.x)) (tell x) (failed (door w.x)) (failed x) [] c o) t.is
            (subst (λ (cs : List Call). ServedCalls node made left Fits answers names g (k % nodes) connections (tell (door w.x)) (tell (door t.x)) (failed (door w.x)) (failed (door t.x)) [] cs o) calls_are
            (subst (λ (r : Result (Unit {0}) Failed). ServedCalls node made left Fits answers names g (k % nodes) connections (tell (door w.x)) (tell (door t.x)) (failed (door w.x)) (failed (door t.x)) []
            (made (pass t.x)) r) outcome_is did)));
        came = all_image is_ok outcome ts ∙ came;
      }
        where
          many : length ts ≡ length doors
          many = long ∙ sym (length-map ws door) ∙ ap (λ (xs : List D). length xs) were

      -- a door failed
      pub door_failed : (doors back : List D) → map door ws ≡ doors → back ≡ map door ts → list_all (λ t. is_ok (outcome t)) ts ≡ false → DoorFailed failed doors back
      door_failed doors back were are came =
          let f : Failing (λ t. is_ok (outcome t)) ts = failing (λ t. is_ok (outcome t)) ts came in
          let w = was_there f.k f.x f.at in record {
            place = f.k;
            was = door w.0;
            is = door f.x;
            before' = sym (ap (λ (xs : List D). slice_get xs f.k) were) ∙ slice_get-map door ws f.k ∙ ap (option_map door) w.1;
            after' = ap (λ (xs : List D). slice_get xs f.k) are ∙ slice_get-map door ts f.k ∙ ap (option_map door) f.at;
            rose = rises (failed (door w.0)) (failed (door f.x)) (outcome f.x) f.no (served f.k w.0 f.x w.1 f.at).cause.failed;
          }
        where
          rises : (before after : ℕ) (o : Result (Unit {0}) Failed) → is_ok o ≡ false → OnErr o (Rose before after) → Rose before after
          rises before after (Ok x) wrong h = cc
          rises before after (Err e) is h = h
