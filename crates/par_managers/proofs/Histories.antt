-- Turns in order make a history of each manager.
use Rattle.std.proofs.Common.{◌≡◌, inl, inr, ℕ, zero, suc, ◌+◌, ◌<◌, List, [], ◌∷◌, ◌++◌, length, map, refl, sym, ap, ◌∙◌, arith, Some, length-append}
use Rattle.std.specs.Prelude.{slice_get}
use Rattle.net_model.specs.Site.{count_up}
use Rattle.net_model.specs.World.{Network, World}
use Rattle.net_model.specs.Step.{step, run}
use Rattle.run_model.specs.Works.{Work, Done, actions_in, done_from, flat}
use Rattle.law_base.proofs.Base.{split, slice_get-append_left, slice_get-append_right}
use Rattle.law_locality.proofs.Runs.{run_none, run_one}

-- The outcomes of two lists of turns in order are the outcomes of the first, followed by those of the second.
pub done-append : (net : Network) (w : World) (xs ys : List Work) →
    done_from net w (xs ++ ys) ≡ done_from net w xs ++ done_from net (run net w (actions_in xs)) ys
unfolding done_from
done-append net w [] ys = ap (λ (x : World). done_from net x ys) (sym (run_none net w))
done-append net w (x ∷ xs) ys =
    let next : World = (step net w x.action).0 in
    let one : Done = record { work = x; before = w; outcome = (step net w x.action).1 } in
    ap (λ (ds : List Done). one ∷ ds)
    (done-append net next xs ys ∙ ap (λ (z : World). done_from net next xs ++ done_from net z ys) (sym (run_one net w x.action (actions_in xs))))

-- If f maps a list to a concatenation of lists, the list itself is a concatenation of lists that f maps to these.

no_image : {A B : Type 0} (f : A → B) (ys : List A) → map f ys ≡ [] → ys ≡ []
no_image f [] h = refl
no_image f (y ∷ ys) h = cc

record Cut {A B : Type 0} (f : A → B) (xs rest : List B) (ys : List A) : Type 0 where
  front : List A
  back : List A
  whole : front ++ back ≡ ys
  is : map f front ≡ xs
  left : map f back ≡ rest

cons_head : {A : Type 0} (x y : A) (xs ys : List A) → ◌≡◌ {A = List A} (x ∷ xs) (y ∷ ys) → x ≡ y
cons_head x y xs ys h = cc

cons_tail : {A : Type 0} (x y : A) (xs ys : List A) → ◌≡◌ {A = List A} (x ∷ xs) (y ∷ ys) → xs ≡ ys
cons_tail x y xs ys h = cc

cut : {A B : Type 0} (f : A → B) (xs rest : List B) (ys : List A) → map f ys ≡ xs ++ rest → Cut f xs rest ys
cut f [] rest ys h = record { front = []; back = ys; whole = refl; is = refl; left = h }
cut f (x ∷ xs) rest [] h = absurd (cc h)
cut {A} {B} f (x ∷ xs) rest (y ∷ ys) h =
    let c = cut f xs rest ys (cons_tail (f y) x (map f ys) (xs ++ rest) h) in
    let head = cons_head (f y) x (map f ys) (xs ++ rest) h in
    record {
      front = y ∷ c.front;
      back = c.back;
      whole = ap (λ (zs : List A). y ∷ zs) c.whole;
      is = ap (λ (z : B). z ∷ map f c.front) head ∙ ap (λ (zs : List B). x ∷ zs) c.is;
      left = c.left;
    }

pub record Pieces {A B : Type 0} (f : A → B) (xss : List (List B)) (ys : List A) : Type 0 where
  pub parts : List (List A)
  pub whole : flat parts ≡ ys
  pub are : map (map f) parts ≡ xss

pub pieces : {A B : Type 0} (f : A → B) (xss : List (List B)) (ys : List A) → map f ys ≡ flat xss → Pieces f xss ys
pieces f [] ys h = record { parts = []; whole = sym (no_image f ys h); are = refl }
pieces {A} {B} f (xs ∷ xss) ys h =
    let c = cut f xs (flat xss) ys h in
    let p = pieces f xss c.back c.left in
    record {
      parts = c.front ∷ p.parts;
      whole = ap (λ (zs : List A). c.front ++ zs) p.whole ∙ c.whole;
      are = ap (λ (zs : List B). zs ∷ map (map f) p.parts) c.is ∙ ap (λ (zs : List (List B)). xs ∷ zs) p.are;
    }

-- the numbers from 0 up

pub length-count_up : (n : ℕ) → length (count_up n) ≡ n
length-count_up zero = refl
length-count_up (suc n) = let e = length-count_up n in let a = length-append (count_up n) (n ∷ []) in omega (arith, e, a)

pub counted_at : (n v : ℕ) → v < n → slice_get (count_up n) v ≡ Some v
counted_at zero v h = absurd (omega (arith, h))
counted_at (suc n) v h = elim (split v n) as (λ s. slice_get (count_up n ++ n ∷ []) v ≡ Some v) [
  | inl below ↦ slice_get-append_left (count_up n) (n ∷ []) v (before v n (length (count_up n)) below (length-count_up n)) ∙ counted_at n v below
  | inr at ↦
      let e = length-count_up n in
      let same : v ≡ length (count_up n) + 0 = here v n at.0 (length (count_up n)) h at.1 e in
      let last : v ≡ n = there v n at.0 h at.1 in
      ap (slice_get (count_up n ++ n ∷ [])) same ∙ slice_get-append_right (count_up n) (n ∷ []) 0 ∙ ap (λ (m : ℕ). Some m) (sym last)
] where
  before : (v n m : ℕ) → v < n → m ≡ n → v < m
  before v n m h e = omega (arith, h, e)

  here : (v n k m : ℕ) → v < suc n → v ≡ n + k → m ≡ n → v ≡ m + 0
  here v n k m h at e = omega (arith, h, at, e)

  there : (v n k : ℕ) → v < suc n → v ≡ n + k → v ≡ n
  there v n k h at = omega (arith, h, at)
