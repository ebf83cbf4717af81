-- Rows of new seats, and what the seats have made and left in the end.
use Rattle.std.proofs.Common.{◌≡◌, ℕ, zero, suc, ◌+◌, ◌-◌, ◌*◌, ◌<◌, ◌≤◌, List, [], ◌∷◌, map, length, slice_get, Option, Some, All, IfSome, refl, sym, ap, subst, ◌∙◌, arith, suc-mul, le-mul_of_pos_right, div-lt_iff_lt-mul}
use Rattle.std.specs.Option.{option_map}
use Rattle.std.proofs.lemmas.List.{length-map}
use Rattle.std.proofs.lemmas.Option.{slice_get-map}
use Rattle.std.specs.List.{AllZip, AllByRecursion}
use Rattle.block_run.specs.Jobs.{jobs_from, job_count, jobs_of}
use Rattle.turnstile.specs.declared.machine.Machine.{Ghosts}
use Rattle.turnstile.specs.declared.turnstile.Turnstile.{Turnstile}
use Rattle.turnstile.specs.Names.{opening, knows}
use Rattle.turnstile.specs.Views.{Stands}
use Rattle.shared_objects.specs.Rising.{Rises}
use Rattle.shared_objects.specs.declared.pass.Post.{Post}
use Rattle.shared_objects.specs.declared.call.Call.{Call}
use Rattle.shared_objects.specs.Asked.{IsTaken}
use Rattle.shared_objects.specs.Seats.{calls_at, budget_at, Belongs, Sits, HoldsAll, IsFresh, IsOpened}
use Rattle.shared_objects.specs.Shares.{share_of, IsReady}
use Rattle.shared_objects.proofs.Zips.{zip_weaker, zip_same}

jobs_long : (first step n : ℕ) → length (jobs_from first step n) ≡ n
jobs_long first step zero = refl
jobs_long first step (suc n) = ap suc (jobs_long (first + step) step n)

-- A worker has at most as many jobs as there are in all.
pub jobs_few : (w n jobs : ℕ) → 0 < n → length (jobs_of w n jobs) ≤ jobs
jobs_few w n jobs some =
    let grown : jobs ≤ jobs * n = le-mul_of_pos_right jobs some in
    let below : jobs + n - (w + 1) < suc jobs * n = omega (arith, grown, suc-mul jobs n, some) in
    let few : job_count w n jobs < suc jobs = (div-lt_iff_lt-mul some).1 below in
    omega (arith, few, jobs_long w n (job_count w n jobs))

pub each_at : {X : Type 0} (P : X → Type 0) (xs : List X) (i : ℕ) (x : X) → AllByRecursion P xs → slice_get xs i ≡ Some x → P x
each_at P [] i x h e = cc
each_at {X} P (y ∷ ys) zero x h e = let p : y ≡ x = cc in subst (λ (z : X). P z) p h.0
each_at P (y ∷ ys) (suc i) x h e = each_at P ys i x h.1 e

module _ {M Q A C : Type 0} {g : Ghosts M Q A C} where
  module _ (calls : ℕ) where
    -- New seats have made no calls.
    pub fresh_none : (ts : List (Turnstile M Q A C)) (i : ℕ) (posts : List (Post M Q A C g)) → AllZip (IsFresh calls) ts posts → calls_at i posts ≡ []
    fresh_none [] i [] h = refl
    fresh_none [] i (p ∷ ps) h = absurd h
    fresh_none (t ∷ ts) i [] h = absurd h
    fresh_none (t ∷ ts) zero (p ∷ ps) h = h.0.none
    fresh_none (t ∷ ts) (suc i) (p ∷ ps) h = fresh_none ts i ps h.1

    pub fresh_budget : (ts : List (Turnstile M Q A C)) (i : ℕ) (posts : List (Post M Q A C g)) → AllZip (IsFresh calls) ts posts → i < length posts → budget_at i posts ≡ calls
    fresh_budget ts i [] h lt = absurd (omega (arith, lt))
    fresh_budget [] i (p ∷ ps) h lt = absurd h
    fresh_budget (t ∷ ts) zero (p ∷ ps) h lt = h.0.budget
    fresh_budget (t ∷ ts) (suc i) (p ∷ ps) h lt = fresh_budget ts i ps h.1 (omega (arith, lt))

    pub fresh_share : (ts : List (Turnstile M Q A C)) (i : ℕ) (posts : List (Post M Q A C g)) → i < length ts → AllZip (IsFresh calls) ts posts → share_of i posts ≡ calls
    fresh_share ts i posts lt h =
        let n : length (calls_at i posts) ≡ 0 = ap length (fresh_none ts i posts h) in
        let b = fresh_budget ts i posts h (omega (arith, lt, zip_same (IsFresh calls) ts posts h)) in
        omega (arith, n, b)

    pub fresh_sits : (t : Turnstile M Q A C) (p : Post M Q A C g) → IsFresh calls t p → Sits t p
    fresh_sits t p h = record {
      fits = h.fits;
      stands = subst (λ (own : List (ℕ × (Q × A))). Stands own (knows p.seat).seen) (sym h.none) tt;
      rises = subst (λ (own : List (ℕ × (Q × A))). Rises own) (sym h.none) tt;
    }

    pub opened_fresh : (ts : List (Turnstile M Q A C)) (ps : List (Post M Q A C g)) → AllZip (IsOpened calls) ts ps → AllZip (IsFresh calls) ts ps
    opened_fresh = zip_weaker (IsOpened calls) (IsFresh calls) (λ t p h. h.fresh)

    pub opened_belong : (ts : List (Turnstile M Q A C)) (ps : List (Post M Q A C g)) → AllZip (IsOpened calls) ts ps → AllZip Belongs ts ps
    opened_belong = zip_weaker (IsOpened calls) Belongs (λ t p h. h.fresh.fits)

    -- If the calls made and the calls left add up to all calls, the kept seats hold all calls.
    pub holds_all : (ts : List (Turnstile M Q A C)) (first last : List (Post M Q A C g)) → AllZip (IsOpened calls) ts first → AllZip Belongs ts last →
        ((i : ℕ) → i < length ts → share_of i last ≡ calls) → AllZip HoldsAll ts last
    holds_all [] [] [] h b s = tt
    holds_all [] [] (q ∷ qs) h b s = absurd b
    holds_all [] (p ∷ ps) qs h b s = absurd h
    holds_all (t ∷ ts) [] qs h b s = absurd h
    holds_all (t ∷ ts) (p ∷ ps) [] h b s = absurd b
    holds_all (t ∷ ts) (p ∷ ps) (q ∷ qs) h b s =
        (record { fits = b.0; whole = s 0 (omega arith) ∙ sym h.0.all }, holds_all ts ps qs h.1 b.1 (λ i lt. s (suc i) (omega (arith, lt))))

  module _ (takes : C → Q → Type 0) (charter : M → C) (ts : List (Turnstile M Q A C)) where
    ready_seated : (posts : List (Post M Q A C g)) (shift : List (Option (Call Q))) (n calls : ℕ) → AllZip (IsFresh calls) ts posts → length shift ≡ n → n ≤ calls →
        All (λ entry. IfSome entry (IsTaken charter takes (map opening ts))) shift → IsReady takes charter ts posts shift n
    ready_seated posts shift n calls fresh long few taken = record {
      sits = zip_weaker (IsFresh calls) Sits (fresh_sits calls) ts posts fresh;
      entries = long;
      budget = λ i lt. let b = fresh_budget calls ts i posts fresh lt in omega (arith, b, few);
      taken = taken;
    }

    -- Workers with new seats are ready for their jobs.
    pub ready_all : {P V : Type 0} (posts : P → List (Post M Q A C g)) (deque : P → V) (items : V → List (Option (Call Q))) (ps : List P) (vs : List V) (jobs calls : ℕ) → calls ≡ jobs → map deque ps ≡ vs → 0 < length vs →
        AllByRecursion (λ p. AllZip (IsFresh calls) ts (posts p)) ps →
        ((w : ℕ) (v : V) → slice_get vs w ≡ Some v → length (items v) ≡ length (jobs_of w (length vs) jobs)) →
        ((w : ℕ) (v : V) → slice_get vs w ≡ Some v → All (λ entry. IfSome entry (IsTaken charter takes (map opening ts))) (items v)) →
        (w : ℕ) (p : P) → slice_get ps w ≡ Some p → IsReady takes charter ts (posts p) (items (deque p)) (length (jobs_of w (length ps) jobs))
    ready_all {P} {V} posts deque items ps vs jobs calls same are some fresh entries taken w p e =
        let n : length vs ≡ length ps = sym (ap length are) ∙ length-map ps deque in
        let here : slice_get vs w ≡ Some (deque p) = sym (ap (λ (xs : List V). slice_get xs w) are) ∙ slice_get-map deque ps w ∙ ap (option_map deque) e in
        let long : length (items (deque p)) ≡ length (jobs_of w (length ps) jobs) = entries w (deque p) here ∙ ap (λ (k : ℕ). length (jobs_of w k jobs)) n in
        let few : length (jobs_of w (length ps) jobs) ≤ calls = omega (arith, jobs_few w (length ps) jobs (omega (arith, some, n)), same) in
        ready_seated (posts p) (items (deque p)) (length (jobs_of w (length ps) jobs)) calls (each_at (λ q. AllZip (IsFresh calls) ts (posts q)) ps w p fresh e) long few (taken w (deque p) here)
