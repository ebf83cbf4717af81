-- The results of a block's workers, put together.
use Rattle.std.proofs.Common.{◌≡◌, ℕ, zero, suc, ◌+◌, ◌-◌, ◌<◌, ◌≤◌, Bool, true, cond, List, [], ◌∷◌, ◌++◌, map, reverse, length, get_or, take, Option, Some, None, refl, sym, ap, subst, ◌∙◌, arith, append-nil}
use Rattle.std.specs.Prelude.{◌==◌, nat_lt, count_by, slice_get, if◌then◌else◌}
use Rattle.std.specs.List.{flat_map}
use Rattle.std.specs.Option.{option_map}
use Rattle.std.proofs.lemmas.List.{get_or-reverse, length-reverse, length-map, map-append, take_all}
use Rattle.std.proofs.lemmas.List.Sums.{sum_by-cons}
use Rattle.std.proofs.lemmas.List.Concat.{flat_map-append, flat_map-cons}
use Rattle.std.proofs.lemmas.Option.{slice_get-get_or, slice_get_within, get_or_from_slice_get, slice_get-map}
use Rattle.std.proofs.Math.Seq.{take-suc, take-append_seam}
use Rattle.block_run.specs.Jobs.{jobs_of, job_count, Chains}
use Rattle.block_run.specs.Seated.{IsSeated}
use Rattle.block_run.specs.Done.{IsDone, EachOnce}
use Rattle.block_run.proofs.Spread.{up_to, each_once, as_many, fewer}

-- An item of the reverse of a list is the item of the list at the mirrored index.

turned : {A : Type 0} (xs : List A) (k : ℕ) (x : A) → slice_get (reverse xs) k ≡ Some x → slice_get xs (length xs - 1 - k) ≡ Some x
turned xs k x here =
    let lt : k < length xs = subst (λ (n : ℕ). k < n) (length-reverse xs) (slice_get_within (reverse xs) k x here) in
    slice_get-get_or xs (length xs - 1 - k) x (omega (arith, lt)) ∙ ap Some (sym (get_or-reverse xs k x lt) ∙ get_or_from_slice_get (reverse xs) k x x here)

turned_back : {A : Type 0} (xs : List A) (k : ℕ) (x : A) → slice_get xs k ≡ Some x → slice_get (reverse xs) (length xs - 1 - k) ≡ Some x
turned_back xs k x here =
    let lt = slice_get_within xs k x here in
    let within : length xs - 1 - k < length xs = omega (arith, lt) in
    let same : length xs - 1 - (length xs - 1 - k) ≡ k = omega (arith, lt) in
    slice_get-get_or (reverse xs) (length xs - 1 - k) x (subst (λ (n : ℕ). length xs - 1 - k < n) (sym (length-reverse xs)) within)
    ∙ ap Some (get_or-reverse xs (length xs - 1 - k) x within ∙ ap (λ (i : ℕ). get_or xs i x) same ∙ get_or_from_slice_get xs k x x here)

-- the item whose image under f is b
record From {A B : Type 0} (f : A → B) (o : Option A) (b : B) : Type 0 where
  item : A
  there : o ≡ Some item
  is : f item ≡ b

image : {A B : Type 0} (f : A → B) (o : Option A) (b : B) → option_map f o ≡ Some b → From f o b
image f None b h = absurd cc
image f (Some a) b h = record { item = a; there = refl; is = cc }

image_at : {A B : Type 0} (f : A → B) (xs : List A) (k : ℕ) (b : B) → slice_get (map f xs) k ≡ Some b → From f (slice_get xs k) b
image_at f xs k b h = image f (slice_get xs k) b (sym (slice_get-map f xs k) ∙ h)

module _ {S P A : Type 0} (gives : ℕ → P → A → P → Type 0) (pass : S → P) (answers : S → List (ℕ × A)) (before : List P) (sat left : List S) (jobs : ℕ) where
  -- The last worker had the first seat, and each worker did its jobs.
  pub record DidAll : Type 0 where
    pub seated : map pass sat ≡ reverse before
    pub same : length left ≡ length sat
    pub chains : (place : ℕ) (s t : S) → slice_get sat place ≡ Some s → slice_get left place ≡ Some t → Chains gives (jobs_of (length sat - 1 - place) (length sat) jobs) (pass s) (answers t) (pass t)

  as_long : DidAll → length sat ≡ length before
  as_long did = sym (length-map sat pass) ∙ ap length did.seated ∙ length-reverse before

  chain_at : DidAll → (w : ℕ) (p q : P) (part : List (ℕ × A)) → slice_get before w ≡ Some p → slice_get (reverse (map pass left)) w ≡ Some q → slice_get (map answers (reverse left)) w ≡ Some part →
      Chains gives (jobs_of w (length before) jobs) p part q
  chain_at did w p q part at_p at_q at_part =
      let long = as_long did in
      let lt = slice_get_within before w p at_p in
      let n = length before in
      let place = n - 1 - w in
      let s = image_at pass sat place p (ap (λ xs. slice_get xs place) did.seated ∙ turned_back before w p at_p) in
      let late : length (map pass left) ≡ n = length-map left pass ∙ did.same ∙ long in
      let t = image_at pass left place q (subst (λ (m : ℕ). slice_get (map pass left) (m - 1 - w) ≡ Some q) late (turned (map pass left) w q at_q)) in
      let u = image_at answers (reverse left) w part at_part in
      let there = subst (λ (m : ℕ). slice_get left (m - 1 - w) ≡ Some u.item) (did.same ∙ long) (turned left w u.item u.there) in
      let one : t.item ≡ u.item = some_is t.item u.item (sym t.there ∙ there) in
      let back : n - 1 - place ≡ w = omega (arith, lt) in
      let chain = did.chains place s.item t.item s.there t.there in
      let c = subst (λ (m : ℕ). Chains gives (jobs_of (m - 1 - place) m jobs) (pass s.item) (answers t.item) (pass t.item)) long chain in
      let d = subst (λ (v : ℕ). Chains gives (jobs_of v n jobs) (pass s.item) (answers t.item) (pass t.item)) back c in
      let e = subst (λ x. Chains gives (jobs_of w n jobs) x (answers t.item) (pass t.item)) s.is d in
      let f = subst (λ x. Chains gives (jobs_of w n jobs) p (answers t.item) x) t.is e in
      subst (λ x. Chains gives (jobs_of w n jobs) p x q) (ap answers one ∙ u.is) f
    where
      some_is : (a b : S) → Some a ≡ Some b → a ≡ b
      some_is a b h = cc

  flat : (xs : List S) → flat_map answers xs ≡ flat_map (λ part. part) (map answers xs)
  flat [] = refl
  flat (x ∷ xs) = flat_map-cons answers x xs ∙ ap (λ ys. answers x ++ ys) (flat xs) ∙ sym (flat_map-cons (λ part. part) (answers x) (map answers xs))

  pub whole : DidAll → IsDone gives before jobs (reverse (map pass left)) (flat_map answers (reverse left))
  whole did = record {
    parts = map answers (reverse left);
    passes = length-reverse (map pass left) ∙ length-map left pass ∙ did.same ∙ as_long did;
    workers = length-map (reverse left) answers ∙ length-reverse left ∙ did.same ∙ as_long did;
    chains = chain_at did;
    answers_are = flat (reverse left);
  }

there : {X : Type 0} (xs : List X) (k : ℕ) → k < length xs → (x : X) × (slice_get xs k ≡ Some x)
there [] k lt = absurd (omega (arith, lt))
there (x ∷ xs) zero lt = (x, refl)
there (x ∷ xs) (suc k) lt = there xs k (omega (arith, lt))

module _ {P A : Type 0} (gives : ℕ → P → A → P → Type 0) where
  -- A chain has an answer for each of its jobs, in order.
  firsts : (js : List ℕ) (p q : P) (got : List (ℕ × A)) → Chains gives js p got q → map (λ a. a.0) got ≡ js
  firsts [] p q got chain = ap (map (λ a. a.0)) chain.0
  firsts (j ∷ js) p q got chain = ap (map (λ a. a.0)) chain.4 ∙ ap (λ ks. j ∷ ks) (firsts js chain.1 q chain.2 chain.5)

  -- The answers of the first k workers belong to the jobs of the first k workers, in order.
  all_firsts : (before after : List P) (answers : List (ℕ × A)) (jobs : ℕ) → (done : IsDone gives before jobs after answers) → (k : ℕ) → k ≤ length before →
      map (λ a. a.0) (flat_map (λ part. part) (take k done.parts)) ≡ up_to k (length before) jobs
  all_firsts before after answers jobs done zero few = refl
  all_firsts before after answers jobs done (suc k) few =
      let n = length before in
      let lt : k < length done.parts = subst (λ (m : ℕ). k < m) (sym done.workers) (omega (arith, few)) in
      let part = get_or done.parts k [] in
      let more = take-suc done.parts k [] lt in
      let split = ap (flat_map (λ part. part)) more ∙ flat_map-append (λ part. part) (take k done.parts) (part ∷ []) ∙ ap (λ xs. flat_map (λ part. part) (take k done.parts) ++ xs) (flat_map-cons (λ part. part) part [] ∙ append-nil part) in
      ap (map (λ a. a.0)) split ∙ map-append (λ a. a.0) (flat_map (λ part. part) (take k done.parts)) part
      ∙ ap (λ xs. xs ++ map (λ a. a.0) part) (all_firsts before after answers jobs done k (omega (arith, few)))
      ∙ ap (λ xs. up_to k n jobs ++ xs) (firsts (jobs_of k n jobs) p.0 q.0 part (done.chains k p.0 q.0 part p.1 q.1 (slice_get-get_or done.parts k [] lt)))
    where
      p : (x : P) × (slice_get before k ≡ Some x)
      p = there before k (omega (arith, few))

      q : (x : P) × (slice_get after k ≡ Some x)
      q = there after k (subst (λ (m : ℕ). k < m) (sym done.passes) (omega (arith, few)))

  pub answered : (before after : List P) (answers : List (ℕ × A)) (jobs : ℕ) → IsDone gives before jobs after answers → map (λ a. a.0) answers ≡ up_to (length before) (length before) jobs
  answered before after answers jobs done =
      ap (map (λ a. a.0)) (done.answers_are ∙ ap (flat_map (λ part. part)) (sym (take_all (length before) done.parts (omega (arith, done.workers)))))
      ∙ all_firsts before after answers jobs done (length before) (omega arith)

  counts_alike : (test : ℕ → Bool) (answers : List (ℕ × A)) → count_by (λ a. test a.0) answers ≡ count_by test (map (λ a. a.0) answers)
  counts_alike test [] = refl
  counts_alike test (a ∷ rest) = sum_by-cons (λ b. cond (test b.0) 1 0) a rest ∙ ap (λ (n : ℕ). cond (test a.0) 1 0 + n) (counts_alike test rest) ∙ sym (sum_by-cons (λ k. cond (test k) 1 0) a.0 (map (λ b. b.0) rest))

  all_count : {X : Type 0} (xs : List X) → count_by (λ x. true) xs ≡ length xs
  all_count [] = refl
  all_count (x ∷ xs) = sum_by-cons (λ y. 1) x xs ∙ ap (λ (n : ℕ). 1 + n) (all_count xs) ∙ omega arith

  pub once : (before after : List P) (answers : List (ℕ × A)) (jobs : ℕ) → 0 < length before → IsDone gives before jobs after answers → EachOnce jobs answers
  once before after answers jobs some done = λ j.
      counts_alike (λ k. k == j) answers ∙ ap (count_by (λ k. k == j)) (answered before after answers jobs done) ∙ each_once j (length before) jobs some

  pub as_many_answers : (before after : List P) (answers : List (ℕ × A)) (jobs : ℕ) → 0 < length before → IsDone gives before jobs after answers → length answers ≡ jobs
  as_many_answers before after answers jobs some done =
      sym (length-map answers (λ a. a.0)) ∙ ap length (answered before after answers jobs done) ∙ sym (all_count (up_to (length before) (length before) jobs)) ∙ as_many (length before) jobs some

-- a worker in its seat before the first job
module _ {S P A : Type 0} (fits : P → List ℕ → Type 0) (pass : S → P) (answers : S → List A) (room : S → ℕ) (before : List P) (sat : List S) (jobs : ℕ) where
  pub seated : map pass sat ≡ reverse before → length before ≤ 32 → ((w : ℕ) (p : P) → slice_get before w ≡ Some p → fits p (jobs_of w (length before) jobs)) →
      ((k : ℕ) (d : S) → k < length sat → (answers (get_or sat k d) ≡ []) × (job_count 0 (length before) jobs ≤ room (get_or sat k d))) →
      (place : ℕ) (s : S) → slice_get sat place ≡ Some s → IsSeated fits (length sat) jobs place (pass s) (answers s) (room s)
  seated is few ready rooms place s here =
      let long : length sat ≡ length before = sym (length-map sat pass) ∙ ap length is ∙ length-reverse before in
      let lt = slice_get_within sat place s here in
      let free = subst (λ x. (answers x ≡ []) × (job_count 0 (length before) jobs ≤ room x)) (get_or_from_slice_get sat place s s here) (rooms place s lt) in
      let there : slice_get (reverse before) place ≡ Some (pass s) = ap (λ xs. slice_get xs place) (sym is) ∙ slice_get-map pass sat place ∙ ap (option_map pass) here in
      let less = fewer (length before - 1 - place) (length before) jobs (omega (arith, lt, long)) in
      subst (λ (n : ℕ). IsSeated fits n jobs place (pass s) (answers s) (room s)) (sym long)
      (record { few = few; placed = omega (arith, lt, long); none = free.0; enough = omega (arith, less, free.1); ready = ready (length before - 1 - place) (pass s) (turned before place (pass s) there) })

-- The first n items of a list that begins with n given items are these items.
pub written : {X : Type 0} (n : ℕ) (new old : List X) → length new ≡ n → take n (new ++ old) ≡ new
written n new old e = ap (λ (m : ℕ). take m (new ++ old)) (sym e) ∙ take-append_seam new old
