-- What the workers are ready for, and what they did.
use Rattle.std.proofs.Common.{◌≡◌, ℕ, suc, ◌*◌, ◌<◌, ◌≤◌, true, false, List, [], ◌∷◌, map, length, slice_get, Some, refl, sym, ap, subst, ◌∙◌, arith, suc-mul, mul-le-mul_right}
use Rattle.std.proofs.lemmas.List.{length-map}
use Rattle.std.specs.List.{AllZip, AllByRecursion}
use Rattle.block_run.specs.Jobs.{jobs_of, Chains}
use Rattle.turnstile.specs.declared.machine.Machine.{Ghosts}
use Rattle.turnstile.specs.declared.turnstile.Turnstile.{Turnstile}
use Rattle.turnstile.specs.Names.{opening}
use Rattle.shared_objects.specs.declared.pass.Post.{Post}
use Rattle.shared_objects.specs.Seats.{budget_at, Sits, IsFresh}
use Rattle.shared_objects.proofs.Zips.{zip_weaker, zip_same}
use Rattle.shared_objects.proofs.Opening.{jobs_few, each_at, fresh_budget, fresh_sits}
use Rattle.shared_objects.proofs.Ready.{made_of}
use Rattle.shared_objects.specs.Said.{Said, said_on, all_said}
use Rattle.shared_objects.specs.ScriptCalling.{HasCalled}
use Rattle.shared_objects.specs.Working.{HasTold, HaveTold, IsReady, HaveWorked}
use Rattle.shared_objects.specs.Laws.{said_none}
use Rattle.shared_objects.proofs.Chaining.{Talked}
use Rattle.shared_objects.proofs.Gathering.{Gathered, at_map}
use Rattle.shared_objects.proofs.Telling.{told_of}

-- what a caller said from a worker's seats
pub told_by : {M Q A C : Type 0} {g : Ghosts M Q A C} (ts us : List (Turnstile M Q A C)) (p q : List (Post M Q A C g)) (said : List (Said Q A)) → HasCalled said ts p us q → AllZip Sits us q → HasTold ts said p q
told_by {M} {Q} {A} {C} ts us p q said h sits = record { told = h.told; sits = subst (λ (vs : List (Turnstile M Q A C)). AllZip Sits vs q) h.same sits }

module _ {M Q A C : Type 0} {g : Ghosts M Q A C} {K : Type 0} where
  module _ (may : List M → K → List ℕ → Type 0) (most : ℕ) (ts : List (Turnstile M Q A C)) where
    -- The seats have enough calls left for one job.
    pub may_once : (posts : List (Post M Q A C g)) (keep : K) (job : ℕ) (rest : List ℕ) → IsReady may most ts posts keep (job ∷ rest) → (i : ℕ) → i < length (map opening ts) → most ≤ budget_at i posts
    may_once posts keep job rest ready i lt =
        let b = ready.budget i (omega (arith, lt, length-map ts opening, zip_same Sits ts posts ready.sits)) in omega (arith, b, suc-mul (length rest) most)

    -- After a job the worker is ready for the rest.
    pub ready_on : (posts posts' : List (Post M Q A C g)) (keep keep' : K) (job : ℕ) (rest : List ℕ) (said : List (Said Q A)) → IsReady may most ts posts keep (job ∷ rest) → HasTold ts said posts posts' →
        ((i : ℕ) → length (said_on i said) ≤ most) → may (map opening ts) keep' rest → IsReady may most ts posts' keep' rest
    ready_on posts posts' keep keep' job rest said ready told few may' = record {
      sits = told.sits;
      budget = λ i lt.
          let same = zip_same Sits ts posts' told.sits ∙ sym (zip_same Sits ts posts ready.sits) in
          let b = ready.budget i (omega (arith, lt, same)) in
          omega (arith, b, suc-mul (length rest) most, told.told.budget i, few i);
      leave = may';
    }

    -- Workers with new seats are ready for their jobs.
    pub ready_all : {P : Type 0} (posts : P → List (Post M Q A C g)) (keep : P → K) (ps : List P) (ks : List K) (jobs calls : ℕ) → map keep ps ≡ ks → 0 < length ks → jobs * most ≤ calls →
        AllByRecursion (λ p. AllZip (IsFresh calls) ts (posts p)) ps → ((w : ℕ) (k : K) → slice_get ks w ≡ Some k → may (map opening ts) k (jobs_of w (length ks) jobs)) →
        (w : ℕ) (p : P) → slice_get ps w ≡ Some p → IsReady may most ts (posts p) (keep p) (jobs_of w (length ps) jobs)
    ready_all posts keep ps ks jobs calls are some enough fresh mays w p e =
        let n : length ks ≡ length ps = sym (ap length are) ∙ length-map ps keep in
        let mine : AllZip (IsFresh calls) ts (posts p) = each_at (λ q. AllZip (IsFresh calls) ts (posts q)) ps w p fresh e in
        let here : slice_get ks w ≡ Some (keep p) = sym (ap (λ (xs : List K). slice_get xs w) are) ∙ at_map keep ps w p e in record {
          sits = zip_weaker (IsFresh calls) Sits (fresh_sits calls) ts (posts p) mine;
          budget = λ i lt.
              let b = fresh_budget calls ts i (posts p) mine lt in
              let f = mul-le-mul_right most (jobs_few w (length ps) jobs (omega (arith, some, n))) in
              omega (arith, b, f, enough);
          leave = subst (λ (k : ℕ). may (map opening ts) (keep p) (jobs_of w k jobs)) n (mays w (keep p) here);
        }

  module _ (does : ℕ → K → List (Said Q A) → K → Type 0) (ts : List (Turnstile M Q A C)) {P : Type 0} (posts : P → List (Post M Q A C g)) (keep : P → K) (jobs : ℕ) where
    -- what worker w of n said
    abbrev pub SaidBy : ℕ → ℕ → P → P → List (ℕ × List (Said Q A)) → Type 0
    SaidBy n w p q talk = Talked does ts (jobs_of w n jobs) (posts p) (keep p) (posts q) (keep q) talk

    told_at : (ps qs : List P) (all : Gathered (SaidBy (length ps)) ps qs) (w : ℕ) (said : List (Said Q A)) (a b : List (Post M Q A C g)) → slice_get (map all_said all.all) w ≡ Some said → slice_get (map posts ps) w ≡ Some a → slice_get (map posts qs) w ≡ Some b →
        HasTold ts said a b
    told_at ps qs all w said a b e f h =
        let t = made_of all_said all.all w said e in
        let p = made_of posts ps w a f in
        let q = made_of posts qs w b h in
        subst (λ (s : List (Said Q A)). HasTold ts s a b) t.2
        (subst (λ (x : List (Post M Q A C g)). HasTold ts (all_said t.0) x b) p.2 (subst (λ (y : List (Post M Q A C g)). HasTold ts (all_said t.0) (posts p.0) y) q.2 (all.each w p.0 q.0 t.0 p.1 q.1 t.1).told))

    chains_at : (ps qs : List P) (all : Gathered (SaidBy (length ps)) ps qs) (w : ℕ) (k l : K) (talk : List (ℕ × List (Said Q A))) → slice_get (map keep ps) w ≡ Some k → slice_get (map keep qs) w ≡ Some l → slice_get all.all w ≡ Some talk →
        Chains does (jobs_of w (length (map keep ps)) jobs) k talk l
    chains_at ps qs all w k l talk e f h =
        let p = made_of keep ps w k e in
        let q = made_of keep qs w l f in
        subst (λ (n : ℕ). Chains does (jobs_of w n jobs) k talk l) (sym (length-map ps keep))
        (subst (λ (x : K). Chains does (jobs_of w (length ps) jobs) x talk l) p.2 (subst (λ (y : K). Chains does (jobs_of w (length ps) jobs) (keep p.0) talk y) q.2 (all.each w p.0 q.0 talk p.1 q.1 h).chains))

    pub worked : (ps qs : List P) → length qs ≡ length ps → Gathered (SaidBy (length ps)) ps qs → HaveWorked does ts true jobs (map posts ps) (map keep ps) (map posts qs) (map keep qs)
    worked ps qs same all = record {
      talks = all.all;
      told = told_of ts (map all_said all.all) (map posts ps) (map posts qs) (length-map all.all all_said ∙ all.many ∙ sym (length-map ps posts)) (length-map qs posts ∙ same ∙ sym (length-map ps posts)) (told_at ps qs all);
      well = λ e. record { keeps = length-map qs keep ∙ same ∙ sym (length-map ps keep); workers = all.many ∙ sym (length-map ps keep); chains = chains_at ps qs all };
      idle = λ e. cc;
    }

    -- Nothing was said.
    silent : (ps : List P) → ◌≡◌ {A = List (List (Said Q A))} (map all_said (map (λ (p : P). []) ps)) (map (λ (k : K). []) (map keep ps))
    silent [] = refl
    silent (p ∷ ps) = ap (λ (xs : List (List (Said Q A))). [] ∷ xs) (silent ps)

    told_none : (ps : List P) → ((w : ℕ) (p : P) → slice_get ps w ≡ Some p → AllZip Sits ts (posts p)) → HaveTold ts (map all_said (map (λ (p : P). []) ps)) (map posts ps) (map posts ps)
    told_none [] sits = tt
    told_none (p ∷ ps) sits = (record { told = said_none (posts p); sits = sits 0 p refl }, told_none ps (λ w. sits (suc w)))

    pub idle : (ps : List P) → ((w : ℕ) (p : P) → slice_get ps w ≡ Some p → AllZip Sits ts (posts p)) → HaveWorked does ts false jobs (map posts ps) (map keep ps) (map posts ps) (map keep ps)
    idle ps sits = record { talks = map (λ p. []) ps; told = told_none ps sits; well = λ e. cc; idle = λ e. (refl, silent ps) }
