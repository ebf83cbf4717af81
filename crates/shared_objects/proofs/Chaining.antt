-- A worker's jobs, one after the other.
use Rattle.std.proofs.Common.{ℕ, List, [], ◌∷◌, refl, sym, subst}
use Rattle.std.specs.List.{AllZip}
use Rattle.block_run.specs.Jobs.{Chains}
use Rattle.turnstile.specs.declared.machine.Machine.{Ghosts}
use Rattle.turnstile.specs.declared.turnstile.Turnstile.{Turnstile}
use Rattle.shared_objects.specs.declared.pass.Post.{Post}
use Rattle.shared_objects.specs.Seats.{Sits}
use Rattle.shared_objects.specs.Said.{Said, all_said}
use Rattle.shared_objects.specs.Working.{HasTold, HasGone}
use Rattle.shared_objects.specs.Laws.{said_none, said_more}

module _ {M Q A C : Type 0} {g : Ghosts M Q A C} {K : Type 0} (does : ℕ → K → List (Said Q A) → K → Type 0) where
  -- what a worker said in its jobs
  pub record Talked (ts : List (Turnstile M Q A C)) (jobs : List ℕ) (posts : List (Post M Q A C g)) (keep : K) (posts' : List (Post M Q A C g)) (keep' : K) (talk : List (ℕ × List (Said Q A))) : Type 0 where
    pub chains : Chains does jobs keep talk keep'
    pub told : HasTold ts (all_said talk) posts posts'

  pub record Talks (ts : List (Turnstile M Q A C)) (jobs : List ℕ) (posts : List (Post M Q A C g)) (keep : K) (posts' : List (Post M Q A C g)) (keep' : K) : Type 0 where
    pub talk : List (ℕ × List (Said Q A))
    pub talked : Talked ts jobs posts keep posts' keep' talk

  none_talked : (ts : List (Turnstile M Q A C)) (posts : List (Post M Q A C g)) (keep : K) → AllZip Sits ts posts → Talks ts [] posts keep posts keep
  none_talked ts posts keep sits = record { talk = []; talked = record { chains = (refl, refl); told = record { told = said_none posts; sits = sits } } }

  one_talked : (ts : List (Turnstile M Q A C)) (job : ℕ) (jobs : List ℕ) (p q r : List (Post M Q A C g)) (k l m : K) → HasGone does ts job p k q l → Talks ts jobs q l r m → Talks ts (job ∷ jobs) p k r m
  one_talked ts job jobs p q r k l m one more = record {
    talk = (job, one.said) ∷ more.talk;
    talked = record {
      chains = (one.said, l, more.talk, one.done, refl, more.talked.chains);
      told = record {
        told = said_more one.said (all_said more.talk) p q r one.told.told more.talked.told.told;
        sits = more.talked.told.sits;
      };
    };
  }

  module _ {P : Type 0} (ts : List (Turnstile M Q A C)) (posts : P → List (Post M Q A C g)) (keep : P → K) where
    pub chained : (jobs : List ℕ) (p q : P) (answers : List (ℕ × Unit {0})) →
        Chains (λ job before answer next. HasGone does ts job (posts before) (keep before) (posts next) (keep next)) jobs p answers q → AllZip Sits ts (posts p) →
        Talks ts jobs (posts p) (keep p) (posts q) (keep q)
    chained [] p q answers h sits = subst (λ (r : P). Talks ts [] (posts p) (keep p) (posts r) (keep r)) (sym h.1) (none_talked ts (posts p) (keep p) sits)
    chained (job ∷ jobs) p q answers (answer, next, rest, one, is, more) sits =
        one_talked ts job jobs (posts p) (posts next) (posts q) (keep p) (keep next) (keep q) one (chained jobs next q rest more one.told.sits)
