-- What a worker has to do, and what it has done.
use Rattle.std.specs.Prelude.{◌≡◌, ℕ, ◌*◌, ◌≤◌, ◌<◌, Bool, true, false, List, [], ◌∷◌, map, length}
use Rattle.std.specs.List.{AllZip}
use Rattle.turnstile.specs.declared.machine.Machine.{Ghosts}
use Rattle.turnstile.specs.declared.turnstile.Turnstile.{Turnstile}
use Rattle.turnstile.specs.Names.{opening}
use Rattle.shared_objects.specs.declared.pass.Post.{Post}
use Rattle.shared_objects.specs.Seats.{budget_at, Sits}
use Rattle.shared_objects.specs.Said.{Said, all_said}
use Rattle.shared_objects.specs.ScriptCalling.{HasSaid}
use Rattle.shared_objects.specs.Done.{HaveTalked}

module _ {M Q A C : Type 0} {g : Ghosts M Q A C} where
  -- A worker made these calls from its seats, which still belong to the turnstiles.
  pub record HasTold (turnstiles : List (Turnstile M Q A C)) (said : List (Said Q A)) (posts posts' : List (Post M Q A C g)) : Type 0 where
    pub told : HasSaid said posts posts'
    pub sits : AllZip Sits turnstiles posts'

  -- Each worker made its calls.
  abbrev pub HaveTold : List (Turnstile M Q A C) → List (List (Said Q A)) → List (List (Post M Q A C g)) → List (List (Post M Q A C g)) → Type 0
  HaveTold ts [] [] [] = Unit {0}
  HaveTold ts (said ∷ all) (p ∷ ps) (q ∷ qs) = HasTold ts said p q × HaveTold ts all ps qs
  HaveTold ts _ _ _ = ⊥

  module _ {K : Type 0} where
    -- A worker with these jobs left has its seats, may do its errands, and may make all their calls.
    pub record IsReady (may : List M → K → List ℕ → Type 0) (most : ℕ) (turnstiles : List (Turnstile M Q A C)) (posts : List (Post M Q A C g)) (keep : K) (jobs : List ℕ) : Type 0 where
      pub sits : AllZip Sits turnstiles posts
      pub budget : (i : ℕ) → i < length posts → length jobs * most ≤ budget_at i posts
      pub leave : may (map opening turnstiles) keep jobs

    module _ (does : ℕ → K → List (Said Q A) → K → Type 0) where
      -- a worker did one job
      pub record HasGone (turnstiles : List (Turnstile M Q A C)) (job : ℕ) (posts : List (Post M Q A C g)) (keep : K) (posts' : List (Post M Q A C g)) (keep' : K) : Type 0 where
        pub said : List (Said Q A)
        pub done : does job keep said keep'
        pub told : HasTold turnstiles said posts posts'

      -- What the workers did: if `ended`, each did its jobs, and otherwise none made a call.
      pub record HaveWorked (turnstiles : List (Turnstile M Q A C)) (ended : Bool) (jobs : ℕ) (ps : List (List (Post M Q A C g))) (ks : List K) (qs : List (List (Post M Q A C g))) (ls : List K) : Type 0 where
        pub talks : List (List (ℕ × List (Said Q A)))
        pub told : HaveTold turnstiles (map all_said talks) ps qs
        pub well : ended ≡ true → HaveTalked does jobs ks talks ls
        pub idle : ended ≡ false → (ls ≡ ks) × (map all_said talks ≡ map (λ k. []) ks)
