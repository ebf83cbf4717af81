-- What a worker has to do, and what it has done.
use Rattle.std.specs.Prelude.{◌≡◌, ℕ, ◌+◌, ◌≤◌, ◌<◌, List, [], ◌++◌, map, length, Bool, if◌then◌else◌, Option, All, IfSome}
use Rattle.std.specs.List.{AllZip}
use Rattle.turnstile.specs.declared.machine.Machine.{Ghosts}
use Rattle.turnstile.specs.declared.turnstile.Turnstile.{Turnstile}
use Rattle.shared_objects.specs.declared.pass.Post.{Post}
use Rattle.turnstile.specs.Names.{opening}
use Rattle.shared_objects.specs.declared.call.Call.{Call}
use Rattle.shared_objects.specs.Asked.{requests_on, IsTaken}
use Rattle.shared_objects.specs.Seats.{calls_at, budget_at, Sits}

module _ {M Q A C : Type 0} {g : Ghosts M Q A C} where
  -- the requests of a worker's calls of a machine: those made, then those to come
  abbrev pub asked_on : ℕ → List (Post M Q A C g) → List (Option (Call Q)) → List Q
  asked_on i posts shift = map (λ c. c.1.0) (calls_at i posts) ++ requests_on i shift

  abbrev pub share_of : ℕ → List (Post M Q A C g) → ℕ
  share_of i posts = budget_at i posts + length (calls_at i posts)

  -- A worker with this number of jobs left has its posts and an entry for each job, and may make all its calls.
  pub record IsReady (takes : C → Q → Type 0) (charter : M → C) (turnstiles : List (Turnstile M Q A C)) (posts : List (Post M Q A C g)) (shift : List (Option (Call Q))) (jobs : ℕ) : Type 0 where
    pub sits : AllZip Sits turnstiles posts
    pub entries : length shift ≡ jobs
    pub budget : (i : ℕ) → i < length posts → jobs ≤ budget_at i posts
    pub taken : All (λ entry. IfSome entry (IsTaken charter takes (map opening turnstiles))) shift

  -- A worker went through this number of entries.
  pub record HasGone (turnstiles : List (Turnstile M Q A C)) (jobs : ℕ) (posts : List (Post M Q A C g)) (shift : List (Option (Call Q))) (posts' : List (Post M Q A C g)) (shift' : List (Option (Call Q))) : Type 0 where
    pub entries : length shift ≡ jobs + length shift'
    pub asked : (i : ℕ) → asked_on i posts' shift' ≡ asked_on i posts shift
    pub shares : (i : ℕ) → share_of i posts' ≡ share_of i posts
    pub sits : AllZip Sits turnstiles posts → AllZip Sits turnstiles posts'

  -- What a worker did with its entries: if `well`, it made each call, and otherwise none.
  pub record HasWorked (turnstiles : List (Turnstile M Q A C)) (well : Bool) (posts : List (Post M Q A C g)) (shift : List (Option (Call Q))) (posts' : List (Post M Q A C g)) : Type 0 where
    pub sits : AllZip Sits turnstiles posts'
    pub asked : (i : ℕ) → map (λ c. c.1.0) (calls_at i posts') ≡ map (λ c. c.1.0) (calls_at i posts) ++ (if well then requests_on i shift else [])
    pub shares : (i : ℕ) → share_of i posts' ≡ share_of i posts
