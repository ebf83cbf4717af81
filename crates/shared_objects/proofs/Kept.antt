-- The kept seats, after all workers gave their seats back.
use Rattle.std.proofs.Common.{◌≡◌, ℕ, ◌+◌, ◌*◌, ◌<◌, Bool, true, false, List, [], ◌++◌, map, length, Option, sym, ap, subst, ◌∙◌, arith}
use Rattle.std.specs.List.{AllZip, AllByRecursion, flat_map, sum_by}
use Rattle.net_model.specs.BlockOrder.{IsMerge}
use Rattle.turnstile.specs.declared.machine.Machine.{Ghosts}
use Rattle.turnstile.specs.declared.turnstile.Turnstile.{Turnstile}
use Rattle.turnstile.specs.Views.{IsWhole}
use Rattle.shared_objects.proofs.Alls.{all_map}
use Rattle.shared_objects.specs.declared.pass.Post.{Post}
use Rattle.shared_objects.specs.declared.call.Call.{Call}
use Rattle.shared_objects.specs.Asked.{requests_on}
use Rattle.shared_objects.specs.Seats.{calls_at, budget_at, Belongs, HoldsAll, IsFresh, IsOpened}
use Rattle.shared_objects.specs.Shares.{share_of}
use Rattle.shared_objects.proofs.Zips.{zip_same}
use Rattle.shared_objects.proofs.Opening.{fresh_none, fresh_share, opened_fresh, holds_all}
use Rattle.shared_objects.proofs.Merging.{Did, shares_all, merged_all, unmade_all, map_twice}

module _ {M Q A C : Type 0} {g : Ghosts M Q A C} (ts : List (Turnstile M Q A C)) {P : Type 0} (posts : P → List (Post M Q A C g)) (shift : P → List (Option (Call Q)))
    (calls all : ℕ) (ps qs : List P) (first mid last : List (Post M Q A C g)) (opened : AllZip (IsOpened all) ts first) (fresh : AllByRecursion (λ p. AllZip (IsFresh calls) ts (posts p)) ps)
    (mid_own : (i : ℕ) → calls_at i mid ≡ calls_at i first) (own : (i : ℕ) → calls_at i last ≡ calls_at i mid ++ flat_map (λ q. calls_at i (posts q)) qs) where
  none_mid : (i : ℕ) → calls_at i mid ≡ []
  none_mid i = mid_own i ∙ fresh_none all ts i first (opened_fresh all ts first opened)

  -- The calls that the kept seat of a machine knows are the calls of all workers.
  all_calls : (i : ℕ) → calls_at i last ≡ flat_map (λ q. calls_at i (posts q)) qs
  all_calls i = own i ∙ ap (λ (before : List (ℕ × (Q × A))). before ++ flat_map (λ q. calls_at i (posts q)) qs) (none_mid i)

  none_fresh : (i : ℕ) → AllByRecursion (λ p. calls_at i (posts p) ≡ []) ps
  none_fresh i = all_map (λ p. AllZip (IsFresh calls) ts (posts p)) (λ p. calls_at i (posts p) ≡ []) (λ p h. fresh_none calls ts i (posts p) h) ps fresh

  pub kept_whole : (well : Bool) → AllZip (Did ts posts shift well) ps qs → ((i : ℕ) → i < length first → budget_at i mid ≡ 0) → ((i : ℕ) → budget_at i last ≡ budget_at i mid + sum_by (λ q. budget_at i (posts q)) qs) →
      length ps * calls ≡ all → AllZip Belongs ts last → AllZip HoldsAll ts last
  kept_whole well did mid_budget budget product belong =
      holds_all all ts first last opened belong (λ i lt.
      let n = zip_same (IsOpened all) ts first opened in
      let a = mid_budget i (omega (arith, lt, n)) in
      let b = budget i in
      let shares = all_map (λ p. AllZip (IsFresh calls) ts (posts p)) (λ p. share_of i (posts p) ≡ calls) (λ p h. fresh_share calls ts i (posts p) lt h) ps fresh in
      let s = shares_all ts posts shift well i calls ps qs did shares in
      let l = ap length (all_calls i) in
      omega (arith, a, b, s, l, product))

  pub kept_merged : AllZip (Did ts posts shift true) ps qs → (i : ℕ) (log : List (Q × A)) → IsWhole (calls_at i last) log → IsMerge (map (λ p. requests_on i (shift p)) ps) (map (λ e. e.0) log)
  kept_merged did i log whole = merged_all ts posts shift i ps qs log did (none_fresh i) (subst (λ (made : List (ℕ × (Q × A))). IsWhole made log) (all_calls i) whole)

  pub kept_unmade : AllZip (Did ts posts shift false) ps qs → (i : ℕ) (log : List (Q × A)) → IsWhole (calls_at i last) log → log ≡ []
  kept_unmade did i log whole = unmade_all ts posts shift i ps qs log did (none_fresh i) (subst (λ (made : List (ℕ × (Q × A))). IsWhole made log) (all_calls i) whole)

-- the requests of each shift, read from the passes
pub by_shift : {Q P V : Type 0} (i : ℕ) (deque : P → V) (items : V → List (Option (Call Q))) (ps : List P) (vs : List V) → map deque ps ≡ vs →
    map (λ p. requests_on i (items (deque p))) ps ≡ map (requests_on i) (map items vs)
by_shift {Q} {P} {V} i deque items ps vs e =
    sym (ap (λ (xs : List V). map (requests_on i) (map items xs)) (sym e) ∙ map_twice items (requests_on i) (map deque ps) ∙ map_twice deque (λ (v : V). requests_on i (items v)) ps)
