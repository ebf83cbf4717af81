-- Workers with seats serve their doors, and the seats that are kept have all calls.
use Rattle.std.proofs.Common.{◌≡◌, ◌⊎◌, ℕ, zero, suc, ◌+◌, ◌*◌, ◌<◌, ◌≤◌, ◌%◌, ◌^◌, Bool, false, List, [], ◌∷◌, ◌++◌, map, length, slice_get, is_ok, Option, Some, Result, Ok, Err, refl, sym, ap, subst, ◌∙◌, arith, inl, inr}
use Rattle.std.specs.Prelude.{if◌then◌else◌, ◌==◌}
use Rattle.std.specs.List.{AllZip, AllByRecursion, flat_map, list_all, sum_by}
use Rattle.std.specs.Option.{option_map}
use Rattle.std.proofs.Math.Nat.{mod-lt}
use Rattle.std.proofs.lemmas.List.{length-map}
use Rattle.std.proofs.lemmas.Option.{slice_get-map, slice_get_within}
use Rattle.edge_io.specs.declared.failed.Failed.{Failed}
use Rattle.net_model.specs.declared.event.Event.{Event}
use Rattle.declared_site.specs.SiteOf.{site_of, IsDeclared}
use Rattle.declared_site.specs.declared.site.Site.{Site}
use Rattle.sae_entitlements.specs.Grants.{Grants}
use Rattle.law_base.proofs.Base.{eq_same}
use Rattle.turnstile.specs.declared.machine.Machine.{Ghosts}
use Rattle.turnstile.specs.declared.turnstile.Turnstile.{Turnstile}
use Rattle.turnstile.specs.declared.seat.Seat.{Seat}
use Rattle.turnstile.specs.Names.{knows}
use Rattle.shared_objects.specs.declared.pass.Post.{Post as Kept}
use Rattle.shared_objects.specs.Seats.{calls_at, budget_at, Belongs, HoldsAll, IsOpened}
use Rattle.shared_objects.proofs.Opening.{fresh_none, fresh_budget, opened_fresh, holds_all}
use Rattle.shared_objects.proofs.Zips.{zip_same}
use Rattle.qkd014_api.specs.Calls.{asked}
use Rattle.kme_serve.specs.declared.turn.Turn.{Turn}
use Rattle.kme_serve.specs.Door.{Door}
use Rattle.kme_serve.specs.Workers.{MayServe, HasServed}
use Rattle.kme_serve.specs.declared.refusal.ServeRefusal.{ServeRefusal}
use Rattle.kme_serve.specs.declared.refusal.ServeRefusal.TheVariants as refusals
use Rattle.net_serve.specs.declared.answered.Answered.{Answered}
use Rattle.net_serve.specs.Serving.{IsRequestTo, IsNextCall, next_place}
use Rattle.net_serve.specs.Passes.{call_in, calls_by, IsSeated, IsNextPass}
use Rattle.net_serve.proofs.Requests.{request_to}
use Rattle.net_serve.specs.Asked.{HaveAsked, DoorFailed}
use Rattle.net_serve.specs.Seats.{calls_if, budget_if, HasSeat}
use Rattle.net_serve.proofs.Gathering.{Shares, all_shares, none_made}
use Rattle.net_serve.proofs.Passing.{Keeps}
use Rattle.net_serve.proofs.Visits.{Starts, idle, idle_none, shares, have_asked, door_failed}

some_is : {A : Type 0} {a b : A} → ◌≡◌ {A = Option A} (Some a) (Some b) → a ≡ b
some_is h = cc

-- memory ran out, or it did not
wanting : {T : Type 0} (r : Result T ServeRefusal) → (r ≡ Err refusals.Memory) ⊎ ¬ (r ≡ Err refusals.Memory)
wanting (Ok x) = inr (λ e. absurd (cc e))
wanting (Err refusals.Listen) = inr (λ e. absurd (cc e))
wanting (Err refusals.Memory) = inl refl

item_at : {A : Type 0} (xs : List A) (k : ℕ) → k < length xs → (x : A) × (slice_get xs k ≡ Some x)
item_at [] k h = absurd (omega (arith, h))
item_at (x ∷ xs) zero h = (x, refl)
item_at (x ∷ xs) (suc k) h = item_at xs k (omega (arith, h))

all_from : {A : Type 0} (P : A → Type 0) (xs : List A) → ((k : ℕ) (x : A) → slice_get xs k ≡ Some x → P x) → AllByRecursion P xs
all_from P [] h = tt
all_from P (x ∷ xs) h = (h 0 x refl, all_from P xs (λ k y at. h (suc k) y at))

module _ {M : Type 0} {g : Ghosts M Event Answered (Site × ℕ)} (charter : M → Site × ℕ) (site : Site) (ts : List (Turnstile M Event Answered (Site × ℕ)))
    {P W D : Type 0} (node : P → ℕ) (seat : P → Seat M Event Answered (Site × ℕ) g) (pass : W → P) (door : W → D) (outcome : W → Result (Unit {0}) Failed) (calls : ℕ) (ws : List W) (doors : List D)
    (doors_are : map door ws ≡ doors) (seats : (k : ℕ) (w : W) → slice_get ws k ≡ Some w → HasSeat charter site ts calls (k % length ts) (node (pass w)) (seat (pass w))) where
  abbrev raw : P → List (ℕ × (Event × Answered))
  raw p = (knows (seat p)).mine

  abbrev left : P → ℕ
  left p = (knows (seat p)).budget

  abbrev pub Fits : P → Type 0
  Fits p = IsSeated charter site ts (node p) (seat p)

  abbrev pub answers : P → Turn → P → Type 0
  answers p turn q = IsNextPass (node p) (seat p) turn (node q) (seat q)

  -- a worker before its first connection

  pub may_serve : (accepted finished : D → ℕ) (tell : D → Door) (entitlements : Grants) (n connections : ℕ) → ((d : D) → (tell d).accepted ≡ accepted d) → ((d : D) → (tell d).finished ≡ finished d) →
      n ≡ length ts → 0 < length ts → length ts ≡ length site.nodes → IsDeclared site → entitlements ≡ site.entitlements → calls ≡ 1000 * connections →
      ((k : ℕ) (d : D) → slice_get doors k ≡ Some d → (accepted d + connections ≤ 2 ^ 48) × (finished d ≤ accepted d)) → (k : ℕ) (w : W) → slice_get ws k ≡ Some w →
      MayServe Fits (λ p. if node p == k % n then left p else 0) (λ event. IsRequestTo (site_of site) (k % n) event) entitlements (k % n) connections (pass w) (tell (door w))
  may_serve accepted finished tell entitlements n connections same_accepted same_finished many some nodes declared granted is fresh k w at =
      let h = seats k w at in
      let here : node (pass w) ≡ k % n = h.at ∙ ap (λ (m : ℕ). k % m) (sym many) in
      let at_door : slice_get doors k ≡ Some (door w) = sym (ap (λ (xs : List D). slice_get xs k) doors_are) ∙ slice_get-map door ws k ∙ ap (option_map door) at in
      let d = fresh k (door w) at_door in
      let budget : (if node (pass w) == k % n then left (pass w) else 0) ≡ calls = ap (λ (b : Bool). if b then left (pass w) else 0) (ap (λ (m : ℕ). m == k % n) here ∙ eq_same (k % n)) ∙ h.budget in
      let below : k % n < n = mod-lt k (omega (arith, many, some)) in
      record {
        fits = h.seated;
        enough = omega (arith, budget, is);
        takes = λ request event is_asked. request_to site (k % n) request event declared (omega (arith, below, many, nodes))
            (subst (λ (e : Grants). asked e (k % n) request ≡ Ok event) granted is_asked);
        few = subst (λ (m : ℕ). m + connections ≤ 2 ^ 48) (sym (same_accepted (door w))) d.0;
        finished = subst (λ (m : ℕ). m ≤ (tell (door w)).accepted) (sym (same_finished (door w))) (subst (λ (m : ℕ). finished (door w) ≤ m) (sym (same_accepted (door w))) d.1);
      }

  -- the workers after their last connections

  module _ {T : Type 0} (tell : D → Door) (failed : D → ℕ) (names : List (List ℕ)) (entitlements : Grants) (n connections : ℕ) (many : n ≡ length ts) (result : Result T ServeRefusal) (us : List W) (long : length us ≡ length ws)
      (memory : result ≡ Err refusals.Memory → us ≡ ws)
      (served : ¬ (result ≡ Err refusals.Memory) → (k : ℕ) (w u : W) → slice_get ws k ≡ Some w → slice_get us k ≡ Some u →
      HasServed Fits answers (λ p. next_place (calls_by (seat p))) names entitlements (k % n) connections (tell (door w)) (tell (door u)) (failed (door w)) (failed (door u)) (pass w) (pass u) (outcome u)) where
    abbrev raws : W → List (ℕ × (Event × Answered))
    raws w = raw (pass w)

    abbrev lefts : W → ℕ
    lefts w = left (pass w)

    abbrev nodes_of : W → ℕ
    nodes_of w = node (pass w)

    keeps : (p : P) (turn : Turn) (q : P) → answers p turn q → Keeps node (λ p. map call_in (raw p)) left Fits answers p q
    keeps p turn q h = record { same = h.same; share = h.share }

    next : (p : P) (turn : Turn) (q : P) → answers p turn q → IsNextCall (map call_in (raw p)) turn (map call_in (raw q))
    next p turn q h = h.call

    starts : (k : ℕ) (w : W) → slice_get ws k ≡ Some w → Starts node raw call_in left Fits answers keeps next pass door outcome tell failed names entitlements n connections ws us long k w
    starts k w at = let h = seats k w at in record { at = h.at ∙ ap (λ (m : ℕ). k % m) (sym many); none = h.none }

    each_share : (k : ℕ) (w u : W) → slice_get ws k ≡ Some w → slice_get us k ≡ Some u → Shares nodes_of raws lefts w u
    each_share = elim (wanting result) [
      | inl none ↦ idle node raw call_in left Fits answers keeps next pass door outcome tell failed names entitlements n connections ws us long starts (memory none)
      | inr done ↦ shares node raw call_in left Fits answers keeps next pass door outcome tell failed names entitlements n connections ws us long starts (served done)
    ]

    fits_still : (k : ℕ) (w u : W) → slice_get ws k ≡ Some w → slice_get us k ≡ Some u → Fits (pass u)
    fits_still k w u was is = elim (wanting result) [
      | inl none ↦ subst (λ (x : W). Fits (pass x)) (some_is (sym was ∙ sym (ap (λ (xs : List W). slice_get xs k) (memory none)) ∙ is)) (seats k w was).seated
      | inr done ↦ (served done k w u was is).fits
    ]

    pub all_seated : AllByRecursion (λ u. Fits (pass u)) us
    all_seated =
        all_from (λ u. Fits (pass u)) us (λ k u is. let within = slice_get_within us k u is in let w = item_at ws k (omega (arith, within, long)) in fits_still k w.0 u w.1 is)

    module _ (first mid last : List (Kept M Event Answered (Site × ℕ) g)) (opened : AllZip (IsOpened (length doors * calls)) ts first) (mid_own : (v : ℕ) → calls_at v mid ≡ calls_at v first)
        (mid_shares : (v : ℕ) → budget_at v mid + sum_by (λ w. budget_if v (node (pass w)) (seat (pass w))) ws ≡ budget_at v first) (belong : AllZip Belongs ts last)
        (last_own : (v : ℕ) → calls_at v last ≡ calls_at v mid ++ flat_map (λ u. calls_if v (node (pass u)) (seat (pass u))) us)
        (last_budget : (v : ℕ) → budget_at v last ≡ budget_at v mid + sum_by (λ u. budget_if v (node (pass u)) (seat (pass u))) us) where
      own : (v : ℕ) → calls_at v last ≡ flat_map (λ u. calls_if v (node (pass u)) (seat (pass u))) us
      own v =
          last_own v
          ∙ ap (λ (made : List (ℕ × (Event × Answered))). made ++ flat_map (λ u. calls_if v (node (pass u)) (seat (pass u))) us)
          (mid_own v ∙ fresh_none (length doors * calls) ts v first (opened_fresh (length doors * calls) ts first opened))

      -- each call was made or is left
      pub all_whole : AllZip HoldsAll ts last
      all_whole =
          holds_all (length doors * calls) ts first last opened belong (λ v lt.
          let a = last_budget v in
          let b = mid_shares v in
          let s = all_shares nodes_of raws lefts v ws us long each_share in
          let z : length (flat_map (λ w. calls_if v (node (pass w)) (seat (pass w))) ws) ≡ 0 =
          ap length (none_made nodes_of raws lefts v ws (λ k w at. (seats k w at).none)) in
          let same = zip_same (IsOpened (length doors * calls)) ts first opened in
          let f = fresh_budget (length doors * calls) ts v first (opened_fresh (length doors * calls) ts first opened) (omega (arith, lt, same)) in
          let l = ap length (own v) in
          omega (arith, a, b, s, z, f, l))

      module _ (back : List D) (back_is : back ≡ map door us) where
        pub nothing_asked : result ≡ Err refusals.Memory → (back ≡ doors) × ((v : ℕ) → calls_at v last ≡ [])
        nothing_asked none = (
          back_is ∙ ap (map door) (memory none) ∙ doors_are,
          λ v. own v ∙ none_made nodes_of raws lefts v us
              (idle_none node raw call_in left Fits answers keeps next pass door outcome tell failed names entitlements n connections ws us long starts (memory none)),
        )

        pub all_asked : (all : Bool) → names ≡ site.nodes → entitlements ≡ site.entitlements → ¬ (result ≡ Err refusals.Memory) → list_all (λ u. is_ok (outcome u)) us ≡ all →
            HaveAsked tell failed site.nodes site.entitlements (length ts) connections doors back (λ v. map call_in (calls_at v last)) all
        all_asked all named granted done came =
            subst (λ (m : ℕ). HaveAsked tell failed site.nodes site.entitlements m connections doors back (λ v. map call_in (calls_at v last)) all) many
            (subst (λ (e : Grants). HaveAsked tell failed site.nodes e n connections doors back (λ v. map call_in (calls_at v last)) all) granted
            (subst (λ (xs : List (List ℕ)). HaveAsked tell failed xs entitlements n connections doors back (λ v. map call_in (calls_at v last)) all) named
            (have_asked node raw call_in left Fits answers keeps next pass door outcome tell failed names entitlements n connections ws us long starts (served done) doors back (λ v. calls_at v last) all doors_are
            back_is own came)))

        pub one_failed : ¬ (result ≡ Err refusals.Memory) → list_all (λ u. is_ok (outcome u)) us ≡ false → DoorFailed failed doors back
        one_failed done came =
            door_failed node raw call_in left Fits answers keeps next pass door outcome tell failed names entitlements n connections ws us long starts (served done) doors back doors_are back_is came

        pub as_many_back : length back ≡ length doors
        as_many_back = ap (λ (xs : List D). length xs) back_is ∙ length-map us door ∙ long ∙ sym (length-map ws door) ∙ ap (λ (xs : List D). length xs) doors_are

-- an error other than `Memory` is a door's fault

pub not_wanting : {T : Type 0} (r : Result T ServeRefusal) (e : ServeRefusal) → r ≡ Err e → (e ≡ refusals.Memory → ⊥) → ¬ (r ≡ Err refusals.Memory)
not_wanting {T} r e is other h = let both : ◌≡◌ {A = Result T ServeRefusal} (Err e) (Err refusals.Memory) = sym is ∙ h in let same : e ≡ refusals.Memory = cc in other same

pub listened : {T : Type 0} (r : Result T ServeRefusal) (e : ServeRefusal) → r ≡ Err e → (e ≡ refusals.Memory → ⊥) → r ≡ Err refusals.Listen
listened r refusals.Listen is other = is
listened r refusals.Memory is other = absurd (other refl)

pub done_well : {T : Type 0} (r : Result T ServeRefusal) (x : T) → r ≡ Ok x → ¬ (r ≡ Err refusals.Memory)
done_well {T} r x is h = let both : ◌≡◌ {A = Result T ServeRefusal} (Ok x) (Err refusals.Memory) = sym is ∙ h in absurd (cc both)
