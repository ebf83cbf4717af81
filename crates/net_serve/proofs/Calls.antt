-- A call of a manager, by a caller's seat.
use Rattle.std.proofs.Common.{◌≡◌, ℕ, ◌+◌, ◌<◌, ◌≤◌, Bool, true, false, List, [], ◌∷◌, ◌++◌, map, length, get_or, slice_get, Option, Some, refl, sym, ap, subst, ◌∙◌, arith, length-append}
use Rattle.std.specs.Prelude.{◌==◌, if◌then◌else◌}
use Rattle.std.specs.List.{AllByRecursion}
use Rattle.std.proofs.lemmas.List.{map-append}
use Rattle.std.proofs.lemmas.Option.{slice_get_within, slice_get-get_or}
use mathlib.Core.List.{IsPrefix}
use Rattle.net_model.specs.declared.event.Event.{Event}
use Rattle.declared_site.specs.declared.site.Site.{Site}
use Rattle.turnstile.specs.declared.machine.Machine.{Ghosts}
use Rattle.turnstile.specs.declared.turnstile.Turnstile.{Turnstile}
use Rattle.turnstile.specs.declared.seat.Seat.{Seat}
use Rattle.turnstile.specs.Names.{opening, knows, Fits}
use Rattle.turnstile.specs.Turns.{Leads, IsLegal}
use Rattle.turnstile.specs.Views.{places, Stands}
use Rattle.shared_objects.specs.Rising.{Rises}
use Rattle.shared_objects.proofs.Rising.{below_next, rises_on}
use Rattle.law_base.proofs.Base.{eq_from}
use Rattle.net_serve.specs.declared.answered.Answered.{Answered}
use Rattle.net_serve.specs.Serving.{Call, next_place}
use Rattle.net_serve.specs.Passes.{call_in, calls_by, IsSeated, IsNextPass}

-- ---- a budget at one node only

pub its_node : (n m b : ℕ) → 0 < (if n == m then b else 0) → n ≡ m
its_node n m b some = by_test (n == m) refl some
  where
    by_test : (t : Bool) → (n == m) ≡ t → 0 < (if t then b else 0) → n ≡ m
    by_test true is some = eq_from n m is
    by_test false is some = absurd (omega (arith, some))

-- ---- places

place_behind : (calls : List Call) (c : Call) → next_place (calls ++ c ∷ []) ≡ c.0 + 1
place_behind [] c = refl
place_behind (d ∷ []) c = refl
place_behind (d ∷ e ∷ calls) c = place_behind (e ∷ calls) c

place_below : (mine : List (ℕ × (Event × Answered))) (p : ℕ) → AllByRecursion (λ q. q < p) (places mine) → next_place (map call_in mine) ≤ p
place_below [] p h = omega arith
place_below (c ∷ []) p h = let less = h.0 in omega (arith, less)
place_below (c ∷ d ∷ mine) p h = place_below (d ∷ mine) p h.1

-- ---- the last turn of a manager's history

last_turn : {M Q A : Type 0} (turn : M → Q → A → M → Type 0) (log : List (Q × A)) (e : Q × A) (m n : M) → Leads turn m (log ++ e ∷ []) n → (k : M) × (l : M) × turn k e.0 e.1 l
last_turn turn [] e m n h = (m, h.0, h.1)
last_turn turn (x ∷ xs) e m n h = last_turn turn xs e h.0 n h.2

-- the last call of a legal history
pub last_call : {M Q A : Type 0} (turn : M → Q → A → M → Type 0) (m : M) (seen before : List (Q × A)) (e : Q × A) → IsLegal turn m seen → seen ≡ before ++ e ∷ [] → (k : M) × (l : M) × turn k e.0 e.1 l
last_call {M} {Q} {A} turn m seen before e legal is = last_turn turn before e m legal.0 (subst (λ (log : List (Q × A)). Leads turn m log legal.0) is legal.1)

same_turnstile : {T : Type 0} (o : Option T) (t u : T) → o ≡ Some t → o ≡ Some u → t ≡ u
same_turnstile o t u is also = some_is t u (sym is ∙ also)
  where
    some_is : {T : Type 0} (t u : T) → ◌≡◌ {A = Option T} (Some t) (Some u) → t ≡ u
    some_is t u h = cc

-- the turnstile at the node's place
pub found_at : {M : Type 0} {g : Ghosts M Event Answered (Site × ℕ)} (charter : M → Site × ℕ) (site : Site) (ts : List (Turnstile M Event Answered (Site × ℕ))) (node : ℕ) (seat : Seat M Event Answered (Site × ℕ) g) →
    IsSeated charter site ts node seat → (place : ℕ) (d : Turnstile M Event Answered (Site × ℕ)) → place ≡ node → slice_get ts node ≡ Some (get_or ts place d)
found_at charter site ts node seat sat place d same =
    let below = slice_get_within ts node sat.turnstile sat.there in
    subst (λ (n : ℕ). slice_get ts n ≡ Some (get_or ts place d)) same (slice_get-get_or ts place d (subst (λ (n : ℕ). n < length ts) (sym same) below))

module _ {M : Type 0} {g : Ghosts M Event Answered (Site × ℕ)} (charter : M → Site × ℕ) (site : Site) (ts : List (Turnstile M Event Answered (Site × ℕ))) (node : ℕ)
    (seat : Seat M Event Answered (Site × ℕ) g) (sat : IsSeated charter site ts node seat) (t : Turnstile M Event Answered (Site × ℕ)) (there : slice_get ts node ≡ Some t) where
  abbrev Place : Type 0
  Place = Turnstile M Event Answered (Site × ℕ)

  same : sat.turnstile ≡ t
  same = same_turnstile (slice_get ts node) sat.turnstile t sat.there there

  its_charter : charter (opening t) ≡ (site, node)
  its_charter = subst (λ (u : Place). charter (opening u) ≡ (site, node)) same sat.of

  -- the seat after a call
  pub record HasCalled (event : Event) (place : ℕ) (answered : Answered) (next : Seat M Event Answered (Site × ℕ) g) : Type 0 where
    pub fits : Fits t next
    pub before : List (Event × Answered)
    pub begins : IsPrefix (knows seat).seen before
    pub long : length before ≡ place
    pub own : (knows next).mine ≡ (knows seat).mine ++ (place, (event, answered)) ∷ []
    pub stands : Stands (knows next).mine (knows next).seen
    pub budget : (knows next).budget + 1 ≡ (knows seat).budget

  module _ (event : Event) (place : ℕ) (answered : Answered) (next : Seat M Event Answered (Site × ℕ) g) (h : HasCalled event place answered next) where
    pub still_seated : IsSeated charter site ts node next
    still_seated = record {
      turnstile = t;
      there = there;
      of = its_charter;
      fits = h.fits;
      stands = h.stands;
      rises = subst (λ (calls : List (ℕ × (Event × Answered))). Rises calls) (sym h.own) (rises_on (knows seat).mine (knows seat).seen h.before place (event, answered) sat.rises sat.stands h.begins h.long);
    }

    calls_on : calls_by next ≡ calls_by seat ++ (place, (answered.event, answered.reply)) ∷ []
    calls_on = ap (λ (calls : List (ℕ × (Event × Answered))). map call_in calls) h.own ∙ map-append call_in (knows seat).mine ((place, (event, answered)) ∷ [])

    pub next_pass : IsNextPass node seat (record { event = answered.event; place = place; reply = answered.reply }) node next
    next_pass = record {
      same = refl;
      call = calls_on;
      share = let long = ap length calls_on in let more = length-append (calls_by seat) ((place, (answered.event, answered.reply)) ∷ []) in let less = h.budget in omega (arith, long, more, less);
    }

    pub places_rise : (next_place (calls_by seat) ≤ place) × (next_place (calls_by next) ≡ place + 1)
    places_rise = (
      place_below (knows seat).mine place (below_next (knows seat).mine (knows seat).seen h.before place sat.stands h.begins h.long),
      ap next_place calls_on ∙ place_behind (calls_by seat) (place, (answered.event, answered.reply)),
    )
