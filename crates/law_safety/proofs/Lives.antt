-- In a life of a window, each place is acknowledged at most once, and only if it was heard.
use Rattle.std.proofs.Common.{◌≡◌, ℕ, ◌+◌, ◌≤◌, true, false, ◌&&◌, List, [], ◌∷◌, length, refl}
use Rattle.std.specs.Prelude.{◌==◌, map, if◌then◌else◌}
use Rattle.std.specs.Set.{distinct_count, is_member}
use Rattle.qkd_base.specs.Name.{Name}
use Rattle.qkd_base.specs.Lane.{lane_eq, reverse_lane}
use Rattle.qkd_base.specs.declared.lane.Lane.{Lane}
use Rattle.net_model.specs.declared.repeat.Repeat.{Repeat}
use Rattle.net_model.specs.World.{Entry, Volatile, no_volatile}
use Rattle.net_model.specs.Windows.{has_place, answered}
use Rattle.kme_base.specs.Steps.{repeated_by, transmission_of_order}
use Rattle.law_base.proofs.Base.{by_test, or_first, or_second, or_both}
use Rattle.law_safety.specs.Life.{Call, Hear, LetGo, Plan, Note, after, kept, MayCome, IsLife, heard_in, heard_on, acknowledgements_on, pending_on}
use Rattle.law_safety.proofs.Counting.{same, other_number}
use Rattle.law_safety.proofs.BoundSteps.{IsFair, GoesOn, first_fair, few_answered, hears, fewer, plans}
use Rattle.law_safety.proofs.Notes.{notes}

-- Lemmas on the offsets heard by a call and by the calls after it.

abbrev IsSilent : Call → Lane × ℕ → Type 0
IsSilent c q = is_member same (heard_in q.0 c []) q.1 ≡ false

not_here : (l : Lane) (x : ℕ) (n : Name) (q : Lane × ℕ) → IsSilent (Hear l x n) q → (lane_eq l q.0 && (x == q.1)) ≡ false
not_here l x n q s = elim (lane_eq l q.0) as (λ t. is_member same (if t then x ∷ [] else []) q.1 ≡ false → (t && (x == q.1)) ≡ false) [
  | true ↦ λ g. other_number x q.1 (or_first (q.1 == x) false g)
  | false ↦ λ g. refl
] s

silent_first : (c : Call) (rest : List ℕ) (q : Lane × ℕ) → is_member same (heard_in q.0 c rest) q.1 ≡ false → IsSilent c q
silent_first (Hear k x n) rest q h = elim (lane_eq k q.0) as (λ t. is_member same (if t then x ∷ rest else rest) q.1 ≡ false → is_member same (if t then x ∷ [] else []) q.1 ≡ false) [
  | true ↦ λ g. or_both (q.1 == x) false (or_first (q.1 == x) (is_member same rest q.1) g) refl
  | false ↦ λ g. refl
] h
silent_first (LetGo k n) rest q h = refl
silent_first (Plan orders repeats) rest q h = refl
silent_first (Note acked p) rest q h = refl

silent_rest : (c : Call) (rest : List ℕ) (q : Lane × ℕ) → is_member same (heard_in q.0 c rest) q.1 ≡ false → is_member same rest q.1 ≡ false
silent_rest (Hear k x n) rest q h = elim (lane_eq k q.0) as (λ t. is_member same (if t then x ∷ rest else rest) q.1 ≡ false → is_member same rest q.1 ≡ false) [
  | true ↦ λ g. or_second (q.1 == x) (is_member same rest q.1) g
  | false ↦ λ g. g
] h
silent_rest (LetGo k n) rest q h = h
silent_rest (Plan orders repeats) rest q h = h
silent_rest (Note acked p) rest q h = h

-- Lemmas on one call.

repeat_same : (repeats : List Repeat) (e : Entry) → (repeated_by repeats e).transmission ≡ e.transmission
repeat_same repeats e = by_test (λ (y : Entry). y.transmission ≡ e.transmission) _ _ e (λ h. refl) (λ h. refl)

goes_on : (vol : Volatile) (c : Call) → IsFair vol → MayCome vol c → GoesOn vol (IsSilent c) (after vol c)
goes_on vol (Hear l x n) h may = hears vol (IsSilent (Hear l x n)) l x n h (not_here l x n)
goes_on vol (LetGo l n) h may = fewer _ vol (IsSilent (LetGo l n)) h
goes_on vol (Plan orders repeats) h may = plans vol (IsSilent (Plan orders repeats)) (map transmission_of_order orders) (repeated_by repeats) (repeat_same repeats) h may
goes_on vol (Note acked p) h may = notes acked vol (IsSilent (Note acked p)) p h

-- Lemmas on a whole life.

fair : (vol : Volatile) (calls : List Call) → IsFair vol → IsLife vol calls → IsFair (kept vol calls)
fair vol [] h life = h
fair vol (c ∷ cs) h life = fair (after vol c) cs (goes_on vol c h life.0).fair life.1

silent : (vol : Volatile) (calls : List Call) → IsFair vol → IsLife vol calls → (q : Lane × ℕ) → has_place (answered vol) q ≡ false →
    is_member same (heard_on q.0 calls) q.1 ≡ false → has_place (answered (kept vol calls)) q ≡ false
silent vol [] h life q e s = e
silent vol (c ∷ cs) h life q e s =
    let on = goes_on vol c h life.0 in
    silent (after vol c) cs on.fair life.1 q (on.silent q e (silent_first c (heard_on q.0 cs) q s)) (silent_rest c (heard_on q.0 cs) q s)

pub few : (l : Lane) (calls : List Call) → IsLife no_volatile calls →
    length (acknowledgements_on l (kept no_volatile calls)) + length (pending_on l (kept no_volatile calls)) ≤ distinct_count same (heard_on (reverse_lane l) calls)
few l calls life = few_answered l (kept no_volatile calls) (heard_on (reverse_lane l) calls) (fair no_volatile calls first_fair life)
    (λ x s. silent no_volatile calls first_fair life (reverse_lane l, x) refl s)
