-- What a script reports and asks for in every world and with all outcomes.
use Rattle.std.proofs.Common.{◌≡◌, ◌∙◌, ℕ, Bool, true, false, List, [], ◌∷◌, ◌++◌, refl, ap}
use Rattle.std.specs.List.{list_all}
use Rattle.net_model.specs.World.{Network, World}
use Rattle.net_model.specs.Action.{Action, Outcome}
use Rattle.net_model.specs.Step.{step}
use Rattle.run_types.specs.declared.item.Item.{Item}
use Rattle.run_types.specs.declared.item.NumberedItem.{NumberedItem}
use Rattle.run_model.specs.Script.{Script, Ends, Reports, Looks, Asks, GivesUp, then_comes}
use Rattle.run_model.specs.Play.{Played, ForgedAt, plain, numbered, is_forged, stopped_at, play, IsPlay, OneOf}
use Rattle.law_base.proofs.Base.{and_left, and_right, and_both, by_test}

-- Lemmas on lists.

pub all_both : {A : Type 0} (p : A → Bool) (xs ys : List A) → list_all p xs ≡ true → list_all p ys ≡ true → list_all p (xs ++ ys) ≡ true
all_both p [] ys h k = k
all_both p (x ∷ xs) ys h k = and_both (p x) (list_all p (xs ++ ys)) (and_left (p x) (list_all p xs) h) (all_both p xs ys (and_right (p x) (list_all p xs) h) k)

pub all_weaker : {A : Type 0} (p q : A → Bool) → ((x : A) → p x ≡ true → q x ≡ true) → (xs : List A) → list_all p xs ≡ true → list_all q xs ≡ true
all_weaker p q more [] h = refl
all_weaker p q more (x ∷ xs) h = and_both (q x) (list_all q xs) (more x (and_left (p x) (list_all p xs) h)) (all_weaker p q more xs (and_right (p x) (list_all p xs) h))

all_numbered : (p : Item → Bool) (number : ℕ) (items : List Item) → list_all p items ≡ true → list_all (λ (i : NumberedItem). p i.item) (numbered number items) ≡ true
all_numbered p number [] h = refl
all_numbered p number (x ∷ xs) h =
    and_both (p x) (list_all (λ (i : NumberedItem). p i.item) (numbered number xs)) (and_left (p x) (list_all p xs) h) (all_numbered p number xs (and_right (p x) (list_all p xs) h))

-- All items that the script may report pass the first test, and all actions that it may ask for pass the second.
abbrev pub Goes : (Item → Bool) → (Action → Bool) → Script → Type 0
Goes p q Ends = Unit {0}
Goes p q (Reports items next) = (list_all p items ≡ true) × Goes p q next
Goes p q (Looks next) = (w : World) → Goes p q (next w)
Goes p q (Asks action next) = (q action ≡ true) × ((out : Outcome) → Goes p q (next out))
Goes p q GivesUp = Unit {0}

pub goes_then : (p : Item → Bool) (q : Action → Bool) (s last : Script) → Goes p q s → Goes p q last → Goes p q (then_comes s last)
unfolding then_comes
goes_then p q Ends last h k = k
goes_then p q (Reports items next) last h k = (h.0, goes_then p q next last h.1 k)
goes_then p q (Looks next) last h k = λ w. goes_then p q (next w) last (h w) k
goes_then p q (Asks action next) last h k = (h.0, λ out. goes_then p q (next out) last (h.1 out) k)
goes_then p q GivesUp last h k = tt

pub goes_weaker : (p p' : Item → Bool) (q q' : Action → Bool) → ((i : Item) → p i ≡ true → p' i ≡ true) → ((a : Action) → q a ≡ true → q' a ≡ true) → (s : Script) →
    Goes p q s → Goes p' q' s
goes_weaker p p' q q' items actions Ends h = tt
goes_weaker p p' q q' items actions (Reports reported next) h = (all_weaker p p' items reported h.0, goes_weaker p p' q q' items actions next h.1)
goes_weaker p p' q q' items actions (Looks next) h = λ w. goes_weaker p p' q q' items actions (next w) (h w)
goes_weaker p p' q q' items actions (Asks action next) h = (actions action h.0, λ out. goes_weaker p p' q q' items actions (next out) (h.1 out))
goes_weaker p p' q q' items actions GivesUp h = tt

-- All items that are reported and all actions that are done pass these tests.

pub goes_reports : (p : Item → Bool) (q : Action → Bool) (net : Network) (number : ℕ) (w : World) (s : Script) (actions : List Action) → Goes p q s →
    list_all (λ (i : NumberedItem). p i.item) (play net number w s actions).items ≡ true
unfolding play
goes_reports p q net number w Ends actions h = refl
goes_reports p q net number w (Reports reported next) actions h =
    all_both (λ (i : NumberedItem). p i.item) (numbered number reported) (play net number w next actions).items (all_numbered p number reported h.0) (goes_reports p q net number w next actions h.1)
goes_reports p q net number w (Looks next) actions h = goes_reports p q net number w (next w) actions (h w)
goes_reports p q net number w (Asks action next) [] h = refl
goes_reports p q net number w (Asks action next) (a ∷ rest) h =
    let out = step net w a in
    by_test (λ (x : Played). list_all (λ (i : NumberedItem). p i.item) x.items ≡ true) (is_forged out.1) (stopped_at out.0 (ForgedAt number)) (play net number out.0 (next out.1) rest)
    (λ e. refl) (λ e. goes_reports p q net number out.0 (next out.1) rest (h.1 out.1))
goes_reports p q net number w GivesUp actions h = refl

either_asks : (q : Action → Bool) (forged : Bool) (rest : List Action) (A : Type 0) → OneOf forged (rest ≡ []) A → (A → list_all q rest ≡ true) → list_all q rest ≡ true
either_asks q true rest A none more = ap (list_all q) none
either_asks q false rest A plays more = more plays

-- The actions pass if the test doesn't depend on the answers of the outside.
pub goes_asks : (p : Item → Bool) (q : Action → Bool) → ((a : Action) → q a ≡ q (plain a)) → (net : Network) (w : World) (s : Script) (actions : List Action) → Goes p q s →
    IsPlay net w s actions → list_all q actions ≡ true
goes_asks p q same net w Ends [] g h = refl
goes_asks p q same net w Ends (a ∷ rest) g h = cc
goes_asks p q same net w (Reports reported next) actions g h = goes_asks p q same net w next actions g.1 h
goes_asks p q same net w (Looks next) actions g h = goes_asks p q same net w (next w) actions (g w) h
goes_asks p q same net w (Asks action next) [] g h = refl
goes_asks p q same net w (Asks action next) (a ∷ rest) g h =
    let out = step net w a in
    and_both (q a) (list_all q rest) (same a ∙ ap q h.0 ∙ g.0)
    (either_asks q (is_forged out.1) rest (IsPlay net out.0 (next out.1) rest) h.2 (goes_asks p q same net out.0 (next out.1) rest (g.1 out.1)))
goes_asks p q same net w GivesUp [] g h = refl
goes_asks p q same net w GivesUp (a ∷ rest) g h = cc
