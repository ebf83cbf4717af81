-- Desks are filled from the last manager and the last lane on.
use Rattle.std.proofs.Common.{◌≡◌, ℕ, zero, suc, ◌+◌, ◌<◌, ◌≤◌, List, [], ◌∷◌, ◌++◌, map, reverse, length, drop, refl, sym, ap, ap₂, subst, ◌∙◌, arith, append_assoc, append-nil, length-append, drop-cons, Option, Some}
use Rattle.std.specs.Prelude.{slice_get, get_or}
use Rattle.std.specs.List.{AllByRecursion}
use Rattle.std.proofs.lemmas.List.{reverse-append, map-append}
use Rattle.std.proofs.lemmas.Option.{slice_get_read}
use Rattle.net_model.specs.Site.{count_up}
use Rattle.world_state.specs.Passed.{Post}
use Rattle.lane_shares.specs.declared.share.Share.{Share}
use Rattle.lane_shares.specs.declared.shares.Shares.{Shares}
use Rattle.lane_sender.specs.Lane.{LaneForm}
use Rattle.shared_objects.specs.declared.either.Either.{Either}
use Rattle.shared_objects.specs.declared.either.Either.TheVariants.{Left, Right}
use Rattle.world_state.specs.declared.state.State.{State}
use Rattle.kme_shared.specs.Seats.{IsUsed, AreUsed, SitLanes, SitManagers, IsAtStart, HaveSat, lefts, rights}

module _ {A : Type 0} where
  -- an item stays where it is when others are appended
  stays : (xs ys : List A) (i : ℕ) (x : A) → slice_get xs i ≡ Some x → slice_get (xs ++ ys) i ≡ Some x
  stays [] ys i x at = cc
  stays (z ∷ xs) ys zero x at = at
  stays (z ∷ xs) ys (suc i) x at = stays xs ys i x at

  pub in_front : (xs rest : List A) (x : A) → xs ≡ rest ++ x ∷ [] → (i : ℕ) (y : A) → slice_get rest i ≡ Some y → slice_get xs i ≡ Some y
  in_front xs rest x is i y at = ap (λ (zs : List A). slice_get zs i) is ∙ stays rest (x ∷ []) i y at

  ends : (rest : List A) (x : A) (n : ℕ) → length rest ≡ n → slice_get (rest ++ x ∷ []) n ≡ Some x
  ends [] x zero long = refl
  ends [] x (suc n) long = absurd (omega (arith, long))
  ends (z ∷ rest) x zero long = absurd (omega (arith, long))
  ends (z ∷ rest) x (suc n) long = ends rest x n (omega (arith, long))

  pub at_end : (xs rest : List A) (x : A) (n : ℕ) → xs ≡ rest ++ x ∷ [] → length rest ≡ n → slice_get xs n ≡ Some x
  at_end xs rest x n is long = ap (λ (zs : List A). slice_get zs n) is ∙ ends rest x n long

  pub last_at : (xs rest : List A) (x : A) (all after : List A) (n : ℕ) → xs ≡ rest ++ x ∷ [] → xs ++ after ≡ all → length rest ≡ n → slice_get all n ≡ Some x
  last_at xs rest x all after n is so long = ap (λ (zs : List A). slice_get zs n) (sym so) ∙ stays xs after n x (at_end xs rest x n is long)

  -- one desk is appended
  turned : {B : Type 0} (f : B → A) (before after after' : List A) (desks : List B) (desk : B) → after ≡ before ++ reverse (map f desks) → after' ≡ after ++ f desk ∷ [] → after' ≡ before ++ reverse (map f (desk ∷ desks))
  turned f before after after' desks desk are more =
      more ∙ ap (λ (xs : List A). xs ++ f desk ∷ []) are ∙ append_assoc before (reverse (map f desks)) (f desk ∷ []) ∙ ap (λ (xs : List A). before ++ xs) (sym (reverse-append (f desk ∷ []) (map f desks)))

  -- the last manager or lane that has no desk yet gets one
  moved : {B : Type 0} (f : B → A) (left left' all : List A) (desks : List B) (desk : B) (a : A) → left ≡ left' ++ a ∷ [] → f desk ≡ a → left ++ map f desks ≡ all → left' ++ map f (desk ∷ desks) ≡ all
  moved f left left' all desks desk a less is so =
      ap (λ (x : A). left' ++ x ∷ map f desks) is ∙ sym (append_assoc left' (a ∷ []) (map f desks)) ∙ ap (λ (xs : List A). xs ++ map f desks) (sym less) ∙ so

long_more : {A : Type 0} (left left' : List A) (x : A) → left ≡ left' ++ x ∷ [] → length left ≡ length left' + 1
long_more left left' x less = ap (λ xs. length xs) less ∙ length-append left' (x ∷ [])

module _ {X : Type 0} (lanes lanes' : List (LaneForm X)) (shares : List Shares) (used used' : List Share) (side : LaneForm X) (share : Share) (h : AreUsed lanes shares used) (less : lanes ≡ lanes' ++ side ∷ []) (fewer : used ≡ used' ++ share ∷ []) where
  pub used_less : AreUsed lanes' shares used'
  used_less i s d u a b c = h i s d u (in_front lanes lanes' side less i s a) b (in_front used used' share fewer i u c)

  pub used_last : (n : ℕ) (d : Shares) → length lanes' ≡ n → length used' ≡ n → slice_get shares n ≡ Some d → IsUsed side d share
  used_last n d long long' at = h n side d share (at_end lanes lanes' side n less long) at (at_end used used' share n fewer long')

module _ {X D L : Type 0} (side_of : L → LaneForm X) (shares_of : L → Shares) (shares : List Shares) (all : List (LaneForm X)) (before : List (Either D L)) (left left' : List (LaneForm X)) (after after' : List (Either D L))
    (side : LaneForm X) (desk : L) (d : Shares) (less : left ≡ left' ++ side ∷ []) (more : after' ≡ after ++ Right desk ∷ []) where
  pub lane_sits : side_of desk ≡ side → shares_of desk ≡ d → length left' < length shares → d ≡ get_or shares (length left') d → SitLanes side_of shares_of shares all before left after → SitLanes side_of shares_of shares all before left' after'
  lane_sits is share below at h = record {
    desks = desk ∷ h.desks;
    are = turned Right before after after' h.desks desk h.are more;
    sides = moved side_of left left' all h.desks desk side less is h.sides;
    shared = ap₂ (λ (x : Shares) (xs : List Shares). x ∷ xs) (share ∙ at) (h.shared ∙ ap (λ n. drop n shares) (long_more left left' side less ∙ next (length left'))) ∙ sym (drop-cons shares (length left') d below);
  }
    where
      next : (n : ℕ) → n + 1 ≡ suc n
      next n = omega arith

pub none_sits : {X D L : Type 0} (side_of : L → LaneForm X) (shares_of : L → Shares) (shares : List Shares) (all : List (LaneForm X)) (before : List (Either D L)) → length shares ≡ length all → SitLanes side_of shares_of shares all before all before
none_sits side_of shares_of shares all before long = record {
  desks = [];
  are = sym (append-nil before);
  sides = append-nil all;
  shared = sym (ap (λ n. drop n shares) (sym long) ∙ none shares);
}
  where
    none : (xs : List Shares) → drop (length xs) xs ≡ []
    none [] = refl
    none (x ∷ xs) = none xs

-- the managers' desks

module _ {K Q E X D : Type 0} (opening_of : D → State K Q E X) (node_of up_of : D → ℕ) (post_of : D → Post K E) (shares_in : D → List Shares) (opening : State K Q E X) (shares : List Shares) where
  pub manager_sits : {L : Type 0} (all : List (Post K E)) (before : List (Either D L)) (left left' : List (Post K E)) (after after' : List (Either D L)) (post : Post K E) (desk : D) → left ≡ left' ++ post ∷ [] → after' ≡ after ++ Left desk ∷ [] →
      post_of desk ≡ post → node_of desk ≡ length left' → IsAtStart opening_of node_of up_of post_of shares_in opening shares desk →
      SitManagers opening_of node_of up_of post_of shares_in opening shares all before left after → SitManagers opening_of node_of up_of post_of shares_in opening shares all before left' after'
  manager_sits all before left left' after after' post desk less more is node start h = record {
    desks = desk ∷ h.desks;
    are = turned Left before after after' h.desks desk h.are more;
    posts = moved post_of left left' all h.desks desk post less is h.posts;
    nodes = moved node_of (count_up (length left)) (count_up (length left')) (count_up (length all)) h.desks desk (length left') (ap count_up (long_more left left' post less ∙ next (length left'))) node h.nodes;
    each = (start, h.each);
  }
    where
      next : (n : ℕ) → n + 1 ≡ suc n
      next n = omega arith

  pub no_manager : {L : Type 0} (all : List (Post K E)) (before : List (Either D L)) → SitManagers opening_of node_of up_of post_of shares_in opening shares all before all before
  no_manager all before = record {
    desks = [];
    are = sym (append-nil before);
    posts = append-nil all;
    nodes = append-nil (count_up (length all));
    each = tt;
  }

-- after the reversal the managers' desks come first, then the lanes'

twice : {A : Type 0} (xs : List A) → reverse (reverse xs) ≡ xs
twice [] = refl
twice {A} (x ∷ xs) = ap reverse (reverse-append (x ∷ []) xs) ∙ reverse-append (reverse xs) (x ∷ []) ∙ ap (λ (ys : List A). x ∷ ys) (twice xs)

back : {A B : Type 0} (f : A → B) (xs : List A) → reverse (reverse (map f xs)) ≡ map f xs
back f xs = twice (map f xs)

all_turned : {D L : Type 0} (ms : List D) (ls : List L) (first second last : List (Either D L)) → first ≡ [] ++ reverse (map Right ls) → second ≡ first ++ reverse (map Left ms) → last ≡ reverse second → last ≡ map Left ms ++ map Right ls
all_turned {D} {L} ms ls first second last a b c =
    c ∙ ap reverse (b ∙ ap (λ (xs : List (Either D L)). xs ++ reverse (map Left ms)) a) ∙ reverse-append (reverse (map Right ls)) (reverse (map Left ms))
    ∙ ap (λ (xs : List (Either D L)). xs ++ reverse (reverse (map Right ls))) (back Left ms) ∙ ap (λ (xs : List (Either D L)). map Left ms ++ xs) (back Right ls)

module _ {K Q E X D L : Type 0} (opening_of : D → State K Q E X) (node_of up_of : D → ℕ) (post_of : D → Post K E) (shares_in : D → List Shares) (side_of : L → LaneForm X) (shares_of : L → Shares) (opening : State K Q E X) (shares : List Shares) where
  pub all_sit : (lanes : List (LaneForm X)) (posts : List (Post K E)) (none first second last : List (Either D L)) (left : List (LaneForm X)) (left' : List (Post K E)) → none ≡ [] → left ≡ [] → left' ≡ [] → lanes ≡ opening.lanes.items → posts ≡ opening.posts.items →
      SitLanes side_of shares_of shares lanes none left first → SitManagers opening_of node_of up_of post_of shares_in opening shares posts first left' second → last ≡ reverse second →
      HaveSat opening_of node_of up_of post_of shares_in side_of shares_of opening shares last
  all_sit lanes posts none first second last left left' empty a b all all' l m turned = record {
    managers = m.desks;
    lanes = l.desks;
    are = all_turned m.desks l.desks first second last (l.are ∙ ap (λ (xs : List (Either D L)). xs ++ reverse (map Right l.desks)) empty) m.are turned;
    posts = ap (λ (xs : List (Post K E)). xs ++ map post_of m.desks) (sym b) ∙ m.posts ∙ all';
    nodes = ap (λ (xs : List (Post K E)). count_up (length xs) ++ map node_of m.desks) (sym b) ∙ m.nodes ∙ ap (λ (xs : List (Post K E)). count_up (length xs)) all';
    each = m.each;
    sides = ap (λ (xs : List (LaneForm X)). xs ++ map side_of l.desks) (sym a) ∙ l.sides ∙ all;
    shared = l.shared ∙ ap (λ (xs : List (LaneForm X)). drop (length xs) shares) a;
  }

-- the first machine leaves its desk

module _ {D L : Type 0} (left rest : List (Either D L)) (m : Either D L) (step : left ≡ m ∷ rest) where
  pub left_first : (d : D) → m ≡ Left d → (lefts left ≡ d ∷ lefts rest) × (rights left ≡ rights rest)
  left_first d is = let e = step ∙ ap (λ (x : Either D L). x ∷ rest) is in (ap lefts e, ap rights e)

  pub right_first : (d : L) → m ≡ Right d → (lefts left ≡ lefts rest) × (rights left ≡ d ∷ rights rest)
  right_first d is = let e = step ∙ ap (λ (x : Either D L). x ∷ rest) is in (ap lefts e, ap rights e)
