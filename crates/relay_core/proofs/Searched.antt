-- Searching finds facts through the index and after it; lemmas on the index after more facts and acknowledgements.
use Rattle.std.proofs.Common.{◌≡◌, ℕ, zero, suc, ◌<◌, ◌≤◌, ◌^◌, max, Bool, true, false, ◌&&◌, ◌||◌, List, [], ◌∷◌, ◌++◌, length, refl, sym, ◌∙◌, ap, subst, arith, Option, Some, None, ◌⊎◌, inl, inr, length-append}
use Rattle.std.specs.Prelude.{slice_get, not, if◌then◌else◌, IfSome, IfNone}
use Rattle.std.specs.Str.{bytes_eq}
use Rattle.std.proofs.lemmas.Slice.Eq.{bytes_eq-Decides}
use Rattle.std.proofs.lemmas.List.Folds.{list_any-append}
use Rattle.qkd_base.specs.Name.{Name, name_eq, has}
use Rattle.qkd_base.specs.Route.{next_after}
use Rattle.net_model.specs.declared.fact.Fact.{Fact}
use Rattle.net_model.specs.Table.{name_of, route_of}
use Rattle.net_model.specs.Relay.{is_some_of}
use Rattle.ordered_set.specs.Entries.{has_entry, entry_at, IsNextIn, IsLastIn}
use Rattle.relay_core.specs.declared.group.Group.{Group}
use Rattle.relay_core.specs.declared.group.Group.TheVariants.{Named, StoredAbout, JoinedAbout, PartsOf, ChunksAt, OwedTo, ChunksOf}
use Rattle.relay_core.specs.Firsts.{IsFirstFrom, IsNoneFrom}
use Rattle.relay_core.specs.Knowledge.{AreDistinct}
use Rattle.relay_core.specs.Index.{belongs, belongs_at, entry_of, IsIndex}
use Rattle.relay_core.proofs.Firsts.{get_within, get_prefix, not_true}
use Rattle.relay_core.proofs.Names.{eq_from, and_left, and_right, name_eq_from, names_same}
use Rattle.relay_core.proofs.Entered.{same_entry, front_of, front_is}

-- The fact at a place exists and belongs to the group.
pub record StandsAt (me : ℕ) (acked : List Name) (g : Group) (o : Option Fact) : Type 0 where
  pub item : Fact
  pub there : o ≡ Some item
  pub belongs : belongs me acked g item ≡ true

stands : (me : ℕ) (acked : List Name) (g : Group) (o : Option Fact) → belongs_at me acked g o ≡ true → StandsAt me acked g o
stands me acked g None h = cc
stands me acked g (Some f) h = record { item = f; there = refl; belongs = h }

-- A place without an entry in the index, among the indexed facts, has no fact of the group.

absent : (me : ℕ) (acked : List Name) (facts : List Fact) (es : List (List ℕ)) (count : ℕ) (g : Group) (p : ℕ) (x : Fact) → IsIndex me acked facts es count → p < count →
    has_entry es (entry_of g p) ≡ false → slice_get facts p ≡ Some x → belongs me acked g x ≡ false
absent me acked facts es count g p x index lt miss there =
    not_true (belongs me acked g x) (λ h.
    let hit = index.complete g p lt (ap (belongs_at me acked g) there ∙ h) in
    let t : true ≡ false = sym hit ∙ miss in
    let u : ⊥ = cc in u)

-- An entry among the indexed facts tells whether its fact belongs to the group.

both_ways : (a b : Bool) → (a ≡ true → b ≡ true) → (b ≡ true → a ≡ true) → a ≡ b
both_ways true b f g = sym (f refl)
both_ways false true f g = g refl
both_ways false false f g = refl

pub entry_tells : (me : ℕ) (acked : List Name) (facts : List Fact) (es : List (List ℕ)) (count : ℕ) (g : Group) (p : ℕ) → IsIndex me acked facts es count → p < count →
    has_entry es (entry_of g p) ≡ belongs_at me acked g (slice_get facts p)
entry_tells me acked facts es count g p index lt = both_ways (has_entry es (entry_of g p)) (belongs_at me acked g (slice_get facts p)) (index.sound g p) (index.complete g p lt)

pub found : (me : ℕ) (acked : List Name) (facts : List Fact) (es : List (List ℕ)) (count : ℕ) (g : Group) (from place : ℕ) → IsIndex me acked facts es count → place < count →
    ((group : List ℕ) (start : ℕ) → entry_of g from ≡ entry_at group start → IsNextIn es group start place) → IsFirstFrom (belongs me acked g) facts from place
found me acked facts es count g from place index lt next =
    let n = next (front_of g) from (front_is g from) in
    let at = stands me acked g (slice_get facts place) (index.sound g place (ap (has_entry es) (front_is g place) ∙ n.there)) in
    record {
      behind = n.behind;
      item = at.item;
      there = at.there;
      passes = at.belongs;
      before = λ p x low high there. absent me acked facts es count g p x index (omega arith) (ap (has_entry es) (front_is g p) ∙ n.first p low high) there;
    }

-- No indexed fact from this place on belongs to the group.
pub record IsUnlisted (me : ℕ) (acked : List Name) (facts : List Fact) (g : Group) (from count : ℕ) : Type 0 where
  pub none : (p : ℕ) (x : Fact) → from ≤ p → p < count → slice_get facts p ≡ Some x → belongs me acked g x ≡ false

pub past : (me : ℕ) (acked : List Name) (facts : List Fact) (es : List (List ℕ)) (count : ℕ) (g : Group) (from place : ℕ) → IsIndex me acked facts es count → count ≤ place →
    ((group : List ℕ) (start : ℕ) → entry_of g from ≡ entry_at group start → IsNextIn es group start place) → IsUnlisted me acked facts g from count
past me acked facts es count g from place index le next =
    let n = next (front_of g) from (front_is g from) in
    record { none = λ p x low lt there. absent me acked facts es count g p x index lt (ap (has_entry es) (front_is g p) ∙ n.first p low (omega arith)) there }

pub ended : (me : ℕ) (acked : List Name) (facts : List Fact) (es : List (List ℕ)) (count : ℕ) (g : Group) (from : ℕ) → IsIndex me acked facts es count → count < 2 ^ 64 →
    ((group : List ℕ) (start : ℕ) → entry_of g from ≡ entry_at group start → IsLastIn es group start) → IsUnlisted me acked facts g from count
ended me acked facts es count g from index small last =
    record { none = λ p x low lt there. absent me acked facts es count g p x index lt (ap (has_entry es) (front_is g p) ∙ last (front_of g) from (front_is g from) p low (omega arith)) there }

-- The first fact of a group after the indexed ones.

sides : (p count : ℕ) → (p < count) ⊎ (count ≤ p)
sides zero zero = inr (omega arith)
sides zero (suc c) = inl (omega arith)
sides (suc p) zero = inr (omega arith)
sides (suc p) (suc c) = elim (sides p c) [ inl h ↦ inl (omega arith) | inr h ↦ inr (omega arith) ]

pub walked_first : (me : ℕ) (acked : List Name) (facts : List Fact) (g : Group) (from count place : ℕ) → IsUnlisted me acked facts g from count →
    IsFirstFrom (belongs me acked g) facts (max from count) place → IsFirstFrom (belongs me acked g) facts from place
walked_first me acked facts g from count place none first = record {
  behind = let b = first.behind in omega arith;
  item = first.item;
  there = first.there;
  passes = first.passes;
  before = λ p x low high there. elim (sides p count) [
    | inl lt ↦ none.none p x low lt there
    | inr le ↦ first.before p x (omega arith) high there
  ];
}

pub walked_none : (me : ℕ) (acked : List Name) (facts : List Fact) (g : Group) (from count : ℕ) → IsUnlisted me acked facts g from count →
    IsNoneFrom (belongs me acked g) facts (max from count) → IsNoneFrom (belongs me acked g) facts from
walked_none me acked facts g from count none rest = record {
  none = λ p x low there. elim (sides p count) [
    | inl lt ↦ none.none p x low lt there
    | inr le ↦ rest.none p x (omega arith) there
  ];
}

-- The index after one more fact that isn't indexed yet.

end_of : (facts : List Fact) (f : Fact) (p : ℕ) → p < length facts → slice_get (facts ++ f ∷ []) p ≡ slice_get facts p
end_of facts f p lt = get_prefix facts (f ∷ []) p lt

pub index_push : (me : ℕ) (acked : List Name) (facts : List Fact) (es : List (List ℕ)) (count : ℕ) (f : Fact) → IsIndex me acked facts es count → IsIndex me acked (facts ++ f ∷ []) es count
index_push me acked facts es count f index = record {
  within = let w = index.within in let e = length-append facts (f ∷ []) in omega arith;
  sound = λ g p h.
      let at = stands me acked g (slice_get facts p) (index.sound g p h) in
      ap (belongs_at me acked g) (end_of facts f p (get_within facts p at.item at.there)) ∙ index.sound g p h;
  complete = λ g p lt h. index.complete g p lt (sym (ap (belongs_at me acked g) (end_of facts f p (let w = index.within in omega arith))) ∙ h);
}

-- The index after one more acknowledgement.

or_false_left : (a b : Bool) → (a || b) ≡ false → a ≡ false
or_false_left true b h = cc
or_false_left false b h = refl

or_both : (a b : Bool) → a ≡ false → b ≡ false → (a || b) ≡ false
or_both true b h k = cc
or_both false b h k = k

either : (b : Bool) → (b || false) ≡ b
either true = refl
either false = refl

has_more : (acked : List Name) (n m : Name) → has (acked ++ n ∷ []) m ≡ (has acked m || name_eq n m)
has_more acked n m = list_any-append (λ (x : Name). name_eq x m) acked (n ∷ []) ∙ ap (λ (b : Bool). has acked m || b) (either (name_eq n m))

not_from : (b : Bool) → not b ≡ true → b ≡ false
not_from true h = cc
not_from false h = refl

-- A fact that belongs to a group after one more acknowledgement belonged to it before.
fewer : (me : ℕ) (acked : List Name) (n : Name) (g : Group) (x : Fact) → belongs me (acked ++ n ∷ []) g x ≡ true → belongs me acked g x ≡ true
fewer me acked n (Named m) x h = h
fewer me acked n (StoredAbout m) x h = h
fewer me acked n (JoinedAbout m) x h = h
fewer me acked n (PartsOf m) x h = h
fewer me acked n (ChunksAt s i) x h = h
fewer me acked n (ChunksOf s) x h = h
fewer me acked n (OwedTo to) x h =
    let more = not_from (has (acked ++ n ∷ []) (name_of x)) (and_right (is_some_of (next_after (route_of x) me) to) (not (has (acked ++ n ∷ []) (name_of x))) h) in
    let was = or_false_left (has acked (name_of x)) (name_eq n (name_of x)) (sym (has_more acked n (name_of x)) ∙ more) in
    let next = and_left (is_some_of (next_after (route_of x) me) to) (not (has (acked ++ n ∷ []) (name_of x))) h in
    ap (λ (b : Bool). b && not (has acked (name_of x))) next ∙ ap not was

-- A fact keeps its groups after an acknowledgement, except the group of what is owed if the acknowledgement is its
-- own.
still : (me : ℕ) (acked : List Name) (n : Name) (g : Group) (x : Fact) → belongs me acked g x ≡ true → ((to : ℕ) → g ≡ OwedTo to → name_eq n (name_of x) ≡ false) → belongs me (acked ++ n ∷ []) g x ≡ true
still me acked n (Named m) x h other = h
still me acked n (StoredAbout m) x h other = h
still me acked n (JoinedAbout m) x h other = h
still me acked n (PartsOf m) x h other = h
still me acked n (ChunksAt s i) x h other = h
still me acked n (ChunksOf s) x h other = h
still me acked n (OwedTo to) x h other =
    let was = not_from (has acked (name_of x)) (and_right (is_some_of (next_after (route_of x) me) to) (not (has acked (name_of x))) h) in
    let next = and_left (is_some_of (next_after (route_of x) me) to) (not (has acked (name_of x))) h in
    ap (λ (b : Bool). b && not (has (acked ++ n ∷ []) (name_of x))) next
    ∙ ap not (has_more acked n (name_of x) ∙ or_both (has acked (name_of x)) (name_eq n (name_of x)) was (other to refl))

-- The new index lacks the one entry that says that the acknowledged fact was owed.
pub record IsCleared (old new : List (List ℕ)) (to place : ℕ) : Type 0 where
  pub has : (e : List ℕ) → has_entry new e ≡ (if bytes_eq (entry_of (OwedTo to) place) e then false else has_entry old e)

left_in : (b c : Bool) → (if b then false else c) ≡ true → (b ≡ false) × (c ≡ true)
left_in true c h = cc
left_in false c h = (refl, h)

bytes_same : (a b : List ℕ) → a ≡ b → bytes_eq a b ≡ true
bytes_same a b e = (bytes_eq-Decides a b).1 e

bytes_from : (a b : List ℕ) → bytes_eq a b ≡ true → a ≡ b
bytes_from a b h = (bytes_eq-Decides a b).0 h

pub index_acked : (me : ℕ) (acked : List Name) (facts : List Fact) (old new : List (List ℕ)) (count place to : ℕ) (f : Fact) → IsIndex me acked facts old count → AreDistinct facts →
    slice_get facts place ≡ Some f → next_after (route_of f) me ≡ Some to → IsCleared old new to place → IsIndex me (acked ++ name_of f ∷ []) facts new count
index_acked me acked facts old new count place to f index distinct there next cleared = record {
  within = index.within;
  sound = λ g p h.
      let in' = left_in (bytes_eq (entry_of (OwedTo to) place) (entry_of g p)) (has_entry old (entry_of g p)) (sym (cleared.has (entry_of g p)) ∙ h) in
      let at = stands me acked g (slice_get facts p) (index.sound g p in'.1) in
      ap (belongs_at me (acked ++ name_of f ∷ []) g) at.there
      ∙ still me acked (name_of f) g at.item at.belongs (λ t e. not_true (name_eq (name_of f) (name_of at.item)) (λ same.
      let p_is = distinct.apart p place (name_of f) (record { fact = at.item; there = at.there; named = sym (name_eq_from (name_of f) (name_of at.item) same) }) (record { fact = f; there = there; named = refl }) in
      let x_is : Some at.item ≡ Some f = sym at.there ∙ ap (slice_get facts) p_is ∙ there in
      let x_same : at.item ≡ f = cc in
      let owed = and_left (is_some_of (next_after (route_of at.item) me) t) (not (has acked (name_of at.item))) (ap (λ (k : Group). belongs me acked k at.item) (sym e) ∙ at.belongs) in
      let owed_here : is_some_of (Some to) t ≡ true = ap (λ (o : Option ℕ). is_some_of o t) (sym next) ∙ ap (λ (x : Fact). is_some_of (next_after (route_of x) me) t) (sym x_same) ∙ owed in
      let t_is : to ≡ t = eq_from to t owed_here in
      let entries : entry_of (OwedTo to) place ≡ entry_of g p =
      ap (λ (k : ℕ). entry_of (OwedTo k) place) t_is ∙ ap (λ (k : Group). entry_of k place) (sym e) ∙ ap (entry_of g) (sym p_is) in
      let t2 : true ≡ false = sym (bytes_same (entry_of (OwedTo to) place) (entry_of g p) entries) ∙ in'.0 in
      let u : ⊥ = cc in u));
  complete = λ g p lt h.
      let at = stands me (acked ++ name_of f ∷ []) g (slice_get facts p) h in
      let was = index.complete g p lt (ap (belongs_at me acked g) at.there ∙ fewer me acked (name_of f) g at.item at.belongs) in
      let miss = not_true (bytes_eq (entry_of (OwedTo to) place) (entry_of g p)) (λ same.
      let both = same_entry (OwedTo to) g place p (bytes_from (entry_of (OwedTo to) place) (entry_of g p) same) in
      let x_is : Some at.item ≡ Some f = sym at.there ∙ ap (slice_get facts) (sym both.1) ∙ there in
      let x_same : at.item ≡ f = cc in
      gone f at.item (ap (λ (k : Group). belongs me (acked ++ name_of f ∷ []) k at.item) both.0 ∙ at.belongs) x_same) in
      cleared.has (entry_of g p) ∙ ap (λ (b : Bool). if b then false else has_entry old (entry_of g p)) miss ∙ was;
}
  where
    gone : (f x : Fact) → belongs me (acked ++ name_of f ∷ []) (OwedTo to) x ≡ true → x ≡ f → ⊥
    gone f x h e =
        let more = not_from (has (acked ++ name_of f ∷ []) (name_of x)) (and_right (is_some_of (next_after (route_of x) me) to) (not (has (acked ++ name_of f ∷ []) (name_of x))) h) in
        let hit : has (acked ++ name_of f ∷ []) (name_of x) ≡ true = has_more acked (name_of f) (name_of x) ∙ or_yes (has acked (name_of x)) (name_eq (name_of f) (name_of x)) (names_same (name_of f) (name_of x) (ap name_of (sym e))) in
        let t : true ≡ false = sym hit ∙ more in
        let u : ⊥ = cc in u
      where
        or_yes : (a b : Bool) → b ≡ true → (a || b) ≡ true
        or_yes true b h = refl
        or_yes false b h = h

-- If no indexed fact belongs to the group, the first one found after them is the first of all.

pub walked_some : (me : ℕ) (acked : List Name) (facts : List Fact) (g : Group) (from count start : ℕ) (o : Option ℕ) → IsUnlisted me acked facts g from count → start ≡ max from count →
    IfSome o (λ place. IsFirstFrom (belongs me acked g) facts start place) → IfSome o (λ place. IsFirstFrom (belongs me acked g) facts from place)
walked_some me acked facts g from count start None none is h = h
walked_some me acked facts g from count start (Some place) none is h =
    walked_first me acked facts g from count place none (subst (λ (s : ℕ). IsFirstFrom (belongs me acked g) facts s place) is h)

pub walked_nothing : (me : ℕ) (acked : List Name) (facts : List Fact) (g : Group) (from count start : ℕ) (o : Option ℕ) → IsUnlisted me acked facts g from count → start ≡ max from count →
    IfNone o (IsNoneFrom (belongs me acked g) facts start) → IfNone o (IsNoneFrom (belongs me acked g) facts from)
walked_nothing me acked facts g from count start (Some place) none is h = h
walked_nothing me acked facts g from count start None none is h =
    walked_none me acked facts g from count none (subst (λ (s : ℕ). IsNoneFrom (belongs me acked g) facts s) is h)
