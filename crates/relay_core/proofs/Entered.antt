-- Lemmas on index entries and the facts that they stand for.
use Rattle.std.proofs.Common.{◌≡◌, ℕ, zero, suc, ◌+◌, ◌<◌, ◌≤◌, Bool, true, false, ◌&&◌, ◌||◌, List, [], ◌∷◌, refl, sym, ◌∙◌, ap, subst, arith, Option, Some, None, ◌⊎◌, inl, inr}
use Rattle.std.specs.Prelude.{slice_get, slice_index, ◌/◌, ◌%◌, ◌==◌, not, if◌then◌else◌}
use Rattle.std.specs.Str.{bytes_eq}
use Rattle.std.proofs.lemmas.Slice.Eq.{bytes_eq-Decides}
use Rattle.qkd_base.specs.Name.{Name, name_eq, has, kind_of_octet}
use Rattle.qkd_base.specs.Route.{next_after}
use Rattle.qkd_base.proofs.Names.{kind_back}
use Rattle.net_model.specs.declared.fact.Fact.{Fact}
use Rattle.net_model.specs.declared.fact.Fact.TheVariants.{Key, Chunk, Stored, Open, Joined, Part}
use Rattle.net_model.specs.Table.{name_of, route_of, is_stored_about, is_joined_about, is_part_of}
use Rattle.net_model.specs.Streams.{is_chunk_at, is_chunk_of}
use Rattle.net_model.specs.Relay.{is_some_of}
use Rattle.ordered_set.specs.Entries.{has_entry, entry_at}
use Rattle.relay_core.specs.declared.group.Group.{Group}
use Rattle.relay_core.specs.declared.group.Group.TheVariants.{Named, StoredAbout, JoinedAbout, PartsOf, ChunksAt, OwedTo, ChunksOf}
use Rattle.relay_core.specs.Index.{belongs, belongs_at, entry_of, name_entry, origin_number, tagged, IsIndex, is_owed_to, second_of, third_of, owed_group, creditor}
use Rattle.relay_core.specs.Listed.{Grows, GrowsBy, IsOwnGroup, IsPartlyListed, IsListed}
use Rattle.relay_core.proofs.Firsts.{get_within}
use Rattle.relay_core.proofs.Names.{origin_kind, origin_node, tag_back, number_back, eq_same, eq_from, and_left, and_right, name_eq_from, name_eq_same}

-- An entry determines its group and its place.

name_back : ℕ → ℕ → Name
name_back count origin = record { node = origin / 4; kind = kind_of_octet (origin % 4); count = count }

group_from : ℕ → Name → ℕ → ℕ → Group
group_from tag n number index =
    if tag == 0 then Named n
    else if tag == 1 then StoredAbout n
    else if tag == 2 then JoinedAbout n
    else if tag == 3 then PartsOf n
    else if tag == 4 then ChunksAt n index
    else if tag == 5 then OwedTo number
    else ChunksOf n

group_back : List ℕ → Group
group_back e = group_from (slice_index e 1 % 8) (name_back (slice_index e 0) (slice_index e 1 / 8)) (slice_index e 1 / 8) (slice_index e 2)

named_back : (n : Name) → name_back n.count (origin_number n) ≡ n
unfolding name_back
named_back n =
    let node = origin_node n in
    let kind = ap kind_of_octet (origin_kind n) ∙ kind_back n.kind in
    λ i. record { node = node i; kind = kind i; count = n.count }

tagged_back : (tag number count index place : ℕ) → tag < 8 →
    group_back (count ∷ tagged tag number ∷ index ∷ 0 ∷ place ∷ []) ≡ group_from tag (name_back count number) number index
unfolding group_back
tagged_back tag number count index place small =
    ap (λ (t : ℕ). group_from t (name_back count (tagged tag number / 8)) (tagged tag number / 8) index) (tag_back tag number small)
    ∙ ap (λ (k : ℕ). group_from tag (name_back count k) k index) (number_back tag number small)

entry_back : (tag : ℕ) (n : Name) (index place : ℕ) → tag < 8 → group_back (name_entry tag n index place) ≡ group_from tag n (origin_number n) index
entry_back tag n index place small =
    tagged_back tag (origin_number n) n.count index place small
    ∙ ap (λ (m : Name). group_from tag m (origin_number n) index) (named_back n)

group_is : (g : Group) (p : ℕ) → group_back (entry_of g p) ≡ g
unfolding group_from
group_is (Named n) p = entry_back 0 n 0 p (omega arith)
group_is (StoredAbout n) p = entry_back 1 n 0 p (omega arith)
group_is (JoinedAbout n) p = entry_back 2 n 0 p (omega arith)
group_is (PartsOf n) p = entry_back 3 n 0 p (omega arith)
group_is (ChunksAt s i) p = entry_back 4 s i p (omega arith)
group_is (OwedTo to) p = tagged_back 5 to 0 0 p (omega arith)
group_is (ChunksOf s) p = entry_back 6 s 0 p (omega arith)

place_is : (g : Group) (p : ℕ) → slice_index (entry_of g p) 4 ≡ p
place_is (Named n) p = refl
place_is (StoredAbout n) p = refl
place_is (JoinedAbout n) p = refl
place_is (PartsOf n) p = refl
place_is (ChunksAt s i) p = refl
place_is (OwedTo to) p = refl
place_is (ChunksOf s) p = refl

pub same_entry : (g h : Group) (p q : ℕ) → entry_of g p ≡ entry_of h q → (g ≡ h) × (p ≡ q)
same_entry g h p q e = (
  sym (group_is g p) ∙ ap group_back e ∙ group_is h q,
  sym (place_is g p) ∙ ap (λ (l : List ℕ). slice_index l 4) e ∙ place_is h q,
)

bytes_same : (a b : List ℕ) → a ≡ b → bytes_eq a b ≡ true
bytes_same a b e = (bytes_eq-Decides a b).1 e

bytes_from : (a b : List ℕ) → bytes_eq a b ≡ true → a ≡ b
bytes_from a b h = (bytes_eq-Decides a b).0 h

-- The numbers of a group's entry without the place.
name_front : ℕ → Name → ℕ → List ℕ
name_front tag n index = n.count ∷ tagged tag (origin_number n) ∷ index ∷ 0 ∷ []

pub front_of : Group → List ℕ
front_of (Named n) = name_front 0 n 0
front_of (StoredAbout n) = name_front 1 n 0
front_of (JoinedAbout n) = name_front 2 n 0
front_of (PartsOf n) = name_front 3 n 0
front_of (ChunksAt s i) = name_front 4 s i
front_of (OwedTo to) = 0 ∷ tagged 5 to ∷ 0 ∷ 0 ∷ []
front_of (ChunksOf s) = name_front 6 s 0

pub front_is : (g : Group) (p : ℕ) → entry_of g p ≡ entry_at (front_of g) p
unfolding front_of name_front
front_is (Named n) p = refl
front_is (StoredAbout n) p = refl
front_is (JoinedAbout n) p = refl
front_is (PartsOf n) p = refl
front_is (ChunksAt s i) p = refl
front_is (OwedTo to) p = refl
front_is (ChunksOf s) p = refl

-- A fact belongs to its own groups and to no other.

stored_own : (n : Name) (f : Fact) → is_stored_about n f ≡ true → second_of f ≡ Some (StoredAbout n)
stored_own n (Stored note about route) h = ap (λ (m : Name). Some (StoredAbout m)) (name_eq_from about n h)
stored_own n _ h = cc

joined_own : (n : Name) (f : Fact) → is_joined_about n f ≡ true → second_of f ≡ Some (JoinedAbout n)
joined_own n (Joined note about route) h = ap (λ (m : Name). Some (JoinedAbout m)) (name_eq_from about n h)
joined_own n _ h = cc

part_own : (n : Name) (f : Fact) → is_part_of n f ≡ true → second_of f ≡ Some (PartsOf n)
part_own n (Part name key master slave route bytes) h = ap (λ (m : Name). Some (PartsOf m)) (name_eq_from key n h)
part_own n _ h = cc

chunk_own : (s : Name) (i : ℕ) (f : Fact) → is_chunk_at s i f ≡ true → second_of f ≡ Some (ChunksAt s i)
chunk_own s i (Chunk name stream index route bytes) h =
    ap (λ (m : Name). Some (ChunksAt m index)) (name_eq_from stream s (and_left (name_eq stream s) (index == i) h))
    ∙ ap (λ (j : ℕ). Some (ChunksAt s j)) (eq_from index i (and_right (name_eq stream s) (index == i) h))
chunk_own s i _ h = cc

stream_own : (s : Name) (f : Fact) → is_chunk_of s f ≡ true → third_of f ≡ Some (ChunksOf s)
stream_own s (Chunk name stream index route bytes) h = ap (λ (m : Name). Some (ChunksOf m)) (name_eq_from stream s h)
stream_own s _ h = cc

some_of : (o : Option ℕ) (to : ℕ) → is_some_of o to ≡ true → o ≡ Some to
some_of None to h = cc
some_of (Some m) to h = ap Some (eq_from m to h)

not_from : (b : Bool) → not b ≡ true → b ≡ false
not_from true h = cc
not_from false h = refl

owed_own : (me : ℕ) (acked : List Name) (to : ℕ) (f : Fact) → is_owed_to me acked to f ≡ true → owed_group (creditor me acked f) ≡ Some (OwedTo to)
owed_own me acked to f h =
    let free = not_from (has acked (name_of f)) (and_right (is_some_of (next_after (route_of f) me) to) (not (has acked (name_of f))) h) in
    let next = some_of (next_after (route_of f) me) to (and_left (is_some_of (next_after (route_of f) me) to) (not (has acked (name_of f))) h) in
    ap (λ (b : Bool). owed_group (if b then None else next_after (route_of f) me)) free ∙ ap owed_group next

pub belongs_own : (me : ℕ) (acked : List Name) (g : Group) (f : Fact) → belongs me acked g f ≡ true → IsOwnGroup f (creditor me acked f) g
belongs_own me acked (Named n) f h = inl (ap Named (sym (name_eq_from (name_of f) n h)))
belongs_own me acked (StoredAbout n) f h = inr (inl (stored_own n f h))
belongs_own me acked (JoinedAbout n) f h = inr (inl (joined_own n f h))
belongs_own me acked (PartsOf n) f h = inr (inl (part_own n f h))
belongs_own me acked (ChunksAt s i) f h = inr (inl (chunk_own s i f h))
belongs_own me acked (OwedTo to) f h = inr (inr (inr (owed_own me acked to f h)))
belongs_own me acked (ChunksOf s) f h = inr (inr (inl (stream_own s f h)))

second_belongs : (me : ℕ) (acked : List Name) (f : Fact) (g : Group) → second_of f ≡ Some g → belongs me acked g f ≡ true
second_belongs me acked (Stored note about route) g e =
    let s : g ≡ StoredAbout about = cc in ap (λ (h : Group). belongs me acked h (Stored note about route)) s ∙ name_eq_same about
second_belongs me acked (Joined note about route) g e =
    let s : g ≡ JoinedAbout about = cc in ap (λ (h : Group). belongs me acked h (Joined note about route)) s ∙ name_eq_same about
second_belongs me acked (Part name key master slave route bytes) g e =
    let s : g ≡ PartsOf key = cc in ap (λ (h : Group). belongs me acked h (Part name key master slave route bytes)) s ∙ name_eq_same key
second_belongs me acked (Chunk name stream index route bytes) g e =
    let s : g ≡ ChunksAt stream index = cc in
    ap (λ (h : Group). belongs me acked h (Chunk name stream index route bytes)) s
    ∙ ap (λ (b : Bool). b && (index == index)) (name_eq_same stream) ∙ eq_same index
second_belongs me acked (Key name master slave route bytes) g e = cc
second_belongs me acked (Open stream source peer size route) g e = cc

third_belongs : (me : ℕ) (acked : List Name) (f : Fact) (g : Group) → third_of f ≡ Some g → belongs me acked g f ≡ true
third_belongs me acked (Chunk name stream index route bytes) g e =
    let s : g ≡ ChunksOf stream = cc in ap (λ (h : Group). belongs me acked h (Chunk name stream index route bytes)) s ∙ name_eq_same stream
third_belongs me acked _ g e = cc

creditor_belongs : (me : ℕ) (acked : List Name) (f : Fact) (g : Group) (b : Bool) (o : Option ℕ) → has acked (name_of f) ≡ b → next_after (route_of f) me ≡ o →
    owed_group (if b then None else o) ≡ Some g → belongs me acked g f ≡ true
creditor_belongs me acked f g true o is next e = cc
creditor_belongs me acked f g false None is next e = cc
creditor_belongs me acked f g false (Some to) is next e =
    let s : g ≡ OwedTo to = cc in
    ap (λ (h : Group). belongs me acked h f) s
    ∙ ap (λ (x : Option ℕ). is_some_of x to && not (has acked (name_of f))) next
    ∙ ap (λ (b : Bool). b && not (has acked (name_of f))) (eq_same to)
    ∙ ap not is

pub own_belongs : (me : ℕ) (acked : List Name) (f : Fact) (g : Group) → IsOwnGroup f (creditor me acked f) g → belongs me acked g f ≡ true
own_belongs me acked f g own = elim own [
  | inl e ↦ ap (λ (h : Group). belongs me acked h f) e ∙ name_eq_same (name_of f)
  | inr (inl e) ↦ second_belongs me acked f g e
  | inr (inr (inl e)) ↦ third_belongs me acked f g e
  | inr (inr (inr e)) ↦ creditor_belongs me acked f g (has acked (name_of f)) (next_after (route_of f) me) refl refl e
]

-- Each entry of a fact is that of one of its own groups.

or_cases : (a b : Bool) → (a || b) ≡ true → (a ≡ true) ⊎ (b ≡ true)
or_cases true b h = inl refl
or_cases false b h = inr h

or_right : (a b : Bool) → b ≡ true → (a || b) ≡ true
or_right true b h = refl
or_right false b h = h

or_left : (a b : Bool) → a ≡ true → (a || b) ≡ true
or_left true b h = refl
or_left false b h = cc

pub partly_none : (old : List (List ℕ)) (f : Fact) (to : Option ℕ) (place : ℕ) → IsPartlyListed old old f to place
partly_none old f to place = record { only = λ e h. inl h; kept = λ e h. h }

pub partly_more : (old mid new : List (List ℕ)) (f : Fact) (to : Option ℕ) (place : ℕ) (o : Option Group) → IsPartlyListed old mid f to place → GrowsBy mid new o place →
    ((g : Group) → o ≡ Some g → IsOwnGroup f to g) → IsPartlyListed old new f to place
partly_more old mid new f to place None part grows own = subst (λ (es : List (List ℕ)). IsPartlyListed old es f to place) (sym grows) part
partly_more old mid new f to place (Some g) part grows own = record {
  only = λ e h. elim (or_cases (bytes_eq (entry_of g place) e) (has_entry mid e) (sym (grows.has e) ∙ h)) [
    | inl same ↦ inr (record { group = g; own = own g refl; is = sym (bytes_from (entry_of g place) e same) })
    | inr was ↦ part.only e was
  ];
  kept = λ e h. grows.has e ∙ or_right (bytes_eq (entry_of g place) e) (has_entry mid e) (part.kept e h);
}

grown_has : (mid new : List (List ℕ)) (g : Group) (place : ℕ) (o : Option Group) → o ≡ Some g → GrowsBy mid new o place → has_entry new (entry_of g place) ≡ true
grown_has mid new g place None e grows = cc
grown_has mid new g place (Some h) e grows =
    let s : h ≡ g = cc in
    grows.has (entry_of g place) ∙ or_left (bytes_eq (entry_of h place) (entry_of g place)) (has_entry mid (entry_of g place))
    (bytes_same (entry_of h place) (entry_of g place) (ap (λ (k : Group). entry_of k place) s))

grown_kept : (mid new : List (List ℕ)) (place : ℕ) (o : Option Group) (e : List ℕ) → GrowsBy mid new o place → has_entry mid e ≡ true → has_entry new e ≡ true
grown_kept mid new place None e grows h = ap (λ (es : List (List ℕ)). has_entry es e) grows ∙ h
grown_kept mid new place (Some g) e grows h = grows.has e ∙ or_right (bytes_eq (entry_of g place) e) (has_entry mid e) h

named_of : (f : Fact) (to : Option ℕ) (g : Group) → Some (Named (name_of f)) ≡ Some g → IsOwnGroup f to g
named_of f to g e = inl (let s : g ≡ Named (name_of f) = cc in s)

pub first_part : (old new : List (List ℕ)) (f : Fact) (to : Option ℕ) (place : ℕ) → Grows old new (Named (name_of f)) place → IsPartlyListed old new f to place
first_part old new f to place grows = partly_more old old new f to place (Some (Named (name_of f))) (partly_none old f to place) grows (λ g e. named_of f to g e)

pub two_parts : (old mid new : List (List ℕ)) (f : Fact) (to : Option ℕ) (place : ℕ) → Grows old mid (Named (name_of f)) place → GrowsBy mid new (second_of f) place → IsPartlyListed old new f to place
two_parts old mid new f to place a b = partly_more old mid new f to place (second_of f) (first_part old mid f to place a) b (λ g e. inr (inl e))

pub three_parts : (old mid next new : List (List ℕ)) (f : Fact) (to : Option ℕ) (place : ℕ) → Grows old mid (Named (name_of f)) place → GrowsBy mid next (second_of f) place →
    GrowsBy next new (third_of f) place → IsPartlyListed old new f to place
three_parts old mid next new f to place a b c = partly_more old next new f to place (third_of f) (two_parts old mid next f to place a b) c (λ g e. inr (inr (inl e)))

pub all_parts : (old mid next last new : List (List ℕ)) (f : Fact) (to : Option ℕ) (place : ℕ) → Grows old mid (Named (name_of f)) place → GrowsBy mid next (second_of f) place →
    GrowsBy next last (third_of f) place → GrowsBy last new (owed_group to) place → IsListed old new f to place
all_parts old mid next last new f to place a b c d = record {
  partly = partly_more old last new f to place (owed_group to) (three_parts old mid next last f to place a b c) d (λ g e. inr (inr (inr e)));
  all = λ g own. elim own [
    | inl e ↦ behind g (grown_kept mid next place (second_of f) (entry_of g place) b (grown_has old mid g place (Some (Named (name_of f))) (ap Some (sym e)) a))
    | inr (inl e) ↦ behind g (grown_has mid next g place (second_of f) e b)
    | inr (inr (inl e)) ↦ grown_kept last new place (owed_group to) (entry_of g place) d (grown_has next last g place (third_of f) e c)
    | inr (inr (inr e)) ↦ grown_has last new g place (owed_group to) e d
  ];
}
  where
    behind : (g : Group) → has_entry next (entry_of g place) ≡ true → has_entry new (entry_of g place) ≡ true
    behind g h = grown_kept last new place (owed_group to) (entry_of g place) d (grown_kept next last place (third_of f) (entry_of g place) c h)

-- An index stays an index when some or all entries of one more fact are added.

at_same : (me : ℕ) (acked : List Name) (facts : List Fact) (g : Group) (p : ℕ) (f : Fact) → slice_get facts p ≡ Some f → belongs_at me acked g (slice_get facts p) ≡ belongs me acked g f
at_same me acked facts g p f e = ap (belongs_at me acked g) e

pub index_partly : (me : ℕ) (acked : List Name) (facts : List Fact) (old new : List (List ℕ)) (count : ℕ) (f : Fact) (to : Option ℕ) → IsIndex me acked facts old count →
    slice_get facts count ≡ Some f → to ≡ creditor me acked f → IsPartlyListed old new f to count → IsIndex me acked facts new count
index_partly me acked facts old new count f to index there is part = record {
  within = index.within;
  sound = λ g p h. elim (part.only (entry_of g p) h) [
    | inl was ↦ index.sound g p was
    | inr own ↦
        let same = same_entry g own.group p count own.is in
        ap (λ (q : ℕ). belongs_at me acked g (slice_get facts q)) same.1 ∙ at_same me acked facts g count f there
        ∙ ap (λ (k : Group). belongs me acked k f) same.0 ∙ own_belongs me acked f own.group (subst (λ (o : Option ℕ). IsOwnGroup f o own.group) is own.own)
  ];
  complete = λ g p lt h. part.kept (entry_of g p) (index.complete g p lt h);
}

pub index_more : (me : ℕ) (acked : List Name) (facts : List Fact) (old new : List (List ℕ)) (count : ℕ) (f : Fact) (to : Option ℕ) → IsIndex me acked facts old count →
    slice_get facts count ≡ Some f → to ≡ creditor me acked f → IsListed old new f to count → IsIndex me acked facts new (count + 1)
index_more me acked facts old new count f to index there is listed =
    let part = index_partly me acked facts old new count f to index there is listed.partly in
    record {
      within = let lt = get_within facts count f there in omega arith;
      sound = part.sound;
      complete = λ g p lt h. upto g p (below p lt) h;
    }
  where
    below : (p : ℕ) → p < count + 1 → (p < count) ⊎ (p ≡ count)
    below p lt = split p count (omega arith)
      where
        split : (p c : ℕ) → p ≤ c → (p < c) ⊎ (p ≡ c)
        split zero zero le = inr refl
        split zero (suc c) le = inl (omega arith)
        split (suc p) zero le = absurd (omega arith)
        split (suc p) (suc c) le = elim (split p c (omega arith)) [ inl h ↦ inl (omega arith) | inr h ↦ inr (omega arith) ]

    upto : (g : Group) (p : ℕ) → (p < count) ⊎ (p ≡ count) → belongs_at me acked g (slice_get facts p) ≡ true → has_entry new (entry_of g p) ≡ true
    upto g p (inl lt) h = listed.partly.kept (entry_of g p) (index.complete g p lt h)
    upto g p (inr e) h =
        let here : belongs me acked g f ≡ true = sym (ap (λ (q : ℕ). belongs_at me acked g (slice_get facts q)) e ∙ at_same me acked facts g count f there) ∙ h in
        ap (λ (q : ℕ). has_entry new (entry_of g q)) e ∙ listed.all g (subst (λ (o : Option ℕ). IsOwnGroup f o g) (sym is) (belongs_own me acked g f here))
