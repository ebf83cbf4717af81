-- What a list has at a count, and its index entries.
use Rattle.std.proofs.Common.{◌≡◌, ℕ, zero, suc, ◌+◌, ◌<◌, ◌≤◌, ◌^◌, max, Bool, true, false, ◌&&◌, ◌||◌, List, [], ◌∷◌, ◌++◌, length, refl, sym, ◌∙◌, ap, arith, take, Option, Some, None, ◌⊎◌, inl, inr}
use Rattle.std.specs.Prelude.{slice_get, slice_index, ◌/◌, ◌%◌, is_some, not, nat_le, nat_lt, ◌==◌, if◌then◌else◌}
use Rattle.std.specs.List.{list_any}
use Rattle.std.specs.Str.{bytes_eq}
use Rattle.std.proofs.lemmas.Slice.Eq.{bytes_eq-Decides}
use Rattle.std.proofs.lemmas.List.{take-append-le, take_all}
use Rattle.qkd_base.specs.declared.key_name.NameKind.TheVariants.{Key as KeyKind}
use Rattle.qkd_base.specs.Name.{Name, IsName, name_eq, kind_eq}
use Rattle.net_model.specs.declared.fact.Fact.{Fact}
use Rattle.net_model.specs.declared.fact.Fact.TheVariants.{Key, Chunk, Stored, Open, Joined, Part}
use Rattle.net_model.specs.Table.{was_handed, fact_at, has_fact, name_of, is_part_of, is_stored_about, part_of}
use Rattle.net_model.specs.Decision.{last_count, count_if, group_count}
use Rattle.relay_core.proofs.Kept.{IsSomewhere, somewhere, any_somewhere}
use Rattle.relay_core.specs.Index.{tagged}
use Rattle.relay_core.specs.Knowledge.{AreDistinct}
use Rattle.relay_core.specs.Firsts.{IsFirstFrom, IsNoneFrom}
use Rattle.std.proofs.lemmas.Bool.Decides.{nat_tests}
use Rattle.ordered_set.specs.Entries.{has_entry, entry_at, IsNextIn, IsLastIn}
use Rattle.relay_core.proofs.Firsts.{get_within, not_true, any_at, find_hits}
use Rattle.relay_core.proofs.Names.{tag_back, number_back, name_eq_from, names_same, eq_same, eq_from, and_left, and_right}
use Rattle.end_store.proofs.Pairs.{any_take}
use Rattle.end_store.specs.declared.pool.Pool.{Pool}
use Rattle.end_store.specs.declared.pool.Line.{Line}
use Rattle.end_store.specs.declared.pool.Line.TheVariants.{Stock, Keys, Parts}
use Rattle.end_store.specs.Waiting.{own, is_in, is_own, pool_of, stands, is_taken, is_waiting, is_free_key, is_free_key_at, is_part_in, is_part_in_at, pool_entry, line_entry, is_noted, place_entry, count_entry, free_entry, brought_entry, GrowsBy, AreWaiting, IsLastWaiting}

bytes_same : (a b : List ℕ) → a ≡ b → bytes_eq a b ≡ true
bytes_same a b e = (bytes_eq-Decides a b).1 e

bytes_from : (a b : List ℕ) → bytes_eq a b ≡ true → a ≡ b
bytes_from a b h = (bytes_eq-Decides a b).0 h

-- the parts of a pool

pub record IsPool (p : Pool) (m s size : ℕ) : Type 0 where
  pub master : m ≡ p.master
  pub slave : s ≡ p.slave
  pub octets : size ≡ p.octets

pub in_pool : (p : Pool) (m s : ℕ) (bytes : List ℕ) → is_in p m s bytes ≡ true → IsPool p m s (length bytes)
in_pool p m s bytes h =
    let front = and_left ((m == p.master) && (s == p.slave)) (length bytes == p.octets) h in
    record {
      master = eq_from m p.master (and_left (m == p.master) (s == p.slave) front);
      slave = eq_from s p.slave (and_right (m == p.master) (s == p.slave) front);
      octets = eq_from (length bytes) p.octets (and_right ((m == p.master) && (s == p.slave)) (length bytes == p.octets) h);
    }

entries_same : (tag : ℕ) (p : Pool) (m s : ℕ) (bytes : List ℕ) (c d : ℕ) → IsPool p m s (length bytes) → c ≡ d → pool_entry tag (pool_of m s bytes) c ≡ pool_entry tag p d
entries_same tag p m s bytes c d pool e =
    ap (λ (x : ℕ). tagged tag x ∷ s ∷ length bytes ∷ 0 ∷ c ∷ []) pool.master
    ∙ ap (λ (x : ℕ). tagged tag p.master ∷ x ∷ length bytes ∷ 0 ∷ c ∷ []) pool.slave
    ∙ ap (λ (x : ℕ). tagged tag p.master ∷ p.slave ∷ x ∷ 0 ∷ c ∷ []) pool.octets
    ∙ ap (λ (x : ℕ). tagged tag p.master ∷ p.slave ∷ p.octets ∷ 0 ∷ x ∷ []) e

pub own_is : (me c : ℕ) (n : Name) → name_eq n (own me c) ≡ true → (is_own me n ≡ true) × (n.count ≡ c)
own_is me c n h =
    let e = name_eq_from n (own me c) h in
    (ap (λ (m : Name). is_own me m) e ∙ ap (λ (b : Bool). b && kind_eq KeyKind KeyKind) (eq_same me), ap (λ (m : Name). m.count) e)

-- if the second test is true, the disjunction is true

or_right : (a b : Bool) → b ≡ true → (a || b) ≡ true
or_right true b h = refl
or_right false b h = h

or_left : (a b : Bool) → a ≡ true → (a || b) ≡ true
or_left true b h = refl
or_left false b h = cc

grown_kept : (old new : List (List ℕ)) (o : Option (List ℕ)) (e : List ℕ) → GrowsBy old new o → has_entry old e ≡ true → has_entry new e ≡ true
grown_kept old new None e grows h = ap (λ (es : List (List ℕ)). has_entry es e) grows ∙ h
grown_kept old new (Some x) e grows h = grows.has e ∙ or_right (bytes_eq x e) (has_entry old e) h

grown_has : (old new : List (List ℕ)) (o : Option (List ℕ)) (e : List ℕ) → GrowsBy old new o → o ≡ Some e → has_entry new e ≡ true
grown_has old new None e grows h = cc
grown_has old new (Some x) e grows h = let same : x ≡ e = cc in grows.has e ∙ or_left (bytes_eq x e) (has_entry old e) (bytes_same x e same)

pub waiting_kept : (me : ℕ) (facts : List Fact) (handed : List (Name × ℕ)) (old new : List (List ℕ)) (count : ℕ) (o : Option (List ℕ)) → AreWaiting me facts handed old count → GrowsBy old new o →
    AreWaiting me facts handed new count
waiting_kept me facts handed old new count o waiting grows = record {
  within = waiting.within;
  complete = λ l c i f lt there at free noted. grown_kept old new o (line_entry l c) grows (waiting.complete l c i f lt there at free noted);
}

below : (p count : ℕ) → p < count + 1 → (p < count) ⊎ (p ≡ count)
below p count lt = split p count (omega arith)
  where
    split : (p c : ℕ) → p ≤ c → (p < c) ⊎ (p ≡ c)
    split zero zero le = inr refl
    split zero (suc c) le = inl (omega arith)
    split (suc p) zero le = absurd (omega arith)
    split (suc p) (suc c) le = elim (split p c (omega arith)) [ inl h ↦ inl (omega arith) | inr h ↦ inr (omega arith) ]

-- the fact of a name is the one that has this name at some place
pub found_at : (facts : List Fact) (n : Name) (i : ℕ) (f : Fact) → AreDistinct facts → slice_get facts i ≡ Some f → name_of f ≡ n → fact_at facts n ≡ Some f
found_at facts n i f d there named = same (somewhere (λ g. name_eq (name_of g) n) facts (find_hits (λ g. name_eq (name_of g) n) facts i f there (names_same (name_of f) n named)))
  where
    same : IsSomewhere (λ g. name_eq (name_of g) n) facts → fact_at facts n ≡ Some f
    same at =
        let one : at.place ≡ i = d.apart at.place i n (record { fact = at.item; there = at.there; named = name_eq_from (name_of at.item) n at.passes }) (record { fact = f; there = there; named = named }) in
        at.found ∙ sym at.there ∙ ap (slice_get facts) one ∙ there

-- if a disjunction is true, one of its tests is true

or_cases : (a b : Bool) → (a || b) ≡ true → (a ≡ true) ⊎ (b ≡ true)
or_cases true b h = inl refl
or_cases false b h = inr h

any_front : {A : Type 0} (t : A → Bool) (xs : List A) (c : ℕ) → list_any t (take c xs) ≡ true → list_any t xs ≡ true
any_front t [] zero h = h
any_front t [] (suc c) h = h
any_front t (x ∷ xs) zero h = cc
any_front t (x ∷ xs) (suc c) h = elim (or_cases (t x) (list_any t (take c xs)) h) [
  | inl e ↦ or_left (t x) (list_any t xs) e
  | inr e ↦ or_right (t x) (list_any t xs) (any_front t xs c e)
]

any_one : {A : Type 0} (t : A → Bool) (xs : List A) (c : ℕ) (x : A) → slice_get xs c ≡ Some x → list_any t (take (c + 1) xs) ≡ true → (list_any t (take c xs) ≡ true) ⊎ (t x ≡ true)
any_one t xs c x there h = or_cases (list_any t (take c xs)) (t x) (sym (any_take t xs c x there) ∙ h)

noted_one : (me : ℕ) (facts : List Fact) (l : Line) (c count : ℕ) (f : Fact) → slice_get facts count ≡ Some f → is_noted me (take (count + 1) facts) l c ≡ true →
    (is_noted me (take count facts) l c ≡ true) ⊎ (is_stored_about (own me c) f ≡ true)
noted_one me facts (Stock p) c count f there h = inl refl
noted_one me facts (Keys p) c count f there h = any_one (is_stored_about (own me c)) facts count f there h
noted_one me facts (Parts p) c count f there h = inl refl

-- a note isn't handed out to a master
not_taken : (handed : List (Name × ℕ)) (n : Name) (f : Fact) → is_taken handed f ≡ true → is_stored_about n f ≡ false
not_taken handed n (Key name m s route bytes) h = refl
not_taken handed n (Part name key m s route bytes) h = refl
not_taken handed n (Chunk name stream index route bytes) h = refl
not_taken handed n (Stored note about route) h = cc
not_taken handed n (Open stream source peer size route) h = refl
not_taken handed n (Joined note about route) h = refl

-- a fact that stands at a count of a pool's ready keys has the name of this count
stands_named : (me : ℕ) (p : Pool) (c i : ℕ) (f : Fact) → stands me (Keys p) c i f ≡ true → name_of f ≡ own me c
stands_named me p c i (Key name m s route bytes) h = name_eq_from name (own me c) (and_right (is_in p m s bytes) (name_eq name (own me c)) h)
stands_named me p c i (Part name key m s route bytes) h = cc
stands_named me p c i (Chunk name stream index route bytes) h = cc
stands_named me p c i (Stored note about route) h = cc
stands_named me p c i (Open stream source peer size route) h = cc
stands_named me p c i (Joined note about route) h = cc

stands_key : (me : ℕ) (p : Pool) (c i : ℕ) (f : Fact) → stands me (Keys p) c i f ≡ true → count_entry me f ≡ Some (line_entry (Keys p) c)
stands_key me p c i (Key name m s route bytes) h =
    let at = own_is me c name (and_right (is_in p m s bytes) (name_eq name (own me c)) h) in
    ap (λ (b : Bool). if b then Some (line_entry (Keys (pool_of m s bytes)) name.count) else None) at.0
    ∙ ap Some (entries_same 1 p m s bytes name.count c (in_pool p m s bytes (and_left (is_in p m s bytes) (name_eq name (own me c)) h)) at.1)
stands_key me p c i (Part name key m s route bytes) h = cc
stands_key me p c i (Chunk name stream index route bytes) h = cc
stands_key me p c i (Stored note about route) h = cc
stands_key me p c i (Open stream source peer size route) h = cc
stands_key me p c i (Joined note about route) h = cc

-- a fact that waits at a count of a list has its entry there, by place or by count
own_entry : (me : ℕ) (facts : List Fact) (handed : List (Name × ℕ)) (l : Line) (c i : ℕ) (f : Fact) → stands me l c i f ≡ true → is_noted me facts l c ≡ true →
    (place_entry i f ≡ Some (line_entry l c)) ⊎ (brought_entry me facts handed f ≡ Some (line_entry l c))
own_entry me facts handed (Stock p) c i (Key name m s route bytes) h noted =
    inl (ap Some (entries_same 0 p m s bytes i c (in_pool p m s bytes (and_left (is_in p m s bytes) (i == c) h)) (eq_from i c (and_right (is_in p m s bytes) (i == c) h))))
own_entry me facts handed (Keys p) c i (Key name m s route bytes) h noted =
    let is = stands_named me p c i (Key name m s route bytes) h in
    inr (ap (λ (b : Bool). if b then count_entry me (Key name m s route bytes) else None) (ap (λ (n : Name). list_any (is_stored_about n) facts) is ∙ noted)
    ∙ stands_key me p c i (Key name m s route bytes) h)
own_entry me facts handed (Parts p) c i (Part name key m s route bytes) h noted =
    let at = own_is me c key (and_right (is_in p m s bytes) (name_eq key (own me c)) h) in
    inr (ap (λ (b : Bool). if b then Some (line_entry (Parts (pool_of m s bytes)) key.count) else None) at.0
    ∙ ap Some (entries_same 2 p m s bytes key.count c (in_pool p m s bytes (and_left (is_in p m s bytes) (name_eq key (own me c)) h)) at.1))
own_entry me facts handed (Stock p) c i (Part name key m s route bytes) h noted = cc
own_entry me facts handed (Stock p) c i (Chunk name stream index route bytes) h noted = cc
own_entry me facts handed (Stock p) c i (Stored note about route) h noted = cc
own_entry me facts handed (Stock p) c i (Open stream source peer size route) h noted = cc
own_entry me facts handed (Stock p) c i (Joined note about route) h noted = cc
own_entry me facts handed (Keys p) c i (Part name key m s route bytes) h noted = cc
own_entry me facts handed (Keys p) c i (Chunk name stream index route bytes) h noted = cc
own_entry me facts handed (Keys p) c i (Stored note about route) h noted = cc
own_entry me facts handed (Keys p) c i (Open stream source peer size route) h noted = cc
own_entry me facts handed (Keys p) c i (Joined note about route) h noted = cc
own_entry me facts handed (Parts p) c i (Key name m s route bytes) h noted = cc
own_entry me facts handed (Parts p) c i (Chunk name stream index route bytes) h noted = cc
own_entry me facts handed (Parts p) c i (Stored note about route) h noted = cc
own_entry me facts handed (Parts p) c i (Open stream source peer size route) h noted = cc
own_entry me facts handed (Parts p) c i (Joined note about route) h noted = cc

-- the note that confirms a key brings the entry of this key
note_brings : (me : ℕ) (facts : List Fact) (handed : List (Name × ℕ)) (p : Pool) (c i : ℕ) (x f : Fact) → AreDistinct facts → slice_get facts i ≡ Some x → stands me (Keys p) c i x ≡ true →
    is_taken handed x ≡ false → is_stored_about (own me c) f ≡ true → brought_entry me facts handed f ≡ Some (line_entry (Keys p) c)
note_brings me facts handed p c i x (Stored note about route) d there stood free h =
    ap (λ (n : Name). free_entry me handed (fact_at facts n)) (name_eq_from about (own me c) h)
    ∙ ap (free_entry me handed) (found_at facts (own me c) i x d there (stands_named me p c i x stood))
    ∙ ap (λ (b : Bool). if b then None else count_entry me x) free
    ∙ stands_key me p c i x stood
note_brings me facts handed p c i x (Key name m s route bytes) d there stood free h = cc
note_brings me facts handed p c i x (Part name key m s route bytes) d there stood free h = cc
note_brings me facts handed p c i x (Chunk name stream index route bytes) d there stood free h = cc
note_brings me facts handed p c i x (Open stream source peer size route) d there stood free h = cc
note_brings me facts handed p c i x (Joined note about route) d there stood free h = cc

line_brings : (me : ℕ) (facts : List Fact) (handed : List (Name × ℕ)) (l : Line) (c i count : ℕ) (x f : Fact) → AreDistinct facts → slice_get facts count ≡ Some f → slice_get facts i ≡ Some x → stands me l c i x ≡ true →
    is_taken handed x ≡ false → is_noted me (take (count + 1) facts) l c ≡ true → (is_noted me (take count facts) l c ≡ true) ⊎ (brought_entry me facts handed f ≡ Some (line_entry l c))
line_brings me facts handed (Stock p) c i count x f d here there stood free noted = inl refl
line_brings me facts handed (Parts p) c i count x f d here there stood free noted = inl refl
line_brings me facts handed (Keys p) c i count x f d here there stood free noted = elim (any_one (is_stored_about (own me c)) facts count f here noted) [
  | inl e ↦ inl e
  | inr e ↦ inr (note_brings me facts handed p c i x f d there stood free e)
]

noted_all : (me : ℕ) (facts : List Fact) (l : Line) (c count : ℕ) → is_noted me (take count facts) l c ≡ true → is_noted me facts l c ≡ true
noted_all me facts (Stock p) c count h = refl
noted_all me facts (Keys p) c count h = any_front (is_stored_about (own me c)) facts count h
noted_all me facts (Parts p) c count h = refl

pub waiting_more : (me : ℕ) (facts : List Fact) (handed : List (Name × ℕ)) (old mid new : List (List ℕ)) (count : ℕ) (f : Fact) → AreDistinct facts → AreWaiting me facts handed old count →
    slice_get facts count ≡ Some f → GrowsBy old mid (place_entry count f) → GrowsBy mid new (brought_entry me facts handed f) → AreWaiting me facts handed new (count + 1)
waiting_more me facts handed old mid new count f d waiting there a b = record {
  within = let lt = get_within facts count f there in omega arith;
  complete = λ l c i x lt at stood free noted. elim (below i count lt) [
    | inl le ↦ elim (line_brings me facts handed l c i count x f d there at stood free noted) [
      | inl was ↦ grown_kept mid new (brought_entry me facts handed f) (line_entry l c) b (grown_kept old mid (place_entry count f) (line_entry l c) a (waiting.complete l c i x le at stood free was))
      | inr h ↦ grown_has mid new (brought_entry me facts handed f) (line_entry l c) b h
    ]
    | inr e ↦
        let x_is : Some x ≡ Some f = sym at ∙ ap (slice_get facts) e ∙ there in
        let same : x ≡ f = cc in
        let here : stands me l c count f ≡ true = sym (ap (λ (j : ℕ). stands me l c j x) e ∙ ap (stands me l c count) same) ∙ stood in
        elim (own_entry me facts handed l c count f here (noted_all me facts l c (count + 1) noted)) [
          | inl h ↦ grown_kept mid new (brought_entry me facts handed f) (line_entry l c) b (grown_has old mid (place_entry count f) (line_entry l c) a h)
          | inr h ↦ grown_has mid new (brought_entry me facts handed f) (line_entry l c) b h
        ]
  ];
}

pub waiting_skip : (me : ℕ) (facts : List Fact) (handed : List (Name × ℕ)) (es : List (List ℕ)) (count : ℕ) (f : Fact) → AreWaiting me facts handed es count → slice_get facts count ≡ Some f →
    is_taken handed f ≡ true → AreWaiting me facts handed es (count + 1)
waiting_skip me facts handed es count f waiting there taken = record {
  within = let lt = get_within facts count f there in omega arith;
  complete = λ l c i x lt at stood free noted. elim (below i count lt) [
    | inl le ↦ elim (noted_one me facts l c count f there noted) [
      | inl was ↦ waiting.complete l c i x le at stood free was
      | inr e ↦ let t : true ≡ false = sym e ∙ not_taken handed (own me c) f taken in let u : ⊥ = cc in absurd u
    ]
    | inr e ↦
        let x_is : Some x ≡ Some f = sym at ∙ ap (slice_get facts) e ∙ there in
        let same : x ≡ f = cc in
        let t : true ≡ false = sym taken ∙ ap (is_taken handed) (sym same) ∙ free in
        let u : ⊥ = cc in absurd u
  ];
}

pub waiting_push : (me : ℕ) (facts : List Fact) (handed : List (Name × ℕ)) (es : List (List ℕ)) (count : ℕ) (f : Fact) → AreWaiting me facts handed es count → AreWaiting me (facts ++ f ∷ []) handed es count
waiting_push me facts handed es count f waiting = record {
  within = let w = waiting.within in let s = length_push facts in omega arith;
  complete = λ l c i x lt there stood free noted.
      waiting.complete l c i x lt (sym (front facts i (let w = waiting.within in omega arith)) ∙ there) stood free
      (sym (ap (λ (fs : List Fact). is_noted me fs l c) (take-append-le count facts (f ∷ []) waiting.within)) ∙ noted);
}
  where
    length_push : (xs : List Fact) → length (xs ++ f ∷ []) ≡ length xs + 1
    length_push [] = refl
    length_push (y ∷ ys) = let r = length_push ys in omega arith

    front : (xs : List Fact) (i : ℕ) → i < length xs → slice_get (xs ++ f ∷ []) i ≡ slice_get xs i
    front [] i h = absurd (omega arith)
    front (x ∷ xs) zero h = refl
    front (x ∷ xs) (suc i) h = front xs i (omega arith)

-- the master for which a list is kept
line_master : Line → ℕ
line_master (Stock p) = p.master
line_master (Keys p) = p.master
line_master (Parts p) = p.master

pub some_list : (k l : List ℕ) → Some k ≡ Some l → k ≡ l
some_list k l e = cc

-- equal entries have the same list and the same count

pub record IsSameLine (l : Line) (c : ℕ) (m : Line) (d : ℕ) : Type 0 where
  pub line : l ≡ m
  pub count : c ≡ d

line_from : ℕ → Pool → Line
line_from tag p = if tag == 0 then Stock p else if tag == 1 then Keys p else Parts p

line_back : List ℕ → Line
line_back e = line_from (slice_index e 0 % 8) (record { master = slice_index e 0 / 8; slave = slice_index e 1; octets = slice_index e 2 })

tagged_is : (tag : ℕ) (p : Pool) (c : ℕ) → tag < 8 → line_back (pool_entry tag p c) ≡ line_from tag p
unfolding line_back
tagged_is tag p c small =
    ap (λ (t : ℕ). line_from t (record { master = tagged tag p.master / 8; slave = p.slave; octets = p.octets })) (tag_back tag p.master small)
    ∙ ap (λ (m : ℕ). line_from tag (record { master = m; slave = p.slave; octets = p.octets })) (number_back tag p.master small)

line_is : (l : Line) (c : ℕ) → line_back (line_entry l c) ≡ l
unfolding line_from
line_is (Stock p) c = tagged_is 0 p c (omega arith)
line_is (Keys p) c = tagged_is 1 p c (omega arith)
line_is (Parts p) c = tagged_is 2 p c (omega arith)

count_is : (l : Line) (c : ℕ) → slice_index (line_entry l c) 4 ≡ c
count_is (Stock p) c = refl
count_is (Keys p) c = refl
count_is (Parts p) c = refl

pub same_line : (l m : Line) (c d : ℕ) → line_entry l c ≡ line_entry m d → IsSameLine l c m d
same_line l m c d e = record {
  line = sym (line_is l c) ∙ ap line_back e ∙ line_is m d;
  count = sym (count_is l c) ∙ ap (λ (k : List ℕ). slice_index k 4) e ∙ count_is m d;
}

-- a fact that isn't a part of the group key isn't a part of it in the pool

part_in : (p : Pool) (n : Name) (f : Fact) → is_part_of n f ≡ false → is_part_in p n f ≡ false
part_in p n (Part name key m s route bytes) h = ap (λ (b : Bool). b && is_in p m s bytes) h
part_in p n (Key name m s route bytes) h = refl
part_in p n (Chunk name stream index route bytes) h = refl
part_in p n (Stored note about route) h = refl
part_in p n (Open stream source peer size route) h = refl
part_in p n (Joined note about route) h = refl

sides : (p count : ℕ) → (p < count) ⊎ (count ≤ p)
sides zero zero = inr (omega arith)
sides zero (suc c) = inl (omega arith)
sides (suc p) zero = inr (omega arith)
sides (suc p) (suc c) = elim (sides p c) [ inl h ↦ inl (omega arith) | inr h ↦ inr (omega arith) ]

any_none : {A : Type 0} (t : A → Bool) (xs : List A) → ((p : ℕ) (x : A) → slice_get xs p ≡ Some x → t x ≡ false) → list_any t xs ≡ false
any_none t [] h = refl
any_none t (x ∷ xs) h = ap (λ (b : Bool). b || list_any t xs) (h 0 x refl) ∙ any_none t xs (λ p y g. h (suc p) y g)

pub no_part : (pool : Pool) (key : Name) (facts : List Fact) (from : ℕ) → ((p : ℕ) (x : Fact) → p < from → slice_get facts p ≡ Some x → is_part_in pool key x ≡ false) →
    IsNoneFrom (is_part_of key) facts from → false ≡ list_any (is_part_in pool key) facts
no_part pool key facts from before none = sym (any_none (is_part_in pool key) facts (λ p x there. elim (sides p from) [
  | inl lt ↦ before p x lt there
  | inr le ↦ part_in pool key x (none.none p x le there)
]))

pub no_more : (pool : Pool) (key : Name) (facts : List Fact) (from : ℕ) → length facts ≤ from → ((p : ℕ) (x : Fact) → p < from → slice_get facts p ≡ Some x → is_part_in pool key x ≡ false) →
    false ≡ list_any (is_part_in pool key) facts
no_more pool key facts from le before = sym (any_none (is_part_in pool key) facts (λ p x there. before p x (let lt = get_within facts p x there in omega arith) there))

pub one_part : (pool : Pool) (key : Name) (facts : List Fact) (from place : ℕ) → IsFirstFrom (is_part_of key) facts from place → is_part_in_at pool key (slice_get facts place) ≡ true →
    true ≡ list_any (is_part_in pool key) facts
one_part pool key facts from place first h = sym (any_at (is_part_in pool key) facts place first.item first.there (sym (ap (is_part_in_at pool key) first.there) ∙ h))

pub other_part : (pool : Pool) (key : Name) (facts : List Fact) (from place : ℕ) → IsFirstFrom (is_part_of key) facts from place → is_part_in_at pool key (slice_get facts place) ≡ false →
    ((p : ℕ) (x : Fact) → p < from → slice_get facts p ≡ Some x → is_part_in pool key x ≡ false) → (p : ℕ) (x : Fact) → p < place + 1 → slice_get facts p ≡ Some x → is_part_in pool key x ≡ false
other_part pool key facts from place first miss before p x lt there = elim (sides p from) [
  | inl low ↦ before p x low there
  | inr high ↦ elim (below p place lt) [
    | inl le ↦ part_in pool key x (first.before p x high le there)
    | inr e ↦ sym (ap (is_part_in_at pool key) (sym (ap (slice_get facts) e) ∙ there)) ∙ miss
  ]
]

-- no key waits at a count that no name can have

pub none_of : (handed : List (Name × ℕ)) (p : Pool) (facts : List Fact) (me c : ℕ) (o : Option Name) → ((n : Name) → has_fact facts n ≡ true → IsName n) → 1 ≤ c → o ≡ None →
    o ≡ (if nat_le 1 c && nat_lt c (2 ^ 48) then Some (own me c) else None) → false ≡ is_waiting me facts handed (Keys p) c
none_of handed p facts me c o named low none is = by (fact_at facts (own me c)) refl
  where
    by : (x : Option Fact) → fact_at facts (own me c) ≡ x → false ≡ (nat_le 1 c && is_free_key_at handed p x && list_any (is_stored_about (own me c)) facts)
    by None e = sym (no_key (nat_le 1 c))
      where
        no_key : (b : Bool) → (b && false && list_any (is_stored_about (own me c)) facts) ≡ false
        no_key true = refl
        no_key false = refl
    by (Some f) e =
        let is_name = named (own me c) (ap is_some e) in
        let small = is_name.count in
        let test : (nat_le 1 c && nat_lt c (2 ^ 48)) ≡ true = grind (arith, nat_tests) in
        let t : None ≡ Some (own me c) = sym none ∙ is ∙ ap (λ (b : Bool). if b then Some (own me c) else None) test in
        absurd (let u : ⊥ = cc in u)

-- the entry of a list at a count, without the count

front_of : Line → List ℕ
front_of (Stock p) = tagged 0 p.master ∷ p.slave ∷ p.octets ∷ 0 ∷ []
front_of (Keys p) = tagged 1 p.master ∷ p.slave ∷ p.octets ∷ 0 ∷ []
front_of (Parts p) = tagged 2 p.master ∷ p.slave ∷ p.octets ∷ 0 ∷ []

front_is : (l : Line) (c : ℕ) → line_entry l c ≡ entry_at (front_of l) c
unfolding front_of
front_is (Stock p) c = refl
front_is (Keys p) c = refl
front_is (Parts p) c = refl

pub record StandsFree (me : ℕ) (facts : List Fact) (handed : List (Name × ℕ)) (l : Line) (c : ℕ) : Type 0 where
  pub place : ℕ
  pub fact : Fact
  pub there : slice_get facts place ≡ Some fact
  pub stands : stands me l c place fact ≡ true
  pub free : is_taken handed fact ≡ false
  pub noted : is_noted me facts l c ≡ true

not_from : (b : Bool) → not b ≡ true → b ≡ false
not_from true h = cc
not_from false h = refl

free_key : (handed : List (Name × ℕ)) (p : Pool) (f : Fact) (t : Bool) → is_free_key handed p f ≡ true → (is_taken handed f ≡ false)
free_key handed p (Key name m s route bytes) t h = not_from (was_handed handed name m) (and_right (is_in p m s bytes) (not (was_handed handed name m)) h)
free_key handed p (Part name key m s route bytes) t h = cc
free_key handed p (Chunk name stream index route bytes) t h = cc
free_key handed p (Stored note about route) t h = cc
free_key handed p (Open stream source peer size route) t h = cc
free_key handed p (Joined note about route) t h = cc

stock_stands : (me : ℕ) (handed : List (Name × ℕ)) (p : Pool) (c : ℕ) (f : Fact) → is_free_key handed p f ≡ true → stands me (Stock p) c c f ≡ true
stock_stands me handed p c (Key name m s route bytes) h = ap (λ (b : Bool). b && (c == c)) (and_left (is_in p m s bytes) (not (was_handed handed name m)) h) ∙ eq_same c
stock_stands me handed p c (Part name key m s route bytes) h = cc
stock_stands me handed p c (Chunk name stream index route bytes) h = cc
stock_stands me handed p c (Stored note about route) h = cc
stock_stands me handed p c (Open stream source peer size route) h = cc
stock_stands me handed p c (Joined note about route) h = cc

key_stands : (me : ℕ) (handed : List (Name × ℕ)) (p : Pool) (c i : ℕ) (f : Fact) → is_free_key handed p f ≡ true → name_eq (name_of f) (own me c) ≡ true → stands me (Keys p) c i f ≡ true
key_stands me handed p c i (Key name m s route bytes) h n = ap (λ (b : Bool). b && name_eq name (own me c)) (and_left (is_in p m s bytes) (not (was_handed handed name m)) h) ∙ n
key_stands me handed p c i (Part name key m s route bytes) h n = cc
key_stands me handed p c i (Chunk name stream index route bytes) h n = cc
key_stands me handed p c i (Stored note about route) h n = cc
key_stands me handed p c i (Open stream source peer size route) h n = cc
key_stands me handed p c i (Joined note about route) h n = cc

part_stands : (me : ℕ) (p : Pool) (c i : ℕ) (f : Fact) → is_part_in p (own me c) f ≡ true → stands me (Parts p) c i f ≡ true
part_stands me p c i (Part name key m s route bytes) h =
    ap (λ (b : Bool). b && name_eq key (own me c)) (and_right (name_eq key (own me c)) (is_in p m s bytes) h) ∙ and_left (name_eq key (own me c)) (is_in p m s bytes) h
part_stands me p c i (Key name m s route bytes) h = cc
part_stands me p c i (Chunk name stream index route bytes) h = cc
part_stands me p c i (Stored note about route) h = cc
part_stands me p c i (Open stream source peer size route) h = cc
part_stands me p c i (Joined note about route) h = cc

part_taken : (me : ℕ) (handed : List (Name × ℕ)) (p : Pool) (c : ℕ) (f : Fact) → is_part_in p (own me c) f ≡ true → is_taken handed f ≡ was_handed handed (own me c) p.master
part_taken me handed p c (Part name key m s route bytes) h =
    ap (λ (n : Name). was_handed handed n m) (name_eq_from key (own me c) (and_left (name_eq key (own me c)) (is_in p m s bytes) h))
    ∙ ap (was_handed handed (own me c)) (in_pool p m s bytes (and_right (name_eq key (own me c)) (is_in p m s bytes) h)).master
part_taken me handed p c (Key name m s route bytes) h = cc
part_taken me handed p c (Chunk name stream index route bytes) h = cc
part_taken me handed p c (Stored note about route) h = cc
part_taken me handed p c (Open stream source peer size route) h = cc
part_taken me handed p c (Joined note about route) h = cc

-- a key that waits is in the pool, and its master hasn't got it
key_free : (me : ℕ) (facts : List Fact) (handed : List (Name × ℕ)) (p : Pool) (c : ℕ) → is_waiting me facts handed (Keys p) c ≡ true → is_free_key_at handed p (fact_at facts (own me c)) ≡ true
key_free me facts handed p c h =
    and_right (nat_le 1 c) (is_free_key_at handed p (fact_at facts (own me c)))
    (and_left (nat_le 1 c && is_free_key_at handed p (fact_at facts (own me c))) (list_any (is_stored_about (own me c)) facts) h)

pub waiting_stands : (me : ℕ) (facts : List Fact) (handed : List (Name × ℕ)) (l : Line) (c : ℕ) → is_waiting me facts handed l c ≡ true → StandsFree me facts handed l c
waiting_stands me facts handed (Stock p) c h = by (slice_get facts c) refl h
  where
    by : (o : Option Fact) → slice_get facts c ≡ o → is_free_key_at handed p o ≡ true → StandsFree me facts handed (Stock p) c
    by None e g = cc
    by (Some f) e g = record { place = c; fact = f; there = e; stands = stock_stands me handed p c f g; free = free_key handed p f true g; noted = refl }
waiting_stands me facts handed (Keys p) c h = by (fact_at facts (own me c)) refl (key_free me facts handed p c h)
  where
    by : (o : Option Fact) → fact_at facts (own me c) ≡ o → is_free_key_at handed p o ≡ true → StandsFree me facts handed (Keys p) c
    by None e g = cc
    by (Some f) e g =
        let at = somewhere (λ x. name_eq (name_of x) (own me c)) facts (ap is_some e) in
        let both : Some at.item ≡ Some f = sym at.found ∙ e in
        let same : at.item ≡ f = cc in
        record {
          place = at.place;
          fact = f;
          there = at.there ∙ ap Some same;
          stands = key_stands me handed p c at.place f g (sym (ap (λ (x : Fact). name_eq (name_of x) (own me c)) same) ∙ at.passes);
          free = free_key handed p f true g;
          noted = and_right (nat_le 1 c && is_free_key_at handed p (fact_at facts (own me c))) (list_any (is_stored_about (own me c)) facts) h;
        }
waiting_stands me facts handed (Parts p) c h =
    let front = and_left (nat_le 1 c && list_any (is_part_in p (own me c)) facts) (not (was_handed handed (own me c) p.master)) h in
    let at = any_somewhere (is_part_in p (own me c)) facts (and_right (nat_le 1 c) (list_any (is_part_in p (own me c)) facts) front) in
    record {
      place = at.place;
      fact = at.item;
      there = at.there;
      stands = part_stands me p c at.place at.item at.passes;
      free = part_taken me handed p c at.item at.passes ∙ not_from (was_handed handed (own me c) p.master) (and_right (nat_le 1 c && list_any (is_part_in p (own me c)) facts) (not (was_handed handed (own me c) p.master)) h);
      noted = refl;
    }

-- the count of a known name is at most the last count

named_bound : (me : ℕ) (facts : List Fact) (c : ℕ) → has_fact facts (own me c) ≡ true → c ≤ last_count me facts
unfolding last_count
named_bound me [] c h = cc
named_bound me (f ∷ fs) c h =
    elim (name_eq (name_of f) (own me c)) as (λ b. name_eq (name_of f) (own me c) ≡ b → is_some (if b then Some f else fact_at fs (own me c)) ≡ true → c ≤ last_count me (f ∷ fs)) [
      | true ↦ λ e g.
          let s = name_eq_from (name_of f) (own me c) e in
          let k : count_if me (name_of f) ≡ c = ap (count_if me) s ∙ ap (λ (b : Bool). if b then c else 0) (eq_same me) in
          omega arith
      | false ↦ λ e g. let r = named_bound me fs c g in omega arith
    ] refl h

part_count : (me : ℕ) (p : Pool) (c : ℕ) (f : Fact) → is_part_in p (own me c) f ≡ true → group_count me (part_of f) ≡ c
part_count me p c (Part name key m s route bytes) h =
    ap (count_if me) (name_eq_from key (own me c) (and_left (name_eq key (own me c)) (is_in p m s bytes) h)) ∙ ap (λ (b : Bool). if b then c else 0) (eq_same me)
part_count me p c (Key name m s route bytes) h = cc
part_count me p c (Chunk name stream index route bytes) h = cc
part_count me p c (Stored note about route) h = cc
part_count me p c (Open stream source peer size route) h = cc
part_count me p c (Joined note about route) h = cc

pub part_bound : (me : ℕ) (p : Pool) (facts : List Fact) (c : ℕ) → list_any (is_part_in p (own me c)) facts ≡ true → c ≤ last_count me facts
unfolding last_count
part_bound me p [] c h = cc
part_bound me p (f ∷ fs) c h =
    elim (is_part_in p (own me c) f) as (λ b. is_part_in p (own me c) f ≡ b → (b || list_any (is_part_in p (own me c)) fs) ≡ true → c ≤ last_count me (f ∷ fs)) [
      | true ↦ λ e g. let k = part_count me p c f e in omega arith
      | false ↦ λ e g. let r = part_bound me p fs c g in omega arith
    ] refl h

key_known : (handed : List (Name × ℕ)) (p : Pool) (o : Option Fact) → is_free_key_at handed p o ≡ true → is_some o ≡ true
key_known handed p None h = cc
key_known handed p (Some f) h = refl

pub keys_bound : (me : ℕ) (facts : List Fact) (handed : List (Name × ℕ)) (p : Pool) (d : ℕ) → is_waiting me facts handed (Keys p) d ≡ true → d ≤ last_count me facts
keys_bound me facts handed p d h = named_bound me facts d (key_known handed p (fact_at facts (own me d)) (key_free me facts handed p d h))

pub waiting_bound : (me : ℕ) (facts : List Fact) (handed : List (Name × ℕ)) (l : Line) (size last end : ℕ) → size ≡ length facts → last ≡ last_count me facts → end ≡ max size (last + 1) →
    (d : ℕ) → is_waiting me facts handed l d ≡ true → d < end
waiting_bound me facts handed (Stock p) size last end is_size is_last is_end d h =
    let at = waiting_stands me facts handed (Stock p) d h in
    let lt : d < length facts = here (slice_get facts d) refl h in
    omega arith
  where
    here : (o : Option Fact) → slice_get facts d ≡ o → is_free_key_at handed p o ≡ true → d < length facts
    here None e g = cc
    here (Some f) e g = get_within facts d f e
waiting_bound me facts handed (Keys p) size last end is_size is_last is_end d h =
    let le = named_bound me facts d (key_known handed p (fact_at facts (own me d)) (key_free me facts handed p d h)) in
    omega arith
waiting_bound me facts handed (Parts p) size last end is_size is_last is_end d h =
    let le = part_bound me p facts d (and_right (nat_le 1 d) (list_any (is_part_in p (own me d)) facts) (and_left (nat_le 1 d && list_any (is_part_in p (own me d)) facts) (not (was_handed handed (own me d) p.master)) h)) in
    omega arith

-- at a count that the index doesn't have, nothing waits

unlisted : (me : ℕ) (facts : List Fact) (handed : List (Name × ℕ)) (es : List (List ℕ)) (l : Line) (d : ℕ) → AreWaiting me facts handed es (length facts) → has_entry es (line_entry l d) ≡ false →
    is_waiting me facts handed l d ≡ false
unlisted me facts handed es l d waiting miss = not_true (is_waiting me facts handed l d) (λ h.
    let at = waiting_stands me facts handed l d h in
    let hit = waiting.complete l d at.place at.fact (get_within facts at.place at.fact at.there) at.there at.stands at.free
    (ap (λ (fs : List Fact). is_noted me fs l d) (take_all (length facts) facts (omega arith)) ∙ at.noted) in
    let t : true ≡ false = sym hit ∙ miss in
    let u : ⊥ = cc in u)

pub skipped : (me : ℕ) (facts : List Fact) (handed : List (Name × ℕ)) (es : List (List ℕ)) (l : Line) (start count : ℕ) → AreWaiting me facts handed es (length facts) →
    ((group : List ℕ) (from : ℕ) → line_entry l start ≡ entry_at group from → IsNextIn es group from count) → (d : ℕ) → start ≤ d → d < count → is_waiting me facts handed l d ≡ false
skipped me facts handed es l start count waiting next d low high =
    let n = next (front_of l) start (front_is l start) in
    unlisted me facts handed es l d waiting (ap (has_entry es) (front_is l d) ∙ n.first d low high)

pub passed : (me : ℕ) (facts : List Fact) (handed : List (Name × ℕ)) (l : Line) (from start count : ℕ) → ((d : ℕ) → from ≤ d → d < start → is_waiting me facts handed l d ≡ false) →
    ((d : ℕ) → start ≤ d → d < count → is_waiting me facts handed l d ≡ false) → (d : ℕ) → from ≤ d → d < count → is_waiting me facts handed l d ≡ false
passed me facts handed l from start count before between d low high = elim (sides d start) [ inl lt ↦ before d low lt | inr le ↦ between d le high ]

pub passed_one : (me : ℕ) (facts : List Fact) (handed : List (Name × ℕ)) (l : Line) (from count : ℕ) → ((d : ℕ) → from ≤ d → d < count → is_waiting me facts handed l d ≡ false) →
    is_waiting me facts handed l count ≡ false → (d : ℕ) → from ≤ d → d < count + 1 → is_waiting me facts handed l d ≡ false
passed_one me facts handed l from count before miss d low high = elim (below d count high) [
  | inl lt ↦ before d low lt
  | inr e ↦ ap (is_waiting me facts handed l) e ∙ miss
]

-- if nothing waits before the end and nothing from the end on, nothing waits from here on
pub none_before : (me : ℕ) (facts : List Fact) (handed : List (Name × ℕ)) (l : Line) (from end : ℕ) → ((d : ℕ) → is_waiting me facts handed l d ≡ true → d < end) →
    ((d : ℕ) → from ≤ d → d < end → is_waiting me facts handed l d ≡ false) → IsLastWaiting me facts handed l from
none_before me facts handed l from end bound none = record {
  none = λ d low. not_true (is_waiting me facts handed l d) (λ h.
      let t : true ≡ false = sym h ∙ none d low (bound d h) in
      let u : ⊥ = cc in u);
}

pub gone : (me : ℕ) (facts : List Fact) (handed : List (Name × ℕ)) (es : List (List ℕ)) (l : Line) (start end : ℕ) → AreWaiting me facts handed es (length facts) → end < 2 ^ 64 →
    ((group : List ℕ) (from : ℕ) → line_entry l start ≡ entry_at group from → IsLastIn es group from) → (d : ℕ) → start ≤ d → d < end → is_waiting me facts handed l d ≡ false
gone me facts handed es l start end waiting small last d low high =
    unlisted me facts handed es l d waiting (ap (has_entry es) (front_is l d) ∙ last (front_of l) start (front_is l start) d low (omega arith))

pub next_behind : (l : Line) (es : List (List ℕ)) (start count : ℕ) → ((group : List ℕ) (from : ℕ) → line_entry l start ≡ entry_at group from → IsNextIn es group from count) → start ≤ count
next_behind l es start count next = (next (front_of l) start (front_is l start)).behind

pub no_group : (handed : List (Name × ℕ)) (p : Pool) (facts : List Fact) (me c last : ℕ) (o : Option Name) → last ≡ last_count me facts → last < 2 ^ 48 → 1 ≤ c → o ≡ None →
    o ≡ (if nat_le 1 c && nat_lt c (2 ^ 48) then Some (own me c) else None) →
    false ≡ (nat_le 1 c && list_any (is_part_in p (own me c)) facts && not (was_handed handed (own me c) p.master))
no_group handed p facts me c last o last_is small low none is = by (list_any (is_part_in p (own me c)) facts) refl
  where
    by : (b : Bool) → list_any (is_part_in p (own me c)) facts ≡ b → false ≡ (nat_le 1 c && b && not (was_handed handed (own me c) p.master))
    by false e = sym (shut (nat_le 1 c))
      where
        shut : (b : Bool) → (b && false && not (was_handed handed (own me c) p.master)) ≡ false
        shut true = refl
        shut false = refl
    by true e =
        let le = part_bound me p facts c e in
        let test : (nat_le 1 c && nat_lt c (2 ^ 48)) ≡ true = grind (arith, nat_tests) in
        let t : None ≡ Some (own me c) = sym none ∙ is ∙ ap (λ (b : Bool). if b then Some (own me c) else None) test in
        absurd (let u : ⊥ = cc in u)
