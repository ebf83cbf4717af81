-- A manager sees a fact exactly if the table has it and the node knows it.
use Rattle.std.proofs.Common.{◌≡◌, ℕ, ◌≤◌, Bool, true, false, cond, ◌&&◌, ◌||◌, List, [], ◌∷◌, refl, sym, ◌∙◌, ap, subst, arith, Some, None, inl, inr, map}
use Rattle.std.specs.Prelude.{is_some, ◌==◌, if◌then◌else◌, find, filter, count_by}
use Rattle.std.specs.List.{list_any, list_all, cons_option}
use Rattle.qkd_base.specs.Name.{Name, name_eq, has}
use Rattle.net_model.specs.declared.fact.Fact.{Fact}
use Rattle.net_model.specs.Table.{PartOf, part_of, name_of, bytes_of, without_bytes, fact_at, facts_of, is_stored_about, was_handed}
use Rattle.net_model.specs.Site.{Site, outgoing_lanes}
use Rattle.net_model.specs.World.{Network, World, Durable}
use Rattle.net_model.specs.Streams.{is_chunk_of}
use Rattle.net_model.specs.Knowledge.{chunks_known}
use Rattle.net_model.specs.Handings.{KnowsStored}
use Rattle.net_model.specs.Decision.{last_count, count_if, group_count, is_confirmed}
use Rattle.net_model.specs.View.{View, handed_at}
use Rattle.net_model.specs.Needed.{is_needed, masked_fact, masked, view_of, port_at}
use Rattle.law_base.proofs.Base.{name_eq_from, name_eq_same, eq_from, eq_same, and_left, and_right, or_cases, or_left, or_right, not_false, not_both}
use Rattle.law_base.proofs.Tables.{found_name}
use Rattle.law_base.proofs.Masked.{IsBlind, with_other_bytes, masked_same, name_blind, stored_blind, chunk_blind, after, find_masked, masked_found, any_masked, count_masked, last_masked, all_masked}

or_later : (a b : Bool) → (a || b) ≡ true → a ≡ false → b ≡ true
or_later true b h k = cc
or_later false b h k = h

pub found_passes : (p : Fact → Bool) (xs : List Fact) (f : Fact) → find p xs ≡ Some f → p f ≡ true
found_passes p [] f h = cc
found_passes p (x ∷ xs) f h =
    elim (p x) as (λ t. p x ≡ t → cond t (Some x) (find p xs) ≡ Some f → p f ≡ true) [
      | true ↦ λ e y. let is : x ≡ f = cc in ap p (sym is) ∙ e
      | false ↦ λ e y. found_passes p xs f y
    ] refl h

pub some_found : (p q : Fact → Bool) (xs : List Fact) (f : Fact) → find q xs ≡ Some f → p f ≡ true → is_some (find p xs) ≡ true
some_found p q [] f h k = cc
some_found p q (x ∷ xs) f h k =
    elim (p x) as (λ t. p x ≡ t → is_some (cond t (Some x) (find p xs)) ≡ true) [
      | true ↦ λ e. refl
      | false ↦ λ e. elim (q x) as (λ t. cond t (Some x) (find q xs) ≡ Some f → is_some (find p xs) ≡ true) [
        | true ↦ λ y. let is : x ≡ f = cc in let no : p f ≡ false = ap p (sym is) ∙ e in absurd (not_both (p f) k no)
        | false ↦ λ y. some_found p q xs f y k
      ] h
    ] refl

-- Lemmas on the facts of known names.

-- A known fact of the table is among the facts of known names.
listed : (T : List Fact) (ns : List Name) (n : Name) (f : Fact) → fact_at T n ≡ Some f → has ns n ≡ true → fact_at (facts_of T ns) n ≡ Some f
listed T [] n f h k = cc
listed T (m ∷ ns) n f h k =
    elim (fact_at T m) as (λ o. fact_at T m ≡ o → fact_at (cons_option o (facts_of T ns)) n ≡ Some f) [
      | None ↦ λ e. elim (or_cases (name_eq m n) (has ns n) k) [
        | inl is ↦ let same : m ≡ n = name_eq_from m n is in let e2 : fact_at T n ≡ None = ap (fact_at T) (sym same) ∙ e in cc
        | inr later ↦ listed T ns n f h later
      ]
      | Some g ↦ λ e. elim (name_eq (name_of g) n) as (λ t. name_eq (name_of g) n ≡ t → (if t then Some g else fact_at (facts_of T ns) n) ≡ Some f) [
        | true ↦ λ y. let same : m ≡ n = sym (found_name T m g e) ∙ name_eq_from (name_of g) n y in sym e ∙ ap (fact_at T) same ∙ h
        | false ↦ λ y. listed T ns n f h (or_later (name_eq m n) (has ns n) k (ap (λ (x : Name). name_eq x n) (sym (found_name T m g e)) ∙ y))
      ] refl
    ] refl

-- A fact that is found among the facts of known names is known and in the table.
pub record IsListed (T : List Fact) (ns : List Name) (p : Fact → Bool) (f : Fact) : Type 0 where
  pub passes : p f ≡ true
  pub knows : has ns (name_of f) ≡ true
  pub there : fact_at T (name_of f) ≡ Some f

is_listed : (T : List Fact) (ns : List Name) (p : Fact → Bool) (f : Fact) → find p (facts_of T ns) ≡ Some f → IsListed T ns p f
is_listed T [] p f h = cc
is_listed T (x ∷ ns) p f h =
    elim (fact_at T x) as (λ o. fact_at T x ≡ o → find p (cons_option o (facts_of T ns)) ≡ Some f → IsListed T (x ∷ ns) p f) [
      | None ↦ λ e y. let r = is_listed T ns p f y in
          record { passes = r.passes; knows = or_right (name_eq x (name_of f)) (has ns (name_of f)) r.knows; there = r.there }
      | Some g ↦ λ e. elim (p g) as (λ t. p g ≡ t → cond t (Some g) (find p (facts_of T ns)) ≡ Some f → IsListed T (x ∷ ns) p f) [
        | true ↦ λ e2 y.
            let is : g ≡ f = cc in
            let name : name_of f ≡ x = ap name_of (sym is) ∙ found_name T x g e in
            record {
              passes = ap p (sym is) ∙ e2;
              knows = or_left (name_eq x (name_of f)) (has ns (name_of f)) (ap (name_eq x) name ∙ name_eq_same x);
              there = ap (fact_at T) name ∙ e ∙ y;
            }
        | false ↦ λ e2 y. let r = is_listed T ns p f y in
            record { passes = r.passes; knows = or_right (name_eq x (name_of f)) (has ns (name_of f)) r.knows; there = r.there }
      ] refl
    ] refl h

-- What holds of all facts that pass a test holds of each known fact of the table that passes it.
listed_all : (T : List Fact) (ns : List Name) (p q : Fact → Bool) (n : Name) (f : Fact) → list_all q (filter p (facts_of T ns)) ≡ true →
    fact_at T n ≡ Some f → has ns n ≡ true → p f ≡ true → q f ≡ true
listed_all T [] p q n f h e k pf = cc
listed_all T (m ∷ ns) p q n f h e k pf =
    elim (fact_at T m) as (λ o. fact_at T m ≡ o → list_all q (filter p (cons_option o (facts_of T ns))) ≡ true → q f ≡ true) [
      | None ↦ λ e2 y. elim (or_cases (name_eq m n) (has ns n) k) [
        | inl is ↦ let same : m ≡ n = name_eq_from m n is in let e3 : fact_at T n ≡ None = ap (fact_at T) (sym same) ∙ e2 in cc
        | inr later ↦ listed_all T ns p q n f y e later pf
      ]
      | Some g ↦ λ e2. elim (p g) as (λ t. p g ≡ t → list_all q (cond t (g ∷ filter p (facts_of T ns)) (filter p (facts_of T ns))) ≡ true → q f ≡ true) [
        | true ↦ λ e3 y. elim (or_cases (name_eq m n) (has ns n) k) [
          | inl is ↦ let same : m ≡ n = name_eq_from m n is in let e4 : g ≡ f = cc in ap q (sym e4) ∙ and_left (q g) (list_all q (filter p (facts_of T ns))) y
          | inr later ↦ listed_all T ns p q n f (and_right (q g) (list_all q (filter p (facts_of T ns))) y) e later pf
        ]
        | false ↦ λ e3 y. elim (or_cases (name_eq m n) (has ns n) k) [
          | inl is ↦ let same : m ≡ n = name_eq_from m n is in let e4 : g ≡ f = cc in let e5 : p f ≡ false = ap p (sym e4) ∙ e3 in cc
          | inr later ↦ listed_all T ns p q n f y e later pf
        ]
      ] refl
    ] refl h

-- A Stored note among the facts of known names is known to the node.
listed_stored : (T : List Fact) (ns : List Name) (n : Name) → list_any (is_stored_about n) (facts_of T ns) ≡ true → KnowsStored T ns n
listed_stored T [] n h = cc
listed_stored T (x ∷ ns) n h =
    elim (fact_at T x) as (λ o. fact_at T x ≡ o → list_any (is_stored_about n) (cons_option o (facts_of T ns)) ≡ true → KnowsStored T (x ∷ ns) n) [
      | None ↦ λ e y. let r = listed_stored T ns n y in
          record { note = r.note; fact = r.fact; there = r.there; about = r.about; knows = or_right (name_eq x r.note) (has ns r.note) r.knows }
      | Some g ↦ λ e y. elim (or_cases (is_stored_about n g) (list_any (is_stored_about n) (facts_of T ns)) y) [
        | inl is ↦ record { note = x; fact = g; there = e; about = is; knows = or_left (name_eq x x) (has ns x) (name_eq_same x) }
        | inr later ↦ let r = listed_stored T ns n later in
            record { note = r.note; fact = r.fact; there = r.there; about = r.about; knows = or_right (name_eq x r.note) (has ns r.note) r.knows }
      ]
    ] refl h

-- No count of this node's names is above the greatest one.

count_listed : (me : ℕ) (fs : List Fact) (n : Name) (f : Fact) → fact_at fs n ≡ Some f → n.node ≡ me → n.count ≤ last_count me fs
unfolding last_count
count_listed me [] n f h at = cc
count_listed me (g ∷ fs) n f h at =
    elim (name_eq (name_of g) n) as (λ t. name_eq (name_of g) n ≡ t → (if t then Some g else fact_at fs n) ≡ Some f → n.count ≤ last_count me (g ∷ fs)) [
      | true ↦ λ y x. let is : name_of g ≡ n = name_eq_from (name_of g) n y in
          let e : count_if me (name_of g) ≡ n.count = ap (count_if me) is ∙ ap (λ (t : Bool). if t then n.count else 0) (ap (λ (u : ℕ). u == me) at ∙ eq_same me) in
          omega arith
      | false ↦ λ y x. let r = count_listed me fs n f x at in omega arith
    ] refl h

group_listed : (me : ℕ) (fs : List Fact) (n : Name) (f : Fact) (p : PartOf) → fact_at fs n ≡ Some f → part_of f ≡ Some p → p.key.node ≡ me → p.key.count ≤ last_count me fs
unfolding last_count
group_listed me [] n f p h is at = cc
group_listed me (g ∷ fs) n f p h is at =
    elim (name_eq (name_of g) n) as (λ t. (if t then Some g else fact_at fs n) ≡ Some f → p.key.count ≤ last_count me (g ∷ fs)) [
      | true ↦ λ x. let same : g ≡ f = cc in
          let e : group_count me (part_of g) ≡ p.key.count = ap (λ (y : Fact). group_count me (part_of y)) same ∙ ap (group_count me) is ∙
          ap (λ (t : Bool). if t then p.key.count else 0) (ap (λ (u : ℕ). u == me) at ∙ eq_same me) in
          omega arith
      | false ↦ λ x. let r = group_listed me fs n f p x is at in omega arith
    ] h

-- Lemmas on the handings to applications whose home is this node.
handed_here : (s : Site) (v : ℕ) (hs : List (Name × ℕ)) (n : Name) (sae : ℕ) → s.home sae ≡ v → was_handed (handed_at s v hs) n sae ≡ was_handed hs n sae
handed_here s v [] n sae at = refl
handed_here s v (x ∷ hs) n sae at =
    elim (s.home x.1 == v) as (λ t. (s.home x.1 == v) ≡ t → was_handed (cond t (x ∷ handed_at s v hs) (handed_at s v hs)) n sae ≡ was_handed (x ∷ hs) n sae) [
      | true ↦ λ e. ap (λ (b : Bool). (name_eq x.0 n && (x.1 == sae)) || b) (handed_here s v hs n sae at)
      | false ↦ λ e. handed_here s v hs n sae at ∙
          ap (λ (b : Bool). b || was_handed hs n sae) (sym (not_false (name_eq x.0 n && (x.1 == sae)) (λ y.
          let is : x.1 ≡ sae = eq_from x.1 sae (and_right (name_eq x.0 n) (x.1 == sae) y) in
          let home : (s.home x.1 == v) ≡ true = ap (λ (u : ℕ). s.home u == v) is ∙ ap (λ (u : ℕ). u == v) at ∙ eq_same v in cc)))
    ] refl

-- A manager's view of a durable state: the known facts, without the bytes that it doesn't need.

pub record Sees (s : Site) (d : Durable) (see bare : View) : Type 0 where
  pub facts : see.facts ≡ map (masked_fact bare) (facts_of d.facts (d.known see.me))
  pub handed : see.handed ≡ handed_at s see.me d.handed
  pub acked : see.acked ≡ d.acked see.me
  pub bare_me : bare.me ≡ see.me
  pub bare_facts : bare.facts ≡ facts_of d.facts (d.known see.me)
  pub bare_acked : bare.acked ≡ see.acked
  pub bare_handed : bare.handed ≡ see.handed

-- A fact that is seen is known and in the table. It has its bytes, or zeros where they aren't needed.
pub record IsSeen (d : Durable) (v : ℕ) (bare : View) (g : Fact) : Type 0 where
  pub fact : Fact
  pub there : fact_at d.facts (name_of g) ≡ Some fact
  pub knows : has (d.known v) (name_of g) ≡ true
  pub is : g ≡ masked_fact bare fact
  pub shape : fact ≡ with_other_bytes g (bytes_of fact)

module _ (s : Site) (d : Durable) (see bare : View) (h : Sees s d see bare) where
  pub seen_found : (p : Fact → Bool) (g : Fact) → find p see.facts ≡ Some g → (p g ≡ true) × IsSeen d see.me bare g
  seen_found p g e =
      let r = find_masked bare (facts_of d.facts (d.known see.me)) p g (sym (ap (find p) h.facts) ∙ e) in
      let x = is_listed d.facts (d.known see.me) (λ f. p (masked_fact bare f)) r.0 r.2 in
      let name : name_of g ≡ name_of r.0 = ap name_of r.1 ∙ masked_same name_of name_blind bare r.0 in (
        ap p r.1 ∙ x.passes,
        record {
          fact = r.0;
          there = ap (fact_at d.facts) name ∙ x.there;
          knows = ap (has (d.known see.me)) name ∙ x.knows;
          is = r.1;
          shape = subst (λ (y : Fact). r.0 ≡ with_other_bytes y (bytes_of r.0)) (sym r.1) (after bare r.0);
        },
      )

  pub seen_at : (n : Name) (g : Fact) → fact_at see.facts n ≡ Some g → (name_of g ≡ n) × IsSeen d see.me bare g
  seen_at n g e = (found_name see.facts n g e, (seen_found (λ f. name_eq (name_of f) n) g e).1)

  -- A known fact of the table is seen.
  pub seen_there : (n : Name) (f : Fact) → fact_at d.facts n ≡ Some f → has (d.known see.me) n ≡ true → fact_at see.facts n ≡ Some (masked_fact bare f)
  seen_there n f e k =
      ap (λ (fs : List Fact). fact_at fs n) h.facts ∙
      masked_found bare (facts_of d.facts (d.known see.me)) (λ x. name_eq (name_of x) n) (λ x. ap (λ (m : Name). name_eq m n) (name_blind x)) f (listed d.facts (d.known see.me) n f e k)

  -- A known fact of the table is in the unmasked view too.
  pub bare_there : (n : Name) (f : Fact) → fact_at d.facts n ≡ Some f → has (d.known see.me) n ≡ true → fact_at bare.facts n ≡ Some f
  bare_there n f e k = ap (λ (fs : List Fact). fact_at fs n) h.bare_facts ∙ listed d.facts (d.known see.me) n f e k

  -- If a known fact passes a test that doesn't depend on bytes, the search among the seen facts succeeds.
  pub seen_some : (p : Fact → Bool) → IsBlind p → (f : Fact) → fact_at d.facts (name_of f) ≡ Some f → has (d.known see.me) (name_of f) ≡ true → p f ≡ true →
      is_some (find p see.facts) ≡ true
  seen_some p blind f e k passes =
      some_found p (λ x. name_eq (name_of x) (name_of f)) see.facts (masked_fact bare f) (seen_there (name_of f) f e k) (masked_same p blind bare f ∙ passes)

  pub seen_all : (p q : Fact → Bool) (n : Name) (f : Fact) → list_all q (filter p see.facts) ≡ true → fact_at d.facts n ≡ Some f → has (d.known see.me) n ≡ true →
      p (masked_fact bare f) ≡ true → q (masked_fact bare f) ≡ true
  seen_all p q n f all e k passes =
      listed_all d.facts (d.known see.me) (λ x. p (masked_fact bare x)) (λ x. q (masked_fact bare x)) n f
      (sym (all_masked bare (facts_of d.facts (d.known see.me)) p q) ∙ sym (ap (λ (fs : List Fact). list_all q (filter p fs)) h.facts) ∙ all) e k passes

  pub seen_stored : (n : Name) → is_confirmed see n ≡ true → KnowsStored d.facts (d.known see.me) n
  seen_stored n e =
      listed_stored d.facts (d.known see.me) n
      (sym (any_masked bare (facts_of d.facts (d.known see.me)) (is_stored_about n) (stored_blind n)) ∙ sym (ap (list_any (is_stored_about n)) h.facts) ∙ e)

  last_seen : last_count see.me see.facts ≡ last_count see.me (facts_of d.facts (d.known see.me))
  last_seen = ap (last_count see.me) h.facts ∙ last_masked bare (facts_of d.facts (d.known see.me)) see.me

  pub count_seen : (n : Name) (f : Fact) → fact_at d.facts n ≡ Some f → has (d.known see.me) n ≡ true → n.node ≡ see.me → n.count ≤ last_count see.me see.facts
  count_seen n f e k at =
      let r = count_listed see.me (facts_of d.facts (d.known see.me)) n f (listed d.facts (d.known see.me) n f e k) at in omega (arith, r, last_seen)

  pub group_seen : (n : Name) (f : Fact) (p : PartOf) → fact_at d.facts n ≡ Some f → has (d.known see.me) n ≡ true → part_of f ≡ Some p → p.key.node ≡ see.me →
      p.key.count ≤ last_count see.me see.facts
  group_seen n f p e k is at =
      let r = group_listed see.me (facts_of d.facts (d.known see.me)) n f p (listed d.facts (d.known see.me) n f e k) is at in omega (arith, r, last_seen)

  pub handed_seen : (n : Name) (sae : ℕ) → s.home sae ≡ see.me → was_handed see.handed n sae ≡ was_handed d.handed n sae
  handed_seen n sae at = ap (λ (hs : List (Name × ℕ)). was_handed hs n sae) h.handed ∙ handed_here s see.me d.handed n sae at

  pub chunks_seen : (stream : Name) → count_by (is_chunk_of stream) see.facts ≡ chunks_known d.facts (d.known see.me) stream
  chunks_seen stream =
      ap (count_by (is_chunk_of stream)) h.facts ∙ count_masked bare (facts_of d.facts (d.known see.me)) (is_chunk_of stream) (chunk_blind stream)

  -- A fact whose bytes are needed is seen with its bytes.
  pub seen_needed : (g : Fact) (x : IsSeen d see.me bare g) → is_needed bare x.fact ≡ true → g ≡ x.fact
  seen_needed g x e = x.is ∙ ap (λ (t : Bool). if t then x.fact else without_bytes x.fact) e

-- The unmasked view of a world.

abbrev pub bare_view : Network → World → ℕ → View
bare_view net w v =
    record {
      me = v;
      facts = facts_of w.durable.facts (w.durable.known v);
      acked = w.durable.acked v;
      handed = handed_at net.site v w.durable.handed;
      closed = w.durable.closed v;
      ports = map (port_at net w) (outgoing_lanes net.site v);
      volatile = w.volatile v;
    }

pub view_sees : (net : Network) (w : World) (v : ℕ) → Sees net.site w.durable (view_of net w v) (bare_view net w v)
unfolding view_of masked
view_sees net w v = record { facts = refl; handed = refl; acked = refl; bare_me = refl; bare_facts = refl; bare_acked = refl; bare_handed = refl }

pub view_me : (net : Network) (w : World) (v : ℕ) → (view_of net w v).me ≡ v
unfolding view_of masked
view_me net w v = refl

pub view_volatile : (net : Network) (w : World) (v : ℕ) → (view_of net w v).volatile ≡ w.volatile v
unfolding view_of masked
view_volatile net w v = refl
