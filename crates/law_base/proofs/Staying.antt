-- A needed fact stays needed until a later record touches it.
use Rattle.std.proofs.Common.{◌≡◌, ℕ, zero, suc, Bool, true, false, not, ◌&&◌, ◌||◌, List, [], ◌∷◌, ◌++◌, refl, sym, ◌∙◌, ap, subst, Option, Some, None, inl, inr, map}
use Rattle.std.specs.Prelude.{if◌then◌else◌, ◌==◌, is_some, slice_get}
use Rattle.std.specs.List.{list_any}
use Rattle.std.proofs.lemmas.List.Elements.{filter-append}
use Rattle.std.proofs.lemmas.List.Folds.{list_any-append}
use Rattle.qkd_base.specs.Name.{Name, name_eq, has}
use Rattle.qkd_base.specs.Route.{next_after}
use Rattle.net_model.specs.declared.fact.Fact.{Fact}
use Rattle.net_model.specs.declared.fact.Fact.TheVariants.{Key, Chunk, Stored, Open, Joined, Part}
use Rattle.net_model.specs.Table.{PartOf, part_of, parts_of, is_part_of, name_of, route_of, origin, target, fact_at, was_handed, stream_end, sae_at, without_bytes}
use Rattle.net_model.specs.View.{View}
use Rattle.net_model.specs.Needed.{is_owed, has_it, end_needs, is_needed, masked_fact, masked}
use Rattle.net_model.specs.Fold.{is_stream_of}
use Rattle.law_base.proofs.Base.{and_left, and_right, and_both, or_first, or_second, or_cases, or_left, or_right, or_both, not_both, was_not}
use Rattle.law_base.specs.Touched.{IsLater, is_given, is_touched_part, is_opened, is_touched}
use Rattle.law_base.proofs.Blind.{knowing, needed_alike}

module _ (me : ℕ) (facts more_facts : List Fact) (acked more_acked : List Name) (handed more_handed : List (Name × ℕ)) where
  abbrev before : View
  before = knowing me facts acked handed

  abbrev after : View
  after = knowing me (facts ++ more_facts) (acked ++ more_acked) (handed ++ more_handed)

  -- A fact that is owed stays owed until it is acknowledged.
  owed_stays : (f : Fact) → has more_acked (name_of f) ≡ false → is_owed before f ≡ true → is_owed after f ≡ true
  owed_stays f free h =
      and_both (is_some (next_after (route_of f) me)) (not (has (acked ++ more_acked) (name_of f)))
      (and_left (is_some (next_after (route_of f) me)) (not (has acked (name_of f))) h)
      (ap not (list_any-append (λ (m : Name). name_eq m (name_of f)) acked more_acked
      ∙ or_both (has acked (name_of f)) (has more_acked (name_of f)) (was_not (has acked (name_of f)) (and_right (is_some (next_after (route_of f) me)) (not (has acked (name_of f))) h)) free))

  owed_any : (fs : List Fact) → list_any (λ g. has more_acked (name_of g)) fs ≡ false → list_any (is_owed before) fs ≡ true → list_any (is_owed after) fs ≡ true
  owed_any [] free h = h
  owed_any (f ∷ fs) free h = elim (or_cases (is_owed before f) (list_any (is_owed before) fs) h) [
    | inl one ↦ or_left (is_owed after f) (list_any (is_owed after) fs) (owed_stays f (or_first (has more_acked (name_of f)) (list_any (λ g. has more_acked (name_of g)) fs) free) one)
    | inr rest ↦ or_right (is_owed after f) (list_any (is_owed after) fs) (owed_any fs (or_second (has more_acked (name_of f)) (list_any (λ g. has more_acked (name_of g)) fs) free) rest)
  ]

  owed_parts : (key : Name) → list_any (λ g. has more_acked (name_of g)) (parts_of facts key) ≡ false → list_any (is_owed before) (parts_of facts key) ≡ true →
      list_any (is_owed after) (parts_of (facts ++ more_facts) key) ≡ true
  owed_parts key free h =
      ap (list_any (is_owed after)) (filter-append (is_part_of key) facts more_facts)
      ∙ list_any-append (is_owed after) (parts_of facts key) (parts_of more_facts key)
      ∙ or_left (list_any (is_owed after) (parts_of facts key)) (list_any (is_owed after) (parts_of more_facts key)) (owed_any (parts_of facts key) free h)

  -- A fact that isn't handed out stays so without a new handing.

  none_given : (hs : List (Name × ℕ)) (n : Name) (sae : ℕ) → is_given hs n ≡ false → was_handed hs n sae ≡ false
  none_given [] n sae h = refl
  none_given (x ∷ hs) n sae h =
      or_both (name_eq x.0 n && (x.1 == sae)) (was_handed hs n sae)
      (ap (λ (t : Bool). t && (x.1 == sae)) (or_first (name_eq x.0 n) (is_given hs n) h)) (none_given hs n sae (or_second (name_eq x.0 n) (is_given hs n) h))

  unhanded_stays : (n : Name) (sae : ℕ) → is_given more_handed n ≡ false → not (was_handed handed n sae) ≡ true → not (was_handed (handed ++ more_handed) n sae) ≡ true
  unhanded_stays n sae free h =
      ap not (list_any-append (λ (x : Name × ℕ). name_eq x.0 n && (x.1 == sae)) handed more_handed
      ∙ or_both (was_handed handed n sae) (was_handed more_handed n sae) (was_not (was_handed handed n sae) h) (none_given more_handed n sae free))

  -- The applications at the ends of a stream stay the same.

  no_end : (b : Bool) (n : Name) (o : Option Fact) → ((f : Fact) → o ≡ Some f → is_stream_of n f ≡ false) → ((f : Fact) → o ≡ Some f → name_eq (name_of f) n ≡ true) → stream_end b o ≡ None
  no_end b n None other named = refl
  no_end b n (Some (Key name master slave route bytes)) other named = refl
  no_end b n (Some (Chunk name stream index route bytes)) other named = refl
  no_end b n (Some (Stored note about route)) other named = refl
  no_end b n (Some (Open stream source peer size route)) other named = absurd (not_both (name_eq stream n) (named (Open stream source peer size route) refl) (other (Open stream source peer size route) refl))
  no_end b n (Some (Joined note about route)) other named = refl
  no_end b n (Some (Part name key master slave route bytes)) other named = refl

  found_none : (n : Name) (fs : List Fact) (f : Fact) → list_any (is_stream_of n) fs ≡ false → fact_at fs n ≡ Some f → is_stream_of n f ≡ false
  found_none n [] f h e = cc
  found_none n (x ∷ fs) f h e =
      elim (name_eq (name_of x) n) as (λ t. (if t then Some x else fact_at fs n) ≡ Some f → is_stream_of n f ≡ false) [
        | true ↦ λ k. let is : x ≡ f = cc in ap (is_stream_of n) (sym is) ∙ or_first (is_stream_of n x) (list_any (is_stream_of n) fs) h
        | false ↦ λ k. found_none n fs f (or_second (is_stream_of n x) (list_any (is_stream_of n) fs) h) k
      ] e

  found_named : (n : Name) (fs : List Fact) (f : Fact) → fact_at fs n ≡ Some f → name_eq (name_of f) n ≡ true
  found_named n [] f e = cc
  found_named n (x ∷ fs) f e =
      elim (name_eq (name_of x) n) as (λ t. name_eq (name_of x) n ≡ t → (if t then Some x else fact_at fs n) ≡ Some f → name_eq (name_of f) n ≡ true) [
        | true ↦ λ is k. let same : x ≡ f = cc in ap (λ (y : Fact). name_eq (name_of y) n) (sym same) ∙ is
        | false ↦ λ is k. found_named n fs f k
      ] refl e

  stream_stays : (b : Bool) (n : Name) (fs : List Fact) → list_any (is_stream_of n) more_facts ≡ false → stream_end b (fact_at (fs ++ more_facts) n) ≡ stream_end b (fact_at fs n)
  stream_stays b n [] free = no_end b n (fact_at more_facts n) (λ f e. found_none n more_facts f free e) (λ f e. found_named n more_facts f e)
  stream_stays b n (x ∷ fs) free =
      elim (name_eq (name_of x) n) as (λ t. stream_end b (if t then Some x else fact_at (fs ++ more_facts) n) ≡ stream_end b (if t then Some x else fact_at fs n)) [
        | true ↦ refl
        | false ↦ stream_stays b n fs free
      ]

  sae_stays : (b : Bool) (f : Fact) → is_opened more_facts f ≡ false → sae_at (facts ++ more_facts) b f ≡ sae_at facts b f
  sae_stays b (Key name master slave route bytes) free = refl
  sae_stays b (Chunk name stream index route bytes) free = stream_stays b stream facts free
  sae_stays b (Stored note about route) free = refl
  sae_stays b (Open stream source peer size route) free = refl
  sae_stays b (Joined note about route) free = refl
  sae_stays b (Part name key master slave route bytes) free = refl

  lacks : (n : Name) (o : Option ℕ) → is_given more_handed n ≡ false → not (has_it before n o) ≡ true → not (has_it after n o) ≡ true
  lacks n None free h = refl
  lacks n (Some sae) free h = unhanded_stays n sae free h

  end_stays : (b : Bool) (f : Fact) (o : Option PartOf) → is_given more_handed (name_of f) ≡ false → is_touched_part facts more_acked more_handed o ≡ false → is_opened more_facts f ≡ false →
      end_needs before b f o ≡ true → end_needs after b f o ≡ true
  end_stays b f None given part opened h =
      ap (λ (s : Option ℕ). not (has_it after (name_of f) s)) (sae_stays b f opened) ∙ lacks (name_of f) (sae_at facts b f) given h
  end_stays true f (Some p) given part opened h =
      let key = or_first (is_given more_handed p.key) (list_any (λ g. has more_acked (name_of g)) (parts_of facts p.key)) part in
      let parts = or_second (is_given more_handed p.key) (list_any (λ g. has more_acked (name_of g)) (parts_of facts p.key)) part in
      elim (or_cases (not (was_handed handed p.key p.master)) (list_any (is_owed before) (parts_of facts p.key)) h) [
        | inl lacks' ↦ or_left (not (was_handed (handed ++ more_handed) p.key p.master)) (list_any (is_owed after) (parts_of (facts ++ more_facts) p.key)) (unhanded_stays p.key p.master key lacks')
        | inr owed ↦ or_right (not (was_handed (handed ++ more_handed) p.key p.master)) (list_any (is_owed after) (parts_of (facts ++ more_facts) p.key)) (owed_parts p.key parts owed)
      ]
  end_stays false f (Some p) given part opened h =
      unhanded_stays p.key p.slave (or_first (is_given more_handed p.key) (list_any (λ g. has more_acked (name_of g)) (parts_of facts p.key)) part) h

  needed_known : (f : Fact) → is_touched facts more_facts more_acked more_handed f ≡ false → is_needed before f ≡ true → is_needed after f ≡ true
  unfolding is_needed
  needed_known f free h =
      let told = has more_acked (name_of f) in
      let given = is_given more_handed (name_of f) in
      let part = is_touched_part facts more_acked more_handed (part_of f) in
      let opened = is_opened more_facts f in
      let front = or_first (told || given || part) opened free in
      let first = or_first (told || given) part front in
      elim (or_cases (is_owed before f) (if origin f == me then end_needs before true f (part_of f) else if target f == me then end_needs before false f (part_of f) else false) h) [
        | inl owed ↦ or_left (is_owed after f) (if origin f == me then end_needs after true f (part_of f) else if target f == me then end_needs after false f (part_of f) else false)
            (owed_stays f (or_first told given first) owed)
        | inr end ↦ or_right (is_owed after f) (if origin f == me then end_needs after true f (part_of f) else if target f == me then end_needs after false f (part_of f) else false)
            (pick (or_second told given first) (or_second (told || given) part front) (or_second (told || given || part) opened free) end)
      ]
    where
      pick : is_given more_handed (name_of f) ≡ false → is_touched_part facts more_acked more_handed (part_of f) ≡ false → is_opened more_facts f ≡ false →
          (if origin f == me then end_needs before true f (part_of f) else if target f == me then end_needs before false f (part_of f) else false) ≡ true →
          (if origin f == me then end_needs after true f (part_of f) else if target f == me then end_needs after false f (part_of f) else false) ≡ true
      pick given part opened k =
          elim (origin f == me) as (λ t. (if t then end_needs before true f (part_of f) else if target f == me then end_needs before false f (part_of f) else false) ≡ true →
          (if t then end_needs after true f (part_of f) else if target f == me then end_needs after false f (part_of f) else false) ≡ true) [
            | true ↦ λ x. end_stays true f (part_of f) given part opened x
            | false ↦ λ x. elim (target f == me) as (λ t. (if t then end_needs before false f (part_of f) else false) ≡ true → (if t then end_needs after false f (part_of f) else false) ≡ true) [
              | true ↦ λ y. end_stays false f (part_of f) given part opened y
              | false ↦ λ y. y
            ] x
          ] k

pub needed_stays : (before after : View) (facts : List Fact) (acked : List Name) (handed : List (Name × ℕ)) (f : Fact) → IsLater before after facts acked handed →
    is_touched before.facts facts acked handed f ≡ false → is_needed before f ≡ true → is_needed after f ≡ true
needed_stays before after facts acked handed f later free h =
    needed_alike after (knowing before.me (before.facts ++ facts) (before.acked ++ acked) (before.handed ++ handed)) f
    (record { me = later.me; acked = later.acked_are; handed = later.handed_are; facts = ap (map without_bytes) later.facts_are })
    ∙ needed_known before.me before.facts facts before.acked acked before.handed handed f free
    (needed_alike (knowing before.me before.facts before.acked before.handed) before f (record { me = refl; acked = refl; handed = refl; facts = refl }) ∙ h)

-- A fact that no record touches keeps its masked form.

at_mapped : (p : Fact → Fact) (fs : List Fact) (i : ℕ) (f : Fact) → map p fs ≡ fs → slice_get fs i ≡ Some f → p f ≡ f
at_mapped p [] i f same at = cc
at_mapped p (x ∷ fs) zero f same at = let head : p x ≡ x = cc in let is : x ≡ f = cc in subst (λ (y : Fact). p y ≡ y) is head
at_mapped p (x ∷ fs) (suc i) f same at = let tail : map p fs ≡ fs = cc in at_mapped p fs i f tail at

pub untouched_masked : (before after : View) (facts : List Fact) (acked : List Name) (handed : List (Name × ℕ)) (place : ℕ) (f : Fact) → masked before ≡ before →
    IsLater before after facts acked handed → slice_get before.facts place ≡ Some f → is_touched before.facts facts acked handed f ≡ false → masked_fact after f ≡ f
unfolding masked
untouched_masked before after facts acked handed place f same later at free =
    by (is_needed before f) refl
  where
    by : (t : Bool) → is_needed before f ≡ t → masked_fact after f ≡ f
    by true e = ap (λ (t : Bool). if t then f else without_bytes f) (needed_stays before after facts acked handed f later free e)
    by false e =
        let zeros : without_bytes f ≡ f =
        sym (ap (λ (t : Bool). if t then f else without_bytes f) e) ∙ at_mapped (masked_fact before) before.facts place f (ap (λ (v : View). v.facts) same) at in
        elim (is_needed after f) as (λ t. (if t then f else without_bytes f) ≡ f) [ true ↦ refl | false ↦ zeros ]
