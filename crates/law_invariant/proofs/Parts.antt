-- The parts of one new group key.
use Rattle.std.proofs.Common.{◌≡◌, ◌≢◌, ℕ, suc, ◌+◌, ◌<◌, ◌≤◌, true, false, List, [], ◌∷◌, length, refl, sym, ◌∙◌, ap, subst, arith, Option, Some, None, inl, inr}
use Rattle.std.specs.List.{list_all}
use Rattle.qkd_base.specs.Name.{Name, IsName}
use Rattle.qkd_base.specs.declared.key_name.NameKind.TheVariants.{Key as KeyKind}
use Rattle.net_model.specs.declared.fact.Fact.{Fact}
use Rattle.net_model.specs.declared.fact.Fact.TheVariants.{Part}
use Rattle.net_model.specs.declared.record.Record.TheVariants.{Learned}
use Rattle.net_model.specs.Facts.{IsSize}
use Rattle.net_model.specs.Ranges.{IsOctets}
use Rattle.net_model.specs.Table.{PartOf, part_of, fact_at, learned, was_handed}
use Rattle.net_model.specs.Site.{Site}
use Rattle.net_model.specs.World.{Durable}
use Rattle.net_model.specs.Records.{apply_record, replay}
use Rattle.net_model.specs.Doubt.{MayReplay, IsPartAmong}
use Rattle.net_model.specs.Decision.{last_count, fresh_name}
use Rattle.net_model.specs.Groups.{new_parts}
use Rattle.net_model.specs.Premises.{IsSite, IsAllowed}
use Rattle.net_model.specs.View.{View}
use Rattle.net_model.specs.Handle.{is_numbered}
use Rattle.law_base.proofs.Base.{and_left, and_right}
use Rattle.law_base.proofs.Tables.{is_some_of_none, learned_cases}
use Rattle.law_base.specs.Shown.{IsRouteBetween}
use Rattle.law_invariant.proofs.Made.{IsBelow, below_more, made_may}
use Rattle.law_invariant.proofs.Only.{fresh_is}

-- Each slave is allowed and has a route.
abbrev pub AllRoutes : Site → ℕ → ℕ → List (ℕ × List ℕ) → Type 0
AllRoutes s me m [] = Unit {0}
AllRoutes s me m (x ∷ xs) = (s.allowed m x.0 ≡ true) × IsRouteBetween me (s.home x.0) x.1 × AllRoutes s me m xs

-- The slaves are in rising order from a number on.
abbrev pub Ascends : ℕ → List (ℕ × List ℕ) → Type 0
Ascends from [] = Unit {0}
Ascends from (x ∷ xs) = (from ≤ x.0) × Ascends (x.0 + 1) xs

-- The part is an earlier one of the same key: it has the key's bytes and master, and a slave below the number.
pub record IsEarlier (bytes : List ℕ) (m bound : ℕ) (q : PartOf) : Type 0 where
  pub bytes' : q.bytes ≡ bytes
  pub master : q.master ≡ m
  pub slave : q.slave < bound

-- A group key that is being made: its name is new, and the parts so far agree.
pub record IsBegun (s : Site) (d : Durable) (v : ℕ) (key : Name) (m bound : ℕ) (bytes : List ℕ) : Type 0 where
  pub free : fact_at d.facts key ≡ None
  pub earlier : (n : Name) (g : Fact) (q : PartOf) → n.node ≡ v → fact_at d.facts n ≡ Some g → part_of g ≡ Some q → q.key ≡ key → IsEarlier bytes m bound q
  pub unhanded : (sae : ℕ) → s.home sae ≡ v → was_handed d.handed key sae ≡ false

abbrev key_or : Name → Option PartOf → Name
key_or n None = n
key_or n (Some p) = p.key

part_among : (s : Site) (d : Durable) (see : View) (key name : Name) (m bound slave : ℕ) (nodes bytes : List ℕ) (p : PartOf) → key.node ≡ see.me → IsName key → key ≢ name →
    bound ≤ slave → IsBegun s d see.me key m bound bytes → part_of (Part name key m slave nodes bytes) ≡ Some p → IsPartAmong d.facts see.me (Part name key m slave nodes bytes) p
part_among s d see key name m bound slave nodes bytes p node named apart le begun is =
    subst (λ (x : PartOf). IsPartAmong d.facts see.me (Part name key m slave nodes bytes) x) (some_same (record { key = key; master = m; slave = slave; bytes = bytes }) p is)
    (record {
      mine = node;
      name = named;
      free = is_some_of_none (fact_at d.facts key) begun.free;
      apart = apart;
      bytes = λ n g q at there part k. (begun.earlier n g q at there part k).bytes';
      master = λ n g q at there part k. (begun.earlier n g q at there part k).master;
      slave = λ n g q at there part k same. let x = (begun.earlier n g q at there part k).slave in absurd (omega arith);
    })
  where
    some_same : (a b : PartOf) → Some a ≡ Some b → a ≡ b
    some_same a b e = cc

begun_more : (s : Site) (d : Durable) (v : ℕ) (key name : Name) (m bound slave : ℕ) (nodes bytes : List ℕ) → key ≢ name → bound ≤ slave → IsBegun s d v key m bound bytes →
    IsBegun s (apply_record s v (Learned (Part name key m slave nodes bytes)) d) v key m (slave + 1) bytes
unfolding apply_record
begun_more s d v key name m bound slave nodes bytes apart le begun =
    record {
      free = none (fact_at (learned d.facts f) key) refl;
      earlier = λ n g q at there part k. elim (learned_cases d.facts f n g there) [
        | inl old ↦ let x = begun.earlier n g q at old part k in record { bytes' = x.bytes'; master = x.master; slave = omega (arith, x.slave, le) }
        | inr (is, same) ↦
            let e : Some (record { key = key; master = m; slave = slave; bytes = bytes }) ≡ Some q = sym (ap part_of same) ∙ part in
            subst (IsEarlier bytes m (slave + 1)) (some_same (record { key = key; master = m; slave = slave; bytes = bytes }) q e)
            (record { bytes' = refl; master = refl; slave = omega arith })
      ];
      unhanded = begun.unhanded;
    }
  where
    f : Fact
    f = Part name key m slave nodes bytes

    some_same : (a b : PartOf) → Some a ≡ Some b → a ≡ b
    some_same a b e = cc

    two : (g : Fact) → fact_at d.facts key ≡ Some g → fact_at d.facts key ≡ None → ⊥
    two g a b = let x : Some g ≡ None = sym a ∙ b in cc

    none : (o : Option Fact) → fact_at (learned d.facts f) key ≡ o → fact_at (learned d.facts f) key ≡ None
    none None e = e
    none (Some g) e = elim (learned_cases d.facts f key g e) [
      | inl old ↦ absurd (two g old begun.free)
      | inr (is, same) ↦ absurd (apart is)
    ]

pub new_parts_may : (s : Site) (d : Durable) (see : View) (key : Name) (m bound : ℕ) (routes : List (ℕ × List ℕ)) (bytes : List ℕ) (more : ℕ) → IsSite s → see.me < 16 →
    s.home m ≡ see.me → key.node ≡ see.me → key.kind ≡ KeyKind → IsName key → key.count ≤ last_count see.me see.facts + more → IsSize (length bytes) → IsOctets bytes →
    AllRoutes s see.me m routes → Ascends bound routes → IsBegun s d see.me key m bound bytes → IsBelow d see.me (last_count see.me see.facts + more) →
    list_all is_numbered (new_parts see key m routes bytes more) ≡ true → MayReplay s d see.me (new_parts see key m routes bytes more)
new_parts_may s d see key m bound [] bytes more site low home node kind named le big small routes up begun b numbered = tt
new_parts_may s d see key m bound (x ∷ xs) bytes more site low home node kind named le big small routes up begun b numbered =
    let name : Name = fresh_name see KeyKind more in
    let f : Fact = Part name key m x.0 x.1 bytes in
    let d' : Durable = apply_record s see.me (Learned f) d in
    let c : ℕ = last_count see.me see.facts + more in
    let next : (fresh_name see KeyKind more).count ≡ c + 1 = omega arith in
    let above : c < (fresh_name see KeyKind more).count = omega arith in
    let again : c + 1 ≡ last_count see.me see.facts + (more + 1) = omega arith in
    let apart : key ≢ name = λ e. let y = ap (λ (n : Name). n.count) e in absurd (omega arith) in
    let may : IsAllowed s m x.0 = site.pairs m x.0 routes.0 in
    let count_ok = and_left (is_numbered (Learned f)) (list_all is_numbered (new_parts see key m xs bytes (more + 1))) numbered in
    let rest = and_right (is_numbered (Learned f)) (list_all is_numbered (new_parts see key m xs bytes (more + 1))) numbered in
    let key_of : (p : PartOf) → part_of f ≡ Some p → key ≡ p.key = λ p e. ap (key_or key) e in (
      made_may s d see.me c f refl above b (record {
        formed = (refl, kind, big);
        ranged = (fresh_is see KeyKind more low count_ok, named, may.first_number, may.last_number, routes.1.route, small);
        starts = routes.1.starts;
        entitled = record { allowed = routes.0; from = routes.1.starts ∙ sym home; to = routes.1.ends };
        note = tt;
        next = λ stream index e. cc;
        part = λ p e. part_among s d see key name m bound x.0 x.1 bytes p node named apart up.0 begun e;
        unhanded = λ p e sae at. ap (λ (n : Name). was_handed d.handed n sae) (sym (key_of p e)) ∙ begun.unhanded sae at;
      }),
      new_parts_may s d' see key m (x.0 + 1) xs bytes (more + 1) site low home node kind named (omega (arith, le)) big small routes.2 up.1
          (begun_more s d see.me key name m bound x.0 x.1 bytes apart up.0 begun)
          (subst (λ (y : ℕ). IsBelow d' see.me y) again (below_more s d see.me c f next (λ p e. let y = ap (λ (n : Name). n.count) (key_of p e) in omega (arith, le, y)) b)) rest,
    )

pub below_parts : (s : Site) (d : Durable) (see : View) (key : Name) (m : ℕ) (routes : List (ℕ × List ℕ)) (bytes : List ℕ) (more : ℕ) →
    key.count ≤ last_count see.me see.facts + more → IsBelow d see.me (last_count see.me see.facts + more) →
    IsBelow (replay s see.me (new_parts see key m routes bytes more) d) see.me (last_count see.me see.facts + (more + length routes))
unfolding replay
below_parts s d see key m [] bytes more le b =
    let e : last_count see.me see.facts + more ≡ last_count see.me see.facts + (more + 0) = omega arith in subst (λ (y : ℕ). IsBelow d see.me y) e b
below_parts s d see key m (x ∷ xs) bytes more le b =
    let f : Fact = Part (fresh_name see KeyKind more) key m x.0 x.1 bytes in
    let c : ℕ = last_count see.me see.facts + more in
    let next : (fresh_name see KeyKind more).count ≡ c + 1 = omega arith in
    let again : c + 1 ≡ last_count see.me see.facts + (more + 1) = omega arith in
    let end' : last_count see.me see.facts + (more + 1 + length xs) ≡ last_count see.me see.facts + (more + suc (length xs)) = omega arith in
    let key_of : (p : PartOf) → part_of f ≡ Some p → key ≡ p.key = λ p e. ap (key_or key) e in
    subst (λ (y : ℕ). IsBelow (replay s see.me (new_parts see key m (x ∷ xs) bytes more) d) see.me y) end'
    (below_parts s (apply_record s see.me (Learned f) d) see key m xs bytes (more + 1) (omega (arith, le))
    (subst (λ (y : ℕ). IsBelow (apply_record s see.me (Learned f) d) see.me y) again
    (below_more s d see.me c f next (λ p e. let y = ap (λ (n : Name). n.count) (key_of p e) in omega (arith, le, y)) b)))

handed_stays : (s : Site) (d : Durable) (v : ℕ) (f : Fact) → (apply_record s v (Learned f) d).handed ≡ d.handed
unfolding apply_record
handed_stays s d v f = refl

pub handed_parts : (s : Site) (d : Durable) (see : View) (key : Name) (m : ℕ) (routes : List (ℕ × List ℕ)) (bytes : List ℕ) (more : ℕ) →
    (replay s see.me (new_parts see key m routes bytes more) d).handed ≡ d.handed
unfolding replay
handed_parts s d see key m [] bytes more = refl
handed_parts s d see key m (x ∷ xs) bytes more =
    handed_parts s (apply_record s see.me (Learned (Part (fresh_name see KeyKind more) key m x.0 x.1 bytes)) d) see key m xs bytes (more + 1) ∙
    handed_stays s d see.me (Part (fresh_name see KeyKind more) key m x.0 x.1 bytes)
