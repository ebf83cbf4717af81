-- The bytes that a manager hands out are those of the table, since it needs them until then.
use Rattle.std.proofs.Common.{not, ◌≡◌, ◌≢◌, ℕ, ◌<◌, Bool, true, false, ◌&&◌, List, [], length, refl, sym, ◌∙◌, ap, Option, Some, None, subst, inl, inr}
use Rattle.std.specs.Prelude.{◌==◌, is_some, if◌then◌else◌, find}
use Rattle.std.specs.List.{list_any}
use Rattle.qkd_base.specs.Name.{Name, name_eq}
use Rattle.qkd_base.specs.Route.{first_of}
use Rattle.qkd_base.specs.declared.lane.Lane.{Lane}
use Rattle.net_model.specs.declared.fact.Fact.{Fact}
use Rattle.net_model.specs.declared.fact.Fact.TheVariants.{Key, Chunk, Stored, Open, Joined, Part}
use Rattle.net_model.specs.Table.{PartOf, part_of, parts_of, is_part_of, is_named, name_of, bytes_of, origin, target, fact_at, has_fact, was_handed}
use Rattle.net_model.specs.Site.{Site}
use Rattle.net_model.specs.World.{Durable, Allocation, Transmission}
use Rattle.net_model.specs.Knowledge.{IsGroups}
use Rattle.net_model.specs.Handings.{is_single}
use Rattle.net_model.specs.Invariant.{Invariant}
use Rattle.net_model.specs.Premises.{IsSite}
use Rattle.net_model.specs.Pools.{bytes_or_none, is_in_pool, is_key_of, is_for, for_slave}
use Rattle.net_model.specs.Groups.{is_unhanded_group}
use Rattle.net_model.specs.Decision.{is_confirmed}
use Rattle.net_model.specs.View.{View}
use Rattle.net_model.specs.Needed.{is_owed, end_needs, is_needed}
use Rattle.net_model.specs.Deliveries.{Delivery, IsTrueDelivery}
use Rattle.law_base.proofs.Base.{name_eq_from, name_eq_same, eq_from, eq_same, and_left, and_right, and_both, or_cases, or_left, or_right, not_false, not_both, was_not}
use Rattle.law_base.proofs.Tables.{found_name, is_some_of_some}
use Rattle.law_base.proofs.Grow.{Grows}
use Rattle.law_base.proofs.Seen.{Sees, IsSeen, seen_at, seen_found, seen_needed}
use Rattle.law_invariant.proofs.Hands.{key_is}
use Rattle.law_invariant.proofs.Groups.{pooled_group}
use Rattle.law_base.proofs.Parts.{part_starts}

-- Lemmas on the bytes of a name.

pub some_fact : (o : Option Fact) → is_some o ≡ true → (f : Fact) × (o ≡ Some f)
some_fact None h = cc
some_fact (Some f) h = (f, refl)

part_bytes : (f : Fact) (p : PartOf) → part_of f ≡ Some p → bytes_of f ≡ p.bytes
part_bytes (Part name key master slave route bytes) p h = ap (λ (o : Option PartOf). bytes_in o) h
  where
    bytes_in : Option PartOf → List ℕ
    bytes_in None = []
    bytes_in (Some q) = q.bytes
part_bytes (Key name master slave route bytes) p h = cc
part_bytes (Chunk name stream index route bytes) p h = cc
part_bytes (Stored note about route) p h = cc
part_bytes (Open stream source peer size route) p h = cc
part_bytes (Joined note about route) p h = cc

part_is : (n : Name) (f : Fact) (o : Option PartOf) → part_of f ≡ o → is_named o n ≡ true → (q : PartOf) × (part_of f ≡ Some q) × (q.key ≡ n)
part_is n f None e h = cc
part_is n f (Some q) e h = (q, e, name_eq_from q.key n h)

some_same : (f g : Fact) → Some f ≡ Some g → f ≡ g
some_same f g e = cc

abbrev pub HasTrueBytes : List Fact → Name → ℕ → List ℕ → Type 0
HasTrueBytes T n sae bytes = IsTrueDelivery T (record { name = n; sae = sae; bytes = bytes })

-- The bytes of a key or chunk are those of its name: no group key has the same name.
pub one_true : (T : List Fact) (n : Name) (sae : ℕ) (f : Fact) → IsGroups T → fact_at T n ≡ Some f → is_single f ≡ true → HasTrueBytes T n sae (bytes_of f)
one_true T n sae f groups there single =
    record {
      name = n;
      fact = f;
      there = there;
      is = or_left (is_single f && name_eq (name_of f) n) (is_part_of n f)
          (and_both (is_single f) (name_eq (name_of f) n) single (ap (λ (x : Name). name_eq x n) (found_name T n f there) ∙ name_eq_same n));
      bytes = λ m g at is. elim (or_cases (is_single g && name_eq (name_of g) n) (is_part_of n g) is) [
        | inl one ↦
            let same : m ≡ n = sym (found_name T m g at) ∙ name_eq_from (name_of g) n (and_right (is_single g) (name_eq (name_of g) n) one) in
            ap bytes_of (some_same f g (sym there ∙ ap (fact_at T) (sym same) ∙ at))
        | inr part ↦
            let q = part_is n g (part_of g) refl part in
            absurd (not_both (has_fact T n) (is_some_of_some (fact_at T n) f there) (ap (has_fact T) (sym q.2) ∙ groups.free m g q.0 at q.1))
      ];
    }

-- The bytes of a group key are those of each of its parts, and no fact has the group key's name.
pub group_true : (T : List Fact) (m n : Name) (sae : ℕ) (f : Fact) (p : PartOf) → IsGroups T → fact_at T m ≡ Some f → part_of f ≡ Some p → p.key ≡ n →
    HasTrueBytes T n sae (bytes_of f)
group_true T m n sae f p groups there is key =
    let named : is_part_of n f ≡ true = ap (λ (o : Option PartOf). is_named o n) is ∙ ap (λ (y : Name). name_eq y n) key ∙ name_eq_same n in
    let free : has_fact T n ≡ false = ap (has_fact T) (sym key) ∙ groups.free m f p there is in
    record {
      name = m;
      fact = f;
      there = there;
      is = or_right (is_single f && name_eq (name_of f) n) (is_part_of n f) named;
      bytes = λ k g at is'. elim (or_cases (is_single g && name_eq (name_of g) n) (is_part_of n g) is') [
        | inl one ↦
            let same : k ≡ n = sym (found_name T k g at) ∙ name_eq_from (name_of g) n (and_right (is_single g) (name_eq (name_of g) n) one) in
            absurd (not_both (has_fact T n) (is_some_of_some (fact_at T n) g (ap (fact_at T) (sym same) ∙ at)) free)
        | inr part ↦
            let q = part_is n g (part_of g) refl part in
            part_bytes f p is ∙ (groups.alike m k f g p q.0 there at is q.1 (key ∙ sym q.2)).bytes ∙ sym (part_bytes g q.0 q.1)
      ];
    }

-- The bytes of a name stay the same when the table grows.
pub true_grows : (T T' : List Fact) (d : Delivery) → IsGroups T' → Grows T T' → IsTrueDelivery T d → IsTrueDelivery T' d
true_grows T T' d groups grows h =
    subst (HasTrueBytes T' d.name d.sae) (sym (h.bytes h.name h.fact h.there h.is))
    (elim (or_cases (is_single h.fact && name_eq (name_of h.fact) d.name) (is_part_of d.name h.fact) h.is) [
      | inl one ↦
          let same : h.name ≡ d.name =
          sym (found_name T h.name h.fact h.there) ∙ name_eq_from (name_of h.fact) d.name (and_right (is_single h.fact) (name_eq (name_of h.fact) d.name) one) in
          one_true T' d.name d.sae h.fact groups (ap (fact_at T') (sym same) ∙ grows h.name h.fact h.there) (and_left (is_single h.fact) (name_eq (name_of h.fact) d.name) one)
      | inr part ↦
          let q = part_is d.name h.fact (part_of h.fact) refl part in
          group_true T' h.name d.name d.sae h.fact q.0 groups (grows h.name h.fact h.there) q.1 q.2
    ])

module _ (s : Site) (d : Durable) (frames : Lane → List Allocation) (unclaimed : Lane → List Transmission) (inv : Invariant s d frames unclaimed) (see bare : View)
    (h : Sees s d see bare) where
  -- A fact is needed if the application at its end here still needs its bytes.

  pub needed_first : (f : Fact) → origin f ≡ see.me → end_needs bare true f (part_of f) ≡ true → is_needed bare f ≡ true
  unfolding is_needed
  needed_first f at e =
      let here : (origin f == bare.me) ≡ true = ap (λ (u : ℕ). origin f == u) h.bare_me ∙ ap (λ (u : ℕ). u == see.me) at ∙ eq_same see.me in
      or_right (is_owed bare f) _ (ap (λ (t : Bool). if t then end_needs bare true f (part_of f) else if target f == bare.me then end_needs bare false f (part_of f) else false) here ∙ e)

  pub needed_last : (f : Fact) → origin f ≢ see.me → target f ≡ see.me → end_needs bare false f (part_of f) ≡ true → is_needed bare f ≡ true
  unfolding is_needed
  needed_last f other at e =
      let away : (origin f == bare.me) ≡ false = not_false (origin f == bare.me) (λ y. other (eq_from (origin f) bare.me y ∙ h.bare_me)) in
      let here : (target f == bare.me) ≡ true = ap (λ (u : ℕ). target f == u) h.bare_me ∙ ap (λ (u : ℕ). u == see.me) at ∙ eq_same see.me in
      or_right (is_owed bare f) _
      (ap (λ (t : Bool). if t then end_needs bare true f (part_of f) else if target f == bare.me then end_needs bare false f (part_of f) else false) away ∙
      ap (λ (t : Bool). if t then end_needs bare false f (part_of f) else false) here ∙ e)

  pub unhanded : (n : Name) (sae : ℕ) → was_handed see.handed n sae ≡ false → not (was_handed bare.handed n sae) ≡ true
  unhanded n sae e = ap (λ (hs : List (Name × ℕ)). not (was_handed hs n sae)) h.bare_handed ∙ ap not e

  -- A key of the pool is handed out with the bytes of its name.
  pub pool_bytes : (m t bits : ℕ) (n : Name) → s.home m ≡ see.me → is_in_pool see m t bits n ≡ true → HasTrueBytes d.facts n m (bytes_or_none (fact_at see.facts n))
  pool_bytes m t bits n home e =
      let prefix = and_left (is_key_of m t bits (fact_at see.facts n) && is_confirmed see n) (not (was_handed see.handed n m)) e in
      let free = was_not (was_handed see.handed n m) (and_right (is_key_of m t bits (fact_at see.facts n) && is_confirmed see n) (not (was_handed see.handed n m)) e) in
      let key = key_is m t bits (fact_at see.facts n) (and_left (is_key_of m t bits (fact_at see.facts n)) (is_confirmed see n) prefix) in
      let g : Fact = Key key.name m t key.nodes key.bytes in
      let seen = seen_at s d see bare h n g key.is in
      let x = seen.1 in
      let after : Fact = Key key.name m t key.nodes (bytes_of x.fact) in
      let there : fact_at d.facts key.name ≡ Some after = x.there ∙ ap Some x.shape in
      let pair = (inv.table key.name after there).entitled in
      let open' : not (was_handed bare.handed key.name m) ≡ true = ap (λ (y : Name). not (was_handed bare.handed y m)) seen.0 ∙ unhanded n m free in
      let needs : is_needed bare x.fact ≡ true = ap (is_needed bare) x.shape ∙ needed_first after (pair.from ∙ home) open' in
      subst (HasTrueBytes d.facts n m) (sym (ap bytes_or_none (key.is ∙ ap Some (seen_needed s d see bare h g x needs))))
      (one_true d.facts n m x.fact inv.groups (ap (fact_at d.facts) (sym seen.0) ∙ x.there) (ap is_single x.shape))

  -- A group key of the pool is handed out with the bytes of its name.
  pub group_bytes_true : (m bits : ℕ) (slaves : List ℕ) (n : Name) → s.home m ≡ see.me → 0 < length slaves → is_unhanded_group see m slaves bits n ≡ true →
      HasTrueBytes d.facts n m (bytes_or_none (find (is_part_of n) see.facts))
  group_bytes_true m bits slaves n home some e =
      let x = pooled_group s d frames unclaimed inv see bare h m bits slaves n some e in
      let f : Fact = x.seen.fact in
      let fact = inv.table (name_of x.first) f x.seen.there in
      let at : origin f ≡ see.me = part_starts s d.facts f x.part.part x.part.is fact.entitled ∙ ap s.home x.part.master ∙ home in
      let open' : not (was_handed bare.handed x.part.part.key x.part.part.master) ≡ true =
      ap (λ (k : Name). not (was_handed bare.handed k x.part.part.master)) x.part.key ∙ ap (λ (u : ℕ). not (was_handed bare.handed n u)) x.part.master ∙ unhanded n m x.unhanded in
      let ends : end_needs bare true f (part_of f) ≡ true =
      ap (end_needs bare true f) x.part.is ∙ or_left (not (was_handed bare.handed x.part.part.key x.part.part.master)) (list_any (is_owed bare) (parts_of bare.facts x.part.part.key)) open' in
      subst (HasTrueBytes d.facts n m) (sym (ap bytes_or_none (x.found ∙ ap Some (seen_needed s d see bare h x.first x.seen (needed_first f at ends)))))
      (group_true d.facts (name_of x.first) n m f x.part.part inv.groups x.seen.there x.part.is x.part.key)

  -- A key that a slave names is handed out with the bytes of its name.

  apart : IsSite s → (m t : ℕ) → s.allowed m t ≡ true → s.home t ≡ see.me → s.home m ≢ see.me
  apart site m t allowed home e = (site.pairs m t allowed).apart (e ∙ sym home)

  slave_true : IsSite s → (m t : ℕ) (n : Name) (g : Fact) → is_for m t n g ≡ true → s.allowed m t ≡ true → s.home t ≡ see.me →
      was_handed see.handed n t ≡ false → IsSeen d see.me bare g → HasTrueBytes d.facts n t (bytes_of g)
  slave_true site m t n (Key name master slave nodes bytes) e allowed home free x =
      let prefix = and_left (name_eq name n && (master == m)) (slave == t) e in
      let is : name ≡ n = name_eq_from name n (and_left (name_eq name n) (master == m) prefix) in
      let from : master ≡ m = eq_from master m (and_right (name_eq name n) (master == m) prefix) in
      let to : slave ≡ t = eq_from slave t (and_right (name_eq name n && (master == m)) (slave == t) e) in
      let after : Fact = Key name master slave nodes (bytes_of x.fact) in
      let there : fact_at d.facts name ≡ Some after = x.there ∙ ap Some x.shape in
      let pair = (inv.table name after there).entitled in
      let away : first_of nodes ≢ see.me = λ y. apart site m t allowed home (sym (pair.from ∙ ap s.home from) ∙ y) in
      let open' : not (was_handed bare.handed name slave) ≡ true =
      ap (λ (k : Name). not (was_handed bare.handed k slave)) is ∙ ap (λ (u : ℕ). not (was_handed bare.handed n u)) to ∙ unhanded n t free in
      let needs : is_needed bare x.fact ≡ true = ap (is_needed bare) x.shape ∙ needed_last after away (pair.to ∙ ap s.home to ∙ home) open' in
      subst (HasTrueBytes d.facts n t) (sym (ap bytes_of (seen_needed s d see bare h (Key name master slave nodes bytes) x needs)))
      (one_true d.facts n t x.fact inv.groups (ap (fact_at d.facts) (sym is) ∙ x.there) (ap is_single x.shape))
  slave_true site m t n (Part name key master slave nodes bytes) e allowed home free x =
      let prefix = and_left (name_eq key n && (master == m)) (slave == t) e in
      let is : key ≡ n = name_eq_from key n (and_left (name_eq key n) (master == m) prefix) in
      let from : master ≡ m = eq_from master m (and_right (name_eq key n) (master == m) prefix) in
      let to : slave ≡ t = eq_from slave t (and_right (name_eq key n && (master == m)) (slave == t) e) in
      let after : Fact = Part name key master slave nodes (bytes_of x.fact) in
      let there : fact_at d.facts name ≡ Some after = x.there ∙ ap Some x.shape in
      let pair = (inv.table name after there).entitled in
      let away : first_of nodes ≢ see.me = λ y. apart site m t allowed home (sym (pair.from ∙ ap s.home from) ∙ y) in
      let open' : not (was_handed bare.handed key slave) ≡ true =
      ap (λ (k : Name). not (was_handed bare.handed k slave)) is ∙ ap (λ (u : ℕ). not (was_handed bare.handed n u)) to ∙ unhanded n t free in
      let needs : is_needed bare x.fact ≡ true = ap (is_needed bare) x.shape ∙ needed_last after away (pair.to ∙ ap s.home to ∙ home) open' in
      subst (HasTrueBytes d.facts n t) (sym (ap bytes_of (seen_needed s d see bare h (Part name key master slave nodes bytes) x needs)))
      (group_true d.facts name n t x.fact (record { key = key; master = master; slave = slave; bytes = bytes_of x.fact }) inv.groups x.there (ap part_of x.shape) is)
  slave_true site m t n _ e allowed home free x = cc

  pub slave_bytes_true : IsSite s → (m t : ℕ) (n : Name) → s.allowed m t ≡ true → s.home t ≡ see.me → was_handed see.handed n t ≡ false →
      is_some (for_slave see m t n) ≡ true → HasTrueBytes d.facts n t (bytes_or_none (for_slave see m t n))
  slave_bytes_true site m t n allowed home free some =
      let g = some_fact (for_slave see m t n) some in
      let x = seen_found s d see bare h (is_for m t n) g.0 g.1 in
      subst (HasTrueBytes d.facts n t) (sym (ap bytes_or_none g.1)) (slave_true site m t n g.0 x.0 allowed home free x.1)
