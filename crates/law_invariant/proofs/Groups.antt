-- Handing out group keys to their master.
use Rattle.std.proofs.Common.{not, ◌≡◌, ℕ, ◌*◌, ◌<◌, Bool, true, false, cond, ◌&&◌, List, [], ◌∷◌, length, refl, sym, ◌∙◌, ap, subst, arith, Option, Some, None, inl, inr, take}
use Rattle.std.specs.Prelude.{◌==◌, nat_lt, find, filter}
use Rattle.std.specs.List.{list_all}
use Rattle.qkd_base.specs.Name.{Name, name_eq, has}
use Rattle.qkd_base.specs.declared.key_name.NameKind.TheVariants.{Key as KeyKind}
use Rattle.qkd_base.specs.declared.lane.Lane.{Lane}
use Rattle.net_model.specs.declared.fact.Fact.{Fact}
use Rattle.net_model.specs.declared.fact.Fact.TheVariants.{Key, Chunk, Stored, Open, Joined, Part}
use Rattle.net_model.specs.declared.reply.Reply.TheVariants.{Handed}
use Rattle.net_model.specs.Table.{PartOf, part_of, is_part_of, parts_of, is_named, name_of, bytes_of, origin, was_handed}
use Rattle.net_model.specs.Site.{Site}
use Rattle.net_model.specs.World.{Durable, Allocation, Transmission}
use Rattle.net_model.specs.Knowledge.{IsEntitled}
use Rattle.net_model.specs.Handings.{MayHave, KnowsStored, IsPart}
use Rattle.net_model.specs.Invariant.{Invariant}
use Rattle.net_model.specs.Decision.{is_confirmed, last_count}
use Rattle.net_model.specs.Pools.{own_names, hand_to}
use Rattle.net_model.specs.Groups.{same_slaves, is_part_from, is_unhanded_group, is_group_ready, group, group_bytes, is_entitled_group, enc_group}
use Rattle.net_model.specs.View.{View}
use Rattle.net_model.specs.Needed.{masked_fact}
use Rattle.law_base.proofs.Base.{name_eq_from, name_eq_same, eq_from, and_left, and_right, not_true, was_not}
use Rattle.law_base.proofs.Parts.{part_starts}
use Rattle.law_base.proofs.Tables.{found_name}
use Rattle.law_base.proofs.Masked.{with_other_bytes, masked_same, name_blind, part_blind}
use Rattle.law_base.proofs.Seen.{Sees, IsSeen, seen_found, seen_all, seen_stored, handed_seen}
use Rattle.law_invariant.proofs.Names.{has_take, differ_take, has_filter, differ_filter, differ_up_to, hand_all}
use Rattle.law_invariant.specs.Only.{Only}
use Rattle.law_invariant.proofs.Only.{only_makes, only_either}

pub find_filter : (p : Fact → Bool) (xs : List Fact) (f : Fact) (rest : List Fact) → filter p xs ≡ f ∷ rest → find p xs ≡ Some f
find_filter p [] f rest h = cc
find_filter p (x ∷ xs) f rest h = elim (p x) as (λ t. cond t (x ∷ filter p xs) (filter p xs) ≡ f ∷ rest → cond t (Some x) (find p xs) ≡ Some f) [
  | true ↦ λ e. cc
  | false ↦ λ e. find_filter p xs f rest e
] h

pub slaves_some : (fs : List Fact) (slaves : List ℕ) → same_slaves fs slaves ≡ true → 0 < length slaves → (f : Fact) × (rest : List Fact) × (fs ≡ f ∷ rest)
slaves_some [] [] h k = absurd (omega arith)
slaves_some [] (t ∷ ts) h k = cc
slaves_some (f ∷ fs) slaves h k = (f, fs, refl)

-- A part that the manager sees, and the table's fact for it.
pub record IsPartSeen (n : Name) (m : ℕ) (f : Fact) : Type 0 where
  pub part : PartOf
  pub is : part_of f ≡ Some part
  pub key : part.key ≡ n
  pub master : part.master ≡ m

pub part_seen : (n : Name) (m bits : ℕ) (g f : Fact) → f ≡ with_other_bytes g (bytes_of f) → is_part_of n g ≡ true → is_part_from m bits (part_of g) ≡ true → IsPartSeen n m f
part_seen n m bits (Part name key master slave route bytes) f shape named from =
    record {
      part = record { key = key; master = master; slave = slave; bytes = bytes_of f };
      is = ap part_of shape;
      key = name_eq_from key n named;
      master = eq_from master m (and_left (master == m) (8 * length bytes == bits) from);
    }
part_seen n m bits _ f shape named from = cc

abbrev master_or : ℕ → Option PartOf → ℕ
master_or m None = m
master_or m (Some p) = p.master

module _ (s : Site) (d : Durable) (frames : Lane → List Allocation) (unclaimed : Lane → List Transmission) (inv : Invariant s d frames unclaimed) (see bare : View)
    (h : Sees s d see bare) where
  -- A group key in the pool of its master.
  pub record IsPooledGroup (m bits : ℕ) (n : Name) : Type 0 where
    pub first : Fact
    pub seen : IsSeen d see.me bare first
    pub named : is_part_of n first ≡ true
    pub found : find (is_part_of n) see.facts ≡ Some first
    pub part : IsPartSeen n m seen.fact
    pub unhanded : was_handed see.handed n m ≡ false

  pub pooled_group : (m bits : ℕ) (slaves : List ℕ) (n : Name) → 0 < length slaves → is_unhanded_group see m slaves bits n ≡ true → IsPooledGroup m bits n
  pooled_group m bits slaves n some e =
      let parts : List Fact = parts_of see.facts n in
      let prefix = and_left (same_slaves parts slaves && list_all (λ f. is_part_from m bits (part_of f)) parts) (not (was_handed see.handed n m)) e in
      let free = and_right (same_slaves parts slaves && list_all (λ f. is_part_from m bits (part_of f)) parts) (not (was_handed see.handed n m)) e in
      let all = and_right (same_slaves parts slaves) (list_all (λ f. is_part_from m bits (part_of f)) parts) prefix in
      let first = slaves_some parts slaves (and_left (same_slaves parts slaves) (list_all (λ f. is_part_from m bits (part_of f)) parts) prefix) some in
      let found = find_filter (is_part_of n) see.facts first.0 first.1 first.2 in
      let seen = seen_found s d see bare h (is_part_of n) first.0 found in
      let from = and_left (is_part_from m bits (part_of first.0)) (list_all (λ f. is_part_from m bits (part_of f)) first.1)
      (sym (ap (list_all (λ f. is_part_from m bits (part_of f))) first.2) ∙ all) in
      record {
        first = first.0;
        seen = seen.1;
        named = seen.0;
        found = found;
        part = part_seen n m bits first.0 seen.1.fact seen.1.shape seen.0 from;
        unhanded = was_not (was_handed see.handed n m) free;
      }

  named_part : (n p : Name) (x : IsPart d.facts n p) → is_part_of n (masked_fact bare x.fact) ≡ true
  named_part n p x =
      masked_same (is_part_of n) (part_blind n) bare x.fact ∙ ap (λ (o : Option PartOf). is_named o n) x.is ∙ ap (λ (y : Name). name_eq y n) x.key ∙ name_eq_same n

  group_may : (m bits : ℕ) (slaves : List ℕ) (n : Name) → s.home m ≡ see.me → 0 < length slaves → is_unhanded_group see m slaves bits n ≡ true → is_group_ready see n ≡ true →
      (was_handed d.handed n m ≡ false) × MayHave s d.facts d.known n m
  group_may m bits slaves n home some e ready =
      let x = pooled_group m bits slaves n some e in
      let name : Name = name_of x.first in
      let fact = inv.table name x.seen.fact x.seen.there in
      let mine : origin x.seen.fact ≡ see.me = part_starts s d.facts x.seen.fact x.part.part x.part.is fact.entitled ∙ ap s.home x.part.master ∙ home in (
        sym (handed_seen s d see bare h n m home) ∙ x.unhanded,
        inr (record {
          name = name;
          one = record { fact = x.seen.fact; part = x.part.part; there = x.seen.there; is = x.part.is; key = x.part.key };
          is_end = inl (
            x.part.master,
            λ p y.
                let other = inv.table p y.fact y.there in
                let alike = inv.groups.alike p name y.fact x.seen.fact y.part x.part.part y.there x.seen.there y.is x.part.is (y.key ∙ sym x.part.key) in
                let node : p.node ≡ see.me = other.maker ∙ alike.origin ∙ mine in
                let k : has (d.known see.me) p ≡ true = subst (λ (u : ℕ). has (d.known u) p ≡ true) node other.made in
                let r = seen_all s d see bare h (is_part_of n) (λ f. is_confirmed see (name_of f)) p y.fact ready y.there k (named_part n p y) in
                let is : name_of (masked_fact bare y.fact) ≡ p = masked_same name_of name_blind bare y.fact ∙ found_name d.facts p y.fact y.there in
                let stored = seen_stored s d see bare h p (sym (ap (is_confirmed see) is) ∙ r) in
                (subst (λ (u : ℕ). has (d.known u) p ≡ true) (sym home) k, subst (λ (u : ℕ). KnowsStored d.facts (d.known u) p) (sym home) stored),
          );
        }),
      )

  pub enc_group_may : (m : ℕ) (slaves : List ℕ) (n bits : ℕ) → 0 < length slaves → Only s d see (enc_group s see m slaves n bits)
  unfolding enc_group group
  enc_group_may m slaves n bits some =
      let ready : List Name = group see m slaves bits in
      only_either s d see (not (is_entitled_group s see m slaves)) _ _ (λ e. tt) (λ e.
      only_either s d see (nat_lt (length ready) n) _ _ (λ e2. tt) (λ e2.
      let home : s.home m ≡ see.me = eq_from (s.home m) see.me (and_left (s.home m == see.me) (list_all (λ t. s.allowed m t) slaves) (not_true (is_entitled_group s see m slaves) e)) in
      only_makes s d see (hand_to m (take n ready)) (Handed (group_bytes see (take n ready))) (λ numbered.
      hand_all s d see.me m (take n ready) home
      (differ_take ready n (differ_filter (λ x. is_unhanded_group see m slaves bits x && is_group_ready see x) (own_names see) (differ_up_to see.me KeyKind (last_count see.me see.facts))))
      (λ x k.
      let both = (has_filter (λ y. is_unhanded_group see m slaves bits y && is_group_ready see y) (own_names see) x (has_take ready n x k)).1 in
      group_may m bits slaves x home some (and_left (is_unhanded_group see m slaves bits x) (is_group_ready see x) both)
      (and_right (is_unhanded_group see m slaves bits x) (is_group_ready see x) both)))))
