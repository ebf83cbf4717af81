-- The same new group keys, made of other octets.
use Rattle.std.proofs.Common.{◌≡◌, ℕ, zero, suc, ◌+◌, ◌*◌, ◌<◌, ◌≤◌, Bool, true, false, not, List, [], ◌∷◌, ◌++◌, length, refl, sym, ◌∙◌, ap, arith, take, drop, Option, Some, None}
use Rattle.std.specs.Prelude.{◌/◌, nat_lt, if◌then◌else◌}
use Rattle.std.proofs.lemmas.List.{length-take}
use Rattle.qkd_base.specs.Name.{Name, name_eq}
use Rattle.qkd_base.specs.declared.key_name.NameKind.TheVariants.{Key as KeyKind}
use Rattle.net_model.specs.declared.fact.Fact.TheVariants.{Part}
use Rattle.net_model.specs.declared.record.Record.{Record}
use Rattle.net_model.specs.declared.record.Record.TheVariants.{Learned}
use Rattle.net_model.specs.declared.reply.Reply.TheVariants.{NotAllowed, PoolFull, MadeKeys}
use Rattle.net_model.specs.Site.{Site}
use Rattle.net_model.specs.View.{View}
use Rattle.net_model.specs.Decision.{Refuses, makes, fresh_name}
use Rattle.net_model.specs.Groups.{new_parts, new_groups, unhanded_group, routes_to, filled_group, fill_group, is_entitled_group}
use Rattle.relay_core.proofs.Names.{name_eq_same, name_eq_from}
use Rattle.relay_core.proofs.Firsts.{not_true}
use Rattle.kme_base.specs.Random.{over, with_random, decision_over, has_part_next}
use Rattle.kme_keys.proofs.Overs.{over_as_many, in_front, behind}

module _ (v : View) (key : Name) (m : ℕ) (random bytes : List ℕ) where
  -- the parts of one group key, followed by records that aren't parts of it
  pub parts_over : (w : ℕ × List ℕ) (ws : List (ℕ × List ℕ)) (more : ℕ) (rest : List Record) → has_part_next key rest ≡ false →
      with_random random (new_parts v key m (w ∷ ws) bytes more ++ rest) ≡ new_parts v key m (w ∷ ws) (over random bytes) more ++ with_random (drop (length bytes) random) rest
  parts_over w [] more rest last =
      ap (λ (b : Bool). Learned (Part (fresh_name v KeyKind more) key m w.0 w.1 (over random bytes)) ∷ with_random (drop (if b then 0 else length bytes) random) rest) last
  parts_over w (w' ∷ ws) more rest last =
      ap (λ (b : Bool). Learned (Part (fresh_name v KeyKind more) key m w.0 w.1 (over random bytes)) ∷ with_random (drop (if b then 0 else length bytes) random) (new_parts v key m (w' ∷ ws) bytes (more + 1) ++ rest)) (name_eq_same key)
      ∙ ap (λ (rs : List Record). Learned (Part (fresh_name v KeyKind more) key m w.0 w.1 (over random bytes)) ∷ rs) (parts_over w' ws (more + 1) rest last)

-- names with different counts differ
apart : (v : View) (a b : ℕ) → a < b → name_eq (fresh_name v KeyKind b) (fresh_name v KeyKind a) ≡ false
apart v a b lt = not_true (name_eq (fresh_name v KeyKind b) (fresh_name v KeyKind a)) (λ h.
    let e = ap (λ (n : Name). n.count) (name_eq_from (fresh_name v KeyKind b) (fresh_name v KeyKind a) h) in
    omega arith)

-- the parts of the next group key aren't parts of this one
next_key : (v : View) (m : ℕ) (w : ℕ × List ℕ) (ws : List (ℕ × List ℕ)) (size : ℕ) (random : List ℕ) (more next count : ℕ) → more < next →
    has_part_next (fresh_name v KeyKind more) (new_groups v m (w ∷ ws) size random next count) ≡ false
next_key v m w ws size random more next zero lt = refl
next_key v m w ws size random more next (suc k) lt = apart v more next lt

no_routes : (v : View) (m size : ℕ) (random : List ℕ) (more count : ℕ) → new_groups v m [] size random more count ≡ []
no_routes v m size random more zero = refl
no_routes v m size random more (suc k) = no_routes v m size (drop size random) (more + 1 + 0) k

some_routes : (v : View) (m : ℕ) (w : ℕ × List ℕ) (ws : List (ℕ × List ℕ)) (size : ℕ) (zeros random : List ℕ) (more count : ℕ) → size * count ≤ length zeros → size * count ≤ length random →
    with_random random (new_groups v m (w ∷ ws) size zeros more count) ≡ new_groups v m (w ∷ ws) size random more count
some_routes v m w ws size zeros random more zero z r = refl
some_routes v m w ws size zeros random more (suc k) z r =
    let key : Name = fresh_name v KeyKind more in
    let next : ℕ = more + 1 + length (w ∷ ws) in
    let z1 = in_front size k (length zeros) z in
    let r1 = in_front size k (length random) r in
    let spent : length (take size zeros) ≡ size = (let t = length-take size zeros in omega arith) in
    parts_over v key m random (take size zeros) w ws (more + 1) (new_groups v m (w ∷ ws) size (drop size zeros) next k) (next_key v m w ws size (drop size zeros) more next k (omega arith))
    ∙ ap (λ (n : ℕ). new_parts v key m (w ∷ ws) (over random (take size zeros)) (more + 1) ++ with_random (drop n random) (new_groups v m (w ∷ ws) size (drop size zeros) next k)) spent
    ∙ (λ i. new_parts v key m (w ∷ ws) (over_as_many size zeros random z1 r1 i) (more + 1) ++ some_routes v m w ws size (drop size zeros) (drop size random) next k (behind size k zeros z) (behind size k random r) i)

pub groups_over : (v : View) (m : ℕ) (routes : List (ℕ × List ℕ)) (size : ℕ) (zeros random : List ℕ) (more count : ℕ) → size * count ≤ length zeros → size * count ≤ length random →
    with_random random (new_groups v m routes size zeros more count) ≡ new_groups v m routes size random more count
groups_over v m [] size zeros random more count z r = ap (with_random random) (no_routes v m size zeros more count) ∙ sym (no_routes v m size random more count)
groups_over v m (w ∷ ws) size zeros random more count z r = some_routes v m w ws size zeros random more count z r

filled_over : (v : View) (m : ℕ) (slaves : List ℕ) (bits count : ℕ) (zeros random : List ℕ) (routes : Option (List (ℕ × List ℕ))) → bits / 8 * count ≤ length zeros → bits / 8 * count ≤ length random →
    decision_over random (filled_group v m slaves bits count zeros routes) ≡ filled_group v m slaves bits count random routes
filled_over v m slaves bits count zeros random None z r = refl
filled_over v m slaves bits count zeros random (Some routes) z r = by (nat_lt 4096 (unhanded_group v m slaves bits + count))
  where
    by : (full : Bool) → decision_over random (if full then Refuses PoolFull else makes v (new_groups v m routes (bits / 8) zeros 0 count) (MadeKeys count (fresh_name v KeyKind 0)))
        ≡ (if full then Refuses PoolFull else makes v (new_groups v m routes (bits / 8) random 0 count) (MadeKeys count (fresh_name v KeyKind 0)))
    by true = refl
    by false = ap (λ (batch : List Record). makes v batch (MadeKeys count (fresh_name v KeyKind 0))) (groups_over v m routes (bits / 8) zeros random 0 count z r)

pub fill_over : (site : Site) (up : ℕ → Bool) (v : View) (m : ℕ) (slaves : List ℕ) (bits count : ℕ) (zeros random : List ℕ) → bits / 8 * count ≤ length zeros → bits / 8 * count ≤ length random →
    decision_over random (fill_group site up v m slaves bits count zeros) ≡ fill_group site up v m slaves bits count random
unfolding fill_group
fill_over site up v m slaves bits count zeros random z r = by (is_entitled_group site v m slaves)
  where
    by : (entitled : Bool) → decision_over random (if not entitled then Refuses NotAllowed else filled_group v m slaves bits count zeros (routes_to site up v.me slaves))
        ≡ (if not entitled then Refuses NotAllowed else filled_group v m slaves bits count random (routes_to site up v.me slaves))
    by false = refl
    by true = filled_over v m slaves bits count zeros random (routes_to site up v.me slaves) z r
