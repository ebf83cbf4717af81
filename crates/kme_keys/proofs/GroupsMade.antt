-- Decisions about group keys.
use Rattle.std.proofs.Common.{◌≡◌, ℕ, zero, suc, ◌+◌, ◌-◌, ◌<◌, ◌≤◌, Bool, true, false, not, ◌&&◌, List, [], ◌∷◌, ◌++◌, length, refl, sym, ◌∙◌, ap, arith, take, drop, min, Option, Some, None, Ok, Err, Result, append_assoc}
use Rattle.std.specs.Prelude.{◌/◌, nat_lt, count_by, is_some, if◌then◌else◌}
use Rattle.std.proofs.lemmas.Bool.Decides.{nat_tests}
use Rattle.std.proofs.lemmas.List.{length-take}
use Rattle.std.proofs.lemmas.List.Sums.{length-filter}
use Rattle.qkd_base.specs.Name.{Name}
use Rattle.qkd_base.specs.declared.key_name.NameKind.TheVariants.{Key as KeyKind}
use Rattle.net_model.specs.declared.fact.Fact.TheVariants.{Part}
use Rattle.net_model.specs.declared.record.Record.{Record}
use Rattle.net_model.specs.declared.record.Record.TheVariants.{Learned}
use Rattle.net_model.specs.declared.reply.Reply.{Reply}
use Rattle.net_model.specs.declared.reply.Reply.TheVariants.{Handed, NotAllowed, PoolFull, Memory, MadeKeys, Few}
use Rattle.net_model.specs.Site.{Site}
use Rattle.net_model.specs.View.{View}
use Rattle.net_model.specs.Decision.{Refuses, makes, fresh_name}
use Rattle.net_model.specs.Pools.{own_names, hand_to}
use Rattle.net_model.specs.Groups.{is_unhanded_group, unhanded_group, group, group_bytes, new_parts, new_groups, routes_to, filled_group, fill_group, enc_group, is_entitled_group}
use Rattle.end_store.specs.Waiting.{Ends}
use Rattle.end_store.specs.Pooled.{ends_view, Sees}
use Rattle.kme_base.specs.declared.change.Change.TheVariants.{Same}
use Rattle.kme_base.specs.declared.step.Step.{Step}
use Rattle.kme_base.specs.Steps.{IsStep}
use Rattle.kme_keys.specs.declared.holder.Holder.TheVariants.{Group}
use Rattle.kme_keys.specs.Holding.{held_keys}
use Rattle.kme_keys.proofs.Deciding.{same_step}
use Rattle.kme_keys.proofs.Made.{fresh_seen}
use Rattle.kme_keys.specs.Candidates.{is_candidate, candidates}

-- the view and the store agree

abbrev between : View → Ends → View
between v e = record v { me = e.known.me; facts = e.known.facts; handed = e.handed }

candidates_seen : (v : View) (e : Ends) → Sees v e → (m : ℕ) (slaves : List ℕ) (bits : ℕ) (ready : Bool) → candidates (ends_view e) m slaves bits ready ≡ candidates v m slaves bits ready
candidates_seen v e seen m slaves bits ready =
    let path : candidates v m slaves bits ready ≡ candidates (between v e) m slaves bits ready =
    (λ i. candidates (record v { me = seen.me i; facts = seen.facts i; handed = seen.handed i }) m slaves bits ready) in
    sym path

pub group_seen : (v : View) (e : Ends) → Sees v e → (m : ℕ) (slaves : List ℕ) (bits : ℕ) → candidates (ends_view e) m slaves bits true ≡ group v m slaves bits
unfolding group
group_seen v e seen m slaves bits = candidates_seen v e seen m slaves bits true

same_tests : (P Q : Name → Bool) → ((n : Name) → P n ≡ Q n) → (ns : List Name) → count_by P ns ≡ count_by Q ns
same_tests P Q h ns = (λ i. count_by (λ n. h n i) ns)

and_true : (b : Bool) → (b && true) ≡ b
and_true true = refl
and_true false = refl

-- the counted number is that of the view, up to a limit
pub unhanded_counted : (v : View) (e : Ends) → Sees v e → (m : ℕ) (slaves : List ℕ) (bits number stock : ℕ) → stock ≡ length (take number (candidates (ends_view e) m slaves bits false)) →
    stock ≡ min number (unhanded_group v m slaves bits)
unfolding unhanded_group
unhanded_counted v e seen m slaves bits number stock h =
    h ∙ ap (λ (ns : List Name). length (take number ns)) (candidates_seen v e seen m slaves bits false)
    ∙ length-take number (candidates v m slaves bits false)
    ∙ ap (min number) (length-filter (is_candidate v m slaves bits false) (own_names v)
    ∙ same_tests (is_candidate v m slaves bits false) (is_unhanded_group v m slaves bits) (λ n. and_true (is_unhanded_group v m slaves bits n)) (own_names v))

pub parts_seen : (v : View) (e : Ends) → Sees v e → (key : Name) (m : ℕ) (routes : List (ℕ × List ℕ)) (bytes : List ℕ) (more : ℕ) → new_parts (ends_view e) key m routes bytes more ≡ new_parts v key m routes bytes more
parts_seen v e seen key m [] bytes more = refl
parts_seen v e seen key m (w ∷ ws) bytes more =
    (λ i. Learned (Part (fresh_seen v e seen more i) key m w.0 w.1 bytes) ∷ parts_seen v e seen key m ws bytes (more + 1) i)

pub groups_seen : (v : View) (e : Ends) → Sees v e → (m : ℕ) (routes : List (ℕ × List ℕ)) (size : ℕ) (random : List ℕ) (more count : ℕ) →
    new_groups (ends_view e) m routes size random more count ≡ new_groups v m routes size random more count
groups_seen v e seen m routes size random more zero = refl
groups_seen v e seen m routes size random more (suc k) =
    (λ i. (ap (λ (n : Name). new_parts (ends_view e) n m routes (take size random) (more + 1)) (fresh_seen v e seen more) ∙ parts_seen v e seen (fresh_name v KeyKind more) m routes (take size random) (more + 1)) i
    ++ groups_seen v e seen m routes size (drop size random) (more + 1 + length routes) k i)

-- the records, group key by group key

pub one_group : (v : View) (m : ℕ) (routes : List (ℕ × List ℕ)) (size : ℕ) (random left front after : List ℕ) (more next count turn : ℕ) (key : Name) (batch longer : List Record) →
    batch ++ new_groups v m routes size left more (count - turn) ≡ new_groups v m routes size random 0 count → turn < count → key ≡ fresh_name v KeyKind more → front ≡ take size left →
    longer ≡ batch ++ new_parts v key m routes front (more + 1) → after ≡ drop size left → next ≡ more + 1 + length routes →
    longer ++ new_groups v m routes size after next (count - (turn + 1)) ≡ new_groups v m routes size random 0 count
one_group v m routes size random left front after more next count turn key batch longer h lt named f e d n =
    let step : count - turn ≡ suc (count - (turn + 1)) = omega arith in
    (λ i. (e ∙ (λ j. batch ++ new_parts v (named j) m routes (f j) (more + 1))) i ++ new_groups v m routes size (d i) (n i) (count - (turn + 1)))
    ∙ append_assoc batch (new_parts v (fresh_name v KeyKind more) m routes (take size left) (more + 1)) (new_groups v m routes size (drop size left) (more + 1 + length routes) (count - (turn + 1)))
    ∙ ap (λ (k : ℕ). batch ++ new_groups v m routes size left more k) (sym step)
    ∙ h

-- handing out group keys (enc)

module _ (site : Site) (v : View) (m : ℕ) (slaves : List ℕ) (n bits : ℕ) (entitled : Bool) (test : entitled ≡ is_entitled_group site v m slaves) where
  enc_shown : enc_group site v m slaves n bits ≡ (if not entitled then Refuses NotAllowed
      else if nat_lt (length (group v m slaves bits)) n then Refuses (Few (length (group v m slaves bits)))
      else makes v (hand_to m (take n (group v m slaves bits))) (Handed (group_bytes v (take n (group v m slaves bits)))))
  unfolding enc_group
  enc_shown = ap (λ (b : Bool). if not b then Refuses NotAllowed
      else if nat_lt (length (group v m slaves bits)) n then Refuses (Few (length (group v m slaves bits)))
      else makes v (hand_to m (take n (group v m slaves bits))) (Handed (group_bytes v (take n (group v m slaves bits))))) (sym test)

  enc_by : (b : Bool) → entitled ≡ b → enc_group site v m slaves n bits ≡ (if not b then Refuses NotAllowed
      else if nat_lt (length (group v m slaves bits)) n then Refuses (Few (length (group v m slaves bits)))
      else makes v (hand_to m (take n (group v m slaves bits))) (Handed (group_bytes v (take n (group v m slaves bits)))))
  enc_by b is = enc_shown ∙ ap (λ (x : Bool). if not x then Refuses NotAllowed
      else if nat_lt (length (group v m slaves bits)) n then Refuses (Few (length (group v m slaves bits)))
      else makes v (hand_to m (take n (group v m slaves bits))) (Handed (group_bytes v (take n (group v m slaves bits))))) is

  pub enc_refuses : entitled ≡ false → IsStep v [] (enc_group site v m slaves n bits) (Err NotAllowed)
  enc_refuses is = same_step v (enc_group site v m slaves n bits) (Refuses NotAllowed) (Err NotAllowed) (enc_by false is) refl

  module _ (is : entitled ≡ true) (ready : ℕ) (counted : ready ≡ length (take n (group v m slaves bits))) where
    long : ready ≡ min n (length (group v m slaves bits))
    long = counted ∙ length-take n (group v m slaves bits)

    enc_entitled : (few : Bool) → nat_lt (length (group v m slaves bits)) n ≡ few →
        enc_group site v m slaves n bits ≡ (if few then Refuses (Few (length (group v m slaves bits))) else makes v (hand_to m (take n (group v m slaves bits))) (Handed (group_bytes v (take n (group v m slaves bits)))))
    enc_entitled few t =
        enc_by true is
        ∙ ap (λ (b : Bool). if b then Refuses (Few (length (group v m slaves bits))) else makes v (hand_to m (take n (group v m slaves bits))) (Handed (group_bytes v (take n (group v m slaves bits))))) t

    pub enc_few : ready < n → IsStep v [] (enc_group site v m slaves n bits) (Err (Few ready))
    enc_few lt =
        let e : length (group v m slaves bits) ≡ ready = let l = long in omega arith in
        let t : nat_lt (length (group v m slaves bits)) n ≡ true = let l = long in grind (arith, nat_tests) in
        same_step v (enc_group site v m slaves n bits) (Refuses (Few ready)) (Err (Few ready)) (enc_entitled true t ∙ ap (λ (k : ℕ). Refuses (Few k)) e) refl

    module _ (le : n ≤ ready) where
      enc_makes : enc_group site v m slaves n bits ≡ makes v (hand_to m (take n (group v m slaves bits))) (Handed (group_bytes v (take n (group v m slaves bits))))
      enc_makes = enc_entitled false (let l = long in grind (arith, nat_tests))

      pub enc_memory : IsStep v [] (enc_group site v m slaves n bits) (Err Memory)
      enc_memory = same_step v (enc_group site v m slaves n bits) (makes v (hand_to m (take n (group v m slaves bits))) (Handed (group_bytes v (take n (group v m slaves bits))))) (Err Memory) enc_makes refl

      pub enc_hands : (names : List Name) (r : Result Step Reply) → names ≡ take n (group v m slaves bits) → IsStep v [] (makes v (hand_to m names) (Handed (held_keys Group v.facts names))) r →
          IsStep v [] (enc_group site v m slaves n bits) r
      enc_hands names r first h =
          same_step v (enc_group site v m slaves n bits) (makes v (hand_to m names) (Handed (group_bytes v names))) r
          (enc_makes ∙ ap (λ (ns : List Name). makes v (hand_to m ns) (Handed (group_bytes v ns))) (sym first)) h

-- filling a pool of group keys (fill)

module _ (v : View) (m : ℕ) (slaves : List ℕ) (bits count : ℕ) (random : List ℕ) (routes : List (ℕ × List ℕ)) (stock : ℕ) (counted : stock ≡ min 4097 (unhanded_group v m slaves bits)) where
  filled_by : (full : Bool) → nat_lt 4096 (unhanded_group v m slaves bits + count) ≡ full →
      filled_group v m slaves bits count random (Some routes) ≡ (if full then Refuses PoolFull else makes v (new_groups v m routes (bits / 8) random 0 count) (MadeKeys count (fresh_name v KeyKind 0)))
  filled_by full t = ap (λ (b : Bool). if b then Refuses PoolFull else makes v (new_groups v m routes (bits / 8) random 0 count) (MadeKeys count (fresh_name v KeyKind 0))) t

  pub filled_full : 4096 < stock + count → IsStep v [] (filled_group v m slaves bits count random (Some routes)) (Err PoolFull)
  filled_full lt =
      same_step v (filled_group v m slaves bits count random (Some routes)) (Refuses PoolFull) (Err PoolFull)
      (filled_by true (let c = counted in let t : nat_lt 4096 (unhanded_group v m slaves bits + count) ≡ true = grind (arith, nat_tests) in t)) refl

  fits : stock + count ≤ 4096 → filled_group v m slaves bits count random (Some routes) ≡ makes v (new_groups v m routes (bits / 8) random 0 count) (MadeKeys count (fresh_name v KeyKind 0))
  fits le = filled_by false (let c = counted in let t : nat_lt 4096 (unhanded_group v m slaves bits + count) ≡ false = grind (arith, nat_tests) in t)

  pub filled_memory : stock + count ≤ 4096 → IsStep v [] (filled_group v m slaves bits count random (Some routes)) (Err Memory)
  filled_memory le =
      same_step v (filled_group v m slaves bits count random (Some routes)) (makes v (new_groups v m routes (bits / 8) random 0 count) (MadeKeys count (fresh_name v KeyKind 0))) (Err Memory) (fits le) refl

  pub filled_makes : stock + count ≤ 4096 → (batch : List Record) (first : Name) → batch ≡ new_groups v m routes (bits / 8) random 0 count → first ≡ fresh_name v KeyKind 0 →
      IsStep v [] (filled_group v m slaves bits count random (Some routes)) (Ok (record { batch = batch; reply = MadeKeys count first; change = Same }))
  filled_makes le batch first b f =
      same_step v (filled_group v m slaves bits count random (Some routes)) (makes v (new_groups v m routes (bits / 8) random 0 count) (MadeKeys count (fresh_name v KeyKind 0)))
      (Ok (record { batch = batch; reply = MadeKeys count first; change = Same })) (fits le)
      (record { batch = b; reply = ap (MadeKeys count) f; orders = refl; volatile = refl })

module _ (site : Site) (up : ℕ → Bool) (v : View) (m : ℕ) (slaves : List ℕ) (bits count : ℕ) (random : List ℕ) (entitled : Bool) (test : entitled ≡ is_entitled_group site v m slaves) where
  fill_by : (b : Bool) → entitled ≡ b → fill_group site up v m slaves bits count random ≡ (if not b then Refuses NotAllowed else filled_group v m slaves bits count random (routes_to site up v.me slaves))
  unfolding fill_group
  fill_by b is = ap (λ (x : Bool). if not x then Refuses NotAllowed else filled_group v m slaves bits count random (routes_to site up v.me slaves)) (sym test ∙ is)

  pub fill_refuses : entitled ≡ false → IsStep v [] (fill_group site up v m slaves bits count random) (Err NotAllowed)
  fill_refuses is = same_step v (fill_group site up v m slaves bits count random) (Refuses NotAllowed) (Err NotAllowed) (fill_by false is) refl

  module _ (is : entitled ≡ true) where
    pub fill_routed : (o : Option (List (ℕ × List ℕ))) → routes_to site up v.me slaves ≡ o → (r : Result Step Reply) → IsStep v [] (filled_group v m slaves bits count random o) r → IsStep v [] (fill_group site up v m slaves bits count random) r
    fill_routed o routed r h =
        same_step v (fill_group site up v m slaves bits count random) (filled_group v m slaves bits count random o) r (fill_by true is ∙ ap (filled_group v m slaves bits count random) routed) h

-- the case in which all slaves have routes
pub by_routes : (v : View) (m : ℕ) (slaves : List ℕ) (bits count : ℕ) (random : List ℕ) (o : Option (List (ℕ × List ℕ))) (r : Result Step Reply) → is_some o ≡ true →
    ((routes : List (ℕ × List ℕ)) → o ≡ Some routes → IsStep v [] (filled_group v m slaves bits count random (Some routes)) r) → IsStep v [] (filled_group v m slaves bits count random o) r
by_routes v m slaves bits count random None r h all = absurd (let u : ⊥ = cc in u)
by_routes v m slaves bits count random (Some routes) r h all = all routes refl

pub not_there : {A : Type 0} (o : Option A) → false ≡ is_some o → o ≡ None
not_there None h = refl
not_there (Some x) h = absurd (let u : ⊥ = cc in u)
