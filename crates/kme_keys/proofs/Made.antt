-- Decisions about new keys.
use Rattle.std.proofs.Common.{◌≡◌, ℕ, zero, suc, ◌+◌, ◌-◌, ◌<◌, ◌≤◌, Bool, true, false, not, List, [], ◌∷◌, ◌++◌, refl, sym, ◌∙◌, ap, arith, take, drop, min, Option, Some, Ok, Err, Result, append_assoc}
use Rattle.std.specs.Prelude.{◌/◌, nat_lt, count_by, ◌&&◌, if◌then◌else◌}
use Rattle.std.proofs.lemmas.Bool.Decides.{nat_tests}
use Rattle.qkd_base.specs.Name.{Name}
use Rattle.qkd_base.specs.declared.key_name.NameKind.TheVariants.{Key as KeyKind}
use Rattle.net_model.specs.declared.fact.Fact.TheVariants.{Key}
use Rattle.net_model.specs.declared.record.Record.{Record}
use Rattle.net_model.specs.declared.record.Record.TheVariants.{Learned}
use Rattle.net_model.specs.declared.reply.Reply.{Reply}
use Rattle.net_model.specs.declared.reply.Reply.TheVariants.{NotAllowed, PoolFull, Memory, MadeKeys}
use Rattle.net_model.specs.Table.{name_of, was_handed}
use Rattle.net_model.specs.Site.{Site}
use Rattle.net_model.specs.Routes.{route}
use Rattle.net_model.specs.View.{View}
use Rattle.net_model.specs.Decision.{Decision, Refuses, last_count, makes, fresh_name}
use Rattle.net_model.specs.Pools.{is_entitled, is_key_of, unhanded, new_keys, filled, fill}
use Rattle.end_store.specs.Waiting.{Ends}
use Rattle.end_store.specs.Pooled.{ends_view, Sees}
use Rattle.kme_base.specs.declared.change.Change.TheVariants.{Same}
use Rattle.kme_base.specs.declared.step.Step.{Step}
use Rattle.kme_base.specs.Steps.{IsStep}
use Rattle.kme_keys.proofs.Deciding.{same_step}

-- the view and the store agree

pub unhanded_seen : (v : View) (e : Ends) → Sees v e → (m s bits : ℕ) → unhanded (ends_view e) m s bits ≡ unhanded v m s bits
unfolding unhanded
unhanded_seen v e seen m s bits =
    let path : count_by (λ f. is_key_of m s bits (Some f) && not (was_handed v.handed (name_of f) m)) v.facts ≡ count_by (λ f. is_key_of m s bits (Some f) && not (was_handed e.handed (name_of f) m)) e.known.facts =
    (λ i. count_by (λ f. is_key_of m s bits (Some f) && not (was_handed (seen.handed i) (name_of f) m)) (seen.facts i)) in
    sym path

pub fresh_seen : (v : View) (e : Ends) → Sees v e → (more : ℕ) → fresh_name (ends_view e) KeyKind more ≡ fresh_name v KeyKind more
fresh_seen v e seen more =
    let path : fresh_name v KeyKind more ≡ fresh_name (ends_view e) KeyKind more = (λ i. record { node = seen.me i; kind = KeyKind; count = last_count (seen.me i) (seen.facts i) + 1 + more }) in
    sym path

pub keys_seen : (v : View) (e : Ends) → Sees v e → (m s : ℕ) (way : List ℕ) (size : ℕ) (random : List ℕ) (more count : ℕ) →
    new_keys (ends_view e) m s way size random more count ≡ new_keys v m s way size random more count
keys_seen v e seen m s way size random more zero = refl
keys_seen v e seen m s way size random more (suc k) =
    (λ i. Learned (Key (fresh_seen v e seen more i) m s way (take size random)) ∷ keys_seen v e seen m s way size (drop size random) (more + 1) k i)

-- the records, key by key

pub one_key : (v : View) (m s : ℕ) (way : List ℕ) (size : ℕ) (random left after : List ℕ) (more count : ℕ) (batch more_batch : List Record) →
    batch ++ new_keys v m s way size left more (count - more) ≡ new_keys v m s way size random 0 count → more < count →
    more_batch ≡ batch ++ Learned (Key (fresh_name v KeyKind more) m s way (take size left)) ∷ [] → after ≡ drop size left →
    more_batch ++ new_keys v m s way size after (more + 1) (count - (more + 1)) ≡ new_keys v m s way size random 0 count
one_key v m s way size random left after more count batch more_batch h lt e d =
    let step : count - more ≡ suc (count - (more + 1)) = omega arith in
    let x : Record = Learned (Key (fresh_name v KeyKind more) m s way (take size left)) in
    ap (λ (bs : List Record). bs ++ new_keys v m s way size after (more + 1) (count - (more + 1))) e
    ∙ ap (λ (os : List ℕ). (batch ++ x ∷ []) ++ new_keys v m s way size os (more + 1) (count - (more + 1))) d
    ∙ append_assoc batch (x ∷ []) (new_keys v m s way size (drop size left) (more + 1) (count - (more + 1)))
    ∙ ap (λ (k : ℕ). batch ++ new_keys v m s way size left more k) (sym step)
    ∙ h

-- filling a pool (fill)

module _ (v : View) (m s bits count : ℕ) (random way : List ℕ) (stock : ℕ) (counted : stock ≡ min 4097 (unhanded v m s bits)) where
  rest : Decision
  rest = makes v (new_keys v m s way (bits / 8) random 0 count) (MadeKeys count (fresh_name v KeyKind 0))

  pub filled_full : 4096 < stock + count → IsStep v [] (filled v m s bits count random (Some way)) (Err PoolFull)
  filled_full lt =
      same_step v (filled v m s bits count random (Some way)) (Refuses PoolFull) (Err PoolFull)
      (ap (λ (b : Bool). if b then Refuses PoolFull else makes v (new_keys v m s way (bits / 8) random 0 count) (MadeKeys count (fresh_name v KeyKind 0))) (let c = counted in let t : nat_lt 4096 (unhanded v m s bits + count) ≡ true = grind (arith, nat_tests) in t)) refl

  fits : stock + count ≤ 4096 → filled v m s bits count random (Some way) ≡ makes v (new_keys v m s way (bits / 8) random 0 count) (MadeKeys count (fresh_name v KeyKind 0))
  fits le =
      ap (λ (b : Bool). if b then Refuses PoolFull else makes v (new_keys v m s way (bits / 8) random 0 count) (MadeKeys count (fresh_name v KeyKind 0))) (let c = counted in let t : nat_lt 4096 (unhanded v m s bits + count) ≡ false = grind (arith, nat_tests) in t)

  pub filled_memory : stock + count ≤ 4096 → IsStep v [] (filled v m s bits count random (Some way)) (Err Memory)
  filled_memory le = same_step v (filled v m s bits count random (Some way)) (makes v (new_keys v m s way (bits / 8) random 0 count) (MadeKeys count (fresh_name v KeyKind 0))) (Err Memory) (fits le) refl

  pub filled_makes : stock + count ≤ 4096 → (batch : List Record) (first : Name) → batch ≡ new_keys v m s way (bits / 8) random 0 count → first ≡ fresh_name v KeyKind 0 →
      IsStep v [] (filled v m s bits count random (Some way)) (Ok (record { batch = batch; reply = MadeKeys count first; change = Same }))
  filled_makes le batch first b f =
      same_step v (filled v m s bits count random (Some way)) (makes v (new_keys v m s way (bits / 8) random 0 count) (MadeKeys count (fresh_name v KeyKind 0)))
      (Ok (record { batch = batch; reply = MadeKeys count first; change = Same })) (fits le)
      (record { batch = b; reply = ap (MadeKeys count) f; orders = refl; volatile = refl })

module _ (site : Site) (up : ℕ → Bool) (v : View) (m s bits count : ℕ) (random : List ℕ) (entitled : Bool) (test : entitled ≡ is_entitled site v m m s) where
  fill_shown : fill site up v m s bits count random ≡ (if not entitled then Refuses NotAllowed else filled v m s bits count random (route site up v.me (site.home s)))
  unfolding fill
  fill_shown = ap (λ (b : Bool). if not b then Refuses NotAllowed else filled v m s bits count random (route site up v.me (site.home s))) (sym test)

  pub fill_refuses : entitled ≡ false → IsStep v [] (fill site up v m s bits count random) (Err NotAllowed)
  fill_refuses is =
      same_step v (fill site up v m s bits count random) (Refuses NotAllowed) (Err NotAllowed)
      (fill_shown ∙ ap (λ (b : Bool). if not b then Refuses NotAllowed else filled v m s bits count random (route site up v.me (site.home s))) is) refl

  module _ (is : entitled ≡ true) (way : Option (List ℕ)) (routed : way ≡ route site up v.me (site.home s)) where
    fill_routed : fill site up v m s bits count random ≡ filled v m s bits count random way
    fill_routed =
        fill_shown ∙ ap (λ (b : Bool). if not b then Refuses NotAllowed else filled v m s bits count random (route site up v.me (site.home s))) is
        ∙ ap (filled v m s bits count random) (sym routed)

    pub fill_decides : (r : Result Step Reply) → IsStep v [] (filled v m s bits count random way) r → IsStep v [] (fill site up v m s bits count random) r
    fill_decides r h = same_step v (fill site up v m s bits count random) (filled v m s bits count random way) r fill_routed h
