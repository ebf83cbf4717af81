-- Decisions about ready keys and named keys.
use Rattle.std.proofs.Common.{◌≡◌, ℕ, zero, suc, ◌+◌, ◌<◌, ◌≤◌, Bool, true, false, cond, not, ◌&&◌, List, [], ◌∷◌, ◌++◌, length, refl, sym, ◌∙◌, ap, subst, arith, take, min, Option, Some, None, Err, Result, length-append}
use Rattle.std.specs.Prelude.{filter, find, nat_lt, is_some, OnErr, if◌then◌else◌}
use Rattle.std.specs.List.{list_any}
use Rattle.std.proofs.lemmas.Bool.Decides.{nat_tests}
use Rattle.std.proofs.lemmas.List.{length-take, take_all}
use Rattle.std.proofs.lemmas.List.Elements.{filter-append}
use Rattle.qkd_base.specs.Name.{Name, has}
use Rattle.qkd_base.specs.declared.key_name.NameKind.TheVariants.{Key as KeyKind}
use Rattle.net_model.specs.declared.reply.Reply.{Reply}
use Rattle.net_model.specs.declared.reply.Reply.TheVariants.{Handed, NotAllowed, Few, Memory, ReadyCount, Unknown, Repeated, AlreadyHanded}
use Rattle.net_model.specs.Table.{fact_at, was_handed, is_stored_about}
use Rattle.net_model.specs.Site.{Site}
use Rattle.net_model.specs.View.{View}
use Rattle.net_model.specs.Decision.{Decision, Refuses, last_count, makes, answers}
use Rattle.net_model.specs.Pools.{is_entitled, names_up_to, is_key_of, is_for, is_in_pool, pool, enc, hand_to, with_bytes, dec, decs, dec_fault, slave_bytes, status}
use Rattle.relay_core.specs.Knowledge.{Knowledge}
use Rattle.end_store.specs.Waiting.{Ends, own}
use Rattle.end_store.specs.Pooled.{ends_view, Sees}
use Rattle.kme_base.specs.declared.step.Step.{Step}
use Rattle.kme_base.specs.Steps.{IsStep}
use Rattle.kme_keys.specs.declared.holder.Holder.TheVariants.{Named, ForSlave}
use Rattle.kme_keys.specs.Holding.{held_keys, name_fault}

pub same_step : (v : View) (d e : Decision) (r : Result Step Reply) → d ≡ e → IsStep v [] e r → IsStep v [] d r
same_step v d e r path h = subst (λ (x : Decision). IsStep v [] x r) (sym path) h

-- what a contract says of a call that gave an error
pub at_err : {T E P : Type 0} (r : Result T E) (e : E) → r ≡ Err e → OnErr r P → P
at_err {T} {E} {P} r e is h = let F : Result T E → Type 0 = λ x. OnErr x P in subst F is h

-- the view and the store agree

pub me_seen : (v : View) (e : Ends) → Sees v e → (k : Knowledge) (me : ℕ) → k ≡ e.known → me ≡ k.me → v.me ≡ me
me_seen v e seen k me is from = seen.me ∙ ap (λ (x : Knowledge). x.me) (sym is) ∙ sym from

pub pool_seen : (v : View) (e : Ends) → Sees v e → (m s bits : ℕ) → pool (ends_view e) m s bits ≡ pool v m s bits
unfolding pool
pool_seen v e seen m s bits =
    let path : filter (is_in_pool v m s bits) (names_up_to v.me KeyKind (last_count v.me v.facts)) ≡ filter (is_in_pool (ends_view e) m s bits) (names_up_to e.known.me KeyKind (last_count e.known.me e.known.facts)) =
    (λ i. filter (λ n. is_key_of m s bits (fact_at (seen.facts i) n) && list_any (is_stored_about n) (seen.facts i) && not (was_handed (seen.handed i) n m)) (names_up_to (seen.me i) KeyKind (last_count (seen.me i) (seen.facts i)))) in
    sym path

pub fault_seen : (v : View) (e : Ends) → Sees v e → (m s : ℕ) (before ns : List Name) → dec_fault (ends_view e) m s before ns ≡ dec_fault v m s before ns
fault_seen v e seen m s before [] = refl
fault_seen v e seen m s before (n ∷ ns) =
    let facts = sym seen.facts in
    let handed = sym seen.handed in
    let path : (if not (is_some (find (is_for m s n) e.known.facts)) then Some (Unknown (length before))
    else if has before n then Some (Repeated (length before))
    else if was_handed e.handed n s then Some (AlreadyHanded (length before)) else dec_fault (ends_view e) m s (before ++ n ∷ []) ns)
    ≡ (if not (is_some (find (is_for m s n) v.facts)) then Some (Unknown (length before))
    else if has before n then Some (Repeated (length before))
    else if was_handed v.handed n s then Some (AlreadyHanded (length before)) else dec_fault v m s (before ++ n ∷ []) ns) =
    (λ i. if not (is_some (find (is_for m s n) (facts i))) then Some (Unknown (length before))
    else if has before n then Some (Repeated (length before))
    else if was_handed (handed i) n s then Some (AlreadyHanded (length before)) else fault_seen v e seen m s (before ++ n ∷ []) ns i) in
    path

-- handing out ready keys (enc)

module _ (site : Site) (v : View) (m s n bits : ℕ) (entitled : Bool) (test : entitled ≡ is_entitled site v m m s) where
  enc_shown : enc site v m s n bits ≡ (if not entitled then Refuses NotAllowed
      else if nat_lt (length (pool v m s bits)) n then Refuses (Few (length (pool v m s bits)))
      else makes v (hand_to m (take n (pool v m s bits))) (Handed (with_bytes v (take n (pool v m s bits)))))
  unfolding enc
  enc_shown = ap (λ (b : Bool). if not b then Refuses NotAllowed
      else if nat_lt (length (pool v m s bits)) n then Refuses (Few (length (pool v m s bits)))
      else makes v (hand_to m (take n (pool v m s bits))) (Handed (with_bytes v (take n (pool v m s bits))))) (sym test)

  pub enc_refuses : entitled ≡ false → IsStep v [] (enc site v m s n bits) (Err NotAllowed)
  enc_refuses is =
      same_step v (enc site v m s n bits) (Refuses NotAllowed) (Err NotAllowed)
      (enc_shown ∙ ap (λ (b : Bool). if not b then Refuses NotAllowed
      else if nat_lt (length (pool v m s bits)) n then Refuses (Few (length (pool v m s bits)))
      else makes v (hand_to m (take n (pool v m s bits))) (Handed (with_bytes v (take n (pool v m s bits))))) is)
      refl

  module _ (is : entitled ≡ true) (ready : ℕ) (counted : ready ≡ length (take n (pool v m s bits))) where
    long : ready ≡ min n (length (pool v m s bits))
    long = counted ∙ length-take n (pool v m s bits)

    enc_entitled : (few : Bool) → nat_lt (length (pool v m s bits)) n ≡ few →
        enc site v m s n bits ≡ (if few then Refuses (Few (length (pool v m s bits))) else makes v (hand_to m (take n (pool v m s bits))) (Handed (with_bytes v (take n (pool v m s bits)))))
    enc_entitled few t =
        enc_shown ∙ ap (λ (b : Bool). if not b then Refuses NotAllowed
        else if nat_lt (length (pool v m s bits)) n then Refuses (Few (length (pool v m s bits)))
        else makes v (hand_to m (take n (pool v m s bits))) (Handed (with_bytes v (take n (pool v m s bits))))) is
        ∙ ap (λ (b : Bool). if b then Refuses (Few (length (pool v m s bits))) else makes v (hand_to m (take n (pool v m s bits))) (Handed (with_bytes v (take n (pool v m s bits))))) t

    pub enc_few : ready < n → IsStep v [] (enc site v m s n bits) (Err (Few ready))
    enc_few lt =
        let e : length (pool v m s bits) ≡ ready = let l = long in omega arith in
        let t : nat_lt (length (pool v m s bits)) n ≡ true = let l = long in grind (arith, nat_tests) in
        same_step v (enc site v m s n bits) (Refuses (Few ready)) (Err (Few ready)) (enc_entitled true t ∙ ap (λ (k : ℕ). Refuses (Few k)) e) refl

    module _ (le : n ≤ ready) where
      enc_makes : enc site v m s n bits ≡ makes v (hand_to m (take n (pool v m s bits))) (Handed (with_bytes v (take n (pool v m s bits))))
      enc_makes = enc_entitled false (let l = long in grind (arith, nat_tests))

      pub enc_memory : IsStep v [] (enc site v m s n bits) (Err Memory)
      enc_memory = same_step v (enc site v m s n bits) (makes v (hand_to m (take n (pool v m s bits))) (Handed (with_bytes v (take n (pool v m s bits))))) (Err Memory) enc_makes refl

      pub enc_hands : (names : List Name) (r : Result Step Reply) → names ≡ take n (pool v m s bits) → IsStep v [] (makes v (hand_to m names) (Handed (held_keys Named v.facts names))) r → IsStep v [] (enc site v m s n bits) r
      enc_hands names r first h =
          same_step v (enc site v m s n bits) (makes v (hand_to m names) (Handed (with_bytes v names))) r
          (enc_makes ∙ ap (λ (ns : List Name). makes v (hand_to m ns) (Handed (with_bytes v ns))) (sym first)) h

-- handing out named keys (dec)

module _ (site : Site) (v : View) (s m : ℕ) (ns : List Name) (entitled : Bool) (test : entitled ≡ is_entitled site v s m s) where
  dec_shown : dec site v s m ns ≡ (if not entitled then Refuses NotAllowed else decs v m s ns (dec_fault v m s [] ns))
  unfolding dec
  dec_shown = ap (λ (b : Bool). if not b then Refuses NotAllowed else decs v m s ns (dec_fault v m s [] ns)) (sym test)

  pub dec_refuses : entitled ≡ false → IsStep v [] (dec site v s m ns) (Err NotAllowed)
  dec_refuses is =
      same_step v (dec site v s m ns) (Refuses NotAllowed) (Err NotAllowed) (dec_shown ∙ ap (λ (b : Bool). if not b then Refuses NotAllowed else decs v m s ns (dec_fault v m s [] ns)) is) refl

  dec_entitled : entitled ≡ true → (fault : Option Reply) → fault ≡ dec_fault v m s [] ns → dec site v s m ns ≡ decs v m s ns fault
  dec_entitled is fault e =
      dec_shown ∙ ap (λ (b : Bool). if not b then Refuses NotAllowed else decs v m s ns (dec_fault v m s [] ns)) is ∙ ap (decs v m s ns) (sym e)

  pub dec_faulty : entitled ≡ true → (fault : Reply) → Some fault ≡ dec_fault v m s [] ns → IsStep v [] (dec site v s m ns) (Err fault)
  dec_faulty is fault e = same_step v (dec site v s m ns) (Refuses fault) (Err fault) (dec_entitled is (Some fault) e) refl

  pub dec_hands : entitled ≡ true → None ≡ dec_fault v m s [] ns → (r : Result Step Reply) →
      IsStep v [] (makes v (hand_to s ns) (Handed (held_keys (ForSlave m s) v.facts ns))) r → IsStep v [] (dec site v s m ns) r
  dec_hands is e r h = same_step v (dec site v s m ns) (makes v (hand_to s ns) (Handed (slave_bytes v m s ns))) r (dec_entitled is None e) h

-- the first fault, if no earlier name has one
pub fault_found : (v : View) (m s : ℕ) (before : List Name) (n : Name) (ns : List Name) (fault : Reply) → Some fault ≡ name_fault v m s before n → dec_fault v m s before (n ∷ ns) ≡ Some fault
fault_found v m s before n ns fault e = by (is_some (find (is_for m s n) v.facts)) (has before n) (was_handed v.handed n s) e
  where
    by : (known again taken : Bool) →
        Some fault ≡ (if not known then Some (Unknown (length before)) else if again then Some (Repeated (length before)) else if taken then Some (AlreadyHanded (length before)) else None) →
        (if not known then Some (Unknown (length before)) else if again then Some (Repeated (length before)) else if taken then Some (AlreadyHanded (length before)) else dec_fault v m s (before ++ n ∷ []) ns) ≡ Some fault
    by false again taken h = sym h
    by true true taken h = sym h
    by true false true h = sym h
    by true false false h = absurd (let u : ⊥ = cc in u)

-- counting ready keys (status)

filtered_length : (P : Name → Bool) (me c : ℕ) → length (filter P (names_up_to me KeyKind c)) ≤ c
filtered_length P me zero = omega arith
filtered_length P me (suc c) =
    let e = filter-append P (names_up_to me KeyKind c) (own me (c + 1) ∷ []) in
    let l = length-append (filter P (names_up_to me KeyKind c)) (cond (P (own me (c + 1))) (own me (c + 1) ∷ []) []) in
    let f = ap length e in
    let h = filtered_length P me c in
    let o = one (P (own me (c + 1))) in
    omega arith
  where
    one : (b : Bool) → length (cond b (own me (c + 1) ∷ []) []) ≤ 1
    one true = omega arith
    one false = omega arith

pool_length : (v : View) (m s bits : ℕ) → length (pool v m s bits) ≤ last_count v.me v.facts
unfolding pool
pool_length v m s bits = filtered_length (is_in_pool v m s bits) v.me (last_count v.me v.facts)

pub counted_whole : (v : View) (m s bits number ready : ℕ) → ready ≡ length (take number (pool v m s bits)) → last_count v.me v.facts ≤ number → ready ≡ length (pool v m s bits)
counted_whole v m s bits number ready e le =
    let l = pool_length v m s bits in
    e ∙ ap length (take_all number (pool v m s bits) (omega arith))

module _ (site : Site) (v : View) (m s : ℕ) (entitled : Bool) (test : entitled ≡ is_entitled site v m m s) where
  status_shown : status site v m s ≡ (if not entitled then Refuses NotAllowed else answers v (ReadyCount (length (pool v m s 256))))
  unfolding status
  status_shown = ap (λ (b : Bool). if not b then Refuses NotAllowed else answers v (ReadyCount (length (pool v m s 256)))) (sym test)

  pub status_refuses : entitled ≡ false → IsStep v [] (status site v m s) (Err NotAllowed)
  status_refuses is =
      same_step v (status site v m s) (Refuses NotAllowed) (Err NotAllowed) (status_shown ∙ ap (λ (b : Bool). if not b then Refuses NotAllowed else answers v (ReadyCount (length (pool v m s 256)))) is) refl

  pub status_counts : entitled ≡ true → (ready : ℕ) → ready ≡ length (pool v m s 256) → (r : Result Step Reply) → IsStep v [] (answers v (ReadyCount ready)) r → IsStep v [] (status site v m s) r
  status_counts is ready e r h =
      same_step v (status site v m s) (answers v (ReadyCount ready)) r
      (status_shown ∙ ap (λ (b : Bool). if not b then Refuses NotAllowed else answers v (ReadyCount (length (pool v m s 256)))) is ∙ ap (λ (k : ℕ). answers v (ReadyCount k)) (sym e)) h
