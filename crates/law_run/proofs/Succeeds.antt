-- Requests for keys succeed whatever the outside answers, unless memory runs out or the disk fails.
use Rattle.std.proofs.Common.{◌≡◌, ◌∙◌, ℕ, ◌<◌, ◌≤◌, true, false, List, length, refl, sym, ap, subst, arith}
use Rattle.std.specs.Prelude.{take, if◌then◌else◌}
use Rattle.std.specs.List.{list_all}
use Rattle.std.proofs.lemmas.List.{length-take}
use Rattle.qkd_base.specs.Name.{Name}
use Rattle.net_model.specs.declared.event.Event.{Event}
use Rattle.net_model.specs.declared.event.Event.TheVariants.{Enc, EncGroup}
use Rattle.net_model.specs.declared.reply.Reply.TheVariants.{Down}
use Rattle.net_model.specs.World.{Network, World}
use Rattle.net_model.specs.Invariant.{Conserved}
use Rattle.net_model.specs.Needed.{view_of}
use Rattle.net_model.specs.OctetSequence.{octets_from}
use Rattle.net_model.specs.Pools.{pool}
use Rattle.net_model.specs.Groups.{group}
use Rattle.net_model.specs.Decision.{Decision, Refuses, Does, Effect}
use Rattle.net_model.specs.Decide.{decide, random_need}
use Rattle.net_model.specs.Action.{Environment, Ok, OutOfMemory, EntropyFault, IoFault, DeviceFault, Ask, Outcome, Replies, is_io_fault, is_no_memory}
use Rattle.net_model.specs.Handle.{perform, resolve, handle}
use Rattle.net_model.specs.Step.{step}
use Rattle.run_model.specs.Keys.{MaySucceed, Answers}
use Rattle.law_safety.specs.Truth.{IsAnswered}
use Rattle.law_safety.proofs.Success.{enc_succeeds, enc_group_succeeds}

-- Without such a fault, an event that draws nothing has the same result as with good answers of the outside.
performs_well : (net : Network) (w : World) (v : ℕ) (environment : Environment) (e : Effect) → is_io_fault environment ≡ false → is_no_memory environment ≡ false →
    perform net w v 0 environment e ≡ perform net w v 0 Ok e
unfolding perform
performs_well net w v Ok e h k = refl
performs_well net w v OutOfMemory e h k = cc
performs_well net w v EntropyFault e h k = refl
performs_well net w v IoFault e h k = cc
performs_well net w v DeviceFault e h k = refl

resolves_well : (net : Network) (w : World) (v : ℕ) (environment : Environment) (x : Decision) → is_io_fault environment ≡ false → is_no_memory environment ≡ false →
    resolve net w v 0 environment x ≡ resolve net w v 0 Ok x
resolves_well net w v environment (Refuses reply) h k = refl
resolves_well net w v environment (Does e) h k = performs_well net w v environment e h k

answers_well : (net : Network) (w : World) (v : ℕ) (environment : Environment) (event : Event) → random_need (view_of net w v) event ≡ 0 → is_io_fault environment ≡ false → is_no_memory environment ≡ false →
    handle net w v event environment ≡ handle net w v event Ok
unfolding handle
answers_well net w v environment event none h k =
    let x : Decision = decide net.site net.sealing w.link_up (view_of net w v) (octets_from (net.entropy v).octet (w.drawn v) (random_need (view_of net w v) event)) event in
    ap (λ (n : ℕ). if w.up v then resolve net w v n environment x else (w, Replies Down)) none ∙
    ap (λ (r : World × Outcome). if w.up v then r else (w, Replies Down)) (resolves_well net w v environment x h k) ∙
    sym (ap (λ (n : ℕ). if w.up v then resolve net w v n Ok x else (w, Replies Down)) none)

enough_of : {A : Type 0} (n : ℕ) (xs : List A) → length (take n xs) ≡ n → n ≤ length xs
enough_of n xs h = let is = length-take n xs in omega (arith, h, is)

as_answers : (w : World) (m : ℕ) (ns : List Name) (out : Outcome) → IsAnswered w.durable.facts m ns out → Answers w m ns out
as_answers w m ns out h = record { keys = h.keys; is = h.is; names = h.names; bytes = h.bytes }

pub asked_succeeds : (net : Network) (w : World) (v m t n bits : ℕ) (environment : Environment) → Conserved net w → net.site.allowed m t ≡ true →
    MaySucceed net w v environment (take n (pool (view_of net w v) m t bits)) m n →
    Answers w m (take n (pool (view_of net w v) m t bits)) (step net w (Ask v (Enc m t n bits) environment)).1
unfolding step random_need
asked_succeeds net w v m t n bits environment c allowed h =
    let ns : List Name = take n (pool (view_of net w v) m t bits) in
    as_answers w m ns _
    (subst (λ (r : World × Outcome). IsAnswered w.durable.facts m ns r.1) (sym (answers_well net w v environment (Enc m t n bits) refl h.disk h.memory))
    (enc_succeeds net w v m t n bits c h.up allowed h.home (enough_of n (pool (view_of net w v) m t bits) h.enough) h.room))

pub asked_group_succeeds : (net : Network) (w : World) (v m n bits : ℕ) (slaves : List ℕ) (environment : Environment) → Conserved net w → 0 < length slaves →
    list_all (λ s. net.site.allowed m s) slaves ≡ true → MaySucceed net w v environment (take n (group (view_of net w v) m slaves bits)) m n →
    Answers w m (take n (group (view_of net w v) m slaves bits)) (step net w (Ask v (EncGroup m slaves n bits) environment)).1
unfolding step random_need
asked_group_succeeds net w v m n bits slaves environment c some allowed h =
    let ns : List Name = take n (group (view_of net w v) m slaves bits) in
    as_answers w m ns _
    (subst (λ (r : World × Outcome). IsAnswered w.durable.facts m ns r.1) (sym (answers_well net w v environment (EncGroup m slaves n bits) refl h.disk h.memory))
    (enc_group_succeeds net w v m slaves n bits c h.up h.home allowed some (enough_of n (group (view_of net w v) m slaves bits) h.enough) h.room))
