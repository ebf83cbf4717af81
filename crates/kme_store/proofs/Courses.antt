-- An event changes the network as it changes the manager that is asked.
use Rattle.std.proofs.Common.{◌≡◌, ℕ, zero, suc, ◌+◌, ◌-◌, Bool, true, false, not, ◌&&◌, ◌||◌, List, ◌∷◌, refl, sym, ap, ◌∙◌, arith, add-zero, zero-add}
use Rattle.std.specs.Prelude.{nat_lt, Option, Some, None, option_map, if◌then◌else◌}
use Rattle.std.specs.List.{list_all}
use Rattle.std.proofs.lemmas.Bool.Decides.{nat_tests}
use Rattle.net_model.specs.declared.event.Event.{Event}
use Rattle.net_model.specs.declared.reply.Reply.{Reply}
use Rattle.net_model.specs.declared.reply.Reply.TheVariants.{Down, Stopped, Memory, JournalFull, NoRandom}
use Rattle.net_model.specs.OctetSequence.{OctetSequence, reaches, has_octets, octets_from}
use Rattle.net_model.specs.Sealing.{Sealing}
use Rattle.net_model.specs.World.{Network, World}
use Rattle.net_model.specs.View.{View}
use Rattle.net_model.specs.Needed.{view_of}
use Rattle.net_model.specs.Journal.{added_len, is_nil, journal_limit}
use Rattle.net_model.specs.Decision.{Decision, Refuses, Does, Effect}
use Rattle.net_model.specs.Decide.{decide, random_need}
use Rattle.net_model.specs.Handle.{is_numbered, commit, stopped, perform, resolve, handle}
use Rattle.net_model.specs.Action.{Environment, Replies, is_no_memory, is_entropy_fault, is_io_fault}
use Rattle.hop_frames.specs.Sealing.{hop_sealing}
use Rattle.source_devices.specs.Telling.{IsRest}
use Rattle.kme_store.specs.Course.{Stays, Stops, Goes, performed, resolved, decided, course, in_world}

-- the next octets are those at the entropy's place
pub same_octets : (f g : ℕ → ℕ) (p q n : ℕ) → ((i : ℕ) → g (q + i) ≡ f (p + i)) → octets_from f p n ≡ octets_from g q n
unfolding octets_from
same_octets f g p q zero same = refl
same_octets f g p q (suc n) same =
    let here : f p ≡ g q = sym (ap g (sym (add-zero q)) ∙ same 0 ∙ ap f (add-zero p)) in
    let rest : octets_from f (p + 1) n ≡ octets_from g (q + 1) n = same_octets f g (p + 1) (q + 1) n (λ i. let a : (q + 1) + i ≡ q + (1 + i) = omega arith in let b : p + (1 + i) ≡ (p + 1) + i = omega arith in ap g a ∙ same (1 + i) ∙ ap f b) in
    ap (λ (x : ℕ). x ∷ octets_from f (p + 1) n) here ∙ ap (λ (xs : List ℕ). g q ∷ xs) rest

same_reach : (end : Option ℕ) (n k : ℕ) → reaches end (n + suc k) ≡ reaches (option_map (λ (e : ℕ). e - n) end) (suc k)
same_reach None n k = refl
same_reach (Some e) n k = grind (arith, nat_tests)

-- whether octets are needed that the entropy doesn't have
wanting : (t rest : OctetSequence) (n octets : ℕ) (fails : Bool) → IsRest t n rest →
    (nat_lt 0 octets && (not (has_octets t (n + octets)) || fails)) ≡ (nat_lt 0 octets && (not (has_octets rest octets) || fails))
wanting t rest n zero fails r = refl
wanting t rest n (suc k) fails r =
    ap (λ (b : Bool). nat_lt 0 (suc k) && (not b || fails)) (same_reach t.end n k ∙ ap (λ (e : Option ℕ). reaches e (suc k)) (sym r.last))

chain : (net : Network) (w : World) (v octets : ℕ) (effect : Effect) (full : Reply) (a b c d : Bool) →
    (if a then (w, Replies Memory)
    else if b then (w, Replies full)
    else if c then (w, Replies NoRandom)
    else if d then (stopped w v octets effect, Replies Stopped)
    else (commit net.site w v octets effect, Replies effect.reply)) ≡
    in_world net w v (if a then Stays Memory else if b then Stays full else if c then Stays NoRandom else if d then Stops octets effect else Goes octets effect)
chain net w v octets effect full true b c d = refl
chain net w v octets effect full false true c d = refl
chain net w v octets effect full false false true d = refl
chain net w v octets effect full false false false true = refl
chain net w v octets effect full false false false false = refl

by_effect : (net : Network) (w : World) (v octets : ℕ) (environment : Environment) (rest : OctetSequence) (effect : Effect) → IsRest (net.entropy v) (w.drawn v) rest →
    perform net w v octets environment effect ≡ in_world net w v (performed (w.journal v) rest octets environment effect)
unfolding perform performed
by_effect net w v octets environment rest effect r =
    let added : ℕ = added_len (w.journal v).version effect.batch in
    let full : Reply = JournalFull (w.journal v).length' added in
    let a : Bool = is_no_memory environment || not (list_all is_numbered effect.batch) in
    let b : Bool = nat_lt journal_limit ((w.journal v).length' + added) in
    let d : Bool = is_io_fault environment && not (is_nil effect.batch) in
    chain net w v octets effect full a b (nat_lt 0 octets && (not (has_octets (net.entropy v) (w.drawn v + octets)) || is_entropy_fault environment)) d
    ∙ ap (λ (c : Bool). in_world net w v (if a then Stays Memory else if b then Stays full else if c then Stays NoRandom else if d then Stops octets effect else Goes octets effect))
    (wanting (net.entropy v) rest (w.drawn v) octets (is_entropy_fault environment) r)

by_decision : (net : Network) (w : World) (v octets : ℕ) (environment : Environment) (rest : OctetSequence) (d : Decision) → IsRest (net.entropy v) (w.drawn v) rest →
    resolve net w v octets environment d ≡ in_world net w v (resolved (w.journal v) rest octets environment d)
by_decision net w v octets environment rest (Refuses reply) r = refl
by_decision net w v octets environment rest (Does effect) r = by_effect net w v octets environment rest effect r

pub asks : (net : Network) (w : World) (v : ℕ) (event : Event) (environment : Environment) (rest : OctetSequence) →
    net.sealing ≡ hop_sealing → w.up v ≡ true → IsRest (net.entropy v) (w.drawn v) rest →
    handle net w v event environment ≡ in_world net w v (course net.site w.link_up (view_of net w v) (w.journal v) rest event environment)
unfolding handle
asks net w v event environment rest s u r =
    let view : View = view_of net w v in
    let n : ℕ = random_need view event in
    let given : List ℕ = octets_from (net.entropy v).octet (w.drawn v) n in
    let left : List ℕ = octets_from rest.octet 0 n in
    ap (λ (t : Bool). if t then resolve net w v n environment (decide net.site net.sealing w.link_up view given event) else (w, Replies Down)) u
    ∙ ap (λ (x : Sealing). resolve net w v n environment (decide net.site x w.link_up view given event)) s
    ∙ ap (λ (xs : List ℕ). resolve net w v n environment (decide net.site hop_sealing w.link_up view xs event)) (same_octets (net.entropy v).octet rest.octet (w.drawn v) 0 n (λ i. ap rest.octet (zero-add i) ∙ r.octet i))
    ∙ by_decision net w v n environment rest (decided net.site w.link_up view rest event) r
