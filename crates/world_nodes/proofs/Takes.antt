-- An effect that takes place was decided, and its names are in range.
use Rattle.std.proofs.Common.{◌≡◌, ℕ, ◌+◌, Bool, true, false, not, ◌&&◌, ◌||◌, List, refl, sym, ap, ◌∙◌, zero-add}
use Rattle.std.specs.Prelude.{nat_lt, if◌then◌else◌}
use Rattle.std.specs.List.{list_all}
use Rattle.net_model.specs.declared.event.Event.{Event}
use Rattle.net_model.specs.declared.reply.Reply.{Reply}
use Rattle.net_model.specs.declared.reply.Reply.TheVariants.{Memory, JournalFull, NoRandom}
use Rattle.net_model.specs.OctetSequence.{OctetSequence, has_octets, octets_from}
use Rattle.net_model.specs.Sealing.{Sealing}
use Rattle.net_model.specs.World.{Network, World, Journal}
use Rattle.net_model.specs.Needed.{view_of}
use Rattle.net_model.specs.Journal.{added_len, is_nil, journal_limit}
use Rattle.net_model.specs.Decision.{Decision, Refuses, Does, Effect}
use Rattle.net_model.specs.Decide.{decide, random_need}
use Rattle.net_model.specs.Handle.{is_numbered}
use Rattle.net_model.specs.Action.{Environment, is_no_memory, is_entropy_fault, is_io_fault}
use Rattle.hop_frames.specs.Sealing.{hop_sealing}
use Rattle.source_devices.specs.Telling.{IsRest}
use Rattle.law_invariant.specs.May.{decided}
use Rattle.kme_store.specs.Course.{Stays, Stops, Goes, performed, resolved, course, decided as decided_over}
use Rattle.kme_store.proofs.Courses.{same_octets}

-- the last of five ways: the effect takes place
chain : (full : Reply) (n octets : ℕ) (e effect : Effect) (a b c d : Bool) →
    (if a then Stays Memory else if b then Stays full else if c then Stays NoRandom else if d then Stops n e else Goes n e) ≡ Goes octets effect → (a ≡ false) × (e ≡ effect)
chain full n octets e effect true b c d h = absurd (cc h)
chain full n octets e effect false true c d h = absurd (cc h)
chain full n octets e effect false false true d h = absurd (cc h)
chain full n octets e effect false false false true h = absurd (cc h)
chain full n octets e effect false false false false h = (refl, cc)

-- the fourth way: the effect is stopped
fourth : (full : Reply) (n octets : ℕ) (e effect : Effect) (a b c d : Bool) →
    (if a then Stays Memory else if b then Stays full else if c then Stays NoRandom else if d then Stops n e else Goes n e) ≡ Stops octets effect → e ≡ effect
fourth full n octets e effect true b c d h = absurd (cc h)
fourth full n octets e effect false true c d h = absurd (cc h)
fourth full n octets e effect false false true d h = absurd (cc h)
fourth full n octets e effect false false false true h = cc
fourth full n octets e effect false false false false h = absurd (cc h)

numbered : (m n : Bool) → (m || not n) ≡ false → n ≡ true
numbered true n h = absurd (cc h)
numbered false true h = refl
numbered false false h = absurd (cc h)

by_effect : (journal : Journal) (rest : OctetSequence) (n octets : ℕ) (environment : Environment) (e effect : Effect) → performed journal rest n environment e ≡ Goes octets effect →
    (e ≡ effect) × (list_all is_numbered effect.batch ≡ true)
unfolding performed
by_effect journal rest n octets environment e effect h =
    let added : ℕ = added_len journal.version e.batch in
    let r = chain (JournalFull journal.length' added) n octets e effect (is_no_memory environment || not (list_all is_numbered e.batch)) (nat_lt journal_limit (journal.length' + added))
    (nat_lt 0 n && (not (has_octets rest n) || is_entropy_fault environment)) (is_io_fault environment && not (is_nil e.batch)) h in
    (r.1, ap (λ (x : Effect). list_all is_numbered x.batch) (sym r.1) ∙ numbered (is_no_memory environment) (list_all is_numbered e.batch) r.0)

by_decision : (journal : Journal) (rest : OctetSequence) (n octets : ℕ) (environment : Environment) (d : Decision) (effect : Effect) → resolved journal rest n environment d ≡ Goes octets effect →
    (d ≡ Does effect) × (list_all is_numbered effect.batch ≡ true)
by_decision journal rest n octets environment (Refuses reply) effect h = absurd (cc h)
by_decision journal rest n octets environment (Does e) effect h = let r = by_effect journal rest n octets environment e effect h in (ap (λ (x : Effect). Does x) r.0, r.1)

stopped_effect : (journal : Journal) (rest : OctetSequence) (n octets : ℕ) (environment : Environment) (e effect : Effect) → performed journal rest n environment e ≡ Stops octets effect → e ≡ effect
unfolding performed
stopped_effect journal rest n octets environment e effect h =
    let added : ℕ = added_len journal.version e.batch in
    fourth (JournalFull journal.length' added) n octets e effect (is_no_memory environment || not (list_all is_numbered e.batch)) (nat_lt journal_limit (journal.length' + added))
    (nat_lt 0 n && (not (has_octets rest n) || is_entropy_fault environment)) (is_io_fault environment && not (is_nil e.batch)) h

stopped_decision : (journal : Journal) (rest : OctetSequence) (n octets : ℕ) (environment : Environment) (d : Decision) (effect : Effect) → resolved journal rest n environment d ≡ Stops octets effect →
    d ≡ Does effect
stopped_decision journal rest n octets environment (Refuses reply) effect h = absurd (cc h)
stopped_decision journal rest n octets environment (Does e) effect h = ap (λ (x : Effect). Does x) (stopped_effect journal rest n octets environment e effect h)

module _ (net : Network) (w : World) (v : ℕ) (event : Event) (rest : OctetSequence) (sealing : net.sealing ≡ hop_sealing) (r : IsRest (net.entropy v) (w.drawn v) rest) where
  same_decision : decided net w v event ≡ decided_over net.site w.link_up (view_of net w v) rest event
  same_decision =
      let n : ℕ = random_need (view_of net w v) event in
      ap (λ (x : Sealing). decide net.site x w.link_up (view_of net w v) (octets_from (net.entropy v).octet (w.drawn v) n) event) sealing
      ∙ ap (λ (xs : List ℕ). decide net.site hop_sealing w.link_up (view_of net w v) xs event)
      (same_octets (net.entropy v).octet rest.octet (w.drawn v) 0 n (λ i. ap rest.octet (zero-add i) ∙ r.octet i))

  pub goes_as_decided : (environment : Environment) (octets : ℕ) (effect : Effect) → course net.site w.link_up (view_of net w v) (w.journal v) rest event environment ≡ Goes octets effect →
      (decided net w v event ≡ Does effect) × (list_all is_numbered effect.batch ≡ true)
  goes_as_decided environment octets effect h =
      let d = by_decision (w.journal v) rest (random_need (view_of net w v) event) octets environment (decided_over net.site w.link_up (view_of net w v) rest event) effect h in
      (same_decision ∙ d.0, d.1)

  pub stops_as_decided : (environment : Environment) (octets : ℕ) (effect : Effect) → course net.site w.link_up (view_of net w v) (w.journal v) rest event environment ≡ Stops octets effect →
      decided net w v event ≡ Does effect
  stops_as_decided environment octets effect h =
      same_decision ∙ stopped_decision (w.journal v) rest (random_need (view_of net w v) event) octets environment (decided_over net.site w.link_up (view_of net w v) rest event) effect h
