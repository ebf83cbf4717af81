use Rattle.std.proofs.Common.{◌≡◌, ◌+◌, refl, length, ◌∙◌, sym, ap, subst, arith}
use Rattle.net_model.specs.Fold.{marked}
use Rattle.net_model.specs.Table.{fact_at}
use Rattle.relay_core.specs.Knowledge.{Knowledge, AreDistinct}
use Rattle.relay_core.proofs.Names.{eq_from}
use Rattle.stream_core.specs.Tallied.{chunk_stream}
use Rattle.stream_core.proofs.Handing.{handing_none, handing_absent, handing_other, handing_put, handing_fits, handing_twice, handing_anyway, no_tallies, not_equal}
use Rattle.stream_core.proofs.tally_updates.tally_handing.Goals.{else-eq-via-then-eq+else-not-was_handed, else-eq-via-else-eq}
use Rattle.stream_core.proofs.tally_updates.tally_handing.Goals as goal

pub returns-then-is_empty : goal.returns-then-is_empty
returns-then-is_empty c = no_tallies c.args.ends.now.known.facts (marked c.args.ends.now.handed c.args.name c.args.sae) c.args.tallies.now (c.is_empty.ensures.0 c.if-is_empty.true)

pub overflow_add-tally : goal.overflow_add-tally
overflow_add-tally c =
    let is = sym c.eq.ensures ∙ c.if-eq.true in
    let fits =
    handing_fits c.args.ends.now.known.facts c.args.ends.now.handed c.args.name c.args.sae (subst (λ (k : Knowledge). AreDistinct k.facts) c.known.ensures c.len-holds.ensures.distinct)
    (sym c.was_handed.ensures ∙ c.if-not-was_handed.true) c.args.tallies.now c.requires c.in-Some.stream c.in-Some-find.tally
    (ap (λ (k : Knowledge). chunk_stream (fact_at k.facts c.args.name)) (sym c.known-2.ensures) ∙ sym c.chunk_stream.ensures ∙ c.in-Some.is) (sym c.find.ensures ∙ c.in-Some-find.is)
    (eq_from c.in-Some-find.tally.source c.args.sae is) in
    let size : c.len-holds.result ≡ length c.args.ends.now.known.facts = c.len-holds.ensures.length ∙ ap (λ (k : Knowledge). length k.facts) c.known.ensures in
    let b = c.len-holds.type_inv in
    omega arith

pub returns-in-None : goal.returns-in-None
returns-in-None c =
    handing_anyway c.args.ends.now.known.facts c.args.ends.now.handed c.args.name c.args.sae c.args.tallies.now c.requires (λ fresh.
    handing_none c.args.ends.now.known.facts c.args.ends.now.handed c.args.name c.args.sae (subst (λ (k : Knowledge). AreDistinct k.facts) c.known.ensures c.len-holds.ensures.distinct)
    fresh c.args.tallies.now c.requires (ap (λ (k : Knowledge). chunk_stream (fact_at k.facts c.args.name)) (sym c.known-2.ensures) ∙ sym c.chunk_stream.ensures ∙ c.in-None.is))

pub returns-in-None-find : goal.returns-in-None-find
returns-in-None-find c =
    handing_anyway c.args.ends.now.known.facts c.args.ends.now.handed c.args.name c.args.sae c.args.tallies.now c.requires (λ fresh.
    handing_absent c.args.ends.now.known.facts c.args.ends.now.handed c.args.name c.args.sae (subst (λ (k : Knowledge). AreDistinct k.facts) c.known.ensures c.len-holds.ensures.distinct)
    fresh c.args.tallies.now c.requires c.in-Some.stream
    (ap (λ (k : Knowledge). chunk_stream (fact_at k.facts c.args.name)) (sym c.known-2.ensures) ∙ sym c.chunk_stream.ensures ∙ c.in-Some.is) (sym c.find.ensures ∙ c.in-None-find.is))

pub returns-then-not-was_handed : goal.returns-then-not-was_handed
returns-then-not-was_handed c =
    handing_put c.args.ends.now.known.facts c.args.ends.now.handed c.args.name c.args.sae (subst (λ (k : Knowledge). AreDistinct k.facts) c.known.ensures c.len-holds.ensures.distinct)
    (sym c.was_handed.ensures ∙ c.if-not-was_handed.true) c.args.tallies.now c.requires c.put.new.self c.in-Some.stream c.in-Some-find.tally
    (record { source = c.in-Some-find.tally.source; chunks = c.in-Some-find.tally.chunks; given = c.in-Some-find.tally.given + 1 })
    (ap (λ (k : Knowledge). chunk_stream (fact_at k.facts c.args.name)) (sym c.known-2.ensures) ∙ sym c.chunk_stream.ensures ∙ c.in-Some.is) (sym c.find.ensures ∙ c.in-Some-find.is)
    (eq_from c.in-Some-find.tally.source c.args.sae (sym c.eq.ensures ∙ c.if-eq.true)) c.put.ensures refl refl refl

pub returns-else-eq : goal.returns-else-eq
returns-else-eq c =
    elim c.else-eq.branch [
      | else-eq-via-then-eq+else-not-was_handed w ↦
          handing_twice c.args.ends.now.known.facts c.args.ends.now.handed c.args.name c.args.sae c.args.tallies.now (sym w.was_handed.ensures ∙ w.if-not-was_handed.false) c.requires
      | else-eq-via-else-eq w ↦
          handing_anyway c.args.ends.now.known.facts c.args.ends.now.handed c.args.name c.args.sae c.args.tallies.now c.requires (λ fresh.
          handing_other c.args.ends.now.known.facts c.args.ends.now.handed c.args.name c.args.sae (subst (λ (k : Knowledge). AreDistinct k.facts) c.known.ensures c.len-holds.ensures.distinct)
          fresh c.args.tallies.now c.requires c.in-Some.stream c.in-Some-find.tally
          (ap (λ (k : Knowledge). chunk_stream (fact_at k.facts c.args.name)) (sym c.known-2.ensures) ∙ sym c.chunk_stream.ensures ∙ c.in-Some.is) (sym c.find.ensures ∙ c.in-Some-find.is)
          (not_equal c.in-Some-find.tally.source c.args.sae (sym c.eq.ensures ∙ w.if-eq.false)))
    ]
