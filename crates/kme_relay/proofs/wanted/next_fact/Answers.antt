use Rattle.std.proofs.Common.{ℕ, ◌+◌, ◌-◌, ◌<◌, ◌≤◌, sym, ◌∙◌, arith, length}
use Rattle.kme_relay.proofs.Rests.{owed_at, fact_held, fact_waits, fact_goes, facts_end}
use Rattle.kme_relay.proofs.wanted.next_fact.Goals as goal
use Rattle.kme_relay.proofs.wanted.next_fact.Goals.{else-not-holds-via-then-not-holds+else-not-awaits, else-not-holds-via-else-not-holds}

pub returns-then-not-awaits-clause-some : goal.returns-then-not-awaits-clause-some
returns-then-not-awaits-clause-some c =
    let o = owed_at c.args.known.now c.args.to c.loop-place.next c.in-Some.place c.in-Some-name_at.name c.in-Some.ensures.first c.in-Some-name_at.ensures in
    c.loop-place.invariant
    ∙ fact_goes c.args.known.now c.args.window.now.volatile c.args.lane.now c.args.to c.loop-place.next (c.in-Some.place + 1) c.in-Some-name_at.name o.names (sym c.if-not-holds.ensures) (sym c.if-not-awaits.ensures)

pub returns-then-not-awaits-clause-place : goal.returns-then-not-awaits-clause-place
returns-then-not-awaits-clause-place c =
    let o = owed_at c.args.known.now c.args.to c.loop-place.next c.in-Some.place c.in-Some-name_at.name c.in-Some.ensures.first c.in-Some-name_at.ensures in
    o.within

pub overflow_add-next : goal.overflow_add-next
overflow_add-next c =
    let o = owed_at c.args.known.now c.args.to c.loop-place.next c.in-Some.place c.in-Some-name_at.name c.in-Some.ensures.first c.in-Some-name_at.ensures in
    let w = o.within in
    let l = c.len-holds.ensures.length in
    omega arith

pub loop-place-smaller : goal.loop-place-smaller
loop-place-smaller c =
    let o = owed_at c.args.known.now c.args.to c.loop-place.next c.in-Some.place c.in-Some-name_at.name c.in-Some.ensures.first c.in-Some-name_at.ensures in
    let w = o.within in
    let b = o.behind in
    less (length c.args.known.now.facts) (c.in-Some.place) c.loop-place.next w b
  where
    less : (n p q : ℕ) → p < n → q ≤ p → n - (p + 1) < n - q
    less n p q w b = omega arith

pub loop-place-preserved : goal.loop-place-preserved
loop-place-preserved c =
    let o = owed_at c.args.known.now c.args.to c.loop-place.next c.in-Some.place c.in-Some-name_at.name c.in-Some.ensures.first c.in-Some-name_at.ensures in
    elim c.else-not-holds.branch [
      | else-not-holds-via-then-not-holds+else-not-awaits w ↦
          c.loop-place.invariant
          ∙ fact_waits c.args.known.now c.args.window.now.volatile c.args.lane.now c.args.to c.loop-place.next (c.in-Some.place + 1) c.in-Some-name_at.name o.names (sym w.if-not-holds.ensures) (sym w.if-not-awaits.ensures)
      | else-not-holds-via-else-not-holds w ↦
          c.loop-place.invariant
          ∙ fact_held c.args.known.now c.args.window.now.volatile c.args.lane.now c.args.to c.loop-place.next (c.in-Some.place + 1) c.in-Some-name_at.name o.names (sym w.if-not-holds.ensures)
    ]

pub returns-clause-none : goal.returns-clause-none
returns-clause-none c = c.loop-place.invariant ∙ facts_end c.args.known.now c.args.window.now.volatile c.args.lane.now c.args.to c.loop-place.next c.in_default.ensures.none
