use Rattle.std.proofs.Common.{◌≡◌, ℕ, Bool, true, false, not, ◌&&◌, Option, Some, None, sym, ◌∙◌, ap}
use Rattle.std.specs.Prelude.{if◌then◌else◌}
use Rattle.std.specs.List.{list_any}
use Rattle.net_model.specs.declared.fact.Fact.{Fact}
use Rattle.net_model.specs.Table.{fact_at, is_stored_about, was_handed}
use Rattle.end_store.specs.Waiting.{is_own, pool_of}
use Rattle.end_store.specs.Stocked.{free_pool}
use Rattle.end_store.specs.Readied.{readied_pool}
use Rattle.end_store.proofs.Stocked.{and_none}
use Rattle.end_store.proofs.ready_counts.readied_pool.Goals as goal
use Rattle.end_store.proofs.ready_counts.readied_pool.Goals.{else-is_own-via-then-is_own+then-is_confirmed+else-not-has, else-is_own-via-then-is_own+else-is_confirmed, else-is_own-via-else-is_own, else-is_own-2-via-then-is_own-2+else-not-is_confirmed, else-is_own-2-via-else-is_own-2}

none_if : {A : Type 0} (b : Bool) (o : Option A) → b ≡ false → None ≡ (if b then o else None)
none_if b o h = ap (λ (x : Bool). if x then o else None) (sym h)

first_no : (a b c : Bool) → a ≡ false → (a && b && c) ≡ false
first_no a b c h = ap (λ (x : Bool). x && b && c) h

second_no : (a b c : Bool) → b ≡ false → (a && b && c) ≡ false
second_no a b c h = ap (λ (x : Bool). a && x && c) h ∙ ap (λ (x : Bool). x && c) (and_none a)

third_no : (a b c : Bool) → c ≡ true → (a && b && not c) ≡ false
third_no a b c h = ap (λ (x : Bool). a && b && not x) h ∙ and_none (a && b)

last_no : (a c : Bool) → c ≡ true → (a && not c) ≡ false
last_no a c h = ap (λ (x : Bool). a && not x) h ∙ and_none a

mine_no : (a c : Bool) → a ≡ false → (a && not c) ≡ false
mine_no a c h = ap (λ (x : Bool). x && not c) h

pub returns-then-not-has : goal.returns-then-not-has
returns-then-not-has c =
    ap Some c.pool_of.ensures
    ∙ sym (λ i. if ((ap (λ (me : ℕ). is_own me c.in-Key.name) (sym c.me.ensures) ∙ sym c.is_own.ensures ∙ c.if-is_own.true) i && (sym c.is_confirmed.ensures ∙ c.if-is_confirmed.true) i
    && not ((sym c.has.ensures ∙ c.if-not-has.true) i)) then Some (pool_of c.in-Key.master c.in-Key.slave c.in-Key.bytes) else None)
    ∙ ap (λ (f : Fact). readied_pool c.args.known.now.me c.args.known.now.facts c.args.handed.now.pairs (Some f)) (sym c.in-Key.is)

pub returns-else-is_own : goal.returns-else-is_own
returns-else-is_own c =
    none_if (is_own c.args.known.now.me c.in-Key.name && list_any (is_stored_about c.in-Key.name) c.args.known.now.facts && not (was_handed c.args.handed.now.pairs c.in-Key.name c.in-Key.master)) (Some (pool_of c.in-Key.master c.in-Key.slave c.in-Key.bytes))
    (elim c.else-is_own.branch [
      | else-is_own-via-then-is_own+then-is_confirmed+else-not-has w ↦ third_no (is_own c.args.known.now.me c.in-Key.name) (list_any (is_stored_about c.in-Key.name) c.args.known.now.facts) (was_handed c.args.handed.now.pairs c.in-Key.name c.in-Key.master) (sym w.has.ensures ∙ w.if-not-has.false)
      | else-is_own-via-then-is_own+else-is_confirmed w ↦ second_no (is_own c.args.known.now.me c.in-Key.name) (list_any (is_stored_about c.in-Key.name) c.args.known.now.facts) (not (was_handed c.args.handed.now.pairs c.in-Key.name c.in-Key.master)) (sym w.is_confirmed.ensures ∙ w.if-is_confirmed.false)
      | else-is_own-via-else-is_own w ↦ first_no (is_own c.args.known.now.me c.in-Key.name) (list_any (is_stored_about c.in-Key.name) c.args.known.now.facts) (not (was_handed c.args.handed.now.pairs c.in-Key.name c.in-Key.master)) (ap (λ (me : ℕ). is_own me c.in-Key.name) (sym c.me.ensures) ∙ sym c.is_own.ensures ∙ w.if-is_own.false)
    ])
    ∙ ap (λ (f : Fact). readied_pool c.args.known.now.me c.args.known.now.facts c.args.handed.now.pairs (Some f)) (sym c.in-Key.is)

pub returns-then-not-is_confirmed : goal.returns-then-not-is_confirmed
returns-then-not-is_confirmed c =
    c.free_pool_named.ensures
    ∙ sym (λ i. if ((ap (λ (me : ℕ). is_own me c.in-Stored.about) (sym c.me-in-Stored.ensures) ∙ sym c.is_own-in-Stored.ensures ∙ c.if-is_own-2.true) i
    && not ((sym c.is_confirmed-then-is_own-2.ensures ∙ c.if-not-is_confirmed.true) i)) then free_pool c.args.handed.now.pairs (fact_at c.args.known.now.facts c.in-Stored.about) else None)
    ∙ ap (λ (f : Fact). readied_pool c.args.known.now.me c.args.known.now.facts c.args.handed.now.pairs (Some f)) (sym c.in-Stored.is)

pub returns-else-is_own-2 : goal.returns-else-is_own-2
returns-else-is_own-2 c =
    none_if (is_own c.args.known.now.me c.in-Stored.about && not (list_any (is_stored_about c.in-Stored.about) c.args.known.now.facts)) (free_pool c.args.handed.now.pairs (fact_at c.args.known.now.facts c.in-Stored.about))
    (elim c.else-is_own-2.branch [
      | else-is_own-2-via-then-is_own-2+else-not-is_confirmed w ↦ last_no (is_own c.args.known.now.me c.in-Stored.about) (list_any (is_stored_about c.in-Stored.about) c.args.known.now.facts) (sym w.is_confirmed-then-is_own-2.ensures ∙ w.if-not-is_confirmed.false)
      | else-is_own-2-via-else-is_own-2 w ↦ mine_no (is_own c.args.known.now.me c.in-Stored.about) (list_any (is_stored_about c.in-Stored.about) c.args.known.now.facts) (ap (λ (me : ℕ). is_own me c.in-Stored.about) (sym c.me-in-Stored.ensures) ∙ sym c.is_own-in-Stored.ensures ∙ w.if-is_own-2.false)
    ])
    ∙ ap (λ (f : Fact). readied_pool c.args.known.now.me c.args.known.now.facts c.args.handed.now.pairs (Some f)) (sym c.in-Stored.is)
