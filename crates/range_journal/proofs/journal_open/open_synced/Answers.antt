use Rattle.std.proofs.Common.{◌≡◌, ◌≤◌, inl, inr, ℕ, List, Bool, false, IsTrue, length, take, min, nat_le, ◌&&◌, not, sym, ◌∙◌, ap, subst, arith}
use Rattle.disk_model.proofs.Moments.{started, stands, joined, weaker}
use Rattle.range_journal.specs.Batches.{Stands}
use Rattle.range_journal.specs.Header.{StandsFor, is_new, is_blank, IsHeaded, HasOtherHead}
use Rattle.range_journal.specs.Journal.{JournalForm}
use Rattle.range_journal.specs.Opening.{IsOpening, IsMadeNew, Refuses, disk_in}
use Rattle.range_journal.specs.Reading.{StopsReading}
use Rattle.range_journal.specs.declared.refusal.JournalRefusal.{JournalRefusal}
use Rattle.range_journal.proofs.Heads.{if_ok, if_err, headed_ok, not_blank, head_there, other_there, refuses_later}
use Rattle.range_journal.proofs.journal_open.open_synced.Goals as goal

pub returns-in-Some-clause-cause : goal.returns-in-Some-clause-cause
returns-in-Some-clause-cause g c =
    let content = g.K.Disk.content c.args.disk in
    let e = c.in-Ok.ensures in
    λ h.
    let looks : (nat_le c.args.size 17 && not (is_new (take (min c.args.size 17) c.in-Ok.head))) ≡ false =
    ap (λ (n : ℕ). nat_le c.args.size 17 && not (is_new (take n c.in-Ok.head))) (sym c.min-count.ensures) ∙ sym c.looks_blank.ensures ∙ c.if-looks_blank.false in
    (not_blank content c.in-Ok.head c.args.size (c.requires.long h) e.long (e.head h) looks, inl (other_there content c.in-Ok.head c.args.size (c.requires.long h) e.long (e.head h) looks c.in-Some.place c.in-Some.ensures))

pub returns-in-Err-clause-moments : goal.returns-in-Err-clause-moments
returns-in-Err-clause-moments g c =
    let d = g.K.Disk in
    let old = c.args.disk in
    let P : List ℕ → Type 0 = λ i. IsTrue (d.is_honest old) → IsOpening (d.content old) i in
    stands d.moment d.image old old c.read_head.new.disk P (started d.moment d.image old P (λ i now h. inl (inl (c.requires.durable h i now)))) c.read_head.ensures.reads.time

pub returns-then-looks_blank-clause-moments : goal.returns-then-looks_blank-clause-moments
returns-then-looks_blank-clause-moments g c =
    let d = g.K.Disk in
    let old = c.args.disk in
    let r = c.read_head.ensures.reads in
    let P : List ℕ → Type 0 = λ i. IsTrue (d.is_honest old) → IsOpening (d.content old) i in
    let first = stands d.moment d.image old old c.read_head.new.disk P (started d.moment d.image old P (λ i now h. inl (inl (c.requires.durable h i now)))) r.time in
    joined d.moment d.image old c.read_head.new.disk (disk_in c.make_new.result) P first
    (weaker d.moment d.image c.read_head.new.disk (disk_in c.make_new.result) _ P c.make_new.ensures.moments (λ i made h.
    inr (subst (λ (o : List ℕ). IsMadeNew o i) r.same (made (subst (λ (b : Bool). IsTrue b) (sym r.honest) h)))))

pub returns-in-Some-clause-moments : goal.returns-in-Some-clause-moments
returns-in-Some-clause-moments g c =
    let d = g.K.Disk in
    let old = c.args.disk in
    let P : List ℕ → Type 0 = λ i. IsTrue (d.is_honest old) → IsOpening (d.content old) i in
    stands d.moment d.image old old c.read_head.new.disk P (started d.moment d.image old P (λ i now h. inl (inl (c.requires.durable h i now)))) c.read_head.ensures.reads.time

pub returns-in-None-clause-batches : goal.returns-in-None-clause-batches
returns-in-None-clause-batches g c =
    let d = g.K.Disk in
    let content = d.content c.args.disk in
    let e = c.in-Ok.ensures in
    let r = c.read_head.ensures.reads in
    let looks : (nat_le c.args.size 17 && not (is_new (take (min c.args.size 17) c.in-Ok.head))) ≡ false =
    ap (λ (n : ℕ). nat_le c.args.size 17 && not (is_new (take n c.in-Ok.head))) (sym c.min-count.ensures) ∙ sym c.looks_blank.ensures ∙ c.if-looks_blank.false in
    if_ok c.open_sized.result _ (λ (j : JournalForm _). IsTrue (d.is_honest c.args.disk) → StandsFor content j.batches) (λ j there h.
    let mid = subst (λ (b : Bool). IsTrue b) (sym r.honest) h in
    inr (
      not_blank content c.in-Ok.head c.args.size (c.requires.long h) e.long (e.head h) looks,
      head_there content c.in-Ok.head c.args.size (c.requires.long h) e.long (e.head h) looks c.in-None.ensures,
      subst (λ (o : List ℕ). Stands (take 16 o) j.batches o) r.same (there mid),
    )) c.open_sized.ensures.batches

pub returns-in-None-clause-cause : goal.returns-in-None-clause-cause
returns-in-None-clause-cause g c =
    let d = g.K.Disk in
    let content = d.content c.args.disk in
    let e = c.in-Ok.ensures in
    let r = c.read_head.ensures.reads in
    let looks : (nat_le c.args.size 17 && not (is_new (take (min c.args.size 17) c.in-Ok.head))) ≡ false =
    ap (λ (n : ℕ). nat_le c.args.size 17 && not (is_new (take n c.in-Ok.head))) (sym c.min-count.ensures) ∙ sym c.looks_blank.ensures ∙ c.if-looks_blank.false in
    if_err c.open_sized.result _ (λ x. Refuses (d.is_honest c.args.disk) content (d.faults c.args.disk) (d.faults x.1) x.0) (λ x stops.
    refuses_later (d.is_honest c.args.disk) (d.is_honest c.read_head.new.disk) content (d.content c.read_head.new.disk) (d.faults c.args.disk) (d.faults c.read_head.new.disk) (d.faults x.1) x.0 r.honest r.same r.later
    (λ h. (not_blank content c.in-Ok.head c.args.size (c.requires.long h) e.long (e.head h) looks, head_there content c.in-Ok.head c.args.size (c.requires.long h) e.long (e.head h) looks c.in-None.ensures)) stops)
    c.open_sized.ensures.cause

pub returns-in-None-clause-head : goal.returns-in-None-clause-head
returns-in-None-clause-head g c =
    let d = g.K.Disk in
    let content = d.content c.args.disk in
    let e = c.in-Ok.ensures in
    let r = c.read_head.ensures.reads in
    let looks : (nat_le c.args.size 17 && not (is_new (take (min c.args.size 17) c.in-Ok.head))) ≡ false =
    ap (λ (n : ℕ). nat_le c.args.size 17 && not (is_new (take n c.in-Ok.head))) (sym c.min-count.ensures) ∙ sym c.looks_blank.ensures ∙ c.if-looks_blank.false in
    let was : IsTrue (d.is_honest c.read_head.new.disk) → IsTrue (d.is_honest c.args.disk) = λ h. subst (λ (b : Bool). IsTrue b) r.honest h in
    headed_ok d.is_honest d.content (d.content c.read_head.new.disk) (d.is_honest c.read_head.new.disk) c.open_sized.result c.open_sized.ensures.honest c.open_sized.ensures.front
    (λ h. subst (λ (o : List ℕ). IsHeaded o) (sym r.same) (head_there content c.in-Ok.head c.args.size (c.requires.long (was h)) e.long (e.head (was h)) looks c.in-None.ensures))
