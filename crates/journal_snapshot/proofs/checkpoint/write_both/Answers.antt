use Rattle.std.proofs.Common.{ℕ, List, IsTrue, length, sym, subst}
use Rattle.disk_model.specs.Images.{Torn}
use Rattle.disk_model.specs.Laws.{torn_same}
use Rattle.disk_model.proofs.Moments.{started, goes_on}
use Rattle.journal_snapshot.specs.Checkpoint.{TornTwice}
use Rattle.journal_snapshot.proofs.checkpoint.write_both.Goals as goal

pub returns-in_err-write_at-2-clause-moments : goal.returns-in_err-write_at-2-clause-moments
returns-in_err-write_at-2-clause-moments g c =
    let d = g.K.Disk in
    let old = c.args.disk.now in
    let mid = c.write_at.new.self in
    let new = c.write_at-2.new.self in
    let n = length c.args.block.now in
    let m = length c.args.fields.now in
    let P : List ℕ → Type 0 = λ i. IsTrue (d.is_honest old) → TornTwice c.args.at n c.args.place m (d.content old) i in
    let here = started d.moment d.image old P (λ i now h. record {
      mid = i;
      first = subst (λ (o : List ℕ). Torn c.args.at n (d.content old) o) (sym (c.requires.durable h i now)) (torn_same c.args.at n (d.content old));
      second = torn_same c.args.place m i;
    }) in
    let first = goes_on d.moment d.image old old mid P here c.write_at.ensures.time (λ i now h.
    let from = c.write_at.ensures.images i now in
    record { mid = i; first = subst (λ (o : List ℕ). Torn c.args.at n o i) (c.requires.durable h from.0 from.1) from.2; second = torn_same c.args.place m i }) in
    goes_on d.moment d.image old mid new P first c.write_at-2.ensures.time (λ i now h.
    let last = c.write_at-2.ensures.images i now in
    let from = c.write_at.ensures.images last.0 last.1 in
    record { mid = last.0; first = subst (λ (o : List ℕ). Torn c.args.at n o last.0) (c.requires.durable h from.0 from.1) from.2; second = last.2 })

pub returns-clause-moments : goal.returns-clause-moments
returns-clause-moments g c =
    let d = g.K.Disk in
    let old = c.args.disk.now in
    let mid = c.write_at.new.self in
    let new = c.write_at-2.new.self in
    let n = length c.args.block.now in
    let m = length c.args.fields.now in
    let P : List ℕ → Type 0 = λ i. IsTrue (d.is_honest old) → TornTwice c.args.at n c.args.place m (d.content old) i in
    let here = started d.moment d.image old P (λ i now h. record {
      mid = i;
      first = subst (λ (o : List ℕ). Torn c.args.at n (d.content old) o) (sym (c.requires.durable h i now)) (torn_same c.args.at n (d.content old));
      second = torn_same c.args.place m i;
    }) in
    let first = goes_on d.moment d.image old old mid P here c.write_at.ensures.time (λ i now h.
    let from = c.write_at.ensures.images i now in
    record { mid = i; first = subst (λ (o : List ℕ). Torn c.args.at n o i) (c.requires.durable h from.0 from.1) from.2; second = torn_same c.args.place m i }) in
    let written : (i : List ℕ) → d.image new (d.moment new) i → P i = λ i now h.
    let last = c.write_at-2.ensures.images i now in
    let from = c.write_at.ensures.images last.0 last.1 in
    record { mid = last.0; first = subst (λ (o : List ℕ). Torn c.args.at n o last.0) (c.requires.durable h from.0 from.1) from.2; second = last.2 } in
    let second = goes_on d.moment d.image old mid new P first c.write_at-2.ensures.time written in
    goes_on d.moment d.image old new c.sync.new.self P second c.sync.ensures.time (λ i now. written i (c.sync.ensures.images i now))
