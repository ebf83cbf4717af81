use Rattle.std.proofs.Common.{◌≡◌, ◌≤◌, ℕ, ◌+◌, List, [], ◌∷◌, ◌++◌, Bool, IsTrue, length, take, drop, refl, sym, ◌∙◌, ap, subst, arith}
use Rattle.range_journal.specs.Batches.{spelled, AreShort, length_of}
use Rattle.range_journal.specs.Reading.{IsNext, FitsNext}
use Rattle.range_journal.specs.declared.batch_reader.Next.{Next}
use Rattle.range_journal.specs.declared.batch_reader.Next.TheVariants.{Batch}
use Rattle.range_journal.proofs.Whole.{length_more, short_more}
use Rattle.range_journal.proofs.Octets.{more_read, read_on}
use Rattle.range_journal.proofs.batch_reader.read_batches.Goals as goal

pub batches-preserved : goal.batches-preserved
batches-preserved g c =
    let disk = g.K.Disk in
    let i = c.batches.invariant in
    let e = c.in_ok-gate.ensures in
    let body = c.in-Batch.body in
    let content = disk.content c.args.disk.now in
    let more : c.push_reserved.new.self.items ≡ c.batches.batches.items ++ body ∷ [] = c.push_reserved.ensures.items ∙ ap (λ (l : List (List ℕ)). l ++ body ∷ []) c.reserve.ensures.items in
    let fits = subst (λ (n : Next). FitsNext c.batches.place c.args.size n) c.in-Batch.is e.fits in
    record {
      place = omega (arith, i.place, c.len.ensures, ap (λ (l : List (List ℕ)). length_of c.args.start l) more, length_more c.args.start c.batches.batches.items body);
      within = omega (arith, fits.0, c.len.ensures);
      short = subst AreShort (sym more) (short_more c.batches.batches.items body i.short fits.1);
      is = λ h.
          let next = subst (λ (n : Next). IsNext (disk.content c.batches.disk) c.batches.place n) c.in-Batch.is (e.next (subst (λ (b : Bool). IsTrue b) (sym i.reads.honest) h)) in
          let here = subst (λ (o : List ℕ). IsNext o c.batches.place (Batch body)) i.reads.same next in
          more_read content c.args.start c.batches.place c.batches.batches.items body (i.is h) here
          ∙ ap (λ (l : List (List ℕ)). spelled l ++ drop (c.batches.place + (5 + length body)) content) (sym more)
          ∙ ap (λ (n : ℕ). spelled c.push_reserved.new.self.items ++ drop (c.batches.place + (5 + n)) content) (sym c.len.ensures);
      calm = e.calm refl ∙ i.calm;
      reads = read_on disk.is_honest disk.content disk.moment disk.image disk.faults disk.allowance disk.armings c.args.disk.now c.batches.disk c.next_batch.new.disk i.reads c.next_batch.ensures.reads;
    }
