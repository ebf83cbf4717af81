use Rattle.std.proofs.Common.{sym, ◌∙◌}
use Rattle.qkd004_wire.specs.declared.field.Field.TheVariants.{Index}
use Rattle.qkd004_wire.proofs.Fitting.{none_left, stops, goes_on, all_fit}
use Rattle.qkd004_wire.proofs.call.fitting.Goals as goal

pub returns-then-not-fits-clause-count : goal.returns-then-not-fits-clause-count
returns-then-not-fits-clause-count c = stops c.args.site.now c.args.fields.now c.loop-count.count _ c.in-Some.next.now _ _ _ c.loop-count-test.true (rw c.in-Some.is at c.word.ensures.word) (sym c.fits.ensures ∙ c.if-not-fits.true) c.loop-count.invariant

pub returns-in-None-clause-count : goal.returns-in-None-clause-count
returns-in-None-clause-count c = none_left c.args.site.now c.args.fields.now c.loop-count.count Index _ _ c.loop-count-test.true (rw c.in-None.is at c.word.ensures.word) c.loop-count.invariant

pub loop-count-preserved : goal.loop-count-preserved
loop-count-preserved c = goes_on c.args.site.now c.args.fields.now c.loop-count.count _ c.in-Some.next.now _ _ _ c.loop-count-test.true (rw c.in-Some.is at c.word.ensures.word) (sym c.fits.ensures ∙ c.if-not-fits.false) c.loop-count.invariant

pub returns-clause-count : goal.returns-clause-count
returns-clause-count c = all_fit c.args.site.now c.args.fields.now c.loop-count.count _ _ c.loop-count-test.false c.loop-count.auto.count-end c.loop-count.invariant
