use Rattle.std.proofs.Common.{◌≡◌, ◌∙◌, false, sym, ap, arith}
use Rattle.net_model.specs.declared.record.Record.TheVariants.{Handed}
use Rattle.journal_records.proofs.Groups.{is_handing}
use Rattle.journal_records.proofs.Loops.{tally_more, tally_new, tally_other, plain_of}
use Rattle.journal_records.proofs.batch_size.Tally.add.Goals as goal

pub returns-then-goes_on-clause-octets : goal.returns-then-goes_on-clause-octets
returns-then-goes_on-clause-octets c = λ rs.
    let s = c.args.self.now in
    (tally_more s.octets s.items s.sae s.names c.in-Handed.name c.get-to.result c.args.change.now (c.in-Handed.is ∙ ap (λ t. Handed c.in-Handed.name t) (sym c.get-to.ensures.number)) (sym c.goes_on.ensures ∙ c.if-goes_on.true) rs).0

pub returns-then-goes_on-clause-items : goal.returns-then-goes_on-clause-items
returns-then-goes_on-clause-items c = λ rs.
    let s = c.args.self.now in
    (tally_more s.octets s.items s.sae s.names c.in-Handed.name c.get-to.result c.args.change.now (c.in-Handed.is ∙ ap (λ t. Handed c.in-Handed.name t) (sym c.get-to.ensures.number)) (sym c.goes_on.ensures ∙ c.if-goes_on.true) rs).1

pub returns-else-goes_on-clause-octets : goal.returns-else-goes_on-clause-octets
returns-else-goes_on-clause-octets c = λ rs.
    let s = c.args.self.now in
    (tally_new s.octets s.items s.sae s.names c.in-Handed.name c.get-to.result c.args.change.now (c.in-Handed.is ∙ ap (λ t. Handed c.in-Handed.name t) (sym c.get-to.ensures.number)) (sym c.goes_on.ensures ∙ c.if-goes_on.false) rs).0

pub returns-else-goes_on-clause-items : goal.returns-else-goes_on-clause-items
returns-else-goes_on-clause-items c = λ rs.
    let s = c.args.self.now in
    (tally_new s.octets s.items s.sae s.names c.in-Handed.name c.get-to.result c.args.change.now (c.in-Handed.is ∙ ap (λ t. Handed c.in-Handed.name t) (sym c.get-to.ensures.number)) (sym c.goes_on.ensures ∙ c.if-goes_on.false) rs).1

pub returns-in_default : goal.returns-in_default
returns-in_default c =
    let s = c.args.self.now in
    let plain : is_handing c.args.change.now ≡ false = plain_of c.args.change.now (λ n to e. c.in_default.not-Handed n to e) in
    record {
      octets = λ rs. (tally_other s.octets s.items c.record_size.result s.sae s.names c.args.change.now plain c.record_size.ensures.length rs).0;
      items = λ rs. (tally_other s.octets s.items c.record_size.result s.sae s.names c.args.change.now plain c.record_size.ensures.length rs).1;
      more_octets = omega (arith, c.record_size.ensures.range);
      more_items = omega arith;
      names = omega arith;
    }
