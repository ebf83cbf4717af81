use Rattle.std.proofs.Common.{◌≡◌, ℕ, ◌++◌, ◌∷◌, List, false, drop, take, sym, ◌∙◌, ap, subst, arith}
use Rattle.net_model.specs.Formed.{IsWellFormedRecord}
use Rattle.journal_records.specs.Grammar.{octets_left}
use Rattle.journal_records.specs.declared.version.Version.TheVariants.{Second}
use Rattle.journal_records.proofs.Groups.{is_handing}
use Rattle.journal_records.proofs.Loops.{puts_on, first_is, first_all, other_left, record_fits, end_within, plain_of}
use Rattle.journal_records.proofs.body_printer.put_next_2.Goals as goal

pub put_record-requires : goal.put_record-requires
put_record-requires c =
    let r = c.index-records-0.result in
    let rs = c.args.records.now in
    let first : rs ≡ r ∷ drop 1 rs = first_is rs r r c.requires.some c.index-records-0.is in
    let plain : is_handing r ≡ false = plain_of r (λ n to e. c.in_default.not-Handed n to e) in
    record {
      formed = subst IsWellFormedRecord (sym c.index-records-0.is) (c.requires.formed 0 r c.requires.some);
      fits = record_fits Second r (octets_left 0 (drop 1 rs)) (octets_left c.args.left rs) c.args.at _ (other_left rs r c.args.left first plain) c.requires.fits;
    }

pub returns-in_default : goal.returns-in_default
returns-in_default c =
    let r = c.index-records-0.result in
    let rs = c.args.records.now in
    let first : rs ≡ r ∷ drop 1 rs = first_is rs r r c.requires.some c.index-records-0.is in
    let plain : is_handing r ≡ false = plain_of r (λ n to e. c.in_default.not-Handed n to e) in
    record {
      octets = puts_on c.put_record.ensures.octets (octets_left 0 (drop 1 rs)) ∙ ap (λ (l : List ℕ). take c.args.at c.args.into.now ++ l) (sym (other_left rs r c.args.left first plain));
      within = omega (arith, end_within Second r (octets_left 0 (drop 1 rs)) (octets_left c.args.left rs) c.args.at _ c.put_record.result (other_left rs r c.args.left first plain) c.requires.fits c.put_record.ensures.octets.end_is, c.put_record.auto.into);
      grammar = first_all rs r first c.put_record.ensures.grammar;
    }
