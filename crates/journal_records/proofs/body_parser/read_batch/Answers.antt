use Rattle.std.proofs.Common.{ap, subst, ◌∙◌, arith}
use Rattle.journal_records.specs.Answers.{Reads}
use Rattle.journal_records.specs.Layout.{batch_of}
use Rattle.journal_records.specs.declared.version.Version.TheVariants.{First}
use Rattle.journal_records.proofs.Bodies.{is_found, batch_formed, batch_again}
use Rattle.journal_records.proofs.body_parser.read_batch.Goals as goal

pub returns-clause-found : goal.returns-clause-found
returns-clause-found c = is_found First c.args.octets.now c.batch_at.result (λ i. omega (arith, c.type_inv.octets i)) c.batch_at.ensures

pub returns-clause-only : goal.returns-clause-only
returns-clause-only c = λ batch fits e. subst (λ r. Reads c.batch_at.result r) (ap (batch_of First) e ∙ batch_again First batch fits) c.batch_at.ensures

pub returns-clause-formed : goal.returns-clause-formed
returns-clause-formed c = batch_formed First c.args.octets.now c.batch_at.result (λ i. omega (arith, c.type_inv.octets i)) c.batch_at.ensures
