use Rattle.std.proofs.Common.{◌≡◌, ℕ, List, length, sym, ◌∙◌, ap, subst, arith}
use Rattle.std.specs.List.{All}
use Rattle.std.proofs.lemmas.Grind.{common_steps}
use Rattle.net_model.specs.declared.record.Record.{Record}
use Rattle.journal_records.specs.Grammar.{IsRecord, body_octets}
use Rattle.journal_records.specs.declared.version.Version.TheVariants.{First}
use Rattle.journal_records.proofs.Bodies.{body_long, first_batch, second_batch, second_short}
use Rattle.journal_records.proofs.Texts.{learned_alike}
use Rattle.journal_records.proofs.body_printer.respell.Goals as goal

pub put_body-requires-clause-whole : goal.put_body-requires-clause-whole
put_body-requires-clause-whole c =
    let same : c.as_slice-records.result.now ≡ c.args.batch.now = c.as_slice-records.ensures in
    ap length (c.deref_mut.ensures.value ∙ c.into_vec-octets.ensures ∙ c.replace.ensures.value) ∙ c.requires.as_long
    ∙ sym (body_long First c.args.batch.now) ∙ ap (λ (l : List Record). length (body_octets First l)) (sym same)

pub returns-clause-second : goal.returns-clause-second
returns-clause-second c =
    let first : c.from_vec.result ≡ body_octets First c.args.batch.now = grind (arith, common_steps, c.put_body.ensures.octets, c.as_slice-records.ensures) in
    first ∙ sym (learned_alike c.args.batch.now c.requires.learned)

pub returns-clause-grammar : goal.returns-clause-grammar
returns-clause-grammar c =
    let each : All IsRecord c.args.batch.now = subst (All IsRecord) c.as_slice-records.ensures c.put_body.ensures.grammar in
    (first_batch c.args.batch.now c.requires.some c.requires.few each, second_batch c.args.batch.now c.requires.some (second_short c.args.batch.now c.requires.few) each)
