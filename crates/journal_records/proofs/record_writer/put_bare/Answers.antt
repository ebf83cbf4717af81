use Rattle.std.proofs.Common.{◌≡◌, ℕ, ◌-◌, List, length, take, subst, ap, ◌∙◌, sym, arith}
use Rattle.frame_codec.specs.Writing.{Puts}
use Rattle.frame_codec.proofs.Writes.{fact_length}
use Rattle.journal_records.specs.Grammar.{bare_octets}
use Rattle.journal_records.proofs.Loops.{bare_prefix, cut_is}
use Rattle.journal_records.proofs.record_writer.put_bare.Goals as goal

pub returns-clause-octets : goal.returns-clause-octets
returns-clause-octets c =
    let f = c.args.fact.now in
    let p = c.put_fact.ensures.octets in
    let size : ℕ = c.from.result - c.bytes_len.result in
    let cut = cut_is f c.from.result c.bytes_len.result (omega (arith, c.from.ensures, c.fact_size.ensures.length)) c.bytes_len.ensures.length in
    let taken = bare_prefix f c.put_fact.new.into c.put_fact.result (omega (arith, p.end_is)) p.prefix in
    subst (λ (l : List ℕ). Puts c.args.into.now c.put.new.into c.args.at c.put.result l) (ap (λ (k : ℕ). take k c.put_fact.new.into) cut ∙ taken) c.put.ensures.octets
