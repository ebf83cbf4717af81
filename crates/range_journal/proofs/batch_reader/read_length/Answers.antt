use Rattle.std.proofs.Common.{◌≡◌, ℕ, ◌+◌, List, ◌++◌, drop, sym, ◌∙◌, ap}
use Rattle.range_journal.proofs.Octets.{in_pieces}
use Rattle.range_journal.proofs.batch_reader.read_length.Goals as goal

pub returns-in-Ok-clause-octets : goal.returns-in-Ok-clause-octets
returns-in-Ok-clause-octets g c =
    let content = g.K.Disk.content c.args.disk.now in
    λ h. in_pieces 4 c.args.at content ∙ ap (λ (l : List ℕ). l ++ drop (c.args.at + 4) content) (sym (c.number_of.ensures ∙ c.in-Ok.ensures.bytes h))
