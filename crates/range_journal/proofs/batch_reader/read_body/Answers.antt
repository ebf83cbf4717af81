use Rattle.std.proofs.Common.{◌≡◌, ℕ, ◌+◌, List, Bool, IsTrue, take, drop, sym, ◌∙◌, ap, subst}
use Rattle.range_journal.proofs.Octets.{batch_read}
use Rattle.range_journal.proofs.batch_reader.read_body.Goals as goal

pub returns-in-Ok-read_octets-clause-next : goal.returns-in-Ok-read_octets-clause-next
returns-in-Ok-read_octets-clause-next g c =
    let content = g.K.Disk.content c.args.disk.now in
    let r = c.read_length.ensures.reads in
    let e = c.in-Ok-read_octets.ensures in
    λ h. batch_read content c.args.place c.in-Ok.count c.in-Ok-read_octets.body (c.requires.gate h) (c.in-Ok.ensures.octets h)
    (e.octets (subst (λ (b : Bool). IsTrue b) (sym r.honest) h) ∙ ap (λ (l : List ℕ). take c.in-Ok.count (drop (c.args.place + 5) l)) r.same) e.count
