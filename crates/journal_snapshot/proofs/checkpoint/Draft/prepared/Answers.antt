use Rattle.std.proofs.Common.{◌≡◌, ℕ, ◌+◌, ◌-◌, ◌∙◌, ap, arith}
use Rattle.disk_model.specs.Allowance.{after_room}
use Rattle.journal_snapshot.specs.Snapshots.{need_of}
use Rattle.journal_snapshot.proofs.Areas.{block_long}
use Rattle.journal_snapshot.proofs.checkpoint.Draft.prepared.Goals as goal

pub returns-clause-room : goal.returns-clause-room
returns-clause-room g c =
    let a = c.args in
    let block = c.in_ok-block.block in
    let end : a.at + c.len.result + 18 ≡ a.place + need_of a.batches.now + 18 =
    omega (arith, c.requires.before, c.len.ensures, block.ok, block_long (a.place - a.at) a.batches.now block.items c.in_ok-block.ensures) in
    c.in_ok-room_to.ensures.ok ∙ ap (λ (n : ℕ). after_room n (g.K.Disk.allowance a.journal.now.disk)) end
