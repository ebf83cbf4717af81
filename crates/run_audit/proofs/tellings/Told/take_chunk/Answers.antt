use Rattle.std.proofs.Common.{ℕ, List, Some, None, ap}
use Rattle.run_audit.specs.declared.subject.Subject.TheVariants.{Chunk}
use Rattle.run_audit.specs.Kept.{told_of}
use Rattle.run_audit.proofs.Telling.{one_fit}
use Rattle.run_audit.proofs.tellings.Told.take_chunk.Goals as goal

pub returns-in-Some : goal.returns-in-Some
returns-in-Some c ts told =
    rw c.in-Some.is (
    one_fit c.take.result c.args.grants.now ts
    (told_of (Chunk c.args.stream.now c.in-Some.chunk.index) c.as_slice.result.now (Some c.args.caller) None)
    (told_of (Chunk c.args.stream.now c.in-Some.chunk.index) c.in-Some.chunk.bytes (Some c.args.caller) None)
    c.take.new.self (ap (λ (bytes : List ℕ). told_of (Chunk c.args.stream.now c.in-Some.chunk.index) bytes (Some c.args.caller) None) c.as_slice.ensures) (c.take.ensures ts told)
    )
