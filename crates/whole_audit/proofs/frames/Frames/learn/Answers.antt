use Rattle.std.proofs.Common.{ℕ, List, Some, ap, sym, subst, ◌∙◌}
use Rattle.std.specs.Ordering.{nat_cmp}
use Rattle.std.specs.Cmp.Lexicographic.{slice_cmp}
use Rattle.std.specs.BTreeMap.{Updates}
use Rattle.whole_audit.specs.declared.frames.Frames.{Frames}
use Rattle.whole_audit.specs.Frames.{put_of}
use Rattle.whole_audit.proofs.Framing.{none_put, some_put}
use Rattle.whole_audit.proofs.frames.Frames.learn.Goals as goal

pub returns-in_ok-insert-in-Some : goal.returns-in_ok-insert-in-Some
returns-in_ok-insert-in-Some c told before item kept =
    let new : Frames = record { wires = c.insert.new.self } in
    some_put c.args.self.now new c.in-Some.put told before (ap put_of item ∙ sym c.put_of.ensures ∙ c.in-Some.is) kept
    (subst (λ (key : List ℕ). Updates (slice_cmp nat_cmp) c.args.self.now.wires c.insert.new.self key (Some c.in-Some.put)) c.frame_key.ensures c.in_ok-insert-in-Some.ensures.updates)

pub returns-in-None : goal.returns-in-None
returns-in-None c told before item kept = none_put c.args.self.now told before (ap put_of item ∙ sym c.put_of.ensures ∙ c.in-None.is) kept
