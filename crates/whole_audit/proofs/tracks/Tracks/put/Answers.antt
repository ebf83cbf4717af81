use Rattle.std.proofs.Common.{List, ℕ, Some, subst}
use Rattle.std.specs.Ordering.{nat_cmp}
use Rattle.std.specs.Cmp.Lexicographic.{slice_cmp}
use Rattle.std.specs.BTreeMap.{Updates}
use Rattle.whole_audit.specs.declared.tracks.Tracks.{Tracks}
use Rattle.whole_audit.proofs.Tracking.{tracks_put}
use Rattle.whole_audit.proofs.tracks.Tracks.put.Goals as goal

pub returns : goal.returns
returns c =
    let new : Tracks = record { lanes = c.insert.new.self } in
    tracks_put c.args.self.now new c.args.lane.now c.args.track
    (subst (λ (key : List ℕ). Updates (slice_cmp nat_cmp) c.args.self.now.lanes c.insert.new.self key (Some c.args.track)) c.end_key.ensures c.in_ok-insert.ensures.updates)
