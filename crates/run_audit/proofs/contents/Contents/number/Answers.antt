use Rattle.std.proofs.Common.{◌≡◌, ℕ, cond, List, ◌∷◌, Option, Some, sym, subst}
use Rattle.std.specs.List.{cons_option}
use Rattle.std.specs.Str.{bytes_eq}
use Rattle.run_audit.specs.declared.frames.Frame.{Frame}
use Rattle.run_audit.specs.declared.contents.Contents.{Contents}
use Rattle.run_audit.specs.Table.{at}
use Rattle.run_audit.specs.Kept.{place_key, AreCarried}
use Rattle.run_audit.proofs.Matching.{numbers_more}
use Rattle.run_audit.proofs.Placing.{Puts}
use Rattle.run_audit.proofs.Recording.{on_ok_map}
use Rattle.run_audit.proofs.contents.Contents.number.Goals as goal

pub returns-in-Some : goal.returns-in-Some
returns-in-Some c fs cs carried =
    let f : Frame = c.in-Some.sent in
    let new : Contents = record { offsets = c.put.new.table; known = c.args.self.now.known } in
    on_ok_map c.put.result (λ put.
    let puts : Puts c.args.self.now.offsets c.put.new.table (place_key f.lane f.number) f.offset = λ k. subst (λ (key : List ℕ). at c.put.new.table k ≡ cond (bytes_eq key k) (Some f.offset) (at c.args.self.now.offsets k)) c.place_key.ensures (put k) in
    let with_it : AreCarried new (f ∷ fs) cs = record { offsets = numbers_more c.args.self.now.offsets c.put.new.table f fs carried.offsets puts; known = carried.known; matching = carried.matching } in
    subst (λ (o : Option Frame). AreCarried new (cons_option o fs) cs) (sym c.in-Some.is) with_it) c.put.ensures
