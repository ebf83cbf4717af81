use Rattle.std.proofs.Common.{◌≡◌, ◌^◌, ◌<◌, Bool, true, false, cond, min, ◌+◌, ◌-◌, ◌∷◌, Option, refl, sym, ap, ◌∙◌, subst, arith}
use Rattle.std.specs.List.{cons_option}
use Rattle.std.proofs.lemmas.Bool.{and_left, and_right, and_from}
use Rattle.qkd_base.specs.declared.lane.Lane.{Lane}
use Rattle.run_types.specs.declared.scenario.Scenario.{Scenario}
use Rattle.run_types.specs.declared.item.NumberedItem.{NumberedItem}
use Rattle.run_audit.specs.declared.line_kind.LineKind.{LineKind}
use Rattle.run_audit.specs.declared.frames.Frame.{Frame}
use Rattle.run_audit.specs.declared.takings.Taking.{Taking}
use Rattle.run_audit.specs.Kinds.{kind_at}
use Rattle.run_audit.specs.Frames.{frame_of, frames, used_on}
use Rattle.run_audit.specs.Tellings.{all_fit, onto, tellings_of, tellings}
use Rattle.run_audit.specs.Takings.{taking_of, takings, is_first, was_there}
use Rattle.run_audit.specs.Contents.{content_of, contents}
use Rattle.run_audit.specs.Rules.{is_of_line, is_next, keeps_apart, carries_one, hands_out, takes_new, balances, is_counted, ledgers}
use Rattle.run_audit.specs.Kept.{ArePlaced, AreCarried, AreTold, AreTaken, IsNew}
use Rattle.run_audit.proofs.Summing.{used-lt, frames-le}
use Rattle.run_audit.proofs.Recording.{of_line, numbered_more, ledgers_more, IsPlacedWell, breaks_1, breaks_2, breaks_3, breaks_4, breaks_5, breaks_6, breaks_none}
use Rattle.run_audit.proofs.record.Record.take.Goals as goal

pub returns-then-not-is_of_line : goal.returns-then-not-is_of_line
returns-then-not-is_of_line c before kinds len rec =
    let s : Scenario = c.args.scenario.now in
    let told : NumberedItem = c.args.told.now in
    let kind : c.kind_at-kind.result ≡ kind_at s told.number = c.kind_at-kind.ensures ∙ kinds told.number in
    let line : c.is_of_line.result ≡ is_of_line s told = c.is_of_line.ensures ∙ of_line s c.kind_at-kind.result told kind in
    (breaks_1 s before told (sym line ∙ c.if-not-is_of_line.true), λ e. absurd (let u : ⊥ = cc in u))

pub returns-then-not-is_next : goal.returns-then-not-is_next
returns-then-not-is_next c before kinds len rec =
    let s : Scenario = c.args.scenario.now in
    let told : NumberedItem = c.args.told.now in
    let kind : c.kind_at-kind.result ≡ kind_at s told.number = c.kind_at-kind.ensures ∙ kinds told.number in
    let line : c.is_of_line.result ≡ is_of_line s told = c.is_of_line.ensures ∙ of_line s c.kind_at-kind.result told kind in
    let frame : c.frame_of-frame.result ≡ frame_of told.item = c.frame_of-frame.ensures in
    let next : c.is_next.result ≡ is_next (frame_of told.item) (frames before) = c.is_next.ensures before rec.summed ∙ ap (λ (o : Option Frame). is_next o (frames before)) frame in
    (breaks_2 s before told (sym line ∙ c.if-not-is_of_line.false) (sym next ∙ c.if-not-is_next.true), λ e. absurd (let u : ⊥ = cc in u))

pub returns-then-not-keeps_apart : goal.returns-then-not-keeps_apart
returns-then-not-keeps_apart c before kinds len rec =
    let s : Scenario = c.args.scenario.now in
    let told : NumberedItem = c.args.told.now in
    let kind : c.kind_at-kind.result ≡ kind_at s told.number = c.kind_at-kind.ensures ∙ kinds told.number in
    let line : c.is_of_line.result ≡ is_of_line s told = c.is_of_line.ensures ∙ of_line s c.kind_at-kind.result told kind in
    let frame : c.frame_of-frame.result ≡ frame_of told.item = c.frame_of-frame.ensures in
    let next : c.is_next.result ≡ is_next (frame_of told.item) (frames before) = c.is_next.ensures before rec.summed ∙ ap (λ (o : Option Frame). is_next o (frames before)) frame in
    let apart : c.keeps_apart.result ≡ keeps_apart (frame_of told.item) (frames before) = c.keeps_apart.ensures (frames before) rec.placed ∙ ap (λ (o : Option Frame). keeps_apart o (frames before)) frame in
    (breaks_3 s before told (sym line ∙ c.if-not-is_of_line.false) (sym next ∙ c.if-not-is_next.false) (and_left (keeps_apart (frame_of told.item) (frames before)) (carries_one (content_of told.item (frames before)) (contents before)) (sym apart ∙ c.if-not-keeps_apart.true)), λ e. absurd (let u : ⊥ = cc in u))

pub returns-then-not-is_like : goal.returns-then-not-is_like
returns-then-not-is_like c before kinds len rec =
    let s : Scenario = c.args.scenario.now in
    let told : NumberedItem = c.args.told.now in
    let kind : c.kind_at-kind.result ≡ kind_at s told.number = c.kind_at-kind.ensures ∙ kinds told.number in
    let line : c.is_of_line.result ≡ is_of_line s told = c.is_of_line.ensures ∙ of_line s c.kind_at-kind.result told kind in
    let frame : c.frame_of-frame.result ≡ frame_of told.item = c.frame_of-frame.ensures in
    let next : c.is_next.result ≡ is_next (frame_of told.item) (frames before) = c.is_next.ensures before rec.summed ∙ ap (λ (o : Option Frame). is_next o (frames before)) frame in
    let apart : c.keeps_apart.result ≡ keeps_apart (frame_of told.item) (frames before) = c.keeps_apart.ensures (frames before) rec.placed ∙ ap (λ (o : Option Frame). keeps_apart o (frames before)) frame in
    let learnt = c.in_ok-is_like.ensures {u = tt} (frames before) (contents before) rec.carried in
    let like : c.in_ok-is_like.is_like ≡ carries_one (content_of told.item (frames before)) (contents before) = learnt.0 in
    (breaks_3 s before told (sym line ∙ c.if-not-is_of_line.false) (sym next ∙ c.if-not-is_next.false) (and_right (keeps_apart (frame_of told.item) (frames before)) (carries_one (content_of told.item (frames before)) (contents before)) (sym like ∙ c.if-not-is_like.true)), λ e. absurd (let u : ⊥ = cc in u))

pub returns-then-not-branch : goal.returns-then-not-branch
returns-then-not-branch c before kinds len rec =
    let s : Scenario = c.args.scenario.now in
    let told : NumberedItem = c.args.told.now in
    let kind : c.kind_at-kind.result ≡ kind_at s told.number = c.kind_at-kind.ensures ∙ kinds told.number in
    let line : c.is_of_line.result ≡ is_of_line s told = c.is_of_line.ensures ∙ of_line s c.kind_at-kind.result told kind in
    let frame : c.frame_of-frame.result ≡ frame_of told.item = c.frame_of-frame.ensures in
    let next : c.is_next.result ≡ is_next (frame_of told.item) (frames before) = c.is_next.ensures before rec.summed ∙ ap (λ (o : Option Frame). is_next o (frames before)) frame in
    let apart : c.keeps_apart.result ≡ keeps_apart (frame_of told.item) (frames before) = c.keeps_apart.ensures (frames before) rec.placed ∙ ap (λ (o : Option Frame). keeps_apart o (frames before)) frame in
    let learnt = c.in_ok-is_like.ensures {u = tt} (frames before) (contents before) rec.carried in
    let like : c.in_ok-is_like.is_like ≡ carries_one (content_of told.item (frames before)) (contents before) = learnt.0 in
    let well : IsPlacedWell s before told = record { line = sym line ∙ c.if-not-is_of_line.false; next = sym next ∙ c.if-not-is_next.false; apart = and_from (keeps_apart (frame_of told.item) (frames before)) (carries_one (content_of told.item (frames before)) (contents before)) (sym apart ∙ c.if-not-keeps_apart.false) (sym like ∙ c.if-not-is_like.false) } in
    let taken = c.in_ok-take_item.ensures {u = tt} (tellings s before) rec.told in
    let hands : c.in_ok-take_item.field-0 ≡ hands_out s before told = taken.0 ∙ ap (λ (o : Option LineKind). all_fit s.site.entitlements (tellings s before) (tellings_of o told.item)) kind in
    (breaks_4 s before told well (sym hands ∙ c.if-not-branch.true), λ e. absurd (let u : ⊥ = cc in u))

pub returns-then-not-was_there : goal.returns-then-not-was_there
returns-then-not-was_there c before kinds len rec =
    let s : Scenario = c.args.scenario.now in
    let told : NumberedItem = c.args.told.now in
    let kind : c.kind_at-kind.result ≡ kind_at s told.number = c.kind_at-kind.ensures ∙ kinds told.number in
    let line : c.is_of_line.result ≡ is_of_line s told = c.is_of_line.ensures ∙ of_line s c.kind_at-kind.result told kind in
    let frame : c.frame_of-frame.result ≡ frame_of told.item = c.frame_of-frame.ensures in
    let next : c.is_next.result ≡ is_next (frame_of told.item) (frames before) = c.is_next.ensures before rec.summed ∙ ap (λ (o : Option Frame). is_next o (frames before)) frame in
    let apart : c.keeps_apart.result ≡ keeps_apart (frame_of told.item) (frames before) = c.keeps_apart.ensures (frames before) rec.placed ∙ ap (λ (o : Option Frame). keeps_apart o (frames before)) frame in
    let learnt = c.in_ok-is_like.ensures {u = tt} (frames before) (contents before) rec.carried in
    let like : c.in_ok-is_like.is_like ≡ carries_one (content_of told.item (frames before)) (contents before) = learnt.0 in
    let well : IsPlacedWell s before told = record { line = sym line ∙ c.if-not-is_of_line.false; next = sym next ∙ c.if-not-is_next.false; apart = and_from (keeps_apart (frame_of told.item) (frames before)) (carries_one (content_of told.item (frames before)) (contents before)) (sym apart ∙ c.if-not-keeps_apart.false) (sym like ∙ c.if-not-is_like.false) } in
    let taken = c.in_ok-take_item.ensures {u = tt} (tellings s before) rec.told in
    let hands : c.in_ok-take_item.field-0 ≡ hands_out s before told = taken.0 ∙ ap (λ (o : Option LineKind). all_fit s.site.entitlements (tellings s before) (tellings_of o told.item)) kind in
    let there : c.was_there.result ≡ was_there told.item (frames before) = c.was_there.ensures before rec.summed rec.numbered in
    (breaks_5 s before told well (sym hands ∙ c.if-not-branch.false) (and_left (was_there told.item (frames before)) (is_first (taking_of s.site.routes told.item) (takings s.site.routes before)) (sym there ∙ c.if-not-was_there.true)), λ e. absurd (let u : ⊥ = cc in u))

pub returns-then-not-branch-2 : goal.returns-then-not-branch-2
returns-then-not-branch-2 c before kinds len rec =
    let s : Scenario = c.args.scenario.now in
    let told : NumberedItem = c.args.told.now in
    let kind : c.kind_at-kind.result ≡ kind_at s told.number = c.kind_at-kind.ensures ∙ kinds told.number in
    let line : c.is_of_line.result ≡ is_of_line s told = c.is_of_line.ensures ∙ of_line s c.kind_at-kind.result told kind in
    let frame : c.frame_of-frame.result ≡ frame_of told.item = c.frame_of-frame.ensures in
    let next : c.is_next.result ≡ is_next (frame_of told.item) (frames before) = c.is_next.ensures before rec.summed ∙ ap (λ (o : Option Frame). is_next o (frames before)) frame in
    let apart : c.keeps_apart.result ≡ keeps_apart (frame_of told.item) (frames before) = c.keeps_apart.ensures (frames before) rec.placed ∙ ap (λ (o : Option Frame). keeps_apart o (frames before)) frame in
    let learnt = c.in_ok-is_like.ensures {u = tt} (frames before) (contents before) rec.carried in
    let like : c.in_ok-is_like.is_like ≡ carries_one (content_of told.item (frames before)) (contents before) = learnt.0 in
    let well : IsPlacedWell s before told = record { line = sym line ∙ c.if-not-is_of_line.false; next = sym next ∙ c.if-not-is_next.false; apart = and_from (keeps_apart (frame_of told.item) (frames before)) (carries_one (content_of told.item (frames before)) (contents before)) (sym apart ∙ c.if-not-keeps_apart.false) (sym like ∙ c.if-not-is_like.false) } in
    let taken = c.in_ok-take_item.ensures {u = tt} (tellings s before) rec.told in
    let hands : c.in_ok-take_item.field-0 ≡ hands_out s before told = taken.0 ∙ ap (λ (o : Option LineKind). all_fit s.site.entitlements (tellings s before) (tellings_of o told.item)) kind in
    let there : c.was_there.result ≡ was_there told.item (frames before) = c.was_there.ensures before rec.summed rec.numbered in
    let took = c.in_ok-take.ensures {u = tt} (takings s.site.routes before) rec.taken in
    let is_new : c.in_ok-take.field-0 ≡ is_first (taking_of s.site.routes told.item) (takings s.site.routes before) = took.0 ∙ ap (λ (o : Option Taking). is_first o (takings s.site.routes before)) c.taking_of.ensures in
    (breaks_5 s before told well (sym hands ∙ c.if-not-branch.false) (and_right (was_there told.item (frames before)) (is_first (taking_of s.site.routes told.item) (takings s.site.routes before)) (sym is_new ∙ c.if-not-branch-2.true)), λ e. absurd (let u : ⊥ = cc in u))

pub returns-then-not-balances : goal.returns-then-not-balances
returns-then-not-balances c before kinds len rec =
    let s : Scenario = c.args.scenario.now in
    let told : NumberedItem = c.args.told.now in
    let kind : c.kind_at-kind.result ≡ kind_at s told.number = c.kind_at-kind.ensures ∙ kinds told.number in
    let line : c.is_of_line.result ≡ is_of_line s told = c.is_of_line.ensures ∙ of_line s c.kind_at-kind.result told kind in
    let frame : c.frame_of-frame.result ≡ frame_of told.item = c.frame_of-frame.ensures in
    let next : c.is_next.result ≡ is_next (frame_of told.item) (frames before) = c.is_next.ensures before rec.summed ∙ ap (λ (o : Option Frame). is_next o (frames before)) frame in
    let apart : c.keeps_apart.result ≡ keeps_apart (frame_of told.item) (frames before) = c.keeps_apart.ensures (frames before) rec.placed ∙ ap (λ (o : Option Frame). keeps_apart o (frames before)) frame in
    let learnt = c.in_ok-is_like.ensures {u = tt} (frames before) (contents before) rec.carried in
    let like : c.in_ok-is_like.is_like ≡ carries_one (content_of told.item (frames before)) (contents before) = learnt.0 in
    let well : IsPlacedWell s before told = record { line = sym line ∙ c.if-not-is_of_line.false; next = sym next ∙ c.if-not-is_next.false; apart = and_from (keeps_apart (frame_of told.item) (frames before)) (carries_one (content_of told.item (frames before)) (contents before)) (sym apart ∙ c.if-not-keeps_apart.false) (sym like ∙ c.if-not-is_like.false) } in
    let taken = c.in_ok-take_item.ensures {u = tt} (tellings s before) rec.told in
    let hands : c.in_ok-take_item.field-0 ≡ hands_out s before told = taken.0 ∙ ap (λ (o : Option LineKind). all_fit s.site.entitlements (tellings s before) (tellings_of o told.item)) kind in
    let there : c.was_there.result ≡ was_there told.item (frames before) = c.was_there.ensures before rec.summed rec.numbered in
    let took = c.in_ok-take.ensures {u = tt} (takings s.site.routes before) rec.taken in
    let is_new : c.in_ok-take.field-0 ≡ is_first (taking_of s.site.routes told.item) (takings s.site.routes before) = took.0 ∙ ap (λ (o : Option Taking). is_first o (takings s.site.routes before)) c.taking_of.ensures in
    let takes : takes_new s before told ≡ true = and_from (was_there told.item (frames before)) (is_first (taking_of s.site.routes told.item) (takings s.site.routes before)) (sym there ∙ c.if-not-was_there.false) (sym is_new ∙ c.if-not-branch-2.false) in
    let balanced : c.balances.result ≡ balances before told.item = c.balances.ensures before rec.summed in
    (breaks_6 s before told well (sym hands ∙ c.if-not-branch.false) takes (sym balanced ∙ c.if-not-balances.true), λ e. absurd (let u : ⊥ = cc in u))

pub returns : goal.returns
returns c before kinds len rec =
    let s : Scenario = c.args.scenario.now in
    let told : NumberedItem = c.args.told.now in
    let kind : c.kind_at-kind.result ≡ kind_at s told.number = c.kind_at-kind.ensures ∙ kinds told.number in
    let line : c.is_of_line.result ≡ is_of_line s told = c.is_of_line.ensures ∙ of_line s c.kind_at-kind.result told kind in
    let frame : c.frame_of-frame.result ≡ frame_of told.item = c.frame_of-frame.ensures in
    let next : c.is_next.result ≡ is_next (frame_of told.item) (frames before) = c.is_next.ensures before rec.summed ∙ ap (λ (o : Option Frame). is_next o (frames before)) frame in
    let apart : c.keeps_apart.result ≡ keeps_apart (frame_of told.item) (frames before) = c.keeps_apart.ensures (frames before) rec.placed ∙ ap (λ (o : Option Frame). keeps_apart o (frames before)) frame in
    let learnt = c.in_ok-is_like.ensures {u = tt} (frames before) (contents before) rec.carried in
    let like : c.in_ok-is_like.is_like ≡ carries_one (content_of told.item (frames before)) (contents before) = learnt.0 in
    let well : IsPlacedWell s before told = record { line = sym line ∙ c.if-not-is_of_line.false; next = sym next ∙ c.if-not-is_next.false; apart = and_from (keeps_apart (frame_of told.item) (frames before)) (carries_one (content_of told.item (frames before)) (contents before)) (sym apart ∙ c.if-not-keeps_apart.false) (sym like ∙ c.if-not-is_like.false) } in
    let taken = c.in_ok-take_item.ensures {u = tt} (tellings s before) rec.told in
    let hands : c.in_ok-take_item.field-0 ≡ hands_out s before told = taken.0 ∙ ap (λ (o : Option LineKind). all_fit s.site.entitlements (tellings s before) (tellings_of o told.item)) kind in
    let there : c.was_there.result ≡ was_there told.item (frames before) = c.was_there.ensures before rec.summed rec.numbered in
    let took = c.in_ok-take.ensures {u = tt} (takings s.site.routes before) rec.taken in
    let is_new : c.in_ok-take.field-0 ≡ is_first (taking_of s.site.routes told.item) (takings s.site.routes before) = took.0 ∙ ap (λ (o : Option Taking). is_first o (takings s.site.routes before)) c.taking_of.ensures in
    let takes : takes_new s before told ≡ true = and_from (was_there told.item (frames before)) (is_first (taking_of s.site.routes told.item) (takings s.site.routes before)) (sym there ∙ c.if-not-was_there.false) (sym is_new ∙ c.if-not-branch-2.false) in
    let balanced : c.balances.result ≡ balances before told.item = c.balances.ensures before rec.summed in
    let placed = c.in_ok-is_new.ensures {u = tt} (frames before) rec.placed (ap (λ (o : Option Frame). keeps_apart o (frames before)) frame ∙ sym apart ∙ c.if-not-keeps_apart.false) in
    let fresh : IsNew c.in_ok-is_new.is_new (frame_of told.item) (frames before) = subst (λ (o : Option Frame). IsNew c.in_ok-is_new.is_new o (frames before)) frame placed.0 in
    let used : (l : Lane) → used_on l (frames before) < 2 ^ 63 = λ l. omega (arith, used-lt l (frames before) rec.placed.apart, frames-le before, len) in (
      breaks_none s before told well (sym hands ∙ c.if-not-branch.false) takes (sym balanced ∙ c.if-not-balances.false),
      λ e. record {
        placed = subst (λ (o : Option Frame). ArePlaced c.place.new.places (cons_option o (frames before))) frame placed.1;
        numbered = numbered_more (frame_of told.item) (frames before) well.next rec.numbered;
        carried = subst (λ (o : Option Frame). AreCarried c.number.new.self (cons_option o (frames before)) (contents (told ∷ before))) frame (c.in_ok-number.ensures {u = tt} (frames before) (contents (told ∷ before)) (learnt.1 c.if-not-is_like.false));
        summed = c.in_ok-add.ensures {u = tt} told before refl fresh used (omega (arith, len)) rec.summed;
        told = subst (λ (o : Option LineKind). AreTold c.take_item.new.self (onto (tellings s before) (tellings_of o told.item))) kind (taken.1 c.if-not-branch.false);
        taken = subst (λ (o : Option Taking). AreTaken c.take.new.self (cons_option o (takings s.site.routes before))) c.taking_of.ensures (took.1 c.if-not-branch-2.false);
        ledgers = c.counted-self.ensures ∙ ap (λ (b : Bool). cond b (min (c.args.self.now.ledgers + 1) (2 ^ 32 - 1)) c.args.self.now.ledgers) c.is_counted.ensures ∙ ledgers_more told before c.args.self.now.ledgers rec.ledgers;
      },
    )
