use Rattle.std.proofs.Common.{◌≡◌, ℕ, List, length, drop, refl, sym, ap, subst, ◌∙◌}
use Rattle.std.specs.Prelude.{Bool, Result, Ok, Err}
use Rattle.source_devices.specs.declared.shortage.Shortage.{Shortage}
use Rattle.source_devices.specs.declared.shortage.Shortage.TheVariants.{Failed}
use Rattle.route_table.specs.Layer.{bit_is_set}
use Rattle.kme_base.specs.Random.{with_random}
use Rattle.kme_base.specs.declared.step.Step.{Step}
use Rattle.kme_node.specs.Holdings.{view, Fits, HasRoom}
use Rattle.kme_journal.proofs.Bodies.{body_some}
use Rattle.kme_journal.proofs.Decided.{AreOver}
use Rattle.kme_store.specs.Drawing.{Gives}
use Rattle.kme_store.proofs.Answering.{roomier_kept, back, undrawn}
use Rattle.kme_store.proofs.Handling.{written, made_over, is_finished, finished, told_after}
use Rattle.kme_store.proofs.Told.{told_still}
use Rattle.kme_store.proofs.event_handler.handle.Goals as goal

-- a draw that was refused for this reason
refused : (a b : Shortage) → a ≡ b → ◌≡◌ {A = Result (Unit {0}) Shortage} (Err a) (Err b)
refused a b same = ap (λ (e : Shortage). Err e) same

pub returns-in-Err-clause-answers : goal.returns-in-Err-clause-answers
returns-in-Err-clause-answers g c = λ is_up up.
    let d = g.K.Disk in
    let e = g.E.Entropy in
    back d e is_up c.args.event.now c.args.node.now.site (view c.args.node.now) c.args.entropy.now c.args.journal
    c.new.new.journal c.new.new.node.site (view c.new.new.node) c.in-Err.reply c.in-Err.ensures.journal c.stands.ensures c.in-Err.ensures.view (λ random as_many. c.in-Err.ensures.refused is_up random up as_many)

pub returns-in-Err-clause-kept : goal.returns-in-Err-clause-kept
returns-in-Err-clause-kept g c =
    let d = g.K.Disk in
    roomier_kept d c.args.journal c.new.new.journal c.in-Err.ensures.journal c.stands.ensures

pub returns-in-Err-draw-clause-answers : goal.returns-in-Err-draw-clause-answers
returns-in-Err-draw-clause-answers g c = λ is_up up.
    let d = g.K.Disk in
    let e = g.E.Entropy in
    let draft = c.in-Ok.draft in
    let v = view c.args.node.now in
    let laws : AreOver = record { fills = c.law_fill_over_other_octets.ensures; groups = c.law_group_fill_over_other_octets.ensures; feeds = c.law_feed_over_other_octets.ensures } in
    let gives : Gives {T = Unit {0}} (e.left c.args.entropy.now) (e.left c.draw.new.entropy) (Err c.in-Err-draw.field-0) (length draft.random.items) c.draw.new.random = subst (λ (xs : List ℕ). Gives {T = Unit {0}} (e.left c.args.entropy.now) (e.left c.draw.new.entropy) (Err c.in-Err-draw.field-0) (length xs) c.draw.new.random) c.deref_mut.ensures.value c.in-Err-draw.ensures.given in
    undrawn d e is_up c.args.event.now c.args.node.now.site v c.args.entropy.now c.args.journal
    laws (Unit {0}) draft.random.items c.draw.new.random draft.step draft.body c.new.new.journal c.new.new.node.site (view c.new.new.node) c.draw.new.entropy c.in-Err-draw.field-0
    (made_over d e is_up c.args.event.now c.args.node.now.site v c.args.entropy.now c.args.journal c.new.new.journal draft.random.items draft.step draft.body
    (record { roomier = c.in-Ok.ensures.journal; kept = c.stands.ensures; over = c.in-Ok.ensures.zeros; step = c.in-Ok.ensures.step is_up up; spelled = c.in-Ok.ensures.ready.body; place = c.in-Ok.ensures.place }))
    c.in-Ok.ensures.journal c.stands.ensures c.in-Ok.ensures.view gives (λ why. c.in-Err-draw.ensures.cause (refused c.in-Err-draw.field-0 Failed why)) (λ other. c.in-Err-draw.ensures.calm (λ is. other (cc is)))

pub returns-in-Err-clause-told : goal.returns-in-Err-clause-told
returns-in-Err-clause-told g c = λ was.
    told_still c.args.node.now.site (view c.args.node.now) c.args.journal c.new.new.journal c.new.new.node.site (view c.new.new.node) c.in-Err.ensures.site c.in-Err.ensures.view c.in-Err.ensures.journal.live c.in-Err.ensures.journal.batches was

pub returns-in-Err-draw-clause-told : goal.returns-in-Err-draw-clause-told
returns-in-Err-draw-clause-told g c = λ was.
    told_still c.args.node.now.site (view c.args.node.now) c.args.journal c.new.new.journal c.new.new.node.site (view c.new.new.node) c.in-Ok.ensures.site c.in-Ok.ensures.view c.in-Ok.ensures.journal.live c.in-Ok.ensures.journal.batches was

pub finish-requires-clause-fits : goal.finish-requires-clause-fits
finish-requires-clause-fits g c = subst (λ (s : Step). Fits c.new.new.node s) (sym c.put_random.ensures.step) (c.law_drawn_steps_apply.ensures.fits c.new.new.node c.in-Ok.draft.step _ c.in-Ok.ensures.ready.fits)

pub finish-requires-clause-room : goal.finish-requires-clause-room
finish-requires-clause-room g c = subst (λ (s : Step). HasRoom c.new.new.node s) (sym c.put_random.ensures.step) (c.law_drawn_steps_apply.ensures.room c.new.new.node c.in-Ok.draft.step _ c.in-Ok.ensures.ready.room)

pub finish-requires-clause-some : goal.finish-requires-clause-some
finish-requires-clause-some g c =
    body_some c.new.new.journal.live.version c.put_random.new.self.step.batch c.put_random.new.self.body (c.put_random.ensures.body c.new.new.journal.live.version c.in-Ok.ensures.ready.body)

pub returns-clause-answers : goal.returns-clause-answers
returns-clause-answers g c = λ is_up up.
    let d = g.K.Disk in
    let e = g.E.Entropy in
    let draft = c.in-Ok.draft in
    let mid = c.new.new.journal in
    let v = view c.args.node.now in
    let random = c.draw.new.random in
    let new = c.put_random.new.self in
    let laws : AreOver = record { fills = c.law_fill_over_other_octets.ensures; groups = c.law_group_fill_over_other_octets.ensures; feeds = c.law_feed_over_other_octets.ensures } in
    let as_many : length random ≡ length draft.random.items = c.draw.auto.random ∙ ap length c.deref_mut.ensures.value in
    let left = written draft.random.len random (drop (length random) draft.random.items) (c.draw.auto.random ∙ c.deref_mut.ensures.len) in
    let step : new.step ≡ record draft.step { batch = with_random random draft.step.batch } = c.put_random.ensures.step ∙ ap (λ (xs : List ℕ). record draft.step { batch = with_random xs draft.step.batch }) left in
    let ended =
    is_finished d e is_up c.args.event.now c.args.node.now.site v c.args.entropy.now c.args.journal
    mid random draft.step new.step new.body c.finish.result.0 (view c.new.new.node) (view c.finish.new.node) c.finish.result.1 c.in-Ok.ensures.view step (c.put_random.ensures.body mid.live.version c.in-Ok.ensures.ready.body)
    c.finish.ensures.moments c.finish.ensures.up c.finish.ensures.taken c.finish.ensures.down c.finish.ensures.left c.finish.ensures.calm in
    finished d e is_up c.args.event.now c.args.node.now.site v c.args.entropy.now c.args.journal
    laws {T = Unit {0}} draft.random.items random draft.step draft.body new.body c.draw.new.entropy tt mid c.finish.result.0 c.finish.new.node.site (view c.finish.new.node) c.finish.result.1
    (record { roomier = c.in-Ok.ensures.journal; kept = c.stands.ensures; over = c.in-Ok.ensures.zeros; step = c.in-Ok.ensures.step is_up up; spelled = c.in-Ok.ensures.ready.body; place = c.in-Ok.ensures.place })
    as_many (subst (λ (n : ℕ). Gives {T = Unit {0}} (e.left c.args.entropy.now) (e.left c.draw.new.entropy) (Ok tt) n random) (sym c.draw.auto.random) c.in-Ok-draw.ensures.given) ended (c.in-Ok-draw.ensures.calm (λ is. absurd (cc is)))

-- the view doesn't depend on which links are up, so any choice that agrees with the bits will do
pub returns-clause-told : goal.returns-clause-told
returns-clause-told g c = λ was.
    let is_up : ℕ → Bool = bit_is_set c.args.up in
    let d = g.K.Disk in
    let e = g.E.Entropy in
    let draft = c.in-Ok.draft in
    let mid = c.new.new.journal in
    let v = view c.args.node.now in
    let random = c.draw.new.random in
    let new = c.put_random.new.self in
    let laws : AreOver = record { fills = c.law_fill_over_other_octets.ensures; groups = c.law_group_fill_over_other_octets.ensures; feeds = c.law_feed_over_other_octets.ensures } in
    let as_many : length random ≡ length draft.random.items = c.draw.auto.random ∙ ap length c.deref_mut.ensures.value in
    let left = written draft.random.len random (drop (length random) draft.random.items) (c.draw.auto.random ∙ c.deref_mut.ensures.len) in
    let step : new.step ≡ record draft.step { batch = with_random random draft.step.batch } = c.put_random.ensures.step ∙ ap (λ (xs : List ℕ). record draft.step { batch = with_random xs draft.step.batch }) left in
    let ended =
    is_finished d e is_up c.args.event.now c.args.node.now.site v c.args.entropy.now c.args.journal
    mid random draft.step new.step new.body c.finish.result.0 (view c.new.new.node) (view c.finish.new.node) c.finish.result.1 c.in-Ok.ensures.view step (c.put_random.ensures.body mid.live.version c.in-Ok.ensures.ready.body)
    c.finish.ensures.moments c.finish.ensures.up c.finish.ensures.taken c.finish.ensures.down c.finish.ensures.left c.finish.ensures.calm in
    told_after d e is_up c.args.event.now c.args.node.now.site v c.args.entropy.now c.args.journal
    laws c.law_effect_is_given_back.ensures.appended c.law_effect_is_given_back.ensures.nothing draft.random.items random draft.step draft.body new.body mid c.finish.result.0 c.finish.new.node.site (view c.finish.new.node) c.finish.result.1
    (record { roomier = c.in-Ok.ensures.journal; kept = c.stands.ensures; over = c.in-Ok.ensures.zeros; step = c.in-Ok.ensures.step is_up (λ link within. refl); spelled = c.in-Ok.ensures.ready.body; place = c.in-Ok.ensures.place })
    as_many ended (c.finish.ensures.site ∙ c.in-Ok.ensures.site) was
