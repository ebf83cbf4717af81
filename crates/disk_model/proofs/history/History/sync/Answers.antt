use Rattle.std.proofs.Common.{◌≡◌, ◌++◌, ◌∷◌, [], map, length, length-append, ap, ◌∙◌, refl}
use Rattle.disk_model.specs.Record.Used.{Synced}
use Rattle.disk_model.specs.History.{used_of, past_of, base_of, newest, calls_past}
use Rattle.disk_model.specs.declared.history.History.{History}
use Rattle.disk_model.proofs.Histories.{rounds_more, synced_now}
use Rattle.disk_model.proofs.history.History.sync.Goals as goal

pub returns-clause-sound : goal.returns-clause-sound
returns-clause-sound c =
    let old = c.args.self.now in
    let new : History = record old { writes = c.clear.new.self; log = c.clear-2.new.self; saved = c.clear-3.new.self; base = c.and-self-2.result; past = c.and-self.result } in
    let base : base_of new ≡ old.content.items = ap (λ items. newest (map (λ kept. kept.0.items) items)) (c.and-self-2.ensures ∙ ap (λ items. items ++ (old.content, 0) ∷ []) c.new.ensures) in
    let past : past_of new ≡ used_of old ++ Synced ∷ [] =
    ap (λ items. calls_past (map (λ round. (round.0.items, round.1.items)) items)) c.and-self.ensures ∙ rounds_more (λ writes. writes.items) (λ log. log.items) old.past.items old.writes old.log in
    (synced_now old new c.requires refl refl c.clear-2.ensures.items c.clear-3.ensures.items c.clear.ensures.items base past).0

pub returns-clause-calls : goal.returns-clause-calls
returns-clause-calls c =
    let old = c.args.self.now in
    let new : History = record old { writes = c.clear.new.self; log = c.clear-2.new.self; saved = c.clear-3.new.self; base = c.and-self-2.result; past = c.and-self.result } in
    let base : base_of new ≡ old.content.items = ap (λ items. newest (map (λ kept. kept.0.items) items)) (c.and-self-2.ensures ∙ ap (λ items. items ++ (old.content, 0) ∷ []) c.new.ensures) in
    let past : past_of new ≡ used_of old ++ Synced ∷ [] =
    ap (λ items. calls_past (map (λ round. (round.0.items, round.1.items)) items)) c.and-self.ensures ∙ rounds_more (λ writes. writes.items) (λ log. log.items) old.past.items old.writes old.log in
    (synced_now old new c.requires refl refl c.clear-2.ensures.items c.clear-3.ensures.items c.clear.ensures.items base past).1

pub returns-clause-past : goal.returns-clause-past
returns-clause-past c =
    let old = c.args.self.now in
    ap (λ items. calls_past (map (λ round. (round.0.items, round.1.items)) items)) c.and-self.ensures ∙ rounds_more (λ writes. writes.items) (λ log. log.items) old.past.items old.writes old.log

pub returns-clause-synced : goal.returns-clause-synced
returns-clause-synced c =
    let old = c.args.self.now in
    let past = ap (λ items. calls_past (map (λ round. (round.0.items, round.1.items)) items)) c.and-self.ensures ∙ rounds_more (λ writes. writes.items) (λ log. log.items) old.past.items old.writes old.log in
    ap length past ∙ length-append (used_of old) (Synced ∷ [])
