use Rattle.std.proofs.Common.{◌≡◌, ◌≤◌, ℕ, List, length, take, map, vec_capacity, refl, sym, ◌∙◌, ap, subst, arith, rules}
use Rattle.std.proofs.lemmas.List.{take_at}
use Rattle.disk_model.specs.Record.{replayed, revived}
use Rattle.disk_model.specs.History.{EndWithin, with_octets, octets_of, marked_write, used_of, past_of, base_of, undone}
use Rattle.disk_model.specs.declared.arm.Image.{Image}
use Rattle.disk_model.specs.declared.arm.Image.TheVariants.{Lost, Torn as Filled}
use Rattle.disk_model.specs.declared.history.History.{History}
use Rattle.disk_model.specs.declared.history.Range.{Range}
use Rattle.disk_model.proofs.Histories.{ends_more, ends_marked, octets_marked, kept_behind, torn_behind, revived_used, revived_sound, lost_sound}
use Rattle.disk_model.proofs.history.History.revive.Goals as goal

pub redo_all-requires-clause-ends : goal.redo_all-requires-clause-ends
redo_all-requires-clause-ends c =
    let old = c.args.self.now in
    let marks : c.mark_all-in-Torn.new.writes.items ≡ map (marked_write Filled 0) old.writes.items = c.mark_all-in-Torn.ensures.items in
    subst (λ (k : List Range). EndWithin (vec_capacity c.undo-in-Torn.new.content) k) (sym marks)
    (ends_marked (vec_capacity c.undo-in-Torn.new.content) Filled 0 old.writes.items (ends_more (vec_capacity old.content) (vec_capacity c.undo-in-Torn.new.content) old.writes.items c.undo-in-Torn.ensures.room c.requires.ends))

pub redo_all-requires-clause-log : goal.redo_all-requires-clause-log
redo_all-requires-clause-log c =
    let old = c.args.self.now in
    let marks : c.mark_all-in-Torn.new.writes.items ≡ map (marked_write Filled 0) old.writes.items = c.mark_all-in-Torn.ensures.items in
    omega (arith, ap octets_of marks, octets_marked Filled 0 old.writes.items, c.requires.log, ap length c.deref-in-Torn-3.ensures.value)

pub redo_all-requires-clause-room : goal.redo_all-requires-clause-room
redo_all-requires-clause-room c =
    let old = c.args.self.now in
    let marks : c.mark_all-in-Torn.new.writes.items ≡ map (marked_write Filled 0) old.writes.items = c.mark_all-in-Torn.ensures.items in
    omega (arith, ap octets_of marks, octets_marked Filled 0 old.writes.items, c.requires.saved, c.clear.ensures.capacity)

pub returns-in-Kept-clause-calls : goal.returns-in-Kept-clause-calls
returns-in-Kept-clause-calls c =
    let old = c.args.self.now in
    let size = length (replayed old.first.items (take (length (past_of old)) (used_of old))) in
    kept_behind size (length (past_of old)) (used_of old) ∙ ap (λ (m : Image). revived m size (length (past_of old)) (used_of old)) (sym c.in-Kept.is)

pub returns-in-Lost-clause-sound : goal.returns-in-Lost-clause-sound
returns-in-Lost-clause-sound c =
    let old = c.args.self.now in
    let content : c.undo.new.content.items ≡ base_of old =
    c.undo.ensures.content
    ∙ ap (λ (k : List Range). undone k c.deref-in-Lost.result.now old.content.items) c.deref.ensures.value
    ∙ ap (λ (l : List ℕ). undone old.writes.items l old.content.items) c.deref-in-Lost.ensures.value
    ∙ c.requires.back in
    let marks : c.mark_all.new.writes.items ≡ map (marked_write Lost c.len.result) old.writes.items = c.mark_all.ensures.items in
    let new : History = record old { content = c.undo.new.content; writes = c.mark_all.new.writes } in
    lost_sound old new c.requires refl c.undo.ensures.room refl refl refl Lost c.len.result refl marks content

pub returns-in-Lost-clause-calls : goal.returns-in-Lost-clause-calls
returns-in-Lost-clause-calls c =
    let old = c.args.self.now in
    let content : c.undo.new.content.items ≡ base_of old =
    c.undo.ensures.content
    ∙ ap (λ (k : List Range). undone k c.deref-in-Lost.result.now old.content.items) c.deref.ensures.value
    ∙ ap (λ (l : List ℕ). undone old.writes.items l old.content.items) c.deref-in-Lost.ensures.value
    ∙ c.requires.back in
    let marks : c.mark_all.new.writes.items ≡ map (marked_write Lost c.len.result) old.writes.items = c.mark_all.ensures.items in
    let new : History = record old { content = c.undo.new.content; writes = c.mark_all.new.writes } in
    let long : c.len.result ≡ length c.undo.new.content.items = search rules in
    let size : c.len.result ≡ length (replayed old.first.items (take (length (past_of old)) (used_of old))) =
    long ∙ ap length (content ∙ c.requires.past) ∙ ap (λ u. length (replayed old.first.items u)) (sym (take_at (past_of old) (with_octets old.writes.items old.log.items) (length (past_of old)) refl)) in
    revived_used old new c.requires refl c.undo.ensures.room refl refl refl Lost c.len.result (ap (λ (k : List Range). with_octets k old.log.items) marks)
    ∙ ap (λ n. revived Lost n (length (past_of old)) (used_of old)) size
    ∙ ap (λ (m : Image). revived m (length (replayed old.first.items (take (length (past_of old)) (used_of old)))) (length (past_of old)) (used_of old)) (sym c.in-Lost.is)

pub returns-in-Torn-clause-sound : goal.returns-in-Torn-clause-sound
returns-in-Torn-clause-sound c =
    let old = c.args.self.now in
    let marks : c.mark_all-in-Torn.new.writes.items ≡ map (marked_write Filled 0) old.writes.items = c.mark_all-in-Torn.ensures.items in
    let start : c.undo-in-Torn.new.content.items ≡ base_of old =
    c.undo-in-Torn.ensures.content
    ∙ ap (λ (k : List Range). undone k c.deref-in-Torn-2.result.now old.content.items) c.deref-in-Torn.ensures.value
    ∙ ap (λ (l : List ℕ). undone old.writes.items l old.content.items) c.deref-in-Torn-2.ensures.value
    ∙ c.requires.back in
    let new : History = record old { content = c.redo_all.new.content; writes = c.redo_all.new.writes; saved = c.redo_all.new.saved } in
    let e = c.redo_all.ensures in
    let used : with_octets c.redo_all.new.writes.items old.log.items ≡ with_octets (map (marked_write Filled 0) old.writes.items) old.log.items =
    ap (λ (l : List ℕ). with_octets c.redo_all.new.writes.items l) (sym c.deref-in-Torn-3.ensures.value)
    ∙ e.writes.0
    ∙ ap (λ (k : List Range). with_octets k c.deref-in-Torn-3.result.now) marks
    ∙ ap (λ (l : List ℕ). with_octets (map (marked_write Filled 0) old.writes.items) l) c.deref-in-Torn-3.ensures.value in
    let grows : vec_capacity old.content ≤ vec_capacity c.redo_all.new.content = omega (arith, c.undo-in-Torn.ensures.room, e.room) in
    let octets : octets_of c.redo_all.new.writes.items ≡ octets_of old.writes.items = e.writes.1 ∙ ap octets_of marks ∙ octets_marked Filled 0 old.writes.items in
    let content : c.redo_all.new.content.items ≡ replayed (base_of old) (with_octets c.redo_all.new.writes.items old.log.items) =
    e.content
    ∙ ap (λ (l : List ℕ). replayed l (with_octets c.mark_all-in-Torn.new.writes.items c.deref-in-Torn-3.result.now)) start
    ∙ ap (λ u. replayed (base_of old) u) (sym e.writes.0)
    ∙ ap (λ (l : List ℕ). replayed (base_of old) (with_octets c.redo_all.new.writes.items l)) c.deref-in-Torn-3.ensures.value in
    revived_sound old new c.requires refl grows refl refl refl Filled 0 e.saved octets content (e.back ∙ start) e.ends

pub returns-in-Torn-clause-calls : goal.returns-in-Torn-clause-calls
returns-in-Torn-clause-calls c =
    let old = c.args.self.now in
    let marks : c.mark_all-in-Torn.new.writes.items ≡ map (marked_write Filled 0) old.writes.items = c.mark_all-in-Torn.ensures.items in
    let start : c.undo-in-Torn.new.content.items ≡ base_of old =
    c.undo-in-Torn.ensures.content
    ∙ ap (λ (k : List Range). undone k c.deref-in-Torn-2.result.now old.content.items) c.deref-in-Torn.ensures.value
    ∙ ap (λ (l : List ℕ). undone old.writes.items l old.content.items) c.deref-in-Torn-2.ensures.value
    ∙ c.requires.back in
    let new : History = record old { content = c.redo_all.new.content; writes = c.redo_all.new.writes; saved = c.redo_all.new.saved } in
    let e = c.redo_all.ensures in
    let used : with_octets c.redo_all.new.writes.items old.log.items ≡ with_octets (map (marked_write Filled 0) old.writes.items) old.log.items =
    ap (λ (l : List ℕ). with_octets c.redo_all.new.writes.items l) (sym c.deref-in-Torn-3.ensures.value)
    ∙ e.writes.0
    ∙ ap (λ (k : List Range). with_octets k c.deref-in-Torn-3.result.now) marks
    ∙ ap (λ (l : List ℕ). with_octets (map (marked_write Filled 0) old.writes.items) l) c.deref-in-Torn-3.ensures.value in
    let grows : vec_capacity old.content ≤ vec_capacity c.redo_all.new.content = omega (arith, c.undo-in-Torn.ensures.room, e.room) in
    let size = length (replayed old.first.items (take (length (past_of old)) (used_of old))) in
    revived_used old new c.requires refl grows refl refl refl Filled 0 used
    ∙ torn_behind 0 size (length (past_of old)) (used_of old)
    ∙ ap (λ (m : Image). revived m size (length (past_of old)) (used_of old)) (sym c.in-Torn.is)

pub returns-in-Torn-clause-grows : goal.returns-in-Torn-clause-grows
returns-in-Torn-clause-grows c =
    let old = c.args.self.now in
    let e = c.redo_all.ensures in
    let marks : c.mark_all-in-Torn.new.writes.items ≡ map (marked_write Filled 0) old.writes.items = c.mark_all-in-Torn.ensures.items in
    record {
      content = omega (arith, c.undo-in-Torn.ensures.room, e.room);
      log = omega arith;
      saved = omega (arith, e.saved_room.0, c.clear.ensures.capacity);
      list = omega (arith, e.list.0, c.mark_all-in-Torn.ensures.room);
      log_long = omega arith;
      saved_long = omega (arith, e.saved_room.1, e.writes.1, ap octets_of marks, octets_marked Filled 0 old.writes.items, c.requires.saved);
      list_long = omega (arith, e.list.1, c.mark_all-in-Torn.ensures.len);
    }
