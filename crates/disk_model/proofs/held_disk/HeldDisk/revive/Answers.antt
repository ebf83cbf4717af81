use Rattle.std.proofs.Common.{length, take, ap, subst, arith}
use Rattle.disk_model.specs.Images.{Passes}
use Rattle.disk_model.specs.Laws.{content_is_image}
use Rattle.disk_model.specs.Record.{replayed, image_of}
use Rattle.disk_model.specs.History.{used_of, past_of}
use Rattle.disk_model.specs.MemForm.{MemForm, images_of}
use Rattle.disk_model.proofs.Histories.{unsynced_behind}
use Rattle.disk_model.proofs.Forms.{revive_image, revive_passes, revive_fewer, revive_clean}
use Rattle.disk_model.proofs.held_disk.HeldDisk.revive.Goals as goal

pub invariant_of-self : goal.invariant_of-self
invariant_of-self c =
    let h = c.self.inside.history in
    let s = c.self.invariant in
    let e = c.revive-in-Some.ensures in
    let v : MemForm = record { first = h.first.items; used = used_of h; synced = length (past_of h); plan = c.self.inside.plan; allowance = c.self.inside.allowance; armings = c.self.inside.armings } in
    record {
      history = e.sound;
      reach = omega (arith, s.reach, e.grows.content);
      log = omega (arith, s.log, e.grows.log, e.grows.log_long);
      saved = omega (arith, s.saved, e.grows.saved, e.grows.saved_long);
      list = λ granted. let room = s.list granted in omega (arith, room, e.grows.list, e.grows.list_long);
      unsynced = s.unsynced;
      clean = λ none. revive_clean v c.revive-in-Some.new.self.first.items (used_of c.revive-in-Some.new.self) (ap (λ f. f.items) e.first)
          c.in-Some.image (length (replayed h.first.items (take (length (past_of h)) (used_of h)))) (length (past_of h)) (unsynced_behind h) e.calls (s.clean none);
    }

pub returns-in-Some-clause-image : goal.returns-in-Some-clause-image
returns-in-Some-clause-image c =
    let h = c.self.inside.history in
    let e = c.revive-in-Some.ensures in
    let v : MemForm = record { first = h.first.items; used = used_of h; synced = length (past_of h); plan = c.self.inside.plan; allowance = c.self.inside.allowance; armings = c.self.inside.armings } in
    let image = revive_image v c.revive-in-Some.new.self.first.items (used_of c.revive-in-Some.new.self) (ap (λ f. f.items) e.first)
    c.in-Some.image (length (replayed h.first.items (take (length (past_of h)) (used_of h)))) (length (past_of h)) (unsynced_behind h) e.calls in
    subst (λ (w : MemForm). images_of w (length w.used) (replayed c.revive-in-Some.new.self.first.items (used_of c.revive-in-Some.new.self))) c.self.view_is image

pub returns-in-Some-clause-images : goal.returns-in-Some-clause-images
returns-in-Some-clause-images c =
    let h = c.self.inside.history in
    let e = c.revive-in-Some.ensures in
    let v : MemForm = record { first = h.first.items; used = used_of h; synced = length (past_of h); plan = c.self.inside.plan; allowance = c.self.inside.allowance; armings = c.self.inside.armings } in
    let fewer = revive_fewer v c.revive-in-Some.new.self.first.items (used_of c.revive-in-Some.new.self) (ap (λ f. f.items) e.first)
    c.in-Some.image (length (replayed h.first.items (take (length (past_of h)) (used_of h)))) (length (past_of h)) (unsynced_behind h) e.calls in
    λ k i. subst (λ (w : MemForm). images_of w (length w.used) k) c.self.view_is (fewer k i)

pub returns-in-Some-clause-time : goal.returns-in-Some-clause-time
returns-in-Some-clause-time c =
    let h = c.self.inside.history in
    let e = c.revive-in-Some.ensures in
    let v : MemForm = record { first = h.first.items; used = used_of h; synced = length (past_of h); plan = c.self.inside.plan; allowance = c.self.inside.allowance; armings = c.self.inside.armings } in
    let time = revive_passes v c.revive-in-Some.new.self.first.items (used_of c.revive-in-Some.new.self) (ap (λ f. f.items) e.first)
    c.in-Some.image (length (replayed h.first.items (take (length (past_of h)) (used_of h)))) (length (past_of h)) (unsynced_behind h) e.calls in
    subst (λ (w : MemForm). Passes (length w.used) (length (used_of c.revive-in-Some.new.self)) (images_of w) (image_of c.revive-in-Some.new.self.first.items (used_of c.revive-in-Some.new.self))) c.self.view_is time

pub returns-in_default-clause-image : goal.returns-in_default-clause-image
returns-in_default-clause-image c =
    let h = c.self.inside.history in
    subst (λ (w : MemForm). images_of w (length w.used) (replayed h.first.items (used_of h))) c.self.view_is (content_is_image h.first.items (used_of h))
