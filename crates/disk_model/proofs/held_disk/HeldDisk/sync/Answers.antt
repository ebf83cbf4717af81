use Rattle.std.proofs.Common.{ℕ, ◌+◌, ◌-◌, ◌≤◌, ◌<◌, vec_len, vec_capacity, Bool, true, false, cond, length, sym, ◌∙◌, ap, subst, arith, rules}
use Rattle.std.proofs.lemmas.Bool.{false≢true}
use Rattle.disk_model.specs.Images.{Only}
use Rattle.disk_model.specs.Record.{image_of}
use Rattle.disk_model.specs.History.{used_of, past_of}
use Rattle.disk_model.specs.MemForm.{IsMemory, MemForm, content_of, images_of}
use Rattle.disk_model.specs.declared.allowance.Allowance.{Allowance}
use Rattle.disk_model.proofs.Forms.{sync_content, sync_only, sync_clean, sync_fewer}
use Rattle.disk_model.proofs.held_disk.HeldDisk.sync.Goals as goal

list_after : (b : Bool) (n m used cap more : ℕ) → n + (16 - used) ≤ cap → cap ≤ more → used < 16 → m ≤ n → m + (16 - cond b (used + 1) used) ≤ more
list_after true n m used cap more room grows few is = omega (arith, room, grows, few, is)
list_after false n m used cap more room grows few is = omega (arith, room, grows, few, is)

pub invariant_of-self : goal.invariant_of-self
invariant_of-self c =
    let h = c.self.inside.history in
    let a = c.self.inside.allowance in
    let s = c.self.invariant in
    let e = c.settle.ensures in
    let few : a.used < 16 = search rules in
    let v : MemForm = record { first = h.first.items; used = used_of h; synced = length (past_of h); plan = c.self.inside.plan; allowance = c.self.inside.allowance; armings = c.self.inside.armings } in
    subst (λ (b : Allowance). IsMemory c.settle.new.history b) (sym e.allowance) (record {
      history = e.sound;
      reach = omega (arith, s.reach, e.grows.content);
      log = omega (arith, s.log, e.grows.log, e.grows.log_long);
      saved = omega (arith, s.saved, e.grows.saved, e.grows.saved_long);
      list = λ granted. list_after a.unsynced (vec_len h.writes) (vec_len c.settle.new.history.writes) a.used (vec_capacity h.writes) (vec_capacity c.settle.new.history.writes) (s.list granted) e.grows.list few (omega (arith, e.grows.list_long));
      unsynced = λ none. absurd (false≢true none);
      clean = λ _. sync_clean v c.settle.new.history.first.items (used_of c.settle.new.history) (ap (λ f. f.items) e.first) a.unsynced e.calls s.clean;
    })

pub returns-in-Passes-clause-durable : goal.returns-in-Passes-clause-durable
returns-in-Passes-clause-durable c =
    let h = c.self.inside.history in
    let e = c.settle.ensures in
    let v : MemForm = record { first = h.first.items; used = used_of h; synced = length (past_of h); plan = c.self.inside.plan; allowance = c.self.inside.allowance; armings = c.self.inside.armings } in
    let only = sync_only v c.settle.new.history.first.items (used_of c.settle.new.history) (ap (λ f. f.items) e.first) c.self.inside.allowance.unsynced e.calls c.self.invariant.clean in
    subst (λ (w : MemForm). Only (content_of w) (image_of c.settle.new.history.first.items (used_of c.settle.new.history) (length (used_of c.settle.new.history)))) c.self.view_is only

pub returns-in-Passes-clause-content : goal.returns-in-Passes-clause-content
returns-in-Passes-clause-content c =
    let h = c.self.inside.history in
    let e = c.settle.ensures in
    let v : MemForm = record { first = h.first.items; used = used_of h; synced = length (past_of h); plan = c.self.inside.plan; allowance = c.self.inside.allowance; armings = c.self.inside.armings } in
    sync_content v c.settle.new.history.first.items (used_of c.settle.new.history) (ap (λ f. f.items) e.first) c.self.inside.allowance.unsynced e.calls c.self.invariant.clean
    ∙ ap (λ (w : MemForm). content_of w) c.self.view_is

pub returns-in-Passes-clause-images : goal.returns-in-Passes-clause-images
returns-in-Passes-clause-images c =
    let h = c.self.inside.history in
    let e = c.settle.ensures in
    let v : MemForm = record { first = h.first.items; used = used_of h; synced = length (past_of h); plan = c.self.inside.plan; allowance = c.self.inside.allowance; armings = c.self.inside.armings } in
    let fewer = sync_fewer v c.settle.new.history.first.items (used_of c.settle.new.history) (ap (λ f. f.items) e.first) c.self.inside.allowance.unsynced e.calls c.self.invariant.clean in
    λ k i. subst (λ (w : MemForm). images_of w (length w.used) k) c.self.view_is (fewer k i)
