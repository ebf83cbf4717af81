use Rattle.std.proofs.Common.{[], ◌∷◌, ◌++◌, length, ◌∙◌, ap}
use Rattle.disk_model.specs.Record.Used.{Wrote}
use Rattle.disk_model.specs.History.{used_of}
use Rattle.disk_model.specs.MemForm.{MemForm}
use Rattle.disk_model.specs.declared.arm.Image.TheVariants.{Kept}
use Rattle.disk_model.proofs.Forms.{wrote_content, wrote_others, wrote_images}
use Rattle.disk_model.proofs.held_disk.HeldDisk.write_at.Goals as goal

pub returns-in-Passes-clause-written : goal.returns-in-Passes-clause-written
returns-in-Passes-clause-written c =
    let e = c.write.ensures in
    wrote_content c.args.self.now c.write.new.self.first.items (used_of c.write.new.self) (ap (λ f. f.items) e.first ∙ ap (λ (v : MemForm). v.first) c.self.view_is)
    c.args.at c.args.bytes.now (e.calls ∙ ap (λ (v : MemForm). v.used ++ Wrote c.args.at c.args.bytes.now (length c.args.bytes.now) Kept ∷ []) c.self.view_is)

pub returns-in-Passes-clause-others : goal.returns-in-Passes-clause-others
returns-in-Passes-clause-others c =
    let e = c.write.ensures in
    wrote_others c.args.self.now c.write.new.self.first.items (used_of c.write.new.self) (ap (λ f. f.items) e.first ∙ ap (λ (v : MemForm). v.first) c.self.view_is)
    c.args.at c.args.bytes.now (e.calls ∙ ap (λ (v : MemForm). v.used ++ Wrote c.args.at c.args.bytes.now (length c.args.bytes.now) Kept ∷ []) c.self.view_is)

pub returns-in-Passes-clause-images : goal.returns-in-Passes-clause-images
returns-in-Passes-clause-images c =
    let e = c.write.ensures in
    wrote_images c.args.self.now c.write.new.self.first.items (used_of c.write.new.self) (ap (λ f. f.items) e.first ∙ ap (λ (v : MemForm). v.first) c.self.view_is)
    c.args.at c.args.bytes.now (e.calls ∙ ap (λ (v : MemForm). v.used ++ Wrote c.args.at c.args.bytes.now (length c.args.bytes.now) Kept ∷ []) c.self.view_is)

pub returns-in-Cuts-clause-others : goal.returns-in-Cuts-clause-others
returns-in-Cuts-clause-others c =
    let e = c.write-in-Cuts.ensures in
    wrote_others c.args.self.now c.write-in-Cuts.new.self.first.items (used_of c.write-in-Cuts.new.self) (ap (λ f. f.items) e.first ∙ ap (λ (v : MemForm). v.first) c.self.view_is)
    c.args.at c.args.bytes.now (e.calls ∙ ap (λ (v : MemForm). v.used ++ Wrote c.args.at c.args.bytes.now (length c.args.bytes.now) Kept ∷ []) c.self.view_is)

pub returns-in-Cuts-clause-images : goal.returns-in-Cuts-clause-images
returns-in-Cuts-clause-images c =
    let e = c.write-in-Cuts.ensures in
    wrote_images c.args.self.now c.write-in-Cuts.new.self.first.items (used_of c.write-in-Cuts.new.self) (ap (λ f. f.items) e.first ∙ ap (λ (v : MemForm). v.first) c.self.view_is)
    c.args.at c.args.bytes.now (e.calls ∙ ap (λ (v : MemForm). v.used ++ Wrote c.args.at c.args.bytes.now (length c.args.bytes.now) Kept ∷ []) c.self.view_is)
