use Rattle.std.proofs.Common.{◌≡◌, ◌++◌, ◌∷◌, [], ℕ, List, length, ap, ◌∙◌, refl, arith, rules}
use Rattle.std.proofs.lemmas.Grind.{common_steps}
use Rattle.disk_model.specs.History.{kept_of}
use Rattle.disk_model.specs.declared.arm.Image.TheVariants.{Kept}
use Rattle.disk_model.specs.declared.history.History.{History}
use Rattle.disk_model.proofs.Histories.{wrote}
use Rattle.disk_model.proofs.history.History.write.Goals as goal

pub returns-clause-sound : goal.returns-clause-sound
returns-clause-sound c =
    let old = c.args.self.now in
    let bytes = c.args.bytes.now in
    let new : History = record old { content = c.lay.new.content; writes = c.push_reserved.new.self; log = c.extend_from_slice.new.self; saved = c.save.new.saved } in
    let log : c.extend_from_slice.new.self.items ≡ old.log.items ++ bytes = grind (arith, common_steps) in
    let kept = c.save.ensures.kept ∙ ap (λ (l : List ℕ). old.saved.items ++ kept_of c.args.at (length bytes) l) c.deref.ensures.value in
    let size : c.len-before.result ≡ length old.content.items = search rules in
    let writes = c.push_reserved.ensures.items ∙ ap (λ (n : ℕ). old.writes.items ++ record { at = c.args.at; len = length bytes; inside = length bytes; before = n; state = Kept } ∷ []) size in
    (wrote old new c.requires.sound refl c.lay.ensures.room refl refl c.args.at bytes c.lay.ensures.laid log kept writes c.requires.room.content).0

pub returns-clause-calls : goal.returns-clause-calls
returns-clause-calls c =
    let old = c.args.self.now in
    let bytes = c.args.bytes.now in
    let new : History = record old { content = c.lay.new.content; writes = c.push_reserved.new.self; log = c.extend_from_slice.new.self; saved = c.save.new.saved } in
    let log : c.extend_from_slice.new.self.items ≡ old.log.items ++ bytes = grind (arith, common_steps) in
    let kept = c.save.ensures.kept ∙ ap (λ (l : List ℕ). old.saved.items ++ kept_of c.args.at (length bytes) l) c.deref.ensures.value in
    let size : c.len-before.result ≡ length old.content.items = search rules in
    let writes = c.push_reserved.ensures.items ∙ ap (λ (n : ℕ). old.writes.items ++ record { at = c.args.at; len = length bytes; inside = length bytes; before = n; state = Kept } ∷ []) size in
    (wrote old new c.requires.sound refl c.lay.ensures.room refl refl c.args.at bytes c.lay.ensures.laid log kept writes c.requires.room.content).1
