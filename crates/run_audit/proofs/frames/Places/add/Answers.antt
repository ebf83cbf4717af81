use Rattle.std.proofs.Common.{◌≡◌, ◌||◌, ◌&&◌, ℕ, List, ◌∷◌, Bool, true, false, not, cond, Option, Some, refl, sym, ap, ◌∙◌, subst, arith}
use Rattle.std.specs.Prelude.{is_some}
use Rattle.std.specs.Str.{bytes_eq}
use Rattle.ordered_set.specs.Entries.{has_entry}
use Rattle.run_audit.specs.declared.frames.Frame.{Frame}
use Rattle.run_audit.specs.Table.{at}
use Rattle.run_audit.specs.Frames.{is_placed}
use Rattle.run_audit.specs.Kept.{place_key, last_entry, last_of, ArePlaced}
use Rattle.run_audit.proofs.Apart.{placed_known}
use Rattle.run_audit.proofs.Placing.{Puts, Inserts, lengths_more, offsets_more, lasts_more, count_known}
use Rattle.run_audit.proofs.frames.Places.add.Goals as goal

pub returns : goal.returns
returns c fs placed agree =
    let f : Frame = c.args.frame.now in
    let known : c.is_placed-is_new.result ≡ is_placed f.lane f.offset fs = c.is_placed-is_new.ensures ∙ ap is_some (placed.lengths f.lane f.offset) ∙ placed_known f.lane f.offset fs in
    let lengths : Puts c.args.self.now.lengths c.put.new.table (place_key f.lane f.offset) f.length = λ k. subst (λ (key : List ℕ). at c.put.new.table k ≡ cond (bytes_eq key k) (Some f.length) (at c.args.self.now.lengths k)) c.place_key.ensures (subst (λ (length : ℕ). at c.put.new.table k ≡ cond (bytes_eq c.place_key.result k) (Some length) (at c.args.self.now.lengths k)) c.from.ensures (c.in_ok-put.ensures {u = tt} k)) in
    let last : c.last_of-last.result ≡ last_of f = c.last_of-last.ensures in
    let offsets : Puts c.args.self.now.offsets c.put-2.new.table (place_key f.lane (last_of f)) f.offset = λ k. subst (λ (key : List ℕ). at c.put-2.new.table k ≡ cond (bytes_eq key k) (Some f.offset) (at c.args.self.now.offsets k)) (c.place_key-2.ensures ∙ ap (place_key f.lane) last) (c.in_ok-put-2.ensures {u = tt} k) in
    let lasts : Inserts c.args.self.now.lasts c.insert.new.self (last_entry f.lane (last_of f)) = λ e. subst (λ (entry : List ℕ). has_entry c.insert.new.self e ≡ (bytes_eq entry e || has_entry c.args.self.now.lasts e)) (c.last_entry.ensures ∙ ap (last_entry f.lane) last) ((c.in_ok-insert.ensures {u = tt}).ok e) in (
      ap not known,
      record {
        lengths = lengths_more c.args.self.now.lengths c.put.new.table f fs placed.lengths lengths;
        offsets = offsets_more c.args.self.now.offsets c.put-2.new.table f fs placed.offsets offsets;
        lasts = lasts_more c.args.self.now.lasts c.insert.new.self f fs placed.lasts lasts;
        count = c.counted-count.ensures ∙ count_known f fs c.args.self.now.count c.is_placed-is_new.result placed.count known;
        apart = (omega arith, omega arith, agree, placed.apart);
      },
    )
