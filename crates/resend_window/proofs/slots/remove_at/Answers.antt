use Rattle.std.proofs.Common.{List, ℕ, None, sym, subst, refl, ◌∙◌, arith}
use Rattle.std.specs.Prelude.{map}
use Rattle.relay_core.proofs.Firsts.{got}
use Rattle.resend_window.specs.Catalogued.{Catalogues}
use Rattle.resend_window.specs.Groups.{held_groups}
use Rattle.resend_window.proofs.Catalogues.{there_at}
use Rattle.resend_window.proofs.Grouped.{keys_length}
use Rattle.resend_window.proofs.Listings.{keys_put}
use Rattle.resend_window.proofs.Alike.{gone_stands, alike_set, calm_dues}
use Rattle.resend_window.proofs.slots.remove_at.Goals as goal

pub settle-requires : goal.settle-requires
settle-requires c =
    let there = got c.args.slots.now c.args.place c.index-slots-place.result c.requires.within c.index-slots-place.is in
    let size = keys_length held_groups c.args.slots.now in
    let within = c.requires.within in
    subst (λ (ks : List (List (List ℕ))). Catalogues ks c.unlist.new.index) (sym (keys_put held_groups c.args.slots.now c.args.place None))
    (c.unlist.ensures (map held_groups c.args.slots.now) (omega arith) (there_at held_groups c.args.slots.now c.args.place c.index-slots-place.result there) c.requires.listed.grouped)

pub returns-then-is_ready-clause-listed : goal.returns-then-is_ready-clause-listed
returns-then-is_ready-clause-listed c =
    let there = got c.args.slots.now c.args.place c.index-slots-place.result c.requires.within c.index-slots-place.is in
    let size = keys_length held_groups c.args.slots.now in
    let within = c.requires.within in
    record {
      grouped =
          subst (λ (ks : List (List (List ℕ))). Catalogues ks c.unlist.new.index) (sym (keys_put held_groups c.args.slots.now c.args.place None))
          (c.unlist.ensures (map held_groups c.args.slots.now) (omega arith) (there_at held_groups c.args.slots.now c.args.place c.index-slots-place.result there) c.requires.listed.grouped);
      going = c.settle.ensures c.args.slots.now (alike_set c.args.slots.now c.args.place c.index-slots-place.result None there (gone_stands c.index-slots-place.result)) c.requires.listed.going;
    }

pub returns-else-is_ready-clause-listed : goal.returns-else-is_ready-clause-listed
returns-else-is_ready-clause-listed c =
    let there = got c.args.slots.now c.args.place c.index-slots-place.result c.requires.within c.index-slots-place.is in
    let size = keys_length held_groups c.args.slots.now in
    let within = c.requires.within in
    record {
      grouped =
          subst (λ (ks : List (List (List ℕ))). Catalogues ks c.unlist.new.index) (sym (keys_put held_groups c.args.slots.now c.args.place None))
          (c.unlist.ensures (map held_groups c.args.slots.now) (omega arith) (there_at held_groups c.args.slots.now c.args.place c.index-slots-place.result there) c.requires.listed.grouped);
      going = λ whole.
          calm_dues c.args.slots.now c.args.place c.index-slots-place.result None c.args.dues.now.entries there (sym c.is_ready.ensures ∙ c.if-is_ready.false) refl (c.requires.listed.going whole);
    }
