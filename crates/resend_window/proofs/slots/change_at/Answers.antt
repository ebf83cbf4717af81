use Rattle.std.proofs.Common.{◌≡◌, List, ℕ, Option, Some, ap, sym, subst, ◌∙◌, arith}
use Rattle.std.specs.Prelude.{map, slice_set}
use Rattle.relay_core.proofs.Firsts.{got}
use Rattle.resend_window.specs.declared.held.Held.{Held}
use Rattle.resend_window.specs.Catalogued.{Catalogues}
use Rattle.resend_window.specs.Groups.{held_groups}
use Rattle.resend_window.specs.Slots.{edited}
use Rattle.resend_window.proofs.Catalogues.{there_at}
use Rattle.resend_window.proofs.Grouped.{keys_length}
use Rattle.resend_window.proofs.Listings.{keys_put}
use Rattle.resend_window.proofs.Alike.{StandsAs, edited_stands, alike_set, calm_dues}
use Rattle.resend_window.proofs.slots.change_at.Goals as goal

pub settle-requires : goal.settle-requires
settle-requires c =
    let there = got c.args.slots.now c.args.place c.index-slots-place.result c.requires.within c.index-slots-place.is in
    let size = keys_length held_groups c.args.slots.now in
    let within = c.requires.within in
    subst (λ (ks : List (List (List ℕ))). Catalogues ks c.relist_asked.new.index)
    (sym (keys_put held_groups c.args.slots.now c.args.place c.changed-next.result ∙ ap (λ (o : Option Held). slice_set (map held_groups c.args.slots.now) c.args.place (held_groups o)) c.changed-next.ensures))
    (c.relist_asked.ensures (map held_groups c.args.slots.now) (omega arith) (there_at held_groups c.args.slots.now c.args.place c.index-slots-place.result there) c.requires.listed.grouped)

pub returns-then-is_ready-clause-slots : goal.returns-then-is_ready-clause-slots
returns-then-is_ready-clause-slots c slot h =
    let there = got c.args.slots.now c.args.place c.index-slots-place.result c.requires.within c.index-slots-place.is in
    let same : c.index-slots-place.result ≡ slot = (let e : Some c.index-slots-place.result ≡ Some slot = sym there ∙ h in cc) in
    ap (slice_set c.args.slots.now c.args.place) (c.changed-next.ensures ∙ ap (edited c.args.query.now c.args.change.now) same)

pub returns-else-is_ready-2-clause-slots : goal.returns-else-is_ready-2-clause-slots
returns-else-is_ready-2-clause-slots c slot h =
    let there = got c.args.slots.now c.args.place c.index-slots-place.result c.requires.within c.index-slots-place.is in
    let same : c.index-slots-place.result ≡ slot = (let e : Some c.index-slots-place.result ≡ Some slot = sym there ∙ h in cc) in
    ap (slice_set c.args.slots.now c.args.place) (c.changed-next.ensures ∙ ap (edited c.args.query.now c.args.change.now) same)

pub returns-then-is_ready-clause-listed : goal.returns-then-is_ready-clause-listed
returns-then-is_ready-clause-listed c =
    let there = got c.args.slots.now c.args.place c.index-slots-place.result c.requires.within c.index-slots-place.is in
    let size = keys_length held_groups c.args.slots.now in
    let within = c.requires.within in
    record {
      grouped =
          subst (λ (ks : List (List (List ℕ))). Catalogues ks c.relist_asked.new.index)
          (sym (keys_put held_groups c.args.slots.now c.args.place c.changed-next.result ∙ ap (λ (o : Option Held). slice_set (map held_groups c.args.slots.now) c.args.place (held_groups o)) c.changed-next.ensures))
          (c.relist_asked.ensures (map held_groups c.args.slots.now) (omega arith) (there_at held_groups c.args.slots.now c.args.place c.index-slots-place.result there) c.requires.listed.grouped);
      going =
          c.settle.ensures c.args.slots.now
          (alike_set c.args.slots.now c.args.place c.index-slots-place.result c.changed-next.result there
          (subst (StandsAs c.index-slots-place.result) (sym c.changed-next.ensures) (edited_stands c.args.query.now c.args.change.now c.index-slots-place.result c.requires.kept))) c.requires.listed.going;
    }

pub returns-else-is_ready-2-clause-listed : goal.returns-else-is_ready-2-clause-listed
returns-else-is_ready-2-clause-listed c =
    let there = got c.args.slots.now c.args.place c.index-slots-place.result c.requires.within c.index-slots-place.is in
    let size = keys_length held_groups c.args.slots.now in
    let within = c.requires.within in
    record {
      grouped =
          subst (λ (ks : List (List (List ℕ))). Catalogues ks c.relist_asked.new.index)
          (sym (keys_put held_groups c.args.slots.now c.args.place c.changed-next.result ∙ ap (λ (o : Option Held). slice_set (map held_groups c.args.slots.now) c.args.place (held_groups o)) c.changed-next.ensures))
          (c.relist_asked.ensures (map held_groups c.args.slots.now) (omega arith) (there_at held_groups c.args.slots.now c.args.place c.index-slots-place.result there) c.requires.listed.grouped);
      going =
          λ whole.
          calm_dues c.args.slots.now c.args.place c.index-slots-place.result c.changed-next.result c.args.dues.now.entries there (sym c.is_ready.ensures ∙ c.if-is_ready.false)
          (sym c.is_ready-else-is_ready.ensures ∙ c.if-is_ready-2.false) (c.requires.listed.going whole);
    }
