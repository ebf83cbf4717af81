use Rattle.std.proofs.Common.{◌++◌, ◌∷◌, [], ◌∙◌, List, map, reverse, sym, ap, subst, arith}
use Rattle.std.specs.List.{AllZip}
use Rattle.std.proofs.lemmas.List.{reverse-append}
use Rattle.std.proofs.lemmas.Slice.Zip.{all_zipped_more}
use Rattle.turnstile.specs.Names.{opening}
use Rattle.shared_objects.specs.Seats.{IsOpened}
use Rattle.shared_objects.proofs.Going.{moved_over}
use Rattle.shared_objects.proofs.gates.open_all.Goals as goal

pub loop-place-preserved : goal.loop-place-preserved
loop-place-preserved g c = record {
  turns = omega (arith, c.take_last.ensures.len, c.loop-place.invariant.turns);
  opened = subst (λ (ts : List _). AllZip (IsOpened {g = g.M.Machine} c.args.calls) ts c.push_reserved-in-Ok.new.self.items) (sym c.push_reserved.ensures.items)
      (subst (λ (ps : List _). AllZip (IsOpened {g = g.M.Machine} c.args.calls) (c.loop-place.turnstiles.items ++ c.in-Ok.turnstile ∷ []) ps) (sym c.push_reserved-in-Ok.ensures.items)
      (all_zipped_more (IsOpened {g = g.M.Machine} c.args.calls) c.loop-place.turnstiles.items c.loop-place.kept.items c.in-Ok.turnstile _ c.loop-place.invariant.opened
      (record { fresh = record { fits = c.in-Ok.ensures.ok.0; none = ap (λ v. v.mine) c.in-Ok.ensures.ok.3; budget = ap (λ v. v.budget) c.in-Ok.ensures.ok.3 }; all = c.in-Ok.ensures.ok.2 })));
  machines = ap (λ (ts : List _). map opening ts ++ reverse c.take_last.new.self.items) c.push_reserved.ensures.items
      ∙ moved_over opening c.loop-place.turnstiles.items c.in-Ok.turnstile (reverse c.take_last.new.self.items)
      ∙ ap (λ (m : _). map opening c.loop-place.turnstiles.items ++ m ∷ reverse c.take_last.new.self.items) c.in-Ok.ensures.ok.1
      ∙ ap (λ (ms : List _). map opening c.loop-place.turnstiles.items ++ ms) (sym (reverse-append c.take_last.new.self.items (c.take_last.result ∷ [])) ∙ ap reverse (sym c.take_last.ensures.items))
      ∙ c.loop-place.invariant.machines;
  room = c.take_last.ensures.capacity ∙ c.loop-place.invariant.room;
  spare = omega (arith, c.push_reserved.ensures.len, c.push_reserved.ensures.capacity, c.take_last.ensures.len, c.loop-place.invariant.spare);
  seats = omega (arith, c.push_reserved-in-Ok.ensures.len, c.push_reserved-in-Ok.ensures.capacity, c.take_last.ensures.len, c.loop-place.invariant.seats);
  filled = omega (arith, c.take_last.ensures.len, c.take_last.ensures.capacity, c.loop-place.invariant.filled);
}
