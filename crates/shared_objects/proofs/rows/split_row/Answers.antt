use Rattle.std.proofs.Common.{rules, ◌≡◌, ◌<◌, ◌+◌, ◌++◌, ◌∷◌, [], ◌∙◌, List, length, take, slice_get, get_or, refl, sym, ap, subst, arith}
use Rattle.std.specs.List.{AllZip}
use Rattle.std.proofs.lemmas.List.{take_more}
use Rattle.std.proofs.lemmas.Option.{slice_get_read, slice_get-get_or}
use Rattle.std.proofs.lemmas.Slice.Zip.{all_zipped_more}
use Rattle.turnstile.specs.Names.{knows}
use Rattle.shared_objects.specs.Seats.{Belongs, IsFresh}
use Rattle.shared_objects.proofs.Zips.{zip_same, zip_at, zip_set, same_item, was_at, take_whole}
use Rattle.shared_objects.proofs.Places.{same_on, part_on, rest_on}
use Rattle.shared_objects.proofs.rows.split_row.Goals as goal

pub loop-place-init : goal.loop-place-init
loop-place-init g c = record {
  kept = c.requires.fits;
  own = λ i. refl;
  done = λ i lt. absurd (omega (arith, lt));
  left = λ i le. refl;
  row = subst (λ (xs : List _). AllZip (IsFresh {g = g.M.Machine} c.args.calls) [] xs) (sym c.requires.none) tt;
  room = omega (arith, c.args.row.now.ok.0, ap length c.requires.none);
  spare = refl;
}

pub bounds-kept-place : goal.bounds-kept-place
bounds-kept-place g c = let long = zip_same (Belongs {g = g.M.Machine}) c.args.turnstiles.now c.loop-place.kept c.loop-place.invariant.kept in omega (arith, long, c.loop-place-test.true)

pub bounds-turnstiles-place : goal.bounds-turnstiles-place
bounds-turnstiles-place g c = omega (arith, c.loop-place-test.true)

pub offset_bounds-kept-place : goal.offset_bounds-kept-place
offset_bounds-kept-place g c =
    let long = zip_same (Belongs {g = g.M.Machine}) c.args.turnstiles.now c.loop-place.kept c.loop-place.invariant.kept in
    let l : c.loop-place.place < length c.loop-place.kept = omega (arith, long, c.loop-place-test.true) in
    search rules

pub offset_bounds-turnstiles-place : goal.offset_bounds-turnstiles-place
offset_bounds-turnstiles-place g c = search rules

pub split-seat-requires-clause-fits : goal.split-seat-requires-clause-fits
split-seat-requires-clause-fits g c =
    let long = zip_same (Belongs {g = g.M.Machine}) c.args.turnstiles.now c.loop-place.kept c.loop-place.invariant.kept in
    let l : c.loop-place.place < length c.loop-place.kept = omega (arith, long, c.loop-place-test.true) in
    let et = slice_get_read c.args.turnstiles.now (length c.args.turnstiles.now) c.loop-place.place c.index-turnstiles-place.result refl (omega (arith, l, long)) c.index-turnstiles-place.is in
    let ep = slice_get-get_or c.loop-place.kept c.loop-place.place c.index-kept-place.result l in
    zip_at (Belongs {g = g.M.Machine}) c.args.turnstiles.now c.loop-place.kept c.loop-place.place _ _ c.loop-place.invariant.kept et ep

pub split-seat-requires-clause-budget : goal.split-seat-requires-clause-budget
split-seat-requires-clause-budget g c =
    let long = zip_same (Belongs {g = g.M.Machine}) c.args.turnstiles.now c.loop-place.kept c.loop-place.invariant.kept in
    let l : c.loop-place.place < length c.loop-place.kept = omega (arith, long, c.loop-place-test.true) in
    let ep = slice_get-get_or c.loop-place.kept c.loop-place.place c.index-kept-place.result l in
    let first = zip_same (Belongs {g = g.M.Machine}) c.args.turnstiles.now c.args.kept.now c.requires.fits in
    let has = c.requires.budget c.loop-place.place (omega (arith, first, l, long)) in
    let still = c.loop-place.invariant.left c.loop-place.place (omega arith) in
    let was = was_at (λ p. (knows p.seat).budget) 0 c.loop-place.kept c.loop-place.place (get_or c.loop-place.kept c.loop-place.place c.index-kept-place.result) ep in
    omega (arith, has, still, was)

pub push_reserved-requires : goal.push_reserved-requires
push_reserved-requires g c = omega (arith, c.loop-place.invariant.room, c.loop-place.invariant.spare, c.requires.room, c.loop-place-test.true)

pub loop-place-preserved : goal.loop-place-preserved
loop-place-preserved g c =
    let long = zip_same (Belongs {g = g.M.Machine}) c.args.turnstiles.now c.loop-place.kept c.loop-place.invariant.kept in
    let l : c.loop-place.place < length c.loop-place.kept = omega (arith, long, c.loop-place-test.true) in
    let et = slice_get_read c.args.turnstiles.now (length c.args.turnstiles.now) c.loop-place.place c.index-turnstiles-place.result refl (omega (arith, l, long)) c.index-turnstiles-place.is in
    let ep = slice_get-get_or c.loop-place.kept c.loop-place.place c.index-kept-place.result l in
    let first = zip_same (Belongs {g = g.M.Machine}) c.args.turnstiles.now c.args.kept.now c.requires.fits in
    let has = c.requires.budget c.loop-place.place (omega (arith, first, l, long)) in
    let still = c.loop-place.invariant.left c.loop-place.place (omega arith) in
    let was = was_at (λ p. (knows p.seat).budget) 0 c.loop-place.kept c.loop-place.place (get_or c.loop-place.kept c.loop-place.place c.index-kept-place.result) ep in
    let gave : (knows c.split-seat.new.seat).budget + c.args.calls ≡ (knows (get_or c.loop-place.kept c.loop-place.place c.index-kept-place.result).seat).budget = (let b = ap (λ v. v.budget) c.split-seat.ensures.old in omega (arith, b, has, still, was)) in
    record {
      kept = zip_set (Belongs {g = g.M.Machine}) c.args.turnstiles.now c.loop-place.kept c.loop-place.place (record { place = (get_or c.loop-place.kept c.loop-place.place c.index-kept-place.result).place; seat = c.split-seat.new.seat }) c.loop-place.invariant.kept
          (λ t e. subst (λ (u : _). Belongs {g = g.M.Machine} u (record { place = (get_or c.loop-place.kept c.loop-place.place c.index-kept-place.result).place; seat = c.split-seat.new.seat })) (same_item (slice_get c.args.turnstiles.now c.loop-place.place) c.index-turnstiles-place.result t et e) c.split-seat.ensures.fits.0);
      own = λ i. same_on (λ p. (knows p.seat).mine) [] c.loop-place.kept c.loop-place.place (get_or c.loop-place.kept c.loop-place.place c.index-kept-place.result) (record { place = (get_or c.loop-place.kept c.loop-place.place c.index-kept-place.result).place; seat = c.split-seat.new.seat }) ep (ap (λ v. v.mine) c.split-seat.ensures.old) i ∙ c.loop-place.invariant.own i;
      done = λ i h. part_on (λ p. (knows p.seat).budget) c.args.calls c.args.kept.now c.loop-place.kept c.loop-place.place (get_or c.loop-place.kept c.loop-place.place c.index-kept-place.result) (record { place = (get_or c.loop-place.kept c.loop-place.place c.index-kept-place.result).place; seat = c.split-seat.new.seat }) ep gave c.loop-place.invariant.done c.loop-place.invariant.left i h;
      left = λ i h. rest_on (λ p. (knows p.seat).budget) c.args.calls c.args.kept.now c.loop-place.kept c.loop-place.place (get_or c.loop-place.kept c.loop-place.place c.index-kept-place.result) (record { place = (get_or c.loop-place.kept c.loop-place.place c.index-kept-place.result).place; seat = c.split-seat.new.seat }) ep gave c.loop-place.invariant.done c.loop-place.invariant.left i h;
      row =
          subst (λ (ts : List _). AllZip (IsFresh {g = g.M.Machine} c.args.calls) ts c.push_reserved.new.self.items)
          (sym (take_more c.args.turnstiles.now c.loop-place.place c.index-turnstiles-place.result (omega (arith, l, long)) ∙ ap (λ (t : _). take c.loop-place.place c.args.turnstiles.now ++ t ∷ []) (sym c.index-turnstiles-place.is)))
          (subst (λ (ps : List _). AllZip (IsFresh {g = g.M.Machine} c.args.calls) (take c.loop-place.place c.args.turnstiles.now ++ c.index-turnstiles-place.result ∷ []) ps) (sym c.push_reserved.ensures.items)
          (all_zipped_more (IsFresh {g = g.M.Machine} c.args.calls) (take c.loop-place.place c.args.turnstiles.now) c.loop-place.row.items c.index-turnstiles-place.result _ c.loop-place.invariant.row
          (record { fits = c.split-seat.ensures.fits.1; none = ap (λ v. v.mine) c.split-seat.ensures.new; budget = ap (λ v. v.budget) c.split-seat.ensures.new })));
      room = omega (arith, c.push_reserved.ensures.len, c.loop-place.invariant.room);
      spare = c.push_reserved.ensures.capacity ∙ c.loop-place.invariant.spare;
    }

pub returns-clause-kept : goal.returns-clause-kept
returns-clause-kept g c = c.loop-place.invariant.kept

pub returns-clause-own : goal.returns-clause-own
returns-clause-own g c = c.loop-place.invariant.own

pub returns-clause-budget : goal.returns-clause-budget
returns-clause-budget g c = λ i lt. let first = zip_same (Belongs {g = g.M.Machine}) c.args.turnstiles.now c.args.kept.now c.requires.fits in c.loop-place.invariant.done i (omega (arith, lt, first, c.loop-place-test.false))

pub returns-clause-row : goal.returns-clause-row
returns-clause-row g c = subst (λ (ts : List _). AllZip (IsFresh {g = g.M.Machine} c.args.calls) ts c.loop-place.row.items) (take_whole c.loop-place.place c.args.turnstiles.now (omega (arith, c.loop-place-test.false))) c.loop-place.invariant.row
