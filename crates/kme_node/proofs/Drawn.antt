-- Replacing the octets of a batch by drawn ones changes neither its length nor its blocks.
use Rattle.std.proofs.Common.{◌≡◌, ℕ, List, [], ◌∷◌, length, suc, drop, refl, sym, ap, subst}
use Rattle.net_model.specs.declared.record.Record.{Record}
use Rattle.net_model.specs.declared.record.Record.TheVariants.{Block, Lease, Learned, Acked, Handed, Closed, Bare}
use Rattle.kme_facts.specs.Taken.{HasRoom as HasFactsRoom}
use Rattle.kme_base.specs.Random.{with_random, spends, fact_spends}
use Rattle.kme_base.specs.declared.step.Step.{Step}
use Rattle.kme_base.specs.Places.{LinkEnds}
use Rattle.kme_node.specs.Holdings.{Holdings, Fits, HasRoom, HasBatchRoom, HasBlocksAlone}

pub drawn_length : (random : List ℕ) (rs : List Record) → length (with_random random rs) ≡ length rs
drawn_length random [] = refl
drawn_length random (r ∷ rs) = ap suc (drawn_length (drop (spends r rs) random) rs)

drawn_alone : (random : List ℕ) (rs : List Record) → HasBlocksAlone rs → HasBlocksAlone (with_random random rs)
drawn_alone random [] fits = tt
drawn_alone random (Block link number bytes ∷ rs) fits = (fits.0, ap (with_random random) fits.1)
drawn_alone random (Lease lane end ∷ rs) fits = drawn_alone random rs fits
drawn_alone random (Learned f ∷ rs) fits = drawn_alone (drop (fact_spends f rs) random) rs fits
drawn_alone random (Acked n ∷ rs) fits = drawn_alone random rs fits
drawn_alone random (Handed n sae ∷ rs) fits = drawn_alone random rs fits
drawn_alone random (Closed n sae ∷ rs) fits = drawn_alone random rs fits
drawn_alone random (Bare f ∷ rs) fits = drawn_alone random rs fits

drawn_room : (ends : LinkEnds) (random : List ℕ) (rs : List Record) → HasBatchRoom ends rs → HasBatchRoom ends (with_random random rs)
drawn_room ends random [] room = tt
drawn_room ends random (Block link number bytes ∷ rs) room = room
drawn_room ends random (Lease lane end ∷ rs) room = drawn_room ends random rs room
drawn_room ends random (Learned f ∷ rs) room = drawn_room ends (drop (fact_spends f rs) random) rs room
drawn_room ends random (Acked n ∷ rs) room = drawn_room ends random rs room
drawn_room ends random (Handed n sae ∷ rs) room = drawn_room ends random rs room
drawn_room ends random (Closed n sae ∷ rs) room = drawn_room ends random rs room
drawn_room ends random (Bare f ∷ rs) room = drawn_room ends random rs room

pub drawn_fits : (h : Holdings) (s : Step) (random : List ℕ) → Fits h s → Fits h (record s { batch = with_random random s.batch })
drawn_fits h s random fits = record { blocks = drawn_alone random s.batch fits.blocks; orders = fits.orders }

pub drawn_has_room : (h : Holdings) (s : Step) (random : List ℕ) → HasRoom h s → HasRoom h (record s { batch = with_random random s.batch })
drawn_has_room h s random room =
    record { facts = subst (HasFactsRoom h.kept) (sym (drawn_length random s.batch)) room.facts; blocks = drawn_room h.ends random s.batch room.blocks; window = room.window }
