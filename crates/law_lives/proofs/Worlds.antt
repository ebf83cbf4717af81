-- The world at rest: it is conserved, and gives all views back.
use Rattle.std.proofs.Common.{◌≡◌, ℕ, Bool, false, List, [], length, refl, sym, ◌∙◌, arith, inl, inr}
use Rattle.std.specs.Prelude.{◌<◌}
use Rattle.qkd_base.specs.declared.lane.Lane.{Lane}
use Rattle.net_model.specs.declared.record.Record.{Record}
use Rattle.net_model.specs.Site.{count_up}
use Rattle.net_model.specs.World.{Network, World, Durable, Journal, no_doubt}
use Rattle.net_model.specs.Invariant.{Invariant, Conserved, IsJournal, HasRoomFor, with_doubts}
use Rattle.law_invariant.proofs.Effects.{drawn_later}
use Rattle.law_invariant.proofs.Volatiles.{nothing_kept}
use Rattle.law_recovery.specs.Saved.{DoubtsFit}
use Rattle.law_lives.specs.Images.{IsImage, AreImages}
use Rattle.run_model.specs.Begin.{IsAtRest, MayBegin}
use Rattle.law_lives.specs.AtRest.{durable_at_rest, at_rest}
use Rattle.law_lives.specs.OneWorld.{IsOneWorld}
use Rattle.law_lives.proofs.Choices.{choice, choice_holds}
use Rattle.law_lives.proofs.Owners.{owned_at_rest, room_at_rest, length_at_rest}
use Rattle.law_lives.proofs.Doubts.{AreSettled, all_settled}
use Rattle.law_lives.proofs.Views.{rest_sees}

pub journal_room : (j : Journal) → IsJournal j → HasRoomFor j no_doubt
journal_room j (inl none) open' = omega (arith, none)
journal_room j (inr some) open' = let limit = some.1 in omega (arith, limit)

module _ (net : Network) (w : World) (c : Conserved net w) (fits : DoubtsFit net w) (made : ℕ → Bool) (journals : ℕ → Journal) where
  abbrev settled : Durable
  settled = with_doubts net.site w made (count_up net.site.nodes) w.durable

  abbrev rest : World
  rest = at_rest net.site made journals w

  all : AreSettled net w c fits made net.site.nodes settled
  all = all_settled net w c fits made net.site.nodes

  own_length : (l : Lane) → length ((durable_at_rest net.site made w).own l) ≡ settled.lease l
  own_length l = length_at_rest settled.facts (settled.own l) (w.unclaimed l) (settled.lease l) _ (all.now.room l)

  rest_now : Invariant net.site (durable_at_rest net.site made w) (λ l. []) (λ l. [])
  rest_now =
      let k = all.now in
      record {
        owned = λ l. owned_at_rest settled.facts (settled.own l) (w.frames l) _ (k.owned l) (settled.lease l);
        room = λ l. room_at_rest settled.facts (settled.own l) (w.unclaimed l) (settled.lease l) _ (k.room l);
        table = k.table;
        streams = k.streams;
        groups = k.groups;
        knowledge = k.knowledge;
        carried = λ l. record { framed = λ j a h. cc; wanted = λ j t h. cc };
        marked = k.marked;
        stored = k.stored;
        handings = k.handings;
      }

  rest_is : IsAtRest rest
  unfolding at_rest
  rest_is = record {
    down = λ v. refl;
    certain = λ v. refl;
    unbroken = λ v. refl;
    empty = λ v. refl;
    noted = λ v. refl;
    linked = λ link. refl;
    claimed = λ l. refl;
    put = λ l. refl;
    framed = λ l. refl;
    wired = λ l. refl;
    owned = λ l. own_length l;
    recovered = λ l. refl;
  }

  rest_keeps : ((v : ℕ) → IsJournal (journals v)) → Conserved net rest
  unfolding at_rest
  rest_keeps sized = record {
    now = rest_now;
    doubts = λ v. tt;
    doubtful = λ v h. cc;
    resting = λ v h. refl;
    volatile = λ v. nothing_kept net rest v;
    placed = λ v n p h. cc;
    posted = λ l. record { ordered = λ n t h. cc; put = λ n o h. cc };
    wired = λ l. record { wired = λ n j h. cc; put = λ n o h. cc };
    journals = sized;
    started = λ v h. cc;
    doubt_room = λ v. journal_room (journals v) (sized v);
    drawn = record { table = λ n f there secret. drawn_later net w rest f (omega arith) (all.table n f there secret); doubts = λ v n f h. cc };
    few_blocks = all.few;
    recovered = λ l. omega (arith, own_length l);
  }

  pub one_world : (images : ℕ → List (List Record)) → ((v : ℕ) → IsJournal (journals v)) → ((v : ℕ) → v < net.site.nodes → IsImage net w v (made v) (images v)) →
      IsOneWorld net w images journals made
  one_world images sized read = record {
    as_read = read;
    given = λ v less. rest_sees net w made journals all.now v ∙ all.sees v less ∙ sym (read v less).back;
    rest = rest_is;
    conserved = rest_keeps sized;
  }

pub images_have_one_world : (net : Network) (w : World) (images : ℕ → List (List Record)) (journals : ℕ → Journal) → Conserved net w → DoubtsFit net w →
    AreImages net w images → ((v : ℕ) → IsJournal (journals v)) → (made : ℕ → Bool) × IsOneWorld net w images journals made
images_have_one_world net w images journals c fits read sized =
    let P : ℕ → Bool → Type 0 = λ v made. IsImage net w v made (images v) in
    (choice net.site.nodes P false read, one_world net w c fits (choice net.site.nodes P false read) journals images sized (choice_holds net.site.nodes P false read))

-- A course may begin in that world.
pub one_begins : (net : Network) (w : World) (images : ℕ → List (List Record)) (journals : ℕ → Journal) (made : ℕ → Bool) → IsOneWorld net w images journals made →
    MayBegin net (at_rest net.site made journals w)
one_begins net w images journals made one = record { rest = one.rest; conserved = one.conserved; given = λ v less. (images v, one.given v less) }
