-- The kept world is at rest and conserved, and a life may begin in it.
use Rattle.std.proofs.Common.{◌≡◌, ℕ, ◌+◌, true, List, [], length, length-append, refl, sym, ◌∙◌, ap, arith, Some}
use Rattle.qkd_base.specs.Name.{Name}
use Rattle.net_model.specs.declared.fact.Fact.{Fact}
use Rattle.net_model.specs.declared.record.Record.{Record}
use Rattle.net_model.specs.Table.{origin, is_secret, bytes_of, fact_at}
use Rattle.net_model.specs.OctetSequence.{OctetSequence}
use Rattle.net_model.specs.Sealing.{Sealing}
use Rattle.net_model.specs.Site.{Site}
use Rattle.net_model.specs.View.{View}
use Rattle.net_model.specs.World.{Network, Journal}
use Rattle.net_model.specs.Drawn.{IsDrawn}
use Rattle.net_model.specs.Invariant.{Invariant, Conserved, IsJournal}
use Rattle.law_invariant.proofs.Volatiles.{nothing_kept}
use Rattle.run_model.specs.Begin.{IsAtRest, MayBegin}
use Rattle.law_lives.specs.Belongs.{AreRead, Belongs}
use Rattle.law_lives.specs.KeptWorld.{kept_durable, kept_table, spelled, kept_network, kept_world}
use Rattle.law_lives.proofs.KeptFacts.{AllRead}
use Rattle.law_lives.proofs.KeptGiven.{given_back}
use Rattle.law_lives.proofs.KeptHandings.{handings_kept}
use Rattle.law_lives.proofs.KeptKnowledge.{table_kept, streams_kept, groups_kept, knowledge_kept, marked_kept, stored_kept}
use Rattle.law_lives.proofs.KeptLanes.{owned_kept, room_kept, few_kept, length_kept}
use Rattle.law_lives.proofs.KeptSecrets.{within, middle_octets}
use Rattle.law_lives.proofs.KeptViews.{is_read, view_read}
use Rattle.law_lives.proofs.Worlds.{journal_room}

pub kept_rests : (s : Site) (views : List View) (journals : ℕ → Journal) → IsAtRest (kept_world s views journals)
unfolding kept_world
kept_rests s views journals = record {
  down = λ v. refl;
  certain = λ v. refl;
  unbroken = λ v. refl;
  empty = λ v. refl;
  noted = λ v. refl;
  linked = λ link. refl;
  claimed = λ l. refl;
  put = λ l. refl;
  framed = λ l. refl;
  wired = λ l. refl;
  owned = λ l. length_kept s views l;
  recovered = λ l. refl;
}

-- The bytes of each secret of the table stand in its maker's entropy.
pub drawn_kept : (s : Site) (sealing : Sealing) (devices entropies : ℕ → OctetSequence) (views : List View) (journals : ℕ → Journal) (n : Name) (f : Fact) →
    fact_at (kept_table views) n ≡ Some f → is_secret f ≡ true → IsDrawn (kept_network s sealing devices entropies views) (kept_world s views journals) f
unfolding kept_world
drawn_kept s sealing devices entropies views journals n f at secret =
    let r = within (kept_table views) n f at secret in
    let all : length (spelled (origin f) (kept_table views)) ≡ length r.before + (length (bytes_of f) + length r.after) =
    ap length r.is ∙ length-append r.before _ ∙ ap (λ (k : ℕ). length r.before + k) (length-append (bytes_of f) r.after) in
    record {
      place = length r.before;
      bytes = sym (middle_octets (spelled (origin f) (kept_table views)) r.before (bytes_of f) r.after (entropies (origin f)) r.is);
      within = omega (arith, all);
    }

module _ (s : Site) (devices : ℕ → OctetSequence) (views : List View) (read : AllRead views) (b : Belongs s devices views) where
  pub now_kept : Invariant s (kept_durable s views) (λ l. []) (λ l. [])
  unfolding kept_durable
  now_kept = record {
    owned = λ l. owned_kept s views read (kept_table views) l;
    room = λ l. room_kept s views read (kept_table views) l;
    table = table_kept s devices views read b;
    streams = streams_kept s devices views read b;
    groups = groups_kept s devices views read b;
    knowledge = knowledge_kept s devices views read b;
    carried = λ l. record { framed = λ j a h. cc; wanted = λ j t h. cc };
    marked = marked_kept s devices views read b;
    stored = stored_kept s devices views read b;
    handings = handings_kept s devices views read b;
  }

  pub conserved_kept : (sealing : Sealing) (entropies : ℕ → OctetSequence) (journals : ℕ → Journal) → ((v : ℕ) → IsJournal (journals v)) →
      Conserved (kept_network s sealing devices entropies views) (kept_world s views journals)
  unfolding kept_world kept_durable
  conserved_kept sealing entropies journals sized =
      let net : Network = kept_network s sealing devices entropies views in
      record {
        now = now_kept;
        doubts = λ v. tt;
        doubtful = λ v h. cc;
        resting = λ v h. refl;
        volatile = λ v. nothing_kept net (kept_world s views journals) v;
        placed = λ v n p h. cc;
        posted = λ l. record { ordered = λ n t h. cc; put = λ n o h. cc };
        wired = λ l. record { wired = λ n j h. cc; put = λ n o h. cc };
        journals = sized;
        started = λ v h. cc;
        doubt_room = λ v. journal_room (journals v) (sized v);
        drawn = record { table = drawn_kept s sealing devices entropies views journals; doubts = λ v n f h. cc };
        few_blocks = few_kept s views read;
        recovered = λ l. omega (arith, length_kept s views l);
      }

-- A life may begin there.
pub kept_begins : (s : Site) (sealing : Sealing) (devices entropies : ℕ → OctetSequence) (batches : ℕ → List (List Record)) (views : List View) (journals : ℕ → Journal) →
    AreRead s batches views → Belongs s devices views → ((v : ℕ) → IsJournal (journals v)) → MayBegin (kept_network s sealing devices entropies views) (kept_world s views journals)
kept_begins s sealing devices entropies batches views journals read b sized = record {
  rest = kept_rests s views journals;
  conserved = conserved_kept s devices views (is_read s batches views read) b sealing entropies journals sized;
  given = λ v less. (batches v, given_back s sealing devices entropies batches views read b journals v less ∙ view_read s batches views read v less);
}
