-- An exchange that leaves a connection open, and then the rest of the connection.
use Rattle.std.proofs.Common.{◌≡◌, ℕ, ◌+◌, ◌<◌, Bool, true, false, not, ◌||◌, List, [], ◌∷◌, ◌++◌, length, Option, Some, None, Ok, Err, refl, sym, ap, subst, ◌∙◌, arith, append_assoc}
use Rattle.std.proofs.lemmas.Bool.{eqb-false}
use Rattle.std.specs.Io.KnownBytes.{Consumes}
use Rattle.edge_io.specs.Writes.{WritesUpTo}
use Rattle.edge_io.specs.declared.ended.Ended.{Ended}
use Rattle.sae_entitlements.specs.Grants.{Grants}
use Rattle.http_front.specs.Reading.{IsMeant}
use Rattle.http_front.proofs.Meaning.{request-append}
use Rattle.kme_serve.specs.declared.turn.Turn.{Turn}
use Rattle.kme_serve.specs.Exchange.{Front, text_of, asks_close, closes}
use Rattle.kme_serve.specs.Connection.{Moment, RoseOnly, is_read_fault, is_write_fault, texts_of, EndsBy, IsServed}
use Rattle.kme_serve.specs.Steps.{StaysOpen}
use Rattle.kme_serve.proofs.Owing.{owes_rest}

consumes_trans : (a b c : Option (List ℕ)) (s t : List ℕ) → Consumes a b s → Consumes b c t → Consumes a c (s ++ t)
consumes_trans None b c s t first second = tt
consumes_trans (Some x) None c s t first second = absurd first
consumes_trans (Some x) (Some y) None s t first second = absurd second
consumes_trans (Some x) (Some y) (Some z) s t first second = first ∙ ap (λ (u : List ℕ). s ++ u) second ∙ sym (append_assoc s t z)

left_false : (a b : Bool) → (a || b) ≡ false → a ≡ false
left_false true b is = cc
left_false false b is = refl

right_false : (a b : Bool) → (a || b) ≡ false → b ≡ false
right_false true b is = cc
right_false false b is = is

-- After a response that leaves the connection open, one more response is within the limit.
pub few_more : (count : ℕ) (read : Front) → count < 1000 → closes count read ≡ false → count + 1 < 1000
few_more count read few stays =
    let other : count + 1 ≡ 1000 → ⊥ = eqb-false (count + 1) 1000 (right_false (asks_close read) _ stays) in
    omega arith

-- What was read and doesn't ask to close means the same when more octets follow.
meant_append : (octets behind later : List ℕ) (read : Front) → asks_close read ≡ false → IsMeant octets behind read → IsMeant (octets ++ later) (behind ++ later) read
meant_append octets behind later (Ok request) stays is = request-append octets request behind later is
meant_append octets behind later (Err refusal) stays is = cc

module _ (nodes : List (List ℕ)) (g : Grants) (node : ℕ) {P : Type 0} (Answers : P → Turn → P → Type 0) (seen : P → ℕ) where
  pub go_on : (count : ℕ) (kept kept_after owed owed_after : List ℕ) (before between after : Moment P) (ended : Ended)
      → StaysOpen nodes g node Answers seen count kept kept_after owed owed_after before between
      → IsServed nodes g node Answers seen (count + 1) kept_after owed_after between after ended → IsServed nodes g node Answers seen count kept owed before after ended
  go_on count kept kept_after owed owed_after before between after ended first later =
      let open_still : asks_close first.exchange.read ≡ false = left_false _ _ first.stays in
      let few : count + 1 + length later.answered < 1000 = later.few in
      let same : count + 1 + length later.answered ≡ count + length (first.exchange ∷ later.answered) = omega arith in
      record {
        octets = first.octets ++ later.octets;
        consumed = consumes_trans before.left between.left after.left first.octets later.octets first.consumed later.consumed;
        answered = first.exchange ∷ later.answered;
        last = later.last;
        rest = later.rest;
        means = (
          kept_after ++ later.octets,
          subst (λ (octets : List ℕ). IsMeant octets (kept_after ++ later.octets) first.exchange.read) (append_assoc kept first.octets later.octets)
              (meant_append (kept ++ first.octets) kept_after later.octets first.exchange.read open_still first.means),
          later.means,
        );
        stays_open = ((open_still, first.answered), later.stays_open);
        few = omega arith;
        events = (first.event, later.events);
        turns = (between.pass, first.takes, later.turns);
        text = later.text;
        written = subst (λ (text : List ℕ). WritesUpTo before.taken after.taken (not (is_write_fault ended)) (owed ++ text))
            (sym (append_assoc (text_of nodes g node false first.exchange) (texts_of nodes g node later.answered) later.text))
            (owes_rest before.taken between.taken after.taken owed _ owed_after first.owes (not (is_write_fault ended)) _ later.written);
        ends = subst (λ (n : ℕ). EndsBy nodes g node ended n later.last later.rest after.left later.text) same later.ends;
        read_faults = subst (λ (n : ℕ). RoseOnly (is_read_fault ended) n after.read_faults) first.read_faults later.read_faults;
        write_faults = subst (λ (n : ℕ). RoseOnly (is_write_fault ended) n after.write_faults) first.write_faults later.write_faults;
      }

  -- However the connection goes on from here, with what was done before it is served to its end.
  abbrev pub GoesOn : (count : ℕ) (kept owed : List ℕ) (now first : Moment P) → Type 0
  GoesOn count kept owed now first =
      (after : Moment P) (ended : Ended) → IsServed nodes g node Answers seen count kept owed now after ended → IsServed nodes g node Answers seen 0 [] [] first after ended
