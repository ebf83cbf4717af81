-- Events that make no step.
use Rattle.std.proofs.Common.{◌≡◌, inl, inr, ℕ, ◌+◌, ◌<◌, Bool, true, false, List, length, sym, ap, ◌∙◌, arith}
use Rattle.std.specs.Prelude.{nat_lt, ◌==◌, Option, Ok, Err}
use Rattle.std.specs.List.{list_all}
use Rattle.std.proofs.lemmas.Bool.Decides.{nat_tests}
use Rattle.net_model.specs.declared.event.Event.{Event}
use Rattle.net_model.specs.declared.placing.Placing.{Placing}
use Rattle.net_model.specs.declared.record.Record.{Record}
use Rattle.net_model.specs.declared.reply.Reply.{Reply}
use Rattle.net_model.specs.declared.reply.Reply.TheVariants.{Memory, JournalFull}
use Rattle.net_model.specs.Site.{Site}
use Rattle.net_model.specs.World.{Journal}
use Rattle.net_model.specs.View.{View}
use Rattle.net_model.specs.Journal.{added_len, journal_limit}
use Rattle.net_model.specs.Decision.{Decision, Refuses, Does}
use Rattle.net_model.specs.Decide.{decide, random_need}
use Rattle.net_model.specs.Handle.{is_numbered}
use Rattle.hop_frames.specs.Sealing.{hop_sealing}
use Rattle.kme_base.specs.Random.{with_random}
use Rattle.kme_base.specs.Steps.{IsStep, placings_of}
use Rattle.kme_base.specs.declared.step.Step.{Step}
use Rattle.kme_journal.specs.Spelled.{IsBody, added}
use Rattle.kme_journal.specs.Drafts.{IsHeldBack}
use Rattle.kme_journal.proofs.Bodies.{body_numbered, body_added}
use Rattle.kme_journal.proofs.Decided.{AreOver, step_drawn, wanted_alike}
use Rattle.kme_journal.proofs.Drawn.{drawn_numbered, drawn_added}

pub by_step : (journal : Journal) (v : View) (placings : List Placing) (d : Decision) (reply : Reply) → IsStep v placings d (Err reply) → IsHeldBack journal d reply
by_step journal v placings (Refuses refusal) reply is = is
by_step journal v placings (Does effect) reply is = inl is

is_past : (t : Bool) (limit n : ℕ) → t ≡ nat_lt limit n → t ≡ true → limit < n
is_past t limit n is holds = let test : nat_lt limit n ≡ true = sym is ∙ holds in grind (arith, nat_tests)

by_past : (journal : Journal) (v : View) (placings : List Placing) (d : Decision) (s : Step) (random : List ℕ) (body : Option (List ℕ)) (size more : ℕ) → IsStep v placings d (Ok (record s { batch = with_random random s.batch })) →
    IsBody journal.version s.batch body → size ≡ journal.length' → more ≡ added body → journal_limit < size + more → IsHeldBack journal d (JournalFull size more)
by_past journal v placings (Refuses refusal) s random body size more is spelled a b past = absurd is
by_past journal v placings (Does e) s random body size more is spelled a b past =
    let same : more ≡ added_len journal.version e.batch = b ∙ body_added journal.version s.batch body spelled ∙ sym (drawn_added journal.version random s.batch) ∙ ap (added_len journal.version) is.batch in
    inr (record {
      numbered = ap (λ (rs : List Record). list_all is_numbered rs) (sym is.batch) ∙ drawn_numbered random s.batch ∙ body_numbered journal.version s.batch body spelled;
      past = omega (arith, past, a, same);
      answer = ap (λ (n : ℕ). JournalFull n more) a ∙ ap (λ (n : ℕ). JournalFull journal.length' n) same;
    })

pub past : AreOver → (site : Site) (up : ℕ → Bool) (v : View) (event : Event) (journal : Journal) (zeros random : List ℕ) (s : Step) (body : Option (List ℕ)) (size first more : ℕ) (test : Bool) →
    length zeros ≡ random_need v event → length random ≡ random_need v event → IsStep v (placings_of event) (decide site hop_sealing up v zeros event) (Ok s) → IsBody journal.version s.batch body →
    size ≡ journal.length' → first ≡ journal.length' → more ≡ added body → test ≡ nat_lt journal_limit (first + more) → test ≡ true →
    IsHeldBack journal (decide site hop_sealing up v random event) (JournalFull size more)
past laws site up v event journal zeros random s body size first more test z r is spelled a f b tested holds =
    let passed : journal_limit < first + more = is_past test journal_limit (first + more) tested holds in
    by_past journal v (placings_of event) (decide site hop_sealing up v random event) s random body size more (step_drawn laws site hop_sealing up v (placings_of event) zeros random event s z r is) spelled a b (omega (arith, passed, a, f))

pub wanting : (site : Site) (up : ℕ → Bool) (v : View) (event : Event) (journal : Journal) (zeros random : List ℕ) (s : Step) → IsStep v (placings_of event) (decide site hop_sealing up v zeros event) (Ok s) →
    IsHeldBack journal (decide site hop_sealing up v random event) Memory
wanting site up v event journal zeros random s is =
    by_step journal v (placings_of event) (decide site hop_sealing up v random event) Memory (wanted_alike site hop_sealing up v (placings_of event) zeros random event s is)

pub positive : (t : Bool) (n : ℕ) → t ≡ (n == 0) → t ≡ false → 0 < n
positive t n is fails = let test : (n == 0) ≡ false = sym is ∙ fails in grind (arith, nat_tests)
