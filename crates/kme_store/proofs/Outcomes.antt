-- The outcomes of an event, each as the course that the environment's answer gives.
use Rattle.std.proofs.Common.{◌≡◌, ◌⊎◌, inl, inr, ℕ, zero, suc, ◌+◌, ◌<◌, ◌≤◌, true, false, List, [], ◌∷◌, length, refl, sym, ap, ◌∙◌, arith, zero-add}
use Rattle.std.specs.Prelude.{slice_index_or, Option, Some, None, Ok, Err}
use Rattle.std.specs.List.{list_all}
use Rattle.net_model.specs.declared.reply.Reply.{Reply}
use Rattle.net_model.specs.declared.reply.Reply.TheVariants as replies
use Rattle.net_model.specs.OctetSequence.{OctetSequence, has_octets, octets_from}
use Rattle.net_model.specs.World.{Journal}
use Rattle.net_model.specs.Journal.{added_len, is_nil, journal_limit}
use Rattle.net_model.specs.Decision.{Decision, Refuses, Does, Effect}
use Rattle.net_model.specs.Handle.{is_numbered}
use Rattle.net_model.specs.Action.{Environment, OutOfMemory, EntropyFault, IoFault, Replies, is_shown, Ok as Fine}
use Rattle.source_devices.specs.declared.shortage.Shortage.{Shortage}
use Rattle.source_devices.specs.declared.shortage.Shortage.TheVariants.{Failed, End}
use Rattle.kme_store.specs.Course.{Course, Stays, Stops, Goes, resolved}
use Rattle.kme_journal.specs.Drafts.{IsHeldBack, IsPast}
use Rattle.kme_store.specs.Drawing.{Gives}
use Rattle.kme_store.specs.Manager.{ComesNext, IsDrawn}
use Rattle.kme_store.proofs.Courses.{same_octets}
use Rattle.kme_store.proofs.Performed.{no_memory, past, not_there, not_given, stops, goes}

-- an effect that fits in the journal
pub record HasRoomFor (journal : Journal) (e : Effect) : Type 0 where
  pub numbered : list_all is_numbered e.batch ≡ true
  pub within : journal.length' + added_len journal.version e.batch ≤ journal_limit

-- an answer of the environment that gives this course; it shows in the reply; each failure comes from a fault, and without one the count of faults
-- is as before
pub record Comes (journal : Journal) (rest : OctetSequence) (octets : ℕ) (d : Decision) (reply : Reply) (c : Course) (entropy_rose disk_rose entropy_calm disk_calm : Type 0) : Type 0 where
  pub environment : Environment
  pub course : resolved journal rest octets environment d ≡ c
  pub shown : is_shown environment (Replies reply) ≡ true
  pub entropy_fault : environment ≡ EntropyFault → entropy_rose
  pub entropy_asked : environment ≡ EntropyFault → 0 < octets
  pub disk_fault : environment ≡ IoFault → disk_rose
  pub no_entropy_fault : (environment ≡ EntropyFault → ⊥) → entropy_calm
  pub no_disk_fault : (environment ≡ IoFault → ⊥) → disk_calm

module _ (journal : Journal) (rest : OctetSequence) (octets : ℕ) (entropy_rose disk_rose entropy_calm disk_calm : Type 0) where
  by_past : (e : Effect) (reply : Reply) → IsPast journal e.batch reply → entropy_calm → disk_calm → Comes journal rest octets (Does e) reply (Stays reply) entropy_rose disk_rose entropy_calm disk_calm
  by_past e reply p drawn written = record {
    environment = Fine;
    course = past journal rest octets e p.numbered p.past ∙ ap (λ (r : Reply). Stays r) (sym p.answer);
    shown = refl;
    entropy_fault = λ other. absurd (cc other);
    entropy_asked = λ other. absurd (cc other);
    disk_fault = λ other. absurd (cc other);
    no_entropy_fault = λ other. drawn;
    no_disk_fault = λ other. written;
  }

  by_memory : (e : Effect) (reply : Reply) → reply ≡ replies.Memory → entropy_calm → disk_calm → Comes journal rest octets (Does e) reply (Stays reply) entropy_rose disk_rose entropy_calm disk_calm
  by_memory e reply is drawn written = record {
    environment = OutOfMemory;
    course = no_memory journal rest octets e ∙ ap (λ (r : Reply). Stays r) (sym is);
    shown = ap (λ (r : Reply). is_shown OutOfMemory (Replies r)) is;
    entropy_fault = λ other. absurd (cc other);
    entropy_asked = λ other. absurd (cc other);
    disk_fault = λ other. absurd (cc other);
    no_entropy_fault = λ other. drawn;
    no_disk_fault = λ other. written;
  }

  -- an event that makes no step
  pub held_back : (d : Decision) (reply : Reply) → IsHeldBack journal d reply → entropy_calm → disk_calm → Comes journal rest octets d reply (Stays reply) entropy_rose disk_rose entropy_calm disk_calm
  held_back (Refuses refusal) reply is drawn written = record {
    environment = Fine;
    course = ap (λ (r : Reply). Stays r) (sym is);
    shown = refl;
    entropy_fault = λ other. absurd (cc other);
    entropy_asked = λ other. absurd (cc other);
    disk_fault = λ other. absurd (cc other);
    no_entropy_fault = λ other. drawn;
    no_disk_fault = λ other. written;
  }
  held_back (Does e) reply (inl is) drawn written = by_memory e reply is drawn written
  held_back (Does e) reply (inr p) drawn written = by_past e reply p drawn written

  pub without_end : (e : Effect) → HasRoomFor journal e → 0 < octets → has_octets rest octets ≡ false → entropy_calm → disk_calm → Comes journal rest octets (Does e) replies.NoRandom (Stays replies.NoRandom) entropy_rose disk_rose entropy_calm disk_calm
  without_end e h wanted none drawn written = record {
    environment = Fine;
    course = not_there journal rest octets e h.numbered h.within wanted none;
    shown = refl;
    entropy_fault = λ other. absurd (cc other);
    entropy_asked = λ other. absurd (cc other);
    disk_fault = λ other. absurd (cc other);
    no_entropy_fault = λ other. drawn;
    no_disk_fault = λ other. written;
  }

  pub with_fault : (e : Effect) → HasRoomFor journal e → 0 < octets → entropy_rose → disk_calm → Comes journal rest octets (Does e) replies.NoRandom (Stays replies.NoRandom) entropy_rose disk_rose entropy_calm disk_calm
  with_fault e h wanted rose written = record {
    environment = EntropyFault;
    course = not_given journal rest octets e h.numbered h.within wanted;
    shown = refl;
    entropy_fault = λ is. rose;
    entropy_asked = λ is. wanted;
    disk_fault = λ other. absurd (cc other);
    no_entropy_fault = λ other. absurd (other refl);
    no_disk_fault = λ other. written;
  }

  pub stopping : (e : Effect) → HasRoomFor journal e → (0 < octets → has_octets rest octets ≡ true) → is_nil e.batch ≡ false → disk_rose → entropy_calm →
      Comes journal rest octets (Does e) replies.Stopped (Stops octets e) entropy_rose disk_rose entropy_calm disk_calm
  stopping e h there some rose drawn = record {
    environment = IoFault;
    course = stops journal rest octets e h.numbered h.within there some;
    shown = refl;
    entropy_fault = λ other. absurd (cc other);
    entropy_asked = λ other. absurd (cc other);
    disk_fault = λ is. rose;
    no_entropy_fault = λ other. drawn;
    no_disk_fault = λ other. absurd (other refl);
  }

  pub going : (e : Effect) → HasRoomFor journal e → (0 < octets → has_octets rest octets ≡ true) → entropy_calm → disk_calm → Comes journal rest octets (Does e) e.reply (Goes octets e) entropy_rose disk_rose entropy_calm disk_calm
  going e h there drawn written = record {
    environment = Fine;
    course = goes journal rest octets e h.numbered h.within there;
    shown = refl;
    entropy_fault = λ other. absurd (cc other);
    entropy_asked = λ other. absurd (cc other);
    disk_fault = λ other. absurd (cc other);
    no_entropy_fault = λ other. drawn;
    no_disk_fault = λ other. written;
  }

-- the rest of an entropy, and what was drawn of it

-- octets of an entropy that isn't known, which begin with these
abbrev pub told_as : List ℕ → OctetSequence
told_as octets = record { octet = λ i. slice_index_or octets i 0; end = None }

pub from_length : (octet : ℕ → ℕ) (place n : ℕ) → length (octets_from octet place n) ≡ n
unfolding octets_from
from_length octet place zero = refl
from_length octet place (suc n) = ap (λ (k : ℕ). suc k) (from_length octet (place + 1) n)

pub told_again : (octets : List ℕ) → octets_from (told_as octets).octet 0 (length octets) ≡ octets
unfolding octets_from
told_again [] = refl
told_again (x ∷ xs) =
    let later : octets_from (told_as (x ∷ xs)).octet (0 + 1) (length xs) ≡ octets_from (told_as xs).octet 0 (length xs) =
    same_octets (told_as (x ∷ xs)).octet (told_as xs).octet (0 + 1) 0 (length xs) (λ i. let next : suc i ≡ (0 + 1) + i = omega arith in ap (told_as xs).octet (zero-add i) ∙ ap (told_as (x ∷ xs)).octet next) in
    ap (λ (ys : List ℕ). x ∷ ys) (later ∙ told_again xs)

-- the drawn octets came next
pub record HasDrawn (told now : Option OctetSequence) (octets : List ℕ) : Type 0 where
  pub rest : OctetSequence
  pub next : ComesNext told rest
  pub there : 0 < length octets → has_octets rest (length octets) ≡ true
  pub are : octets_from rest.octet 0 (length octets) ≡ octets
  pub left : IsDrawn told (length octets) now

pub drawn : {T : Type 0} (told now : Option OctetSequence) (done : T) (octets : List ℕ) → Gives told now (Ok done) (length octets) octets → HasDrawn told now octets
unfolding octets_from
drawn None now done [] g = record { rest = told_as []; next = tt; there = λ none. refl; are = told_again []; left = tt }
drawn (Some t) now done [] g = record { rest = t; next = refl; there = λ none. absurd (omega (arith, none)); are = refl; left = g }
drawn None now done (x ∷ xs) g = record { rest = told_as (x ∷ xs); next = tt; there = λ some. refl; are = told_again (x ∷ xs); left = tt }
drawn (Some t) now done (x ∷ xs) g = record { rest = t; next = refl; there = λ some. g.0; are = sym g.1; left = g.2 }

-- no octets could be drawn
pub record HasNotDrawn (told now : Option OctetSequence) (octets : ℕ) (why : Shortage) : Type 0 where
  pub rest : OctetSequence
  pub next : ComesNext told rest
  pub wanted : 0 < octets
  pub cause : ((why ≡ End) × (has_octets rest octets ≡ false)) ⊎ (why ≡ Failed)
  pub left : IsDrawn told 0 now

pub not_drawn : (T : Type 0) (told now : Option OctetSequence) (why : Shortage) (octets : ℕ) (into : List ℕ) → Gives {T = T} told now (Err why) octets into → HasNotDrawn told now octets why
not_drawn T None now Failed octets into g = record { rest = told_as []; next = tt; wanted = g.0; cause = inr refl; left = tt }
not_drawn T None now End octets into g = absurd g.1
not_drawn T (Some t) now Failed octets into g = record { rest = t; next = refl; wanted = g.0; cause = inr refl; left = g.1.1 }
not_drawn T (Some t) now End octets into g = record { rest = t; next = refl; wanted = g.0; cause = inl (refl, g.1.0); left = g.1.1 }

pub untouched : (told : Option OctetSequence) → IsDrawn told 0 told
untouched None = tt
untouched (Some t) = refl

pub some_rest : (told : Option OctetSequence) → (rest : OctetSequence) × ComesNext told rest
some_rest None = (told_as [], tt)
some_rest (Some t) = (t, refl)
