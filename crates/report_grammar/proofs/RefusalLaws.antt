-- Each refusal, and each result of a frame, is read back from its words.
use Rattle.std.proofs.Common.{◌≡◌, ℕ, Bool, true, false, not, ◌&&◌, List, [], ◌∷◌, Option, Some, None, refl, ap, ◌∙◌, arith}
use Rattle.std.specs.Prelude.{is_none}
use Rattle.std.specs.List.{slice_split}
use Rattle.std.specs.Fmt.{decimal}
use Rattle.std.specs.Str.{bytes_eq}
use lib.Chars.{codes}
use Rattle.scenario_text.specs.Words.{◌>>=◌, Word, is_space, number_of}
use Rattle.scenario_format.proofs.Numerals.{number_is}
use Rattle.scenario_format.proofs.Names.{name_is}
use Rattle.run_types.specs.declared.refusal.Refusal.{Refusal}
use Rattle.run_types.specs.declared.refusal.Refusal.TheVariants as refusals
use Rattle.run_types.specs.declared.frame_result.FrameResult.{FrameResult}
use Rattle.run_types.specs.declared.frame_result.FrameResult.TheVariants as results
use Rattle.run_types.specs.declared.item.Item.TheVariants as items
use Rattle.run_types.specs.Words.{tag_text, kind_text, name_text}
use Rattle.run_types.specs.Texts.{refusal_text, result_text}
use Rattle.report_grammar.specs.Fields.{state_of}
use Rattle.report_grammar.specs.Refusals.{bare_at, journal_full_at, wrong_lane_at, bad_tag_at, of_frame_at, counted_at, worded_at, refusal_at, taken_at, again_at, result_at}
use Rattle.report_grammar.specs.Rows.{start_row_at, plain_at, item_at}
use Rattle.report_grammar.specs.Tellable.{CanRefuse, CanResult}
use Rattle.report_grammar.proofs.Spaceless.{split_all, long_spaceless, digits_spaceless, tag_spaceless, name_spaceless}
use Rattle.report_grammar.proofs.FieldLaws.{long_is, short_is, byte_is, tag_is, kind_is, kind_spaceless}

-- A row that may have a refusal in the place of other words never has this word at that place.
abbrev is_other : Word → Bool
is_other word =
    is_none (number_of word) && is_none (state_of word) && not (bytes_eq word (codes "new")) && not (bytes_eq word (codes "received")) && not (bytes_eq word (codes "taken")) && not (bytes_eq word (codes "again"))

-- The words of a refusal, from which the refusal is read back.
pub record Refuses (r : Refusal) : Type 0 where
  pub first : Word
  pub rest : List Word
  pub is : slice_split is_space (refusal_text r) ≡ first ∷ rest
  pub read : refusal_at (first ∷ rest) ≡ Some r
  pub other : is_other first ≡ true
  pub alone : (nodes : List (List ℕ)) → item_at nodes (first ∷ rest) ≡ (refusal_at (first ∷ rest) >>= λ refusal. Some (items.Refused refusal))

by_words : (r : Refusal) (first : Word) (rest : List Word) → slice_split is_space (refusal_text r) ≡ first ∷ rest → refusal_at (first ∷ rest) ≡ Some r → is_other first ≡ true
    → ((nodes : List (List ℕ)) → item_at nodes (first ∷ rest) ≡ (refusal_at (first ∷ rest) >>= λ refusal. Some (items.Refused refusal))) → Refuses r
by_words r first rest is read other alone = record { first = first; rest = rest; is = is; read = read; other = other; alone = alone }

pub refuses : (r : Refusal) → CanRefuse r → Refuses r
unfolding refusal_text refusal_at bare_at worded_at journal_full_at wrong_lane_at bad_tag_at counted_at of_frame_at item_at plain_at start_row_at number_of
refuses refusals.Down h = by_words refusals.Down (codes "down") [] refl refl refl (λ nodes. refl)
refuses refusals.Stopped h = by_words refusals.Stopped (codes "stopped") [] refl refl refl (λ nodes. refl)
refuses refusals.Memory h = by_words refusals.Memory (codes "memory") [] refl refl refl (λ nodes. refl)
refuses refusals.LinkFull h = by_words refusals.LinkFull (codes "link-full") (codes "1024" ∷ []) refl refl refl (λ nodes. refl)
refuses refusals.NoBlock h = by_words refusals.NoBlock (codes "no-bits") [] refl refl refl (λ nodes. refl)
refuses refusals.DeviceFault h = by_words refusals.DeviceFault (codes "device-fault") [] refl refl refl (λ nodes. refl)
refuses refusals.NotAllowed h = by_words refusals.NotAllowed (codes "not-allowed") [] refl refl refl (λ nodes. refl)
refuses refusals.NoRoute h = by_words refusals.NoRoute (codes "no-route") [] refl refl refl (λ nodes. refl)
refuses refusals.PoolFull h = by_words refusals.PoolFull (codes "pool-full") (codes "4096" ∷ []) refl refl refl (λ nodes. refl)
refuses refusals.UnknownStream h = by_words refusals.UnknownStream (codes "unknown-stream") [] refl refl refl (λ nodes. refl)
refuses (refusals.JournalFull length need) h =
    by_words (refusals.JournalFull length need) (codes "journal-full") (decimal length ∷ decimal need ∷ [])
    (split_all (codes "journal-full") (decimal length ∷ decimal need ∷ []) (rw (long_spaceless length h.0, long_spaceless need h.1) refl))
    (rw (long_is length h.0, long_is need h.1) refl) refl (λ nodes. refl)
refuses refusals.NoRandom h = by_words refusals.NoRandom (codes "no-random") [] refl refl refl (λ nodes. refl)
refuses (refusals.NoFrame count) h =
    by_words (refusals.NoFrame count) (codes "no-frame") (decimal count ∷ []) (split_all (codes "no-frame") (decimal count ∷ []) (rw (long_spaceless count h) refl)) (rw (long_is count h) refl) refl (λ nodes. refl)
refuses (refusals.NoBit bits) h =
    by_words (refusals.NoBit bits) (codes "no-bit") (decimal bits ∷ []) (split_all (codes "no-bit") (decimal bits ∷ []) (rw (digits_spaceless bits h) refl)) (rw (number_is bits h) refl) refl (λ nodes. refl)
refuses (refusals.BadFrame place) h =
    by_words (refusals.BadFrame place) (codes "bad-frame") (decimal place ∷ []) (split_all (codes "bad-frame") (decimal place ∷ []) (rw (digits_spaceless place h) refl)) (rw (number_is place h) refl) refl (λ nodes. refl)
refuses (refusals.WrongLane link way) h =
    by_words (refusals.WrongLane link way) (codes "wrong-lane") (decimal link ∷ decimal way ∷ [])
    (split_all (codes "wrong-lane") (decimal link ∷ decimal way ∷ []) (let a = h.0 in let b = h.1 in rw (digits_spaceless link (omega arith), digits_spaceless way (omega arith)) refl))
    (rw (byte_is link h.0, byte_is way h.1) refl) refl (λ nodes. refl)
refuses (refusals.NoBits have) h =
    by_words (refusals.NoBits have) (codes "no-bits") (decimal have ∷ []) (split_all (codes "no-bits") (decimal have ∷ []) (rw (long_spaceless have h) refl)) (rw (long_is have h) refl) refl (λ nodes. refl)
refuses (refusals.BadTag given computed) h =
    by_words (refusals.BadTag given computed) (codes "bad-tag") (tag_text given ∷ tag_text computed ∷ [])
    (split_all (codes "bad-tag") (tag_text given ∷ tag_text computed ∷ []) (rw (tag_spaceless given, tag_spaceless computed) refl))
    (rw (tag_is given h.0, tag_is computed h.1) refl) refl (λ nodes. refl)
refuses (refusals.Few count) h =
    by_words (refusals.Few count) (codes "few") (decimal count ∷ []) (split_all (codes "few") (decimal count ∷ []) (rw (digits_spaceless count h) refl)) (rw (number_is count h) refl) refl (λ nodes. refl)
refuses (refusals.Unknown place) h =
    by_words (refusals.Unknown place) (codes "unknown") (decimal place ∷ []) (split_all (codes "unknown") (decimal place ∷ []) (rw (digits_spaceless place (omega arith)) refl)) (rw (short_is place h) refl) refl (λ nodes. refl)
refuses (refusals.Repeated place) h =
    by_words (refusals.Repeated place) (codes "repeated") (decimal place ∷ []) (split_all (codes "repeated") (decimal place ∷ []) (rw (digits_spaceless place (omega arith)) refl)) (rw (short_is place h) refl) refl (λ nodes. refl)
refuses (refusals.Handed place) h =
    by_words (refusals.Handed place) (codes "handed") (decimal place ∷ []) (split_all (codes "handed") (decimal place ∷ []) (rw (digits_spaceless place (omega arith)) refl)) (rw (short_is place h) refl) refl (λ nodes. refl)

-- ---- a refusal's first word is no other word of a row

nothing : {A : Type 0} (o : Option A) → is_none o ≡ true → o ≡ None
nothing None h = refl
nothing (Some a) h = cc

no : (b : Bool) → not b ≡ true → b ≡ false
no true h = cc
no false h = refl

pub record Other (word : Word) : Type 0 where
  pub number : number_of word ≡ None
  pub state : state_of word ≡ None
  pub new : bytes_eq word (codes "new") ≡ false
  pub received : bytes_eq word (codes "received") ≡ false
  pub taken : bytes_eq word (codes "taken") ≡ false
  pub again : bytes_eq word (codes "again") ≡ false

tests : (a b c d e f : Bool) → (a && b && c && d && e && f) ≡ true → (a ≡ true) × (b ≡ true) × (c ≡ true) × (d ≡ true) × (e ≡ true) × (f ≡ true)
tests true true true true true true h = (refl, refl, refl, refl, refl, refl)
tests true true true true true false h = absurd cc
tests true true true true false f h = absurd cc
tests true true true false e f h = absurd cc
tests true true false d e f h = absurd cc
tests true false c d e f h = absurd cc
tests false b c d e f h = absurd cc

other_word : (word : Word) → is_other word ≡ true → Other word
other_word word h =
    let t = tests (is_none (number_of word)) (is_none (state_of word)) (not (bytes_eq word (codes "new"))) (not (bytes_eq word (codes "received"))) (not (bytes_eq word (codes "taken"))) (not (bytes_eq word (codes "again"))) h in
    record { number = nothing (number_of word) t.0; state = nothing (state_of word) t.1; new = no _ t.2; received = no _ t.3; taken = no _ t.4; again = no _ t.5 }

pub others : {r : Refusal} (k : Refuses r) → Other k.first
others k = other_word k.first k.other

-- ---- results of frames

taken_is : (w : Word) (ws : List Word) (r : Refusal) → Other w → refusal_at (w ∷ ws) ≡ Some r → result_at (w ∷ ws) ≡ Some (results.Refused r)
unfolding result_at
taken_is w ws r o read = rw (o.taken, o.again, read) refl

pub result_is : (r : FrameResult) → CanResult r → result_at (slice_split is_space (result_text r)) ≡ Some r
unfolding result_text result_at taken_at again_at
result_is (results.Taken kind name) h =
    ap result_at (split_all (codes "taken") (kind_text kind ∷ name_text name ∷ []) (rw (kind_spaceless kind, name_spaceless name) refl)) ∙ rw (kind_is kind, name_is name h) refl
result_is (results.Again kind name) h =
    ap result_at (split_all (codes "again") (kind_text kind ∷ name_text name ∷ []) (rw (kind_spaceless kind, name_spaceless name) refl)) ∙ rw (kind_is kind, name_is name h) refl
result_is (results.Refused r) h = let k = refuses r h in ap result_at k.is ∙ taken_is k.first k.rest r (others k) k.read
