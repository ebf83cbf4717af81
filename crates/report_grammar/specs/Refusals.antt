-- The words from which refusals and results of frames are read.
use Rattle.std.specs.Prelude.{if◌then◌else◌, List, Option, Some, None}
use Rattle.std.specs.Str.{bytes_eq}
use lib.Chars.{codes}
use Rattle.scenario_text.specs.Words.{◌>>=◌, Word, first_of, one_of, two_of, number_of}
use Rattle.scenario_text.specs.Fields.{name_of}
use Rattle.run_types.specs.declared.refusal.Refusal.{Refusal}
use Rattle.run_types.specs.declared.refusal.Refusal.TheVariants as refusals
use Rattle.run_types.specs.declared.frame_result.FrameResult.{FrameResult}
use Rattle.run_types.specs.declared.frame_result.FrameResult.TheVariants as results
use Rattle.report_grammar.specs.Words.{is_over}
use Rattle.report_grammar.specs.Fields.{long_of, short_of, byte_of, tag_of, kind_of}

-- a refusal that is one word
unfoldable pub bare_at : Word → Option Refusal
bare_at word =
    if bytes_eq word (codes "down") then Some refusals.Down
    else if bytes_eq word (codes "stopped") then Some refusals.Stopped
    else if bytes_eq word (codes "memory") then Some refusals.Memory
    else if bytes_eq word (codes "no-bits") then Some refusals.NoBlock
    else if bytes_eq word (codes "device-fault") then Some refusals.DeviceFault
    else if bytes_eq word (codes "not-allowed") then Some refusals.NotAllowed
    else if bytes_eq word (codes "no-route") then Some refusals.NoRoute
    else if bytes_eq word (codes "unknown-stream") then Some refusals.UnknownStream
    else if bytes_eq word (codes "no-random") then Some refusals.NoRandom
    else None

-- `journal-full LENGTH NEED`
unfoldable pub journal_full_at : List Word → Option Refusal
journal_full_at ws = do
  w ← two_of ws
  length ← long_of w.0
  need ← long_of w.1
  Some (refusals.JournalFull length need)

-- `wrong-lane LINK WAYOCTET`
unfoldable pub wrong_lane_at : List Word → Option Refusal
wrong_lane_at ws = do
  w ← two_of ws
  link ← byte_of w.0
  way ← byte_of w.1
  Some (refusals.WrongLane link way)

-- `bad-tag GIVEN COMPUTED`
unfoldable pub bad_tag_at : List Word → Option Refusal
bad_tag_at ws = do
  w ← two_of ws
  given ← tag_of w.0
  computed ← tag_of w.1
  Some (refusals.BadTag given computed)

-- a refusal of a frame, from its first word and the number behind that
unfoldable pub of_frame_at : Word → Word → Option Refusal
of_frame_at word number =
    if bytes_eq word (codes "no-frame") then (long_of number >>= λ count. Some (refusals.NoFrame count))
    else if bytes_eq word (codes "no-bits") then (long_of number >>= λ have. Some (refusals.NoBits have))
    else if bytes_eq word (codes "no-bit") then (number_of number >>= λ bits. Some (refusals.NoBit bits))
    else if bytes_eq word (codes "bad-frame") then (number_of number >>= λ place. Some (refusals.BadFrame place))
    else None

-- a refusal, from its first word and the number behind that
unfoldable pub counted_at : Word → Word → Option Refusal
counted_at word number =
    if bytes_eq word (codes "link-full") then Some refusals.LinkFull
    else if bytes_eq word (codes "pool-full") then Some refusals.PoolFull
    else if bytes_eq word (codes "few") then (number_of number >>= λ count. Some (refusals.Few count))
    else if bytes_eq word (codes "unknown") then (short_of number >>= λ place. Some (refusals.Unknown place))
    else if bytes_eq word (codes "repeated") then (short_of number >>= λ place. Some (refusals.Repeated place))
    else if bytes_eq word (codes "handed") then (short_of number >>= λ place. Some (refusals.Handed place))
    else of_frame_at word number

-- a refusal that is two or three words
unfoldable pub worded_at : Word → List Word → Option Refusal
worded_at word ws =
    if bytes_eq word (codes "journal-full") then journal_full_at ws
    else if bytes_eq word (codes "wrong-lane") then wrong_lane_at ws
    else if bytes_eq word (codes "bad-tag") then bad_tag_at ws
    else (one_of ws >>= λ number. counted_at word number)

unfoldable pub refusal_at : List Word → Option Refusal
refusal_at ws = do
  w ← first_of ws
  if is_over w.1 then bare_at w.0 else worded_at w.0 w.1

-- `taken KIND NAME`
unfoldable pub taken_at : List Word → Option FrameResult
taken_at ws = do
  w ← two_of ws
  kind ← kind_of w.0
  name ← name_of w.1
  Some (results.Taken kind name)

-- `again KIND NAME`
unfoldable pub again_at : List Word → Option FrameResult
again_at ws = do
  w ← two_of ws
  kind ← kind_of w.0
  name ← name_of w.1
  Some (results.Again kind name)

unfoldable pub result_at : List Word → Option FrameResult
result_at ws = do
  w ← first_of ws
  if bytes_eq w.0 (codes "taken") then taken_at w.1
      else if bytes_eq w.0 (codes "again") then again_at w.1
      else (refusal_at ws >>= λ refusal. Some (results.Refused refusal))
