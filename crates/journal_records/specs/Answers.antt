-- What the calls of a reader return. If memory runs out, the answer says nothing of the octets.
use Rattle.std.specs.Prelude.{◌≡◌, ℕ, List, Option, Result, Ok, Err}
use Rattle.net_model.specs.declared.record.Record.{Record}
use Rattle.frame_codec.specs.declared.fault.Fault.{Fault}
use Rattle.frame_codec.specs.declared.fault.Fault.TheVariants as faults
use Rattle.journal_records.specs.declared.record_refusal.RecordRefusal.{RecordRefusal}
use Rattle.journal_records.specs.declared.record_refusal.RecordRefusal.TheVariants as refusals

abbrev pub Stops : {Y : Type 0} → Fault → Result Y ℕ → Type 0
Stops faults.Memory read = Unit {0}
Stops (faults.Left n) read = read ≡ Err n

-- A value was read, and these octets are left.
abbrev pub Moves : {X : Type 0} → Result X Fault → List ℕ → Result (X × List ℕ) ℕ → Type 0
Moves (Ok x) rest read = read ≡ Ok (x, rest)
Moves (Err e) rest read = Stops e read

-- Records were appended, and these octets are left.
abbrev pub Adds : Result (Option ℕ) Fault → List Record → List ℕ → Result ((Option ℕ × List Record) × List ℕ) ℕ → Type 0
Adds (Ok shut) rs rest read = read ≡ Ok ((shut, rs), rest)
Adds (Err e) rs rest read = Stops e read

abbrev pub AddsAll : {T : Type 0} → Result T Fault → List Record → List ℕ → Result (List Record × List ℕ) ℕ → Type 0
AddsAll (Ok done) rs rest read = read ≡ Ok (rs, rest)
AddsAll (Err e) rs rest read = Stops e read

abbrev pub Ends : {X : Type 0} → Result X Fault → Result X ℕ → Type 0
Ends (Ok x) read = read ≡ Ok x
Ends (Err e) read = Stops e read

-- What a call returns: a refusal tells the place of the first octet that is refused.
abbrev pub Reads : Result (List Record) RecordRefusal → Result (List Record) ℕ → Type 0
Reads (Ok rs) read = read ≡ Ok rs
Reads (Err (refusals.NotARecord place)) read = read ≡ Err place
Reads (Err refusals.Memory) read = Unit {0}
