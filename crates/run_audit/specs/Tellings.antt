-- Tellings: what the items of a report tell of the bytes of keys and chunks, and to which applications these went.
use Rattle.std.specs.Prelude.{ℕ, Bool, true, false, not, ◌&&◌, ◌||◌, ◌==◌, nat_lt, if◌then◌else◌, List, [], ◌∷◌, length, map, Option, Some, None}
use Rattle.std.specs.List.{list_all}
use Rattle.std.specs.Str.{bytes_eq}
use Rattle.qkd_base.specs.Name.{Name, name_eq}
use Rattle.sae_entitlements.specs.Grants.{Grants, is_allowed}
use Rattle.run_types.specs.declared.stream_answer.Chunk.{Chunk}
use Rattle.run_types.specs.declared.stream_answer.StreamAnswer.{StreamAnswer}
use Rattle.run_types.specs.declared.stream_answer.StreamAnswer.TheVariants as answers
use Rattle.run_types.specs.declared.item.Item.{Item}
use Rattle.run_types.specs.declared.item.Item.TheVariants as items
use Rattle.run_types.specs.declared.scenario.Scenario.{Scenario}
use Rattle.run_types.specs.declared.item.NumberedItem.{NumberedItem}
use Rattle.run_audit.specs.declared.line_kind.LineKind.{LineKind}
use Rattle.run_audit.specs.declared.line_kind.LineKind.TheVariants as kinds
use Rattle.run_audit.specs.declared.subject.Subject.{Subject}
use Rattle.run_audit.specs.declared.subject.Subject.TheVariants as subjects
use Rattle.run_audit.specs.Kinds.{kind_at}

-- An item tells the bytes of a subject. If an application got them, it is the caller. If the item's line says whose key it is, that is the master.
pub record Telling : Type 0 where
  pub subject : Subject
  pub bytes : List ℕ
  pub caller : Option ℕ
  pub master : Option ℕ

abbrev pub handed_key : (caller master : ℕ) → Name × List ℕ → Telling
handed_key caller master k = record { subject = subjects.Key k.0; bytes = k.1; caller = Some caller; master = Some master }

abbrev pub handed_chunk : (caller : ℕ) → (stream : Name) → Option Chunk → List Telling
handed_chunk caller stream None = []
handed_chunk caller stream (Some c) = record { subject = subjects.Chunk stream c.index; bytes = c.bytes; caller = Some caller; master = None } ∷ []

abbrev pub answered : (caller : ℕ) → (stream : Name) → StreamAnswer → List Telling
answered caller stream (answers.GetKey status chunk) = if status == 0 then handed_chunk caller stream chunk else []
answered caller stream _ = []

-- the tellings of keys that a line handed out
abbrev pub handed_keys : Option LineKind → List (Name × List ℕ) → List Telling
handed_keys (Some (kinds.Handing caller master)) keys = map (handed_key caller master) keys
handed_keys _ keys = []

abbrev pub handed_answer : Option LineKind → StreamAnswer → List Telling
handed_answer (Some (kinds.Getting caller stream)) answer = answered caller stream answer
handed_answer _ answer = []

-- the telling of the bytes that a node showed, if it showed any
abbrev pub shown : Name → List ℕ → List Telling
shown name bytes = if length bytes == 0 then [] else record { subject = subjects.Key name; bytes = bytes; caller = None; master = None } ∷ []

-- what an item tells, in order. The kind is that of the item's line.
abbrev pub tellings_of : Option LineKind → Item → List Telling
tellings_of kind (items.Keys keys) = handed_keys kind keys
tellings_of kind (items.Stream answer) = handed_answer kind answer
tellings_of kind (items.Shown v name held bytes) = shown name bytes
tellings_of kind _ = []

-- the tellings so far with more added, the last one first
abbrev pub onto : {X : Type 0} → List X → List X → List X
onto before [] = before
onto before (t ∷ ts) = onto (t ∷ before) ts

-- all tellings of the items, the last one first
abbrev pub tellings : Scenario → List NumberedItem → List Telling
tellings s [] = []
tellings s (t ∷ told) = onto (tellings s told) (tellings_of (kind_at s t.number) t.item)

-- ---- which tellings fit each other

abbrev pub subject_eq : Subject → Subject → Bool
subject_eq (subjects.Key n) (subjects.Key m) = name_eq n m
subject_eq (subjects.Key n) (subjects.Chunk s i) = false
subject_eq (subjects.Chunk s i) (subjects.Key n) = false
subject_eq (subjects.Chunk s i) (subjects.Chunk t j) = name_eq s t && (i == j)

-- Both numbers are there and equal.
abbrev pub is_same : Option ℕ → Option ℕ → Bool
is_same None b = false
is_same (Some a) None = false
is_same (Some a) (Some b) = a == b

-- At least one number is missing, or both are equal.
abbrev pub may_be_same : Option ℕ → Option ℕ → Bool
may_be_same None b = true
may_be_same (Some a) None = true
may_be_same (Some a) (Some b) = a == b

-- Two tellings of one subject have equal bytes, different callers, and no different masters. Tellings of different subjects always fit.
abbrev pub fits_with : Telling → Telling → Bool
fits_with t e = not (subject_eq e.subject t.subject) || (bytes_eq e.bytes t.bytes && not (is_same e.caller t.caller) && may_be_same e.master t.master)

-- Both applications are declared, and the master may have keys for the slave.
abbrev pub is_entitled : Grants → (master slave : ℕ) → Bool
is_entitled g master slave = nat_lt master (length g.saes) && nat_lt slave (length g.saes) && is_allowed g master slave

-- A key goes to its master, or to an application for which the master may have keys.
abbrev pub may_have : Grants → (caller master : Option ℕ) → Bool
may_have g (Some caller) (Some master) = (caller == master) || is_entitled g master caller
may_have g caller master = true

abbrev pub fits : Grants → (before : List Telling) → Telling → Bool
fits g before t = list_all (fits_with t) before && may_have g t.caller t.master

-- Each telling fits those before it.
abbrev pub all_fit : Grants → (before : List Telling) → List Telling → Bool
all_fit g before [] = true
all_fit g before (t ∷ ts) = fits g before t && all_fit g (t ∷ before) ts
