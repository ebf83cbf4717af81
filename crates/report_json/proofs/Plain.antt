-- What an item tells has no floats, and nests three deep at most. So it is written exactly, and read back.
use Rattle.std.proofs.Common.{◌≡◌, ℕ, ◌≤◌, Bool, true, false, ◌&&◌, ◌||◌, List, [], ◌∷◌, map, Option, Some, None, Ordering, Less, Equal, Greater, refl, sym, ap, ◌∙◌, subst, arith}
use Rattle.std.proofs.lemmas.Bool.{and_parts, or_parts}
use Rattle.std.specs.Ordering.{match_ordering, nat_cmp}
use Rattle.std.specs.Cmp.Lexicographic.{slice_cmp}
use Rattle.std.specs.Str.{is_utf8}
use lib.Chars.{codes}
use Rattle.serde_json.specs.Data.{Num, unsigned, negative, float, Data, null, boolean, number, string, array, object, Items, no_items, item, Members, no_members, member, put, depth, items_depth, members_depth}
use Rattle.serde_json.specs.Read.{max_depth}
use Rattle.serde_json.specs.View.{items_of}
use Rattle.serde_json.specs.Written.{has_float, items_have_float, members_have_float}
use Rattle.qkd_base.specs.Name.{Name}
use Rattle.net_model.specs.declared.held.Held.{Held}
use Rattle.net_model.specs.declared.held.Held.TheVariants as states
use Rattle.run_types.specs.declared.refusal.Refusal.{Refusal}
use Rattle.run_types.specs.declared.refusal.Refusal.TheVariants as refusals
use Rattle.run_types.specs.declared.frame_result.FrameResult.{FrameResult}
use Rattle.run_types.specs.declared.frame_result.FrameResult.TheVariants as results
use Rattle.run_types.specs.declared.start_result.StartResult.{StartResult}
use Rattle.run_types.specs.declared.start_result.StartResult.TheVariants as starts
use Rattle.run_types.specs.declared.stream_answer.Chunk.{Chunk}
use Rattle.run_types.specs.declared.stream_answer.StreamAnswer.{StreamAnswer}
use Rattle.run_types.specs.declared.stream_answer.StreamAnswer.TheVariants as answers
use Rattle.run_types.specs.declared.item.Item.{Item}
use Rattle.run_types.specs.declared.item.Item.TheVariants as items
use Rattle.run_types.specs.declared.item.NumberedItem.{NumberedItem}
use Rattle.report_json.specs.Words.{Field, says, counts, refusal_numbers, refusal_fields}
use Rattle.report_json.specs.Objects.{put_all, result_fields, start_fields, stream_fields, chunk_fields, answer_fields, key_object, keys_field, shown_fields, body_field, item_fields, object_of}

-- ---- values that are put one after another

abbrev IsPlain : Members → Type 0
IsPlain ms = (members_have_float ms ≡ false) × (members_depth ms ≤ 2)

by_order : (o : Ordering) (a b c : Members) → IsPlain a → IsPlain b → IsPlain c → IsPlain (match_ordering o a b c)
by_order Less a b c p q r = p
by_order Equal a b c p q r = q
by_order Greater a b c p q r = r

neither : (a b : Bool) → a ≡ false → b ≡ false → (a || b) ≡ false
neither true b p q = p
neither false b p q = q

joined : (k : List ℕ) (d : Data) (ms : Members) → has_float d ≡ false → depth d ≤ 2 → IsPlain ms → IsPlain (member k d ms)
joined k d ms whole flat p = (neither (has_float d) (members_have_float ms) whole p.0, omega (arith, flat, p.1))

put_plain : (k : List ℕ) (d : Data) (ms : Members) → has_float d ≡ false → depth d ≤ 2 → IsPlain ms → IsPlain (put k d ms)
put_plain k d no_members whole flat p = joined k d no_members whole flat p
put_plain k d (member l e ms) whole flat p =
    let parts = or_parts (has_float e) (members_have_float ms) p.0 in
    let rest : IsPlain ms = (parts.1, omega (arith, p.1)) in
    let own : depth e ≤ 2 = omega (arith, p.1) in
    by_order (slice_cmp nat_cmp k l) (member k d (member l e ms)) (member l d ms) (member l e (put k d ms))
    (joined k d (member l e ms) whole flat p) (joined l d ms whole flat rest) (joined l e (put k d ms) parts.0 own (put_plain k d ms whole flat rest))

-- a text or a number
abbrev is_leaf : Data → Bool
is_leaf (string s) = true
is_leaf (number (unsigned n)) = true
is_leaf _ = false

abbrev are_leaves : Items → Bool
are_leaves no_items = true
are_leaves (item d ds) = is_leaf d && are_leaves ds

-- a text or a number, or a list of these
abbrev is_flat : Data → Bool
is_flat (string s) = true
is_flat (number (unsigned n)) = true
is_flat (array ds) = are_leaves ds
is_flat _ = false

abbrev all_flat : List Field → Bool
all_flat [] = true
all_flat (f ∷ fields) = is_flat f.1 && all_flat fields

leaf_is_plain : (d : Data) → is_leaf d ≡ true → (has_float d ≡ false) × (depth d ≤ 1)
leaf_is_plain null h = absurd cc
leaf_is_plain (boolean b) h = absurd cc
leaf_is_plain (number (unsigned n)) h = (refl, omega arith)
leaf_is_plain (number (negative z)) h = absurd cc
leaf_is_plain (number (float x)) h = absurd cc
leaf_is_plain (string s) h = (refl, omega arith)
leaf_is_plain (array ds) h = absurd cc
leaf_is_plain (object ms) h = absurd cc

both_plain : (d : Data) (ds : Items) → (has_float d ≡ false) × (depth d ≤ 1) → (items_have_float ds ≡ false) × (items_depth ds ≤ 1)
    → (items_have_float (item d ds) ≡ false) × (items_depth (item d ds) ≤ 1)
both_plain d ds p q = (neither (has_float d) (items_have_float ds) p.0 q.0, omega (arith, p.1, q.1))

leaves_are_plain : (ds : Items) → are_leaves ds ≡ true → (items_have_float ds ≡ false) × (items_depth ds ≤ 1)
leaves_are_plain no_items h = (refl, omega arith)
leaves_are_plain (item d ds) h = let parts = and_parts (is_leaf d) (are_leaves ds) h in both_plain d ds (leaf_is_plain d parts.0) (leaves_are_plain ds parts.1)

flat_is_plain : (d : Data) → is_flat d ≡ true → (has_float d ≡ false) × (depth d ≤ 2)
flat_is_plain null h = absurd cc
flat_is_plain (boolean b) h = absurd cc
flat_is_plain (number (unsigned n)) h = (refl, omega arith)
flat_is_plain (number (negative z)) h = absurd cc
flat_is_plain (number (float x)) h = absurd cc
flat_is_plain (string s) h = (refl, omega arith)
flat_is_plain (array ds) h = let all = leaves_are_plain ds h in (all.0, omega (arith, all.1))
flat_is_plain (object ms) h = absurd cc

all_put : (ms : Members) (fields : List Field) → IsPlain ms → all_flat fields ≡ true → IsPlain (put_all ms fields)
all_put ms [] p h = p
all_put ms (f ∷ fields) p h =
    let parts = and_parts (is_flat f.1) (all_flat fields) h in
    let own = flat_is_plain f.1 parts.0 in
    all_put (put f.0 f.1 ms) fields (put_plain f.0 f.1 ms own.0 own.1 p) parts.1

-- ---- what the parts of items tell

refusal_flat : (r : Refusal) → all_flat (refusal_fields r) ≡ true
unfolding refusal_numbers
refusal_flat refusals.Down = refl
refusal_flat refusals.Stopped = refl
refusal_flat refusals.Memory = refl
refusal_flat refusals.LinkFull = refl
refusal_flat refusals.NoBlock = refl
refusal_flat refusals.DeviceFault = refl
refusal_flat refusals.NotAllowed = refl
refusal_flat refusals.NoRoute = refl
refusal_flat refusals.PoolFull = refl
refusal_flat refusals.UnknownStream = refl
refusal_flat (refusals.JournalFull length need) = refl
refusal_flat refusals.NoRandom = refl
refusal_flat (refusals.NoFrame count) = refl
refusal_flat (refusals.NoBit bits) = refl
refusal_flat (refusals.BadFrame place) = refl
refusal_flat (refusals.WrongLane link way) = refl
refusal_flat (refusals.NoBits have) = refl
refusal_flat (refusals.BadTag given computed) = refl
refusal_flat (refusals.Few count) = refl
refusal_flat (refusals.Unknown place) = refl
refusal_flat (refusals.Repeated place) = refl
refusal_flat (refusals.Handed place) = refl

result_flat : (r : FrameResult) → all_flat (result_fields r) ≡ true
result_flat (results.Taken kind name) = refl
result_flat (results.Again kind name) = refl
result_flat (results.Refused refusal) = refusal_flat refusal

start_flat : (r : StartResult) → all_flat (start_fields r) ≡ true
start_flat starts.Started = refl
start_flat starts.WasUp = refl
start_flat starts.Stopped = refl
start_flat (starts.Foreign place) = refl
start_flat starts.Memory = refl

stream_flat : (stream : Option Name) → all_flat (stream_fields stream) ≡ true
stream_flat None = refl
stream_flat (Some stream) = refl

chunk_flat : (chunk : Option Chunk) → all_flat (chunk_fields chunk) ≡ true
chunk_flat None = refl
chunk_flat (Some chunk) = refl

answer_flat : (a : StreamAnswer) → all_flat (answer_fields a) ≡ true
answer_flat (answers.OpenConnect status stream) = stream_flat stream
answer_flat (answers.GetKey status chunk) = chunk_flat chunk
answer_flat (answers.Close status) = refl

shown_flat : (held : Held) (bytes : List ℕ) → all_flat (shown_fields held bytes) ≡ true
shown_flat states.Absent bytes = refl
shown_flat states.Given bytes = refl
shown_flat states.Ready bytes = refl
shown_flat states.Made bytes = refl
shown_flat states.Kept bytes = refl
shown_flat states.Relayed bytes = refl

body_flat : (body : List ℕ) → all_flat (body_field body ∷ []) ≡ true
body_flat body = by_text (is_utf8 body) refl
  where
    by_text : (b : Bool) → is_utf8 body ≡ b → all_flat (body_field body ∷ []) ≡ true
    by_text true e = rw e refl
    by_text false e = rw e refl

key_plain : (k : Name × List ℕ) → (has_float (key_object k) ≡ false) × (depth (key_object k) ≤ 1)
key_plain k = (refl, omega arith)

keys_plain : (keys : List (Name × List ℕ)) → (items_have_float (items_of (map key_object keys)) ≡ false) × (items_depth (items_of (map key_object keys)) ≤ 1)
keys_plain [] = (refl, omega arith)
keys_plain (k ∷ keys) = both_plain (key_object k) (items_of (map key_object keys)) (key_plain k) (keys_plain keys)

-- ---- items

item_plain : (nodes : List (List ℕ)) (round : ℕ) (i : Item) (ms : Members) → IsPlain ms → IsPlain (put_all ms (item_fields nodes round i))
unfolding item_fields
item_plain nodes round (items.Refused refusal) ms p = all_put ms (item_fields nodes round (items.Refused refusal)) p (refusal_flat refusal)
item_plain nodes round (items.Took link end place) ms p = all_put ms (item_fields nodes round (items.Took link end place)) p refl
item_plain nodes round (items.TookNone link end refusal) ms p = all_put ms (item_fields nodes round (items.TookNone link end refusal)) p (refusal_flat refusal)
item_plain nodes round (items.Made count first) ms p = all_put ms (item_fields nodes round (items.Made count first)) p refl
item_plain nodes round (items.Ticked v fresh again) ms p = all_put ms (item_fields nodes round (items.Ticked v fresh again)) p refl
item_plain nodes round (items.Idle v) ms p = all_put ms (item_fields nodes round (items.Idle v)) p refl
item_plain nodes round (items.NotTicked v refusal) ms p = all_put ms (item_fields nodes round (items.NotTicked v refusal)) p (refusal_flat refusal)
item_plain nodes round (items.Short l used need received) ms p = all_put ms (item_fields nodes round (items.Short l used need received)) p refl
item_plain nodes round (items.Sent l place offset length) ms p = all_put ms (item_fields nodes round (items.Sent l place offset length)) p refl
item_plain nodes round (items.Unsent l offset cause) ms p = all_put ms (item_fields nodes round (items.Unsent l offset cause)) p refl
item_plain nodes round (items.Passed l place result) ms p = all_put ms (item_fields nodes round (items.Passed l place result)) p (result_flat result)
item_plain nodes round (items.Flipped l place bit result) ms p = all_put ms (item_fields nodes round (items.Flipped l place bit result)) p (result_flat result)
item_plain nodes round (items.Forged l result) ms p = all_put ms (item_fields nodes round (items.Forged l result)) p (result_flat result)
item_plain nodes round items.Crashed ms p = all_put ms (item_fields nodes round items.Crashed) p refl
item_plain nodes round (items.Start result) ms p = all_put ms (item_fields nodes round (items.Start result)) p (start_flat result)
item_plain nodes round items.Armed ms p = all_put ms (item_fields nodes round items.Armed) p refl
item_plain nodes round (items.LinkSet link up) ms p = all_put ms (item_fields nodes round (items.LinkSet link up)) p refl
item_plain nodes round (items.Keys keys) ms p =
    let all = keys_plain keys in
    put_plain (codes "keys") (array (items_of (map key_object keys))) (put (codes "kind") (string (codes "keys")) ms) all.0 (omega (arith, all.1)) (put_plain (codes "kind") (string (codes "keys")) ms refl (omega arith) p)
item_plain nodes round (items.Ready count) ms p = all_put ms (item_fields nodes round (items.Ready count)) p refl
item_plain nodes round (items.Http v status body) ms p = all_put ms (item_fields nodes round (items.Http v status body)) p (body_flat body)
item_plain nodes round (items.Stream answer) ms p = all_put ms (item_fields nodes round (items.Stream answer)) p (answer_flat answer)
item_plain nodes round (items.Shown v name held bytes) ms p = all_put ms (item_fields nodes round (items.Shown v name held bytes)) p (shown_flat held bytes)
item_plain nodes round (items.NotShown v name refusal) ms p = all_put ms (item_fields nodes round (items.NotShown v name refusal)) p (refusal_flat refusal)
item_plain nodes round (items.Counted l c) ms p = all_put ms (item_fields nodes round (items.Counted l c)) p refl
item_plain nodes round (items.NotCounted l refusal) ms p = all_put ms (item_fields nodes round (items.NotCounted l refusal)) p (refusal_flat refusal)

object_plain : (nodes : List (List ℕ)) (round : ℕ) (told : NumberedItem) → IsPlain (put_all no_members (counts (codes "line") told.number ∷ item_fields nodes round told.item))
object_plain nodes round told = item_plain nodes round told.item (put (codes "line") (number (unsigned told.number)) no_members) (put_plain (codes "line") (number (unsigned told.number)) no_members refl (omega arith) (refl, omega arith))

pub no_float : (nodes : List (List ℕ)) (round : ℕ) (told : NumberedItem) → has_float (object_of nodes round told) ≡ false
no_float nodes round told = (object_plain nodes round told).0

pub not_deep : (nodes : List (List ℕ)) (round : ℕ) (told : NumberedItem) → depth (object_of nodes round told) ≤ max_depth
not_deep nodes round told = omega (arith, (object_plain nodes round told).1)
