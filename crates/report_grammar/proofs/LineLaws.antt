-- Each line of a report is read back as what it was written from.
use Rattle.std.proofs.Common.{◌≡◌, ℕ, ◌+◌, ◌-◌, suc, ◌<◌, ◌^◌, true, List, [], ◌∷◌, ◌++◌, length, take, Some, None, Err, refl, sym, ap, ◌∙◌, append_assoc, length-append, arith}
use Rattle.std.specs.Prelude.{not}
use Rattle.std.specs.List.{slice_split}
use Rattle.std.specs.Fmt.{decimal}
use Rattle.std.proofs.Math.Seq.{take-append_seam, drop-append_seam}
use lib.Chars.{codes}
use Rattle.scenario_text.specs.Words.{Word, is_space, len_to, number_of}
use Rattle.scenario_format.proofs.Numerals.{number_is}
use Rattle.scenario_format.proofs.Clean.{and_left, and_right}
use Rattle.run_types.specs.declared.refusal.Refusal.{Refusal}
use Rattle.run_types.specs.declared.refusal.Refusal.TheVariants as refusals
use Rattle.run_types.specs.declared.start_result.StartResult.{StartResult}
use Rattle.run_types.specs.declared.start_result.StartResult.TheVariants as starts
use Rattle.run_types.specs.declared.item.Item.{Item}
use Rattle.run_types.specs.declared.item.Item.TheVariants as items
use Rattle.run_types.specs.declared.item.NumberedItem.{NumberedItem}
use Rattle.run_types.specs.Texts.{refusal_text, start_text, item_text, line_text}
use Rattle.report_grammar.specs.declared.refusal.LineRefusal.{LineRefusal}
use Rattle.report_grammar.specs.declared.refusal.LineRefusal.TheVariants as line_refusals
use Rattle.report_grammar.specs.Words.{words_in, without_end}
use Rattle.report_grammar.specs.Gives.{Gives, IsRead}
use Rattle.report_grammar.specs.Rows.{start_row_at, plain_at, item_at, line_at}
use Rattle.report_grammar.specs.Tellable.{CanRefuse, CanStart, CanItem, CanTell, first_start, first_item, first_told}
use Rattle.report_grammar.proofs.Spaceless.{is_spaceless, split_all, long_spaceless, digits_spaceless}
use Rattle.report_grammar.proofs.FieldLaws.{long_is}
use Rattle.report_grammar.proofs.RefusalLaws.{refuses}
use Rattle.report_grammar.proofs.FrameLaws as frames
use Rattle.report_grammar.proofs.KeyLaws as keys

-- ---- items

refused_is : (nodes : List (List ℕ)) (r : Refusal) → CanRefuse r → item_at nodes (slice_split is_space (refusal_text r)) ≡ Some (items.Refused r)
refused_is nodes r h = let p = refuses r h in ap (item_at nodes) p.is ∙ p.alone nodes ∙ rw p.read refl

foreign_is : (nodes : List (List ℕ)) (place : ℕ) → place < 2 ^ 64 → item_at nodes (slice_split is_space (start_text (starts.Foreign place))) ≡ Some (items.Start (starts.Foreign place))
unfolding start_text item_at plain_at start_row_at
foreign_is nodes place h = ap (item_at nodes) (split_all (codes "foreign") (decimal place ∷ []) (rw (long_spaceless place h) refl)) ∙ rw (long_is place h) refl

start_is : (nodes : List (List ℕ)) (s : StartResult) → CanStart s → item_at nodes (slice_split is_space (start_text s)) ≡ Some (first_start s)
unfolding start_text refusal_text item_at plain_at start_row_at
start_is nodes starts.Started h = refl
start_is nodes starts.WasUp h = refl
start_is nodes starts.Stopped h = refused_is nodes refusals.Stopped tt
start_is nodes (starts.Foreign place) h = foreign_is nodes place h
start_is nodes starts.Memory h = refused_is nodes refusals.Memory tt

crashed_is : (nodes : List (List ℕ)) → item_at nodes (slice_split is_space (codes "crashed")) ≡ Some items.Crashed
unfolding item_at plain_at
crashed_is nodes = refl

armed_is : (nodes : List (List ℕ)) → item_at nodes (slice_split is_space (codes "armed")) ≡ Some items.Armed
unfolding item_at plain_at
armed_is nodes = refl

item_is : (nodes : List (List ℕ)) (item : Item) → CanItem nodes item → item_at nodes (slice_split is_space (item_text nodes item)) ≡ Some (first_item item)
unfolding item_text
item_is nodes (items.Refused refusal) h = refused_is nodes refusal h
item_is nodes (items.Took link end number) h = frames.took_is nodes link end number h.0 h.1
item_is nodes (items.TookNone link end refusal) h = frames.took_none_is nodes link end refusal h.0 h.1
item_is nodes (items.Made count first) h = keys.made_is nodes count first h.0 h.1
item_is nodes (items.Ticked v fresh again) h = frames.ticked_is nodes v fresh again h.0 h.1 h.2
item_is nodes (items.Idle v) h = frames.idle_is nodes v h
item_is nodes (items.NotTicked v refusal) h = frames.not_ticked_is nodes v refusal h.0 h.1
item_is nodes (items.Short l used need received) h = frames.short_is_read nodes l used need received h.0 h.1 h.2 h.3
item_is nodes (items.Sent l number offset length) h = frames.sent_is nodes l number offset length h.0 h.1 h.2 h.3
item_is nodes (items.Unsent l offset cause) h = frames.unsent_is nodes l offset cause h.0 h.1
item_is nodes (items.Passed l number result) h = frames.passed_is nodes l number result h.0 h.1 h.2
item_is nodes (items.Flipped l number bit result) h = frames.flipped_is nodes l number bit result h.0 h.1 h.2 h.3
item_is nodes (items.Forged l result) h = frames.forged_is nodes l result h.0 h.1
item_is nodes items.Crashed h = crashed_is nodes
item_is nodes (items.Start result) h = start_is nodes result h
item_is nodes items.Armed h = armed_is nodes
item_is nodes (items.LinkSet link up) h = frames.link_set_is nodes link up h
item_is nodes (items.Keys ks) h = keys.keys_is nodes ks h
item_is nodes (items.Ready count) h = keys.ready_is nodes count h
item_is nodes (items.Http v status body) h = keys.http_is nodes v status body h.0 h.1
item_is nodes (items.Stream answer) h = keys.answer_is nodes answer h
item_is nodes (items.Shown v name held bytes) h = keys.shown_is nodes v name held bytes h.0 h.1 h.2
item_is nodes (items.NotShown v name refusal) h = keys.not_shown_is nodes v name refusal h.0 h.1 h.2
item_is nodes (items.Counted l counts) h = frames.counted_is nodes l counts h.0 h.1
item_is nodes (items.NotCounted l refusal) h = frames.not_counted_is nodes l refusal h.0 h.1

-- The item that is read in place of another has the same text as the other.
start_same : (s : StartResult) (nodes : List (List ℕ)) → item_text nodes (first_start s) ≡ start_text s
unfolding item_text start_text refusal_text
start_same starts.Started nodes = refl
start_same starts.WasUp nodes = refl
start_same starts.Stopped nodes = refl
start_same (starts.Foreign place) nodes = refl
start_same starts.Memory nodes = refl

item_same : (nodes : List (List ℕ)) (item : Item) → item_text nodes (first_item item) ≡ item_text nodes item
unfolding item_text
item_same nodes (items.Start s) = start_same s nodes
item_same nodes item = refl

told_same : (nodes : List (List ℕ)) (told : NumberedItem) → line_text nodes (first_told told) ≡ line_text nodes told
unfolding line_text
told_same nodes told = ap (λ (text : List ℕ). decimal told.number ++ codes " " ++ text ++ 10 ∷ []) (item_same nodes told.item)

-- ---- lines

one_more : (n : ℕ) → 1 + n ≡ suc n
one_more n = omega arith

-- A word without spaces, with a space behind it, ends at that space.
ends_at : (w : Word) (rest : List ℕ) → is_spaceless w ≡ true → len_to 32 (w ++ 32 ∷ rest) ≡ length w
ends_at [] rest h = refl
ends_at (b ∷ bs) rest h = rw (and_left (not (is_space b)) (is_spaceless bs) h, ends_at bs rest (and_right (not (is_space b)) (is_spaceless bs) h)) (one_more (length bs))

end_off : (text : List ℕ) (b : ℕ) → without_end (text ++ b ∷ []) ≡ text
end_off text b =
    let e : length (text ++ b ∷ []) - 1 ≡ length text = omega (arith, length-append text (b ∷ [])) in
    ap (λ (n : ℕ). take n (text ++ b ∷ [])) e ∙ take-append_seam text (b ∷ [])

-- A line of a number, a space, an item's text and LF is read as that number and that item.
by_parts : (nodes : List (List ℕ)) (d : Word) (text : List ℕ) (n : ℕ) (item : Item) → is_spaceless d ≡ true → number_of d ≡ Some n → item_at nodes (slice_split is_space text) ≡ Some item
    → line_at nodes (d ++ 32 ∷ (text ++ 10 ∷ [])) ≡ Some (record { number = n; item = item })
unfolding line_at words_in
by_parts nodes d text n item plain number reads =
    let rest = 32 ∷ (text ++ 10 ∷ []) in
    rw (ends_at d (text ++ 10 ∷ []) plain, take-append_seam d rest, drop-append_seam d rest, end_off (32 ∷ text) 10, number, reads) refl

pub line_is : (nodes : List (List ℕ)) (told : NumberedItem) → CanTell nodes told → line_at nodes (line_text nodes told) ≡ Some (first_told told)
unfolding line_text
line_is nodes told h =
    let parts : line_text nodes told ≡ decimal told.number ++ 32 ∷ (item_text nodes told.item ++ 10 ∷ []) = simp append_assoc in
    ap (line_at nodes) parts ∙ by_parts nodes (decimal told.number) (item_text nodes told.item) told.number (first_item told.item) (digits_spaceless told.number h.0) (number_is told.number h.0) (item_is nodes told.item h.1)

-- ---- the call that reads a line

same_item : (a b : NumberedItem) → Some a ≡ Some b → a ≡ b
same_item a b e = cc

-- If a line of a report is read, it is read as the item of the first row that has this text.
pub reads_first : (nodes : List (List ℕ)) (line : List ℕ) (read told : NumberedItem) → line_at nodes line ≡ Some read → CanTell nodes told → line_text nodes told ≡ line → read ≡ first_told told
reads_first nodes line read told e h is = same_item read (first_told told) (sym e ∙ ap (line_at nodes) (sym is) ∙ line_is nodes told h)

-- The item that was read has the text of the line.
pub has_text : (nodes : List (List ℕ)) (line : List ℕ) (read told : NumberedItem) → line_at nodes line ≡ Some read → CanTell nodes told → line_text nodes told ≡ line → line_text nodes read ≡ line
has_text nodes line read told e h is = ap (line_text nodes) (reads_first nodes line read told e h is) ∙ told_same nodes told ∙ is

-- If a line is not read, no item has its text, or memory ran out.
pub reads_nothing : (nodes : List (List ℕ)) (line : List ℕ) (refusal : LineRefusal) → Gives (line_at nodes line) (Err refusal) → (told : NumberedItem) → CanTell nodes told → line_text nodes told ≡ line → IsRead (first_told told) (Err refusal)
reads_nothing nodes line line_refusals.NotALine e told h is = let k : None ≡ Some (first_told told) = sym e ∙ ap (line_at nodes) (sym is) ∙ line_is nodes told h in cc
reads_nothing nodes line line_refusals.Memory e told h is = tt
