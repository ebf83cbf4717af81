-- A report has fewer items and deliveries than octets.
use Rattle.std.proofs.Common.{◌≡◌, ℕ, suc, ◌+◌, ◌-◌, ◌≤◌, Bool, true, false, cond, eqb, List, [], ◌∷◌, ◌++◌, length, map, Option, Some, None, refl, ap, ◌∙◌, arith, length-append}
use Rattle.std.specs.List.{flat_map}
use Rattle.std.specs.Fmt.{decimal}
use lib.Chars.{codes}
use Rattle.qkd_base.specs.Name.{Name}
use Rattle.run_types.specs.declared.scenario.Scenario.{Scenario}
use Rattle.run_types.specs.declared.stream_answer.Chunk.{Chunk}
use Rattle.run_types.specs.declared.stream_answer.StreamAnswer.{StreamAnswer}
use Rattle.run_types.specs.declared.stream_answer.StreamAnswer.TheVariants as answers
use Rattle.run_types.specs.declared.item.Item.{Item}
use Rattle.run_types.specs.declared.item.Item.TheVariants as items
use Rattle.run_types.specs.declared.item.NumberedItem.{NumberedItem}
use Rattle.run_types.specs.Words.{words}
use Rattle.run_types.specs.Texts.{key_words, item_text, line_text}
use Rattle.run_audit.specs.declared.line_kind.LineKind.{LineKind}
use Rattle.run_audit.specs.declared.line_kind.LineKind.TheVariants as kinds
use Rattle.run_audit.specs.Kinds.{kind_at}
use Rattle.run_audit.specs.Frames.{how_many}
use Rattle.run_audit.specs.Tellings.{Telling, handed_key, handed_chunk, answered, handed_keys, handed_answer, shown, tellings_of, tellings, onto}
use Rattle.run_audit.specs.Rules.{is_delivery, deliveries_in}
use Rattle.audit_text.specs.Input.{AreLinesOf}
use Rattle.audit_text.proofs.Cuts.{total}

moved : (b : Bool) (m n : ℕ) → cond b (suc m) m + n ≡ m + cond b (suc n) n
moved true m n = omega arith
moved false m n = refl

how_many-onto : {X : Type 0} (test : X → Bool) (before ts : List X) → how_many test (onto before ts) ≡ how_many test before + how_many test ts
how_many-onto test before [] = omega arith
how_many-onto test before (t ∷ ts) = how_many-onto test (t ∷ before) ts ∙ moved (test t) (how_many test before) (how_many test ts)

-- ---- the length of an item's text

words_many : (w : List ℕ) (ws : List (List ℕ)) → length ws ≤ length (words (w ∷ ws))
words_many w [] = omega arith
words_many w (v ∷ ws) = let more = words_many v ws in omega (arith, more, length-append (w ++ codes " ") (words (v ∷ ws)), length-append w (codes " "))

keys_many : (keys : List (Name × List ℕ)) → length keys ≤ length (flat_map key_words keys)
keys_many [] = omega arith
keys_many (k ∷ keys) = let more = keys_many keys in omega (arith, more)

all_handed : (caller master : ℕ) (keys : List (Name × List ℕ)) → how_many is_delivery (map (handed_key caller master) keys) ≤ length keys
all_handed caller master [] = omega arith
all_handed caller master (k ∷ keys) = let more = all_handed caller master keys in omega (arith, more)

few_handed : (kind : Option LineKind) (keys : List (Name × List ℕ)) → how_many is_delivery (handed_keys kind keys) ≤ length keys
few_handed (Some (kinds.Handing caller master)) keys = all_handed caller master keys
few_handed _ keys = omega arith

one_chunk : (b : Bool) (caller : ℕ) (stream : Name) (chunk : Option Chunk) → how_many is_delivery (cond b (handed_chunk caller stream chunk) []) ≤ 1
one_chunk true caller stream (Some c) = omega arith
one_chunk true caller stream None = omega arith
one_chunk false caller stream chunk = omega arith

one_answered : (caller : ℕ) (stream : Name) (answer : StreamAnswer) → how_many is_delivery (answered caller stream answer) ≤ 1
one_answered caller stream (answers.GetKey status chunk) = one_chunk (eqb status 0) caller stream chunk
one_answered caller stream _ = omega arith

one_answer : (kind : Option LineKind) (answer : StreamAnswer) → how_many is_delivery (handed_answer kind answer) ≤ 1
one_answer (Some (kinds.Getting caller stream)) answer = one_answered caller stream answer
one_answer _ answer = omega arith

none_if : (b : Bool) (t : Telling) → is_delivery t ≡ false → how_many is_delivery (cond b [] (t ∷ [])) ≡ 0
none_if true t e = refl
none_if false t e = rw e refl

none_shown : (name : Name) (bytes : List ℕ) → how_many is_delivery (shown name bytes) ≡ 0
none_shown name bytes = none_if (eqb (length bytes) 0) _ refl

few_told : (nodes : List (List ℕ)) (kind : Option LineKind) (item : Item) → how_many is_delivery (tellings_of kind item) ≤ length (item_text nodes item) + 1
unfolding item_text
few_told nodes kind (items.Keys keys) = omega (arith, few_handed kind keys, keys_many keys, words_many (codes "keys") (flat_map key_words keys))
few_told nodes kind (items.Stream answer) = omega (arith, one_answer kind answer)
few_told nodes kind (items.Shown v name held bytes) = omega (arith, none_shown name bytes)
few_told nodes kind _ = omega arith

few_on_line : (nodes : List (List ℕ)) (kind : Option LineKind) (told : NumberedItem) (part : List ℕ) → line_text nodes told ≡ part ++ 10 ∷ [] → how_many is_delivery (tellings_of kind told.item) ≤ length part
unfolding line_text
few_on_line nodes kind told part e =
    omega (
      arith,
      few_told nodes kind told.item,
      ap length e,
      length-append part (10 ∷ []),
      length-append (decimal told.number ++ codes " " ++ item_text nodes told.item) (10 ∷ []),
      length-append (decimal told.number ++ codes " ") (item_text nodes told.item),
      length-append (decimal told.number) (codes " "),
    )

-- ---- all lines of a report

few_items : (s : Scenario) (left : ℕ) (parts : List (List ℕ)) (told before : List NumberedItem) → AreLinesOf s.site left parts told →
    how_many is_delivery (tellings s (onto before told)) + length told ≤ how_many is_delivery (tellings s before) + total parts
few_items s left [] told before h = absurd h
few_items s left (part ∷ []) [] before h = omega arith
few_items s left (part ∷ []) (t ∷ told) before h = absurd h
few_items s left (part ∷ next ∷ parts) [] before h = absurd h
few_items s left (part ∷ next ∷ parts) (t ∷ told) before h =
    let rest = few_items s (left - (length part + 1)) (next ∷ parts) told (t ∷ before) h.1 in
    let own = few_on_line s.site.nodes (kind_at s t.number) t part h.0.text in
    let sum = how_many-onto is_delivery (tellings s before) (tellings_of (kind_at s t.number) t.item) in
    omega (arith, rest, own, sum)

pub few_in_report : (s : Scenario) (left : ℕ) (parts : List (List ℕ)) (told : List NumberedItem) → AreLinesOf s.site left parts told → deliveries_in s told + length told ≤ total parts
few_in_report s left parts told h = omega (arith, few_items s left parts told [] h)
