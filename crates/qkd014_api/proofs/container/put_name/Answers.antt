use Rattle.std.proofs.Common.{◌≡◌, ◌+◌, ◌≤◌, ◌++◌, ℕ, List, length, arith, ap, ◌∙◌}
use Rattle.uuid.proofs.TextLemmas.{by_index_length}
use Rattle.uuid.specs.Text.{lower, hyphenated_text}
use Rattle.qkd014_api.proofs.container.put_name.Goals as goal

long : (text xs : List ℕ) → text ≡ hyphenated_text lower xs → length text ≡ 36
long text xs is = ap length is ∙ by_index_length 36 _

pub put-requires : goal.put-requires
put-requires c = record { room = omega (arith, c.requires.room, ap length c.as_bytes.ensures.value, long c.encode_lower-text.result.now _ c.encode_lower-text.ensures.text) }

pub returns-clause-items : goal.returns-clause-items
returns-clause-items c =
    c.put.ensures.items
    ∙ ap (λ (t : List ℕ). c.args.body.now.items ++ t)
    (c.as_bytes.ensures.value ∙ c.encode_lower-text.ensures.text ∙ ap (hyphenated_text lower) (c.hyphenated-form.ensures ∙ c.to_uuid-uuid.ensures.octets))

pub returns-clause-len : goal.returns-clause-len
returns-clause-len c = omega (arith, c.put.ensures.len, ap length c.as_bytes.ensures.value, long c.encode_lower-text.result.now _ c.encode_lower-text.ensures.text)
