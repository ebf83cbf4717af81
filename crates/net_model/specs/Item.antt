-- Items: what a frame carries, by name, and how many lane bytes it spends.
use Rattle.std.specs.Prelude.{ℕ, ◌+◌, Bool, false, List, Option, Some, None}
use Rattle.qkd_base.specs.Name.{Name, name_eq}
use Rattle.net_model.specs.declared.fact.Fact.{Fact}
use Rattle.net_model.specs.declared.payload.Payload.{Payload}
use Rattle.net_model.specs.declared.payload.Payload.TheVariants.{Data, Ack}
use Rattle.net_model.specs.Facts.{payload_len}
use Rattle.net_model.specs.Table.{fact_at}

-- a fact, or the acknowledgement of one
pub data Item : Type 0 where
  DataItem : (name : Name) → Item
  AckItem : (name : Name) → Item

abbrev pub item_eq : Item → Item → Bool
item_eq (DataItem a) (DataItem b) = name_eq a b
item_eq (DataItem a) (AckItem b) = false
item_eq (AckItem a) (DataItem b) = false
item_eq (AckItem a) (AckItem b) = name_eq a b

abbrev pub item_name : Item → Name
item_name (DataItem n) = n
item_name (AckItem n) = n

-- an acknowledgement is an item with the received offset that it answers
abbrev pub item_of : Option ℕ → Name → Item
item_of None n = DataItem n
item_of (Some x) n = AckItem n

abbrev pub is_data_of : Name → Item → Bool
is_data_of n (DataItem m) = name_eq m n
is_data_of n (AckItem m) = false

abbrev pub data_payload : Option Fact → Option Payload
data_payload None = None
data_payload (Some f) = Some (Data f)

-- the payload of an item; that of a fact is looked up in the table
abbrev pub payload : List Fact → Item → Option Payload
payload facts (DataItem n) = data_payload (fact_at facts n)
payload facts (AckItem n) = Some (Ack n)

abbrev pub len_or_zero : Option Payload → ℕ
len_or_zero None = 0
len_or_zero (Some p) = payload_len p

-- how many lane bytes an item spends: one for each octet of its payload, and 8 that mask the tag
abbrev pub need : List Fact → Item → ℕ
need facts item = len_or_zero (payload facts item) + 8
