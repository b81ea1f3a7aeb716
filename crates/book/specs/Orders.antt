-- The record of an order. Document 02, A.1: "Its record is 24 bytes: state (1 sent, 2 acknowledged), ordered quantity
-- and filled quantity, a word each, filled below ordered."
use Rattle.std.specs.Prelude.{Bool, true, cond, ◌&&◌, List, ℕ, ◌+◌, ◌-◌, eqb, ltb, length, replicate}
use Rattle.words.specs.Word.{word, set_word}
use Rattle.book.specs.declared.Order.{Order}

-- the bytes of an order
unfoldable pub order_bytes : Order → List ℕ
order_bytes o = set_word (set_word (set_word (replicate 24 0) 0 o.state) 1 o.ordered) 2 o.filled

-- the order in bytes that are a book record
unfoldable pub order_of : (bytes : List ℕ) → Order
order_of bytes = record { state = word bytes 0; ordered = word bytes 1; filled = word bytes 2 }

-- "state (1 sent, 2 acknowledged)"
unfoldable pub is_state : ℕ → Bool
is_state state = cond (eqb state 1) true (eqb state 2)

-- are these bytes a book record?
unfoldable pub is_order : (bytes : List ℕ) → Bool
is_order bytes = eqb (length bytes) 24 && is_state (word bytes 0) && ltb (word bytes 2) (word bytes 1)

-- the quantity that is open
abbrev pub open_of : Order → ℕ
open_of o = o.ordered - o.filled

-- a new order, the order acknowledged, and the order with q more filled: "Fill and withdraw serve either state and keep
-- it"
unfoldable pub sent : (quantity : ℕ) → Order
sent quantity = record { state = 1; ordered = quantity; filled = 0 }

unfoldable pub acknowledged : Order → Order
acknowledged o = record { state = 2; ordered = o.ordered; filled = o.filled }

unfoldable pub filled_by : (quantity : ℕ) → Order → Order
filled_by quantity o = record { state = o.state; ordered = o.ordered; filled = o.filled + quantity }
