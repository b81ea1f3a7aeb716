-- The bytes of an order are a book record, and the order in them is that order. Assumes nothing.
use mathlib.Core.Path.{◌≡◌, refl, ap, ◌∙◌}
use mathlib.Core.Bool.{Bool, true, false, cond, ◌&&◌}
use mathlib.Core.List.{List}
use Prim.Native.Nat.{ℕ, ◌^◌, ◌<◌}
use native.Mathlib.Omega.{arith}
use lib.Dec.{eqb, ltb}
use lib.ListN.{length, replicate}
use borrow.Author.Tests.{eqb-true, eq-eqb, lt-ltb, ltb-true}
use Rattle.prelude.proofs.Choice.{both, both_left, both_right}
use Rattle.prelude.proofs.Fills.{zeros}
use Rattle.words.specs.Word.{AreBytes, word, set_word}
use Rattle.words.proofs.Laws.{set_word-length, set_word_bytes, word_same, word_other, word_range}
use Rattle.book.specs.declared.Order.{Order}
use Rattle.book.specs.Orders.{order_bytes, order_of, is_state, is_order}

-- an order as the book keeps it: in state 1 or 2, filled below ordered, each a word
pub record BookOrder (o : Order) : Type 0 where
  pub state : is_state o.state ≡ true
  pub part : o.filled < o.ordered
  pub size : o.ordered < 2 ^ 64

-- bytes that are a book record
pub record BookRecord (value : List ℕ) : Type 0 where
  pub order : is_order value ≡ true
  pub bytes : AreBytes value

state_small : (state : ℕ) → is_state state ≡ true → state < 2 ^ 64
unfolding is_state
state_small state h = go (eqb state 1) refl h
  where
    go : (b : Bool) → eqb state 1 ≡ b → cond b true (eqb state 2) ≡ true → state < 2 ^ 64
    go true e h = omega (arith, eqb-true state 1 e)
    go false e h = omega (arith, eqb-true state 2 h)

-- ---- the three words of three stores

module _ (a b c : ℕ) (p : a < 2 ^ 64) (q : b < 2 ^ 64) (r : c < 2 ^ 64) where
  abbrev one : List ℕ
  one = set_word (replicate 24 0) 0 a

  abbrev two : List ℕ
  two = set_word one 1 b

  long_one : length one ≡ 24
  long_one = set_word-length (replicate 24 0) 0 a

  long_two : length two ≡ 24
  long_two = set_word-length one 1 b ∙ long_one

  word_0 : word (set_word two 2 c) 0 ≡ a
  word_0 =
      word_other two 2 0 c (λ e. omega arith) ∙ word_other one 1 0 b (λ e. omega arith) ∙ word_same (replicate 24 0) 0 a (omega arith) p

  word_1 : word (set_word two 2 c) 1 ≡ b
  word_1 = word_other two 2 1 c (λ e. omega arith) ∙ word_same one 1 b (omega (arith, long_one)) q

  word_2 : word (set_word two 2 c) 2 ≡ c
  word_2 = word_same two 2 c (omega (arith, long_two)) r

-- ---- length and bytes of any order

pub order_length : (o : Order) → length (order_bytes o) ≡ 24
unfolding order_bytes
order_length o = set_word-length _ 2 o.filled ∙ set_word-length _ 1 o.ordered ∙ set_word-length (replicate 24 0) 0 o.state

pub order-bytes : (o : Order) → AreBytes (order_bytes o)
unfolding order_bytes
order-bytes o =
    set_word_bytes _ 2 o.filled
    (set_word_bytes _ 1 o.ordered (set_word_bytes (replicate 24 0) 0 o.state (λ k. omega (arith, zeros 24 k))))

-- ---- the round trip

module _ (o : Order) (s : BookOrder o) where
  state_fits : o.state < 2 ^ 64
  state_fits = state_small o.state s.state

  filled_fits : o.filled < 2 ^ 64
  filled_fits = omega (arith, s.part, s.size)

  same_order : (a b c : ℕ) → a ≡ o.state → b ≡ o.ordered → c ≡ o.filled → record { state = a; ordered = b; filled = c } ≡ o
  same_order a b c p q r =
      ap (λ (x : ℕ). record { state = x; ordered = b; filled = c }) p
      ∙ ap (λ (x : ℕ). record { state = o.state; ordered = x; filled = c }) q
      ∙ ap (λ (x : ℕ). record { state = o.state; ordered = o.ordered; filled = x }) r

  pub order_back : order_of (order_bytes o) ≡ o
  unfolding order_of order_bytes
  order_back =
      same_order _ _ _ (word_0 o.state o.ordered o.filled state_fits s.size filled_fits)
      (word_1 o.state o.ordered o.filled state_fits s.size filled_fits)
      (word_2 o.state o.ordered o.filled state_fits s.size filled_fits)

  pub order_record : BookRecord (order_bytes o)
  unfolding is_order order_of order_bytes
  order_record =
      record {
        order =
            both _ _
            (both _ _ (eq-eqb _ _ (order_length o))
            (ap (λ (x : Order). is_state x.state) order_back ∙ s.state))
            (ap (λ (x : Order). ltb x.filled x.ordered) order_back ∙ lt-ltb o.filled o.ordered s.part);
        bytes = order-bytes o;
      }

-- the order in a book record
pub record_order : (value : List ℕ) → BookRecord value → BookOrder (order_of value)
unfolding is_order order_of
record_order value r = record {
  state = both_right (eqb (length value) 24) (is_state (word value 0)) (both_left _ _ r.order);
  part = ltb-true (word value 2) (word value 1) (both_right (eqb (length value) 24 && is_state (word value 0)) _ r.order);
  size = word_range value 1 r.bytes;
}
