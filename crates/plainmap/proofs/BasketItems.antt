-- The items that a basket is given: what they ask is typed. Assumes nothing.
use mathlib.Core.Path.{◌≡◌, refl, sym}
use mathlib.Core.Bool.{Bool, true, false, cond}
use mathlib.Core.List.{List, [], ◌∷◌}
use Prim.Native.Nat.{ℕ, zero, suc, ◌+◌, ◌*◌, ◌^◌, ◌≤◌, ◌<◌}
use native.Mathlib.Nat.{mul-le-mul_left}
use native.Mathlib.Omega.{arith}
use lib.Dec.{eqb}
use borrow.Author.Tests.{eqb-true, eqb-false}
use Rattle.words.specs.Word.{AreBytes}
use Rattle.prelude.specs.Members.{All, none_left, one_more}
use Rattle.prelude.specs.Range.{tabulate}
use Rattle.prelude.proofs.Choice.{split}
use Rattle.layout.specs.Record.{Layout, key_with}
use Rattle.calls.specs.BasketItems.{high_in, item_key, item_at, item_value, change_at, changes_from, changes_of}
use Rattle.calls.specs.declared.BasketItem.{BasketItem}
use Rattle.plainmap.specs.Baskets.{TypedItem, TypedChange}

-- a list of bytes
bytes_tabulated : (f : ℕ → ℕ) → ((i : ℕ) → f i < 256) → (k n : ℕ) → AreBytes (tabulate f k n)
unfolding tabulate
bytes_tabulated f h k zero i = omega arith
bytes_tabulated f h k (suc n) zero = h k
bytes_tabulated f h k (suc n) (suc i) = bytes_tabulated f h (suc k) n i

-- the item with number i, given or not
item_typed : (items : List BasketItem) → All TypedItem items → (i : ℕ) → TypedItem (item_at items i)
unfolding item_at
item_typed [] none_left i = record { low_word = omega arith; high_word = omega arith }
item_typed (k ∷ items) (one_more t ts) zero = t
item_typed (k ∷ items) (one_more t ts) (suc i) = item_typed items ts i

-- a key of one word, and one of two
one_word : (l low high : ℕ) → l ≡ 1 → low < 2 ^ 64 → high ≡ 0 → key_with low high < (2 ^ 64) ^ l
one_word l low high e h z = rw e (omega arith)

below_square : (b low high : ℕ) → low < b → high < b → low + b * high < b * b
below_square b low high h k = omega (arith, h, mul-le-mul_left b k)

two_words : (l low high : ℕ) → l ≡ 2 → low < 2 ^ 64 → high < 2 ^ 64 → key_with low high < (2 ^ 64) ^ l
two_words l low high e h k = rw e (below_square (2 ^ 64) low high h k)

other_layout : (l : ℕ) → Layout l → (l ≡ 1 → ⊥) → l ≡ 2
other_layout l lay ne = omega (arith, lay.low, lay.high, ne)

module _ (l : ℕ) (lay : Layout l) where
  key_typed : (k : BasketItem) → TypedItem k → item_key l k < (2 ^ 64) ^ l
  unfolding item_key high_in
  key_typed k t = go (eqb l 1) refl
    where
      go : (b : Bool) → eqb l 1 ≡ b → key_with k.low (cond b 0 k.high) < (2 ^ 64) ^ l
      go true e = one_word l k.low 0 (eqb-true l 1 e) t.low_word refl
      go false e = two_words l k.low k.high (other_layout l lay (eqb-false l 1 e)) t.low_word t.high_word

  module _ (items : List BasketItem) (values : List ℕ) (fit : All TypedItem items) (bytes : AreBytes values) where
    change_typed : (i : ℕ) → TypedChange l (change_at l items values i)
    unfolding change_at item_value
    change_typed i =
        record {
          key_fits = key_typed (item_at items i) (item_typed items fit i);
          bytes = bytes_tabulated _ (λ k. bytes (80 * i + k)) 0 (item_at items i).length;
        }

    from_typed : (i n : ℕ) → All (TypedChange l) (changes_from l items values i n)
    unfolding changes_from
    from_typed i zero = none_left
    from_typed i (suc n) = one_more (change_typed i) (from_typed (suc i) n)

    -- WHAT THE ITEMS ASK is typed
    pub changes_typed : (count : ℕ) → All (TypedChange l) (changes_of l count items values)
    unfolding changes_of
    changes_typed count = from_typed 0 count
