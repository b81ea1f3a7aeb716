-- What the exported basket asks, by the lent numbers, and what it returns and leaves in them. Document 02, A.7.
use Rattle.std.specs.Prelude.{Bool, true, cond, not, List, [], ◌∷◌, ℕ, eqb, ltb, get_or}
use Rattle.prelude.specs.Answer.{Answer, gives, absent, refused, refusal_in}
use Rattle.prelude.specs.Range.{any_of}
use Rattle.interface.specs.Set.{State, Action, Write, Remove, Insert, Replace, BasketItem, BasketBuffers, Index, index_of}

-- ---- what is asked

-- "each to be inserted, replaced or removed": the kind of an item is 1, 2 or 3
unfoldable pub is_kind : (kind : ℕ) → Bool
is_kind kind = cond (eqb kind 1) true (cond (eqb kind 2) true (eqb kind 3))

unfoldable pub action_of : (kind : ℕ) → Action
action_of kind = cond (eqb kind 1) (Write Insert) (cond (eqb kind 2) (Write Replace) Remove)

unfoldable pub unknown_kind : (kinds : List ℕ) → (count : ℕ) → Bool
unknown_kind kinds count = any_of (λ i. not (is_kind (get_or kinds i 0))) 0 count

-- the papers have no number for a kind that is none of the three: such a basket, and one of more than 8 keys, counts as
-- one of none, so that 26 comes "first of all"
unfoldable pub keys_asked : (count : ℕ) → (kinds : List ℕ) → ℕ
keys_asked count kinds = cond (ltb 8 count) 0 (cond (unknown_kind kinds count) 0 count)

-- the item with number i, by four lists of eight numbers; a key of layout 1 has 0 for its high word
unfoldable pub given_item : (kinds lows highs lengths : List ℕ) → ℕ → BasketItem
given_item kinds lows highs lengths i =
    record { action = action_of (get_or kinds i 0); low = get_or lows i 0; high = get_or highs i 0; length = get_or lengths i 0 }

unfoldable pub given_items : (kinds lows highs lengths : List ℕ) → List BasketItem
given_items kinds lows highs lengths =
    given_item kinds lows highs lengths 0
    ∷ given_item kinds lows highs lengths 1
    ∷ given_item kinds lows highs lengths 2
    ∷ given_item kinds lows highs lengths 3
    ∷ given_item kinds lows highs lengths 4
    ∷ given_item kinds lows highs lengths 5
    ∷ given_item kinds lows highs lengths 6
    ∷ given_item kinds lows highs lengths 7
    ∷ []

-- ---- what is returned and left

-- what a basket returns, 0 or a refusal's number, and the lent answer, lists and index, its state
-- included, after it
pub record BasketCall : Type 0 where
  pub returns : ℕ
  pub answer : List ℕ
  pub at : List ℕ
  pub words : List ℕ
  pub index : Index

-- what a basket left, with this code
abbrev pub basket_call_left : (code : ℕ) → (answer : List ℕ) → State → (at words heads next : List ℕ) → BasketCall
basket_call_left code answer s at words heads next =
    record { returns = code; answer = answer; at = at; words = words; index = index_of heads next s }

-- "It answers its version and slots": the lent answer is the version and eight slots, zeros after those taken; a
-- refusal changes nothing lent
unfoldable pub basket_answered : Answer → (slots lent : List ℕ) → List ℕ
basket_answered (gives values) slots lent = get_or values 0 0 ∷ slots
basket_answered absent slots lent = lent
basket_answered (refused number) slots lent = lent

-- the same, by what the basket leaves and the lent answer
unfoldable pub basket_call : BasketBuffers → (answer : List ℕ) → BasketCall
basket_call r answer =
    record {
      returns = refusal_in r.answer;
      answer = basket_answered r.answer r.slots answer;
      at = r.at;
      words = r.words;
      index = r.index;
    }
