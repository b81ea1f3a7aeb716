-- The exported basket: what is asked, and what it leaves by what the public basket left. Assumes nothing.
use mathlib.Core.Path.{◌≡◌, sym, ap, ap₂, ◌∙◌}
use mathlib.Core.Bool.{Bool, true, false, cond}
use mathlib.Core.List.{List, [], ◌∷◌}
use Prim.Native.Nat.{ℕ, ◌^◌, ◌≤◌, ◌<◌}
use native.Mathlib.Omega.{arith}
use lib.Dec.{ltb}
use lib.ListN.{length, get_or, take}
use borrow.Author.Tests.{lt-ltb, le-ltb}
use Rattle.words.specs.Word.{AreBytes}
use Rattle.prelude.specs.Answer.{refusal_in}
use Rattle.prelude.specs.Members.{All, none_left, one_more}
use Rattle.prelude.specs.Range.{tabulate}
use Rattle.prelude.proofs.Choice.{pick_true, pick_false}
use Rattle.prelude.proofs.Tabulate.{tabulate_list}
use Rattle.interface.specs.Set.{Layout, State, BasketAnswer, BasketBuffers, basket_end, basket_says, changes_of, TypedItem, TypedChange}
use Rattle.interface.proofs.SetLaws.{call_laws}
use Rattle.exports.specs.Basket.{unknown_kind, keys_asked, given_item, given_items, basket_call_left, basket_answered, basket_call}

-- ---- the number of keys

module _ (kinds : List ℕ) (count : ℕ) where
  pub too-many : 8 < count → 0 ≡ keys_asked count kinds
  unfolding keys_asked
  too-many h = sym (pick_true (ltb 8 count) _ _ (lt-ltb 8 count h))

  module _ (few : count ≤ 8) (b : Bool) (e : b ≡ unknown_kind kinds count) where
    rest : keys_asked count kinds ≡ cond (unknown_kind kinds count) 0 count
    unfolding keys_asked
    rest = pick_false (ltb 8 count) _ _ (le-ltb 8 count few)

    pub kinds_unknown : b ≡ true → 0 ≡ keys_asked count kinds
    kinds_unknown q = sym (rest ∙ pick_true (unknown_kind kinds count) _ _ (sym e ∙ q))

    pub kinds_known : b ≡ false → count ≡ keys_asked count kinds
    kinds_known q = sym (rest ∙ pick_false (unknown_kind kinds count) _ _ (sym e ∙ q))

-- ---- the items

given-items : (kinds lows highs lengths : List ℕ) → ((i : ℕ) → get_or lows i 0 < 2 ^ 64) → ((i : ℕ) → get_or highs i 0 < 2 ^ 64)
    → All TypedItem (given_items kinds lows highs lengths)
unfolding given_items given_item
given-items kinds lows highs lengths low high =
    one_more (one 0) (one_more (one 1) (one_more (one 2) (one_more (one 3)
    (one_more (one 4) (one_more (one 5) (one_more (one 6) (one_more (one 7) none_left)))))))
  where
    one : (i : ℕ) → TypedItem (given_item kinds lows highs lengths i)
    one i = record { low_word = low i; high_word = high i }

-- WHAT THE LENT NUMBERS ASK is typed: the cut rule speaks of every basket that C asks for
pub given_typed : (l : ℕ) → Layout l → (kinds lows highs lengths bytes : List ℕ) → ((i : ℕ) → get_or lows i 0 < 2 ^ 64) → ((i : ℕ) → get_or highs i 0 < 2 ^ 64)
    → AreBytes bytes → (count : ℕ) → All (TypedChange l) (changes_of l (keys_asked count kinds) (given_items kinds lows highs lengths) bytes)
given_typed l layout kinds lows highs lengths bytes low high b count =
    (call_laws l layout).changes_typed (given_items kinds lows highs lengths) bytes (given-items kinds lows highs lengths low high) b (keys_asked count kinds)

-- ---- the answer

-- a list of eight numbers
pub eight_listed : (xs : List ℕ) → length xs ≡ 8
    → get_or xs 0 0 ∷ get_or xs 1 0 ∷ get_or xs 2 0 ∷ get_or xs 3 0 ∷ get_or xs 4 0 ∷ get_or xs 5 0 ∷ get_or xs 6 0 ∷ get_or xs 7 0 ∷ [] ≡ xs
unfolding tabulate
eight_listed xs e =
    sym (ap (tabulate (λ i. get_or xs i 0) 0) e) ∙ tabulate_list (λ i. get_or xs i 0) xs 0 (λ i h. ap (λ (k : ℕ). get_or xs k 0) (omega arith))

-- what the exported basket leaves
pub basket_called : (code : ℕ) (answer lent-answer : List ℕ) (s : State) (at words heads next : List ℕ) (count : ℕ) (r : BasketAnswer) (left : BasketBuffers)
    → basket_end count r at words heads next ≡ left
    → ((taken : List ℕ) → (code ≡ refusal_in (basket_says taken r.outcome)) × (answer ≡ basket_answered (basket_says taken r.outcome) r.slots lent-answer)
    × (s ≡ r.state))
    → basket_call_left code answer s at words heads next ≡ basket_call left lent-answer
unfolding basket_call
basket_called code answer lent-answer s at words heads next count r left e h =
    ap (λ (k : ℕ). basket_call_left k answer s at words heads next) (h (take count r.slots)).0
    ∙ ap₂ (λ (a : List ℕ) (t : State). basket_call_left (refusal_in (basket_says (take count r.slots) r.outcome)) a t at words heads next)
    (h (take count r.slots)).1 (h (take count r.slots)).2
    ∙ ap (λ (x : BasketBuffers). basket_call x lent-answer) e
