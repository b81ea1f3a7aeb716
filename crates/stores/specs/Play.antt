-- Play, with two counts and of a list. Document 01, "What each operation may say no to", Play. The stores are lent as
-- word numbers and values.
use Rattle.std.specs.Prelude.{Bool, true, cond, not, List, [], ◌∷◌, ◌++◌, ℕ, ◌+◌, ◌*◌, ◌/◌, ◌%◌, eqb, ltb, length, get_or, take, drop}
use Rattle.prelude.specs.Refusal.{refuse_if, unless_refused}
use Rattle.prelude.specs.Range.{any_of}
use Rattle.layout.specs.Size.{slots_of}
use Rattle.stores.specs.Store.{Store, zipped, played}

-- play's answer, a refusal's number or 0, and the bytes that it leaves
pub record Played : Type 0 where
  pub answer : ℕ
  pub bytes : List ℕ

-- what a call of play with this answer left
abbrev pub play_end : (answer : ℕ) → (bytes : List ℕ) → Played
play_end answer bytes = record { answer = answer; bytes = bytes }

-- the stores as play is given them: their word numbers
unfoldable pub word_numbers : List Store → List ℕ
word_numbers [] = []
word_numbers (s ∷ ss) = s.word ∷ word_numbers ss

-- and their values
unfoldable pub values : List Store → List ℕ
values [] = []
values (s ∷ ss) = s.value ∷ values ss

-- the half from store k on is "not words 0 to 7 of one line inside the image, in order"
unfoldable pub half_fault : (len : ℕ) → (at : List ℕ) → (k : ℕ) → Bool
half_fault len at k =
    cond (not (eqb (get_or at k 0 % 8) 0)) true
    (cond (ltb len (8 * get_or at k 0 + 64)) true (any_of (λ i. not (eqb (get_or at (k + i) 0) (get_or at k 0 + i))) 0 8))

-- 15: "either half is not words 0 to 7 of one line inside the image, in order, or both halves name one line"
unfoldable pub halves_fault : (len : ℕ) → (at : List ℕ) → ℕ
halves_fault len at = refuse_if (half_fault len at 0) 15 (refuse_if (half_fault len at 8) 15 (refuse_if (eqb (get_or at 0 0) (get_or at 8 0)) 15 0))

-- "1; 14 when a count exceeds 8; 15"
unfoldable pub play_fault : (len : ℕ) → (at : List ℕ) → (a b : ℕ) → ℕ
play_fault len at a b = refuse_if (eqb (slots_of len) 0) 1 (refuse_if (ltb 8 a) 14 (refuse_if (ltb 8 b) 14 (halves_fault len at)))

-- "that many first stores of each half"
unfoldable pub counted : (a b : ℕ) → List Store → List Store
counted a b ss = take a ss ++ take b (drop 8 ss)

-- what play answers and leaves; "A refused call changes no lent byte"
unfoldable pub play_result : (image at value : List ℕ) → (a b : ℕ) → Played
play_result image at value a b =
    record {
      answer = play_fault (length image) at a b;
      bytes = unless_refused (play_fault (length image) at a b) (played (counted a b (zipped at value)) image) image;
    }

-- "Given a list of stores without counts it tests only 15, here a word outside the lent bytes"; the two lists must have
-- one length
unfoldable pub list_fault : (len : ℕ) → (at : List ℕ) → (values : ℕ) → ℕ
list_fault len at values =
    refuse_if (not (eqb (length at) values)) 15 (refuse_if (any_of (λ i. ltb len (8 * get_or at i 0 + 8)) 0 (length at)) 15 0)

-- "and then makes them all in order"
unfoldable pub play_list_result : (image at value : List ℕ) → Played
play_list_result image at value =
    record {
      answer = list_fault (length image) at (length value);
      bytes = unless_refused (list_fault (length image) at (length value)) (played (zipped at value) image) image;
    }

-- ---- for the laws of play

-- the bytes that play with two counts leaves of an image: "play makes the counted stores, if there are any"
unfoldable pub playing : (image : List ℕ) → List Store → (a b : ℕ) → List ℕ
playing image ss a b = (play_result image (word_numbers ss) (values ss) a b).bytes

-- its counts, by lines: a for the line of the first store, b for any other
unfoldable pub half_counts : List Store → (a b : ℕ) → ℕ → ℕ
half_counts [] a b n = b
half_counts (s ∷ ss) a b n = cond (eqb n (s.word / 8)) a b
