-- Examples E1 to E12 of document 01 and examples of layout 2: one or more rows for each, with what the definitions give
-- and what the documents say, as lists of numbers.
use Rattle.std.specs.Prelude.{Bool, true, false, cond, ◌&&◌, List, [], ◌∷◌, ◌++◌, ℕ, ◌-◌, ◌^◌, eqb, get_or, replicate}
use Rattle.std.proofs.Math.Option.{Option, some, none}
use Rattle.words.specs.Word.{word}
use Rattle.prelude.specs.Answer.{Answer, gives, absent, refused}
use Rattle.layout.specs.Line.{whole, version_of}
use Rattle.layout.specs.Slot.{verdict_of, slot_verdict}
use Rattle.layout.specs.Record.{key_with}
use Rattle.layout.specs.Content.{content}
use Rattle.table.specs.Complete.{table_of}
use Rattle.layout.specs.declared.Verdict.{Verdict}
use Rattle.layout.specs.declared.Verdict.TheVariants.{Valid, Empty, Broken}
use Rattle.stores.specs.Store.{Store, played}
use Rattle.stores.specs.Play.{values}
use Rattle.stores.specs.Written.{record_stores}
use Rattle.table.specs.Table.{next_version, live_count, map_of}
use Rattle.calls.specs.Format.{FormatResult, format_result}
use Rattle.index.specs.Index.{head_of}
use Rattle.index.specs.declared.Mode.TheVariants.{Insert, Replace}
use Rattle.plainmap.specs.World.{World, Call, write, remove, get, call_result, finished, invalidated_world}
use Rattle.layout.specs.Size.{slots_in}

-- ---- results as numbers

-- 1 for true, 0 for false
unfoldable pub bit : Bool → List ℕ
bit true = 1 ∷ []
bit false = 0 ∷ []

-- 0 and the values, 1 for absent, 2 and the number of a refusal
unfoldable pub answer : Answer → List ℕ
answer (gives given) = 0 ∷ given
answer absent = 1 ∷ []
answer (refused number) = 2 ∷ number ∷ []

-- 0 and the version of a valid slot, 1 for an empty one, 2 for a broken one
unfoldable pub verdict : Verdict → List ℕ
verdict (Valid version) = 0 ∷ version ∷ []
verdict Empty = 1 ∷ []
verdict (Broken top) = 2 ∷ []

-- 0 and the bytes of a value, 1 for absent
unfoldable pub held : Option (List ℕ) → List ℕ
held none = 1 ∷ []
held (some value) = 0 ∷ value

-- format's answer and the bytes that it leaves
unfoldable pub format_numbers : FormatResult → List ℕ
format_numbers r = answer r.answer ++ r.bytes

-- the values of the first and of the eighth store
unfoldable pub ends : List Store → List ℕ
ends ss = get_or (values ss) 0 0 ∷ get_or (values ss) 7 0 ∷ []

-- ---- lines and slots by their words

-- the words of an image that is zero but for these words: a number and its value, and so on
unfoldable pub words : List ℕ → ℕ → ℕ
words [] i = 0
words (w ∷ []) i = 0
words (w ∷ v ∷ rest) i = cond (eqb i w) v (words rest i)

-- the stores of a put of key 7 with version 4 into slot 1, whose line A has this mark and stamp
unfoldable pub over : (mark stamp : ℕ) → List Store
over mark stamp = record_stores 1 (words (16 ∷ mark ∷ 23 ∷ stamp ∷ [])) 1 7 1 0 [] 4

-- slot 1 valid with version 2, slot 2 broken: line A whole with version 3, line B open
unfoldable pub leftover : ℕ → ℕ
leftover = words (18 ∷ 1 ∷ 23 ∷ 4 ∷ 31 ∷ 4 ∷ 39 ∷ 6 ∷ 47 ∷ 1 ∷ [])

-- ---- sets of three slots

-- an image with the index, of one head, and the state that recovery in layout l leaves, its invalidating stores played
unfoldable pub recovered_in : (l : ℕ) → (image : List ℕ) → World
recovered_in l image = invalidated_world l image (0 ∷ []) (replicate 4 0)

abbrev pub recovered_set : (image : List ℕ) → World
recovered_set image = recovered_in 1 image

-- the set after these calls of layout 1, all their stores played
unfoldable pub after_calls : World → List Call → World
after_calls w [] = w
after_calls w (call ∷ calls) = after_calls (finished 1 w call) calls

-- what calls of layout l answer, one after the other
unfoldable pub answers_in : (l : ℕ) → World → List Call → List ℕ
answers_in l w [] = []
answers_in l w (call ∷ calls) = answer (call_result l w call).answer ++ answers_in l (finished l w call) calls

abbrev pub call_answers : World → List Call → List ℕ
call_answers w calls = answers_in 1 w calls

-- the live count by the state and by the slots
unfoldable pub live_counts : World → List ℕ
live_counts w = w.index.state.live ∷ live_count (table_of 1 w.image) (slots_in w.image) ∷ []

-- a formatted image of three slots
unfoldable pub blank : List ℕ
blank = (format_result 1 (replicate 512 9)).bytes

-- the set that recovery makes of it
unfoldable pub empty_set : World
empty_set = recovered_set blank

-- slot 1 holds a put of key 7 with version 2^63 − 2
unfoldable pub late_set : World
late_set = recovered_set (played (record_stores 1 (word blank) 1 7 1 0 [] (2 ^ 63 - 2)) blank)

-- in an empty set, these calls insert key 7 at version 2 and remove it at 4
unfoldable pub removal : List Call
removal = write Insert 8 [] ∷ write Insert 7 [] ∷ write Replace 8 [] ∷ remove 7 ∷ []

-- the set after them
unfoldable pub removed_set : World
removed_set = after_calls empty_set removal

-- a get of key 7 with 80 bytes of output
unfoldable pub get7 : List Call
get7 = get 7 (replicate 80 0) ∷ []

-- ---- layout 2

-- an empty set of three slots
unfoldable pub second_set : World
second_set = recovered_in 2 (format_result 2 (replicate 512 9)).bytes

-- two keys that share their low word
unfoldable pub key_a : ℕ
key_a = key_with 7 1

unfoldable pub key_b : ℕ
key_b = key_with 7 2

-- ---- the table

-- a row: what the definitions give, and what document 01 says
pub record Example : Type 0 where
  pub got : List ℕ
  pub want : List ℕ

-- the row with these two
abbrev pub row : (got want : List ℕ) → Example
row got want = record { got = got; want = want }

-- "Examples E1 to E12 are shown of the definitions by a single check over a table"
unfoldable pub examples : List Example
examples =
    -- E1: 384 bytes format as N = 2; 383 bytes give 1
    row (format_numbers (format_result 1 (replicate 384 9))) ((0 ∷ 2 ∷ 2 ∷ replicate 7 0) ++ (1 ∷ replicate 375 0))
    ∷ row (format_numbers (format_result 1 (replicate 383 9))) (2 ∷ 1 ∷ replicate 383 9)
    -- E2: mark 0, stamp 0: whole, version 0
    ∷ row (bit (whole 0 0) ++ (version_of 0 ∷ [])) (1 ∷ 0 ∷ [])
    -- E3: mark 1, stamp 6: open
    ∷ row (bit (whole 1 6)) (0 ∷ [])
    -- E4: mark 1, stamp 7: whole, version 3
    ∷ row (bit (whole 1 7) ++ (version_of 7 ∷ [])) (1 ∷ 3 ∷ [])
    -- E5: a slot with whole lines of versions 3 and 3 is valid; 3 and 2 broken
    ∷ row (verdict (verdict_of 1 7 0 6) ++ verdict (verdict_of 1 7 0 4)) (0 ∷ 3 ∷ 2 ∷ [])
    -- E6: writing version 4 over E3's line: first store 1, last store 9
    ∷ row (ends (over 1 6)) (1 ∷ 9 ∷ [])
    -- E7: over E4's line: first 0, last 8
    ∷ row (ends (over 1 7)) (0 ∷ 8 ∷ [])
    -- E8: a value of 80 bytes is taken; 81 gives 10
    ∷ row (call_answers empty_set (write Insert 7 (replicate 80 5) ∷ write Replace 7 (replicate 81 5) ∷ [])) (0 ∷ 1 ∷ 1 ∷ 2 ∷ 10 ∷ [])
    -- E9: N = 3, new key: taken at live count 1; at 2 28, "in place of 12 as the rule on room" (document 02, A.7)
    ∷ row (live_counts (after_calls empty_set (write Insert 7 [] ∷ []))) (1 ∷ 1 ∷ [])
    ∷ row (live_counts (after_calls empty_set (write Insert 7 [] ∷ write Insert 8 [] ∷ []))) (2 ∷ 2 ∷ [])
    ∷ row (call_answers empty_set (write Insert 7 [] ∷ write Insert 8 [] ∷ write Insert 9 [] ∷ [])) (0 ∷ 1 ∷ 1 ∷ 0 ∷ 2 ∷ 2 ∷ 2 ∷ 28 ∷ [])
    -- E10: the only whole line above version 2 is version 3 in a broken slot: next is 4
    ∷ row (next_version (content 1 leftover) 3 ∷ []) (4 ∷ [])
    -- E11: version 2^63 − 1 is still written; the call after gives 9
    ∷ row (verdict (slot_verdict (word (after_calls late_set (write Insert 8 [] ∷ [])).image) 2)) (0 ∷ (2 ^ 63 - 1) ∷ [])
    ∷ row (call_answers late_set (write Insert 8 [] ∷ write Replace 7 [] ∷ [])) (0 ∷ 2 ∷ (2 ^ 63 - 1) ∷ 2 ∷ 9 ∷ [])
    ∷ row (call_answers late_set (write Insert 8 [] ∷ remove 7 ∷ [])) (0 ∷ 2 ∷ (2 ^ 63 - 1) ∷ 2 ∷ 9 ∷ [])
    -- E12: key 7 put at version 2, removed at 4: absent, by the slots and by get, with the calls' index and with
    -- recovery's
    ∷ row (call_answers empty_set removal) (0 ∷ 1 ∷ 1 ∷ 0 ∷ 2 ∷ 2 ∷ 0 ∷ 3 ∷ 3 ∷ 0 ∷ 1 ∷ 4 ∷ [])
    ∷ row (held (map_of (table_of 1 removed_set.image) 3 7)) (1 ∷ [])
    ∷ row (call_answers removed_set get7 ++ call_answers (recovered_set removed_set.image) get7) (1 ∷ 1 ∷ [])
    -- document 02, A.11: "format is told which to write"; "32 when format is asked for a layout other than 1 or 2,
    -- after 1"
    ∷ row (format_numbers (format_result 2 (replicate 384 9))) ((0 ∷ 2 ∷ 2 ∷ replicate 7 0) ++ (2 ∷ replicate 375 0))
    ∷ row (format_numbers (format_result 0 (replicate 384 9))) (2 ∷ 32 ∷ replicate 384 9)
    ∷ row (format_numbers (format_result 3 (replicate 384 9))) (2 ∷ 32 ∷ replicate 384 9)
    ∷ row (format_numbers (format_result 3 (replicate 383 9))) (2 ∷ 1 ∷ replicate 383 9)
    -- "the key in words 1 and 2 of line A, the kind word in word 3, and a value .. from word 4 on": a value of 25 bytes
    ∷ row (values (record_stores 2 (words []) 1 key_b 1 0 (replicate 24 0 ++ (5 ∷ [])) 4))
    (1 ∷ 7 ∷ 2 ∷ 6401 ∷ 0 ∷ 0 ∷ 0 ∷ 9 ∷ 1 ∷ 5 ∷ 0 ∷ 0 ∷ 0 ∷ 0 ∷ 0 ∷ 9 ∷ [])
    -- "a value of at most 72 bytes"; two keys with one low word are two
    ∷ row (answers_in 2 second_set
    (write Insert key_a (replicate 72 5) ∷ write Replace key_a (replicate 73 5) ∷ write Insert key_b [] ∷ write Insert key_a [] ∷ []))
    (0 ∷ 1 ∷ 1 ∷ 2 ∷ 10 ∷ 0 ∷ 2 ∷ 2 ∷ 2 ∷ 20 ∷ [])
    ∷ row (answers_in 2 second_set (write Insert key_a (replicate 72 5) ∷ get key_a (replicate 72 0) ∷ get key_b [] ∷ remove key_b ∷ remove key_a ∷ []))
    (0 ∷ 1 ∷ 1 ∷ 0 ∷ 72 ∷ 1 ∷ 1 ∷ 0 ∷ 2 ∷ 2 ∷ [])
    -- "Its head is word 1 mod B"
    ∷ row (head_of (key_with 6 1) 3 ∷ []) (0 ∷ [])
    -- "Each layout has its own calls .. which give 3 on the other's images"
    ∷ row (call_answers second_set (write Insert 7 [] ∷ remove 7 ∷ get 7 [] ∷ [])) (2 ∷ 3 ∷ 2 ∷ 3 ∷ 2 ∷ 3 ∷ [])
    ∷ row (answers_in 2 empty_set (write Insert key_a [] ∷ remove key_a ∷ get key_a [] ∷ [])) (2 ∷ 3 ∷ 2 ∷ 3 ∷ 2 ∷ 3 ∷ [])
    ∷ []

-- ---- the test

-- are the lists the same?
unfoldable pub equal : (xs ys : List ℕ) → Bool
equal [] [] = true
equal [] (y ∷ ys) = false
equal (x ∷ xs) [] = false
equal (x ∷ xs) (y ∷ ys) = eqb x y && equal xs ys

-- are the two lists of each row the same?
unfoldable pub agree : List Example → Bool
agree [] = true
agree (e ∷ es) = equal e.got e.want && agree es
