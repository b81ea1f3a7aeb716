-- Get. Document 01, "What each operation may say no to", Get.
use Rattle.std.specs.Prelude.{List, [], ◌∷◌, ◌++◌, ℕ, ◌+◌, ltb, length, drop}
use Rattle.words.specs.Word.{word}
use Rattle.prelude.specs.Refusal.{refuse_if, or_else, unless_refused}
use Rattle.prelude.specs.Answer.{Answer, gives, absent, refused}
use Rattle.layout.specs.Line.{line_a, line_b}
use Rattle.layout.specs.Record.{length_of, limit, value_of}
use Rattle.layout.specs.Header.{lent_fault}
use Rattle.index.specs.Walk.{search}
use Rattle.index.specs.declared.Found.{Found}
use Rattle.index.specs.declared.Found.TheVariants.{At, Missing, BadChain}
use Rattle.calls.specs.Result.{ReadOnlyResult}
use Rattle.calls.specs.Compared.{key_compared}
use Rattle.calls.specs.declared.GetAnswer.{GetAnswer}
use Rattle.calls.specs.declared.Got.{Got}
use Rattle.calls.specs.declared.Got.TheVariants.{Length, Absent, Refused}

unfoldable pub get_says : Got → Answer
get_says (Length n) = gives (n ∷ [])
get_says Absent = absent
get_says (Refused number) = refused number

-- what a call of get with this answer left
abbrev pub get_end : GetAnswer → (out : List ℕ) → ReadOnlyResult
get_end r out = record { answer = get_says r.got; out = out; compared = r.compared }

-- the length of the value in slot s
abbrev pub slot_length : (l : ℕ) → (image : List ℕ) → ℕ → ℕ
slot_length l image s = length_of (line_a (word image) s (l + 1))

-- "23 when .. the length is .. over 80" (document 02, A.5: "Get's length refusal becomes 23 too"); "13 when the lent
-- output is shorter than the value"
unfoldable pub length_fault : (l n size : ℕ) → ℕ
length_fault l n size = refuse_if (ltb (limit l) n) 23 (refuse_if (ltb size n) 13 0)

-- "11 (chain); then the plain answer absent"; then 23 and 13
unfoldable pub get_later_fault : (l : ℕ) → (image : List ℕ) → (size : ℕ) → Found → ℕ
get_later_fault l image size (At slot prev compared) = length_fault l (slot_length l image slot) size
get_later_fault l image size (Missing prev compared) = 0
get_later_fault l image size BadChain = 11

unfoldable pub get_fault : (l : ℕ) → (image heads next : List ℕ) → (key size : ℕ) → ℕ
get_fault l image heads next key size =
    or_else (lent_fault l image (length heads) (length next)) (get_later_fault l image size (search l image heads next key))

-- "Otherwise the length is answered, the value fills the front of the output and the bytes after it keep what they had"
unfoldable pub get_done : (l : ℕ) → (image out : List ℕ) → (compared : ℕ) → Found → ReadOnlyResult
get_done l image out compared (At slot prev count) =
    record {
      answer = gives (slot_length l image slot ∷ []);
      out = value_of l (line_a (word image) slot) (line_b (word image) slot) ++ drop (slot_length l image slot) out;
      compared = compared;
    }
get_done l image out compared (Missing prev count) = record { answer = absent; out = out; compared = compared }
get_done l image out compared BadChain = record { answer = refused 11; out = out; compared = compared }

unfoldable pub get_result : (l : ℕ) → (image heads next : List ℕ) → (key : ℕ) → (out : List ℕ) → ReadOnlyResult
get_result l image heads next key out =
    unless_refused (get_fault l image heads next key (length out))
    (get_done l image out (key_compared l image heads next key) (search l image heads next key))
    (record { answer = refused (get_fault l image heads next key (length out)); out = out; compared = key_compared l image heads next key })
