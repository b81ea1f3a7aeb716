-- What trying the cuts of a call on paper gives. Document 02, A.9: "A line must read `80 1`, or `81 81` for a replace
-- by an equal value".
use Rattle.std.specs.Prelude.{◌≡◌, Bool, false, cond, List, [], ◌∷◌, ℕ, length}
use Rattle.std.proofs.Math.Option.{some}
use Rattle.prelude.specs.Answer.{gives}
use Rattle.stores.specs.Play.{word_numbers, values}
use Rattle.cut_counts.specs.Maps.{same_value}
use Rattle.cut_counts.specs.CutCount.{cut_count_result}
use Rattle.plainmap.specs.World.{World, Call, write, remove, get, locate, call_result}
use Rattle.plainmap.specs.Plain.{PlainMap}
use Rattle.plainmap.specs.Claims.{Typed}

-- "a replace by an equal value": the key has the value already
unfoldable pub is_equal_replace : PlainMap → Call → Bool
is_equal_replace m (write mode key value) = same_value (m key) (some value)
is_equal_replace m (remove key) = false
is_equal_replace m (get key out) = false
is_equal_replace m (locate key) = false

-- how many of the 81 cuts of a call that stores leave the earlier map, and how many the later
unfoldable pub expected_counts : PlainMap → Call → List ℕ
expected_counts m call = cond (is_equal_replace m call) (81 ∷ 81 ∷ []) (80 ∷ 1 ∷ [])

-- what `count_cuts` answers of every call that stores, where Inv says that the index is the image's own and m its map,
-- and the two lent slices are as long as the image
abbrev pub CutsCounted : (l : ℕ) → (Inv : World → PlainMap → Type 0) → Type 0
CutsCounted l Inv =
    (w : World) (m : PlainMap) → Inv w m → (call : Call) → Typed l call → ((call_result l w call).stores ≡ [] → ⊥)
    → (copy later : List ℕ) → length copy ≡ length w.image → length later ≡ length w.image
    → (cut_count_result l w.image (word_numbers (call_result l w call).stores) (values (call_result l w call).stores) copy later).answer
    ≡ gives (expected_counts m call)
