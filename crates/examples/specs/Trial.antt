-- Document 01's trial session as a list of events, with the answers that it gives there; in layout 2 they are the same.
use Rattle.std.specs.Prelude.{false, cond, List, [], ◌∷◌, ℕ, ◌%◌, eqb, replicate}
use Rattle.prelude.specs.Answer.{Answer, gives, absent, refused}
use Rattle.layout.specs.Record.{key_with}
use Rattle.calls.specs.Format.{formatted}
use Rattle.index.specs.declared.Mode.TheVariants.{Insert, Replace}
use Rattle.plainmap.specs.World.{World, Call, write, remove, get, call_result, Restart, restarted}
use Rattle.cut_rule.specs.Request.{Request, a_call}
use Rattle.interface.specs.Event.{Cut, Event, done, struck, request_of, step}

-- what each call of a list answers
unfoldable pub answers : (l : ℕ) → World → List (Event Call) → List Answer
answers l w [] = []
answers l w (event ∷ events) = (call_result l w (request_of event)).answer ∷ answers l (step l w event) events

-- and the output that each leaves; a get alone has one
unfoldable pub outputs : (l : ℕ) → World → List (Event Call) → List (List ℕ)
outputs l w [] = []
outputs l w (event ∷ events) = (call_result l w (request_of event)).out ∷ outputs l (step l w event) events

-- the 8 bytes of a small number
unfoldable pub small : ℕ → List ℕ
small n = n ∷ replicate 7 0

-- the heads lent to recovery: one head, with anything in it
unfoldable pub one_head : List ℕ
one_head = 9 ∷ []

-- and next for two slots
unfoldable pub two_slots : List ℕ
two_slots = 9 ∷ 9 ∷ 9 ∷ []

-- a recovery with one head and no cut among its invalidating stores
unfoldable pub recovering : (next : List ℕ) → Restart
recovering next = record { rounds = []; lent = record { heads = one_head; next = next } }

-- a cut that leaves a stores of line A and b of line B, and the recovery after it: line n of the image is line A of a
-- slot where n is even
unfoldable pub cut_at : (a b : ℕ) → (next : List ℕ) → Cut
cut_at a b next = record { counts = λ n. cond (eqb (n % 2) 0) a b; restart = recovering next }

-- "n 2": format and recover, in layout l
unfoldable pub fresh : (l : ℕ) → World
fresh l = restarted l (formatted l 384) (recovering two_slots)

-- "p 7 100 / p 8 5 / p 7 101 / c 8 3 / p 7 102 / g 7 / r 7 / g 7 / p 8 5", with these keys for 7 and 8
unfoldable pub session_with : (a b : ℕ) → List (Event Call)
session_with a b =
    done (write Insert a (small 100)) ∷ done (write Insert b (small 5)) ∷ done (write Replace a (small 101))
    ∷ struck (write Replace a (small 102)) (cut_at 8 3 two_slots)
    ∷ done (get a (replicate 8 0)) ∷ done (remove a) ∷ done (get a (replicate 8 0)) ∷ done (write Insert b (small 5)) ∷ []

abbrev pub session : List (Event Call)
session = session_with 7 8

-- of layout 2: the keys have two words, of which they share the low one
abbrev pub second_session : List (Event Call)
second_session = session_with (key_with 7 1) (key_with 7 2)

-- the same as requests of the cut rule
unfoldable pub as_requests : List (Event Call) → List (Event Request)
as_requests [] = []
as_requests (done call ∷ events) = done (a_call false call) ∷ as_requests events
as_requests (struck call cut ∷ events) = struck (a_call false call) cut ∷ as_requests events

-- "ok 1 1 / no 12 / ok 2 2 / cut 8 3 / ok 1 3 / found 101 / ok 1 4 / absent / ok 2 5", with 28 "in place of 12 .. in
-- the trial too" (document 02, A.7): `c 8 3` is no call, and for `found` a get answers the length
unfoldable pub expected : List Answer
expected =
    gives (1 ∷ 1 ∷ []) ∷ refused 28 ∷ gives (2 ∷ 2 ∷ []) ∷ gives (1 ∷ 3 ∷ []) ∷ gives (8 ∷ []) ∷ gives (1 ∷ 4 ∷ []) ∷ absent
    ∷ gives (2 ∷ 5 ∷ []) ∷ []

-- `found 101`: the output of the first get; absent leaves that of the second as it was
unfoldable pub expected_outputs : List (List ℕ)
expected_outputs = [] ∷ [] ∷ [] ∷ [] ∷ small 101 ∷ [] ∷ replicate 8 0 ∷ [] ∷ []
