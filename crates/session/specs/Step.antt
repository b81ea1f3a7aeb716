-- One line of the session is carried out. Document 01, "The trial session".
use Rattle.std.specs.Prelude.{Some, None, List, ◌++◌, ℕ, ◌+◌, ◌*◌, ltb, length, take, drop, replicate}
use Rattle.words.specs.Word.{word, set_word}
use Rattle.prelude.specs.Refusal.{refuse_if, or_else, unless_refused}
use Rattle.prelude.specs.Answer.{Answer, gives, absent, refused}
use Rattle.interface.specs.Set.{Store, word_numbers, values, State, no_state, stores_in, recover_result, FormatResult, format_result, Mode, Insert, Replace}
use Rattle.interface.specs.Set.{write_result, remove_result, get_result, locate_result, playing, play_list_result, Recovery, CallResult, ReadOnlyResult}
use Rattle.interface.specs.Set.{index_of}
use Rattle.text.specs.Output.{Printed, ok, found, cut, not_held, no}
use Rattle.text.specs.declared.Line.{Line}
use Rattle.text.specs.declared.Line.TheVariants.{New, Write, Remove, Get, Cut, Bad}
use Rattle.session.specs.Waiting.{Waiting}
use Rattle.session.specs.declared.Session.{Session}

-- the answer, the session after it, and the lent image and index
pub record StepResult : Type 0 where
  pub answer : Printed
  pub session : Session
  pub image : List ℕ
  pub heads : List ℕ
  pub next : List ℕ

-- the result with these parts
abbrev pub leaves : Printed → Session → (image heads next : List ℕ) → StepResult
leaves p s image heads next = record { answer = p; session = s; image = image; heads = heads; next = next }

-- before an accepted n: no slots, and no cut waits
unfoldable pub no_set : Session
no_set = record { n = 0; state = no_state; waiting = None }

-- ---- refusals

-- "16 is a line not of these forms or with a number past 64 bits"
unfoldable pub form_fault : Line → ℕ
form_fault (New n) = 0
form_fault (Write key word) = 0
form_fault (Remove key) = 0
form_fault (Get key) = 0
form_fault (Cut a b) = 0
form_fault Bad = 16

-- the slots that a line is carried out with: those of a new set, or of the set there is
unfoldable pub slots_for : Line → Session → ℕ
slots_for (New n) s = n
slots_for (Write key word) s = s.n
slots_for (Remove key) s = s.n
slots_for (Get key) s = s.n
slots_for (Cut a b) s = s.n
slots_for Bad s = s.n

-- "any other line before an accepted n, or n out of range, gives 1"; so does an image or an index that is too short for
-- n slots and one head
unfoldable pub size_fault : (n image heads next : ℕ) → ℕ
size_fault n image heads next =
    refuse_if (ltb n 2) 1
    (refuse_if (ltb 511 n) 1 (refuse_if (ltb image (128 * (n + 1))) 1 (refuse_if (ltb heads 1) 1 (refuse_if (ltb next (n + 1)) 1 0))))

-- "`no 14` for a count above 8"
unfoldable pub count_fault : (a b : ℕ) → ℕ
count_fault a b = refuse_if (ltb 8 a) 14 (refuse_if (ltb 8 b) 14 0)

-- of a line: only c has counts
unfoldable pub cut_fault : Line → ℕ
cut_fault (New n) = 0
cut_fault (Write key word) = 0
cut_fault (Remove key) = 0
cut_fault (Get key) = 0
cut_fault (Cut a b) = count_fault a b
cut_fault Bad = 0

-- 16 "tested first", then 1, then 14; image, heads and next are lengths
unfoldable pub line_fault : Line → Session → (image heads next : ℕ) → ℕ
line_fault line s image heads next =
    or_else (form_fault line) (or_else (size_fault (slots_for line s) image heads next) (cut_fault line))

-- ---- play of a list

-- the image that it leaves
unfoldable pub played_all : (image : List ℕ) → List Store → List ℕ
played_all image stores = (play_list_result image (word_numbers stores) (values stores)).bytes

-- ---- recovery, after which the session goes on; no cut waits any more

-- p is what the line prints. Where recovery refuses an image there is no set any more (it answers no absent)
unfoldable pub recovered_as : (p : Printed) → (n : ℕ) → (image heads next : List ℕ) → State → Answer → StepResult
recovered_as p n image heads next state (gives values) =
    leaves p (record { n = n; state = state; waiting = None }) image heads next
recovered_as p n image heads next state absent = leaves not_held no_set image heads next
recovered_as p n image heads next state (refused number) = leaves (no number) no_set image heads next

-- by recovery's result on this image. Document 02, A.7: its invalidating stores "are played and fenced before any other
-- call"
unfoldable pub recovered_by : (p : Printed) → (n : ℕ) → (image : List ℕ) → Recovery → StepResult
recovered_by p n image r =
    recovered_as p n (played_all image (stores_in r.invalidations)) r.index.heads r.index.next r.index.state r.answer

-- recovery of this image, with this index lent to it
unfoldable pub recover_step : (p : Printed) → (n : ℕ) → (image heads next : List ℕ) → StepResult
recover_step p n image heads next = recovered_by p n image (recover_result 1 image heads next)

-- ---- `n N` "formats and recovers": `ok N`. "A new n drops a waiting cut" (format answers no absent)

-- by format's answer: where that is N, recovery comes next, and the line prints `ok N`
unfoldable pub made_as : (n : ℕ) → Session → (image heads next : List ℕ) → Answer → StepResult
made_as n s image heads next (gives values) = recover_step (ok values) n image heads next
made_as n s image heads next absent = leaves not_held s image heads next
made_as n s image heads next (refused number) = leaves (no number) s image heads next

-- by format's result, with this index lent to recovery
unfoldable pub made_by : (n : ℕ) → Session → (heads next : List ℕ) → FormatResult → StepResult
made_by n s heads next r = made_as n s r.bytes heads next r.answer

-- n on an image of n slots
unfoldable pub make_step : (n : ℕ) → Session → (image heads next : List ℕ) → StepResult
make_step n s image heads next = made_by n s heads next (format_result 1 image)

-- ---- `p K W` and `r K`

-- "`ok slot version`". A waiting cut: "the next accepted p, or r that stores, plays only A and B stores, and recovery
-- runs"
unfoldable pub stored_with : (n : ℕ) → (values : List ℕ) → State → List Store → (image heads next : List ℕ) → Waiting → StepResult
stored_with n values state stores image heads next None =
    leaves (ok values) (record { n = n; state = state; waiting = None }) (played_all image stores) heads next
stored_with n values state stores image heads next (Some counts) =
    recover_step (ok values) n (playing image stores counts.a counts.b) heads next

-- by the answer of the call; "the same, or `absent`", or its refusal; after either of the last two a cut goes on
-- waiting
unfoldable pub changed_as : Session → State → List Store → (image heads next : List ℕ) → Answer → StepResult
changed_as s state stores image heads next (gives values) =
    stored_with s.n values state stores image heads next s.waiting
changed_as s state stores image heads next absent = leaves not_held s image heads next
changed_as s state stores image heads next (refused number) = leaves (no number) s image heads next

-- by the result of a call that writes on this image
unfoldable pub change_step : Session → (image : List ℕ) → CallResult → StepResult
change_step s image r = changed_as s r.index.state r.stores image r.index.heads r.index.next r.answer

-- "the 8-byte word W"
unfoldable pub word_bytes : (w : ℕ) → List ℕ
word_bytes w = set_word (replicate 8 0) 0 w

-- document 02, A.2: "The trial's p inserts or replaces according to what is held", by the answer of a locate; where
-- that refuses, so does an insert
unfoldable pub mode_by : Answer → Mode
mode_by (gives values) = Replace
mode_by absent = Insert
mode_by (refused number) = Insert

abbrev pub word_change : (key w : ℕ) → State → (image heads next : List ℕ) → CallResult
word_change key w state image heads next =
    write_result 1 image (index_of heads next state) (mode_by (locate_result 1 image heads next key).answer) key (word_bytes w)

unfoldable pub write_step : (key w : ℕ) → Session → (image heads next : List ℕ) → StepResult
write_step key w s image heads next = change_step s image (word_change key w s.state image heads next)

-- ---- `g K`: "`found W`, or `absent`"

-- by get's answer and the output that it left: W is the word at the output's front
unfoldable pub got_as : (out : List ℕ) → Answer → Printed
got_as out (gives values) = found (word out 0)
got_as out absent = not_held
got_as out (refused number) = no number

-- by get's result
unfoldable pub got_by : ReadOnlyResult → Printed
got_by r = got_as r.out r.answer

-- the word of the value, with 80 bytes of output
unfoldable pub word_found : (image heads next : List ℕ) → (key : ℕ) → Printed
word_found image heads next key = got_by (get_result 1 image heads next key (replicate 80 0))

-- ---- `c A B`: "`cut A B`"; "a later c replaces a waiting one"

-- the session with a cut of these counts waiting
unfoldable pub waiting_for : Session → (a b : ℕ) → Session
waiting_for s a b = record { n = s.n; state = s.state; waiting = Some (record { a = a; b = b }) }

-- ---- a line on an image and an index of the set's size

-- each line by its form; a Bad line is refused before it comes here
unfoldable pub line_step : Line → Session → (image heads next : List ℕ) → StepResult
line_step (New n) s image heads next = make_step n s image heads next
line_step (Write key w) s image heads next = write_step key w s image heads next
line_step (Remove key) s image heads next = change_step s image (remove_result 1 image (index_of heads next s.state) key)
line_step (Get key) s image heads next = leaves (word_found image heads next key) s image heads next
line_step (Cut a b) s image heads next = leaves (cut a b) (waiting_for s a b) image heads next
line_step Bad s image heads next = leaves (no 16) s image heads next

-- what follows the fronts that a step uses stays as it was
unfoldable pub followed_by : (image heads next : List ℕ) → StepResult → StepResult
followed_by image heads next r =
    leaves r.answer r.session (r.image ++ image) (r.heads ++ heads) (r.next ++ next)

-- the fronts are the image of m - 1 slots, one head and m numbers of next
unfoldable pub front_step : Line → Session → (m : ℕ) → (image heads next : List ℕ) → StepResult
front_step line s m image heads next =
    followed_by (drop (128 * m) image) (drop 1 heads) (drop m next)
    (line_step line s (take (128 * m) image) (take 1 heads) (take m next))

-- a refused line "changes nothing"
unfoldable pub step_result : Line → Session → (image heads next : List ℕ) → StepResult
step_result line s image heads next =
    unless_refused (line_fault line s (length image) (length heads) (length next))
    (front_step line s (slots_for line s + 1) image heads next)
    (leaves (no (line_fault line s (length image) (length heads) (length next))) s image heads next)
