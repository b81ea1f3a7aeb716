-- One line of a trace: the session's step, and the counts of the cuts of a call that stores. Document 02, A.9.
use Rattle.std.specs.Prelude.{List, ℕ, ◌+◌, ◌*◌, min, length, take}
use Rattle.prelude.specs.Refusal.{unless_refused}
use Rattle.prelude.specs.Answer.{Answer, gives, absent, refused}
use Rattle.interface.specs.Set.{Store, word_numbers, values, remove_result, cut_count_fault, earlier_count, later_count, CallResult, index_of}
use Rattle.text.specs.Output.{Printed, counted, nothing}
use Rattle.text.specs.declared.Line.{Line}
use Rattle.text.specs.declared.Line.TheVariants.{New, Write, Remove, Get, Cut, Bad}
use Rattle.session.specs.Step.{StepResult, leaves, slots_for, line_fault, word_change, step_result}
use Rattle.session.specs.declared.Session.{Session}

-- "in the trial's lines without c": a line with c is a line of none of the forms
unfoldable pub without_cut : Line → Line
without_cut (New n) = New n
without_cut (Write key word) = Write key word
without_cut (Remove key) = Remove key
without_cut (Get key) = Get key
without_cut (Cut a b) = Bad
without_cut Bad = Bad

-- ---- what a line prints; copy and later are the lengths of the two slices that `count_cuts` is lent

-- "try all 81 pairs of counts for its two lines, recover each, and print how many gave the earlier map and how many the
-- later"; what `count_cuts` refuses prints nothing
unfoldable pub tried_counts : (image : List ℕ) → List Store → (copy later : ℕ) → Printed
tried_counts image ss copy later =
    unless_refused (cut_count_fault 1 image (word_numbers ss) copy later)
    (counted (earlier_count 1 image (word_numbers ss) (values ss)) (later_count 1 image (word_numbers ss) (values ss)))
    nothing

-- "at every call that stores", by the answer of a call that writes: one that answers a slot has stores
unfoldable pub answer_counts : (image : List ℕ) → List Store → (copy later : ℕ) → Answer → Printed
answer_counts image ss copy later (gives given) = tried_counts image ss copy later
answer_counts image ss copy later absent = nothing
answer_counts image ss copy later (refused number) = nothing

-- by the result of a call that writes on this image
unfoldable pub change_counts : (image : List ℕ) → (copy later : ℕ) → CallResult → Printed
change_counts image copy later r = answer_counts image r.stores copy later r.answer

-- a line on an image and an index of the set's size: "all else prints nothing"
unfoldable pub line_counts : (copy later : ℕ) → Line → Session → (image heads next : List ℕ) → Printed
line_counts copy later (New n) s image heads next = nothing
line_counts copy later (Write key w) s image heads next = change_counts image copy later (word_change key w s.state image heads next)
line_counts copy later (Remove key) s image heads next = change_counts image copy later (remove_result 1 image (index_of heads next s.state) key)
line_counts copy later (Get key) s image heads next = nothing
line_counts copy later (Cut a b) s image heads next = nothing
line_counts copy later Bad s image heads next = nothing

-- the fronts of what is lent, as the session's step has them for m - 1 slots
unfoldable pub front_counts : (copy later : ℕ) → Line → Session → (m : ℕ) → (image heads next : List ℕ) → Printed
front_counts copy later line s m image heads next =
    line_counts (min (128 * m) copy) (min (128 * m) later) line s (take (128 * m) image) (take 1 heads) (take m next)

-- a refused line prints nothing
unfoldable pub counts_printed : (copy later : ℕ) → Line → Session → (image heads next : List ℕ) → Printed
counts_printed copy later line s image heads next =
    unless_refused (line_fault line s (length image) (length heads) (length next))
    (front_counts copy later line s (slots_for line s + 1) image heads next)
    nothing

-- ---- the step

-- the step r with p printed in place of its answer
unfoldable pub printing : Printed → StepResult → StepResult
printing p r = leaves p r.session r.image r.heads r.next

-- A LINE OF A TRACE is the session's step, and prints the counts
unfoldable pub trace_result : (copy later : ℕ) → Line → Session → (image heads next : List ℕ) → StepResult
trace_result copy later line s image heads next =
    printing (counts_printed copy later (without_cut line) s image heads next) (step_result (without_cut line) s image heads next)
