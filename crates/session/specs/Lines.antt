-- The lines of a trial session as calls and events of the cut rule. Document 01, "The trial session".
use Rattle.std.specs.Prelude.{Some, None, Bool, cond, List, [], ◌∷◌, ℕ, ◌+◌, ◌*◌, take, replicate}
use Rattle.std.proofs.Math.Option.{Option, some, none}
use Rattle.words.specs.Word.{word}
use Rattle.prelude.specs.Answer.{Answer, gives, absent, refused}
use Rattle.interface.specs.Set.{Store, World, Mode, Insert, Replace, Call, write, remove, get, locate, call_result, PlainMap, is_held, half_counts, index_of}
use Rattle.interface.specs.Event.{Event, done, struck}
use Rattle.text.specs.Output.{Printed, ok, not_held, no}
use Rattle.session.specs.Step.{StepResult, word_bytes, got_as}
use Rattle.text.specs.declared.Line.{Line}
use Rattle.text.specs.declared.Line.TheVariants.{New, Write, Remove, Get, Cut, Bad}
use Rattle.session.specs.Waiting.{Waiting}
use Rattle.session.specs.declared.Session.{Session}

-- the set of a session: "formats and recovers with one head", so it is the fronts of the lent image and index for its n
-- slots and one head, with its state
unfoldable pub world_of : StepResult → World
world_of r =
    record {
      image = take (128 * (r.session.n + 1)) r.image;
      index = index_of (take 1 r.heads) (take (r.session.n + 1) r.next) r.session.state;
    }

-- the session of a set of n slots with this cut waiting
abbrev pub session_of : (n : ℕ) → World → Waiting → Session
session_of n w waiting = record { n = n; state = w.index.state; waiting = waiting }

-- "The trial's p inserts or replaces according to what is held" (document 02, A.2)
unfoldable pub mode_for : (held : Bool) → Mode
mode_for held = cond held Replace Insert

-- "`p K W` puts the 8-byte word W", "`r K` removes", "`g K`: `found W`", with 80 bytes of output; the other lines make
-- no call. m is the plain map before it
unfoldable pub call_in : PlainMap → Line → Option Call
call_in m (Write key word) = some (write (mode_for (is_held (m key))) key (word_bytes word))
call_in m (Remove key) = some (remove key)
call_in m (Get key) = some (get key (replicate 80 0))
call_in m (New n) = none
call_in m (Cut a b) = none
call_in m Bad = none

-- ---- the event that a call is

-- the counts strike a call that has stores; recovery is lent the index that the call left, and no cut comes among its
-- invalidating stores
unfoldable pub struck_with : Call → (a b : ℕ) → (heads next : List ℕ) → List Store → Event Call
struck_with call a b heads next [] = done call
struck_with call a b heads next (s ∷ ss) =
    struck call (record { counts = half_counts (s ∷ ss) a b; restart = record { rounds = []; lent = record { heads = heads; next = next } } })

-- "the next accepted p, or r that stores, plays only A and B stores, and recovery runs"
unfoldable pub event_in : World → Waiting → Call → Event Call
event_in w None call = done call
event_in w (Some counts) call =
    struck_with call counts.a counts.b (call_result 1 w call).index.heads (call_result 1 w call).index.next (call_result 1 w call).stores

-- the cut that waits after a call: one that has stores takes it
unfoldable pub waits_on : Waiting → List Store → Waiting
waits_on waiting [] = waiting
waits_on waiting (s ∷ ss) = None

-- ---- what a call's line prints

-- "`ok slot version`", "the same, or `absent`", and "A refusal prints `no` and its number"
unfoldable pub change_prints : Answer → Printed
change_prints (gives values) = ok values
change_prints absent = not_held
change_prints (refused number) = no number

-- by the call's answer and the output that it left: "`found W`" prints the word at the front of the output
unfoldable pub printed_for : Call → Answer → (out : List ℕ) → Printed
printed_for (write mode key value) answer out = change_prints answer
printed_for (remove key) answer out = change_prints answer
printed_for (get key lent) answer out = got_as out answer
printed_for (locate key) answer out = change_prints answer
