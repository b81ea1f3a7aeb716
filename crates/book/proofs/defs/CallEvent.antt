-- The events of the set's calls that events of book steps come to.
use Prim.Native.Nat.{ℕ}
use Rattle.interface.specs.Set.{World, Call, PlainMap}
use Rattle.interface.specs.Event.{Event, done, struck}
use Rattle.book.specs.Steps.{Step}
use Rattle.book.specs.Plain.{call_for}

-- the event of the call that the step comes to, struck by the same cut
unfoldable pub call_event : (l : ℕ) → World → PlainMap → Event Step → Event Call
call_event l w m (done step) = done (call_for l w m step)
call_event l w m (struck step cut) = struck (call_for l w m step) cut
