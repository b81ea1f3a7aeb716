-- Two machines over one list of events, the second of them the plain one: what holds before each event and after the
-- last, and what is right of each event.
use Rattle.std.specs.Prelude.{List, [], ◌∷◌}

module _ {S M E : Type 0}
    -- the machine after an event in s, and the plain machine m beside it after that event
    (next : S → E → S) (plainAfter : S → M → E → M)
    -- what holds before each event and after the last, and what is right of an event
    (Now : S → M → Type 0) (Right : S → M → E → Type 0) where
  -- from the machines s and m on: `Now` before each event of the list and after the last, and `Right` of each event
  abbrev pub Throughout : S → M → List E → Type 0
  Throughout s m [] = Now s m
  Throughout s m (event ∷ events) = Now s m × Right s m event × Throughout (next s event) (plainAfter s m event) events
