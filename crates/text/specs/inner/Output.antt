-- What the functions that store a line leave.
use Rattle.std.specs.Prelude.{◌≡◌, List, [], ◌∷◌, ℕ, ◌+◌, length}
use Rattle.text.specs.declared.Reply.{Reply}
use Rattle.text.specs.declared.Reply.TheVariants.{Made, Stored, Found, Absent, Cut, Refused, Counted, Nothing}
use Rattle.text.specs.Output.{Printed, ok, found, not_held, cut, no, counted, nothing, written}

-- the printed form of each answer
unfoldable pub reply_says : Reply → Printed
reply_says (Made n) = ok (n ∷ [])
reply_says (Stored slot version) = ok (slot ∷ version ∷ [])
reply_says (Found word) = found word
reply_says Absent = not_held
reply_says (Cut a b) = cut a b
reply_says (Refused number) = no number
reply_says (Counted earlier later) = counted earlier later
reply_says Nothing = nothing

-- new is old with these bytes from position at on, and r is the position after them
pub record Wrote (old new : List ℕ) (at r : ℕ) (bytes : List ℕ) : Type 0 where
  pub output : new ≡ written old at bytes
  pub end : r ≡ at + length bytes
