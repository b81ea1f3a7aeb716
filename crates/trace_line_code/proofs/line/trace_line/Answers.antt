-- Answers of `trace_line_code::line::trace_line`.
use mathlib.Core.List.{List}
use mathlib.Core.Path.{◌≡◌, refl}
use Prim.Native.Nat.{ℕ}
use Rattle.text.specs.Output.{nothing}
use Rattle.text.specs.declared.Line.{Line}
use Rattle.text.specs.declared.Line.TheVariants.{New, Write, Remove, Get, Cut, Bad}
use Rattle.session.specs.declared.Session.{Session}
use Rattle.trace.specs.Step.{line_counts}
use Rattle.trace.proofs.Steps.{silent_line}
use Rattle.trace_line_code.proofs.line.trace_line.Goals as goal

-- a line that stores nothing prints nothing
silent : (copy later : ℕ) (line : Line) (s : Session) (image heads next : List ℕ)
    → ((key word : ℕ) → line ≡ Write key word → ⊥) → ((key : ℕ) → line ≡ Remove key → ⊥)
    → line_counts copy later line s image heads next ≡ nothing
unfolding line_counts
silent copy later (New n) s image heads next no_write no_remove = refl
silent copy later (Write key word) s image heads next no_write no_remove = absurd (no_write key word refl)
silent copy later (Remove key) s image heads next no_write no_remove = absurd (no_remove key refl)
silent copy later (Get key) s image heads next no_write no_remove = refl
silent copy later (Cut a b) s image heads next no_write no_remove = refl
silent copy later Bad s image heads next no_write no_remove = refl

-- `trace_line_code::line::trace_line` meets its contract. Assumes nothing.
pub returns-in-Write : goal.returns-in-Write
returns-in-Write c =
    record { step = (rw c.in-Write.is c.trace_write.ensures.step) }

pub returns-in-Remove : goal.returns-in-Remove
returns-in-Remove c =
    record { step = (rw c.in-Remove.is c.trace_remove.ensures.step) }

pub returns-in_default : goal.returns-in_default
returns-in_default c =
    record {
      step = (silent_line _ _ _ _ _ _ _ _ _ refl
          (silent _ _ _ _ _ _ _ c.in_default.not-Write c.in_default.not-Remove) c.carry_silently.ensures.step);
    }
