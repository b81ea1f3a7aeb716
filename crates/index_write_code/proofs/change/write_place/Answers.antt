-- Answers of `index_write_code::change::write_place`.
use Rattle.index.specs.inner.Parts.{write_at, live_at}
use Rattle.index_write_code.proofs.change.write_place.Goals as goal

pub returns-in-Held : goal.returns-in-Held
unfolding write_at live_at
returns-in-Held c =
    record { result = (rw c.in-Held.is c.replace_held.ensures) }

pub returns-in-NotHeld : goal.returns-in-NotHeld
unfolding write_at live_at
returns-in-NotHeld c =
    record { result = (rw c.in-NotHeld.is c.insert_new.ensures) }
