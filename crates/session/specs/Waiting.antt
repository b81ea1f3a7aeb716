-- What a session waits for: a cut, by its counts, or nothing.
use Rattle.std.specs.Prelude.{Option}
use Rattle.session.specs.declared.WaitingCut.{WaitingCut}

abbrev pub Waiting : Type 0
Waiting = Option WaitingCut
