-- The words that a call moves of a value. Document 02, A.3: "get and the two writing calls".
use Rattle.std.specs.Prelude.{ℕ}
use Rattle.layout.specs.Moved.{words_moved}
use Rattle.calls.specs.declared.Got.{Got}
use Rattle.calls.specs.declared.Got.TheVariants.{Length, Absent, Refused}
use Rattle.calls.specs.declared.Outcome.{Outcome}
use Rattle.calls.specs.declared.Outcome.TheVariants.{Stored, Absent as NotHeld, Refused as NotChanged}

-- get, by its answer: the words of the value that it puts into the output; none where it answers absent or is refused
unfoldable pub get_moved : Got → ℕ
get_moved (Length n) = words_moved n
get_moved Absent = 0
get_moved (Refused number) = 0

-- insert and replace, by the answer, for a value of this size: the words of the value that they put into the stores;
-- none where they are refused. They never answer absent. A remove has no value: it moves none
unfoldable pub write_moved : Outcome → (size : ℕ) → ℕ
write_moved (Stored slot version) size = words_moved size
write_moved NotHeld size = 0
write_moved (NotChanged number) size = 0
