-- Answers of `stores_code::fault::half_fault`.
use borrow.Author.Rules.{rules}
use Rattle.stores.proofs.Plays.{half_start, half_room, half_order}
use Rattle.stores_code.proofs.fault.half_fault.Goals as goal

pub returns-then-first-ne0 : goal.returns-then-first-ne0
returns-then-first-ne0 c =
    search half_start

pub returns-then-len-first : goal.returns-then-len-first
returns-then-len-first c =
    search half_room

pub returns : goal.returns
returns c =
    search half_order
