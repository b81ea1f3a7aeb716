-- Answers of `calls_get_code::get::get_later_fault`.
use borrow.Author.Rules.{rules}
use Rattle.calls.specs.Get.{get_later_fault}
use Rattle.calls.proofs.Lookups.{length_later}
use Rattle.calls_get_code.proofs.get.get_later_fault.Goals as goal

-- `calls_get_code::get::get_later_fault` meets its contract. Assumes nothing.
pub slot_length-requires : goal.slot_length-requires
slot_length-requires c =
    rw c.in-At.is at c.requires.1

pub length_fault-requires : goal.length_fault-requires
unfolding get_later_fault
length_fault-requires c =
    search rules

pub returns-in-At : goal.returns-in-At
unfolding get_later_fault
returns-in-At c =
    search length_later

pub returns-in-Missing : goal.returns-in-Missing
unfolding get_later_fault
returns-in-Missing c =
    search rules

pub returns-in-BadChain : goal.returns-in-BadChain
unfolding get_later_fault
returns-in-BadChain c =
    search rules
