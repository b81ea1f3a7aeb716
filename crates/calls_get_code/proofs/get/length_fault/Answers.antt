-- Answers of `calls_get_code::get::length_fault`.
use borrow.Author.Rules.{rules}
use Rattle.calls.proofs.Lookups.{too_long, too_small, length_fits}
use Rattle.calls_get_code.proofs.get.length_fault.Goals as goal

pub returns-then-value_limit-n : goal.returns-then-value_limit-n
returns-then-value_limit-n c =
    search too_long

pub returns-then-size-n : goal.returns-then-size-n
returns-then-size-n c =
    search too_small

pub returns : goal.returns
returns c =
    search length_fits
