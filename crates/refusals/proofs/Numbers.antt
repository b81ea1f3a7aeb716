-- A refusal has a number above 0, and what a `?` hands on.
use Rattle.std.specs.Prelude.{◌≡◌, ℕ, ◌<◌, Result, Ok, Err, Bool, false}
use Rattle.std.specs.Result.{IsErrAnd, is_err}
use Rattle.std.proofs.Common.{arith, refl}
use mathlib.Core.Bool.{true≢false}
use Rattle.refusals.specs.declared.Refusal.{Refusal}
use Rattle.refusals.specs.declared.Refusal.TheVariants.{BadImageLength, NotFormatted, BadHeader, BadIndexLength}
use Rattle.refusals.specs.declared.Refusal.TheVariants.{BadMark, BadKindBits, VersionShared, NoSpareSlot, Exhausted}
use Rattle.refusals.specs.declared.Refusal.TheVariants.{ValueTooLong, IndexMismatch, BufferTooShort, CountTooHigh}
use Rattle.refusals.specs.declared.Refusal.TheVariants.{BadStores, BadLine, NewKeyExists, NoOrder, BadQuantity}
use Rattle.refusals.specs.declared.Refusal.TheVariants.{KeyExists, KeyMissing, BadKind, BadValueLength, BadTail}
use Rattle.refusals.specs.declared.Refusal.TheVariants.{TooManyBroken, BadBasket, KeyTwice, Full, BadMessage}
use Rattle.refusals.specs.declared.Refusal.TheVariants.{BadLogLength, NoMessage, BadLayout, BadLineLength}
use Rattle.refusals.specs.Number.{code_of, fault_in}

pub number_above : (r : Refusal) → 0 < code_of r
number_above BadImageLength = omega arith
number_above NotFormatted = omega arith
number_above BadHeader = omega arith
number_above BadIndexLength = omega arith
number_above BadMark = omega arith
number_above BadKindBits = omega arith
number_above VersionShared = omega arith
number_above NoSpareSlot = omega arith
number_above Exhausted = omega arith
number_above ValueTooLong = omega arith
number_above IndexMismatch = omega arith
number_above BufferTooShort = omega arith
number_above CountTooHigh = omega arith
number_above BadStores = omega arith
number_above BadLine = omega arith
number_above NewKeyExists = omega arith
number_above NoOrder = omega arith
number_above BadQuantity = omega arith
number_above KeyExists = omega arith
number_above KeyMissing = omega arith
number_above BadKind = omega arith
number_above BadValueLength = omega arith
number_above BadTail = omega arith
number_above TooManyBroken = omega arith
number_above BadBasket = omega arith
number_above KeyTwice = omega arith
number_above Full = omega arith
number_above BadMessage = omega arith
number_above BadLogLength = omega arith
number_above NoMessage = omega arith
number_above BadLayout = omega arith
number_above BadLineLength = omega arith

pub not_zero : (r : Refusal) → code_of r ≡ 0 → ⊥
not_zero r z = let above = number_above r in omega arith

-- what a function answers that hands on the refusal e by `?`
pub handed_on : {A : Type 0} (e : Refusal) (r : Result A Refusal) → IsErrAnd r (λ y. y ≡ e) → fault_in r ≡ code_of e
handed_on e (Ok value) h = absurd h
handed_on e (Err refusal) h = rw h refl

-- no error has no number
pub no_error : {A : Type 0} (r : Result A Refusal) → is_err r ≡ false → fault_in r ≡ 0
no_error (Ok value) e = refl
no_error (Err refusal) e = absurd (true≢false e)
