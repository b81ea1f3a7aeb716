-- The number of a refusal.
use Rattle.std.specs.Prelude.{ℕ, Result, Ok, Err}
use Rattle.refusals.specs.declared.Refusal.{Refusal}
use Rattle.refusals.specs.declared.Refusal.TheVariants.{BadImageLength, NotFormatted, BadHeader, BadIndexLength}
use Rattle.refusals.specs.declared.Refusal.TheVariants.{BadMark, BadKindBits, VersionShared, NoSpareSlot, Exhausted}
use Rattle.refusals.specs.declared.Refusal.TheVariants.{ValueTooLong, IndexMismatch, BufferTooShort, CountTooHigh}
use Rattle.refusals.specs.declared.Refusal.TheVariants.{BadStores, BadLine, NewKeyExists, NoOrder, BadQuantity}
use Rattle.refusals.specs.declared.Refusal.TheVariants.{KeyExists, KeyMissing, BadKind, BadValueLength, BadTail}
use Rattle.refusals.specs.declared.Refusal.TheVariants.{TooManyBroken, BadBasket, KeyTwice, Full, BadMessage}
use Rattle.refusals.specs.declared.Refusal.TheVariants.{BadLogLength, NoMessage, BadLayout, BadLineLength}

-- "a refusal carries a number": each number below 34 but 12 is that of one refusal
abbrev pub code_of : Refusal → ℕ
code_of BadImageLength = 1
code_of NotFormatted = 2
code_of BadHeader = 3
code_of BadIndexLength = 4
code_of BadMark = 5
code_of BadKindBits = 6
code_of VersionShared = 7
code_of NoSpareSlot = 8
code_of Exhausted = 9
code_of ValueTooLong = 10
code_of IndexMismatch = 11
code_of BufferTooShort = 13
code_of CountTooHigh = 14
code_of BadStores = 15
code_of BadLine = 16
code_of NewKeyExists = 17
code_of NoOrder = 18
code_of BadQuantity = 19
code_of KeyExists = 20
code_of KeyMissing = 21
code_of BadKind = 22
code_of BadValueLength = 23
code_of BadTail = 24
code_of TooManyBroken = 25
code_of BadBasket = 26
code_of KeyTwice = 27
code_of Full = 28
code_of BadMessage = 29
code_of BadLogLength = 30
code_of NoMessage = 31
code_of BadLayout = 32
code_of BadLineLength = 33

-- the number of the refusal that a function gives, 0 where it gives none
abbrev pub fault_in : {A : Type 0} → Result A Refusal → ℕ
fault_in (Ok value) = 0
fault_in (Err refusal) = code_of refusal
