-- The reuse chain as a list: an older record stands before a remove of its key. Document 01, "Traps": "Queueing a
-- remove record before the record it hides: the withdrawn order returns." Broken slots stand before all others.
-- Document 02, A.6: "A broken slot is always reused first".
use Rattle.std.specs.Prelude.{◌≡◌, true, List, [], ◌∷◌, ℕ}
use Rattle.layout.specs.Content.{highest_whole_in, Table}
use Rattle.prelude.specs.Members.{In}
use Rattle.table.specs.Table.{is_record, is_broken}
use Rattle.table.specs.Takeable.{highest_valid, is_remove, older}

-- where a slot is broken, so is every one before it: the broken slots are the first ones
abbrev pub BrokenFirst : Table → List ℕ → Type 0
BrokenFirst f [] = Unit
BrokenFirst f (x ∷ l) = ((t : ℕ) → In t l → is_broken (f t) ≡ true → is_broken (f x) ≡ true) × BrokenFirst f l

-- document 02, A.7: no older valid record of its key stands after a remove record
abbrev pub OlderFirst : Table → List ℕ → Type 0
OlderFirst f [] = Unit
OlderFirst f (x ∷ l) = ((t : ℕ) → In t l → is_remove (f x) ≡ true → older f x t ≡ true → ⊥) × OlderFirst f l

-- a slot of the highest valid version is the first only where all are of it
abbrev pub HighestLast : Table → (n : ℕ) → List ℕ → Type 0
HighestLast f n [] = Unit
HighestLast f n (x ∷ l) =
    is_record (f x) ≡ true → highest_whole_in (f x) ≡ highest_valid f n → (t : ℕ) → In t l
    → (is_record (f t) ≡ true) × (highest_whole_in (f t) ≡ highest_valid f n)
