-- Versions that slots share. Document 02, A.7: "Fault 7 is now for sharers of a version whose numbers differ, that are
-- more than their number (0 meaning one), or with a key twice."
use Rattle.std.specs.Prelude.{Bool, true, cond, ◌&&◌, ℕ, ◌-◌, eqb, ltb}
use Rattle.prelude.specs.Range.{any_of}
use Rattle.layout.specs.Content.{highest_whole_in, Table}
use Rattle.table.specs.Table.{is_record, key_in}
use Rattle.table.specs.Complete.{SizeFields, basket_size, has_version, sharers}

-- slot t shares the version of slot s, and their numbers differ or their keys do not
unfoldable pub clashes : Table → SizeFields → (s t : ℕ) → Bool
clashes f num s t = has_version f (highest_whole_in (f s)) t && cond (eqb (num s) (num t)) (eqb (key_in (f s)) (key_in (f t))) true

-- 7
unfoldable pub sharers_fault : Table → SizeFields → (n : ℕ) → Bool
sharers_fault f num n =
    any_of (λ s. is_record (f s) && cond (ltb (basket_size (num s)) (sharers f n (highest_whole_in (f s)))) true (any_of (clashes f num s) 1 (s - 1))) 1 n
