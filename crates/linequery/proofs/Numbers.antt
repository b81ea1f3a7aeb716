-- The numbers of the queries. Assumes nothing.
use mathlib.Core.Path.{◌≡◌, refl}
use mathlib.Core.Bool.{true}
use mathlib.Core.List.{List}
use Prim.Native.Nat.{ℕ}
use Rattle.prelude.specs.Numbers.{ZeroOrOneOf}
use Rattle.prelude.proofs.defs.Among.{is_one}
use Rattle.prelude.proofs.Numbers.{none_due, one_due, else_due}
use Rattle.layout.specs.Line.{version_fault}
use Rattle.linequery.specs.Query.{slice_fault, next_fault, queried, whole_query, version_query, first_query, last_query}
use Rattle.linequery.specs.Numbers.{line_refusals, next_refusals, QueryNumbers}

slices_due : (ks : List ℕ) → is_one 33 ks ≡ true → (line answer : ℕ) → ZeroOrOneOf ks (slice_fault line answer)
unfolding slice_fault
slices_due ks short line answer = one_due ks _ 33 _ short (one_due ks _ 33 0 short (none_due ks))

next_due : (line answer version : ℕ) → ZeroOrOneOf next_refusals (next_fault line answer version)
unfolding next_fault version_fault
next_due line answer version =
    else_due next_refusals _ _ (slices_due next_refusals refl line answer) (one_due next_refusals _ 9 0 refl (none_due next_refusals))

-- THE NUMBERS of the queries
pub query_numbers : QueryNumbers
unfolding whole_query version_query first_query last_query queried
query_numbers =
    record {
      whole = λ line lent. slices_due line_refusals refl _ _;
      version = λ line lent. slices_due line_refusals refl _ _;
      first = λ version line lent. next_due _ _ version;
      last = λ version line lent. next_due _ _ version;
    }
