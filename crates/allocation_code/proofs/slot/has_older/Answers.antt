-- Answers of `allocation_code::slot::has_older`.
use mathlib.Core.Path.{refl, ◌≡◌, ◌∙◌}
use mathlib.Core.Bool.{true, false}
use Prim.Native.Nat.{◌+◌}
use native.Mathlib.Omega.{arith}
use borrow.Author.Rules.{rules}
use Rattle.std.specs.List.{range_with_len}
use Rattle.std.proofs.lemmas.Iterator.{cases_from_any, YieldsList-from_range}
use Rattle.prelude.proofs.Any.{any_listed}
use Rattle.layout.specs.Content.{contents_of}
use Rattle.layout.specs.Record.{key_with}
use Rattle.allocation.specs.inner.Takeable.{older_than}
use Rattle.allocation.proofs.Tested.{any_by_cases}
use Rattle.allocation_code.proofs.slot.has_older.Goals as goal

pub returns : goal.returns
returns c =
    let p = older_than (contents_of c.args.l c.args.image.now) (key_with c.args.low c.args.high) c.args.version in
    any_by_cases p (range_with_len 1 c.args.n) _
    (cases_from_any _ _ _ (λ t. p t ≡ true) (λ t. p t ≡ false) c.any.ensures.ran (YieldsList-from_range 1 (c.args.n + 1) c.args.n refl (omega arith))
    (λ t q k. search rules) (λ t q k. search rules))
    ∙ any_listed p 1 c.args.n
