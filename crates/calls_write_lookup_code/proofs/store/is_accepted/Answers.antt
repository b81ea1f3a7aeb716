-- Answers of `calls_write_lookup_code::store::is_accepted`.
use mathlib.Core.Path.{refl, sym, ◌∙◌}
use Rattle.refusals.proofs.Numbers.{no_error}
use Rattle.allocation.specs.Allocation.{allocation_by}
use Rattle.index.proofs.Faults.{reusable}
use Rattle.calls.proofs.Lookups.{store_version}
use Rattle.calls_write_lookup_code.proofs.store.is_accepted.Goals as goal

pub is_own_open-requires : goal.is_own_open-requires
is_own_open-requires c =
    let ends = reusable _ _ _ (sym c.ends_fault.ensures.result ∙ c.if-ends_fault-ne0.false) in
    (c.requires, ends.first_low, ends.first_high)

pub returns-then-own : goal.returns-then-own
unfolding allocation_by
returns-then-own c =
    record {
      result = (λ e.
          rw c.if-own.true
          (sym
          (store_version _ _ c.args.state _ _ _ c.ends_fault.ensures.result c.if-ends_fault-ne0.false c.if-state-removes.false _
          (sym (c.is_own_open.ensures.result e)) refl _ c.live_fault.ensures.result c.if-live_fault-ne0.false _
          (c.check_version.ensures.result))
          ∙ no_error _ (sym c.is_err.ensures.value ∙ c.if-is_err.false)));
    }
