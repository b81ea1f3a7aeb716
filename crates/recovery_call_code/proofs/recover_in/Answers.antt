-- Answers of `recovery_call_code::recover_in`.
use native.Mathlib.Omega.{arith}
use Rattle.std.proofs.Common.{refl, sym, ◌∙◌}
use Rattle.refusals.proofs.Numbers.{not_zero}
use Rattle.recovery.proofs.Recovers.{lent_refused, lent_ready, lent_few}
use Rattle.recovery_call_code.proofs.recover_in.Goals as goal

pub returns-in-Err : goal.returns-in-Err
returns-in-Err c =
    record {
      result =
          lent_refused _ _ _ _ _ _ _ (c.code.ensures.result ∙ c.in-Err.ensures.fault) (λ z. not_zero _ (sym c.code.ensures.result ∙ z))
          c.no_invalidations.ensures.result;
    }

pub recover_sized-requires : goal.recover_sized-requires
recover_sized-requires c =
    (lent_ready _ _ _ _ _ _ c.requires c.in-Ok.ensures.fault refl c.in-Ok.ensures.slots, omega arith, omega arith)

pub recover_sized-requires-in-64-to-255 : goal.recover_sized-requires-in-64-to-255
recover_sized-requires-in-64-to-255 c =
    (lent_ready _ _ _ _ _ _ c.requires c.in-Ok.ensures.fault refl c.in-Ok.ensures.slots, omega arith, omega arith)

pub recover_sized-requires-in-256-to-1023 : goal.recover_sized-requires-in-256-to-1023
recover_sized-requires-in-256-to-1023 c =
    (lent_ready _ _ _ _ _ _ c.requires c.in-Ok.ensures.fault refl c.in-Ok.ensures.slots, omega arith, omega arith)

pub recover_sized-requires-in-1024-to-4095 : goal.recover_sized-requires-in-1024-to-4095
recover_sized-requires-in-1024-to-4095 c =
    (lent_ready _ _ _ _ _ _ c.requires c.in-Ok.ensures.fault refl c.in-Ok.ensures.slots, omega arith, omega arith)

pub recover_sized-requires-in-4096-to-16383 : goal.recover_sized-requires-in-4096-to-16383
recover_sized-requires-in-4096-to-16383 c =
    (lent_ready _ _ _ _ _ _ c.requires c.in-Ok.ensures.fault refl c.in-Ok.ensures.slots, omega arith, omega arith)

pub recover_sized-requires-in_default : goal.recover_sized-requires-in_default
recover_sized-requires-in_default c = (
  lent_ready _ _ _ _ _ _ c.requires c.in-Ok.ensures.fault refl c.in-Ok.ensures.slots,
  lent_few _ c.args.image.now c.args.heads.now c.args.next.now _ _ c.in-Ok.ensures.fault
      refl c.in-Ok.ensures.slots,
  omega arith,
)
