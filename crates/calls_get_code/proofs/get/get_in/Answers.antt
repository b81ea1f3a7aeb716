-- Answers of `calls_get_code::get::get_in`.
use mathlib.Core.Path.{◌≡◌, refl, ap, ◌∙◌}
use mathlib.Core.List.{List}
use Prim.Native.Nat.{ℕ}
use native.Mathlib.Omega.{arith}
use borrow.Author.Rules.{rules}
use Rattle.prelude.specs.Answer.{Answer}
use Rattle.index.proofs.LookedUp.{allowed_at}
use Rattle.calls.specs.Compared.{key_compared}
use Rattle.calls.specs.Result.{ReadOnlyResult}
use Rattle.calls.specs.Moved.{get_moved}
use Rattle.calls.specs.Get.{get_says}
use Rattle.calls.proofs.Results.{refused_count, allowed_count, get_refused, get_held, get_not_held}
use Rattle.calls_get_code.proofs.get.get_in.Goals as goal

-- `calls_get_code::get::get_in` meets its contract. Assumes nothing.
-- the count of slots compared as the code finds it
compared-by : {answer : Answer} {out : List ℕ} {k k' : ℕ} {r : ReadOnlyResult} → k ≡ k' → record { answer = answer; out = out; compared = k' } ≡ r
    → record { answer = answer; out = out; compared = k } ≡ r
compared-by {answer = answer} {out = out} e h = ap (λ (x : ℕ). record { answer = answer; out = out; compared = x }) e ∙ h

pub slot_length-n-requires : goal.slot_length-n-requires
slot_length-n-requires c =
    (rw (allowed_at c.in-Accepted.is c.in-Held.is) at
    c.get_lookup-lookup.ensures.ready).0

pub copy_value-moved-requires : goal.copy_value-moved-requires
copy_value-moved-requires c =
    let ready = rw (allowed_at c.in-Accepted.is c.in-Held.is) at
    c.get_lookup-lookup.ensures.ready in
    (ready.0, omega (arith, c.slot_length-n.ensures.result, ready.1), omega (arith, c.slot_length-n.ensures.result, ready.2))

pub returns-in-Refused : goal.returns-in-Refused
unfolding get_says key_compared get_moved
returns-in-Refused c =
    record {
      result = (compared-by (refused_count c.get_lookup-lookup.ensures _ _ c.in-Refused.is)
          (get_refused _ _ _ _ _ _ _ c.get_lookup-lookup.ensures _ _ c.in-Refused.is));
      moved = (refl);
    }

pub returns-in-NotHeld : goal.returns-in-NotHeld
unfolding get_says key_compared get_moved
returns-in-NotHeld c =
    record {
      result = (compared-by (allowed_count c.get_lookup-lookup.ensures _ _ c.in-Accepted.is)
          (get_not_held _ _ _ _ _ _ _ c.get_lookup-lookup.ensures _ _ (allowed_at c.in-Accepted.is c.in-NotHeld.is)));
      moved = (refl);
    }

pub returns-in-Held : goal.returns-in-Held
unfolding get_says key_compared get_moved
returns-in-Held c =
    record {
      result = (compared-by (allowed_count c.get_lookup-lookup.ensures _ _ c.in-Accepted.is)
          (get_held _ _ _ _ _ _ _ c.get_lookup-lookup.ensures _ _ _ (allowed_at c.in-Accepted.is c.in-Held.is) _
          c.slot_length-n.ensures.result _
          c.copy_value-moved.ensures.result.1));
      moved = (c.copy_value-moved.ensures.result.0);
    }
