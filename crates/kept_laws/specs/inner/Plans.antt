-- The plan of an append as a number and what holds where that is 0: the refusal, and a plan that is ready.
use Rattle.std.specs.Prelude.{◌≡◌, List, ℕ}
use Rattle.message_log.specs.Append.{append_fault}
use Rattle.message_log.specs.AppendAfter.{append_after_fault}
use Rattle.message_log.specs.inner.Needs.{AppendReady, AppendAfterReady}

-- an append
pub record AppendPlanned (area message : List ℕ) (ats vals fault number cell pairs count : ℕ) : Type 0 where
  pub refusal : fault ≡ append_fault area message ats vals
  pub ready : fault ≡ 0 → AppendReady area message ats vals number cell pairs count

-- an append after this number
pub record AppendAfterPlanned (area : List ℕ) (last : ℕ) (message : List ℕ) (ats vals fault number cell pairs count : ℕ) : Type 0 where
  pub refusal : fault ≡ append_after_fault area last message ats vals
  pub ready : fault ≡ 0 → AppendAfterReady area last message ats vals number cell pairs count
