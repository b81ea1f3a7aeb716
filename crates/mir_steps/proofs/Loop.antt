-- A loop that counts up to n, for a walk of MIR by hand.
--     Upto, Nearer     its variant: i with i ≤ n, ordered by what is left to count
--     next, nearer     one more, where i is below n
--     at-end           where i is not below n it is n
--     Turned           a turn's postcondition: it ends nearer to n, or the loop is left and the rest of the body runs
--     tests            the loop's test: where it holds the turn goes on, and where it fails the loop is left
-- `tests` assumes `Logic`.
use mathlib.Core.Path.{◌≡◌}
use mathlib.Core.Bool.{not}
use mathlib.Core.List.{List}
use Prim.Native.Nat.{ℕ, ◌+◌, ◌-◌, ◌≤◌, ◌<◌}
use native.Mathlib.Nat.{le_antisymm}
use native.Mathlib.Numerals.{add-one-le, add-one-dec}
use mathlib.Core.WellFounded.InvImage
use mathlib.Core.WellFounded.{WellFounded}
use lib.Dec.{T, ltb, ltb→lt, nltb→le}
use lib.WfN.{lt-wf_rel}
use seplogic.Ra.Ura.{Ura}
use mir.Syntax.{Opd as Operand, Body, seq, cond, skip, exit}
use mir.Val.{Val, vbool}
use base.Logic.{SProp}
use prog.Wp.{Out, Env, Calls, Loops, Tables, Wp, after_seq, after_block, after_turn, at_return, exits}
use types.Logic.{Logic}
use types.Kit.{Item, Post, post, prop, runs, Seq, ◌$◌}
use types.Run.{Opd, Below, first, branches, skips, jumps}

abbrev pub Upto : ℕ → Type 0
Upto n = (i : ℕ) × (i ≤ n)

abbrev pub Nearer : (n : ℕ) → Upto n → Upto n → Type 0
Nearer n j i = n - j.0 < n - i.0

pub nearer_wf : (n : ℕ) → WellFounded (Nearer n)
nearer_wf n = InvImage.wf (λ (i : Upto n). n - i.0) lt-wf_rel.wf

abbrev pub next : (n : ℕ) (i : Upto n) → i.0 < n → Upto n
next n i more = (i.0 + 1, add-one-le more)

pub nearer : (n : ℕ) (i : Upto n) (more : i.0 < n) → Nearer n (next n i more) i
nearer n i more = add-one-dec n i.0 more

pub at-end : (n : ℕ) (i : Upto n) → T (not (ltb i.0 n)) → i.0 ≡ n
at-end n i over = le_antisymm i.1 (nltb→le i.0 n over)

abbrev pub Turned : {M : Type 1} {𝓤 : Ura M} (𝓛 : Logic 𝓤) (𝓣 : Tables 𝓤 𝓛.H) (E : Env 𝓤 𝓛.H) → Body → (Val → SProp 𝓤) → (n : ℕ)
    → (Upto n → List (Item 𝓤)) → Upto n → Out → SProp 𝓤
Turned {𝓤 = 𝓤} 𝓛 𝓣 E rest Kf n At i =
    after_turn 𝓤 𝓛.H (Below 𝓛 (Nearer n) At i) (after_block 𝓤 𝓛.H (after_seq 𝓤 𝓛.H (Wp 𝓤 𝓛.H 𝓣.C 𝓣.Λ E rest (at_return 𝓤 𝓛.H E Kf)) (at_return 𝓤 𝓛.H E Kf)))

module _ {M : Type 1} {𝓤 : Ura M} {𝓛 : Logic 𝓤} {K : Type 0} {Γ : List (Item 𝓤)} {E : Env 𝓤 𝓛.H} {C : Calls 𝓤 𝓛.H} {Λ : Loops 𝓤 𝓛.H}
    {q : Post 𝓤 𝓛.H} where
  open 𝓛 use {H}

  pub tests : K → {c : Operand} {n : ℕ} {b : Body} {i m : ℕ} → Opd K 𝓛 Γ E c (vbool (ltb i m))
      → (i < m → Seq K 𝓛 Γ (runs C Λ E b q)) → (T (not (ltb i m)) → Seq K 𝓛 Γ (prop (post 𝓤 H q (exits n))))
      → Seq K 𝓛 Γ (runs C Λ E (seq (cond c skip (exit n)) b) q)
  tests t {i = i} {m = m} o held failed = first t $ branches t o (λ h. skips t $ record { prf = (held (ltb→lt i m h)).prf }) (λ h. jumps t $ failed h)
