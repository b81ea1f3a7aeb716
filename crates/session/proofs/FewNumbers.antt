-- No line of a session prints more than two numbers. Assumes nothing.
use mathlib.Core.Path.{◌≡◌, refl}
use mathlib.Core.List.{List}
use Prim.Native.Nat.{ℕ, ◌≤◌}
use native.Mathlib.Omega.{arith}
use lib.ListN.{length}
use Rattle.prelude.specs.Answer.{Answer, gives, absent, refused}
use Rattle.interface.specs.Set.{Store, State, Call, write, remove, call_result, FormatResult, format_result, index_of}
use Rattle.text.specs.Output.{Printed}
use Rattle.text.proofs.Storing.{FewNumbers}
use Rattle.session.specs.Step.{StepResult, recovered_as, recovered_by, recover_step, made_as, made_by, make_step, stored_with, changed_as, change_step}
use Rattle.session.specs.Step.{write_step, got_as, got_by, word_found, line_step, followed_by, front_step, step_result}
use Rattle.text.specs.declared.Line.{Line}
use Rattle.text.specs.declared.Line.TheVariants.{New, Write, Remove, Get, Cut, Bad}
use Rattle.session.specs.Waiting.{Waiting}
use Rattle.std.specs.Prelude.{Some, None}
use Rattle.session.specs.declared.Session.{Session}
use Rattle.prelude.proofs.Refusals.{by_refusal}
use Rattle.interface.proofs.SetLaws.{layout_1, call_laws}

-- ---- the calls

abbrev Few : Answer → Type 0
Few (gives values) = length values ≤ 2
Few absent = Unit
Few (refused number) = Unit

few_by : (answer : Answer) → ((given : List ℕ) → answer ≡ gives given → length given ≤ 2) → Few answer
few_by (gives given) h = h given refl
few_by absent h = tt
few_by (refused number) h = tt

-- ---- the steps

recovered_few : (p : Printed) (n : ℕ) (image heads next : List ℕ) (state : State) (answer : Answer) → FewNumbers p
    → FewNumbers (recovered_as p n image heads next state answer).answer
unfolding recovered_as
recovered_few p n image heads next state (gives values) few = few
recovered_few p n image heads next state absent few = tt
recovered_few p n image heads next state (refused number) few = tt

made_few : (n : ℕ) (s : Session) (image heads next : List ℕ) (answer : Answer) → Few answer
    → FewNumbers (made_as n s image heads next answer).answer
unfolding made_as recover_step recovered_by
made_few n s image heads next (gives values) few = recovered_few _ n _ _ _ _ _ few
made_few n s image heads next absent few = tt
made_few n s image heads next (refused number) few = tt

stored_few : (n : ℕ) (values : List ℕ) (state : State) (stores : List Store) (image heads next : List ℕ) (waiting : Waiting)
    → length values ≤ 2 → FewNumbers (stored_with n values state stores image heads next waiting).answer
unfolding stored_with recover_step recovered_by
stored_few n values state stores image heads next None few = few
stored_few n values state stores image heads next (Some counts) few = recovered_few _ n _ _ _ _ _ few

changed_few : (s : Session) (state : State) (stores : List Store) (image heads next : List ℕ) (answer : Answer) → Few answer
    → FewNumbers (changed_as s state stores image heads next answer).answer
unfolding changed_as
changed_few s state stores image heads next (gives values) few = stored_few s.n values state stores image heads next s.waiting few
changed_few s state stores image heads next absent few = tt
changed_few s state stores image heads next (refused number) few = tt

got_few : (out : List ℕ) (answer : Answer) → FewNumbers (got_as out answer)
unfolding got_as
got_few out (gives values) = tt
got_few out absent = tt
got_few out (refused number) = tt

-- a call on an image and an index of its set's size, by the interface of the set
call_few : (s : Session) (image heads next : List ℕ) (call : Call)
    → Few (call_result 1 (record { image = image; index = index_of heads next s.state }) call).answer
call_few s image heads next call = few_by _ ((call_laws 1 layout_1).few_values _ call)

line_few : (line : Line) (s : Session) (image heads next : List ℕ) → FewNumbers (line_step line s image heads next).answer
unfolding line_step make_step made_by format_result write_step change_step word_found got_by call_result
line_few (New n) s image heads next =
    made_few n s _ heads next _ (by_refusal (λ (r : FormatResult). Few r.answer) _ _ _ (omega arith) tt)
line_few (Write key w) s image heads next = changed_few s _ _ image _ _ _ (call_few s image heads next (write _ key _))
line_few (Remove key) s image heads next = changed_few s _ _ image _ _ _ (call_few s image heads next (remove key))
line_few (Get key) s image heads next = got_few _ _
line_few (Cut a b) s image heads next = tt
line_few Bad s image heads next = tt

pub step_few : (line : Line) (s : Session) (image heads next : List ℕ) → FewNumbers (step_result line s image heads next).answer
unfolding step_result front_step followed_by
step_few line s image heads next = by_refusal (λ (r : StepResult). FewNumbers r.answer) _ _ _ (line_few line s _ _ _) tt
