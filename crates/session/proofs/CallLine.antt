-- A line that makes a call: it is an event of the cut rule, and its answer is right by the plain map. Assumes nothing.
use mathlib.Core.Path.{◌≡◌, ◌∙◌}
use mathlib.Core.Option.{some}
use mathlib.Core.List.{List, [], ◌∷◌}
use Prim.Native.Nat.{ℕ, ◌+◌, ◌*◌}
use lib.ListN.{take}
use Rattle.interface.specs.Set.{Store, World, Call, call_result, slots_in, PlainMap, Typed, CallCorrect}
use Rattle.interface.specs.Event.{Event, step, map_after_event, Fits}
use Rattle.interface.specs.Laws.{SetLaws}
use Rattle.session.specs.Step.{StepResult, slots_for, line_step}
use Rattle.session.specs.Stream.{step_after}
use Rattle.text.specs.declared.Line.{Line}
use Rattle.session.specs.Waiting.{Waiting}
use Rattle.session.specs.Lines.{world_of, call_in, event_in, waits_on}
use Rattle.session.specs.Rule.{fault_at, plain_prints, map_by_line, map_after, FewWait, none_waits, LineCorrect, call_line}
use Rattle.session.proofs.defs.Keeps.{SetKeeps, Keeps}
use Rattle.session.proofs.Sizes.{OneHead, one-head}
use Rattle.session.proofs.Events.{event_heads, event_fits}
use Rattle.session.proofs.Prints.{right_prints}
use Rattle.session.proofs.CallEvents.{Carried}
use Rattle.session.proofs.Fronts.{heads_front, slots_front, line_leaves}

still_few : (waiting : Waiting) (ss : List Store) → FewWait waiting → FewWait (waits_on waiting ss)
unfolding waits_on
still_few waiting [] f = f
still_few waiting (s ∷ ss) f = none_waits

module _ (Inv : World → PlainMap → Type 0) (laws : SetLaws 1 Inv) (r : StepResult) (m : PlainMap) (k : SetKeeps Inv r m) (call : Call) (fine : Typed 1 call)
  where
    abbrev n : ℕ
    n = r.session.n

    abbrev w : World
    w = world_of r

    abbrev event : Event Call
    event = event_in w r.session.waiting call

    abbrev map : PlainMap
    map = map_after_event 1 w m event

    right : CallCorrect 1 w m call
    right = laws.answers w m k.set call fine

    fits : Fits 1 (slots_in w.image) event
    fits = event_fits Inv laws w call m k.set fine r.session.waiting

    after : Inv (step 1 w event) map
    after = laws.keeps w m k.set event fits

    sizes : OneHead n (step 1 w event)
    unfolding world_of
    sizes =
        one-head Inv laws n (step 1 w event) map after (laws.keeps_slots w m k.set event fits ∙ slots_front r n k.size Inv laws)
        (event_heads Inv laws w call r.session.waiting ∙ heads_front r n k.size)

    pub call_goes : (line : Line) → fault_at r line ≡ 0 → slots_for line r.session ≡ n → call_in m line ≡ some call
        → map_by_line w r.session.waiting m line ≡ map
        → Carried n r.session.waiting w call
        (line_step line r.session (take (128 * (n + 1)) r.image) (take 1 r.heads) (take (n + 1) r.next))
        → LineCorrect r m line × Keeps Inv (step_after r line) (map_after r m line)
    call_goes line z same e f c =
        let l = line_leaves r m line n same z Inv (plain_prints w m call) (step 1 w event) _ map
        (record { answer = c.answer ∙ right_prints w m call right; session = c.session; world = c.world }) sizes
        (still_few r.session.waiting (call_result 1 w call).stores k.waits) after f in
        (call_line z e l.0 right (laws.call_by_rule w m k.set call), l.1)
