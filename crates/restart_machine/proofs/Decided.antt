-- What is decided stays so, whatever comes. Assumes nothing.
use mathlib.Core.Path.{◌≡◌, refl, sym, ap, ◌∙◌}
use mathlib.Core.Bool.{Bool, true, false, cond, ◌&&◌}
use mathlib.Core.Option.{Option, none, some, Option-elim}
use mathlib.Core.List.{List, [], ◌∷◌, ◌++◌, append_assoc}
use Rattle.stores.specs.Store.{all_stand}
use Rattle.restart_machine.specs.Machine.{Memory, Library, Duties, Continuation, recovering, opened, answering, Program, off, busy, idle, all_made}
use Rattle.restart_machine.specs.Machine.{TakenRequest, Outcome, answered, unanswered, History, decide, Move, start, ask, next_step, write_back, kill}
use Rattle.restart_machine.specs.Machine.{cut, Machine, asked, continued, stepped, moved, moved_by}
use Rattle.restart_machine.specs.Rule.{DecidedStays}

module _ {Held Request : Type 0} where
  abbrev Grows : List (TakenRequest Held Request × Outcome) → List (TakenRequest Held Request × Outcome) → Type 0
  Grows old new = (newer : List (TakenRequest Held Request × Outcome)) × (new ≡ newer ++ old)

  decided_grows : (outcome : Outcome) (o : Option (TakenRequest Held Request)) (es : List (TakenRequest Held Request × Outcome))
      → Grows es (Option-elim o es (λ taken. (taken, outcome) ∷ es))
  unfolding Option-elim
  decided_grows outcome none es = ([], refl)
  decided_grows outcome (some taken) es = ((taken, outcome) ∷ [], refl)

  decide_grows : (outcome : Outcome) (h : History Held Request) → Grows h.decided (decide outcome h).decided
  unfolding decide
  decide_grows outcome h = decided_grows outcome h.undecided h.decided

  kill_grows : (made : Bool) (h : History Held Request) → Grows h.decided (cond made h (decide (unanswered false) h)).decided
  kill_grows true h = ([], refl)
  kill_grows false h = decide_grows (unanswered false) h

  both_grow : (a b c : List (TakenRequest Held Request × Outcome)) → Grows a b → Grows b c → Grows a c
  both_grow a b c (x, e) (y, f) = (y ++ x, f ∙ ap (λ (t : List (TakenRequest Held Request × Outcome)). y ++ t) e ∙ sym (append_assoc y x a))

module _ {Lent Held Request : Type 0} (d : Duties) (library : Library Lent Held Request) where
  asked_grows : (mem : Memory) (prog : Program Lent Held) (h : History Held Request) (request : Request)
      → Grows h.decided (asked d library mem prog h request).history.decided
  unfolding asked
  asked_grows mem off h request = ([], refl)
  asked_grows mem (busy ss flushing c) h request = ([], refl)
  asked_grows mem (idle held) h request = ([], refl)

  continued_grows : (mem : Memory) (c : Continuation Lent Held) (h : History Held Request) → Grows h.decided (continued d library mem c h).history.decided
  unfolding continued
  continued_grows mem (recovering lent) h = decide_grows _ h
  continued_grows mem (opened held) h = ([], refl)
  continued_grows mem (answering held) h = decide_grows answered h

  stepped_grows : (mem : Memory) (prog : Program Lent Held) (h : History Held Request) → Grows h.decided (stepped d library mem prog h).history.decided
  unfolding stepped
  stepped_grows mem off h = ([], refl)
  stepped_grows mem (busy (s ∷ ss) flushing c) h = ([], refl)
  stepped_grows mem (busy [] (n ∷ lines, fence) c) h = ([], refl)
  stepped_grows mem (busy [] ([], true) c) h = ([], refl)
  stepped_grows mem (busy [] ([], false) c) h = continued_grows mem c h
  stepped_grows mem (idle held) h = ([], refl)

  moved_grows : (s : Machine Lent Held Request) (move : Move Lent Request) → Grows s.history.decided (moved d library s move).history.decided
  unfolding moved
  moved_grows s (start lent) = ([], refl)
  moved_grows s (ask request) = asked_grows s.memory s.program s.history request
  moved_grows s next_step = stepped_grows s.memory s.program s.history
  moved_grows s (write_back counts) = ([], refl)
  moved_grows s kill = kill_grows (all_made s.program) s.history
  moved_grows s (cut counts) = decide_grows (unanswered (all_made s.program && all_stand counts s.memory.pending)) s.history

-- WHAT IS DECIDED STAYS SO
pub decided_stays : {Lent Held Request : Type 0} → DecidedStays Lent Held Request
unfolding moved_by
decided_stays d library s [] = ([], refl)
decided_stays d library s (move ∷ moves) =
    both_grow s.history.decided (moved d library s move).history.decided _ (moved_grows d library s move)
    (decided_stays d library (moved d library s move) moves)
