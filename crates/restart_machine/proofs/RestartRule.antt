-- THE RESTART RULE, proved from the laws of a library by one induction over the moves. Assumes nothing.
use mathlib.Core.Path.{◌≡◌, refl, sym, ap, ◌∙◌, subst}
use mathlib.Core.Bool.{Bool, true, false, cond, ◌&&◌}
use mathlib.Core.Option.{Option, none, some, Option-elim}
use mathlib.Core.List.{List, [], ◌∷◌, map}
use Prim.Native.Nat.{ℕ, ◌+◌, ◌*◌, ◌/◌, ◌≤◌}
use native.Mathlib.Omega.{arith}
use lib.ListN.{length}
use Rattle.prelude.specs.Members.{All}
use Rattle.stores.specs.Store.{Store, played, standing, all_stand, not_standing}
use Rattle.stores.proofs.Bytes.{played-length}
use Rattle.prelude.specs.Filter.{is_among}
use Rattle.restart_machine.specs.Machine.{Memory, seen, written_back, cut_off, after_flush, after_fence, none_flushed, Effect, Library, Flushing, Duties}
use Rattle.restart_machine.specs.Machine.{Covers, Sufficient, Continuation, recovering, opened, answering, Program, off, busy, idle, all_made}
use Rattle.restart_machine.specs.Machine.{TakenRequest, Outcome, answered, unanswered, History, decide, Move, start, ask, next_step, write_back, kill}
use Rattle.restart_machine.specs.Machine.{cut, Machine, machine, started, asked, continued, stepped, moved, moved_by, at_rest}
use Rattle.restart_machine.specs.Rule.{Promise, plain_of, HoldsNow, RestartRule}
use Rattle.restart_machine.proofs.defs.Laws.{Inside, Laws}
use Rattle.restart_machine.proofs.WrittenBack.{seen_same}
use Rattle.restart_machine.proofs.Flushes.{Covered, to_be_flushed, covered_flush, covered_fence, all_left}
use Rattle.restart_machine.proofs.Working.{Left, Safe, left_written_back, left_flush, left_kill, left_cut, left_seen, bare, seen_bare, to_flush}
use Rattle.restart_machine.proofs.Working.{Working, working_store, working_flush, working_fence, working_written_back, working_left, working_none}
use Rattle.restart_machine.proofs.Working.{working_done}

module _ {Lent Held Request M : Type 0} (promise : Promise Lent Held Request M) where
  -- the plain machine once the program has ended, where the stores that it made all stand or not
  abbrev fate : (made : Bool) → Option (TakenRequest Held Request) → M → Bool → M
  fate made none m b = m
  fate made (some taken) m b = cond (made && b) (promise.after taken m) m

  -- it is that of the requests decided then
  fate_ended : (first : M) (b made : Bool) (rs : List Request) (o : Option (TakenRequest Held Request)) (es : List (TakenRequest Held Request × Outcome))
      → fate made o (plain_of promise first es) b ≡
      plain_of promise first (decide (unanswered (made && b)) (record { requests = rs; decided = es; undecided = o })).decided
  unfolding plain_of decide Option-elim
  fate_ended first b made rs none es = refl
  fate_ended first b made rs (some taken) es = refl

  fate_seen : (first : M) (made : Bool) (rs : List Request) (o : Option (TakenRequest Held Request)) (es : List (TakenRequest Held Request × Outcome))
      → fate made o (plain_of promise first es) true ≡
      plain_of promise first (decide (unanswered made) (record { requests = rs; decided = es; undecided = o })).decided
  fate_seen first true rs o es = fate_ended first true true rs o es
  fate_seen first false rs o es = fate_ended first true false rs o es

-- THE INVARIANT, by what the program is at; m is the plain machine of the decided requests
data Good {Lent Held Request M : Type 0} (promise : Promise Lent Held Request M) (Ready : List ℕ → M → Type 0) (InUse : List ℕ → Held → M → Type 0)
    (mem : Memory) (m : M) : Program Lent Held → Option (TakenRequest Held Request) → Type 0 where
  is_off : {o : Option (TakenRequest Held Request)} → Left Ready mem (fate promise true o m) → Good promise Ready InUse mem m off o
  is_starting : {o : Option (TakenRequest Held Request)} {lines : List ℕ} {lent : Lent} → Left Ready mem (fate promise true o m)
      → Covered mem.flushed lines mem.pending → Good promise Ready InUse mem m (busy [] (lines, true) (recovering lent)) o
  is_ready : {o : Option (TakenRequest Held Request)} {lines : List ℕ} {lent : Lent} → mem.pending ≡ []
      → Ready (seen mem) (fate promise true o m true) → Good promise Ready InUse mem m (busy [] (lines, false) (recovering lent)) o
  is_invalidation : {rest : List Store} {lines : List ℕ} {fence : Bool} {held : Held} → Working Ready InUse mem rest lines fence held (λ b. m)
      → Good promise Ready InUse mem m (busy rest (lines, fence) (opened held)) none
  is_in_flight : {rest : List Store} {lines : List ℕ} {fence : Bool} {held : Held} {taken : TakenRequest Held Request}
      → Working Ready InUse mem rest lines fence held (λ b. cond b (promise.after taken m) m)
      → Good promise Ready InUse mem m (busy rest (lines, fence) (answering held)) (some taken)
  is_idle : {held : Held} → mem.pending ≡ [] → InUse (seen mem) held m → Good promise Ready InUse mem m (idle held) none

module _ {Lent Held Request M : Type 0} (promise : Promise Lent Held Request M) (library : Library Lent Held Request)
    (Ready : List ℕ → M → Type 0) (InUse : List ℕ → Held → M → Type 0) (laws : Laws library promise Ready InUse) where
  abbrev GoodAt : Memory → M → Program Lent Held → Option (TakenRequest Held Request) → Type 0
  GoodAt mem m prog o = Good promise Ready InUse mem m prog o

  -- what is seen stays
  seen_written_back : (mem : Memory) (c : ℕ → ℕ) → seen (written_back c mem) ≡ seen mem
  unfolding seen written_back
  seen_written_back mem c = seen_same mem.pending c mem.durable

  -- ---- what the program would leave

  quiet : (mem : Memory) (P : Bool → M) → mem.pending ≡ [] → Ready (seen mem) (P true) → Left Ready mem P
  quiet mem P e r = bare Ready mem P e (subst (λ (x : List ℕ). Ready x (P true)) (seen_bare Ready mem e) r)

  left-by : {mem : Memory} {rest : List Store} {lines : List ℕ} {fence : Bool} {held : Held} (P : Bool → M) (c : Continuation Lent Held)
      → Working Ready InUse mem rest lines fence held P → Left Ready mem (λ b. P (all_made (busy rest (lines, fence) c) && b))
  left-by {mem} {rest} {lines} {fence} {held} P c w = working_left Ready InUse held P mem rest lines fence c w

  good_left : {prog : Program Lent Held} {o : Option (TakenRequest Held Request)} (mem : Memory) (m : M) → GoodAt mem m prog o
      → Left Ready mem (fate promise (all_made prog) o m)
  unfolding all_made
  good_left mem m (is_off left) = left
  good_left mem m (is_starting left cover) = left
  good_left mem m (is_ready {o = o} e r) = quiet mem (fate promise true o m) e r
  good_left mem m (is_invalidation {held = held} w) = left-by (λ b. m) (opened held) w
  good_left mem m (is_in_flight {held = held} {taken = taken} w) =
      left-by (λ b. cond b (promise.after taken m) m) (answering held) w
  good_left mem m (is_idle {held = held} e i) = quiet mem (λ b. m) e (laws.use_ready (seen mem) held m i)

  -- ---- each move keeps it

  abbrev GoodOf : M → Machine Lent Held Request → Type 0
  GoodOf first s = GoodAt s.memory (plain_of promise first s.history.decided) s.program s.history.undecided

  -- a kill: a request whose stores were not all made does not stand
  killed_good : (first : M) (made : Bool) (rs : List Request) (o : Option (TakenRequest Held Request))
      (es : List (TakenRequest Held Request × Outcome)) (mem : Memory) → Left Ready mem (fate promise made o (plain_of promise first es))
      → GoodOf first
      (machine (none_flushed mem) off
      (cond made (record { requests = rs; decided = es; undecided = o }) (decide (unanswered false) (record { requests = rs; decided = es; undecided = o }))))
  unfolding plain_of decide Option-elim
  killed_good first true rs o es mem left = is_off (left_kill Ready mem _ left)
  killed_good first false rs none es mem left = is_off (left_kill Ready mem _ left)
  killed_good first false rs (some taken) es mem left = is_off (left_kill Ready mem _ left)

  -- a cut
  good_cut : {prog : Program Lent Held} (rs : List Request) (o : Option (TakenRequest Held Request)) (mem : Memory) (first : M)
      (es : List (TakenRequest Held Request × Outcome)) (c : ℕ → ℕ) → GoodAt mem (plain_of promise first es) prog o
      → GoodOf first
      (machine (cut_off c mem) off
      (decide (unanswered (all_made prog && all_stand c mem.pending)) (record { requests = rs; decided = es; undecided = o })))
  unfolding cut_off decide plain_of Option-elim
  good_cut rs none mem first es c g = is_off (bare Ready (cut_off c mem) _ refl (left_cut Ready mem _ (good_left mem _ g) c))
  good_cut rs (some taken) mem first es c g = is_off (bare Ready (cut_off c mem) _ refl (left_cut Ready mem _ (good_left mem _ g) c))

  -- the cache
  good_write_back : {prog : Program Lent Held} {o : Option (TakenRequest Held Request)} (mem : Memory) (m : M) (c : ℕ → ℕ) → GoodAt mem m prog o
      → GoodAt (written_back c mem) m prog o
  unfolding written_back not_standing standing played
  good_write_back mem m c (is_off left) = is_off (left_written_back Ready mem _ left c)
  good_write_back mem m c (is_starting left cover) = is_starting (left_written_back Ready mem _ left c) (all_left mem.pending c cover)
  good_write_back mem m c (is_ready {o = o} e r) =
      is_ready (ap (not_standing c) e) (subst (λ (x : List ℕ). Ready x (fate promise true o m true)) (sym (seen_written_back mem c)) r)
  good_write_back mem m c (is_invalidation {held = held} w) = is_invalidation (working_written_back Ready InUse held (λ b. m) mem _ _ _ c w)
  good_write_back mem m c (is_in_flight {held = held} {taken = taken} w) =
      is_in_flight (working_written_back Ready InUse held (λ b. cond b (promise.after taken m) m) mem _ _ _ c w)
  good_write_back mem m c (is_idle {held = held} e i) =
      is_idle (ap (not_standing c) e) (subst (λ (x : List ℕ). InUse x held m) (sym (seen_written_back mem c)) i)

  module _ (d : Duties) (done : Sufficient d) where
    -- a start
    good_start : {prog : Program Lent Held} {o : Option (TakenRequest Held Request)} (mem : Memory) (m : M) (lent : Lent)
        → GoodAt mem m prog o → GoodAt mem m (started d library mem prog lent) o
    unfolding started
    good_start {o = o} mem m lent (is_off left) =
        subst (λ (b : Bool). GoodAt mem m (busy [] ((d.before_recovery (length mem.durable)).0, b) (recovering lent)) o) (sym covers.1)
        (is_starting left (to_be_flushed mem.flushed _ mem.pending covers.0))
      where
        long : length mem.durable ≡ length left.image
        long = ap length left.durable ∙ played-length _ left.image

        covers : Covers (d.before_recovery (length mem.durable)) mem.pending
        covers =
            done.before-recovery (length mem.durable) mem.pending
            (subst (Inside (length mem.durable)) (sym left.pending)
            (all_left left.made left.stand (subst (λ (k : ℕ). Inside k left.made) (sym long) left.inside)))
    good_start mem m lent (is_starting left cover) = is_starting left cover
    good_start mem m lent (is_ready e r) = is_ready e r
    good_start mem m lent (is_invalidation w) = is_invalidation w
    good_start mem m lent (is_in_flight w) = is_in_flight w
    good_start mem m lent (is_idle e i) = is_idle e i

    -- stores about to be made
    begins : (mem : Memory) (ss : List Store) (flushing : Flushing) (held : Held) (P : Bool → M) → mem.pending ≡ []
        → Inside (length (seen mem)) ss → ((c : ℕ → ℕ) → Ready (played (standing c ss) (seen mem)) (P (all_stand c ss)))
        → InUse (played ss (seen mem)) held (P true) → Covers flushing ss → Working Ready InUse mem ss flushing.0 flushing.1 held P
    unfolding standing not_standing played
    begins mem ss flushing held P e inside ready after covers =
        record {
          image = seen mem;
          all = ss;
          made = [];
          parts = refl;
          stand = λ k. 0;
          durable = sym (seen_bare Ready mem e);
          pending = e;
          upto = λ k. omega arith;
          inside = inside;
          ready = ready;
          after = after;
          safe = subst (λ (b : Bool). Safe mem.flushed flushing.0 ss mem.pending ss b) (sym covers.1) (to_flush covers.0);
        }

    -- a request
    good_ask : {prog : Program Lent Held} {o : Option (TakenRequest Held Request)} (mem : Memory) (first : M) (rs : List Request)
        (es : List (TakenRequest Held Request × Outcome)) (request : Request) → GoodAt mem (plain_of promise first es) prog o
        → GoodOf first (asked d library mem prog (record { requests = rs; decided = es; undecided = o }) request)
    unfolding asked
    good_ask mem first rs es request (is_off left) = is_off left
    good_ask mem first rs es request (is_starting left cover) = is_starting left cover
    good_ask mem first rs es request (is_ready e r) = is_ready e r
    good_ask mem first rs es request (is_invalidation w) = is_invalidation w
    good_ask mem first rs es request (is_in_flight w) = is_in_flight w
    good_ask mem first rs es request (is_idle {held = held} e i) =
        let m : M = plain_of promise first es in
        let effect : Effect Held = library.call (seen mem) held request in
        is_in_flight
        (begins mem effect.stores (d.after_request effect.stores) effect.held
        (λ b. cond b (promise.after (record { request = request; image = seen mem; held = held }) m) m) e
        (laws.request_inside (seen mem) held m i request) (laws.request_part (seen mem) held m i request) (laws.request_done (seen mem) held m i request)
        (done.after-request effect.stores))

    -- recovery
    invalidating_now : (mem : Memory) (m : M) (lent : Lent) → mem.pending ≡ [] → Ready (seen mem) m
        → GoodAt mem m
        (busy (library.recovery (seen mem) lent).stores (d.after_recovery (library.recovery (seen mem) lent).stores)
        (opened (library.recovery (seen mem) lent).held))
        none
    invalidating_now mem m lent e r =
        let effect : Effect Held = library.recovery (seen mem) lent in
        is_invalidation
        (begins mem effect.stores (d.after_recovery effect.stores) effect.held (λ b. m) e
        (laws.recovery_inside (seen mem) m r lent) (laws.recovery_part (seen mem) m r lent) (laws.recovery_done (seen mem) m r lent)
        (done.after-recovery effect.stores))

    good_recovery : (rs : List Request) (o : Option (TakenRequest Held Request)) (mem : Memory) (first : M) (es : List (TakenRequest Held Request × Outcome))
        (lent : Lent) → mem.pending ≡ [] → Ready (seen mem) (fate promise true o (plain_of promise first es) true)
        → GoodOf first (continued d library mem (recovering lent) (record { requests = rs; decided = es; undecided = o }))
    unfolding continued decide plain_of Option-elim
    good_recovery rs none mem first es lent e r = invalidating_now mem _ lent e r
    good_recovery rs (some taken) mem first es lent e r = invalidating_now mem _ lent e r

    -- the fence of a start
    started_fence : (mem : Memory) (m : M) (o : Option (TakenRequest Held Request)) (lent : Lent) → Left Ready mem (fate promise true o m)
        → Covered mem.flushed [] mem.pending → GoodAt (after_fence mem) m (busy [] ([], false) (recovering lent)) o
    started_fence mem m o lent left cover =
        let q = covered_fence mem cover in
        is_ready q.1
        (subst (λ (x : List ℕ). Ready x (fate promise true o m true)) (sym (seen_bare Ready (after_fence mem) q.1 ∙ q.0)) (left_seen Ready mem _ left))

    -- the end of a list of stores
    idle_now : (mem : Memory) (held : Held) (P : Bool → M) → Working Ready InUse mem [] [] false held P → GoodAt mem (P true) (idle held) none
    idle_now mem held P w = is_idle (working_none Ready InUse held P mem w) (working_done Ready InUse held P mem w)

    good_step : {prog : Program Lent Held} {o : Option (TakenRequest Held Request)} (mem : Memory) (first : M) (rs : List Request)
        (es : List (TakenRequest Held Request × Outcome))
        → GoodAt mem (plain_of promise first es) prog o → GoodOf first (stepped d library mem prog (record { requests = rs; decided = es; undecided = o }))
    unfolding stepped continued after_flush decide plain_of Option-elim seen
    good_step mem first rs es (is_off left) = is_off left
    good_step {o = o} mem first rs es (is_starting {lines = []} {lent = lent} left cover) = started_fence mem (plain_of promise first es) o lent left cover
    good_step mem first rs es (is_starting {lines = k ∷ lines} left cover) =
        is_starting (left_flush Ready mem _ left k) (covered_flush mem.flushed k lines mem.pending cover)
    good_step {o = o} mem first rs es (is_ready {lines = []} {lent = lent} e r) = good_recovery rs o mem first es lent e r
    good_step mem first rs es (is_ready {lines = k ∷ lines} e r) = is_ready e r
    good_step mem first rs es (is_invalidation {rest = s ∷ rest} {held = held} w) =
        is_invalidation (working_store Ready InUse held (λ b. plain_of promise first es) mem s rest _ _ w)
    good_step mem first rs es (is_invalidation {rest = []} {lines = k ∷ lines} {held = held} w) =
        is_invalidation (working_flush Ready InUse held (λ b. plain_of promise first es) mem k lines _ w)
    good_step mem first rs es (is_invalidation {rest = []} {lines = []} {fence = true} {held = held} w) =
        is_invalidation (working_fence Ready InUse held (λ b. plain_of promise first es) mem w)
    good_step mem first rs es (is_invalidation {rest = []} {lines = []} {fence = false} {held = held} w) = idle_now mem held (λ b. plain_of promise first es) w
    good_step mem first rs es (is_in_flight {rest = s ∷ rest} {held = held} {taken = taken} w) =
        is_in_flight
        (working_store Ready InUse held (λ b. cond b (promise.after taken (plain_of promise first es)) (plain_of promise first es)) mem s rest _ _ w)
    good_step mem first rs es (is_in_flight {rest = []} {lines = k ∷ lines} {held = held} {taken = taken} w) =
        is_in_flight (working_flush Ready InUse held (λ b. cond b (promise.after taken (plain_of promise first es)) (plain_of promise first es)) mem k lines _
        w)
    good_step mem first rs es (is_in_flight {rest = []} {lines = []} {fence = true} {held = held} {taken = taken} w) =
        is_in_flight (working_fence Ready InUse held (λ b. cond b (promise.after taken (plain_of promise first es)) (plain_of promise first es)) mem w)
    good_step mem first rs es (is_in_flight {rest = []} {lines = []} {fence = false} {held = held} {taken = taken} w) =
        idle_now mem held (λ b. cond b (promise.after taken (plain_of promise first es)) (plain_of promise first es)) w
    good_step mem first rs es (is_idle e i) = is_idle e i

    -- EVERY MOVE keeps the invariant
    good_moved : (first : M) (s : Machine Lent Held Request) → GoodOf first s → (move : Move Lent Request) → GoodOf first (moved d library s move)
    unfolding moved
    good_moved first s g (start lent) = good_start s.memory _ lent g
    good_moved first s g (ask request) = good_ask s.memory first s.history.requests s.history.decided request g
    good_moved first s g next_step = good_step s.memory first s.history.requests s.history.decided g
    good_moved first s g (write_back counts) = good_write_back s.memory _ counts g
    good_moved first s g kill =
        killed_good first (all_made s.program) s.history.requests s.history.undecided s.history.decided s.memory (good_left s.memory _ g)
    good_moved first s g (cut counts) = good_cut s.history.requests s.history.undecided s.memory first s.history.decided counts g

    -- ---- what it says

    at_recovery_good : {o : Option (TakenRequest Held Request)} (mem : Memory) (m : M) (lent : Lent) → GoodAt mem m (busy [] ([], false) (recovering lent)) o
        → (mem.pending ≡ []) × promise.RecoveryCorrect (seen mem) lent (fate promise true o m true)
    at_recovery_good {o} mem m lent (is_ready e r) = (e, laws.recovery_right (seen mem) (fate promise true o m true) r lent)

    at_request_good : {o : Option (TakenRequest Held Request)} (mem : Memory) (m : M) (held : Held) → GoodAt mem m (idle held) o
        → (mem.pending ≡ []) × (o ≡ none) × ((request : Request) → promise.RequestCorrect (seen mem) held m request)
    at_request_good mem m held (is_idle e i) = (e, refl, laws.request_right (seen mem) held m i)

    at_answer_good : {o : Option (TakenRequest Held Request)} (mem : Memory) (m : M) (held : Held) → GoodAt mem m (busy [] ([], false) (answering held)) o
        → (mem.pending ≡ []) × ((taken : TakenRequest Held Request) × (o ≡ some taken))
    at_answer_good mem m held (is_in_flight {taken = taken} w) =
        (working_none Ready InUse held (λ b. cond b (promise.after taken m) m) mem w, (taken, refl))

    -- ---- the requests

    -- those of the history are those that came
    abbrev Kept : History Held Request → Type 0
    Kept h = map (λ (e : TakenRequest Held Request × Outcome). e.0.request) (decide answered h).decided ≡ h.requests

    decide_keeps : (outcome : Outcome) (rs : List Request) (o : Option (TakenRequest Held Request)) (es : List (TakenRequest Held Request × Outcome))
        → Kept (record { requests = rs; decided = es; undecided = o }) → Kept (decide outcome (record { requests = rs; decided = es; undecided = o }))
    unfolding decide Option-elim
    decide_keeps outcome rs none es k = k
    decide_keeps outcome rs (some taken) es k = k

    ask_keeps : {prog : Program Lent Held} {o : Option (TakenRequest Held Request)} (mem : Memory) (m : M) (rs : List Request)
        (es : List (TakenRequest Held Request × Outcome)) (request : Request) → GoodAt mem m prog o
        → Kept (record { requests = rs; decided = es; undecided = o })
        → Kept (asked d library mem prog (record { requests = rs; decided = es; undecided = o }) request).history
    unfolding asked decide Option-elim
    ask_keeps mem m rs es request (is_off left) k = k
    ask_keeps mem m rs es request (is_starting left cover) k = k
    ask_keeps mem m rs es request (is_ready e r) k = k
    ask_keeps mem m rs es request (is_invalidation w) k = k
    ask_keeps mem m rs es request (is_in_flight w) k = k
    ask_keeps mem m rs es request (is_idle e i) k = ap (λ (l : List Request). request ∷ l) k

    continued_keeps : (mem : Memory) (c : Continuation Lent Held) (h : History Held Request) → Kept h → Kept (continued d library mem c h).history
    unfolding continued
    continued_keeps mem (recovering lent) h k = decide_keeps _ h.requests h.undecided h.decided k
    continued_keeps mem (opened held) h k = k
    continued_keeps mem (answering held) h k = decide_keeps answered h.requests h.undecided h.decided k

    step_keeps : (mem : Memory) (prog : Program Lent Held) (h : History Held Request) → Kept h → Kept (stepped d library mem prog h).history
    unfolding stepped
    step_keeps mem off h k = k
    step_keeps mem (busy (s ∷ ss) flushing c) h k = k
    step_keeps mem (busy [] (n ∷ lines, fence) c) h k = k
    step_keeps mem (busy [] ([], true) c) h k = k
    step_keeps mem (busy [] ([], false) c) h k = continued_keeps mem c h k
    step_keeps mem (idle held) h k = k

    kill_keeps : (made : Bool) (h : History Held Request) → Kept h → Kept (cond made h (decide (unanswered false) h))
    kill_keeps true h k = k
    kill_keeps false h k = decide_keeps (unanswered false) h.requests h.undecided h.decided k

    moved_keeps : (first : M) (s : Machine Lent Held Request) → GoodOf first s → Kept s.history → (move : Move Lent Request)
        → Kept (moved d library s move).history
    unfolding moved
    moved_keeps first s g k (start lent) = k
    moved_keeps first s g k (ask request) = ask_keeps s.memory _ s.history.requests s.history.decided request g k
    moved_keeps first s g k next_step = step_keeps s.memory s.program s.history k
    moved_keeps first s g k (write_back counts) = k
    moved_keeps first s g k kill = kill_keeps (all_made s.program) s.history k
    moved_keeps first s g k (cut counts) = decide_keeps _ s.history.requests s.history.undecided s.history.decided k

    -- ---- the rule

    good_shows : (first : M) (s : Machine Lent Held Request) → GoodOf first s → Kept s.history → HoldsNow promise first s
    good_shows first s g kept =
        record {
          if_cut = λ counts.
              subst (promise.Recovers (cut_off counts s.memory).durable)
              (fate_ended promise first (all_stand counts s.memory.pending) (all_made s.program) s.history.requests s.history.undecided
              s.history.decided)
              (laws.recovers _ _ (left_cut Ready s.memory _ left counts));
          if_killed =
              subst (promise.Recovers (seen s.memory))
              (fate_seen promise first (all_made s.program) s.history.requests s.history.undecided s.history.decided)
              (laws.recovers _ _ (left_seen Ready s.memory _ left));
          at_recovery = λ lent e.
              let r = at_recovery_good s.memory m lent (at _ e) in (
                r.0,
                subst (promise.RecoveryCorrect (seen s.memory) lent)
                    (fate_seen promise first true s.history.requests s.history.undecided s.history.decided) r.1,
              );
          at_request = λ held e. at_request_good s.memory m held (at _ e);
          at_answer = λ held e. at_answer_good s.memory m held (at _ e);
          requests_kept = kept;
        }
      where
        m : M
        m = plain_of promise first s.history.decided

        left : Left Ready s.memory (fate promise (all_made s.program) s.history.undecided (plain_of promise first s.history.decided))
        left = good_left s.memory (plain_of promise first s.history.decided) g

        at : (prog : Program Lent Held) → s.program ≡ prog → GoodAt s.memory (plain_of promise first s.history.decided) prog s.history.undecided
        at prog e = subst (λ (x : Program Lent Held). GoodAt s.memory (plain_of promise first s.history.decided) x s.history.undecided) e g

    shows_after : (first : M) (s : Machine Lent Held Request) (moves : List (Move Lent Request)) → GoodOf first s → Kept s.history
        → HoldsNow promise first (moved_by d library s moves)
    unfolding moved_by
    shows_after first s [] g k = good_shows first s g k
    shows_after first s (move ∷ moves) g k = shows_after first (moved d library s move) moves (good_moved first s g move) (moved_keeps first s g k move)

    -- THE RESTART RULE, from a durable image that is ready
    pub restart_rule : (image : List ℕ) (m : M) → Ready image m → RestartRule promise d library image m
    unfolding at_rest plain_of decide Option-elim
    restart_rule image m r moves =
        shows_after m (at_rest image) moves (is_off (bare Ready (record { durable = image; pending = []; flushed = [] }) _ refl r)) refl
