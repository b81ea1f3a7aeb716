-- A call of a session on an image and an index of its set's size: it is an event of the cut rule, and it prints what the call answers. Assumes nothing.
use mathlib.Core.Path.{◌≡◌, refl, sym, ap, ap₂, ◌∙◌, subst}
use mathlib.Core.Bool.{Bool, true, false, cond}
use mathlib.Core.List.{List, [], ◌∷◌}
use Prim.Native.Nat.{ℕ, ◌^◌, ◌<◌, ◌≤◌}
use native.Mathlib.Omega.{arith}
use lib.ListN.{length, replicate}
use Rattle.words.specs.Word.{AreBytes}
use Rattle.words.proofs.Laws.{set_word_bytes}
use Rattle.prelude.specs.Answer.{Answer, gives, absent, refused}
use Rattle.prelude.proofs.Fills.{zeros}
use Rattle.interface.proofs.SetLaws.{layout_1, call_laws}
use Rattle.prelude.specs.Members.{none_left}
use Rattle.interface.specs.Set.{index_fault, RightSize, slots_of, State, Store, Played, played, standing, half_counts, World, Mode, Call}
use Rattle.interface.specs.Set.{write}
use Rattle.interface.specs.Set.{remove, get, CallResult, write_result, is_held, call_result, playing, finished, invalidated_world, restarted}
use Rattle.interface.specs.Set.{after_rounds, slots_in, PlainMap, Typed, write_typed, remove_typed, reads_only, Unchanged, Index, out_of, index_of}
use Rattle.interface.specs.Event.{Cut, done, struck, effects_of, step, Fits, done_fits, step_by, image_cut}
use Rattle.interface.proofs.Stored.{refusal_still}
use Rattle.interface.proofs.LocatedSlot.{located}
use Rattle.interface.specs.Laws.{Writes, write_writes, remove_writes, SetLaws}
use Rattle.text.specs.Output.{Printed, ok}
use Rattle.session.specs.Step.{StepResult, leaves, played_all, recover_step, stored_with, changed_as, change_step, word_bytes, mode_by, word_change, write_step}
use Rattle.session.specs.Step.{got_by, word_found, line_step}
use Rattle.text.specs.declared.Line.TheVariants.{Write, Remove, Get}
use Rattle.session.specs.Waiting.{Waiting}
use Rattle.std.specs.Prelude.{Some, None}
use Rattle.session.specs.declared.WaitingCut.{WaitingCut}
use Rattle.session.specs.declared.Session.{Session}
use Rattle.session.specs.Lines.{session_of, mode_for, struck_with, event_in, waits_on, change_prints, printed_for}
use Rattle.session.specs.Rule.{FewWait, none_waits, few_wait}
use Rattle.session.proofs.Events.{left_size, event_fits}
use Rattle.session.proofs.Fronts.{left_by, LeftBehind}
use Rattle.session.proofs.Recovered.{goes_on, recover-step}

-- the step t carried out the call, with this cut waiting, on set w of n slots
abbrev pub Carried : (n : ℕ) → Waiting → World → Call → StepResult → Type 0
Carried n waiting w call t =
    LeftBehind n (printed_for call (call_result 1 w call).answer (call_result 1 w call).out) (step 1 w (event_in w waiting call))
    (waits_on waiting (call_result 1 w call).stores) t

-- the call stores nothing and keeps the index
pub record Still (w : World) (r : CallResult) : Type 0 where
  pub stores : r.stores ≡ []
  pub index : r.index ≡ w.index

untouched_still : (w : World) (call : Call) → Unchanged w (out_of call) (call_result 1 w call) → Still w (call_result 1 w call)
untouched_still w call u = record { stores = u.no_stores; index = u.index_kept }

module _ (Inv : World → PlainMap → Type 0) (laws : SetLaws 1 Inv) where
  -- ---- a call that stores nothing

  -- the set after a call whose stores, all of them, are these
  abbrev after : (image : List ℕ) → List Store → Index → World
  after image ss j = record { image = played ss image; index = j }

  idle_event : (w : World) (waiting : Waiting) (call : Call) → (call_result 1 w call).stores ≡ [] → event_in w waiting call ≡ done call
  unfolding event_in struck_with
  idle_event w None call e = refl
  idle_event w (Some counts) call e =
      ap (struck_with call counts.a counts.b (call_result 1 w call).index.heads (call_result 1 w call).index.next) e

  idle_step : (w : World) (waiting : Waiting) (call : Call) → Still w (call_result 1 w call) → w ≡ step 1 w (event_in w waiting call)
  unfolding step_by
  idle_step w waiting call u =
      sym
      (ap (step 1 w) (idle_event w waiting call u.stores)
      ∙ ap₂ (after w.image) u.stores u.index
      ∙ ap (λ (t : List ℕ). record { image = t; index = w.index }) ((call_laws 1 layout_1).plays_nothing w.image))

  -- ---- a call that stores

  -- what a change answers and leaves
  abbrev change : (given out : List ℕ) → List Store → Index → (count : ℕ) → CallResult
  change given out ss j count = record { answer = gives given; out = out; stores = ss; index = j; compared = count }

  module _ (n : ℕ) (w : World) (m : PlainMap) (i : Inv w m) (call : Call) (typed : Typed 1 call)
      (says : (answer : Answer) (out : List ℕ) → printed_for call answer out ≡ change_prints answer)
      (given out : List ℕ) (store : Store) (rest : List Store) (heads next : List ℕ) (state : State) (count : ℕ)
      (d : call_result 1 w call ≡ change given out (store ∷ rest) (index_of heads next state) count) where
    abbrev stores : List Store
    stores = store ∷ rest

    abbrev cut_by : (a b : ℕ) → Cut
    cut_by a b = record { counts = half_counts stores a b; restart = record { rounds = []; lent = record { heads = heads; next = next } } }

    abbrev cut_image : (a b : ℕ) → List ℕ
    cut_image a b = image_cut w (effects_of (call_result 1 w call)) (cut_by a b)

    prints : ok given ≡ printed_for call (call_result 1 w call).answer (call_result 1 w call).out
    unfolding change_prints
    prints = sym (says (call_result 1 w call).answer (call_result 1 w call).out ∙ ap (λ (c : CallResult). change_prints c.answer) d)

    -- all stores are played
    all-played : left_by (leaves (ok given) (record { n = n; state = state; waiting = None }) (played_all w.image stores) heads next) ≡
        finished 1 w call
    unfolding played_all finished step_by
    all-played =
        sym (ap (λ (c : CallResult). record { image = played_all w.image c.stores; index = c.index }) d)
        ∙ ap (λ (x : List ℕ). record { image = x; index = (call_result 1 w call).index })
        (ap (λ (x : Played). x.bytes) (laws.plays_event w m i (done call) (done_fits typed)).0)

    module _ (counts : WaitingCut) (p : counts.a ≤ 8) (q : counts.b ≤ 8) where
      struck_event : event_in w (Some counts) call ≡ struck call (cut_by counts.a counts.b)
      unfolding event_in struck_with
      struck_event = ap (λ (c : CallResult). struck_with call counts.a counts.b c.index.heads c.index.next c.stores) d

      struck_fits : Fits 1 (slots_in w.image) (struck call (cut_by counts.a counts.b))
      struck_fits = subst (Fits 1 (slots_in w.image)) struck_event (event_fits Inv laws w call m i typed (Some counts))

      struck_size : RightSize (cut_image counts.a counts.b) heads next
      unfolding image_cut
      struck_size =
          ap (λ (k : ℕ). index_fault (slots_of k) (length heads) (length next)) ((call_laws 1 layout_1).plays_length _ w.image)
          ∙ ap (λ (c : CallResult). index_fault (slots_in w.image) (length c.index.heads) (length c.index.next)) (sym d)
          ∙ left_size Inv laws w call m i typed

      -- the counted stores, by play
      struck-image : playing w.image stores counts.a counts.b ≡ cut_image counts.a counts.b
      unfolding image_cut
      struck-image =
          ap (λ (c : CallResult). playing w.image c.stores counts.a counts.b) (sym d) ∙ laws.plays_cut w m i call typed counts.a counts.b p q
          ∙ ap (λ (c : CallResult). played (standing (half_counts c.stores counts.a counts.b) (call_result 1 w call).stores) w.image) d

      -- A STRUCK CALL: its counted stores are played, and recovery accepts
      recovers : recover_step (ok given) n (playing w.image stores counts.a counts.b) heads next ≡
          goes_on (ok given) n (invalidated_world 1 (cut_image counts.a counts.b) heads next)
      unfolding after_rounds
      recovers =
          ap (λ (x : List ℕ). recover_step (ok given) n x heads next) struck-image
          ∙ recover-step (ok given) n (cut_image counts.a counts.b) heads next _
          (laws.keeps_always w m i call (cut_by counts.a counts.b) struck_fits [] none_left) struck_size

    -- the call takes a waiting cut
    taken : (waiting : Waiting) → waits_on waiting (call_result 1 w call).stores ≡ None
    unfolding waits_on
    taken waiting = ap (λ (c : CallResult). waits_on waiting c.stores) d

    carried : (waiting : Waiting) (v : World) → v ≡ step 1 w (event_in w waiting call) → Carried n waiting w call (goes_on (ok given) n v)
    carried waiting v e = record {
      answer = prints;
      world = e;
      session = ap (λ (x : World). session_of n x None) e ∙ ap (session_of n (step 1 w (event_in w waiting call))) (sym (taken waiting));
    }

    stored : (waiting : Waiting) → FewWait waiting → Carried n waiting w call (stored_with n given state stores w.image heads next waiting)
    unfolding stored_with event_in step_by restarted after_rounds finished
    stored None none_waits = carried None _ all-played
    stored (Some counts) (few_wait p q) =
        subst (Carried n (Some counts) w call) (sym (recovers counts p q))
        (carried (Some counts) _ (sym (ap (step 1 w) (struck_event counts p q))))

-- ---- the calls

pub word-bytes : (x : ℕ) → AreBytes (word_bytes x)
unfolding word_bytes
word-bytes x = set_word_bytes (replicate 8 0) 0 x (λ k. omega (arith, zeros 8 k))

-- the set of a session on an image and an index of its size
abbrev pub within : Session → (image heads next : List ℕ) → World
within s image heads next = record { image = image; index = index_of heads next s.state }

-- p inserts where the plain map has no value for the key, and replaces where it has one
mode_held : (held : Bool) (values : List ℕ) → mode_for held ≡ mode_by (cond held (gives values) absent)
unfolding mode_for mode_by
mode_held true values = refl
mode_held false values = refl

module _ (Inv : World → PlainMap → Type 0) (laws : SetLaws 1 Inv) (s : Session) (image heads next : List ℕ) (m : PlainMap)
    (i : Inv (within s image heads next) m) (few : FewWait s.waiting) where
  abbrev w : World
  w = within s image heads next

  -- a call that stores nothing; a cut goes on waiting
  idle_carried : (call : Call) (p : Printed) → Still w (call_result 1 w call)
      → p ≡ printed_for call (call_result 1 w call).answer (call_result 1 w call).out → Carried s.n s.waiting w call (leaves p s image heads next)
  unfolding waits_on
  idle_carried call p u e =
      let still = idle_step Inv laws w s.waiting call u in
      record {
        answer = e;
        world = still;
        session =
            ap (λ (x : World). session_of s.n x s.waiting) still
            ∙ ap (λ (ss : List Store). session_of s.n (step 1 w (event_in w s.waiting call)) (waits_on s.waiting ss)) (sym u.stores);
      }

  module _ (call : Call) (typed : Typed 1 call) (writes : Writes call)
      (says : (answer : Answer) (out : List ℕ) → printed_for call answer out ≡ change_prints answer) where
    -- a change that stores nothing; heads' and next' are what it left
    kept : (answer : Answer) (heads' next' : List ℕ) → (call_result 1 w call).answer ≡ answer → (call_result 1 w call).index.heads ≡ heads'
        → (call_result 1 w call).index.next ≡ next'
        → Unchanged w (out_of call) (call_result 1 w call) → Carried s.n s.waiting w call (leaves (change_prints answer) s image heads' next')
    kept answer heads' next' e h x u =
        subst (Carried s.n s.waiting w call)
        (ap₂ (leaves (change_prints answer) s image) (sym (ap (λ (j : Index). j.heads) u.index_kept) ∙ h)
        (sym (ap (λ (j : Index). j.next) u.index_kept) ∙ x))
        (idle_carried call (change_prints answer) (untouched_still w call u)
        (sym (says (call_result 1 w call).answer (call_result 1 w call).out ∙ ap change_prints e)))

    changed_carried : (c : CallResult) → call_result 1 w call ≡ c → Carried s.n s.waiting w call (change_step s image c)
    unfolding change_step changed_as change_prints
    changed_carried c d = go c.answer c.stores d
      where
        go : (answer : Answer) (ss : List Store)
            → call_result 1 w call ≡ record { answer = answer; out = c.out; stores = ss; index = c.index; compared = c.compared }
            → Carried s.n s.waiting w call (changed_as s c.index.state ss image c.index.heads c.index.next answer)
        go (gives given) [] e =
            absurd (laws.some_stores w m i call typed writes given (ap (λ (r : CallResult). r.answer) e) (ap (λ (r : CallResult). r.stores) e))
        go (gives given) (x ∷ rest) e =
            stored Inv laws s.n w m i call typed says given c.out x rest c.index.heads c.index.next c.index.state c.compared e s.waiting
            few
        go absent ss e =
            kept absent c.index.heads c.index.next (ap (λ (r : CallResult). r.answer) e) (ap (λ (r : CallResult). r.index.heads) e)
            (ap (λ (r : CallResult). r.index.next) e)
            ((laws.answers w m i call typed).absent_still (ap (λ (r : CallResult). r.answer) e))
        go (refused number) ss e =
            kept (refused number) c.index.heads c.index.next (ap (λ (r : CallResult). r.answer) e) (ap (λ (r : CallResult). r.index.heads) e)
            (ap (λ (r : CallResult). r.index.next) e)
            (refusal_still 1 w m call (laws.answers w m i call typed) number (ap (λ (r : CallResult). r.answer) e))

  -- the call of a p is the session's change
  pub write_called : (key x : ℕ)
      → call_result 1 w (write (mode_for (is_held (m key))) key (word_bytes x)) ≡ word_change key x s.state image heads next
  unfolding call_result
  write_called key x =
      ap (λ (mode : Mode). write_result 1 image (index_of heads next s.state) mode key (word_bytes x))
      (mode_held (is_held (m key)) _ ∙ ap mode_by (sym (located 1 Inv laws w m i key)))

  pub write_carried : (key x : ℕ) → key < 2 ^ 64
      → Carried s.n s.waiting w (write (mode_for (is_held (m key))) key (word_bytes x)) (line_step (Write key x) s image heads next)
  unfolding line_step write_step printed_for
  write_carried key x k =
      changed_carried (write (mode_for (is_held (m key))) key (word_bytes x)) (write_typed k (word-bytes x)) write_writes (λ answer out. refl) _
      (write_called key x)

  pub remove_carried : (key : ℕ) → key < 2 ^ 64
      → Carried s.n s.waiting w (remove key) (line_step (Remove key) s image heads next)
  unfolding line_step printed_for call_result
  remove_carried key k = changed_carried (remove key) (remove_typed k) remove_writes (λ answer out. refl) _ refl

  pub get_carried : (key : ℕ) → Carried s.n s.waiting w (get key (replicate 80 0)) (line_step (Get key) s image heads next)
  unfolding line_step printed_for call_result reads_only word_found got_by
  get_carried key = idle_carried (get key (replicate 80 0)) _ (record { stores = refl; index = refl }) refl
