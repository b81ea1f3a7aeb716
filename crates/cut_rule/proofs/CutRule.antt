-- THE CUT RULE, proved from the laws of the set and of the book by the one induction over lists. Assumes nothing.
use mathlib.Core.Path.{◌≡◌, refl, sym, ap, subst, fun_ext, ◌∙◌}
use mathlib.Core.List.{List}
use Prim.Native.Nat.{ℕ}
use Rattle.prelude.specs.Answer.{refuses}
use Rattle.prelude.specs.Members.{All}
use Rattle.prelude.proofs.Histories.{throughout}
use Rattle.interface.specs.Set.{World, PlainMap, call_result, slots_in, restarted}
use Rattle.interface.specs.Event.{Event, done, struck, Cut, Effects, effects_of, image_cut, basket_effects, request_of, step_by, is_whole, plain_event, FitsBy}
use Rattle.interface.specs.Event.{done_fits, struck_fits}
use Rattle.interface.specs.Plays.{PlaysSingle, PlaysList}
use Rattle.interface.specs.Recovers.{RecoversAlways}
use Rattle.interface.specs.Laws.{CallLaws, SetLaws}
use Rattle.interface.proofs.SetLaws.{call_laws, set_laws}
use Rattle.book.proofs.Steps.{step_right}
use Rattle.book.specs.Plain.{book_effects, step_effects}
use Rattle.book.proofs.OwnSteps.{either_booked}
use Rattle.book.proofs.StepEvents.{step_event_keeps, step_event_plays, step_event_slots, step_always}
use Rattle.cut_rule.specs.Request.{Request, a_call, a_basket, a_step, request_effects, request_fault, request_updates, RequestCorrect, TypedRequest}
use Rattle.cut_rule.specs.Request.{world_after_request, map_after_request}
use Rattle.cut_rule.specs.Rule.{CrashCorrect, PlaysCorrect, HistoryCorrect, CutRuleIn, CutRule}

pub typed_request : (l n : ℕ) (event : Event Request) → FitsBy (TypedRequest l) n event → TypedRequest l (request_of event)
typed_request l n (done request) (done_fits t) = t
typed_request l n (struck request cut) (struck_fits t c) = t

module _ (l : ℕ) (Inv : World → PlainMap → Type 0) (laws : SetLaws l Inv) where
  -- ---- one event

  module _ (w : World) (m : PlainMap) (i : Inv w m) where
    pub right : (request : Request) → TypedRequest l request → RequestCorrect l w m request
    right (a_call own call) t = (laws.answers w m i call t, laws.either_call w m i own call)
    right (a_basket own b) t = (laws.answers_basket w m i b t, laws.either_basket w m i own b)
    right (a_step own step) t = (step_right l Inv laws w m i step t, either_booked l Inv laws w m i own step)

    -- what the call of document 01 leaves
    abbrev pub exact_leaves : World → Request → Effects
    exact_leaves v (a_call own call) = effects_of (call_result l w call)
    exact_leaves v (a_basket own b) = basket_effects l w b
    exact_leaves v (a_step own step) = step_effects l w step

    -- what a request leaves here
    abbrev pub leaves_here : World → Request → Effects
    leaves_here v request = request_effects l w request

    -- they are the same: what holds of an event of the one holds of that of the other
    same_leaves : (v : World) (request : Request) → exact_leaves v request ≡ leaves_here v request
    unfolding request_effects
    same_leaves v (a_call own call) = ap effects_of (sym (laws.either_call w m i own call))
    same_leaves v (a_basket own b) = ap effects_of (sym (laws.either_basket w m i own b))
    same_leaves v (a_step own step) = ap book_effects (sym (either_booked l Inv laws w m i own step))

    pub of_either : (P : (World → Request → Effects) → Type 0) → P exact_leaves → P leaves_here
    of_either P p = subst P (fun_ext (λ v. fun_ext (same_leaves v))) p

    -- of an event, by what its request leaves: the invariant after it, the number of slots, and the play of its stores, by counts or as a list
    abbrev pub KeepsBy : Event Request → (World → Request → Effects) → Type 0
    KeepsBy event leaves =
        Inv (step_by l leaves w event)
        (plain_event (is_whole leaves w event) (request_updates m (request_of event)) (refuses (request_fault l w m (request_of event))) m)

    abbrev pub SlotsBy : Event Request → (World → Request → Effects) → Type 0
    SlotsBy event leaves = slots_in (step_by l leaves w event).image ≡ slots_in w.image

    abbrev pub SingleBy : Event Request → (World → Request → Effects) → Type 0
    SingleBy event leaves = PlaysSingle l leaves w event

    abbrev pub ListBy : Event Request → (World → Request → Effects) → Type 0
    ListBy event leaves = PlaysList l leaves w event

    -- and recovery after a cut
    abbrev pub AlwaysBy : Request → Cut → (World → Request → Effects) → Type 0
    AlwaysBy request cut leaves =
        RecoversAlways l (image_cut w (leaves w request) cut)
        (plain_event (is_whole leaves w (struck request cut)) (request_updates m request) (refuses (request_fault l w m request)) m)

    keeps : (event : Event Request) → FitsBy (TypedRequest l) (slots_in w.image) event
        → Inv (world_after_request l w event) (map_after_request l w m event)
    unfolding step_by is_whole request_fault request_updates
    keeps (done (a_call own call)) (done_fits t) = of_either (KeepsBy (done (a_call own call))) (laws.keeps w m i (done call) (done_fits t))
    keeps (done (a_basket own b)) (done_fits t) = of_either (KeepsBy (done (a_basket own b))) (laws.keeps_basket w m i (done b) (done_fits t))
    keeps (done (a_step own step)) (done_fits t) = of_either (KeepsBy (done (a_step own step))) (step_event_keeps l Inv laws w m i (done step) (done_fits t))
    keeps (struck (a_call own call) cut) (struck_fits t c) =
        of_either (KeepsBy (struck (a_call own call) cut)) (laws.keeps w m i (struck call cut) (struck_fits t c))
    keeps (struck (a_basket own b) cut) (struck_fits t c) =
        of_either (KeepsBy (struck (a_basket own b) cut)) (laws.keeps_basket w m i (struck b cut) (struck_fits t c))
    keeps (struck (a_step own step) cut) (struck_fits t c) =
        of_either (KeepsBy (struck (a_step own step) cut)) (step_event_keeps l Inv laws w m i (struck step cut) (struck_fits t c))

    cut_right : (event : Event Request) → FitsBy (TypedRequest l) (slots_in w.image) event → CrashCorrect l w m event
    unfolding is_whole request_fault request_updates
    cut_right (done request) f = tt
    cut_right (struck (a_call own call) cut) (struck_fits t c) =
        of_either (AlwaysBy (a_call own call) cut) (laws.keeps_always w m i call cut (struck_fits t c))
    cut_right (struck (a_basket own b) cut) (struck_fits t c) =
        of_either (AlwaysBy (a_basket own b) cut) (laws.keeps_basket_always w m i b cut (struck_fits t c))
    cut_right (struck (a_step own step) cut) (struck_fits t c) =
        of_either (AlwaysBy (a_step own step) cut) (step_always l Inv laws w m i step cut (struck_fits t c))

    plays_right : (event : Event Request) → FitsBy (TypedRequest l) (slots_in w.image) event → PlaysCorrect l w event
    unfolding step_by
    plays_right (done (a_call own call)) (done_fits t) = of_either (SingleBy (done (a_call own call))) (laws.plays_event w m i (done call) (done_fits t))
    plays_right (done (a_basket own b)) (done_fits t) = of_either (ListBy (done (a_basket own b))) (laws.plays_basket w m i (done b) (done_fits t))
    plays_right (done (a_step own step)) (done_fits t) =
        of_either (SingleBy (done (a_step own step))) (step_event_plays l Inv laws w m i (done step) (done_fits t))
    plays_right (struck (a_call own call) cut) (struck_fits t c) =
        of_either (SingleBy (struck (a_call own call) cut)) (laws.plays_event w m i (struck call cut) (struck_fits t c))
    plays_right (struck (a_basket own b) cut) (struck_fits t c) =
        of_either (ListBy (struck (a_basket own b) cut)) (laws.plays_basket w m i (struck b cut) (struck_fits t c))
    plays_right (struck (a_step own step) cut) (struck_fits t c) =
        of_either (SingleBy (struck (a_step own step) cut)) (step_event_plays l Inv laws w m i (struck step cut) (struck_fits t c))

    same_slots : (event : Event Request) → FitsBy (TypedRequest l) (slots_in w.image) event
        → slots_in (world_after_request l w event).image ≡ slots_in w.image
    unfolding step_by
    same_slots (done (a_call own call)) (done_fits t) = of_either (SlotsBy (done (a_call own call))) (laws.keeps_slots w m i (done call) (done_fits t))
    same_slots (done (a_basket own b)) (done_fits t) = of_either (SlotsBy (done (a_basket own b))) (laws.keeps_basket_slots w m i (done b) (done_fits t))
    same_slots (done (a_step own step)) (done_fits t) =
        of_either (SlotsBy (done (a_step own step))) (step_event_slots l Inv laws w m i (done step) (done_fits t))
    same_slots (struck (a_call own call) cut) (struck_fits t c) =
        of_either (SlotsBy (struck (a_call own call) cut)) (laws.keeps_slots w m i (struck call cut) (struck_fits t c))
    same_slots (struck (a_basket own b) cut) (struck_fits t c) =
        of_either (SlotsBy (struck (a_basket own b) cut)) (laws.keeps_basket_slots w m i (struck b cut) (struck_fits t c))
    same_slots (struck (a_step own step) cut) (struck_fits t c) =
        of_either (SlotsBy (struck (a_step own step) cut)) (step_event_slots l Inv laws w m i (struck step cut) (struck_fits t c))

  -- ---- every list

  -- the invariant of a set of n slots
  abbrev pub InvOf : (n : ℕ) → World → PlainMap → Type 0
  InvOf n w m = Inv w m × (slots_in w.image ≡ n)

  pub fits_here : (n : ℕ) (w : World) (m : PlainMap) (event : Event Request) → InvOf n w m → FitsBy (TypedRequest l) n event
      → FitsBy (TypedRequest l) (slots_in w.image) event
  fits_here n w m event i f = subst (λ (k : ℕ). FitsBy (TypedRequest l) k event) (sym i.1) f

  -- every event keeps it
  pub keeps_of : (n : ℕ) (w : World) (m : PlainMap) → InvOf n w m → (event : Event Request) → FitsBy (TypedRequest l) n event
      → InvOf n (world_after_request l w event) (map_after_request l w m event)
  keeps_of n w m i event f =
      let here = fits_here n w m event i f in
      (keeps w m i.0 event here, same_slots w m i.0 event here ∙ i.1)

  -- EVERY LIST OF EVENTS is right
  pub all_right : (w : World) (m : PlainMap) (events : List (Event Request)) → Inv w m → All (FitsBy (TypedRequest l) (slots_in w.image)) events
      → HistoryCorrect l w m events
  all_right w m events i fit =
      throughout _ _ _ _ (InvOf (slots_in w.image)) (FitsBy (TypedRequest l) (slots_in w.image))
      (λ v p j. laws.recovers v p j.0)
      (λ v p j event f.
      let here = fits_here (slots_in w.image) v p event j f in
      (right v p j.0 (request_of event) (typed_request l _ event f), plays_right v p j.0 event here, cut_right v p j.0 event here))
      (keeps_of (slots_in w.image))
      w m events (i, refl) fit

  from_recovery : CallLaws l → CutRuleIn l
  from_recovery calls image start z restart events fit = (
    laws.always image z,
    all_right (restarted l image start) _ events (laws.after-recovery image start z restart)
        (subst (λ (n : ℕ). All (FitsBy (TypedRequest l) n) events) (sym (calls.restart_slots image start)) fit),
  )

-- THE CUT RULE
pub cut_rule : CutRule
cut_rule l layout = from_recovery l _ (set_laws l layout) (call_laws l layout)
