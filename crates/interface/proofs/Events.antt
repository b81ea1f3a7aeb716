-- One event, struck or not, keeps the set and the plain map together. Assumes nothing.
use mathlib.Core.Path.{◌≡◌, refl, sym, ap, ap₂, ◌∙◌, subst, fun_ext}
use mathlib.Core.Bool.{Bool}
use mathlib.Core.List.{List, [], ◌∷◌}
use Prim.Native.Nat.{ℕ}
use lib.ListN.{length}
use Rattle.prelude.specs.Members.{All, none_left, one_more}
use Rattle.layout.specs.Record.{Layout}
use Rattle.layout.specs.Size.{slots_of, slots_in}
use Rattle.stores.specs.Store.{Store, played, all_stand}
use Rattle.stores.proofs.Bytes.{played-length}
use Rattle.prelude.specs.Answer.{refuses}
use Rattle.prelude.proofs.defs.Answer.{is_refusal}
use Rattle.plainmap.specs.World.{World, Call, call_result, finished, world_after, Round, after_round, after_rounds, invalidated_world, Restart, restarted}
use Rattle.calls.specs.Result.{CallResult}
use Rattle.plainmap.specs.Plain.{PlainMap, Update, updates}
use Rattle.plainmap.specs.Accepted.{Accepted, RoundFits}
use Rattle.plainmap.specs.Claims.{Typed, expected_refusal, slots_map}
use Rattle.plainmap.specs.Baskets.{Basket, basket_call_result, basket_updates, expected_basket_refusal, BasketCorrect}
use Rattle.plainmap.specs.Consistency.{Refines}
use Rattle.plainmap.proofs.Afters.{After, after_call, after_list, after_standing}
use Rattle.plainmap.proofs.Wrote.{Stepped}
use Rattle.plainmap.proofs.BasketRights.{basket_stepped, basket_right, basket_refuses}
use Rattle.plainmap.proofs.CallLists.{agrees_right, agrees_with, agrees_stepped, agrees_after, agrees_next, after-round, restarted_agrees}
use Rattle.plainmap.proofs.Rights.{right_refuses}
use Rattle.interface.specs.Event.{Cut, Event, done, struck, effects_of, step, is_whole, plain_event, map_after_event, RestartFits, FitsBy, Fits, done_fits}
use Rattle.interface.specs.Event.{struck_fits, step_by, image_cut, TypedBasket, basket_effects, basket_step, map_after_basket}
use Rattle.interface.specs.Plays.{PlaysList}
use Rattle.interface.specs.Recovers.{Recovers, RecoversAlways}
use Rattle.interface.proofs.Images.{accepted_gives}

-- ---- recovery and its invalidating stores

-- RECOVERY GIVES THE MAP, however often it is struck
pub gives_always : (l : ℕ) → Layout l → (n : ℕ) (image : List ℕ) (m : PlainMap) → slots_in image ≡ n → Accepted l image
    → ((k : ℕ) → slots_map l image k ≡ m k) → (rs : List Round) → All (RoundFits n) rs → Recovers l (after_rounds l image rs) m
unfolding after_rounds
gives_always l lay n image m e a h [] none_left = accepted_gives l lay image m a h
gives_always l lay n image m e a h (r ∷ rs) (one_more f fs) =
    let t = after-round l lay image a r (rw e f) in
    gives_always l lay n (after_round l image r) m (t.slots ∙ e) t.accepted (λ k. t.map k ∙ h k) rs fs

-- a restart keeps the number of slots
rounds_length : (l : ℕ) (image : List ℕ) (rs : List Round) → length (after_rounds l image rs) ≡ length image
unfolding after_rounds after_round
rounds_length l image [] = refl
rounds_length l image (r ∷ rs) = rounds_length l (after_round l image r) rs ∙ played-length _ image

pub restarted_slots : (l : ℕ) (image : List ℕ) (r : Restart) → slots_in (restarted l image r).image ≡ slots_in image
unfolding restarted invalidated_world world_after
restarted_slots l image r = ap slots_of (played-length _ (after_rounds l image r.rounds) ∙ rounds_length l image r.rounds)

-- ---- one event of a request, a single call or a basket, that updates these keys, with its result r; `denied` tells whether the rules refuse it

module _ (l : ℕ) (lay : Layout l) (w : World) (m : PlainMap) (g : Refines l w m) (us : List Update) (r : CallResult) (denied : Bool)
    (same : is_refusal r.answer ≡ denied) (stepped : Stepped l w us r) where
  -- with some of its stores played
  after : (counts : ℕ → ℕ) → After l w us r counts
  after counts = after_call l w us r g.accepted counts stepped

  -- a struck request: the plain map's step where all stores stand, and nothing where not
  struck_map : (cut : Cut) (k : ℕ) → slots_map l (image_cut w (effects_of r) cut) k ≡ plain_event (all_stand cut.counts r.stores) us denied m k
  unfolding image_cut plain_event
  struck_map cut k =
      (after cut.counts).map k
      ∙ ap₂ (λ (b : Bool) (x : PlainMap). plain_event (all_stand cut.counts r.stores) us b x k) same (fun_ext g.map)

  -- what comes after a cut fits the image that the cut leaves
  fits_after : (cut : Cut) → RestartFits (slots_in w.image) cut.restart → RestartFits (slots_in (image_cut w (effects_of r) cut)) cut.restart
  unfolding image_cut
  fits_after cut c = subst (λ (n : ℕ). RestartFits n cut.restart) (sym (after cut.counts).slot_count) c

  accepts_after : (cut : Cut) → Accepted l (image_cut w (effects_of r) cut)
  unfolding image_cut
  accepts_after cut = (after cut.counts).accepted

  slots_after : (cut : Cut) → slots_in (image_cut w (effects_of r) cut) ≡ slots_in w.image
  unfolding image_cut
  slots_after cut = (after cut.counts).slot_count

  pub struck_agrees : (cut : Cut) → RestartFits (slots_in w.image) cut.restart
      → Refines l (restarted l (image_cut w (effects_of r) cut) cut.restart) (plain_event (all_stand cut.counts r.stores) us denied m)
  struck_agrees cut c =
      let f = fits_after cut c in
      agrees_with l _ _ _ (restarted_agrees l lay (image_cut w (effects_of r) cut) (accepts_after cut) cut.restart f.rounds f.size) (struck_map cut)

  -- and recovery gives that map, however often it is struck
  pub struck_always : (cut : Cut)
      → RecoversAlways l (image_cut w (effects_of r) cut) (plain_event (all_stand cut.counts r.stores) us denied m)
  struck_always cut = gives_always l lay _ (image_cut w (effects_of r) cut) _ refl (accepts_after cut) (struck_map cut)

  pub struck_slots : (cut : Cut) → RestartFits (slots_in w.image) cut.restart
      → slots_in (restarted l (image_cut w (effects_of r) cut) cut.restart).image ≡ slots_in w.image
  struck_slots cut c =
      restarted_slots l (image_cut w (effects_of r) cut) cut.restart ∙ slots_after cut

played_slots : (ss : List Store) (image : List ℕ) → slots_in (played ss image) ≡ slots_in image
played_slots ss image = ap slots_of (played-length ss image)

-- ---- one event of a single call

module _ (l : ℕ) (lay : Layout l) (w : World) (m : PlainMap) (g : Refines l w m) where
  denied : (call : Call) → Typed l call → is_refusal (call_result l w call).answer ≡ refuses (expected_refusal l w m call)
  denied call s = right_refuses l w m call (agrees_right l lay w m g call s)

  -- ONE EVENT keeps the set and the plain map together
  pub event_agrees : (event : Event Call) → Fits l (slots_in w.image) event → Refines l (step l w event) (map_after_event l w m event)
  unfolding step_by plain_event is_whole finished
  event_agrees (done call) (done_fits s) = agrees_next l lay w m g call s
  event_agrees (struck call cut) (struck_fits s c) =
      struck_agrees l lay w m g (updates call) (call_result l w call) _ (denied call s) (agrees_stepped l lay w m g call s) cut c

  pub event_always : (call : Call) (cut : Cut) → Fits l (slots_in w.image) (struck call cut)
      → RecoversAlways l (image_cut w (effects_of (call_result l w call)) cut) (map_after_event l w m (struck call cut))
  unfolding is_whole
  event_always call cut (struck_fits s c) =
      struck_always l lay w m g (updates call) (call_result l w call) _ (denied call s) (agrees_stepped l lay w m g call s) cut

  -- the number of slots stays
  pub event_slots : (event : Event Call) → Fits l (slots_in w.image) event → slots_in (step l w event).image ≡ slots_in w.image
  unfolding step_by
  event_slots (done call) (done_fits s) = played_slots (call_result l w call).stores w.image
  event_slots (struck call cut) (struck_fits s c) =
      struck_slots l lay w m g (updates call) (call_result l w call) _ (denied call s) (agrees_stepped l lay w m g call s) cut c

  -- ---- and of a basket

  pub basket_answers : (b : Basket) → TypedBasket l b → BasketCorrect l w m b
  basket_answers b s =
      subst (λ (x : PlainMap). BasketCorrect l w x b) (fun_ext g.map) (basket_right l lay w g.chains g.accepted g.consistent g.none_void b)

  pub basket_steps : (b : Basket) → TypedBasket l b → Stepped l w (basket_updates b.changes) (basket_call_result l w b)
  basket_steps b s = basket_stepped l lay w g.chains g.accepted g.consistent g.none_void b s

  basket_denied : (b : Basket) → TypedBasket l b → is_refusal (basket_call_result l w b).answer ≡ refuses (expected_basket_refusal l w m b)
  basket_denied b s = basket_refuses l w m b (basket_answers b s)

  pub basket_agrees : (event : Event Basket) → FitsBy (TypedBasket l) (slots_in w.image) event
      → Refines l (basket_step l w event) (map_after_basket l w m event)
  unfolding step_by plain_event is_whole
  basket_agrees (done b) (done_fits s) = agrees_after l w m g (basket_updates b.changes) (basket_call_result l w b) _ (basket_denied b s) (basket_steps b s)
  basket_agrees (struck b cut) (struck_fits s c) =
      struck_agrees l lay w m g (basket_updates b.changes) (basket_call_result l w b) _ (basket_denied b s) (basket_steps b s) cut c

  pub basket_always : (b : Basket) (cut : Cut) → FitsBy (TypedBasket l) (slots_in w.image) (struck b cut)
      → RecoversAlways l (image_cut w (basket_effects l w b) cut) (map_after_basket l w m (struck b cut))
  unfolding is_whole
  basket_always b cut (struck_fits s c) =
      struck_always l lay w m g (basket_updates b.changes) (basket_call_result l w b) _ (basket_denied b s) (basket_steps b s) cut

  pub basket_keeps_slots : (event : Event Basket) → FitsBy (TypedBasket l) (slots_in w.image) event
      → slots_in (basket_step l w event).image ≡ slots_in w.image
  unfolding step_by
  basket_keeps_slots (done b) (done_fits s) = played_slots (basket_call_result l w b).stores w.image
  basket_keeps_slots (struck b cut) (struck_fits s c) =
      struck_slots l lay w m g (basket_updates b.changes) (basket_call_result l w b) _ (basket_denied b s) (basket_steps b s) cut c

  pub basket_plays : (event : Event Basket) → FitsBy (TypedBasket l) (slots_in w.image) event → PlaysList l (basket_effects l) w event
  unfolding step_by image_cut
  basket_plays (done b) (done_fits s) = after_list l w (basket_updates b.changes) (basket_call_result l w b) g.accepted (basket_steps b s)
  basket_plays (struck b cut) (struck_fits s c) =
      after_standing l w (basket_updates b.changes) (basket_call_result l w b) g.accepted cut.counts (basket_steps b s)
