-- An image from which every restart goes on with the plain map: by the laws of the set, those of the book, and the cut rule. Assumes nothing.
use mathlib.Core.Path.{◌≡◌, refl, sym, ap, ◌∙◌, subst, fun_ext}
use mathlib.Core.Bool.{Bool, true}
use mathlib.Core.List.{List, [], ◌∷◌}
use Prim.Native.Nat.{ℕ, suc, ◌+◌, ◌*◌, ◌≤◌, ◌<◌}
use native.Mathlib.Omega.{arith}
use lib.ListN.{length, get_or}
use Rattle.prelude.specs.Answer.{refuses}
use Rattle.prelude.specs.Members.{none_left, one_more, All}
use Rattle.interface.specs.Set.{played, standing, all_stand, recover_fault, World, PlainMap, Call, Typed, slots_in, slots_of, slots_map, index_fault}
use Rattle.interface.specs.Set.{recover_result}
use Rattle.interface.specs.Set.{stores_in, Restart, Round, restarted, after_round, after_rounds, invalidated_world, world_after, Accepted}
use Rattle.interface.specs.Event.{done, struck, Cut, Effects, step_by, image_cut, is_whole, plain_event, RoundFits, RestartFits, done_fits, struck_fits, Fits}
use Rattle.interface.specs.Recovers.{Recovers, RecoversAlways}
use Rattle.interface.specs.Laws.{CallLaws, SetLaws}
use Rattle.cut_rule.specs.Request.{Request, a_call, a_basket, a_step, request_effects, request_fault, request_updates, RequestCorrect, TypedRequest}
use Rattle.cut_rule.specs.Rule.{PlaysCorrect}
use Rattle.cut_rule.proofs.CutRule.{keeps_of, all_right}
use Rattle.restart_machine.proofs.defs.Laws.{Inside}
use Rattle.restart_machine.proofs.Inside.{played_inside}

-- recovery of the image gives m, and so it does however often it is cut among its invalidating stores; after any restart the set and m go together
pub record Ready (l : ℕ) (Inv : World → PlainMap → Type 0) (n : ℕ) (image : List ℕ) (m : PlainMap) : Type 0 where
  pub slots : slots_in image ≡ n
  pub now : Recovers l image m
  pub starts : (r : Restart) → RestartFits n r → Inv (restarted l image r) m
  pub always : (rounds : List Round) → All (RoundFits n) rounds → Recovers l (after_rounds l image rounds) m

-- a restart with no cut among its invalidating stores
abbrev pub plainly : (heads index : List ℕ) → Restart
plainly heads index = record { rounds = []; lent = record { heads = heads; next = index } }

-- with one first
abbrev pub again : Round → Restart → Restart
again round r = record { rounds = round ∷ r.rounds; lent = r.lent }

module _ (l : ℕ) (Inv : World → PlainMap → Type 0) (laws : SetLaws l Inv) (calls : CallLaws l) where
  -- ---- an accepted image

  pub accepted_ready : (image : List ℕ) → Accepted l image → Ready l Inv (slots_in image) image (slots_map l image)
  unfolding after_rounds
  accepted_ready image a =
      record {
        slots = refl;
        now = laws.always image a [] none_left;
        starts = λ r f. laws.after-recovery image r a f;
        always = laws.always image a;
      }

  -- ---- the image of a set in use

  module _ (n : ℕ) where
    pub inv_ready : (w : World) (m : PlainMap) → Inv w m → slots_in w.image ≡ n → Ready l Inv n w.image m
    inv_ready w m i e =
        record {
          slots = e;
          now = laws.recovers w m i;
          starts = λ r f. subst (Inv (restarted l w.image r)) same (laws.after-recovery w.image r (laws.accepts w m i) (here r f));
          always = λ rs f.
              subst (λ (x : PlainMap). Recovers l (after_rounds l w.image rs) x) same
              (laws.always w.image (laws.accepts w m i) rs (subst (λ (k : ℕ). All (RoundFits k) rs) (sym e) f));
        }
      where
        same : slots_map l w.image ≡ m
        same = fun_ext (laws.recovers w m i).map

        here : (r : Restart) → RestartFits n r → RestartFits (slots_in w.image) r
        here r f = subst (λ (k : ℕ). RestartFits k r) (sym e) f

    -- ---- an image with some of recovery's invalidating stores

    module _ (image : List ℕ) (m : PlainMap) (ready : Ready l Inv n image m) (heads index : List ℕ)
        (fits : index_fault n (length heads) (length index) ≡ 0) where
      plain_fits : RestartFits n (plainly heads index)
      plain_fits = record { rounds = none_left; size = fits }

      pub round_ready : (c : ℕ → ℕ) → Ready l Inv n (played (standing c (stores_in (recover_result l image heads index).invalidations)) image) m
      unfolding restarted after_rounds after_round
      round_ready c =
          record {
            slots = ap slots_of (calls.plays_length _ image) ∙ ready.slots;
            now = ready.always (round ∷ []) (one_more fits none_left);
            starts = λ r f. ready.starts (again round r) (more r f);
            always = λ rs f. ready.always (round ∷ rs) (one_more fits f);
          }
        where
          round : Round
          round = record { lent = record { heads = heads; next = index }; counts = c }

          more : (r : Restart) → RestartFits n r → RestartFits n (again round r)
          more r f = record { rounds = one_more fits f.rounds; size = f.size }

      -- with all of them the set and the plain map go together
      pub opened_inv : Inv
          (record {
            image = played (stores_in (recover_result l image heads index).invalidations) image;
            index = (recover_result l image heads index).index;
          })
          m
      unfolding restarted after_rounds invalidated_world world_after
      opened_inv = ready.starts (plainly heads index) plain_fits

      pub invalidations_inside : Inside (length image) (stores_in (recover_result l image heads index).invalidations)
      invalidations_inside =
          played_inside image _ _ (ready.now.plays_invalidations heads index
          (subst (λ (k : ℕ). index_fault k (length heads) (length index) ≡ 0) (sym ready.slots) fits))

    -- ---- an image with some of a request's stores

    module _ (w : World) (m : PlainMap) (i : Inv w m) (e : slots_in w.image ≡ n) (request : Request) (typed : TypedRequest l request) where
      -- the plain map with the request done or not
      abbrev pub map_if : Bool → PlainMap
      map_if b = plain_event b (request_updates m request) (refuses (request_fault l w m request)) m

      pub struck_ready : (c : ℕ → ℕ) → Ready l Inv n (played (standing c (request_effects l w request).stores) w.image)
          (map_if (all_stand c (request_effects l w request).stores))
      unfolding step_by is_whole image_cut after_rounds
      struck_ready c =
          record {
            slots = ap slots_of (calls.plays_length _ w.image) ∙ e;
            now = anyway [] none_left;
            starts = λ r f. (keeps_of l Inv laws n w m (i, e) (struck request (cutting r)) (struck_fits typed f)).0;
            always = anyway;
          }
        where
          cutting : Restart → Cut
          cutting r = record { counts = c; restart = r }

          anyway : (rs : List Round) → All (RoundFits n) rs
              → Recovers l (after_rounds l (played (standing c (request_effects l w request).stores) w.image) rs)
              (map_if (all_stand c (request_effects l w request).stores))
          anyway rs f =
              (all_right l Inv laws w m (struck request (cutting (plainly w.index.heads w.index.next)) ∷ []) i
              (one_more (struck_fits typed (record { rounds = none_left; size = (laws.lengths w m i).index })) none_left)).1.2 rs
              (subst (λ (k : ℕ). All (RoundFits k) rs) (sym (ap slots_of (calls.plays_length _ w.image) ∙ e)) f)

      pub done_inv : Inv
          (record {
            image = played (request_effects l w request).stores w.image;
            index = (request_effects l w request).index;
          })
          (map_if true)
      unfolding step_by is_whole
      done_inv = (keeps_of l Inv laws n w m (i, e) (done request) (done_fits typed)).0

      pub request_right : RequestCorrect l w m request
      request_right = (all_right l Inv laws w m (done request ∷ []) i (one_more (done_fits typed) none_left)).1.0

    plays : (w : World) (m : PlainMap) → Inv w m → (request : Request) → TypedRequest l request → PlaysCorrect l w (done request)
    plays w m i request t = (all_right l Inv laws w m (done request ∷ []) i (one_more (done_fits t) none_left)).1.1

    pub request_inside : (w : World) (m : PlainMap) → Inv w m → (request : Request) → TypedRequest l request
        → Inside (length w.image) (request_effects l w request).stores
    request_inside w m i (a_call own call) t = played_inside w.image _ _ (plays w m i (a_call own call) t).0
    request_inside w m i (a_basket own b) t = played_inside w.image _ _ (plays w m i (a_basket own b) t)
    request_inside w m i (a_step own step) t = played_inside w.image _ _ (plays w m i (a_step own step) t).0
