-- The set is a plain map: every call, every list of calls, and a formatted image. Assumes nothing.
use mathlib.Core.Path.{◌≡◌, refl, sym, ap, ◌∙◌, subst, fun_ext, ap₂}
use mathlib.Core.Bool.{Bool, cond}
use mathlib.Core.Option.{none}
use mathlib.Core.List.{List, [], ◌∷◌}
use Prim.Native.Nat.{ℕ, ◌^◌, ◌<◌}
use Rattle.words.specs.Word.{word}
use Rattle.prelude.specs.Answer.{refuses}
use Rattle.stores.specs.Store.{played}
use Rattle.stores.specs.Play.{play_end, play_list_result, word_numbers, values}
use Rattle.layout.specs.Size.{slots_of, slots_in}
use Rattle.layout.specs.Header.{index_fault}
use Rattle.layout.specs.Content.{empty, Table, contents_of, size_fields_of}
use Rattle.table.specs.Complete.{table_of, NoneVoid}
use Rattle.table.proofs.Complete.{settled_same}
use Rattle.table.proofs.Formatted.{format_none_void}
use Rattle.stores.proofs.AllStand.{many_stand}
use Rattle.table.proofs.Invalidations.{opened_image}
use Rattle.prelude.proofs.defs.Answer.{is_refusal}
use lib.ListN.{length}
use Rattle.table.specs.Table.{rank_for_key, value_at, map_of}
use Rattle.prelude.specs.Members.{Slot, All, none_left, one_more}
use Rattle.prelude.proofs.Histories.{throughout}
use Rattle.table.proofs.Map.{decider_none}
use Rattle.recovery.specs.Recover.{slots_fault, recover_result, chains_of}
use Rattle.calls.specs.Format.{formatted}
use Rattle.calls.proofs.Formats.{formatted-length, formatted_fault, formatted_content}
use Rattle.plainmap.proofs.FormattedImages.{formatted_slots}
use Rattle.plainmap.specs.World.{World, Call, call_result, finished, world_after, recovered_world}
use Rattle.plainmap.specs.World.{invalidated_world, Round, after_round, after_rounds, Restart, restarted}
use Rattle.calls.specs.Result.{CallResult}
use Rattle.plainmap.specs.Plain.{PlainMap, Update, updates, plain_step}
use Rattle.plainmap.specs.Accepted.{Accepted, RightSize}
use Rattle.plainmap.specs.Consistency.{IndexConsistent, Refines}
use Rattle.layout.specs.Record.{Layout}
use Rattle.plainmap.specs.Claims.{Typed, slots_map, expected_refusal, CallCorrect, Reads, map_after_call}
use Rattle.plainmap.specs.Map.{PlainRule}
use Rattle.plainmap.proofs.Sounds.{recovered_sound}
use Rattle.plainmap.proofs.Wrote.{world_with, SomeSound, some_sound, Stepped}
use Rattle.plainmap.proofs.Opens.{sound_same, opened_same, opened_accepts, opened-image, none_void_after, round_same, same_map, size}
use Rattle.plainmap.proofs.Rights.{right_refuses}
use Rattle.plainmap.proofs.GetAnswers.{sound_reads}
use Rattle.plainmap.proofs.Singles.{call_right, call_stepped}
use Rattle.plainmap.proofs.Afters.{after_call, after_sound, after_none_void, after_list, all-played}

-- ---- every list

-- the map of the slots in the place of m
alike : (l : ℕ) (w : World) (m : PlainMap) → Refines l w m → slots_map l w.image ≡ m
alike l w m g = fun_ext g.map

pub agrees_right : (l : ℕ) → Layout l → (w : World) (m : PlainMap) → Refines l w m → (call : Call) → Typed l call → CallCorrect l w m call
agrees_right l lay w m g call s =
    subst (λ (x : PlainMap). CallCorrect l w x call) (alike l w m g) (call_right l lay w g.chains g.accepted g.consistent g.none_void call)

pub agrees_reads : (l : ℕ) (w : World) (m : PlainMap) → Refines l w m → Reads l w m
agrees_reads l w m g = subst (λ (x : PlainMap). Reads l w x) (alike l w m g) (sound_reads l w g.chains g.accepted g.consistent)

pub agrees_by : (l : ℕ) (w : World) (m : PlainMap) → Accepted l w.image
    → NoneVoid (contents_of l w.image) (size_fields_of l w.image) (slots_in w.image) → SomeSound l w
    → ((k : ℕ) → slots_map l w.image k ≡ m k) → Refines l w m
agrees_by l w m a void (some_sound chains s) h = record { accepted = a; none_void = void; chains = chains; consistent = s; map = h }

-- m may be given another way
pub agrees_with : (l : ℕ) (w : World) (m m' : PlainMap) → Refines l w m → ((k : ℕ) → m k ≡ m' k) → Refines l w m'
agrees_with l w m m' g h =
    record { accepted = g.accepted; none_void = g.none_void; chains = g.chains; consistent = g.consistent; map = λ k. g.map k ∙ h k }

pub agrees_stepped : (l : ℕ) → Layout l → (w : World) (m : PlainMap) → Refines l w m → (call : Call) → Typed l call
    → Stepped l w (updates call) (call_result l w call)
agrees_stepped l lay w m g call s = call_stepped l lay w g.chains g.accepted g.consistent g.none_void call s

-- what a call, single or a basket, leaves with its stores played: `denied` tells whether the rules refuse it
pub agrees_after : (l : ℕ) (w : World) (m : PlainMap) → Refines l w m → (us : List Update) (r : CallResult) (denied : Bool) → is_refusal r.answer ≡ denied
    → Stepped l w us r → Refines l (world_with (played r.stores w.image) r) (plain_step us denied m)
agrees_after l w m g us r denied d t =
    let e = all-played l w us r g.accepted in
    let after = after_call l w us r g.accepted (λ n. length r.stores) t in
    agrees_by l (world_with (played r.stores w.image) r) (plain_step us denied m) (subst (Accepted l) e after.accepted)
    (after_none_void l w us r g.accepted g.none_void t) (after_sound l w us r g.accepted t)
    (λ k. ap (λ (x : List ℕ). slots_map l x k) (sym e) ∙ after.map k
    ∙ ap (λ (b : Bool). (cond b (plain_step us (is_refusal r.answer) (slots_map l w.image)) (slots_map l w.image)) k) (many_stand r.stores)
    ∙ ap₂ (λ (b : Bool) (x : PlainMap). plain_step us b x k) d (alike l w m g))

-- EVERY CALL with its stores played leaves an accepted image, a sound index and the plain map's next map
pub agrees_next : (l : ℕ) → Layout l → (w : World) (m : PlainMap) → Refines l w m → (call : Call) → Typed l call
    → Refines l (finished l w call) (map_after_call l w m call)
unfolding finished
agrees_next l lay w m g call s =
    agrees_after l w m g (updates call) (call_result l w call) (refuses (expected_refusal l w m call))
    (right_refuses l w m call (agrees_right l lay w m g call s))
    (agrees_stepped l lay w m g call s)

-- the play of a list of its stores leaves that image too
pub agrees_list : (l : ℕ) → Layout l → (w : World) (m : PlainMap) → Refines l w m → (call : Call) → Typed l call
    → play_list_result w.image (word_numbers (call_result l w call).stores) (values (call_result l w call).stores) ≡ play_end 0 (finished l w call).image
unfolding finished
agrees_list l lay w m g call s = after_list l w (updates call) (call_result l w call) g.accepted (agrees_stepped l lay w m g call s)

-- EVERY LIST OF CALLS answers as the plain map does
pub plain_rule : (l : ℕ) → Layout l → (w : World) (m : PlainMap) (calls : List Call) → Refines l w m → All (Typed l) calls → PlainRule l w m calls
plain_rule l lay =
    throughout _ _ _ _ (Refines l) (Typed l) (λ w m g. (g, agrees_reads l w m g)) (agrees_right l lay) (agrees_next l lay)

-- ---- from a recovered image, and from a formatted one

-- READING THE SLOTS gives what a get through the recovered index gives, for every key
pub recovered_reads : (l : ℕ) (image heads next : List ℕ) → Accepted l image → RightSize image heads next
    → Reads l (recovered_world l image heads next) (slots_map l image)
unfolding recovered_world world_after
recovered_reads l image heads next a s =
    sound_reads l (recovered_world l image heads next) _ a (recovered_sound l image heads next a s)

-- recovery and all its invalidating stores leave a set that is the plain map of its slots
opened_sound : (l : ℕ) (lay : Layout l) (image heads next : List ℕ) (a : Accepted l image) → RightSize image heads next
    → SomeSound l (invalidated_world l image heads next)
unfolding invalidated_world world_after recovered_world
opened_sound l lay image heads next a s =
    some_sound _
    (subst (λ (t : List ℕ). IndexConsistent l (world_after t (recover_result l image heads next))
    (chains_of (table_of l image) (slots_in image) (length heads)))
    (sym (opened-image l lay image a heads next s))
    (sound_same l (recovered_world l image heads next) _ _ (opened_same l lay image a (λ k. 8)) (recovered_sound l image heads next a s)))

pub opened_agrees : (l : ℕ) (lay : Layout l) (image heads next : List ℕ) (a : Accepted l image) → RightSize image heads next
    → Refines l (invalidated_world l image heads next) (slots_map l image)
unfolding invalidated_world world_after
opened_agrees l lay image heads next a s =
    let e = opened-image l lay image a heads next s in
    let same = opened_same l lay image a (λ k. 8) in
    agrees_by l (invalidated_world l image heads next) (slots_map l image)
    (subst (Accepted l) (sym e) (opened_accepts l lay image a (λ k. 8)))
    (subst (λ (t : List ℕ). NoneVoid (contents_of l t) (size_fields_of l t) (slots_in t)) (sym e)
    (subst (λ (x : ℕ). NoneVoid (contents_of l (opened_image l lay image (slots_in image) (size l lay image a) (λ k. 8)))
    (size_fields_of l (opened_image l lay image (slots_in image) (size l lay image a) (λ k. 8))) x) (sym same.slots) (none_void_after l lay image a)))
    (opened_sound l lay image heads next a s)
    (λ k. ap (λ (t : List ℕ). slots_map l t k) e ∙ same_map l image _ same k)

-- ROUND AFTER ROUND the image stays accepted, with the same map
pub record AfterRounds (l : ℕ) (image image' : List ℕ) : Type 0 where
  pub accepted : Accepted l image'
  pub slots : slots_in image' ≡ slots_in image
  pub map : (k : ℕ) → slots_map l image' k ≡ slots_map l image k

pub after-round : (l : ℕ) → Layout l → (image : List ℕ) → Accepted l image → (r : Round) → RightSize image r.lent.heads r.lent.next
    → AfterRounds l image (after_round l image r)
after-round l lay image a r fits =
    let e = round_same l lay image a r fits in
    let same = opened_same l lay image a r.counts in
    record {
      accepted = subst (Accepted l) (sym e) (opened_accepts l lay image a r.counts);
      slots = ap (λ (t : List ℕ). slots_in t) e ∙ same.slots;
      map = λ k. ap (λ (t : List ℕ). slots_map l t k) e ∙ same_map l image _ same k;
    }

pub after-rounds : (l : ℕ) → Layout l → (n : ℕ) (image : List ℕ) → slots_in image ≡ n → Accepted l image → (rs : List Round)
    → All (λ (r : Round). index_fault n (length r.lent.heads) (length r.lent.next) ≡ 0) rs → AfterRounds l image (after_rounds l image rs)
unfolding after_rounds
after-rounds l lay n image e a [] none_left = record { accepted = a; slots = refl; map = λ k. refl }
after-rounds l lay n image e a (r ∷ rs) (one_more f fs) =
    let first = after-round l lay image a r (rw e f) in
    let rest = after-rounds l lay n (after_round l image r) (first.slots ∙ e) first.accepted rs fs in
    record { accepted = rest.accepted; slots = rest.slots ∙ first.slots; map = λ k. rest.map k ∙ first.map k }

-- A RESTART leaves a set that is the plain map of the slots of the image
pub restarted_agrees : (l : ℕ) → Layout l → (image : List ℕ) → Accepted l image → (r : Restart)
    → All (λ (x : Round). index_fault (slots_in image) (length x.lent.heads) (length x.lent.next) ≡ 0) r.rounds
    → index_fault (slots_in image) (length r.lent.heads) (length r.lent.next) ≡ 0 → Refines l (restarted l image r) (slots_map l image)
unfolding restarted
restarted_agrees l lay image a r fs f =
    let t = after-rounds l lay (slots_in image) image refl a r.rounds fs in
    agrees_with l _ _ (slots_map l image)
    (opened_agrees l lay (after_rounds l image r.rounds) r.lent.heads r.lent.next t.accepted
    (ap (λ (x : ℕ). index_fault x (length r.lent.heads) (length r.lent.next)) t.slots ∙ f)) t.map

empty-map : (f : Table) (n k : ℕ) → ((t : ℕ) → Slot n t → f t ≡ empty) → map_of f n k ≡ none
unfolding map_of value_at rank_for_key
empty-map f n k h = ap (value_at f) (decider_none f n k (λ t i. ap (rank_for_key k) (h t i)))

formatted_none_void : (l len : ℕ) → (slots_of len ≡ 0 → ⊥) → l < 2 ^ 64
    → NoneVoid (contents_of l (formatted l len)) (size_fields_of l (formatted l len)) (slots_in (formatted l len))
formatted_none_void l len ne b =
    format_none_void (contents_of l (formatted l len)) (size_fields_of l (formatted l len)) (slots_in (formatted l len))
    (λ t i. formatted_content l l len t ne b i.0)

-- A FORMATTED IMAGE is accepted, and its map is empty
pub formatted_empty : (l len : ℕ) → (slots_of len ≡ 0 → ⊥) → l < 2 ^ 64 → (k : ℕ) → slots_map l (formatted l len) k ≡ none
formatted_empty l len ne b k =
    empty-map (table_of l (formatted l len)) (slots_in (formatted l len)) k
    (λ t i.
    settled_same (contents_of l (formatted l len)) (size_fields_of l (formatted l len)) (slots_in (formatted l len)) t (formatted_none_void l len ne b t i)
    ∙ formatted_content l l len t ne b i.0)

pub formatted_fine : (l len : ℕ) → (slots_of len ≡ 0 → ⊥) → l < 2 ^ 64 → Accepted l (formatted l len)
formatted_fine l len ne b =
    record {
      header = formatted_fault l len ne b;
      records = ap (λ (x : ℕ). slots_fault l (word (formatted l len)) (slots_of x)) (formatted-length l len) ∙ formatted_slots l len ne b;
    }
