-- The image after a call with its stores played, all of them or what a cut left. Assumes nothing.
use mathlib.Core.Path.{◌≡◌, refl, sym, ap, ◌∙◌, subst}
use mathlib.Core.Bool.{Bool, true, false, cond}
use mathlib.Core.Logic.{◌⊎◌, inl, inr}
use mathlib.Core.List.{List, []}
use Prim.Native.Nat.{ℕ}
use lib.ListN.{length}
use Rattle.words.specs.Word.{word}
use Rattle.prelude.proofs.Choice.{split}
use Rattle.layout.specs.Size.{slots_in}
use Rattle.layout.specs.Content.{contents_of, size_fields_of}
use Rattle.stores.specs.Store.{Store, played, standing, all_stand}
use Rattle.stores.specs.Play.{play_end, play_list_result, word_numbers, values}
use Rattle.stores.specs.Basket.{BasketRecord, basket_stores}
use Rattle.stores.proofs.defs.Cut.{StoresInside, nil_in}
use Rattle.table.specs.Complete.{size_field_for, NoneVoid}
use Rattle.stores.proofs.AllStand.{all_standing, many_stand}
use Rattle.stores.proofs.Bytes.{standing_inside}
use Rattle.index.specs.Index.{Index}
use Rattle.prelude.proofs.defs.Answer.{is_refusal}
use Rattle.plainmap.specs.World.{World}
use Rattle.calls.specs.Result.{CallResult}
use Rattle.plainmap.specs.Plain.{PlainMap, Update, plain_step}
use Rattle.plainmap.specs.Accepted.{Accepted}
use Rattle.plainmap.specs.Claims.{slots_map}
use Rattle.plainmap.proofs.Playing.{list_played}
use Rattle.plainmap.proofs.Wrote.{world_with, SomeSound, next_of, WroteRecords, Stepped, stored_none, stored_records}
use Rattle.plainmap.proofs.Struck.{stores_inside, struck_image, struck_slots, struck, struck_accepted, whole_finished, whole_none_void}
use Rattle.plainmap.proofs.Struck.{whole_map, torn_map}

-- the image after a cut in a call
abbrev pub cut_image : World → CallResult → (counts : ℕ → ℕ) → List ℕ
cut_image w r counts = played (standing counts r.stores) w.image

-- it is accepted, as long as before, and its map made the plain map's step where all stores stand
pub record After (l : ℕ) (w : World) (us : List Update) (r : CallResult) (counts : ℕ → ℕ) : Type 0 where
  pub accepted : Accepted l (cut_image w r counts)
  pub slot_count : slots_in (cut_image w r counts) ≡ slots_in w.image
  pub map :
      (k : ℕ)
      → slots_map l (cut_image w r counts) k ≡
      (cond (all_stand counts r.stores) (plain_step (us) (is_refusal r.answer) (slots_map l w.image))
      (slots_map l w.image)) k

nothing_stands : (counts : ℕ → ℕ) → (standing counts [] ≡ []) × (all_stand counts [] ≡ true)
unfolding standing all_stand
nothing_stands counts = (refl, refl)

either : (t : Bool) (m m' : PlainMap) (k : ℕ) → m k ≡ m' k → m k ≡ (cond t m' m) k
either true m m' k e = e
either false m m' k e = refl

module _ (l : ℕ) (w : World) (us : List Update) (r : CallResult) (accepted : Accepted l w.image) where
  -- no stores
  image_kept : (counts : ℕ → ℕ) → r.stores ≡ [] → cut_image w r counts ≡ w.image
  unfolding played
  image_kept counts none =
      ap (λ (ss : List Store). played (standing counts ss) w.image) none ∙ ap (λ (ss : List Store). played ss w.image) (nothing_stands counts).0

  as_struck : (counts : ℕ → ℕ) (es : List BasketRecord) (i : Index) (alive newest : ℕ)
      → r.stores ≡ basket_stores l (word w.image) (size_field_for (length es)) (next_of l w.image) es
      → (wr : WroteRecords l w es i alive newest) → cut_image w r counts ≡ struck_image l w es i alive newest accepted wr counts
  as_struck counts es i alive newest stores wr = ap (λ (ss : List Store). played (standing counts ss) w.image) stores

  -- THE IMAGE AFTER A CALL
  pub after_call : (counts : ℕ → ℕ) → Stepped l w us r → After l w us r counts
  after_call counts (stored_none none sound same) =
      let e = image_kept counts none in
      record {
        accepted = subst (Accepted l) (sym e) accepted;
        slot_count = ap (λ (t : List ℕ). slots_in t) e;
        map = λ k. ap (λ (t : List ℕ). slots_map l t k) e ∙ either (all_stand counts r.stores) (slots_map l w.image) _ k (same k);
      }
  after_call counts (stored_records es i alive newest stores world wr step) =
      let e = as_struck counts es i alive newest stores wr in
      record {
        accepted = subst (Accepted l) (sym e) (struck_accepted l w es i alive newest accepted wr counts);
        slot_count = ap (λ (t : List ℕ). slots_in t) e ∙ struck_slots l w es i alive newest accepted wr counts;
        map = λ k. ap (λ (t : List ℕ). slots_map l t k) e ∙ go k (split (all_stand counts r.stores));
      }
    where
      go : (k : ℕ) → (all_stand counts r.stores ≡ true) ⊎ (all_stand counts r.stores ≡ false)
          → slots_map l (struck_image l w es i alive newest accepted wr counts) k ≡
          (cond (all_stand counts r.stores) (plain_step (us) (is_refusal r.answer) (slots_map l w.image))
          (slots_map l w.image)) k
      go k (inl a) =
          whole_map l w es i alive newest accepted wr counts (sym (ap (all_stand counts) stores) ∙ a) k ∙ step k
          ∙ sym (ap (λ (t : Bool). (cond t (plain_step (us) (is_refusal r.answer) (slots_map l w.image)) (slots_map l w.image)) k) a)
      go k (inr a) =
          torn_map l w es i alive newest accepted wr counts (sym (ap (all_stand counts) stores) ∙ a) k
          ∙ sym (ap (λ (t : Bool). (cond t (plain_step (us) (is_refusal r.answer) (slots_map l w.image)) (slots_map l w.image)) k) a)

  -- with all stores played
  abbrev all : ℕ → ℕ
  all = λ n. length r.stores

  pub all-played : cut_image w r all ≡ played r.stores w.image
  all-played = ap (λ (ss : List Store). played ss w.image) (all_standing all r.stores (many_stand r.stores))

  -- NO RECORD IS VOID after a call with all its stores played
  pub after_none_void : NoneVoid (contents_of l w.image) (size_fields_of l w.image) (slots_in w.image) → Stepped l w us r
      → NoneVoid (contents_of l (played r.stores w.image)) (size_fields_of l (played r.stores w.image)) (slots_in (played r.stores w.image))
  after_none_void none_void (stored_none none sound same) =
      subst (λ (t : List ℕ). NoneVoid (contents_of l t) (size_fields_of l t) (slots_in t)) (sym (image_kept all none) ∙ all-played) none_void
  after_none_void none_void (stored_records es i alive newest stores world wr step) =
      subst (λ (t : List ℕ). NoneVoid (contents_of l t) (size_fields_of l t) (slots_in t)) (sym (as_struck all es i alive newest stores wr) ∙ all-played)
      (subst (λ (x : ℕ). NoneVoid (contents_of l (struck_image l w es i alive newest accepted wr all))
      (size_fields_of l (struck_image l w es i alive newest accepted wr all)) x)
      (sym (struck_slots l w es i alive newest accepted wr all))
      (whole_none_void l w es i alive newest accepted wr all (sym (ap (all_stand all) stores) ∙ many_stand r.stores)))

  -- THE INDEX AFTER A CALL with all its stores played
  pub after_sound : Stepped l w us r → SomeSound l (world_with (played r.stores w.image) r)
  after_sound (stored_none none sound same) =
      subst (λ (t : List ℕ). SomeSound l (world_with t (r))) (sym (image_kept all none) ∙ all-played) sound
  after_sound (stored_records es i alive newest stores world wr step) =
      subst (λ (t : List ℕ). SomeSound l (world_with t (r))) (sym (as_struck all es i alive newest stores wr) ∙ all-played)
      (subst (SomeSound l) (sym (world (struck_image l w es i alive newest accepted wr all)))
      (wr.sound (struck_image l w es i alive newest accepted wr all) (struck_slots l w es i alive newest accepted wr all)
      (struck l w es i alive newest accepted wr all)
      (whole_finished l w es i alive newest accepted wr all (sym (ap (all_stand all) stores) ∙ many_stand r.stores))))

  after_inside : Stepped l w us r → StoresInside (length w.image) r.stores
  after_inside (stored_none none sound same) = rw none nil_in
  after_inside (stored_records es i alive newest stores world wr step) = rw stores (stores_inside l w es i alive newest accepted wr)

  -- THE PLAY OF A LIST of a call's stores makes them all
  pub after_list : Stepped l w us r
      → play_list_result w.image (word_numbers r.stores) (values r.stores) ≡ play_end 0 (played r.stores w.image)
  after_list step = list_played w.image r.stores (after_inside step)

  -- and of those that stand makes these
  pub after_standing : (counts : ℕ → ℕ) → Stepped l w us r
      → play_list_result w.image (word_numbers (standing counts r.stores)) (values (standing counts r.stores)) ≡
      play_end 0 (played (standing counts r.stores) w.image)
  after_standing counts step = list_played w.image (standing counts r.stores) (standing_inside counts (after_inside step))
