-- A locate where the image is accepted and the index is its own: it answers the slot that holds the key and its version, or absent. Assumes nothing.
use mathlib.Core.Path.{◌≡◌, refl, sym, ap, ◌∙◌}
use mathlib.Core.Bool.{Bool, true, false, cond}
use mathlib.Core.Option.{Option}
use mathlib.Core.List.{List, [], ◌∷◌}
use Prim.Native.Nat.{ℕ}
use Rattle.words.specs.Word.{word}
use Rattle.prelude.specs.Answer.{gives, absent, refusal_in}
use Rattle.prelude.proofs.Refusals.{or_else_later, taken_leaves}
use Rattle.layout.specs.Size.{slots_in}
use Rattle.layout.specs.Line.{line_a, line_b, version_of}
use Rattle.layout.specs.Content.{content, highest_whole_in, contents_of, size_fields_of}
use Rattle.table.specs.Complete.{table_of}
use Rattle.layout.proofs.Content.{put_at}
use Rattle.table.specs.Table.{decider, holder, live, map_of, is_held}
use Rattle.table.proofs.Settled.{settled-live}
use Rattle.table.proofs.Map.{Live, lives, live_is}
use Rattle.index.specs.Index.{Chain}
use Rattle.index.specs.declared.Found.{Found}
use Rattle.calls.specs.Locate.{locate_fault, locate_done, locate_answer}
use Rattle.plainmap.specs.World.{World, locate, out_of, call_result, reads_only}
use Rattle.plainmap.specs.Plain.{rule_fault, plain_answer, plain_out}
use Rattle.plainmap.specs.Accepted.{Accepted}
use Rattle.plainmap.specs.Consistency.{IndexConsistent}
use Rattle.plainmap.specs.Claims.{slots_map, CallCorrect}
use Rattle.plainmap.proofs.Sees.{Sees, sees_held, sees_absent, sound_sees}
use Rattle.plainmap.proofs.Compares.{few_compared, counts_place}
use Rattle.plainmap.proofs.Refuses.{sound_lent, sound_chain}

-- the version of a live slot is that of its line A
line_version : (l : ℕ) (image : List ℕ) (s : ℕ) → live (table_of l image) (slots_in image) s ≡ true
    → version_of (line_a (word image) s 7) ≡ highest_whole_in (table_of l image s)
unfolding content highest_whole_in
line_version l image s a = go (live_is (table_of l image) (slots_in image) s a)
  where
    go : Live (table_of l image) (slots_in image) s → version_of (line_a (word image) s 7) ≡ highest_whole_in (table_of l image s)
    go (lives w k v e d) =
        (put_at l (line_a (word image) s) (line_b (word image) s) w k v
        (sym (settled-live (contents_of l image) (size_fields_of l image) (slots_in image) s a) ∙ e)).valid.version
        ∙ sym (ap highest_whole_in e)

locate-done : (l : ℕ) (image : List ℕ) (key : ℕ) (chain : List ℕ) (found : Found) → Sees (table_of l image) (slots_in image) key chain found
    → locate_done image found ≡ cond (is_held (map_of (table_of l image) (slots_in image) key)) (gives (holder (table_of l image) (slots_in image) key)) absent
unfolding locate_done is_held holder
locate-done l image key chain found (sees_held {old} xs ys v d p i q e m u) =
    ap (λ (x : ℕ). gives (old ∷ x ∷ [])) (line_version l image old e)
    ∙ ap (λ (s : ℕ). gives (s ∷ highest_whole_in (table_of l image s) ∷ [])) (sym q)
    ∙ sym (ap (λ (o : Option (List ℕ)). cond (is_held o)
    (gives (decider (table_of l image) (slots_in image) key ∷ highest_whole_in (table_of l image (decider (table_of l image) (slots_in image) key)) ∷ []))
    absent) m)
locate-done l image key chain found (sees_absent p m) =
    sym (ap (λ (o : Option (List ℕ)). cond (is_held o)
    (gives (decider (table_of l image) (slots_in image) key ∷ highest_whole_in (table_of l image (decider (table_of l image) (slots_in image) key)) ∷ []))
    absent) m)

not_refused : (held : Bool) (values : List ℕ) → refusal_in (cond held (gives values) absent) ≡ 0
unfolding refusal_in
not_refused true values = refl
not_refused false values = refl

module _ (l : ℕ) (w : World) (chains : Chain → List ℕ) (a : Accepted l w.image) (s : IndexConsistent l w chains) where
  located : (key : ℕ) → locate_answer l w.image w.index.heads w.index.next key ≡
      cond (is_held (slots_map l w.image key)) (gives (holder (table_of l w.image) (slots_in w.image) key)) absent
  unfolding locate_answer locate_fault
  located key =
      taken_leaves _ _ _ (or_else_later _ _ (sound_lent l w chains a s) ∙ sound_chain l w chains a s key)
      ∙ locate-done l w.image key _ _ (sound_sees l w chains s key)

  pub locate_right : (key : ℕ) → CallCorrect l w (slots_map l w.image) (locate key)
  unfolding call_result reads_only plain_answer plain_out rule_fault out_of
  locate_right key =
      record {
        refusal = ap refusal_in (located key) ∙ not_refused (is_held (slots_map l w.image key)) _;
        answer = λ z. located key;
        out = λ z. refl;
        refused_still = λ ne. record { out_kept = refl; no_stores = refl; index_kept = refl };
        absent_still = λ e. record { out_kept = refl; no_stores = refl; index_kept = refl };
        few = few_compared l w chains s (locate key);
        place = counts_place l w chains s (locate key);
      }
