-- A basket on an index whose slots stand in their places leaves such an index: the keys' slots move, and the reuse
-- chain gets what they append. Assumes nothing.
use mathlib.Core.Path.{◌≡◌, refl, sym, ap, ◌∙◌, fun_ext}
use mathlib.Core.Bool.{Bool, true, false, cond, not}
use mathlib.Core.Logic.{inl, inr}
use mathlib.Core.List.{List, [], ◌∷◌, ◌++◌, append-nil, append_assoc}
use Prim.Native.Nat.{ℕ, ◌+◌, ◌<◌, ◌≤◌}
use native.Mathlib.Omega.{arith}
use lib.Dec.{eqb, ltb}
use lib.ListN.{length}
use borrow.Author.Tests.{eq-eqb, ne_eqb, eqb-false, ltb-false}
use Rattle.prelude.specs.Filter.{filter}
use Rattle.prelude.specs.Members.{In, Once, All, none_left, one_more, Slot}
use Rattle.prelude.proofs.defs.Among.{member}
use Rattle.prelude.proofs.Among.{in_member, out_member, member_tail}
use Rattle.prelude.proofs.Choice.{pick_true, pick_false}
use Rattle.prelude.proofs.Lists.{in_left, in_right}
use Rattle.index.specs.Index.{Chain, reuse, head, Index}
use Rattle.index.specs.Linked.{Owner, free, of, Entry, WellFormed, placed, ChainsPartition}
use Rattle.index.specs.Basket.{all_taken_of, taken_slots, Item, link_by, link_item, link_all, basket_index}
use Rattle.index.specs.declared.Action.{Action}
use Rattle.index.specs.declared.Action.TheVariants.{Write, Remove}
use Rattle.index.specs.declared.Mode.TheVariants.{Insert, Replace}
use Rattle.index.proofs.defs.Linked.{give, with_chain}
use Rattle.index.proofs.defs.TakenIn.{takes_in}
use Rattle.index.proofs.defs.Items.{freed, item_slots, olds_by, olds_of, appends_by, appends_of, goes_to, moved_one, moved_by, OldStands, Ready, Linkable}
use Rattle.index.proofs.Owners.{Told, is, isnt, told, reuse_apart, give_same, give_other, with_same, with_other}
use Rattle.index.proofs.Searches.{Seen, hit, miss, seen}
use Rattle.index.proofs.CallWrites.{formed_alike}
use Rattle.index.proofs.Sits.{placed_in}
use Rattle.index.proofs.TakeAll.{sits_takes, sits_taken, sits_taken_once}
use Rattle.index.proofs.LinkItems.{formed_insert_by, formed_replace_by, formed_remove_by}
use Rattle.index.proofs.BasketSizes.{take_all_next, take_all_heads, link_item_next, link_item_heads, basket_next, basket_heads}

-- ---- owners and places

freed_in : (owner : ℕ → Owner) (ss : List ℕ) (x : ℕ) → In x ss → freed owner ss x ≡ free
unfolding freed
freed_in owner ss x m = pick_true _ _ _ (in_member ss x m)

freed_out : (owner : ℕ → Owner) (ss : List ℕ) (x : ℕ) → (In x ss → ⊥) → freed owner ss x ≡ owner x
unfolding freed
freed_out owner ss x n = pick_false _ _ _ (out_member ss x n)

freed_tail : (owner : ℕ → Owner) (s : ℕ) (ss : List ℕ) (x : ℕ) → (x ≡ s → ⊥) → freed owner (s ∷ ss) x ≡ freed owner ss x
unfolding freed
freed_tail owner s ss x n = ap (λ (b : Bool). cond b free (owner x)) (member_tail s x ss n)

freed_alike : (o p : ℕ → Owner) (ss : List ℕ) (x : ℕ) → o x ≡ p x → freed o ss x ≡ freed p ss x
unfolding freed
freed_alike o p ss x e = ap (λ (q : Owner). cond (member ss x) free q) e

freed_none : (owner : ℕ → Owner) → freed owner [] ≡ owner
freed_none owner = fun_ext (λ x. freed_out owner [] x (λ m. m))

-- the owner of a number, by two places that agree on it where it is a slot
placed_same : (n : ℕ) (place place' : ℕ → Chain) (x : ℕ) → (0 < x → x ≤ n → place x ≡ place' x) → placed n place x ≡ placed n place' x
unfolding placed
placed_same n place place' x h = go (eqb x 0) refl (ltb n x) refl
  where
    go : (a : Bool) → eqb x 0 ≡ a → (b : Bool) → ltb n x ≡ b
        → cond a free (cond b free (of (place x))) ≡ cond a free (cond b free (of (place' x)))
    go true p b q = refl
    go false p true q = refl
    go false p false q = ap of (h (omega (arith, eqb-false x 0 p)) (ltb-false n x q))

-- one key's moves
module _ (k : Item) (place : ℕ → Chain) where
  moved_slot : moved_one k place k.slot ≡ goes_to k.action k.key_head
  unfolding moved_one
  moved_slot = pick_true _ _ _ (eq-eqb k.slot k.slot refl)

  moved-old : (k.old ≡ k.slot → ⊥) → moved_one k place k.old ≡ reuse
  unfolding moved_one
  moved-old n = pick_false _ _ _ (ne_eqb k.old k.slot n) ∙ pick_true _ _ _ (eq-eqb k.old k.old refl)

  moved_else : (x : ℕ) → (x ≡ k.slot → ⊥) → (x ≡ k.old → ⊥) → moved_one k place x ≡ place x
  unfolding moved_one
  moved_else x n m = pick_false _ _ _ (ne_eqb x k.slot n) ∙ pick_false _ _ _ (ne_eqb x k.old m)

-- the owners after a key's change: its slot s joins its chain, and the keys after it have `rest` to join theirs
module _ (n : ℕ) (k : Item) (place : ℕ → Chain) (rest : List ℕ) (ls : Slot n k.slot) (alone : In k.slot rest → ⊥) where
  slot_goes : freed (placed n (moved_one k place)) rest k.slot ≡ of (goes_to k.action k.key_head)
  slot_goes =
      freed_out _ rest k.slot alone ∙ placed_in n (moved_one k place) k.slot ls.0 ls.1 ∙ ap of (moved_slot k place)

  stays : (x : ℕ) → (x ≡ k.slot → ⊥) → (0 < x → x ≡ k.old → ⊥)
      → freed (placed n place) (k.slot ∷ rest) x ≡ freed (placed n (moved_one k place)) rest x
  stays x u v =
      freed_tail _ k.slot rest x u
      ∙ freed_alike _ _ rest x (placed_same n place (moved_one k place) x (λ l m. sym (moved_else k place x u (v l))))

  -- a key that has no old record
  owners_new : k.old ≡ 0
      → give (freed (placed n place) (k.slot ∷ rest)) k.slot (of (goes_to k.action k.key_head)) ≡ freed (placed n (moved_one k place)) rest
  owners_new e = fun_ext (λ x. go x (told x k.slot))
    where
      go : (x : ℕ) → Told x k.slot
          → give (freed (placed n place) (k.slot ∷ rest)) k.slot (of (goes_to k.action k.key_head)) x ≡ freed (placed n (moved_one k place)) rest x
      go x (is t d) =
          give_same _ k.slot _ x d ∙ sym slot_goes ∙ ap (freed (placed n (moved_one k place)) rest) (sym d)
      go x (isnt t u) = give_other _ k.slot _ x u ∙ stays x u (λ l q. omega arith)

  -- and one that has
  owners_old : Slot n k.old → (k.old ≡ k.slot → ⊥) → (In k.old rest → ⊥)
      → give (give (freed (placed n place) (k.slot ∷ rest)) k.slot (of (goes_to k.action k.key_head))) k.old (of reuse)
      ≡ freed (placed n (moved_one k place)) rest
  owners_old lo ne out = fun_ext (λ x. go x (told x k.old) (told x k.slot))
    where
      F : ℕ → Owner
      F = freed (placed n place) (k.slot ∷ rest)

      G : ℕ → Owner
      G = give F k.slot (of (goes_to k.action k.key_head))

      go : (x : ℕ) → Told x k.old → Told x k.slot → give G k.old (of reuse) x ≡ freed (placed n (moved_one k place)) rest x
      go x (is t d) q =
          give_same G k.old _ x d
          ∙ sym (ap of (moved-old k place ne))
          ∙ sym (placed_in n (moved_one k place) k.old lo.0 lo.1)
          ∙ sym (freed_out _ rest k.old out) ∙ ap (freed (placed n (moved_one k place)) rest) (sym d)
      go x (isnt t u) (is q d) =
          give_other G k.old _ x u ∙ give_same F k.slot _ x d ∙ sym slot_goes ∙ ap (freed (placed n (moved_one k place)) rest) (sym d)
      go x (isnt t u) (isnt q v) = give_other G k.old _ x u ∙ give_other F k.slot _ x v ∙ stays x v (λ l. u)

-- ---- one key

-- an index whose slots stand in their places but for those of ss, which are nobody's, and its reuse chain
record Between (n : ℕ) (place : ℕ → Chain) (ss : List ℕ) (i : Index) (reused : List ℕ) : Type 0 where
  chains : Chain → List ℕ
  formed : WellFormed i (freed (placed n place) ss) chains
  reuse_is : chains reuse ≡ reused

module _
    (n h old s : ℕ) (place : ℕ → Chain) (rest : List ℕ) (i : Index) (chains : Chain → List ℕ)
    (g : WellFormed i (freed (placed n place) (s ∷ rest)) chains) (z : length i.next ≡ n + 1) (ls : Slot n s) (alone : In s rest → ⊥) where
  abbrev item : Action → Item
  item a = record { action = a; key_head = h; old = old; slot = s }

  entry : Entry i s
  entry = record { low = ls.0; high = omega (arith, ls.1) }

  nobody : freed (placed n place) (s ∷ rest) s ≡ free
  nobody = freed_in (placed n place) (s ∷ rest) s (inl refl)

  insert_step : h < length i.heads → old ≡ 0 → Between n (moved_one (item (Write Insert)) place) rest (link_by n i (Write Insert) h old s) (chains reuse ++ [])
  unfolding goes_to
  insert_step a e =
      record {
        chains = with_chain chains (head h) (chains (head h) ++ s ∷ []);
        formed =
            formed_alike (link_by n i (Write Insert) h old s) _ _ _ _ (owners_new n (item (Write Insert)) place rest ls alone e) refl
            (formed_insert_by i _ chains n h s g z entry nobody old a);
        reuse_is = with_other chains (head h) (chains (head h) ++ s ∷ []) reuse (reuse_apart h) ∙ sym (append-nil (chains reuse));
      }

  module _ (lo : Slot n old) (p : place old ≡ head h) (taken : (x : ℕ) → In x (s ∷ rest) → place x ≡ reuse) where
    untaken : (x : ℕ) → In x (s ∷ rest) → old ≡ x → ⊥
    untaken x m e = reuse_apart h (sym (taken x m) ∙ ap place (sym e) ∙ p)

    owned_old : freed (placed n place) (s ∷ rest) old ≡ of (head h)
    owned_old =
        freed_out (placed n place) (s ∷ rest) old (λ m. untaken old m refl) ∙ placed_in n place old lo.0 lo.1 ∙ ap of p

    stood : Seen (λ y. y) old (chains (head h))
    stood = seen (λ y. y) old (chains (head h))

    reuse_then : (new zs : List ℕ) → with_chain (with_chain chains reuse (chains reuse ++ new)) (head h) zs reuse ≡ chains reuse ++ new
    reuse_then new zs =
        with_other (with_chain chains reuse (chains reuse ++ new)) (head h) zs reuse (reuse_apart h) ∙ with_same chains reuse (chains reuse ++ new)

    replace_step : Between n (moved_one (item (Write Replace)) place) rest (link_by n i (Write Replace) h old s) (chains reuse ++ old ∷ [])
    unfolding goes_to
    replace_step = go stood
      where
        go : Seen (λ y. y) old (chains (head h)) → Between n (moved_one (item (Write Replace)) place) rest (link_by n i (Write Replace) h old s)
            (chains reuse ++ old ∷ [])
        go (miss none) = absurd (none old (g.disjoint.owned.has (head h) old owned_old) refl)
        go (hit xs x ys d e none) =
            record {
              chains = with_chain (with_chain chains reuse (chains reuse ++ old ∷ [])) (head h) (xs ++ s ∷ ys);
              formed =
                  formed_alike (link_by n i (Write Replace) h old s) _ _ _ _
                  (owners_old n (item (Write Replace)) place rest ls alone lo (untaken s (inl refl)) (λ m. untaken old (inr m) refl)) refl
                  (formed_replace_by i _ chains n h s g z entry nobody xs old ys (d ∙ ap (λ (y : ℕ). xs ++ y ∷ ys) e));
              reuse_is = reuse_then (old ∷ []) (xs ++ s ∷ ys);
            }

    remove_step : Between n (moved_one (item Remove) place) rest (link_by n i Remove h old s) (chains reuse ++ old ∷ s ∷ [])
    unfolding goes_to
    remove_step = go stood
      where
        go : Seen (λ y. y) old (chains (head h)) → Between n (moved_one (item Remove) place) rest (link_by n i Remove h old s) (chains reuse ++ old ∷ s ∷ [])
        go (miss none) = absurd (none old (g.disjoint.owned.has (head h) old owned_old) refl)
        go (hit xs x ys d e none) =
            record {
              chains = with_chain (with_chain chains reuse (chains reuse ++ old ∷ s ∷ [])) (head h) (xs ++ ys);
              formed =
                  formed_alike (link_by n i Remove h old s) _ _ _ _
                  (owners_old n (item Remove) place rest ls alone lo (untaken s (inl refl)) (λ m. untaken old (inr m) refl)) refl
                  (formed_remove_by i _ chains n h s g z entry nobody xs old ys (d ∙ ap (λ (y : ℕ). xs ++ y ∷ ys) e));
              reuse_is = reuse_then (old ∷ s ∷ []) (xs ++ ys);
            }

step-by : (n : ℕ) (a : Action) (h old s : ℕ) (place : ℕ → Chain) (rest : List ℕ) (i : Index) (chains : Chain → List ℕ)
    → WellFormed i (freed (placed n place) (s ∷ rest)) chains → length i.next ≡ n + 1 → h < length i.heads → OldStands n place a h old
    → (In s rest → ⊥) → ((x : ℕ) → In x (s ∷ rest) → Slot n x × (place x ≡ reuse))
    → Between n (moved_one (record { action = a; key_head = h; old = old; slot = s }) place) rest (link_by n i a h old s) (chains reuse ++ appends_by a old s)
unfolding appends_by
step-by n (Write Insert) h old s place rest i chains g z l o alone taken = insert_step n h old s place rest i chains g z (taken s (inl refl)).0 alone l o
step-by n (Write Replace) h old s place rest i chains g z l o alone taken =
    replace_step n h old s place rest i chains g z (taken s (inl refl)).0 alone o.0 o.1 (λ x m. (taken x m).1)
step-by n Remove h old s place rest i chains g z l o alone taken =
    remove_step n h old s place rest i chains g z (taken s (inl refl)).0 alone o.0 o.1 (λ x m. (taken x m).1)

-- ---- all keys

-- the old slots of two keys differ
olds_apart : (n : ℕ) (place : ℕ → Chain) (a : Action) (h old : ℕ) (l : List ℕ) → OldStands n place a h old → Once (olds_by a old ++ l)
    → (y : ℕ) → In y l → 0 < y → y ≡ old → ⊥
unfolding olds_by
olds_apart n place (Write Insert) h old l e o y m k d = omega arith
olds_apart n place (Write Replace) h old l e o y m k d = o.0 (rw d at m)
olds_apart n place Remove h old l e o y m k d = o.0 (rw d at m)

olds_rest : (a : Action) (old : ℕ) (l : List ℕ) → Once (olds_by a old ++ l) → Once l
unfolding olds_by
olds_rest (Write Insert) old l o = o
olds_rest (Write Replace) old l o = o.1
olds_rest Remove old l o = o.1

-- an old slot is no slot taken from reuse
old_untaken : (n : ℕ) (place : ℕ → Chain) (a : Action) (h old x : ℕ) → OldStands n place a h old → 0 < x → place x ≡ reuse → x ≡ old → ⊥
old_untaken n place (Write Insert) h old x e k p d = omega arith
old_untaken n place (Write Replace) h old x e k p d = reuse_apart h (sym p ∙ ap place d ∙ e.1)
old_untaken n place Remove h old x e k p d = reuse_apart h (sym p ∙ ap place d ∙ e.1)

-- after a key's change the other keys' old slots stand where they stood
module _ (n b : ℕ) (place : ℕ → Chain) (k : Item) (p : place k.slot ≡ reuse) where
  still : (h old : ℕ) → (0 < old → old ≡ k.old → ⊥) → Slot n old × (place old ≡ head h) → Slot n old × (moved_one k place old ≡ head h)
  still h old ne e = (
    e.0,
    moved_else k place old (λ d. reuse_apart h (sym p ∙ ap place (sym d) ∙ e.1)) (ne e.0.0) ∙ e.1,
  )

  stands_on : (a : Action) (h old : ℕ) → ((y : ℕ) → In y (olds_by a old) → 0 < y → y ≡ k.old → ⊥)
      → OldStands n place a h old → OldStands n (moved_one k place) a h old
  unfolding olds_by
  stands_on (Write Insert) h old ne e = e
  stands_on (Write Replace) h old ne e = still h old (ne old (inl refl)) e
  stands_on Remove h old ne e = still h old (ne old (inl refl)) e

  ready_on : (ks : List Item) → ((y : ℕ) → In y (olds_of ks) → 0 < y → y ≡ k.old → ⊥) → All (Ready n b place) ks
      → All (Ready n b (moved_one k place)) ks
  unfolding olds_of
  ready_on [] ne none_left = none_left
  ready_on (j ∷ js) ne (one_more r rs) =
      one_more
      (record {
        head_in = r.head_in;
        stands =
            stands_on j.action j.key_head j.old (λ y m. ne y (in_left y (olds_by j.action j.old) (olds_of js) m)) r.stands;
      })
      (ready_on js (λ y m. ne y (in_right y (olds_by j.action j.old) (olds_of js) m)) rs)

first_ready : (n b : ℕ) (place : ℕ → Chain) (k : Item) (ks : List Item) → All (Ready n b place) (k ∷ ks) → Ready n b place k × All (Ready n b place) ks
first_ready n b place k ks (one_more r rs) = (r, rs)

linkable_on : (n b : ℕ) (place : ℕ → Chain) (k : Item) (ks : List Item) → Linkable n b place (k ∷ ks) → Linkable n b (moved_one k place) ks
unfolding item_slots olds_of
linkable_on n b place k ks l =
    let r = first_ready n b place k ks l.ready in
    record {
      slots_once = l.slots_once.1;
      slots-taken = λ x m.
          let q = l.slots-taken x (inr m) in (
            q.0,
            moved_else k place x (λ e. l.slots_once.0 (rw e at m))
                (old_untaken n place k.action k.key_head k.old x r.0.stands q.0.0 q.1) ∙ q.1,
          );
      ready =
          ready_on n b place k (l.slots-taken k.slot (inl refl)).1 ks
          (olds_apart n place k.action k.key_head k.old (olds_of ks) r.0.stands l.olds_once) r.1;
      olds_once = olds_rest k.action k.old (olds_of ks) l.olds_once;
    }

link-all : (n b : ℕ) (ks : List Item) (place : ℕ → Chain) (i : Index) (chains : Chain → List ℕ) → Linkable n b place ks
    → WellFormed i (freed (placed n place) (item_slots ks)) chains → length i.next ≡ n + 1 → length i.heads ≡ b
    → Between n (moved_by ks place) [] (link_all n i ks) (chains reuse ++ appends_of ks)
unfolding link_all item_slots moved_by appends_of
link-all n b [] place i chains l g z eb = record { chains = chains; formed = g; reuse_is = sym (append-nil (chains reuse)) }
link-all n b (k ∷ ks) place i chains l g z eb =
    let r = (first_ready n b place k ks l.ready).0 in
    let one : Between n (moved_one k place) (item_slots ks) (link_item n i k) (chains reuse ++ appends_by k.action k.old k.slot) =
    unfold link_item in step-by n k.action k.key_head k.old k.slot place (item_slots ks) i chains g z (rw eb r.head_in) r.stands
    l.slots_once.0 l.slots-taken in
    let more = link-all n b ks (moved_one k place) (link_item n i k) one.chains (linkable_on n b place k ks l) one.formed
    (link_item_next n i k ∙ z) (link_item_heads n i k ∙ eb) in
    record {
      chains = more.chains;
      formed = more.formed;
      reuse_is =
          more.reuse_is ∙ ap (λ (xs : List ℕ). xs ++ appends_of ks) one.reuse_is
          ∙ append_assoc (chains reuse) (appends_by k.action k.old k.slot) (appends_of ks);
    }

-- ---- the basket

-- an index whose slots stand in their places, with this reuse chain
pub record SitsWith (n b : ℕ) (place : ℕ → Chain) (i : Index) (reused : List ℕ) : Type 0 where
  pub chains : Chain → List ℕ
  pub sits : ChainsPartition n b place i chains
  pub reuse_is : chains reuse ≡ reused

-- all slots stand in their places again
sits_all : (n b : ℕ) (place place' : ℕ → Chain) (i : Index) (xs ys : List ℕ) → Between n place [] i xs → xs ≡ ys
    → ((x : ℕ) → 0 < x → x ≤ n → place' x ≡ place x) → length i.next ≡ n + 1 → length i.heads ≡ b → SitsWith n b place' i ys
sits_all n b place place' i xs ys t e same en eb =
    record {
      chains = t.chains;
      sits =
          record {
            formed =
                formed_alike i _ _ _ _
                (freed_none (placed n place) ∙ fun_ext (λ x. placed_same n place place' x (λ l m. sym (same x l m)))) refl t.formed;
            next_size = en;
            heads_size = eb;
          };
      reuse_is = t.reuse_is ∙ e;
    }

-- THE BASKET: its slots taken from the reuse chain, for keys whose old records stand in their chains; place' is where the slots stand after the moves
pub sits_basket : (n b : ℕ) (place : ℕ → Chain) (i : Index) (chains : Chain → List ℕ) → ChainsPartition n b place i chains
    → (may : ℕ → Bool) (wanted : ℕ) (ks : List Item) → item_slots ks ≡ taken_slots (takes_in may 0 wanted (chains reuse))
    → All (Ready n b place) ks → Once (olds_of ks)
    → (place' : ℕ → Chain) → ((x : ℕ) → 0 < x → x ≤ n → place' x ≡ moved_by ks place x)
    → SitsWith n b place' (basket_index n i (takes_in may 0 wanted (chains reuse)) ks)
    (filter (λ t. not (member (taken_slots (takes_in may 0 wanted (chains reuse))) t)) (chains reuse) ++ appends_of ks)
unfolding basket_index
sits_basket n b place i chains g may wanted ks e r o place' same =
    sits_all n b (moved_by ks place) place' _ _ _
    (link-all n b ks place (all_taken_of i (takes_in may 0 wanted (chains reuse))) _
    (record {
      slots_once = rw e (sits_taken_once n b place i chains g may wanted);
      slots-taken = rw e (sits_taken n b place i chains g may wanted);
      ready = r;
      olds_once = o;
    })
    (formed_alike (all_taken_of i (takes_in may 0 wanted (chains reuse))) _ _ _ _ (ap (freed (placed n place)) (sym e)) refl
    (sits_takes n b place i chains g may wanted)) (take_all_next _ _ ∙ g.next_size) (take_all_heads _ _ ∙ g.heads_size))
    (ap (λ (xs : List ℕ). xs ++ appends_of ks) (with_same chains reuse _)) same (basket_next n i _ ks ∙ g.next_size) (basket_heads n i _ ks ∙ g.heads_size)
