-- Pairs by their keys.
use Rattle.std.specs.Prelude.{◌≡◌, ℕ, ◌<◌, true, false, List, [], ◌∷◌, ◌++◌, length, Some, None, slice_get, refl}
use Rattle.std.proofs.Common.{sym, ap, ◌∙◌, arith, subst, append_assoc}
use Rattle.std.proofs.lemmas.List.{append-nil}
use Rattle.model_objects.specs.Object.{Object}
use Rattle.model_prims.specs.Kinds.{by_number, same_object}
use Rattle.model_lists.specs.Lists.{Pairs, pairs_of, value_at, without_key}
use Rattle.acl_lists.specs.declared.cell.ListId.{ListId}
use Rattle.acl_lists.specs.declared.cell.Cell.{Cell}
use Rattle.acl_lists.specs.declared.cell.Cell.TheVariants as cell
use Rattle.acl_lists.specs.declared.keys.Entry.{Entry}
use Rattle.acl_lists.specs.Tables.{list_at, IsTable, Grown}
use Rattle.acl_lists.specs.Pairs.{scalar_at, pair_at, pairs_at, keys_of, AllEntriesIn}
use Rattle.acl_lists.proofs.TableLemmas.{value_seen, no_pairs_seen, pair_seen, end_seen, item_seen, list_later, grown_then}

-- ---- the newest pair

pub pairs_value : (cs : List Cell) (n : ListId) (o : Object ℕ) → IsTable cs → slice_get cs n.0 ≡ Some (cell.Value o) → pairs_of (list_at cs n) ≡ []
pairs_value cs n o t e = ap pairs_of (value_seen cs n o t e)

pub pairs_none : (cs : List Cell) (n : ListId) → IsTable cs → slice_get cs n.0 ≡ Some cell.NoPairs → pairs_of (list_at cs n) ≡ []
pairs_none cs n t e = ap pairs_of (no_pairs_seen cs n t e)

pub pairs_pair : (cs : List Cell) (n key value older : ListId) → IsTable cs → slice_get cs n.0 ≡ Some (cell.Pair key value older)
    → pairs_of (list_at cs n) ≡ (scalar_at cs key, scalar_at cs value) ∷ pairs_of (list_at cs older)
pairs_pair cs n key value older t e = ap pairs_of (pair_seen cs n key value older t e)

pub pairs_end : (cs : List Cell) (n : ListId) → IsTable cs → slice_get cs n.0 ≡ Some cell.End → pairs_of (list_at cs n) ≡ []
pairs_end cs n t e = ap pairs_of (end_seen cs n t e)

pub pairs_item : (cs : List Cell) (n first rest : ListId) → IsTable cs → slice_get cs n.0 ≡ Some (cell.Item first rest) → pairs_of (list_at cs n) ≡ []
pairs_item cs n first rest t e = ap pairs_of (item_seen cs n first rest t e)

pub pair_below : (cs : List Cell) (n key value older : ListId) → IsTable cs → slice_get cs n.0 ≡ Some (cell.Pair key value older) → (key.0 < n.0) × (value.0 < n.0) × (older.0 < n.0)
pair_below cs n key value older t e = t.over n.0 (cell.Pair key value older) e

-- ---- a key that is looked for

found : (key : Object ℕ) (all older : List (Object ℕ × Object ℕ)) (p : Object ℕ × Object ℕ) → all ≡ p ∷ older → same_object by_number key p.0 ≡ true → value_at by_number key all ≡ Some p.1
found key all older p e s = rw (e, s) refl

further : (key : Object ℕ) (all older : List (Object ℕ × Object ℕ)) (p : Object ℕ × Object ℕ) → all ≡ p ∷ older → same_object by_number key p.0 ≡ false → value_at by_number key all ≡ value_at by_number key older
further key all older p e s = rw (e, s) refl

pub value_found : (cs : List Cell) (key : Object ℕ) (first all older : List (Object ℕ × Object ℕ)) (e : Entry) → value_at by_number key all ≡ value_at by_number key first → all ≡ pair_at cs e ∷ older
    → same_object by_number key (scalar_at cs e.key) ≡ true → Some (scalar_at cs e.value) ≡ value_at by_number key first
value_found cs key first all older e h is s = sym (found key all older (pair_at cs e) is s) ∙ h

pub value_further : (cs : List Cell) (key : Object ℕ) (first all older : List (Object ℕ × Object ℕ)) (e : Entry) → value_at by_number key all ≡ value_at by_number key first → all ≡ pair_at cs e ∷ older
    → same_object by_number key (scalar_at cs e.key) ≡ false → value_at by_number key older ≡ value_at by_number key first
value_further cs key first all older e h is s = sym (further key all older (pair_at cs e) is s) ∙ h

pub value_missing : (key : Object ℕ) (first all : List (Object ℕ × Object ℕ)) → value_at by_number key all ≡ value_at by_number key first → all ≡ [] → None ≡ value_at by_number key first
value_missing key first all h e = sym (ap (value_at by_number key) e) ∙ h

-- ---- the other pairs

all_last : (cs : List Cell) (es : List Entry) (e : Entry) → AllEntriesIn cs es → e.key.0 < length cs → e.value.0 < length cs → AllEntriesIn cs (es ++ e ∷ [])
all_last cs [] e a k v = ((k, v), tt)
all_last cs (d ∷ es) e a k v = (a.0, all_last cs es e a.1 k v)

all_but_last : (cs : List Cell) (es : List Entry) (e : Entry) → AllEntriesIn cs (es ++ e ∷ []) → AllEntriesIn cs es × (e.key.0 < length cs) × (e.value.0 < length cs)
all_but_last cs [] e a = (tt, a.0.0, a.0.1)
all_but_last cs (d ∷ es) e a = let r = all_but_last cs es e a.1 in ((a.0, r.0), r.1, r.2)

pairs_last : (cs : List Cell) (es : List Entry) (e : Entry) (ps : List (Object ℕ × Object ℕ)) → pairs_at cs (es ++ e ∷ []) ++ ps ≡ pairs_at cs es ++ pair_at cs e ∷ ps
pairs_last cs [] e ps = refl
pairs_last cs (d ∷ es) e ps = ap (λ qs. pair_at cs d ∷ qs) (pairs_last cs es e ps)

-- the pairs that are kept, and those that are left
pub record OthersSoFar (cs : List Cell) (key : Object ℕ) (list at : ListId) (kept : List Entry) : Type 0 where
  pub at_in : at.0 < length cs
  pub kept_in : AllEntriesIn cs kept
  pub same : pairs_at cs kept ++ without_key by_number key (pairs_of (list_at cs at)) ≡ without_key by_number key (pairs_of (list_at cs list))

pub others_start : (cs : List Cell) (key : Object ℕ) (list : ListId) → list.0 < length cs → OthersSoFar cs key list list []
others_start cs key list l = record { at_in = l; kept_in = tt; same = refl }

pub others_whole : (cs : List Cell) (key : Object ℕ) (list at : ListId) (kept : List Entry) → OthersSoFar cs key list at kept → pairs_of (list_at cs at) ≡ []
    → pairs_at cs kept ≡ without_key by_number key (pairs_of (list_at cs list))
others_whole cs key list at kept s e =
    sym (append-nil (pairs_at cs kept)) ∙ (ap (λ ps. pairs_at cs kept ++ without_key by_number key ps) (sym e) ∙ s.same)

-- ---- pairs that are put

scalar_later : (old new : List Cell) (n : ListId) → Grown old new → n.0 < length old → scalar_at new n ≡ scalar_at old n
scalar_later old new n g l = rw (list_later old new n g l) refl

pub record PairsSoFar (start now : List Cell) (left : List Entry) (at : ListId) (all : List (Object ℕ × Object ℕ)) : Type 0 where
  pub grown : Grown start now
  pub left_in : AllEntriesIn start left
  pub at_in : at.0 < length now
  pub put : List (Object ℕ × Object ℕ)
  pub is : list_at now at ≡ Pairs put
  pub same : pairs_at start left ++ put ≡ all

pub pairs_start : (start now : List Cell) (left : List Entry) (at : ListId) → AllEntriesIn start left → Grown start now → at.0 < length now → list_at now at ≡ Pairs [] → PairsSoFar start now left at (pairs_at start left)
pairs_start start now left at a g l e = record { grown = g; left_in = a; at_in = l; put = []; is = e; same = append-nil (pairs_at start left) }

pub pairs_key : (start now : List Cell) (before left : List Entry) (e : Entry) (at : ListId) (all : List (Object ℕ × Object ℕ)) → PairsSoFar start now before at all → before ≡ left ++ e ∷ [] → e.key.0 < length now
pairs_key start now before left e at all s b = let r = all_but_last start left e (subst (AllEntriesIn start) b s.left_in) in omega (arith, r.1, s.grown.longer)

pub pairs_value_in : (start now : List Cell) (before left : List Entry) (e : Entry) (at : ListId) (all : List (Object ℕ × Object ℕ)) → PairsSoFar start now before at all → before ≡ left ++ e ∷ [] → e.value.0 < length now
pairs_value_in start now before left e at all s b = let r = all_but_last start left e (subst (AllEntriesIn start) b s.left_in) in omega (arith, r.2, s.grown.longer)

pub pairs_at_in : (start now : List Cell) (left : List Entry) (at : ListId) (all : List (Object ℕ × Object ℕ)) → PairsSoFar start now left at all → at.0 < length now
pairs_at_in start now left at all s = s.at_in

pub pairs_grown : (start now : List Cell) (left : List Entry) (at : ListId) (all : List (Object ℕ × Object ℕ)) → PairsSoFar start now left at all → Grown start now
pairs_grown start now left at all s = s.grown

pub pairs_step : (start now new : List Cell) (before left : List Entry) (e : Entry) (at next : ListId) (all : List (Object ℕ × Object ℕ)) → PairsSoFar start now before at all → before ≡ left ++ e ∷ []
    → next.0 < length new → list_at new next ≡ Pairs ((scalar_at now e.key, scalar_at now e.value) ∷ pairs_of (list_at now at)) → Grown now new → PairsSoFar start new left next all
pairs_step start now new before left e at next all s b l is g =
    let r = all_but_last start left e (subst (AllEntriesIn start) b s.left_in) in
    record {
      grown = grown_then start now new s.grown g;
      left_in = r.0;
      at_in = l;
      put = pair_at start e ∷ s.put;
      is = is ∙ rw (scalar_later start now e.key s.grown r.1, scalar_later start now e.value s.grown r.2, s.is) refl;
      same = sym (pairs_last start left e s.put) ∙ (ap (λ es. pairs_at start es ++ s.put) (sym b) ∙ s.same);
    }

pub pairs_whole : (start now : List Cell) (left : List Entry) (at : ListId) (all : List (Object ℕ × Object ℕ)) → PairsSoFar start now left at all → left ≡ [] → list_at now at ≡ Pairs all
pairs_whole start now left at all s e = s.is ∙ ap Pairs (ap (λ es. pairs_at start es ++ s.put) (sym e) ∙ s.same)

-- ---- all keys

pub record KeysSoFar (cs : List Cell) (list at : ListId) (keys : List (Object ℕ)) : Type 0 where
  pub at_in : at.0 < length cs
  pub same : keys ++ keys_of (pairs_of (list_at cs at)) ≡ keys_of (pairs_of (list_at cs list))

pub keys_start : (cs : List Cell) (list : ListId) → list.0 < length cs → KeysSoFar cs list list []
keys_start cs list l = record { at_in = l; same = refl }

pub keys_step : (cs : List Cell) (list at older : ListId) (keys more : List (Object ℕ)) (e : Entry) (key : Object ℕ) → KeysSoFar cs list at keys → pairs_of (list_at cs at) ≡ pair_at cs e ∷ pairs_of (list_at cs older)
    → older.0 < at.0 → key ≡ scalar_at cs e.key → more ≡ keys ++ key ∷ [] → KeysSoFar cs list older more
keys_step cs list at older keys more e key s is l k m =
    rw (m, k) (record {
      at_in = omega (arith, l, s.at_in);
      same =
          append_assoc keys (scalar_at cs e.key ∷ []) (keys_of (pairs_of (list_at cs older)))
          ∙ (ap (λ ps. keys ++ keys_of ps) (sym is) ∙ s.same);
    })

pub keys_whole : (cs : List Cell) (list at : ListId) (keys : List (Object ℕ)) → KeysSoFar cs list at keys → pairs_of (list_at cs at) ≡ [] → keys ≡ keys_of (pairs_of (list_at cs list))
keys_whole cs list at keys s e = sym (append-nil keys) ∙ (ap (λ ps. keys ++ keys_of ps) (sym e) ∙ s.same)
