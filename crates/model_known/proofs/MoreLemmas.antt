-- More symbols.
use Rattle.std.specs.Prelude.{◌≤◌, ℕ, List, [], ◌∷◌}
use Rattle.std.proofs.Common.{arith}
use Rattle.model_objects.specs.Object.{Object, Integer, Symbol, Text, Pair}
use Rattle.model_objects.specs.Named.{Knows}
use Rattle.model_lists.specs.Lists.{StobjList, Value, Pairs, End, Item}
use Rattle.model_terms.specs.Worlds as worlds
use Rattle.model_eval.specs.Outcomes.{Stobjs}
use Rattle.model_known.specs.Known.{KnowsPairs, KnowsList, KnowsStobjs, KnowsLeft, KnowsShape, KnowsFields, KnowsStarts}
use Rattle.model_known.specs.Laws.{MoreAreKnown}

module _ (n m : ℕ) (l : n ≤ m) where
  object_more : (o : Object ℕ) → Knows n o → Knows m o
  object_more (Integer i) k = tt
  object_more (Symbol s) k = omega (arith, l, k)
  object_more (Text bytes) k = tt
  object_more (Pair a d) k = (object_more a k.0, object_more d k.1)

  pairs_more : (ps : List (Object ℕ × Object ℕ)) → KnowsPairs n ps → KnowsPairs m ps
  pairs_more [] k = tt
  pairs_more (p ∷ ps) k = ((object_more p.0 k.0.0, object_more p.1 k.0.1), pairs_more ps k.1)

  list_more : (x : StobjList ℕ) → KnowsList n x → KnowsList m x
  list_more (Value o) k = object_more o k
  list_more (Pairs ps) k = pairs_more ps k
  list_more End k = tt
  list_more (Item first rest) k = (list_more first k.0, list_more rest k.1)

  stobjs_more : (os : Stobjs ℕ) → KnowsStobjs n os → KnowsStobjs m os
  stobjs_more [] k = tt
  stobjs_more (o ∷ os) k = (list_more o.1 k.0, stobjs_more os k.1)

  left_more : (ks : List (Stobjs ℕ)) → KnowsLeft n ks → KnowsLeft m ks
  left_more [] k = tt
  left_more (o ∷ os) k = (stobjs_more o k.0, left_more os k.1)

  shape_more : (s : worlds.Shape) → KnowsShape n s → KnowsShape m s
  shape_more (worlds.Scalar written start) k = object_more start k
  shape_more (worlds.Array written start len resizable) k = object_more start k
  shape_more (worlds.Hash test) k = tt
  shape_more (worlds.Child stobj) k = tt
  shape_more (worlds.Children stobj len) k = tt

  fields_more : (fs : List worlds.Field) → KnowsFields n fs → KnowsFields m fs
  fields_more [] k = tt
  fields_more (f ∷ fs) k = (shape_more f.shape k.0, fields_more fs k.1)

  starts_more : (w : worlds.World) → KnowsStarts n w → KnowsStarts m w
  starts_more w k = record { each = λ x e d a b. fields_more d.fields (k.each x e d a b) }

pub more_known : MoreAreKnown
more_known = record {
  list = λ n m x l k. list_more n m l x k;
  stobjs = λ n m x l k. stobjs_more n m l x k;
  left = λ n m x l k. left_more n m l x k;
  starts = λ n m x l k. starts_more n m l x k;
}
