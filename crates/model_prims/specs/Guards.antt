-- The guard of each primitive (ACL2's manual, topic GUARD).
use Rattle.std.specs.Prelude.{Bool, true, not, ◌&&◌, ◌||◌, pos}
use Rattle.model_objects.specs.Object.{Object, Integer}
use Rattle.model_prims.specs.Kinds.{SymbolKind, is_integer, is_symbol, is_string, is_pair, is_natural, is_nil, same_object}
use Rattle.model_prims.specs.Lists.{is_true_list, is_alist}
use Rattle.model_prims.specs.declared.prim.Prim.{Prim}
use Rattle.model_prims.specs.declared.prim.Prim.TheVariants as prim
use Rattle.model_prims.specs.declared.prim.Recognizer.{Recognizer}
use Rattle.model_prims.specs.declared.prim.Recognizer.TheVariants as recognizer
use Rattle.model_prims.specs.declared.prim.Relation.{Relation}
use Rattle.model_prims.specs.declared.prim.Relation.TheVariants as relation
use Rattle.model_prims.specs.declared.prim.Arithmetic.{Arithmetic}
use Rattle.model_prims.specs.declared.prim.Arithmetic.TheVariants as arithmetic
use Rattle.model_prims.specs.declared.prim.Listing.{Listing}
use Rattle.model_prims.specs.declared.prim.Listing.TheVariants as listing
use Rattle.model_prims.specs.declared.prim.Naming.{Naming}
use Rattle.model_prims.specs.declared.prim.Naming.TheVariants as naming

abbrev pub are_integers : {S : Type 0} → Object S → Object S → Bool
are_integers x y = is_integer x && is_integer y

-- an integer, and one to divide it by
abbrev pub can_divide : {S : Type 0} → SymbolKind S → Object S → Object S → Bool
can_divide k x y = are_integers x y && not (same_object k y (Integer (pos 0)))

abbrev pub is_pair_or_nil : {S : Type 0} → SymbolKind S → Object S → Bool
is_pair_or_nil k x = is_pair x || is_nil k x

module _ {S : Type 0} (k : SymbolKind S) where
  unfoldable pub recognizer_guard : Recognizer → Object S → Bool
  recognizer_guard recognizer.Consp x = true
  recognizer_guard recognizer.Atom x = true
  recognizer_guard recognizer.Null x = true
  recognizer_guard recognizer.Not x = true
  recognizer_guard recognizer.Symbolp x = true
  recognizer_guard recognizer.Stringp x = true
  recognizer_guard recognizer.Integerp x = true
  recognizer_guard recognizer.Natp x = true
  recognizer_guard recognizer.Posp x = true
  recognizer_guard recognizer.Booleanp x = true
  recognizer_guard recognizer.TrueListp x = true
  recognizer_guard recognizer.Alistp x = true
  recognizer_guard recognizer.Endp x = is_pair_or_nil k x
  recognizer_guard recognizer.Zerop x = is_integer x
  recognizer_guard recognizer.Zp x = is_natural x
  recognizer_guard recognizer.Zip x = is_integer x

  unfoldable pub relation_guard : Relation → Object S → Object S → Bool
  relation_guard relation.Eq x y = is_symbol x || is_symbol y
  relation_guard relation.Eql x y = is_integer x || is_symbol x || is_integer y || is_symbol y
  relation_guard relation.Equal x y = true
  relation_guard relation.Below x y = are_integers x y
  relation_guard relation.Same x y = are_integers x y
  relation_guard relation.Different x y = are_integers x y
  relation_guard relation.Implies x y = true
  relation_guard relation.Iff x y = true

  unfoldable pub arithmetic_guard : Arithmetic → Object S → Object S → Bool
  arithmetic_guard arithmetic.Plus x y = are_integers x y
  arithmetic_guard arithmetic.Times x y = are_integers x y
  arithmetic_guard arithmetic.Minus x y = is_integer x
  arithmetic_guard arithmetic.Nfix x y = true
  arithmetic_guard arithmetic.Ifix x y = true
  arithmetic_guard arithmetic.Abs x y = is_integer x
  arithmetic_guard arithmetic.Min x y = are_integers x y
  arithmetic_guard arithmetic.Max x y = are_integers x y
  arithmetic_guard arithmetic.Floor x y = can_divide k x y
  arithmetic_guard arithmetic.Mod x y = can_divide k x y
  arithmetic_guard arithmetic.Truncate x y = can_divide k x y
  arithmetic_guard arithmetic.Rem x y = can_divide k x y
  arithmetic_guard arithmetic.Expt x y = is_integer x && is_natural y
  arithmetic_guard arithmetic.Ash x y = are_integers x y
  arithmetic_guard arithmetic.Lognot x y = is_integer x
  arithmetic_guard arithmetic.Logand x y = are_integers x y
  arithmetic_guard arithmetic.Logior x y = are_integers x y
  arithmetic_guard arithmetic.Logxor x y = are_integers x y

  unfoldable pub listing_guard : Listing → Object S → Object S → Object S → Bool
  listing_guard listing.Car x y z = is_pair_or_nil k x
  listing_guard listing.Cdr x y z = is_pair_or_nil k x
  listing_guard listing.Cons x y z = true
  listing_guard listing.Len x y z = true
  listing_guard listing.Length x y z = is_true_list k x || is_string x
  listing_guard listing.Nth x y z = is_natural x && is_true_list k y
  listing_guard listing.UpdateNth x y z = is_natural x && is_true_list k z
  listing_guard listing.Append x y z = is_true_list k x
  listing_guard listing.Revappend x y z = is_true_list k x
  listing_guard listing.Member x y z = is_true_list k y
  listing_guard listing.Assoc x y z = is_alist k y
  listing_guard listing.Union x y z = is_true_list k x && is_true_list k y

  unfoldable pub naming_guard : Naming → Object S → Object S → Bool
  naming_guard naming.SymbolName x y = is_symbol x
  naming_guard naming.SymbolPackageName x y = is_symbol x
  naming_guard naming.Intern x y = is_string x && is_symbol y
  naming_guard naming.StringAppend x y = is_string x && is_string y

  -- whether the primitive may be called on these arguments
  unfoldable pub guard : Prim → Object S → Object S → Object S → Bool
  guard (prim.Recognizer r) x y z = recognizer_guard r x
  guard (prim.Relation r) x y z = relation_guard r x y
  guard (prim.Arithmetic a) x y z = arithmetic_guard a x y
  guard (prim.Listing l) x y z = listing_guard l x y z
  guard (prim.Naming n) x y z = naming_guard n x y
  guard prim.TheCheck x y z = not (is_nil k x)
