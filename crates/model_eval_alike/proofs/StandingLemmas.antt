-- The functions of a stobj on lists that stand for one stobj.
use Rattle.std.proofs.Common.{ℕ, List, refl}
use Rattle.std.specs.Ordering.{nat_cmp}
use Rattle.std.specs.declared.cmp.Ordering.{Ordering}
use Rattle.model_objects.specs.Object.{Object}
use Rattle.model_prims.specs.Kinds.{SymbolKind, by_name, by_number}
use Rattle.model_lists.specs.Lists.{StobjList}
use Rattle.model_lists.specs.Layouts.{Layout, field_layout}
use Rattle.model_lists.specs.Normal.{name_cmp}
use Rattle.model_lists.specs.LiveLists.{HasFields, AreAlike}
use Rattle.model_lists_laws.specs.LiveListLaws.{AlikeEffects, KeepsFields, ListsAreReadAlike}
use Rattle.model_lists_laws.proofs.AlikeLemmas.{named_alike, numbered_alike}
use Rattle.model_lists_laws.proofs.KeptFields.{writes_keep_fields}
use Rattle.model_terms.specs.declared.role.Role.{Role}
use Rattle.model_terms.specs.declared.role.Role.TheVariants as role
use Rattle.model_eval.specs.GeneratedCalls.{effect}
use Rattle.model_eval_alike.specs.FunctionLaws.{SuitsRole, FunctionsAreAlike}

effects_alike : {S : Type 0} (k : SymbolKind S) (names : S → S → Ordering) → ListsAreReadAlike k names → (r : Role) (layout : Layout S) (f : ℕ) (args : List (Object S)) (l m : StobjList S) → AreAlike names l m
    → AlikeEffects names (effect k r layout f args l) (effect k r layout f args m)
unfolding effect
effects_alike k names a role.Recognizer layout f args l m h = refl
effects_alike k names a role.Creator layout f args l m h = tt
effects_alike k names a role.FieldRecognizer layout f args l m h = refl
effects_alike k names a role.Access layout f args l m h = a.accessed layout f args l m h
effects_alike k names a role.Update layout f args l m h = a.changed layout f args l m h
effects_alike k names a role.Length layout f args l m h = a.measured f l m h
effects_alike k names a role.Resize layout f args l m h = a.lengthened layout f args l m h
effects_alike k names a role.HashGet layout f args l m h = a.hash_read layout f args l m h
effects_alike k names a role.HashBoundp layout f args l m h = a.hash_bound layout f args l m h
effects_alike k names a role.HashGetBound layout f args l m h = a.hash_looked_up layout f args l m h
effects_alike k names a role.HashPut layout f args l m h = a.hash_put layout f args l m h
effects_alike k names a role.HashRem layout f args l m h = a.hash_removed layout f args l m h
effects_alike k names a role.HashCount layout f args l m h = a.hash_counted f l m h
effects_alike k names a role.HashClear layout f args l m h = a.hash_cleared f l m h

effects_keep : {S : Type 0} (k : SymbolKind S) (r : Role) (whole : Layout S) (f : ℕ) (args : List (Object S)) (l : StobjList S)
    → SuitsRole r (field_layout f whole) → HasFields whole l
    → KeepsFields whole (effect k r (field_layout f whole) f args l)
unfolding effect
effects_keep k role.Recognizer whole f args l s h = tt
effects_keep k role.Creator whole f args l s h = tt
effects_keep k role.FieldRecognizer whole f args l s h = tt
effects_keep k role.Access whole f args l s h = (writes_keep_fields k).accessed (field_layout f whole) f args whole l
effects_keep k role.Update whole f args l s h = (writes_keep_fields k).changed (field_layout f whole) f args whole l refl h
effects_keep k role.Length whole f args l s h = (writes_keep_fields k).measured f whole l
effects_keep k role.Resize whole f args l s h = (writes_keep_fields k).lengthened (field_layout f whole) f args whole l refl h
effects_keep k role.HashGet whole f args l s h = (writes_keep_fields k).hash_read (field_layout f whole) f args whole l
effects_keep k role.HashBoundp whole f args l s h = (writes_keep_fields k).hash_bound (field_layout f whole) f args whole l
effects_keep k role.HashGetBound whole f args l s h = (writes_keep_fields k).hash_looked_up (field_layout f whole) f args whole l
effects_keep k role.HashPut whole f args l s h = (writes_keep_fields k).hash_put (field_layout f whole) f args whole l refl h
effects_keep k role.HashRem whole f args l s h = (writes_keep_fields k).hash_removed (field_layout f whole) f args whole l refl h
effects_keep k role.HashCount whole f args l s h = (writes_keep_fields k).hash_counted f whole l
effects_keep k role.HashClear whole f args l s h = (writes_keep_fields k).hash_cleared (field_layout f whole) f whole l refl s h

pub named_functions : FunctionsAreAlike by_name name_cmp
named_functions = record { effects = effects_alike by_name name_cmp named_alike; fields = effects_keep by_name }

pub numbered_functions : FunctionsAreAlike by_number nat_cmp
numbered_functions = record { effects = effects_alike by_number nat_cmp numbered_alike; fields = effects_keep by_number }
