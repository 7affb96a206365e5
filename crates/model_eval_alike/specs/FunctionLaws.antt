-- What is said of the functions of a stobj on lists that stand for one stobj, as laws.
use Rattle.std.specs.Prelude.{ℕ, List}
use Rattle.std.specs.declared.cmp.Ordering.{Ordering}
use Rattle.model_objects.specs.Object.{Object}
use Rattle.model_prims.specs.Kinds.{SymbolKind}
use Rattle.model_lists.specs.Lists.{StobjList}
use Rattle.model_lists.specs.Layouts.{Layout, field_layout}
use Rattle.model_lists.specs.LiveLists.{HasFields, AreAlike}
use Rattle.model_lists_laws.specs.LiveListLaws.{AlikeEffects, KeepsFields, IsHashField}
use Rattle.model_terms.specs.declared.role.Role.{Role}
use Rattle.model_terms.specs.declared.role.Role.TheVariants as role
use Rattle.model_eval.specs.GeneratedCalls.{effect}

-- what is written suits the field; of all that write, clearing alone looks at no layout
abbrev pub SuitsRole : {S : Type 0} → Role → Layout S → Type 0
SuitsRole role.Recognizer layout = Unit {0}
SuitsRole role.Creator layout = Unit {0}
SuitsRole role.FieldRecognizer layout = Unit {0}
SuitsRole role.Access layout = Unit {0}
SuitsRole role.Update layout = Unit {0}
SuitsRole role.Length layout = Unit {0}
SuitsRole role.Resize layout = Unit {0}
SuitsRole role.HashGet layout = Unit {0}
SuitsRole role.HashBoundp layout = Unit {0}
SuitsRole role.HashGetBound layout = Unit {0}
SuitsRole role.HashPut layout = Unit {0}
SuitsRole role.HashRem layout = Unit {0}
SuitsRole role.HashCount layout = Unit {0}
SuitsRole role.HashClear layout = IsHashField layout

-- no function of a stobj tells lists apart that are alike, and what it writes has the fields of the layout
pub record FunctionsAreAlike {S : Type 0} (k : SymbolKind S) (names : S → S → Ordering) : Type 0 where
  pub effects : (role : Role) (layout : Layout S) (f : ℕ) (args : List (Object S)) (l m : StobjList S) → AreAlike names l m
      → AlikeEffects names (effect k role layout f args l) (effect k role layout f args m)
  pub fields : (role : Role) (whole : Layout S) (f : ℕ) (args : List (Object S)) (l : StobjList S)
      → SuitsRole role (field_layout f whole) → HasFields whole l
      → KeepsFields whole (effect k role (field_layout f whole) f args l)
